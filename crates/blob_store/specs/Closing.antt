-- What the end of a store leaves of its data handles: no claimed slot holds an object. Own.
use Rattle.std.specs.Prelude.{◌≡◌, map, if◌then◌else◌}
use Rattle.data_handles.specs.Table.{count_of, emptied, Slot, Table}

-- a slot whose object was dropped, if it was claimed
abbrev pub let_go : Slot → Slot
let_go slot = if slot.is_claimed then emptied slot else slot

-- the objects in claimed slots were dropped, and their counts stay in the table's
pub record LetsGo (old new : Table) : Type 0 where
  pub slots : new.slots ≡ map let_go old.slots
  pub count : count_of new ≡ count_of old
