-- What a slot with some kind of object is seen as, given what such an object is seen as.
use Rattle.std.specs.Prelude.{map}
use Rattle.std.specs.Option.{option_map}
use Rattle.data_handles.specs.Handles.{Handle}
use Rattle.data_handles.specs.Table.{Slot, Table}
use Rattle.data_handles.specs.declared.place.Place.{Place}
use Rattle.data_handles.specs.declared.slots.Slots.{Slots}

abbrev pub slot_of : {H : Type 0} → (H → Handle) → Place H → Slot
slot_of seen place = record { is_claimed = place.is_claimed; object = option_map seen place.object }

abbrev pub of_slots : {H : Type 0} → (H → Handle) → Slots H → Table
of_slots seen table = record { slots = map (slot_of seen) table.slots.items; past = table.past }
