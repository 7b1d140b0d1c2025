-- A table of such objects in slots. Own.
use Rattle.std.specs.Prelude.{ℕ, ◌≡◌, ◌≢◌, ◌+◌, ◌≤◌, Bool, true, false, List, length, map, slice_get, slice_set, sum_by, Option, Some, None, option_and_then}
use Rattle.std.specs.Option.{option_map, option_map_or}
use Rattle.data_handles.specs.Handles.{with_faults, Handle}
use Rattle.data_handles.specs.declared.fault.SlotFault.{SlotFault}
use Rattle.data_handles.specs.declared.fault.SlotFault.TheVariants.{NoSuch, Claimed}

-- a slot: whether it was claimed, and the object that it holds
pub record Slot : Type 0 where
  pub is_claimed : Bool
  pub object : Option Handle

-- the slots, and the counts of the objects that were dropped, summed
pub record Table : Type 0 where
  pub slots : List Slot
  pub past : ℕ

-- the slot of a number
abbrev pub slot_at : Table → ℕ → Option Slot
slot_at table k = slice_get table.slots k

-- the object in a slot
abbrev pub object_at : Table → ℕ → Option Handle
object_at table k = option_and_then (λ slot. slot.object) (slot_at table k)

-- whether a slot was claimed
abbrev pub is_claimed_at : Table → ℕ → Bool
is_claimed_at table k = option_map_or (λ slot. slot.is_claimed) (slot_at table k) false

-- the count of the object in a slot
abbrev pub faults_at : Table → ℕ → ℕ
faults_at table k = option_map_or (λ handle. handle.faults) (object_at table k) 0

-- the count of a slot's object
abbrev pub slot_faults : Slot → ℕ
slot_faults slot = option_map_or (λ handle. handle.faults) slot.object 0

-- the count of the table: it outlives the objects
abbrev pub count_of : Table → ℕ
count_of table = table.past + sum_by slot_faults table.slots

-- a new table of objects, none of them claimed
abbrev pub new_table : List Handle → Table
new_table handles = record { slots = map (λ handle. record { is_claimed = false; object = Some handle }) handles; past = 0 }

-- the slots, of which one is changed
abbrev pub changed_at : (Slot → Slot) → Table → ℕ → List Slot
changed_at change table k = option_map_or (λ slot. slice_set table.slots k (change slot)) (slot_at table k) table.slots

-- a slot that was claimed
abbrev pub claimed : Slot → Slot
claimed slot = record slot { is_claimed = true }

-- a slot whose object was dropped
abbrev pub emptied : Slot → Slot
emptied slot = record slot { object = None }

-- a slot whose object has another count
abbrev pub counted : ℕ → Slot → Slot
counted faults slot = record slot { object = option_map (λ handle. with_faults handle faults) slot.object }

-- the slot of a number was claimed
abbrev pub claimed_at : Table → ℕ → Table
claimed_at table k = record table { slots = changed_at claimed table k }

-- the object in a slot was dropped; its count stays in the table's
abbrev pub released_at : Table → ℕ → Table
released_at table k = record { slots = changed_at emptied table k; past = table.past + faults_at table k }

-- the object in a slot has another count
abbrev pub counted_at : Table → ℕ → ℕ → Table
counted_at table k faults = record table { slots = changed_at (counted faults) table k }

-- each slot but one is as it was, and there are as many
abbrev pub KeepsOthers : ℕ → Table → Table → Type 0
KeepsOthers k old new = (length new.slots ≡ length old.slots) × ((other : ℕ) → other ≢ k → slot_at new other ≡ slot_at old other)

-- when a slot can't be claimed
abbrev pub SlotFaultAt : Table → ℕ → SlotFault → Type 0
SlotFaultAt table k NoSuch = length table.slots ≤ k
SlotFaultAt table k Claimed = is_claimed_at table k ≡ true
