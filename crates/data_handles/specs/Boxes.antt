-- A table of boxed objects, given what a box is seen as.
use Rattle.data_handles.specs.Handles.{Handle}
use Rattle.data_handles.specs.Table.{Table}
use Rattle.data_handles.specs.Slots.{of_slots}
use Rattle.data_handles.specs.declared.boxed.Boxed.{Boxed}
use Rattle.data_handles.specs.declared.table.HandleTable.{HandleTable}

-- a type that holds a `dyn` takes two arguments for it
abbrev pub of_table : {V : Type 0} {D : V → Type 0} → (Boxed V D → Handle) → HandleTable V D → Table
of_table seen table = of_slots seen table.slots
