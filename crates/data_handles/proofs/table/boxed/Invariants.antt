use Rattle.std.proofs.Common.{◌≡◌, map}
use Rattle.data_handles.proofs.table.boxed.Given as goal

-- a box for each object so far
abbrev pub invariant-loop-object : goal.invariant-loop-object
invariant-loop-object g l =
    map (λ boxed. (goal.DataHandle-dyn g (boxed.object.vtable, boxed.object.value)).seen boxed.object.value) l.boxes.items
    ≡ map (λ object. (goal.DataHandle-dyn g (object.vtable, object.value)).seen object.value) l.yielded
