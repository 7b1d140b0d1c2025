use Rattle.std.proofs.Common.{◌≡◌, map}
use Rattle.page_volumes.proofs.volumes.boxed.Given as goal

-- a box for each volume so far
abbrev pub invariant-loop-volume : goal.invariant-loop-volume
invariant-loop-volume g l =
    map (λ boxed. (goal.Volume-dyn g (boxed.object.vtable, boxed.object.value)).seen boxed.object.value) l.boxes.items
    ≡ map (λ object. (goal.Volume-dyn g (object.vtable, object.value)).seen object.value) l.yielded
