use Rattle.std.proofs.Common.{◌≡◌, false, length, map, Some, vec_len}
use Rattle.data_handles.specs.Slots.{slot_of}
use Rattle.data_handles.proofs.slots.Slots.new.Given as goal

-- a slot for each object so far
abbrev pub invariant-loop-object : goal.invariant-loop-object
invariant-loop-object g l = record {
  seen : map (slot_of g.H.DataHandle.seen) l.slots.items ≡ map (λ handle. record { is_claimed = false; object = Some handle })
      (map g.H.DataHandle.seen l.yielded);
  as_many : vec_len l.slots ≡ length l.yielded;
}
