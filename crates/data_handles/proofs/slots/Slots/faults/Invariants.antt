use Rattle.std.proofs.Common.{◌≡◌, ◌+◌, ◌*◌, ◌^◌, ◌≤◌, take, sum_by}
use Rattle.data_handles.specs.Table.{slot_faults}
use Rattle.data_handles.specs.Slots.{slot_of}
use Rattle.data_handles.proofs.slots.Slots.faults.Given as goal

-- the counts of the places so far, which stay small enough
abbrev pub invariant-loop-place : goal.invariant-loop-place
invariant-loop-place g l = record {
  value : l.count ≡ l.self.past + sum_by (λ place. slot_faults (slot_of g.H.DataHandle.seen place)) (take l.place-index l.self.slots.items);
  small : l.count ≤ l.self.past + 2 ^ 64 * l.place-index;
}
