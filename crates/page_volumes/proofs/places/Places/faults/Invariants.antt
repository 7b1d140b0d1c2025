use Rattle.std.proofs.Common.{◌≡◌, ◌*◌, ◌^◌, ◌≤◌, take, sum_by}
use Rattle.page_volumes.specs.Group.{slot_count}
use Rattle.page_volumes.specs.Plain.{slot_of}
use Rattle.page_volumes.proofs.places.Places.faults.Given as goal

-- the counts of the places so far, which stay small enough
abbrev pub invariant-loop-place : goal.invariant-loop-place
invariant-loop-place g l = record {
  value : l.count ≡ sum_by (λ place. slot_count (slot_of g.V.Volume.seen place)) (take l.place-index l.self.items.items);
  small : l.count ≤ 2 ^ 64 * l.place-index;
}
