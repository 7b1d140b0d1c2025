use Rattle.std.proofs.Common.{◌≡◌, length, map, vec_len}
use Rattle.page_volumes.specs.Group.{new_slots}
use Rattle.page_volumes.specs.Plain.{slots_of}
use Rattle.page_volumes.proofs.places.Places.new.Given as goal

-- a place for each volume so far
abbrev pub invariant-loop-volume : goal.invariant-loop-volume
invariant-loop-volume g l = record {
  seen : slots_of g.V.Volume.seen l.items.items ≡ new_slots (map g.V.Volume.seen l.yielded);
  as_many : vec_len l.items ≡ length l.yielded;
}
