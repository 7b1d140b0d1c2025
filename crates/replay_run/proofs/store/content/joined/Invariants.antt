use Rattle.std.proofs.Common.{◌≡◌, take, flat_map}
use Rattle.replay_run.specs.Builds.{part_bytes}
use Rattle.replay_run.proofs.store.content.joined.Given as goal

abbrev pub invariant-loop-part : goal.invariant-loop-part
invariant-loop-part l = l.bytes ≡ flat_map part_bytes (take l.part-index l.parts)
