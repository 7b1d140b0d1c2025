use Rattle.std.proofs.Common.{◌≡◌, take, map}
use Rattle.std.specs.Prelude.{filter}
use Rattle.history_notions.specs.Chosen.{items_at}
use Rattle.transcript_audit.specs.Owed.{dropped, is_lost}
use Rattle.transcript_audit.proofs.drops.lost.Given as goal

abbrev pub invariant-loop-build : goal.invariant-loop-build
invariant-loop-build l = l.found ≡ map dropped (filter (is_lost l.endings (items_at l.builds l.places)) (take l.build-index l.builds))
