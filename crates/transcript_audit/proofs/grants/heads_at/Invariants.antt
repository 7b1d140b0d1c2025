use Rattle.std.proofs.Common.{◌≡◌, take, map}
use Rattle.history_notions.specs.Chosen.{items_at}
use Rattle.transcript_audit.specs.Owed.{head}
use Rattle.transcript_audit.proofs.grants.heads_at.Given as goal

abbrev pub invariant-loop-place : goal.invariant-loop-place
invariant-loop-place l = l.heads ≡ map head (items_at l.builds (take l.place-index l.places))
