use Rattle.std.proofs.Common.{◌≡◌, ◌≤◌, take, length}
use Rattle.history_notions.specs.Chosen.{items_at}
use Rattle.transcript_audit.proofs.stands.count_at.Given as goal

abbrev pub invariant-loop-place : goal.invariant-loop-place
invariant-loop-place l = (l.count ≡ length (items_at l.builds (take l.place-index l.places))) × (l.count ≤ l.place-index)
