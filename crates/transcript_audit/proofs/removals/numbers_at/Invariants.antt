use Rattle.std.proofs.Common.{◌≡◌, take, map}
use Rattle.history_notions.specs.Chosen.{items_at}
use Rattle.transcript_audit.specs.Owed.{number_of}
use Rattle.transcript_audit.proofs.removals.numbers_at.Given as goal

abbrev pub invariant-loop-place : goal.invariant-loop-place
invariant-loop-place l = l.numbers ≡ map number_of (items_at l.pages (take l.place-index l.places))
