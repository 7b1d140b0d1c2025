use Rattle.std.proofs.Common.{◌≡◌, drop}
use Rattle.transcript_audit.specs.Tests.{same_answers}
use Rattle.transcript_audit.proofs.same.are_same.Given as goal

abbrev pub invariant-loop-place : goal.invariant-loop-place
invariant-loop-place l = same_answers l.list l.wanted ≡ same_answers (drop l.place l.list) (drop l.place l.wanted)
