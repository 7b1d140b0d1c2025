use Rattle.std.proofs.Common.{◌≡◌, ◌++◌}
use Rattle.transcript_audit.proofs.giving.put_all.Given as goal

abbrev pub invariant-loop-answer : goal.invariant-loop-answer
invariant-loop-answer l = l.owed ≡ l.initial.owed ++ l.yielded
