use Rattle.std.proofs.Common.{arith}
use Rattle.blob_words.proofs.limits.Limits.new.Goals as goal

pub invariant_of-result-clause-some_memory : goal.invariant_of-result-clause-some_memory
invariant_of-result-clause-some_memory c = omega (arith, c.in_default.ensures.none)
