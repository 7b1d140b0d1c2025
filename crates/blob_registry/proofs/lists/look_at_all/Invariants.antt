use Rattle.std.proofs.Common.{take, ℕ}
use Rattle.blob_registry.specs.Lists.{PutOn}
use Rattle.blob_registry.proofs.lists.look_at_all.Given as goal

abbrev pub invariant-loop-number : goal.invariant-loop-number
invariant-loop-number l = PutOn (λ (n : ℕ). n) l.fn.looks l.looks (take l.number-index l.numbers)
