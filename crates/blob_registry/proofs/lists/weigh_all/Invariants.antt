use Rattle.std.proofs.Common.{take}
use Rattle.blob_registry.specs.Lists.{turned, PutOn}
use Rattle.blob_registry.proofs.lists.weigh_all.Given as goal

abbrev pub invariant-loop-number : goal.invariant-loop-number
invariant-loop-number l = PutOn turned l.fn.weighs l.weighs (take l.number-index l.numbers)
