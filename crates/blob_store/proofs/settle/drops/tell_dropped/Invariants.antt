use Rattle.std.proofs.Common.{◌≡◌, ◌++◌, map, take}
use Rattle.answer_text.specs.declared.answer.Answer.TheVariants as answers
use Rattle.blob_store.proofs.settle.drops.tell_dropped.Given as goal

abbrev pub invariant-loop-name : goal.invariant-loop-name
invariant-loop-name l = l.answers ≡ l.fn.answers ++ map (λ name. answers.Dropped name) (take l.name-index l.dropped)
