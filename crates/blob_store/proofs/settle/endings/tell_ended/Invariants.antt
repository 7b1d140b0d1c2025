use Rattle.std.proofs.Common.{◌≡◌, ◌++◌, map, take}
use Rattle.registry_laws.specs.Laws.{ending_answer}
use Rattle.blob_store.proofs.settle.endings.tell_ended.Given as goal

abbrev pub invariant-loop-end : goal.invariant-loop-end
invariant-loop-end l = l.answers ≡ l.fn.answers ++ map ending_answer (take l.end-index l.ended)
