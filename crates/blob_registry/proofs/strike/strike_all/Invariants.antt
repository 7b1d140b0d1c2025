use Rattle.std.proofs.Common.{take}
use Rattle.blob_registry.specs.Lists.{Strikes}
use Rattle.blob_registry.proofs.strike.strike_all.Given as goal

abbrev pub invariant-loop-source : goal.invariant-loop-source
invariant-loop-source l = Strikes l.fn.lists.items l.lists.items l.number (take l.source-index l.sources)
