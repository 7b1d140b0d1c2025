use Rattle.std.proofs.Common.{◌≡◌, take, length}
use Rattle.blob_registry.specs.Lists.{AreEntered}
use Rattle.blob_registry.proofs.strike.enter_all.Given as goal

abbrev pub invariant-loop-source : goal.invariant-loop-source
invariant-loop-source l = record {
  long : length l.lists.items ≡ length l.fn.lists.items;
  entered : AreEntered l.fn.lists.items l.lists.items l.number (take l.source-index l.sources);
}
