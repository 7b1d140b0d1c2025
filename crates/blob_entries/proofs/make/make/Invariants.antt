use Rattle.std.proofs.Common.{drop}
use Rattle.std.specs.List.{AllByRecursion}
use Rattle.blob_entries.specs.Making.{IsInside, IsMade}
use Rattle.blob_entries.specs.Sound.{AreOwn}
use Rattle.blob_entries.proofs.make.make.Given as goal

abbrev pub invariant-loop-step : goal.invariant-loop-step
invariant-loop-step l = record {
  inside : AllByRecursion (IsInside l.names l.entries) (drop l.step-index l.steps);
  own : AreOwn (drop l.step-index l.steps) l.left;
  made : IsMade l.names l.entries l.steps l.fn.own l.fn.shares (drop l.step-index l.steps) l.left l.views l.shares;
}
