use Rattle.std.proofs.Common.{take}
use Rattle.store_reach.specs.Lives.{MarksSources}
use Rattle.store_reach.proofs.lives.mark_sources.Given as goal

abbrev pub invariant-loop-step : goal.invariant-loop-step
invariant-loop-step l = MarksSources l.registry.names (take l.step-index l.steps) l.fn.marks.items l.marks.items
