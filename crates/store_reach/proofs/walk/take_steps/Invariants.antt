use Rattle.std.proofs.Common.{◌≡◌, take}
use Rattle.store_reach.specs.Reach.{steps_pieces}
use Rattle.store_reach.specs.Windows.{taken_all}
use Rattle.store_reach.proofs.walk.take_steps.Given as goal

abbrev pub invariant-loop-step : goal.invariant-loop-step
invariant-loop-step l = l.window ≡ taken_all l.fn.window (steps_pieces l.shares l.granted (take l.step-index l.steps))
