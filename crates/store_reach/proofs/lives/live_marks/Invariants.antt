use Rattle.std.proofs.Common.{◌-◌}
use Rattle.store_reach.proofs.Living.{MarkedTo}
use Rattle.store_reach.proofs.lives.live_marks.Given as goal

abbrev pub invariant-loop-round : goal.invariant-loop-round
invariant-loop-round l = MarkedTo l.registry (l.count - l.round) l.marks.items
