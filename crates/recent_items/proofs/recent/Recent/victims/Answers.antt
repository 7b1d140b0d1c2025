use Rattle.std.proofs.Common.{map, reverse}
use Rattle.recent_items.proofs.Victims.{victims_all}
use Rattle.recent_items.proofs.recent.Recent.victims.Goals as goal

pub returns-clause-value : goal.returns-clause-value
returns-clause-value c = victims_all (map (λ piece. piece.0) c.loop-missing.pieces) c.loop-missing.missing c.loop-missing.free (reverse c.loop-missing.rest) _
    c.loop-missing-test.false c.loop-missing.invariant
