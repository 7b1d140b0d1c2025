use Rattle.first_fit.proofs.Nodes.{more_power}
use Rattle.first_fit.proofs.tree.Tree.grow.Goals as goal

pub with_values-requires-clause-power : goal.with_values-requires-clause-power
with_values-requires-clause-power c = rw c.max-leaves.ensures (more_power c.self.inside.leaves c.self.invariant.power)
