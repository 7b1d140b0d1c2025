use Rattle.std.proofs.Common.{nat_le}
use Rattle.first_fit.proofs.Leaves.{first_within}
use Rattle.first_fit.proofs.fit.FirstFit.first.Goals as goal

pub returns : goal.returns
returns c = rw (← c.self.view_is, c.then_some.ensures, c.first-index.ensures)
    (first_within (λ value. nat_le value c.args.most) c.self.inside.len c.self.inside.tree c.self.invariant)
