use Rattle.std.proofs.Common.{◌<◌, length, arith}
use Rattle.std.proofs.lemmas.Grind.{get_or_default_zero}
use Rattle.first_fit.proofs.Descent.{no_leaf}
use Rattle.first_fit.proofs.tree.Tree.first.Goals as goal
use Rattle.first_fit.proofs.tree.Tree.first.Goals.{then-self-eq0-via-then-self-eq0, then-self-eq0-via-else-self-eq0+then-index-most}

pub returns-then-self-eq0 : goal.returns-then-self-eq0
returns-then-self-eq0 c = rw (← c.self.view_is) (no_leaf c.self.inside.leaves c.self.inside.nodes.items c.args.most c.self.invariant
    (λ some. elim c.then-self-eq0.branch [
      | then-self-eq0-via-then-self-eq0 w ↦ absurd (omega arith)
      | then-self-eq0-via-else-self-eq0+then-index-most w ↦
          let within : 1 < length c.self.inside.nodes.items = omega (arith, c.self.invariant.sized) in
          omega (arith, get_or_default_zero c.self.inside.nodes.items 1 w.index.result.now within)
    ]))
