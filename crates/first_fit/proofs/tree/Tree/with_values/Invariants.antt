use Rattle.std.proofs.Common.{◌≡◌, length, take}
use Rattle.first_fit.proofs.tree.Tree.with_values.Given as goal

-- the leaves so far have their values
abbrev pub invariant-loop-leaf : goal.invariant-loop-leaf
invariant-loop-leaf l = (length l.tree ≡ l.leaves) × (take l.leaf l.tree ≡ take l.leaf l.values)
