-- The nodes while a leaf is written, from the leaf up.
use Rattle.std.proofs.Common.{◌≡◌, ◌≢◌, ℕ, ◌*◌, ◌/◌, ◌<◌, List, drop, length, set}
use Rattle.first_fit.specs.Tree.{IsLesser, IsPower}

-- each node holds the lesser of its children but the one above `node`
pub record IsWritten (leaves leaf value node : ℕ) (old nodes : List ℕ) : Type 0 where
  pub sized : length nodes ≡ 2 * leaves
  pub power : IsPower leaves
  pub some : 0 < node
  pub within : node < 2 * leaves
  pub lesser : (other : ℕ) → 0 < other → other < leaves → other ≢ node / 2 → IsLesser nodes other
  pub written : drop leaves nodes ≡ set (drop leaves old) leaf value
