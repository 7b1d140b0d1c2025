-- A tree in a list: node 1 is the root, the children of a node are twice its number and one more, and the leaves are last. Own.
use Rattle.std.specs.Prelude.{◌≡◌, ℕ, ◌+◌, ◌*◌, ◌^◌, ◌<◌, ◌⊎◌, List, length, min, slice_index}

-- none, or a power of two
abbrev pub IsPower : ℕ → Type 0
IsPower leaves = (leaves ≡ 0) ⊎ ((depth : ℕ) × (leaves ≡ 2 ^ depth))

-- a node holds the lesser of its children
abbrev pub IsLesser : List ℕ → ℕ → Type 0
IsLesser nodes node = slice_index nodes node ≡ min (slice_index nodes (node * 2)) (slice_index nodes (node * 2 + 1))

-- each node above the leaves does
pub record IsTree (leaves : ℕ) (nodes : List ℕ) : Type 0 where
  pub sized : length nodes ≡ 2 * leaves
  pub power : IsPower leaves
  pub lesser : (node : ℕ) → 0 < node → node < leaves → IsLesser nodes node
