-- What a node says of those below it.
use Rattle.std.proofs.Common.{◌≡◌, ℕ, zero, suc, ◌+◌, ◌*◌, ◌/◌, ◌^◌, ◌<◌, ◌≤◌, ◌⊎◌, inl, inr, List, get_or, max, ap, arith}
use Rattle.std.proofs.Math.Nat.{pow-suc}
use Rattle.std.proofs.Math.Pow.{pow_mono}
use Rattle.std.proofs.lemmas.Bool.{cases_lt}
use Rattle.std.proofs.lemmas.Nat.{pow_pos}
use Rattle.first_fit.specs.Tree.{IsLesser, IsPower, IsTree}

-- a power of two has room for the next one
pub next_power : (start leaves : ℕ) → IsPower start → IsPower leaves → start < leaves → start * 2 ≤ leaves
next_power start leaves (inl none) whole less = omega arith
next_power start leaves (inr (level, is)) (inl none) less = absurd (omega arith)
next_power start leaves (inr (level, is)) (inr (depth, whole)) less = elim (cases_lt level depth) [
  | inl below ↦
      let twice : 2 ^ suc level ≡ 2 ^ level * 2 = pow-suc 2 level in
      let most : 2 ^ suc level ≤ 2 ^ depth = pow_mono {i = suc level} {j = depth} (omega arith) in
      omega arith
  | inr above ↦
      let most : 2 ^ depth ≤ 2 ^ level = pow_mono {i = depth} {j = level} above in
      absurd (omega arith)
]

pub double_power : (leaves : ℕ) → IsPower leaves → IsPower (leaves * 2)
double_power leaves (inl none) = inl (omega arith)
double_power leaves (inr (depth, is)) =
    let twice : 2 ^ suc depth ≡ 2 ^ depth * 2 = pow-suc 2 depth in
    inr (suc depth, omega arith)

-- twice as many leaves, or one
pub more_power : (leaves : ℕ) → IsPower leaves → IsPower (max (2 * leaves) 1)
more_power leaves (inl none) = inr (0, omega arith)
more_power leaves (inr (depth, is)) =
    let twice : 2 ^ suc depth ≡ 2 ^ depth * 2 = pow-suc 2 depth in
    inr (suc depth, omega (arith, pow_pos depth))

-- a node is one of the two children of the node above it
halves : (node : ℕ) → (node ≡ node / 2 * 2) ⊎ (node ≡ node / 2 * 2 + 1)
halves node = elim (cases_lt (node / 2 * 2) node) [ inl odd ↦ inr (omega arith) | inr even ↦ inl (omega arith) ]

-- no node is less than the one above it
pub above_least : (leaves : ℕ) (nodes : List ℕ) → IsTree leaves nodes → (node : ℕ) → 1 < node → node < 2 * leaves → get_or nodes (node / 2) 0 ≤ get_or nodes
    node 0
above_least leaves nodes tree node some within =
    let lesser : IsLesser nodes (node / 2) = tree.lesser (node / 2) (omega arith) (omega arith) in
    elim (halves node) [
      | inl even ↦
          let at : get_or nodes node 0 ≡ get_or nodes (node / 2 * 2) 0 = ap (λ place. get_or nodes place 0) even in
          omega arith
      | inr odd ↦
          let at : get_or nodes node 0 ≡ get_or nodes (node / 2 * 2 + 1) 0 = ap (λ place. get_or nodes place 0) odd in
          omega arith
    ]

root_least_by : (most leaves : ℕ) (nodes : List ℕ) → IsTree leaves nodes → (node : ℕ) → node ≤ most → 0 < node → node < 2 * leaves → get_or nodes 1 0 ≤ get_or
    nodes node 0
root_least_by zero leaves nodes tree node fuel some within = absurd (omega arith)
root_least_by (suc most) leaves nodes tree node fuel some within = elim (cases_lt 1 node) [
  | inl below ↦
      let above = root_least_by most leaves nodes tree (node / 2) (omega arith) (omega arith) (omega arith) in
      let least = above_least leaves nodes tree node below within in
      omega arith
  | inr root ↦
      let same : node ≡ 1 = omega arith in
      rw same (omega arith)
]

-- and none less than the root
pub root_least : (leaves : ℕ) (nodes : List ℕ) → IsTree leaves nodes → (node : ℕ) → 0 < node → node < 2 * leaves → get_or nodes 1 0 ≤ get_or nodes node 0
root_least leaves nodes tree node some within = root_least_by node leaves nodes tree node (omega arith) some within
