-- The way down to the first leaf that is small enough.
use Rattle.std.proofs.Common.{◌≡◌, ℕ, ◌+◌, ◌-◌, ◌*◌, ◌/◌, ◌<◌, ◌≤◌, List, drop, get_or, length, nat_le, true, false, inl, inr, sym, arith}
use Rattle.std.specs.List.{position_or_len}
use Rattle.std.proofs.lemmas.Bool.{cases_lt}
use Rattle.std.proofs.lemmas.Bool.Decides.{nat_tests}
use Rattle.std.proofs.lemmas.List.{get_or-drop, length-drop}
use Rattle.std.proofs.lemmas.List.Sums.{position_or_len_is}
use Rattle.first_fit.specs.Tree.{IsLesser, IsPower, IsTree}
use Rattle.first_fit.proofs.Nodes.{above_least, double_power, next_power, root_least}

-- the first node of its level, which begins with `start`, that is at most `most`
pub record IsFirstOfLevel (leaves : ℕ) (nodes : List ℕ) (most start node : ℕ) : Type 0 where
  pub power : IsPower start
  pub some : 0 < start
  pub within : start ≤ leaves
  pub low : start ≤ node
  pub high : node < start * 2
  pub fits : get_or nodes node 0 ≤ most
  pub before : (other : ℕ) → start ≤ other → other < node → most < get_or nodes other 0

-- what is before the children on their level passes `most`
passed : (leaves : ℕ) (nodes : List ℕ) (most start node : ℕ) → IsTree leaves nodes → IsFirstOfLevel leaves nodes most start node → start < leaves
    → (other : ℕ) → start * 2 ≤ other → other < node * 2 → most < get_or nodes other 0
passed leaves nodes most start node tree so more other low high =
    let room = next_power start leaves so.power tree.power more in
    let above = so.before (other / 2) (omega arith) (omega arith) in
    let least = above_least leaves nodes tree other (omega (arith, so.some)) (omega (arith, so.high)) in
    omega arith

-- the left child
pub left_first : (leaves : ℕ) (nodes : List ℕ) (most start node : ℕ) → IsTree leaves nodes → IsFirstOfLevel leaves nodes most start node → start < leaves
    → get_or nodes (node * 2) 0 ≤ most → IsFirstOfLevel leaves nodes most (start * 2) (node * 2)
left_first leaves nodes most start node tree so more fits = record {
  power = double_power start so.power;
  some = omega (arith, so.some);
  within = next_power start leaves so.power tree.power more;
  low = omega (arith, so.low);
  high = omega (arith, so.high);
  fits = fits;
  before = passed leaves nodes most start node tree so more;
}

-- the right child, where the left passes `most`
pub right_first : (leaves : ℕ) (nodes : List ℕ) (most start node : ℕ) → IsTree leaves nodes → IsFirstOfLevel leaves nodes most start node → start < leaves
    → most < get_or nodes (node * 2) 0 → IsFirstOfLevel leaves nodes most (start * 2) (node * 2 + 1)
right_first leaves nodes most start node tree so more past =
    let room = next_power start leaves so.power tree.power more in
    let lesser : IsLesser nodes node = tree.lesser node (omega (arith, so.some, so.low)) (omega (arith, so.high)) in
    let fits = so.fits in
    record {
      power = double_power start so.power;
      some = omega (arith, so.some);
      within = room;
      low = omega (arith, so.low);
      high = omega (arith, so.high);
      fits = omega arith;
      before = λ other low high. elim (cases_lt other (node * 2)) [
        | inl below ↦ passed leaves nodes most start node tree so more other low below
        | inr above ↦ let same : other ≡ node * 2 = omega arith in rw same past
      ];
    }

fits_most : (value most : ℕ) → value ≤ most → nat_le value most ≡ true
fits_most value most fits = grind (arith, nat_tests)

passes_most : (value most : ℕ) → most < value → nat_le value most ≡ false
passes_most value most past = grind (arith, nat_tests)

length_leaves : (leaves : ℕ) (nodes : List ℕ) → length nodes ≡ 2 * leaves → length (drop leaves nodes) ≡ leaves
length_leaves leaves nodes sized = omega (arith, length-drop leaves nodes)

-- among the leaves it is the first leaf that is at most `most`
pub leaf_first : (leaves : ℕ) (nodes : List ℕ) (most start node : ℕ) → IsTree leaves nodes → IsFirstOfLevel leaves nodes most start node → leaves ≤ start
    → node - leaves ≡ position_or_len (λ value. nat_le value most) (drop leaves nodes)
leaf_first leaves nodes most start node tree so done =
    let same : start ≡ leaves = omega (arith, so.within) in
    let place : leaves + (node - leaves) ≡ node = omega (arith, so.low) in
    sym (position_or_len_is (λ value. nat_le value most) (drop leaves nodes) (node - leaves) 0
    (omega (arith, length_leaves leaves nodes tree.sized, so.high))
    (λ other less. rw (get_or-drop leaves nodes other 0) (passes_most _ most (so.before (leaves + other) (omega arith) (omega arith))))
    (λ _. rw (get_or-drop leaves nodes (node - leaves) 0, place) (fits_most _ most so.fits)))

-- no leaf is at most `most` where the root is not
pub no_leaf : (leaves : ℕ) (nodes : List ℕ) (most : ℕ) → IsTree leaves nodes → (0 < leaves → most < get_or nodes 1 0)
    → leaves ≡ position_or_len (λ value. nat_le value most) (drop leaves nodes)
no_leaf leaves nodes most tree past =
    let size = length_leaves leaves nodes tree.sized in
    sym (position_or_len_is (λ value. nat_le value most) (drop leaves nodes) leaves 0
    (omega arith)
    (λ other less.
    let over = past (omega arith) in
    let least = root_least leaves nodes tree (leaves + other) (omega arith) (omega arith) in
    rw (get_or-drop leaves nodes other 0) (passes_most _ most (omega arith)))
    (λ more. absurd (omega arith)))
