-- The values among the leaves.
use Rattle.std.proofs.Common.{◌≡◌, ℕ, suc, zero, ◌≤◌, Bool, true, false, cond, ltb, List, [], ◌∷◌, Some, None, length, min, take, refl, arith}
use Rattle.std.specs.Bool.{then_some}
use Rattle.std.specs.List.{position, position_or_len}
use Rattle.std.proofs.lemmas.Bool.Decides.{nat_tests}
use Rattle.std.proofs.lemmas.List.{length-take-le}

-- the first that passes among the first so many
pub position_or_len-take : {X : Type 0} (test : X → Bool) (count : ℕ) (items : List X) → position_or_len test (take count items)
    ≡ min count (position_or_len test items)
position_or_len-take test zero items = omega arith
position_or_len-take test (suc count) [] = omega arith
position_or_len-take test (suc count) (item ∷ items) =
    (elim (test item) as (λ y. test item ≡ y → position_or_len test (take (suc count) (item ∷ items)) ≡ min (suc count) (position_or_len test (item ∷ items))) [
      | true ↦ λ t. rw t (omega arith)
      | false ↦ λ t. rw t (omega (arith, position_or_len-take test count items))
    ]) refl

below_some : (index count : ℕ) → then_some (ltb index count) index ≡ cond (ltb (min count index) count) (Some (min count index)) None
below_some index count = grind (arith, nat_tests)

-- a place behind them is none
pub first_within : {X : Type 0} (test : X → Bool) (count : ℕ) (items : List X) → count ≤ length items
    → then_some (ltb (position_or_len test items) count) (position_or_len test items) ≡ position test (take count items)
first_within test count items within = rw (position_or_len-take test count items, length-take-le count items within)
    (below_some (position_or_len test items) count)
