-- Sums over what passes tests.
use Rattle.std.proofs.Common.{◌≡◌, ℕ, ◌+◌, Bool, true, false, ◌||◌, List, [], ◌∷◌, refl, ap, sym, ◌∙◌, arith, cond}
use Rattle.std.specs.Prelude.{filter, sum_by}
use Rattle.std.specs.List.{AllByRecursion}
use Rattle.std.proofs.lemmas.List.Sums.{sum_by-cons}
use Rattle.blob_model.proofs.Lists.{false_true}

-- a sum of what passes a second test
pub sum-passing : {X : Type 0} (f : X → ℕ) (test : X → Bool) (xs : List X) → sum_by (λ (x : X). cond (test x) (f x) 0) xs ≡ sum_by f (filter test xs)
sum-passing f test [] = refl
sum-passing {X = X} f test (x ∷ xs) =
    sum_by-cons (λ (y : X). cond (test y) (f y) 0) x xs ∙ go (test x) (sum-passing f test xs)
  where
    go : (b : Bool) → sum_by (λ (y : X). cond (test y) (f y) 0) xs ≡ sum_by f (filter test xs)
        → cond b (f x) 0 + sum_by (λ (y : X). cond (test y) (f y) 0) xs ≡ sum_by f (cond b (x ∷ filter test xs) (filter test xs))
    go true rest = ap (λ (n : ℕ). f x + n) rest ∙ sym (sum_by-cons f x (filter test xs))
    go false rest = omega (arith, rest)

-- a sum of what passes one of two tests, where nothing passes both
pub sum-either : {X : Type 0} (f : X → ℕ) (p q : X → Bool) (xs : List X) → AllByRecursion (λ (x : X). q x ≡ true → p x ≡ false) xs
    → sum_by f (filter (λ (x : X). p x || q x) xs) ≡ sum_by f (filter p xs) + sum_by f (filter q xs)
sum-either f p q [] apart = refl
sum-either {X = X} f p q (x ∷ xs) apart = go (p x) (q x) apart.0 (sum-either f p q xs apart.1)
  where
    go : (a b : Bool) → (b ≡ true → a ≡ false) → sum_by f (filter (λ (y : X). p y || q y) xs) ≡ sum_by f (filter p xs) + sum_by f (filter q xs)
        → sum_by f (cond (a || b) (x ∷ filter (λ (y : X). p y || q y) xs) (filter (λ (y : X). p y || q y) xs))
        ≡ sum_by f (cond a (x ∷ filter p xs) (filter p xs)) + sum_by f (cond b (x ∷ filter q xs) (filter q xs))
    go true true none rest = absurd (false_true (sym (none refl)))
    go true false none rest =
        omega (arith, rest, sum_by-cons f x (filter (λ (y : X). p y || q y) xs), sum_by-cons f x (filter p xs))
    go false true none rest =
        omega (arith, rest, sum_by-cons f x (filter (λ (y : X). p y || q y) xs), sum_by-cons f x (filter q xs))
    go false false none rest = rest

-- sums of what weighs the same
pub sum-each : {X : Type 0} (f g : X → ℕ) (test : X → Bool) (xs : List X) → AllByRecursion (λ (x : X). test x ≡ true → f x ≡ g x) xs
    → sum_by f (filter test xs) ≡ sum_by g (filter test xs)
sum-each f g test [] each = refl
sum-each {X = X} f g test (x ∷ xs) each = go (test x) each.0 (sum-each f g test xs each.1)
  where
    go : (b : Bool) → (b ≡ true → f x ≡ g x) → sum_by f (filter test xs) ≡ sum_by g (filter test xs)
        → sum_by f (cond b (x ∷ filter test xs) (filter test xs)) ≡ sum_by g (cond b (x ∷ filter test xs) (filter test xs))
    go true same rest =
        let here = same refl in omega (arith, here, rest, sum_by-cons f x (filter test xs), sum_by-cons g x (filter test xs))
    go false same rest = rest

pub sum-none : {X : Type 0} (f : X → ℕ) (test : X → Bool) (xs : List X) → AllByRecursion (λ (x : X). test x ≡ true → f x ≡ 0) xs
    → sum_by f (filter test xs) ≡ 0
sum-none f test [] each = refl
sum-none {X = X} f test (x ∷ xs) each = go (test x) each.0 (sum-none f test xs each.1)
  where
    go : (b : Bool) → (b ≡ true → f x ≡ 0) → sum_by f (filter test xs) ≡ 0 → sum_by f (cond b (x ∷ filter test xs) (filter test xs)) ≡ 0
    go true none rest = let here = none refl in omega (arith, here, rest, sum_by-cons f x (filter test xs))
    go false none rest = rest
