-- Sums over a table in which each item of a list has one entry, and sums that are more than nothing.
use Rattle.std.proofs.Common.{◌≡◌, ℕ, zero, suc, ◌+◌, ◌<◌, Bool, true, false, cond, ◌||◌, List, [], ◌∷◌, length, refl, ap, sym, ◌∙◌, Option, Some, arith, ⊎_elim}
use Rattle.std.specs.Prelude.{nat_lt, slice_get, sum_by, unwrap_or}
use Rattle.std.specs.List.{AllByRecursion, list_any}
use Rattle.std.specs.Map.{lookup, remove_entry, values_of}
use Rattle.std.specs.Option.{option_map}
use Rattle.std.proofs.lemmas.Bool.{false_from_ne_true, lt-ltb, ltb-true, or_parts}
use Rattle.std.proofs.lemmas.List.Sums.{sum_by-cons}
use Rattle.std.proofs.lemmas.Map.Entries.{sum_by-remove_entry}
use Rattle.blob_model.proofs.Lists.{false_true, or_cases, or_first, or_second}
use Rattle.store_laws.specs.Apart.{AreApartBy}

-- ---- tables

module _ {K Y : Type 0} where
  -- an entry that goes, beside one that is looked for
  beside_removed : (gone test : K → Bool) (es : List (K × Y)) → ((k : K) → gone k ≡ true → test k ≡ false)
      → lookup test (remove_entry gone es) ≡ lookup test es
  beside_removed gone test [] apart = refl
  beside_removed gone test (e ∷ es) apart = by (gone e.0) refl (beside_removed gone test es apart)
    where
      by : (b : Bool) → gone e.0 ≡ b → lookup test (remove_entry gone es) ≡ lookup test es
          → lookup test (cond b es (e ∷ remove_entry gone es)) ≡ cond (test e.0) (Some e.1) (lookup test es)
      by true at rest = sym (ap (λ (b : Bool). cond {A = Option Y} b (Some e.1) (lookup test es)) (apart e.0 at))
      by false at rest = ap (λ (found : Option Y). cond {A = Option Y} (test e.0) (Some e.1) found) rest

  one_fewer : (gone : K → Bool) (es : List (K × Y)) (v : Y) → lookup gone es ≡ Some v → length (remove_entry gone es) + 1 ≡ length es
  one_fewer gone [] v at = absurd (cc at)
  one_fewer gone (e ∷ es) v at = by (gone e.0) at (one_fewer gone es v)
    where
      by : (b : Bool) → cond b (Some e.1) (lookup gone es) ≡ Some v → (lookup gone es ≡ Some v → length (remove_entry gone es) + 1 ≡ length es)
          → length (cond b es (e ∷ remove_entry gone es)) + 1 ≡ length (e ∷ es)
      by true at rest = omega arith
      by false at rest = let fewer = rest at in omega (arith, fewer)

  -- an entry that weighs something, where all do together
  pub some_place : (weight : Y → ℕ) (es : List (K × Y)) → 0 < sum_by weight (values_of es)
      → (i : ℕ) × (k : K) × (v : Y) × (slice_get es i ≡ Some (k, v)) × (0 < weight v)
  some_place weight [] some = absurd (omega (arith, some))
  some_place weight (e ∷ es) some = go (weight e.1) refl (sum_by-cons weight e.1 (values_of es)) (some_place weight es)
    where
      go : (n : ℕ) → weight e.1 ≡ n → sum_by weight (values_of (e ∷ es)) ≡ weight e.1 + sum_by weight (values_of es)
          → (0 < sum_by weight (values_of es) → (i : ℕ) × (k : K) × (v : Y) × (slice_get es i ≡ Some (k, v)) × (0 < weight v))
          → (i : ℕ) × (k : K) × (v : Y) × (slice_get (e ∷ es) i ≡ Some (k, v)) × (0 < weight v)
      go zero is sums rest = let later = rest (omega (arith, some, is, sums)) in (suc later.0, later.1, later.2, later.3, later.4)
      go (suc n) is sums rest = (0, e.0, e.1, refl, omega (arith, is))

-- each item of a list has its value under its key, and there are no more
module _ {K X Y : Type 0} (same : X → X → Bool) (key : X → K → Bool) (joins : (x y : X) (k : K) → key x k ≡ true → key y k ≡ true → same x y ≡ true)
    (value : X → Y) (weight : Y → ℕ) where
  still : (x : X) (ys : List X) (es : List (K × Y)) → list_any (same x) ys ≡ false
      → AllByRecursion (λ (y : X). lookup (key y) es ≡ Some (value y)) ys
      → AllByRecursion (λ (y : X). lookup (key y) (remove_entry (key x) es) ≡ Some (value y)) ys
  still x [] es none all = tt
  still x (y ∷ ys) es none all =
      let parts = or_parts (same x y) (list_any (same x) ys) none in (
        beside_removed (key x) (key y) es
            (λ k gone. false_from_ne_true (key y k) (λ found. false_true (sym parts.0 ∙ joins x y k gone found)))
            ∙ all.0,
        still x ys es parts.1 all.1,
      )

  pub sum_paired : (xs : List X) (es : List (K × Y)) → AreApartBy same xs → AllByRecursion (λ (x : X). lookup (key x) es ≡ Some (value x)) xs
      → length es ≡ length xs → sum_by weight (values_of es) ≡ sum_by (λ (x : X). weight (value x)) xs
  sum_paired [] [] apart there many = refl
  sum_paired [] (e ∷ es) apart there many = absurd (cc many)
  sum_paired (x ∷ xs) es apart there many =
      let sums = sum_by-remove_entry weight (key x) es in
      let mine : unwrap_or (option_map weight (lookup (key x) es)) 0 ≡ weight (value x) =
      ap (λ (found : Option Y). unwrap_or (option_map weight found) 0) there.0 in
      let fewer = one_fewer (key x) es (value x) there.0 in
      let rest = sum_paired xs (remove_entry (key x) es) apart.1 (still x xs es apart.0 there.1) (omega (arith, fewer, many)) in
      omega (arith, sums, mine, rest, sum_by-cons (λ (y : X). weight (value y)) x xs)

-- ---- what is more than nothing where a test passes

pub record IsTold (test : Bool) (n : ℕ) : Type 0 where
  pub some : test ≡ true → 0 < n
  pub passes : 0 < n → test ≡ true

pub told_above : (test : Bool) (n : ℕ) → IsTold test n → nat_lt 0 n ≡ test
told_above test n is = by (nat_lt 0 n) test refl refl
  where
    by : (a b : Bool) → nat_lt 0 n ≡ a → test ≡ b → a ≡ b
    by true true above at = refl
    by false false above at = refl
    by true false above at = absurd (false_true (sym at ∙ is.passes (ltb-true 0 n above)))
    by false true above at = absurd (false_true (sym above ∙ lt-ltb 0 n (is.some at)))

-- of two
pub told_either : (a b : Bool) (m n : ℕ) → IsTold a m → IsTold b n → IsTold (a || b) (m + n)
told_either a b m n one other = record {
  some = λ passes. ⊎_elim (λ (here : a ≡ true). let few = one.some here in omega (arith, few))
      (λ (there : b ≡ true). let few = other.some there in omega (arith, few)) (or_cases a b passes);
  passes = λ some. by m refl some;
}
  where
    by : (k : ℕ) → m ≡ k → 0 < m + n → (a || b) ≡ true
    by zero is some = or_second a b (other.passes (omega (arith, is, some)))
    by (suc k) is some = or_first a b (one.passes (omega (arith, is)))

-- of a list
pub told_any : {X : Type 0} (test : X → Bool) (xs : List X) → IsTold (list_any test xs) (sum_by (λ (x : X). cond (test x) 1 0) xs)
told_any test [] = record { some = λ e. absurd (false_true e); passes = λ some. absurd (omega (arith, some)) }
told_any {X = X} test (x ∷ xs) =
    let sums = sum_by-cons (λ (y : X). cond (test y) 1 0) x xs in
    let both = told_either (test x) (list_any test xs) (cond (test x) 1 0) (sum_by (λ (y : X). cond (test y) 1 0) xs) (one (test x)) (told_any test xs) in
    record {
      some = λ e. let few = both.some e in omega (arith, sums, few);
      passes = λ some. both.passes (omega (arith, sums, some));
    }
  where
    one : (b : Bool) → IsTold b (cond b 1 0)
    one true = record { some = λ e. omega arith; passes = λ e. refl }
    one false = record { some = λ e. absurd (false_true e); passes = λ some. absurd (omega (arith, some)) }
