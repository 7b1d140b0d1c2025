-- Lists of which no two items have one key, as items come and go.
use Rattle.std.proofs.Common.{◌≡◌, ◌+◌, Bool, true, false, cond, not, ◌||◌, List, [], ◌∷◌, ◌++◌, length, filter, map, refl, ap, sym, ◌∙◌, Option, Some, None, arith}
use Rattle.std.specs.Prelude.{find}
use Rattle.std.specs.List.{AllByRecursion, list_any}
use Rattle.std.proofs.lemmas.Bool.{or_parts}
use Rattle.std.proofs.lemmas.List.Folds.{list_any-append}
use Rattle.blob_model.proofs.Lists.{false_true, none_filtered}
use Rattle.store_laws.specs.Apart.{AreApartBy}

-- ---- what is found beside what goes

module _ {X : Type 0} (p q : X → Bool) where
  abbrev others : List X → List X
  others xs = filter (λ (x : X). not (q x)) xs

  -- nothing, where just that goes
  pub found_gone : ((x : X) → p x ≡ q x) → (xs : List X) → find p (others xs) ≡ None
  found_gone same [] = refl
  found_gone same (x ∷ xs) = by (q x) refl (found_gone same xs)
    where
      by : (b : Bool) → q x ≡ b → find p (others xs) ≡ None → find p (cond (not b) (x ∷ others xs) (others xs)) ≡ None
      by true at rest = rest
      by false at rest = ap (λ (c : Bool). cond {A = Option X} c (Some x) (find p (others xs))) (same x ∙ at) ∙ rest

  -- the same, where another goes
  pub found_beside : ((x : X) → q x ≡ true → p x ≡ false) → (xs : List X) → find p (others xs) ≡ find p xs
  found_beside apart [] = refl
  found_beside apart (x ∷ xs) = by (q x) refl (found_beside apart xs)
    where
      by : (b : Bool) → q x ≡ b → find p (others xs) ≡ find p xs → find p (cond (not b) (x ∷ others xs) (others xs)) ≡ cond (p x) (Some x) (find p xs)
      by true at rest = rest ∙ sym (ap (λ (c : Bool). cond {A = Option X} c (Some x) (find p xs)) (apart x at))
      by false at rest = ap (λ (found : Option X). cond {A = Option X} (p x) (Some x) found) rest

module _ {X : Type 0} (q : X → Bool) where
  -- where nothing passes, nothing goes
  pub none_gone : (xs : List X) → list_any q xs ≡ false → filter (λ (x : X). not (q x)) xs ≡ xs
  none_gone [] none = refl
  none_gone (x ∷ xs) none =
      let parts = or_parts (q x) (list_any q xs) none in
      ap (λ (b : Bool). cond (not b) (x ∷ filter (λ (y : X). not (q y)) xs) (filter (λ (y : X). not (q y)) xs)) parts.0
      ∙ ap (λ (list : List X). x ∷ list) (none_gone xs parts.1)

  pub found_any : (xs : List X) (x : X) → find q xs ≡ Some x → list_any q xs ≡ true
  found_any [] x at = absurd (cc at)
  found_any (y ∷ xs) x at = by (q y) (found_any xs x) at
    where
      by : (b : Bool) → (find q xs ≡ Some x → list_any q xs ≡ true) → cond b (Some y) (find q xs) ≡ Some x → (b || list_any q xs) ≡ true
      by true rest at = refl
      by false rest at = rest at

  pub found_none : (xs : List X) → find q xs ≡ None → list_any q xs ≡ false
  found_none [] at = refl
  found_none (x ∷ xs) at = by (q x) (found_none xs) at
    where
      by : (b : Bool) → (find q xs ≡ None → list_any q xs ≡ false) → cond b (Some x) (find q xs) ≡ None → (b || list_any q xs) ≡ false
      by true rest at = absurd (cc at)
      by false rest at = rest at

-- ---- lists without two of one key

module _ {X : Type 0} (same : X → X → Bool) where
  pub apart_filter : (keep : X → Bool) (xs : List X) → AreApartBy same xs → AreApartBy same (filter keep xs)
  apart_filter keep [] is = tt
  apart_filter keep (x ∷ xs) is = by (keep x) (apart_filter keep xs is.1)
    where
      by : (b : Bool) → AreApartBy same (filter keep xs) → AreApartBy same (cond b (x ∷ filter keep xs) (filter keep xs))
      by true rest = (none_filtered (same x) keep xs is.0, rest)
      by false rest = rest

  pub apart_more : (xs : List X) (x : X) → AreApartBy same xs → list_any (λ (y : X). same y x) xs ≡ false → AreApartBy same (xs ++ x ∷ [])
  apart_more [] x is none = (refl, tt)
  apart_more (y ∷ xs) x is none =
      let parts = or_parts (same y x) (list_any (λ (z : X). same z x) xs) none in (
        list_any-append (same y) xs (x ∷ []) ∙ ap (λ (b : Bool). b || (same y x || false)) is.0 ∙ ap (λ (b : Bool). b || false) parts.0,
        apart_more xs x is.1 parts.1,
      )

  -- a change that keeps the keys
  pub apart_map : (f : X → X) → ((x y : X) → same (f x) (f y) ≡ same x y) → (xs : List X) → AreApartBy same xs → AreApartBy same (map f xs)
  apart_map f keeps [] is = tt
  apart_map f keeps (x ∷ xs) is = (any_mapped xs ∙ is.0, apart_map f keeps xs is.1)
    where
      any_mapped : (ys : List X) → list_any (same (f x)) (map f ys) ≡ list_any (same x) ys
      any_mapped [] = refl
      any_mapped (y ∷ ys) = λ i. keeps x y i || any_mapped ys i

  -- one of two passes a test of one key
  module _ (q : X → Bool) (joins : (x y : X) → q x ≡ true → q y ≡ true → same x y ≡ true) where
    pub alone : (x : X) (xs : List X) → q x ≡ true → list_any (same x) xs ≡ false → list_any q xs ≡ false
    alone x [] here none = refl
    alone x (y ∷ xs) here none =
        let parts = or_parts (same x y) (list_any (same x) xs) none in by (q y) refl parts.0 (alone x xs here parts.1)
      where
        by : (b : Bool) → q y ≡ b → same x y ≡ false → list_any q xs ≡ false → (b || list_any q xs) ≡ false
        by true at apart rest = absurd (false_true (sym apart ∙ joins x y here at))
        by false at apart rest = rest

    -- so one fewer is left
    pub one_gone : (xs : List X) → AreApartBy same xs → list_any q xs ≡ true → length (filter (λ (x : X). not (q x)) xs) + 1 ≡ length xs
    one_gone [] is some = absurd (false_true some)
    one_gone (x ∷ xs) is some = by (q x) refl some (one_gone xs is.1)
      where
        by : (b : Bool) → q x ≡ b → (b || list_any q xs) ≡ true
            → (list_any q xs ≡ true → length (filter (λ (y : X). not (q y)) xs) + 1 ≡ length xs)
            → length (cond (not b) (x ∷ filter (λ (y : X). not (q y)) xs) (filter (λ (y : X). not (q y)) xs)) + 1 ≡ length (x ∷ xs)
        by true at some rest =
            let left = ap (λ (list : List X). length list) (none_gone q xs (alone x xs at is.0)) in omega (arith, left)
        by false at some rest = let fewer = rest some in omega (arith, fewer)

  -- where the one that a test finds is of a kind, all that pass it are
  pub all_of_kind : (q own : X → Bool) → ((x y : X) → q x ≡ true → q y ≡ true → same x y ≡ true) → (xs : List X) (one : X) → AreApartBy same xs
      → find q xs ≡ Some one → own one ≡ true → AllByRecursion (λ (x : X). q x ≡ true → own x ≡ true) xs
  all_of_kind q own joins [] one is at kind = tt
  all_of_kind q own joins (x ∷ xs) one is at kind = by (q x) refl at (λ later. all_of_kind q own joins xs one is.1 later kind)
    where
      vacuous : (ys : List X) → list_any q ys ≡ false → AllByRecursion (λ (y : X). q y ≡ true → own y ≡ true) ys
      vacuous [] none = tt
      vacuous (y ∷ ys) none =
          let parts = or_parts (q y) (list_any q ys) none in ((λ passes. absurd (false_true (sym parts.0 ∙ passes))), vacuous ys parts.1)

      by : (b : Bool) → q x ≡ b → cond b (Some x) (find q xs) ≡ Some one
          → (find q xs ≡ Some one → AllByRecursion (λ (y : X). q y ≡ true → own y ≡ true) xs)
          → (q x ≡ true → own x ≡ true) × AllByRecursion (λ (y : X). q y ≡ true → own y ≡ true) xs
      by true here at rest =
          let equal : x ≡ one = cc in ((λ passes. ap own equal ∙ kind), vacuous xs (alone q joins x xs here is.0))
      by false here at rest = ((λ passes. absurd (false_true (sym here ∙ passes))), rest at)

  -- each is found by its own key
  pub each_found : ((x : X) → same x x ≡ true) → (xs : List X) → AreApartBy same xs
      → AllByRecursion (λ (x : X). find (λ (y : X). same y x) xs ≡ Some x) xs
  each_found self [] is = tt
  each_found self (x ∷ xs) is = (
    ap (λ (b : Bool). cond {A = Option X} b (Some x) (find (λ (y : X). same y x) xs)) (self x),
    later xs (each_found self xs is.1) is.0,
  )
    where
      later : (ys : List X) → AllByRecursion (λ (y : X). find (λ (z : X). same z y) xs ≡ Some y) ys → list_any (same x) ys ≡ false
          → AllByRecursion (λ (y : X). cond {A = Option X} (same x y) (Some x) (find (λ (z : X). same z y) xs) ≡ Some y) ys
      later [] all none = tt
      later (y ∷ ys) all none =
          let parts = or_parts (same x y) (list_any (same x) ys) none in (
            ap (λ (b : Bool). cond {A = Option X} b (Some x) (find (λ (z : X). same z y) xs)) parts.0 ∙ all.0,
            later ys all.1 parts.1,
          )

module _ {X : Type 0} (q own : X → Bool) where
  -- what goes first or last makes no difference
  pub gone_twice : (xs : List X) → AllByRecursion (λ (x : X). q x ≡ true → own x ≡ true) xs
      → filter (λ (x : X). not (own x)) (filter (λ (x : X). not (q x)) xs) ≡ filter (λ (x : X). not (own x)) xs
  gone_twice [] all = refl
  gone_twice (x ∷ xs) all = by (q x) refl (gone_twice xs all.1)
    where
      kept : List X → List X
      kept ys = filter (λ (y : X). not (own y)) ys

      by : (b : Bool) → q x ≡ b → kept (filter (λ (y : X). not (q y)) xs) ≡ kept xs
          → kept (cond (not b) (x ∷ filter (λ (y : X). not (q y)) xs) (filter (λ (y : X). not (q y)) xs)) ≡ cond (not (own x)) (x ∷ kept xs) (kept xs)
      by true at rest = rest ∙ sym (ap (λ (b : Bool). cond (not b) (x ∷ kept xs) (kept xs)) (all.0 at))
      by false at rest = ap (λ (list : List X). cond (not (own x)) (x ∷ list) list) rest

pub none_of_kind : {X : Type 0} (own : X → Bool) (xs : List X) → AllByRecursion (λ (x : X). own x ≡ false) xs → filter (λ (x : X). not (own x)) xs ≡ xs
none_of_kind own [] all = refl
none_of_kind {X = X} own (x ∷ xs) all =
    ap (λ (b : Bool). cond (not b) (x ∷ filter (λ (y : X). not (own y)) xs) (filter (λ (y : X). not (own y)) xs)) all.0
    ∙ ap (λ (list : List X). x ∷ list) (none_of_kind own xs all.1)
