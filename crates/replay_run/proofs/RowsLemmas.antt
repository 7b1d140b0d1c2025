-- How the rows of the live blobs change with a line.
use Rattle.std.proofs.Common.{◌≡◌, Bool, true, false, ◌&&◌, List, [], ◌∷◌, map, filter, refl, ◌∙◌, ap, ⊎_elim}
use Rattle.std.specs.List.{AllByRecursion, list_any}
use Rattle.std.proofs.lemmas.Bool.{cases_Bool, or_parts}

module _ {X Y : Type 0} where
  -- the same rows are kept
  pub rows-same : (f g : X → Y) (p q : X → Bool) (xs : List X) → AllByRecursion (λ x. (q x ≡ p x) × (g x ≡ f x)) xs → map g (filter q xs) ≡ map f (filter p xs)
  rows-same f g p q [] each = refl
  rows-same f g p q (x ∷ xs) each =
      let rest = rows-same f g p q xs each.1 in
      ⊎_elim
      (λ (kept : p x ≡ true). let stays : q x ≡ true = each.0.0 ∙ kept in rw (kept, stays, each.0.1) (ap (λ ys. f x ∷ ys) rest))
      (λ (gone : p x ≡ false). let left : q x ≡ false = each.0.0 ∙ gone in rw (gone, left) rest)
      (cases_Bool (p x))

  -- each row is changed
  pub rows-mapped : (f g : X → Y) (p q : X → Bool) (change : Y → Y) → ((x : X) → q x ≡ p x) → ((x : X) → g x ≡ change (f x)) → (xs : List X)
      → map g (filter q xs) ≡ map change (map f (filter p xs))
  rows-mapped f g p q change same changed [] = refl
  rows-mapped f g p q change same changed (x ∷ xs) =
      let rest = rows-mapped f g p q change same changed xs in
      ⊎_elim
      (λ (kept : p x ≡ true). let stays : q x ≡ true = same x ∙ kept in rw (kept, stays, changed x) (ap (λ ys. change (f x) ∷ ys) rest))
      (λ (gone : p x ≡ false). let left : q x ≡ false = same x ∙ gone in rw (gone, left) rest)
      (cases_Bool (p x))

  -- some rows go
  pub rows-without : (f g : X → Y) (p q : X → Bool) (keep : Y → Bool) → ((x : X) → q x ≡ (p x && keep (f x))) → ((x : X) → keep (f x) ≡ true → g x ≡ f x)
      → (xs : List X)
      → map g (filter q xs) ≡ filter keep (map f (filter p xs))
  rows-without f g p q keep less same [] = refl
  rows-without f g p q keep less same (x ∷ xs) =
      let rest = rows-without f g p q keep less same xs in
      ⊎_elim
      (
      λ (kept : p x ≡ true).
      ⊎_elim
      (
      λ (stays : keep (f x) ≡ true).
      let both : q x ≡ true = rw (kept, stays) at (less x) in
      rw (kept, both, stays, same x stays) (ap (λ ys. f x ∷ ys) rest)
      )
      (λ (goes : keep (f x) ≡ false). let left : q x ≡ false = rw (kept, goes) at (less x) in rw (kept, left, goes) rest)
      (cases_Bool (keep (f x)))
      )
      (λ (gone : p x ≡ false). let left : q x ≡ false = rw gone at (less x) in rw (gone, left) rest)
      (cases_Bool (p x))

pub none_any : {X : Type 0} (p : X → Bool) (xs : List X) → list_any p xs ≡ false → AllByRecursion (λ x. p x ≡ false) xs
none_any p [] none = tt
none_any p (x ∷ xs) none = let parts = or_parts (p x) (list_any p xs) none in (parts.0, none_any p xs parts.1)

pub filter_nothing : {X : Type 0} (xs : List X) → filter (λ x. false) xs ≡ []
filter_nothing [] = refl
filter_nothing (x ∷ xs) = filter_nothing xs
