-- Lists of work, as numbers are put on them and taken off.
use Rattle.std.proofs.Common.{◌≡◌, ◌≢◌, ℕ, ◌-◌, ◌<◌, ◌≤◌, Bool, true, false, ◌||◌, List, [], ◌∷◌, ◌++◌, Some, None, length, set}
use Rattle.std.proofs.Common.{nat_eq, nat_lt, refl, sym, ap, ◌∙◌, arith, length-set, get_or-set_same, get_or-set_other}
use Rattle.std.specs.Prelude.{slice_index, nat_le}
use Rattle.std.specs.List.{position}
use Rattle.std.proofs.lemmas.Bool.Decides.{nat_tests}
use Rattle.std.proofs.lemmas.List.Quantifiers.{position-Some}
use Rattle.blob_words.specs.declared.bounds.TheConstants.{MOST_BLOBS}
use Rattle.blob_entries.proofs.Soundness.{same_or}
use Rattle.blob_registry.specs.Lists.{turned, PutOn}
use Rattle.blob_registry.specs.Numbers.{is_among}
use Rattle.blob_registry.proofs.Numbers.{among_more, apart_eq, nowhere, split_or}

-- each number has a place of its own
abbrev pub HasPlaces : (ℕ → ℕ) → Type 0
HasPlaces place = (number : ℕ) → number < MOST_BLOBS
    → (place number < MOST_BLOBS) × ((other : ℕ) → other < MOST_BLOBS → other ≢ number → place other ≢ place number)

pub plain_places : HasPlaces (λ (number : ℕ). number)
plain_places number inside = (inside, λ other within apart. apart)

pub turned_places : HasPlaces turned
turned_places number inside = (omega (arith, inside), λ other within apart same. apart (omega (arith, inside, within, same)))

pub put_none : (place : ℕ → ℕ) (first : List ℕ) → length first ≡ MOST_BLOBS → PutOn place first first []
put_none place first sized = record { sized = sized; kept = λ other some. some; marked = λ other inside some. refl; others = λ other inside absent. refl }

pub put_more : (place : ℕ → ℕ) (first now : List ℕ) (list : List ℕ) (number : ℕ) → HasPlaces place → number < MOST_BLOBS → PutOn place first now list
    → PutOn place first (set now (place number) 0) (list ++ number ∷ [])
put_more place first now list number places inside on = record {
  sized = length-set now (place number) 0 ∙ on.sized;
  kept = λ other some. on.kept other (λ none. some (same_or other (place number) (λ equal. at_zero other equal) (λ apart. away other apart ∙ none)));
  marked = λ other within some. among_more other number list ∙ both (is_among other list) (nat_eq number other)
      (on.marked other within (λ none. some (same_or other number
      (λ equal. at_zero (place other) (ap place equal))
      (λ apart. away (place other) ((places number inside).1 other within apart) ∙ none))))
      (apart_eq number other (λ equal. some (at_zero (place other) (ap place (sym equal)))));
  others = λ other within absent.
      let parts = split_or (is_among other list) (nat_eq number other) (sym (among_more other number list) ∙ absent) in
      away (place other) ((places number inside).1 other within
      (λ equal. let is : nat_eq number other ≡ true = grind (arith, equal) in let is_not = parts.1 in absurd (cc))) ∙ on.others other within parts.0;
}
  where
    at_zero : (k : ℕ) → k ≡ place number → slice_index (set now (place number) 0) k ≡ 0
    at_zero k equal = ap (slice_index (set now (place number) 0)) equal
        ∙ get_or-set_same now (place number) 0 0 (omega (arith, (places number inside).0, on.sized))

    away : (k : ℕ) → k ≢ place number → slice_index (set now (place number) 0) k ≡ slice_index now k
    away k apart = get_or-set_other now (place number) k 0 0 apart

    both : (a b : Bool) → a ≡ false → b ≡ false → (a || b) ≡ false
    both a b x y = rw (x, y) refl

-- a number that is taken off
pub off_here : (list : List ℕ) (place : ℕ) → place < length list → slice_index (set list place 1) place ≢ 0
off_here list place inside none = let one : slice_index (set list place 1) place ≡ 1 = get_or-set_same list place 1 0 inside in omega (arith, one, none)

-- the first place of a list, and all before it
pub first_some : (list : List ℕ) (place : ℕ) → position (λ (value : ℕ). nat_le value 0) list ≡ Some place
    → (place < length list) × (slice_index list place ≡ 0) × ((k : ℕ) → k < place → slice_index list k ≢ 0)
first_some list place is =
    let first = position-Some (λ (value : ℕ). nat_le value 0) list place 0 is in (
      first.0,
      grind (arith, nat_tests, first.1),
      λ k below zero_is. let no_zero = first.2 k below in let is_zero : nat_le
          (slice_index list k) 0 ≡ true = rw zero_is refl in absurd (cc),
    )

pub first_none : (list : List ℕ) → position (λ (value : ℕ). nat_le value 0) list ≡ None → (k : ℕ) → k < length list → slice_index list k ≢ 0
first_none list is k inside zero_is =
    let fails = nowhere (λ (value : ℕ). nat_le value 0) list is k inside in
    let is_zero : nat_le (slice_index list k) 0 ≡ true = rw zero_is refl in absurd (cc)

-- a listed number isn't below what is on no list
pub not_below : (looks : List ℕ) (bound number : ℕ) → ((k : ℕ) → k < bound → slice_index looks k ≢ 0) → slice_index looks number ≡ 0 → bound ≤ number
not_below looks bound number below is = by (nat_lt number bound) refl
  where
    by : (b : Bool) → nat_lt number bound ≡ b → bound ≤ number
    by true under = absurd (below number (grind (arith, nat_tests)) is)
    by false not_under = grind (arith, nat_tests)

-- a listed place is that of a number below what is on no list
pub under_bound : (weighs : List ℕ) (place bound : ℕ) → length weighs ≡ MOST_BLOBS → place < length weighs → slice_index weighs place ≡ 0
    → ((k : ℕ) → bound ≤ k → k < MOST_BLOBS → slice_index weighs (turned k) ≢ 0) → MOST_BLOBS - 1 - place < bound
under_bound weighs place bound sized inside is above = by (nat_lt (MOST_BLOBS - 1 - place) bound) refl
  where
    back : turned (MOST_BLOBS - 1 - place) ≡ place
    back = omega (arith, sized, inside)

    by : (b : Bool) → nat_lt (MOST_BLOBS - 1 - place) bound ≡ b → MOST_BLOBS - 1 - place < bound
    by true under = grind (arith, nat_tests)
    by false not_under = absurd (above (MOST_BLOBS - 1 - place) (grind (arith, nat_tests)) (omega arith) (ap (slice_index weighs) back ∙ is))
