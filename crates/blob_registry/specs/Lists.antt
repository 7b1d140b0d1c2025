-- What the lists of work are after their calls. Own; no public call cites it.
use Rattle.std.specs.Prelude.{List, [], false, length, slice_index, slice_index_or, true, ℕ, ◌++◌, ◌-◌, ◌<◌, ◌∷◌, ◌≡◌, ◌≢◌, ◌⊎◌}
use Rattle.blob_registry.specs.Dependents.{listed_if}
use Rattle.blob_registry.specs.Numbers.{is_among, without_if}
use Rattle.blob_words.specs.declared.bounds.TheConstants.{MOST_BLOBS}

-- the place of a number in the list of the sweep, which takes the greatest first
abbrev pub turned : ℕ → ℕ
turned number = MOST_BLOBS - 1 - number

-- numbers were put on a list of work, each at its place
pub record PutOn (place : ℕ → ℕ) (first now : List ℕ) (list : List ℕ) : Type 0 where
  pub sized : length now ≡ MOST_BLOBS
  pub kept : (other : ℕ) → slice_index now other ≢ 0 → slice_index first other ≢ 0
  pub marked : (other : ℕ) → other < MOST_BLOBS → slice_index now (place other) ≢ 0 → is_among other list ≡ false
  pub others : (other : ℕ) → other < MOST_BLOBS → is_among other list ≡ false → slice_index now (place other) ≡ slice_index first (place other)

-- the list of those who need an entry
abbrev pub list_at : List (List ℕ) → ℕ → List ℕ
list_at lists number = slice_index_or lists number []

-- a number went from the lists of these
pub record Strikes (before after : List (List ℕ)) (number : ℕ) (sources : List ℕ) : Type 0 where
  pub long : length after ≡ length before
  pub struck : (other : ℕ) → list_at after other ≡ without_if (is_among other sources) number (list_at before other)

-- a number came to the end of the lists of these, or of some of them
abbrev pub AreEntered : List (List ℕ) → List (List ℕ) → ℕ → List ℕ → Type 0
AreEntered before after number sources = (other : ℕ) → list_at after other ≡ list_at before other ++ listed_if (is_among other sources) number

abbrev pub MayBeEntered : List (List ℕ) → List (List ℕ) → ℕ → List ℕ → Type 0
MayBeEntered before after number sources =
    (other : ℕ) → (list_at after other ≡ list_at before other) ⊎ ((is_among other sources ≡ true) × (list_at after other ≡ list_at before other ++ number ∷ []))

-- it is on none of them
abbrev pub LackNumber : List (List ℕ) → ℕ → Type 0
LackNumber lists number = (other : ℕ) → is_among number (list_at lists other) ≡ false
