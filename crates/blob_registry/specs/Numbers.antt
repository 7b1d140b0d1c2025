-- Lists of numbers. Own.
use Rattle.std.specs.List.{AllByRecursion, list_any}
use Rattle.std.specs.Option.{option_map_or}
use Rattle.std.specs.Prelude.{Bool, List, [], false, if◌then◌else◌, length, slice_get, true, ℕ, ◌++◌, ◌-◌, ◌<◌, ◌==◌, ◌∷◌, ◌≡◌}

-- whether a number is among these, and whether it is the last
abbrev pub is_among : ℕ → List ℕ → Bool
is_among number list = list_any (λ (other : ℕ). other == number) list

abbrev pub ends_in : ℕ → List ℕ → Bool
ends_in number list = option_map_or (λ (last : ℕ). last == number) (slice_get list (length list - 1)) false

-- each of them is below a bound
abbrev pub AreBelow : ℕ → List ℕ → Type 0
AreBelow bound list = (number : ℕ) → is_among number list ≡ true → number < bound

-- a list without the first place of a number
abbrev pub without : ℕ → List ℕ → List ℕ
without number [] = []
without number (other ∷ others) = if other == number then others else other ∷ without number others

abbrev pub without_if : Bool → ℕ → List ℕ → List ℕ
without_if true number list = without number list
without_if false number list = list

-- a list with a number at its end, unless it is there
abbrev pub with_last : ℕ → List ℕ → List ℕ
with_last number list = if ends_in number list then list else list ++ number ∷ []

-- each is less than those after it
abbrev pub IsRising : List ℕ → Type 0
IsRising [] = Unit {0}
IsRising (number ∷ list) = AllByRecursion (λ (other : ℕ). number < other) list × IsRising list
