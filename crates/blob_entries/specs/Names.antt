-- Names in the order in which they came; the place of a name is its build number. Own.
use Rattle.std.specs.Option.{option_map}
use Rattle.std.specs.Prelude.{List, None, Option, Some, [], if◌then◌else◌, ℕ, ◌+◌, ◌==◌, ◌∷◌}

-- the place of a name
abbrev pub number_of : ℕ → List ℕ → Option ℕ
number_of name [] = None
number_of name (other ∷ names) = if name == other then Some 0 else option_map (λ (number : ℕ). number + 1) (number_of name names)
