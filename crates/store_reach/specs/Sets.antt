-- Numbers as a set: rising, each once. Own.
use Rattle.std.specs.Prelude.{List, [], if◌then◌else◌, nat_lt, ℕ, ◌==◌, ◌∷◌}

-- a rising list with a number at its place, unless it is there
abbrev pub with_number : ℕ → List ℕ → List ℕ
with_number number [] = number ∷ []
with_number number (other ∷ others) =
    if nat_lt number other then number ∷ other ∷ others else if number == other then other ∷ others else other ∷ with_number number others

-- the numbers of a list, rising, each once
abbrev pub as_set : List ℕ → List ℕ
as_set [] = []
as_set (number ∷ numbers) = with_number number (as_set numbers)
