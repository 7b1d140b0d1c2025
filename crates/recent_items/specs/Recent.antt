-- Pieces by their last use, each a number with its length in bytes, the earliest first. Own.
use Rattle.std.specs.Prelude.{ℕ, ◌-◌, ◌++◌, Bool, List, [], ◌∷◌, if◌then◌else◌, map, nat_eq, nat_le, not}
use Rattle.std.specs.List.{filter, list_any}

-- whether a piece is there
abbrev pub is_there : ℕ → List (ℕ × ℕ) → Bool
is_there piece pieces = list_any (λ entry. nat_eq piece entry.0) pieces

-- the other pieces, in their order
abbrev pub without : ℕ → List (ℕ × ℕ) → List (ℕ × ℕ)
without piece pieces = filter (λ entry. not (nat_eq piece entry.0)) pieces

-- the piece goes behind the others, where it is there
abbrev pub touched : ℕ → List (ℕ × ℕ) → List (ℕ × ℕ)
touched piece pieces = without piece pieces ++ filter (λ entry. nat_eq piece entry.0) pieces

-- the shortest prefix whose lengths sum to at least `need`, or all where none does
abbrev pub enough : ℕ → List (ℕ × ℕ) → List (ℕ × ℕ)
enough need [] = []
enough need (entry ∷ pieces) = if nat_le need 0 then [] else entry ∷ enough (need - entry.1) pieces

-- the pieces before the first with which the lengths would sum to more than `most`
abbrev pub within : ℕ → List (ℕ × ℕ) → List (ℕ × ℕ)
within most [] = []
within most (entry ∷ pieces) = if nat_le entry.1 most then entry ∷ within (most - entry.1) pieces else []

-- the pieces to page: enough of the earliest ones, as far as they fit
abbrev pub victims : ℕ → ℕ → List (ℕ × ℕ) → List ℕ
victims need most pieces = map (λ entry. entry.0) (within most (enough need pieces))
