-- Which of so many numbers in a row are those of pieces, and the least number behind them. Own; no public call cites it.
use Rattle.std.specs.List.{fold}
use Rattle.std.specs.Option.{option_map_or}
use Rattle.std.specs.Prelude.{Bool, List, MatchOption, None, Option, Some, [], false, filter, if◌then◌else◌, length, min, nat_lt}
use Rattle.std.specs.Prelude.{set, slice_index_or, true, ℕ, ◌+◌, ◌-◌, ◌<◌, ◌^◌, ◌++◌, ◌∷◌, ◌≡◌}
use Rattle.blob_registry.specs.Dependents.{listed_if}
use Rattle.blob_words.specs.declared.number.PieceNo.{PieceNo}

-- a mark for each of the numbers from a start on, and the least number behind them that came, if one did
pub record Marks : Type 0 where
  pub start : ℕ
  pub marks : List Bool
  pub next : Option ℕ

-- a number came that is not before the start
abbrev pub put : ℕ → Marks → Marks
put number window =
    if nat_lt (number - window.start) (length window.marks) then record window { marks = set window.marks (number - window.start) true } else record window
    { next = Some (option_map_or (min number) window.next number) }

abbrev pub taken : Marks → PieceNo → Marks
taken window piece = if nat_lt piece.0 window.start then window else put piece.0 window

abbrev pub taken_if : Marks → Option PieceNo → Marks
taken_if window piece = option_map_or (taken window) piece window

-- pieces came, one after the other
abbrev pub taken_all : Marks → List PieceNo → Marks
taken_all window pieces = fold taken window pieces

-- the numbers that are marked, from a number on
abbrev pub listed : ℕ → List Bool → List ℕ
listed number [] = []
listed number (mark ∷ marks) = listed_if mark number ++ listed (number + 1) marks

-- nothing came
pub record IsBlank (start : ℕ) (window : Marks) : Type 0 where
  pub from : window.start ≡ start
  pub some : 0 < length window.marks
  pub none : (place : ℕ) → slice_index_or window.marks place false ≡ false
  pub next : window.next ≡ None

-- each mark is of a 32-bit number
abbrev pub AreNumbers : ℕ → List Bool → Type 0
AreNumbers start marks = (place : ℕ) → slice_index_or marks place false ≡ true → start + place < 2 ^ 32

-- of a rising list the numbers below a bound
abbrev pub below : ℕ → List ℕ → List ℕ
below bound set = filter (λ (number : ℕ). nat_lt number bound) set

-- a window has those of a set from its start on, and says where the set goes on behind it
abbrev pub GoesOn : List ℕ → ℕ → Marks → Type 0
GoesOn set start window =
    MatchOption window.next (set ≡ below start set ++ listed window.start window.marks)
    (λ (next : ℕ). (start < next) × (below next set ≡ below start set ++ listed window.start window.marks))
