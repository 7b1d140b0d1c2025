-- How the bytes of a line come together, part by part. Own.
use Rattle.std.specs.Prelude.{ℕ, ◌≡◌, ◌+◌, ◌<◌, ◌≤◌, false, List, [], ◌∷◌, ◌++◌, length, Option}
use Rattle.std.specs.Io.KnownBytes.{Keeps, IsAtEnd}
use Rattle.blob_words.specs.declared.bounds.TheConstants.{LONGEST_LINE}
use Rattle.blob_source.specs.Lines.{has_line_feed}
use Rattle.blob_source.specs.declared.filled.Filled.{Filled}
use Rattle.blob_source.specs.declared.filled.Filled.TheVariants as fills
use Rattle.blob_source.specs.declared.piece.Piece.{Piece}
use Rattle.blob_source.specs.declared.piece.Piece.TheVariants as pieces

-- what reading ahead says of the bytes that were left before and are left after it, and of those ahead
abbrev pub Fills : Option (List ℕ) → Option (List ℕ) → List ℕ → Filled → Type 0
Fills old new ahead fills.Some = Keeps old new × (0 < length ahead)
Fills old new ahead fills.End = IsAtEnd old
Fills old new ahead fills.Fault = Unit {0}

-- a part without a line feed went from the bytes ahead to the line, and the bytes `gone` went after it
pub record Moves (old new line longer gone : List ℕ) : Type 0 where
  pub part : List ℕ
  pub plain : has_line_feed part ≡ false
  pub ahead : old ≡ (part ++ gone) ++ new
  pub line_is : longer ≡ line ++ part

-- what a step says of the bytes ahead and the line, before and after it
abbrev pub TakesPiece : List ℕ → List ℕ → List ℕ → List ℕ → Piece → Type 0
TakesPiece old new line longer pieces.Line = Moves old new line longer (10 ∷ []) × (length longer ≤ LONGEST_LINE)
TakesPiece old new line longer pieces.TooLong = Moves old new line longer [] × (length longer ≡ LONGEST_LINE + 1)
TakesPiece old new line longer pieces.More = Moves old new line longer [] × (length longer ≤ LONGEST_LINE) × (length line < length longer)
