-- The lines of a source, each of so many bytes at most. Own.
use Rattle.std.specs.Prelude.{ℕ, ◌≡◌, ◌==◌, ◌+◌, ◌<◌, ◌≤◌, Bool, false, List, [], ◌∷◌, ◌++◌, length, Option, IfSome}
use Rattle.std.specs.List.{list_any}
use Rattle.std.specs.Io.KnownBytes.{Consumes, IsAtEnd}
use Rattle.blob_words.specs.declared.bounds.TheConstants.{LONGEST_LINE}
use Rattle.blob_source.specs.declared.line_step.LineStep.{LineStep}
use Rattle.blob_source.specs.declared.line_step.LineStep.TheVariants.{Line, End, Unended, TooLong, ReadFault}

-- whether a line feed (U+000A) stands among the bytes
abbrev pub has_line_feed : List ℕ → Bool
has_line_feed bytes = list_any (λ byte. byte == 10) bytes

-- a reader of lines: the bytes read and not taken yet, the last line, and the last answer
pub record Reading : Type 0 where
  pub ahead : List ℕ
  pub line : List ℕ
  pub last : LineStep

-- what an answer says of the bytes that were left before and are left after it, and of the line
abbrev pub Takes : Option (List ℕ) → Option (List ℕ) → List ℕ → LineStep → Type 0
Takes old new line Line = (length line ≤ LONGEST_LINE) × (has_line_feed line ≡ false) × Consumes old new (line ++ 10 ∷ [])
Takes old new line End = IsAtEnd old
Takes old new line Unended = (0 < length line) × (length line ≤ LONGEST_LINE) × (has_line_feed line ≡ false) × IfSome old (λ bytes. bytes ≡ line)
Takes old new line TooLong = (length line ≡ LONGEST_LINE + 1) × (has_line_feed line ≡ false) × Consumes old new line
Takes old new line ReadFault = Unit {0}
