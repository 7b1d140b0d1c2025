-- What a call makes of the names, read name by name, and how many are known then. Own.
use Rattle.std.specs.Prelude.{ℕ, ◌≡◌, ◌+◌, List, if◌then◌else◌, is_some, length, Some}
use Rattle.std.specs.Str.{bytes_eq}
use Rattle.file_table.specs.declared.file_note.FileNote.{FileNote}
use Rattle.file_table.specs.Files.{note_of}

-- this note stands under this name, and every other name has what it had
pub record Notes (name : List ℕ) (note : FileNote) (old new : List (List ℕ × FileNote)) : Type 0 where
  pub each : (other : List ℕ) → note_of other new ≡ (if bytes_eq name other then Some note else note_of other old)
  pub many : length new ≡ length old + (if is_some (note_of name old) then 0 else 1)
