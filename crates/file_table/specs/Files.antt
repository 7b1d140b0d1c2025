-- What a session tells of its files, by name, in the order of the names. Own.
use Rattle.std.specs.Prelude.{ℕ, ◌≡◌, ◌==◌, ◌&&◌, Bool, false, List, if◌then◌else◌, length, nat_le, Option, Some, None, option_and_then}
use Rattle.std.specs.Option.{option_map}
use Rattle.std.specs.Ordering.{nat_cmp}
use Rattle.std.specs.Cmp.Lexicographic.{slice_cmp}
use Rattle.std.specs.Str.{bytes_eq}
use Rattle.std.specs.Map.{lookup}
use Rattle.std.specs.BTreeMap.{insert_entry}
use Rattle.blob_words.specs.declared.bounds.TheConstants.{MOST_FILES}
use Rattle.file_table.specs.declared.file_note.FileNote.{FileNote}
use Rattle.file_table.specs.declared.file_note.FileState.{FileState}
use Rattle.file_table.specs.declared.fault.NoteFault.{NoteFault}
use Rattle.file_table.specs.declared.fault.NoteFault.TheVariants.{StaleStamp, Full, NoMemory}

-- what is known of a name
abbrev pub note_of : List ℕ → List (List ℕ × FileNote) → Option FileNote
note_of name files = lookup (bytes_eq name) files

-- the content recorded under a name, where it isn't gone
abbrev pub content_of : List ℕ → List (List ℕ × FileNote) → Option (List ℕ)
content_of name files = option_and_then (λ note. note.bytes) (note_of name files)

-- the state that a note records
abbrev pub recorded : FileNote → Option FileState
recorded note = option_map (λ bytes. record { stamp = note.last; len = length bytes }) note.bytes

-- the state in which a file is recorded now (File API: the snapshot state of a file)
abbrev pub state_of : List ℕ → List (List ℕ × FileNote) → Option FileState
state_of name files = option_and_then recorded (note_of name files)

-- the files with this note under the name, which goes to its place in the order; the others stay
abbrev pub noted : List ℕ → FileNote → List (List ℕ × FileNote) → List (List ℕ × FileNote)
noted name note files = insert_entry (slice_cmp nat_cmp) files name note

-- why a content with this stamp may not be taken: of a known name its stamp must rise, and of new names only so many are taken
abbrev pub fault_of : ℕ → ℕ → Option FileNote → Option NoteFault
fault_of stamp count (Some note) = if nat_le stamp note.last then Some (StaleStamp note.last) else None
fault_of stamp count None = if nat_le MOST_FILES count then Some Full else None

-- a fault is the one that is due; want of memory comes only where none is
abbrev pub IsCause : NoteFault → Option NoteFault → Type 0
IsCause (StaleStamp last) due = due ≡ Some (StaleStamp last)
IsCause Full due = due ≡ Some Full
IsCause NoMemory due = due ≡ None

-- whether a file is at this stamp with at least so many bytes
abbrev pub is_readable : ℕ → ℕ → Option FileState → Bool
is_readable stamp end (Some state) = (state.stamp == stamp) && nat_le end state.len
is_readable stamp end None = false
