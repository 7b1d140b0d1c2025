-- The byte that a cell of views stands for, where it is told. File API: a read gives the bytes of the parts named at construction.
use Rattle.std.specs.Prelude.{ℕ, ◌≡◌, ◌+◌, ◌==◌, Bool, true, false, List, [], ◌∷◌, drop, not, slice_get, Option, Some, None, option_and_then, option_map, if◌then◌else◌, IfSome}
use Rattle.std.specs.Option.{option_map_or}
use Rattle.std.specs.List.{count_by}
use Rattle.page_disk.specs.declared.change.Change.{Change}
use Rattle.page_disk.specs.Changes.{last_put}
use Rattle.data_handles.specs.Table.{Table, object_at}
use Rattle.file_table.specs.declared.file_note.FileNote.{FileNote}
use Rattle.file_table.specs.Files.{note_of, state_of, is_readable}
use Rattle.item_shares.specs.declared.item.Item.{Item}
use Rattle.item_shares.specs.declared.item.Item.TheVariants.{Memory, Paged, Reserved, File, Range}
use Rattle.item_shares.specs.declared.shares.Share.{Share}
use Rattle.item_shares.specs.Shares.{item_at}

-- where the bytes of items are: the recorded files, what the disk did, where it tells, and the data handles
pub record Origins : Type 0 where
  pub files : List (List ℕ × FileNote)
  pub changes : Option (List Change)
  pub handles : Table

abbrev pub origins : List (List ℕ × FileNote) → Option (List Change) → Table → Origins
origins files changes handles = record { files = files; changes = changes; handles = handles }

-- the recorded bytes of a file at a stamp
abbrev pub bytes_at : ℕ → Option FileNote → Option (List ℕ)
bytes_at stamp note = option_and_then (λ (one : FileNote). if one.last == stamp then one.bytes else None) note

-- the bytes of an item from its first one on, where they are told: a page's are those last put into it
abbrev pub item_bytes : Origins → Item → Option (List ℕ)
item_bytes from (Memory piece bytes) = Some bytes
item_bytes from (Paged piece page off len) = option_map (drop off) (option_and_then (last_put page.0) from.changes)
item_bytes from (Reserved piece len) = None
item_bytes from (File name stamp off len) = option_map (drop off) (bytes_at stamp (note_of name from.files))
item_bytes from (Range slot off len) = option_map (drop off) (option_and_then (λ handle. handle.told) (object_at from.handles slot))

-- the byte of an item at a place
abbrev pub item_byte : Origins → ℕ → Item → Option ℕ
item_byte from place item = option_and_then (λ bytes. slice_get bytes place) (item_bytes from item)

-- the byte of a cell, which is a slot and a place in its item
abbrev pub cell_byte : Origins → List (Option Share) → ℕ × ℕ → Option ℕ
cell_byte from shares cell = option_and_then (item_byte from cell.1) (item_at shares cell.0)

-- as many bytes as cells, each the byte of its cell where that is told
abbrev pub AreBytesOf : (ℕ × ℕ → Option ℕ) → List (ℕ × ℕ) → List ℕ → Type 0
AreBytesOf byte [] [] = Unit {0}
AreBytesOf byte [] (one ∷ bytes) = ⊥
AreBytesOf byte (cell ∷ cells) [] = ⊥
AreBytesOf byte (cell ∷ cells) (one ∷ bytes) = IfSome (byte cell) (λ told. one ≡ told) × AreBytesOf byte cells bytes

-- an item fails at a place where it is of a file that isn't recorded at its stamp, or is too short (File API: NotReadableError)
abbrev pub item_fails : List (List ℕ × FileNote) → ℕ → Item → Bool
item_fails files place (File name stamp off len) = not (is_readable stamp (off + place + 1) (state_of name files))
item_fails files place item = false

abbrev pub cell_fails : List (List ℕ × FileNote) → List (Option Share) → ℕ × ℕ → Bool
cell_fails files shares cell = option_map_or (item_fails files cell.1) (item_at shares cell.0) false

-- whether an item is in a page file
abbrev pub is_paged : Item → Bool
is_paged (Paged piece page off len) = true
is_paged item = false

-- how many of the cells are in page files
abbrev pub paged_count : List (Option Share) → List (ℕ × ℕ) → ℕ
paged_count shares cells = count_by (λ (cell : ℕ × ℕ). option_map_or is_paged (item_at shares cell.0) false) cells
