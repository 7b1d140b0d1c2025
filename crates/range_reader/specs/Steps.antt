-- What a step of a reader comes to. Own.
use Rattle.std.specs.Prelude.{ℕ, ◌≡◌, ◌+◌, ◌-◌, ◌^◌, false, List, ◌∷◌, ◌++◌, drop, min, take, Option}
use Rattle.std.specs.List.{list_any}
use Rattle.blob_words.specs.declared.number.PageNo.{PageNo}
use Rattle.blob_source.specs.Faults.{Rose}
use Rattle.page_disk.specs.declared.change.Change.{Change}
use Rattle.data_handles.specs.Table.{Table, counted_at, faults_at}
use Rattle.file_table.specs.declared.file_note.FileNote.{FileNote}
use Rattle.item_shares.specs.declared.item.Item.{Item}
use Rattle.item_shares.specs.declared.item.Item.TheVariants.{Memory, Paged, Reserved, File, Range}
use Rattle.item_shares.specs.declared.shares.Share.{Share}
use Rattle.blob_items.specs.declared.view.View.{View}
use Rattle.blob_items.specs.Cells.{cells}
use Rattle.range_reader.specs.Bytes.{Origins, origins, AreBytesOf, cell_byte, cell_fails, paged_count}
use Rattle.range_reader.specs.Places.{Course}

-- what a step asks of: where the bytes are, the disk's count of faults and its meter
pub record Asked : Type 0 where
  pub from : Origins
  pub faults : ℕ
  pub meter : ℕ

abbrev pub asked : List (List ℕ × FileNote) → Option (List Change) → Table → ℕ → ℕ → Asked
asked files changes handles faults meter = record { from = origins files changes handles; faults = faults; meter = meter }

-- the cells that a step with this room reads
abbrev pub next_cells : Course → ℕ → List View → List (ℕ × ℕ)
next_cells reader room views = take (min room (reader.stop - reader.place)) (drop reader.place (cells views))

-- nothing failed: the counts are as they were, and the disk read what lies in page files; a meter is told up to the greatest that a 64-bit number holds
pub record IsCalm (shares : List (Option Share)) (old new : Asked) (read : List (ℕ × ℕ)) : Type 0 where
  pub handles : new.from.handles ≡ old.from.handles
  pub faults : new.faults ≡ old.faults
  pub meter : min new.meter (2 ^ 64 - 1) ≡ min (old.meter + paged_count shares read) (2 ^ 64 - 1)

-- all cells were read: none fails, and the bytes are theirs
pub record AreRead (shares : List (Option Share)) (old new : Asked) (read : List (ℕ × ℕ)) (bytes : List ℕ) : Type 0 where
  pub fails : list_any (cell_fails old.from.files shares) read ≡ false
  pub bytes_are : AreBytesOf (cell_byte old.from shares) read bytes
  pub calm : IsCalm shares old new read

-- the first cell that keeps a step from its end: those before it don't fail
pub record StopsAt (shares : List (Option Share)) (old : Asked) (read front : List (ℕ × ℕ)) (cell : ℕ × ℕ) : Type 0 where
  pub rest : List (ℕ × ℕ)
  pub parts : read ≡ front ++ cell ∷ rest
  pub passes : list_any (cell_fails old.from.files shares) front ≡ false

-- an item is in this page file
abbrev pub IsInPage : PageNo → Item → Type 0
IsInPage page (Memory piece bytes) = ⊥
IsInPage page (Paged piece one off len) = one ≡ page
IsInPage page (Reserved piece len) = ⊥
IsInPage page (File name stamp off len) = ⊥
IsInPage page (Range slot off len) = ⊥

-- an item is of the data handle in this slot
abbrev pub IsOfHandle : ℕ → Item → Type 0
IsOfHandle slot (Memory piece bytes) = ⊥
IsOfHandle slot (Paged piece page off len) = ⊥
IsOfHandle slot (Reserved piece len) = ⊥
IsOfHandle slot (File name stamp off len) = ⊥
IsOfHandle slot (Range one off len) = one ≡ slot

-- nothing failed that counts
abbrev pub AreUncounted : Asked → Asked → Type 0
AreUncounted old new = (new.from.handles ≡ old.from.handles) × (new.faults ≡ old.faults)

-- the disk failed, and no handle
abbrev pub DiskFailed : Asked → Asked → Type 0
DiskFailed old new = (new.from.handles ≡ old.from.handles) × Rose old.faults new.faults

-- the object in a slot failed, and nothing else
abbrev pub HandleFailed : ℕ → Asked → Asked → Type 0
HandleFailed slot old new =
    (new.from.handles ≡ counted_at old.from.handles slot (faults_at new.from.handles slot)) × (new.faults ≡ old.faults)
    × Rose (faults_at old.from.handles slot) (faults_at new.from.handles slot)
