-- What a group keeps in memory: lists with room for what is to come. Own.
use Rattle.std.specs.Prelude.{ℕ, ◌+◌, ◌-◌, ◌<◌, ◌≤◌, List, [], ◌∷◌, ◌++◌, length, Option, IfSome}
use Rattle.blob_words.specs.declared.number.PageNo.{PageNo}
use Rattle.page_disk.specs.declared.change.Change.{Change}
use Rattle.page_disk.specs.declared.change.Change.TheVariants.{Put}
use Rattle.page_volumes.specs.declared.filed.Filed.{Filed}
use Rattle.page_volumes.specs.declared.writing.Writing.{Writing}

-- the bytes that came, and for how many more there is room
pub record Bytes : Type 0 where
  pub bytes : List ℕ
  pub room : ℕ

-- what was done, for how much more there is room, and the bytes that came to the open write
pub record Kept : Type 0 where
  pub changes : List Change
  pub spare : ℕ
  pub incoming : Bytes

-- the pages filed, and for how many more there is room
pub record Book : Type 0 where
  pub filed : List Filed
  pub spare : ℕ

-- nothing was done
abbrev pub new_log : Kept
new_log = record { changes = []; spare = 0; incoming = record { bytes = []; room = 0 } }

-- a write begins
abbrev pub started : Kept → Kept
started kept = record kept { incoming = record kept.incoming { bytes = [] } }

-- bytes came to the open write
abbrev pub taken : List ℕ → Kept → Kept
taken bytes kept = record kept { incoming = record { bytes = kept.incoming.bytes ++ bytes; room = kept.incoming.room - length bytes } }

-- the page was put with the bytes that came
abbrev pub sealed : PageNo → Kept → Kept
sealed page kept = record { changes = kept.changes ++ Put page kept.incoming.bytes ∷ []; spare = kept.spare - 1; incoming = record { bytes = []; room = 0 } }

-- one change more
abbrev pub noted : Change → Kept → Kept
noted change kept = record kept { changes = kept.changes ++ change ∷ []; spare = kept.spare - 1 }

-- there is room for the end of a write and for the removal of each file, and for so many bytes
abbrev pub CanFile : ℕ → Book → Option Kept → Type 0
CanFile len files log = (0 < files.spare) × IfSome log (λ (log : Kept). (length files.filed + 2 ≤ log.spare) × (len ≤ log.incoming.room))

-- there is room for the removal of each file
abbrev pub CanRemove : Book → Option Kept → Type 0
CanRemove files log = IfSome log (λ (log : Kept). length files.filed ≤ log.spare)

-- there is room for what an open write needs, and for the removal of each file
abbrev pub HasRoom : Book → Option Writing → Option Kept → Type 0
HasRoom files write log = IfSome write (λ (write : Writing). (0 < files.spare)
    × IfSome log (λ (log : Kept). (length files.filed + 2 ≤ log.spare) × (write.len ≤ write.came + log.incoming.room)))
    × CanRemove files log
