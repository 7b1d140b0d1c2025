-- Parts of a store that has heard nothing stand for what comes after the line of the limits. Own.
use Rattle.std.specs.Prelude.{ℕ, false, List, Option}
use Rattle.blob_words.specs.declared.limits.Limits.{Limits}
use Rattle.blob_words.specs.declared.version.Version.{Version}
use Rattle.data_handles.specs.Table.{Table}
use Rattle.page_disk.specs.declared.change.Change.{Change}
use Rattle.blob_model.specs.History.{start}
use Rattle.blob_model.specs.Legal.{session}
use Rattle.blob_model.specs.Session.{Outside}
use Rattle.store_laws.specs.LineLaws.{counted}
use Rattle.store_laws.specs.Stands.{Stands}
use Rattle.store_laws.specs.Tables.{DiskStands, HandlesStand}
use Rattle.blob_store.specs.declared.parts.Parts.{Parts}
use Rattle.blob_store.specs.Seen.{parts_of}

-- once that line is counted, beside a disk that tells no change and data handles of which none is claimed, whatever the outside is
unfoldable pub Begins : Limits → Version → Parts → Type 0
Begins limits version parts =
    (outside : Outside) (told : Option (List Change)) (table : Table) → DiskStands (session outside version limits) start told
    → HandlesStand outside.slots (λ (k : ℕ). false) (λ (k : ℕ). false) table
    → Stands (session outside version limits) start (counted (parts_of parts)) told table
