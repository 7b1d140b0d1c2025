-- What reads and writes of pages leave on a disk. Own.
use Rattle.std.specs.Prelude.{ℕ, ◌≡◌, List, [], drop, take, Option, Result, Ok, Err}
use Rattle.std.specs.Option.{option_map_or}
use Rattle.std.specs.List.{flat_map}
use Rattle.blob_words.specs.declared.number.PageNo.{PageNo}
use Rattle.blob_source.specs.Faults.{Rose}
use Rattle.page_disk.specs.declared.change.Change.{Change}
use Rattle.page_disk.specs.declared.change.Change.TheVariants.{Put, Torn}
use Rattle.page_disk.specs.declared.fault.PutFault.{PutFault}
use Rattle.page_disk.specs.declared.fault.PutFault.TheVariants as faults
use Rattle.page_disk.specs.Changes.{last_put, with_change}
use Rattle.page_files.specs.declared.held.Held.{Held}

-- the write of these bytes to a page: it is put, or torn by a fault that was counted, or did not begin for want of memory
abbrev pub Wrote : PageNo → List ℕ → Option (List Change) → Option (List Change) → ℕ → ℕ → Result Unit PutFault → Type 0
Wrote page bytes old new count later (Ok done) = (new ≡ with_change (Put page bytes) old) × (later ≡ count)
Wrote page bytes old new count later (Err faults.Failed) = (new ≡ with_change (Torn page) old) × Rose count later
Wrote page bytes old new count later (Err faults.NoMemory) = (new ≡ old) × (later ≡ count)

-- the bytes of a piece in a page
abbrev pub range_of : PageNo → List Change → Held → List ℕ
range_of page changes held = option_map_or (λ bytes. take held.len (drop held.off bytes)) (last_put page.0 changes) []

-- the bytes of pieces in a page, one after the other
abbrev pub read_of : PageNo → List Change → List Held → List ℕ
read_of page changes pieces = flat_map (range_of page changes) pieces
