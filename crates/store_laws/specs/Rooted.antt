-- Who holds a blob: handles, URLs and readers; and entries that so many hold are rooted as their blobs are. Own.
use Rattle.std.specs.Prelude.{ℕ, ◌≡◌, ◌+◌, ◌==◌, Bool, List, Option, sum_by, if◌then◌else◌}
use Rattle.std.specs.List.Sorted.{IsStrictlySortedBy}
use Rattle.std.specs.Map.{keys_of, values_of}
use Rattle.std.specs.Option.{option_map_or}
use Rattle.std.specs.Ordering.{nat_cmp}
use Rattle.blob_entries.specs.Book.{Book, entry_of}
use Rattle.blob_entries.specs.declared.entry.Entry.{Entry}
use Rattle.data_handles.specs.Table.{Table as HandleTable}
use Rattle.page_disk.specs.declared.change.Change.{Change}
use Rattle.renderer_table.specs.Counts.{count_on}
use Rattle.renderer_table.specs.Table.{Table}
use Rattle.renderer_table.specs.declared.living.Living.{Living}
use Rattle.url_store.specs.declared.url.Url.{Url}
use Rattle.blob_model.specs.Builds.{builds}
use Rattle.blob_model.specs.History.{History}
use Rattle.blob_model.specs.Order.{Distinct}
use Rattle.blob_model.specs.Readers.{OpenReader}
use Rattle.blob_model.specs.Session.{Session, page_limit}
use Rattle.registry_laws.specs.Agree.{Beside}
use Rattle.store_laws.specs.AgreeLaws.{IsRootedAs}
use Rattle.store_laws.specs.Apart.{AreReadersApart, AreUrlsApart}
use Rattle.store_laws.specs.Stands.{Between, Parts}

-- how many handles living renderers have on the blob of this name
abbrev pub handles_of : ℕ → Table → ℕ
handles_of name table = sum_by (λ (one : Living). count_on name one.counts) (values_of table.living)

-- how many URLs lead to it
abbrev pub leads : ℕ → Url → ℕ
leads name url = if url.blob == name then 1 else 0

abbrev pub urls_of : ℕ → List (List ℕ × Url) → ℕ
urls_of name urls = sum_by (leads name) (values_of urls)

-- how many readers are open on it
abbrev pub reads : ℕ → OpenReader → ℕ
reads name reader = if reader.blob == name then 1 else 0

abbrev pub readers_of : ℕ → List (ℕ × OpenReader) → ℕ
readers_of name readers = sum_by (reads name) (values_of readers)

-- the roots that its entry has, none where nothing stands
abbrev pub roots_at : Book → ℕ → ℕ
roots_at book name = option_map_or (λ (entry : Entry). entry.roots) (entry_of book name) 0

-- entries have as many roots as there are handles, URLs and readers of their blobs
abbrev pub AreRooted : Parts → Type 0
AreRooted parts =
    (name : ℕ) → roots_at parts.book name ≡ handles_of name parts.renderers + urls_of name parts.urls + readers_of name parts.readers

-- the numbers of the living renderers are in order, and no two of them the same
abbrev pub AreInOrder : Table → Type 0
AreInOrder table = IsStrictlySortedBy nat_cmp (keys_of table.living)

-- so an entry has a root exactly where its blob is rooted in the history
abbrev pub RootsAgree : Type 0
RootsAgree =
    (s : Session) (h : History) (stands : ℕ → Bool) (parts : Parts) (told : Option (List Change)) (table : HandleTable) → Between s h stands parts told table
    → Distinct (builds (page_limit s) h) → AreUrlsApart h → AreReadersApart (page_limit s) h → AreInOrder parts.renderers → AreRooted parts
    → Beside (IsRootedAs (page_limit s) h) (builds (page_limit s) h) parts.book.entries
