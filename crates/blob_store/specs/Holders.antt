-- What renderers, URLs and readers keep with the roots of the entries that they hold. Own.
use Rattle.std.specs.Prelude.{ℕ, ◌≡◌, ◌≤◌, false, List, length, None, IfSome, IsSome, IsSomeAnd}
use Rattle.blob_words.specs.declared.bounds.TheConstants.{MOST_READERS}
use Rattle.blob_entries.specs.Book.{Book, entry_of}
use Rattle.blob_entries.specs.Statuses.{is_broken}
use Rattle.blob_entries.specs.declared.entry.Entry.{Entry}
use Rattle.renderer_table.specs.Counted.{origin_at}
use Rattle.renderer_table.specs.Table.{Table, was_spawned}
use Rattle.url_store.specs.Urls.{own_url, url_at}
use Rattle.url_store.specs.declared.url.Url.{Url}
use Rattle.blob_store.specs.Readers.{is_own, reader_at}
use Rattle.blob_store.specs.Roots.{roots_at, roots_in}
use Rattle.blob_store.specs.declared.readers.OpenReader.{OpenReader}

-- a reader is of a blob that stands, and of its size unless it is broken
abbrev pub IsOpen : Book → OpenReader → Type 0
IsOpen book reader = IsSomeAnd (entry_of book reader.blob) (λ (entry : Entry). is_broken entry.status ≡ false → reader.course.size ≡ entry.size)

-- who owns a reader or a URL is alive
abbrev pub IsRead : Table → OpenReader → Type 0
IsRead renderers reader = IsSome (origin_at reader.owner.0 renderers)

abbrev pub IsMade : Table → Url → Type 0
IsMade renderers url = IsSome (origin_at url.owner.0 renderers)

pub record Owned (renderers : Table) (made : List (List ℕ × Url)) (open_readers : List (ℕ × OpenReader)) : Type 0 where
  pub readers : (number : ℕ) → IfSome (reader_at number open_readers) (IsRead renderers)
  pub urls : (text : List ℕ) → IfSome (url_at text made) (IsMade renderers)

pub record Holders (book : Book) (renderers : Table) (made : List (List ℕ × Url)) (open_readers : List (ℕ × OpenReader)) (lines : ℕ) : Type 0 where
  pub living : (number : ℕ) → was_spawned number renderers ≡ false → origin_at number renderers ≡ None
  pub roots : (name : ℕ) → roots_at book name ≡ roots_in renderers made open_readers name
  -- a line gives a blob one root at most
  pub few : (name : ℕ) → roots_at book name ≤ lines
  pub readers : (number : ℕ) → IfSome (reader_at number open_readers) (IsOpen book)
  pub owned : Owned renderers made open_readers
  pub opened : length open_readers ≤ MOST_READERS

-- no open reader, and no URL, is this renderer's
abbrev pub IsUnread : ℕ → List (ℕ × OpenReader) → Type 0
IsUnread owner open_readers = (number : ℕ) → is_own owner (reader_at number open_readers) ≡ false

abbrev pub IsUnlinked : ℕ → List (List ℕ × Url) → Type 0
IsUnlinked owner made = (text : List ℕ) → own_url owner text made ≡ None
