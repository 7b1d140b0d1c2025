-- What becomes of the bytes that come for a blob once it is dropped. Own.
use Rattle.std.specs.Prelude.{ℕ, ◌≡◌, ◌+◌, ◌<◌, ◌≤◌, ◌==◌, List, count_by, fold, length, set, slice_get, sum_by, IfSome, IsSomeAnd}
use Rattle.std.specs.Option.{option_map_or}
use Rattle.item_shares.specs.Shares.{item_at, HoldsPiece}
use Rattle.item_shares.specs.Weights.{weights}
use Rattle.item_shares.specs.declared.item.Item.{Item}
use Rattle.blob_entries.specs.Counts.{count_at}
use Rattle.blob_entries.specs.Holdings.{views_in}
use Rattle.blob_entries.specs.Names.{number_of}
use Rattle.page_disk.specs.declared.change.Change.{Change}
use Rattle.page_files.specs.Files.{Agrees}
use Rattle.store_laws.specs.LetGo.{left_by, let_go_by, AreFreed}
use Rattle.store_laws.specs.Weights.{memory_weight, piece_weight, range_weight, reserved_weight}
use Rattle.blob_store.specs.Blobs.{Charged}
use Rattle.blob_store.specs.declared.parts.Parts.{Parts}
use Rattle.blob_store.specs.declared.row.Row.{Row}
use Rattle.blob_store.specs.declared.row.Sending.{Sending}
use Rattle.blob_store.specs.declared.row.Sending.TheVariants.{Settled, Waiting, Gathering, Writing}
use Rattle.blob_store.specs.Rows.{bytes_gathered, pieces_gathered, pins}

-- a row for whose blob no bytes come any more
abbrev pub settled_row : Row → Row
settled_row row = record row { sending = Settled }

-- rows of which that of a number is settled, if there is one
abbrev pub settled_at : ℕ → List Row → List Row
settled_at number rows = option_map_or (λ (row : Row). set rows number (settled_row row)) (slice_get rows number) rows

-- rows of which that of a name is settled, if there is one
abbrev pub settled_by : List ℕ → List Row → ℕ → List Row
settled_by names rows name = option_map_or (λ (number : ℕ). settled_at number rows) (number_of name names) rows

-- gathered segments are of the row's own parts, cut into pieces by the page size
abbrev pub AreOwn : ℕ → List ℕ → Sending → Type 0
AreOwn page lengths Settled = Unit {0}
AreOwn page lengths Waiting = Unit {0}
AreOwn page lengths (Gathering segments) = (segments.parts ≡ lengths) × (segments.page ≡ page)
AreOwn page lengths (Writing slots came) = Unit {0}

-- counts and charges, with one pin more on each of these slots, and with so many gathered bytes and pieces more than the rows tell
pub record ChargedBeside (slots : List ℕ) (bytes pieces : ℕ) (parts : Parts) : Type 0 where
  pub counts : (slot : ℕ) → count_at parts.shares slot
      ≡ views_in parts.registry.entries slot + (pins slot parts.rows + count_by (λ (one : ℕ). one == slot) slots)
  pub unpinned : (slot : ℕ) → 0 < views_in parts.registry.entries slot → pins slot parts.rows + count_by (λ (one : ℕ). one == slot) slots ≡ 0
  pub used : parts.quota.used ≡ weights memory_weight parts.shares + (bytes_gathered parts.rows + bytes)
  pub reserved : parts.pages.reserved ≡ weights reserved_weight parts.shares
  pub held_so : parts.held ≡ weights piece_weight parts.shares + (pieces_gathered parts.rows + pieces)

-- what lets rows be settled one after the other: counts and charges are those of entries and rows, and what is pinned is a piece
pub record CanSettle (parts : Parts) : Type 0 where
  pub charged : Charged parts.registry.entries parts.shares parts.rows parts.quota parts.pages parts.held
  pub pinned : (slot : ℕ) → 0 < pins slot parts.rows → IsSomeAnd (item_at parts.shares slot) HoldsPiece
  pub own : (number : ℕ) → IfSome (slice_get parts.rows number) (λ (row : Row). AreOwn parts.limits.page row.lengths row.sending)
  pub limit : parts.quota.limit ≡ parts.limits.memory
  pub each_row : length parts.rows ≡ length parts.registry.names

-- items of pieces went, with what is kept of their pieces; an item that has a view or a pin is where it was
pub record PiecesGo (old new : Parts) : Type 0 where
  pub freed : List Item
  pub freed_so : AreFreed old.shares new.shares freed
  pub kept : (slot : ℕ) → 0 < count_at new.shares slot → item_at new.shares slot ≡ item_at old.shares slot
  pub no_range : (k : ℕ) → sum_by (range_weight k) freed ≡ 0
  pub pages : new.pages ≡ fold let_go_by old.pages freed
  pub recent : new.recent ≡ fold left_by old.recent freed

-- rows became these, and the queue these: what the bytes took that come no more is given back
pub record RowsGo (rows : List Row) (waiting : List (ℕ × ℕ)) (old new : Parts) : Type 0 where
  pub settles : CanSettle new
  pub goes : PiecesGo old new
  pub fewer : (slot : ℕ) → count_at new.shares slot ≤ count_at old.shares slot
  pub rest : new ≡ record old {
    shares = new.shares;
    rows = rows;
    quota = record old.quota { used = new.quota.used; waiting = waiting };
    pages = new.pages;
    recent = new.recent;
    held = new.held;
  }
  pub agrees : (changes : List Change) → Agrees old.pages.pages changes → Agrees new.pages.pages changes
