-- What the entries of a store keep with the items that they view, and with the rows beside them. Own.
use Rattle.std.specs.Prelude.{ℕ, ◌≡◌, ◌+◌, ◌<◌, ◌≤◌, ◌^◌, false, true, List, filter}
use Rattle.std.specs.Prelude.{flat_map, length, slice_get, slice_index, Option, None, Some, IfSome, IsSome, IsSomeAnd}
use Rattle.std.specs.List.{AllByRecursion}
use Rattle.blob_words.specs.declared.status.Status.{Status}
use Rattle.blob_words.specs.declared.status.Status.TheVariants.{PendingQuota, PendingTransport}
use Rattle.item_shares.specs.Shares.{item_at}
use Rattle.item_shares.specs.Weights.{weights}
use Rattle.item_shares.specs.declared.item.Item.{Item}
use Rattle.item_shares.specs.declared.item.Item.TheVariants.{Reserved}
use Rattle.item_shares.specs.declared.shares.Share.{Share}
use Rattle.blob_items.specs.declared.view.View.{View}
use Rattle.blob_entries.specs.Book.{Book, entry_at}
use Rattle.blob_entries.specs.Contents.{is_own}
use Rattle.blob_entries.specs.Counts.{count_at}
use Rattle.blob_entries.specs.Holdings.{held_views, views_in}
use Rattle.blob_entries.specs.Names.{number_of}
use Rattle.blob_entries.specs.Statuses.{is_pending}
use Rattle.blob_entries.specs.Weights.{cut_weight}
use Rattle.blob_entries.specs.declared.entry.Entry.{Entry}
use Rattle.blob_entries.specs.declared.step.Step.{Step}
use Rattle.blob_entries.specs.declared.step.Step.TheVariants.{Own, Fixed, Source}
use Rattle.page_files.specs.Files.{source_of, Files}
use Rattle.page_files.specs.declared.job.Job.{Job}
use Rattle.quota_queue.specs.Queue.{Queue}
use Rattle.recent_items.specs.Recent.{is_there}
use Rattle.store_laws.specs.Items.{item_length}
use Rattle.store_laws.specs.Pageable.{is_flying}
use Rattle.store_laws.specs.PartLaws.{own_steps, piece_lengths}
use Rattle.store_laws.specs.Weights.{memory_weight, piece_weight, reserved_weight}
use Rattle.blob_store.specs.Rows.{bytes_gathered, pieces_gathered, pieces_of_row, pins, waiting}
use Rattle.blob_store.specs.Stored.{row_weights}
use Rattle.blob_store.specs.declared.row.Row.{Row}
use Rattle.blob_store.specs.declared.row.Sending.{Sending}
use Rattle.blob_store.specs.declared.row.Sending.TheVariants.{Settled, Waiting, Gathering, Writing}

-- ---- views

-- a view lies inside the item of its slot
abbrev pub IsInside : List (Option Share) → View → Type 0
IsInside shares view = IsSomeAnd (item_at shares view.slot) (λ (item : Item). view.off + view.len ≤ item_length item)

-- the bytes of an item can be asked for
abbrev pub IsThere : Item → Type 0
IsThere (Reserved piece len) = ⊥
IsThere item = Unit {0}

-- the views of an entry lie inside items, which are there
pub record Views (shares : List (Option Share)) (entry : Entry) : Type 0 where
  pub inside : AllByRecursion (IsInside shares) (held_views entry)
  pub there : AllByRecursion (λ (view : View). IfSome (item_at shares view.slot) IsThere) (held_views entry)

-- the blob that a step is of was built
abbrev pub IsKnown : List ℕ → Step → Type 0
IsKnown names (Own piece len) = Unit {0}
IsKnown names (Fixed view) = Unit {0}
IsKnown names (Source name off len) = IsSome (number_of name names)

-- an entry has so many bytes at most, and its steps are of blobs that were built
abbrev pub AreKnown : List ℕ → Entry → Type 0
AreKnown names entry = (entry.size ≤ 2 ^ 62) × AllByRecursion (IsKnown names) entry.recipe

-- the weights of the blobs bound the views that each entry has or will have
abbrev pub AreWeighed : Book → List ℕ → Type 0
AreWeighed book weights =
    (number : ℕ) → IfSome (entry_at book.entries number)
    (λ (entry : Entry). length (held_views entry) + cut_weight book.names weights entry.recipe ≤ slice_index weights number)

-- a slot counts the views on it, and one more while its piece is on its way to a page file, when nothing views it; what is charged, reserved and
-- counted is what the items and the gathered bytes take
pub record Charged (entries : List (Option Entry)) (shares : List (Option Share)) (rows : List Row) (quota : Queue) (files : Files) (held : ℕ) : Type 0 where
  pub counts : (slot : ℕ) → count_at shares slot ≡ views_in entries slot + pins slot rows
  pub unpinned : (slot : ℕ) → 0 < views_in entries slot → pins slot rows ≡ 0
  pub used : quota.used ≡ weights memory_weight shares + bytes_gathered rows
  pub reserved : files.reserved ≡ weights reserved_weight shares
  pub held_so : held ≡ weights piece_weight shares + pieces_gathered rows

-- ---- entries and rows

-- how bytes come for a blob of this status: they wait until it is granted, and come until it has them
abbrev pub Comes : Status → Option (List View) → Sending → Type 0
Comes status own Settled = Unit {0}
Comes status own Waiting = (status ≡ PendingQuota) × (own ≡ None)
Comes status own (Gathering segments) = (status ≡ PendingTransport) × (own ≡ None)
Comes status own (Writing slots came) = (status ≡ PendingTransport) × (own ≡ None)

-- a piece is neither in the order of use nor in a page job in flight; one that is in a page file may be moved out of it
abbrev pub IsUnused : List (ℕ × ℕ) → Option Job → ℕ → Type 0
IsUnused order job piece = (is_there piece order ≡ false) × (source_of job ≡ None → is_flying piece job ≡ false)

-- the same of the pieces of a blob
abbrev pub AreUnused : ℕ → List (ℕ × ℕ) → Option Job → Row → Type 0
AreUnused page order job row = (piece : ℕ) → row.first ≤ piece → piece < row.first + pieces_of_row page row → IsUnused order job piece

-- an unfinished blob has a step for each of its pieces, none of which was used yet
pub record Awaits (page : ℕ) (order : List (ℕ × ℕ)) (job : Option Job) (row : Row) (entry : Entry) : Type 0 where
  pub comes : Comes entry.status entry.own row.sending
  pub owned : is_pending entry.status ≡ true → filter is_own entry.recipe ≡ own_steps row.first (flat_map (piece_lengths page) row.lengths)
  pub unused : is_pending entry.status ≡ true → AreUnused page order job row

-- bytes come for blobs that stand alone
abbrev pub IsAwaited : ℕ → List (ℕ × ℕ) → Option Job → Option Entry → Row → Type 0
IsAwaited page order job None row = row.sending ≡ Settled
IsAwaited page order job (Some entry) row = Awaits page order job row entry

-- ---- all of them

pub record Blobs (page : ℕ) (book : Book) (shares : List (Option Share)) (rows : List Row) (quota : Queue) (files : Files) (order : List (ℕ × ℕ)) (held : ℕ)
    : Type 0 where
  pub charged : Charged book.entries shares rows quota files held
  pub views : (number : ℕ) → IfSome (entry_at book.entries number) (Views shares)
  -- each blob has a name of its own, and a row
  pub names : (number : ℕ) → IfSome (slice_get book.names number) (λ (name : ℕ). number_of name book.names ≡ Some number)
  pub each_row : length rows ≡ length book.names
  pub awaited : (number : ℕ) → IfSome (slice_get rows number) (IsAwaited page order files.job (entry_at book.entries number))
  pub waits : quota.waiting ≡ waiting book.names rows
  pub known : (number : ℕ) → IfSome (entry_at book.entries number) (AreKnown book.names)
  pub weighed : AreWeighed book (row_weights rows)
