-- What items, page files, charges and the rows of blobs keep among themselves, whoever views or holds them. Own.
use Rattle.std.specs.Prelude.{ℕ, ◌≡◌, ◌+◌, ◌<◌, ◌≤◌, ◌^◌, ◌-◌, ◌==◌, ◌&&◌, Bool, false, true, List, [], ◌∷◌, flat_map, length, map, slice_get, sum}
use Rattle.std.specs.Prelude.{Option, None, Some, IfSome, IsSomeAnd}
use Rattle.std.specs.Int.{div_ceil}
use Rattle.std.specs.List.{AllByRecursion, list_any}
use Rattle.blob_words.specs.declared.bounds.TheConstants.{MOST_PIECES, MOST_WEIGHT}
use Rattle.blob_words.specs.declared.limits.Limits.{Limits}
use Rattle.blob_words.specs.declared.number.PageNo.{PageNo}
use Rattle.blob_words.specs.declared.plan.Plan.TheVariants as plans
use Rattle.item_shares.specs.Shares.{item_at}
use Rattle.item_shares.specs.Weights.{weights}
use Rattle.item_shares.specs.declared.item.Item.{Item}
use Rattle.item_shares.specs.declared.item.Item.TheVariants.{Memory, Paged, Reserved, File, Range}
use Rattle.item_shares.specs.declared.shares.Share.{Share}
use Rattle.page_files.specs.Files.{Files, left_of, page_no, source_of}
use Rattle.page_files.specs.Items.{IsMemoryIn, IsPagedIn}
use Rattle.page_files.specs.Pages.{pieces_at}
use Rattle.page_files.specs.declared.held.Held.{Held}
use Rattle.page_files.specs.declared.page.Page.{Page}
use Rattle.quota_queue.specs.Queue.{Queue}
use Rattle.store_laws.specs.Items.{holds_piece}
use Rattle.store_laws.specs.PartLaws.{piece_lengths}
use Rattle.store_laws.specs.Weights.{range_weight}
use Rattle.blob_store.specs.Rows.{all_waiting, pieces_of_row, pieces_to_come, AreInTurn}
use Rattle.blob_store.specs.declared.row.Row.{Row}
use Rattle.blob_store.specs.declared.row.Sending.{Sending}
use Rattle.blob_store.specs.declared.row.Sending.TheVariants.{Settled, Waiting, Gathering, Writing}

-- ---- items

-- the item of a piece is in the slot that is the home of the piece; so no piece has two items
abbrev pub IsHome : List ℕ → ℕ → Item → Type 0
IsHome homes slot (Memory piece bytes) = slice_get homes piece.0 ≡ Some slot
IsHome homes slot (Paged piece page off len) = slice_get homes piece.0 ≡ Some slot
IsHome homes slot (Reserved piece len) = slice_get homes piece.0 ≡ Some slot
IsHome homes slot (File name stamp off len) = Unit {0}
IsHome homes slot (Range handle off len) = Unit {0}

-- an item in a page file is listed there with its slot, its offset and its length, and ends inside a 64-bit number; so does one of a data handle
abbrev pub IsListed : List Page → ℕ → Item → Type 0
IsListed pages slot (Memory piece bytes) = Unit {0}
IsListed pages slot (Paged piece page off len) =
    (off + len ≤ 2 ^ 64 - 1)
    × (list_any (λ (held : Held). (held.piece.0 == piece.0) && (held.slot == slot) && (held.off == off) && (held.len == len)) (pieces_at pages page.0) ≡ true)
IsListed pages slot (Reserved piece len) = Unit {0}
IsListed pages slot (File name stamp off len) = Unit {0}
IsListed pages slot (Range handle off len) = off + len ≤ 2 ^ 64 - 1

-- what a slot holds
pub record IsHeld (homes : List ℕ) (pages : List Page) (slot : ℕ) (item : Item) : Type 0 where
  pub home : IsHome homes slot item
  pub listed : IsListed pages slot item

-- ---- page files, the job, and the order of use

-- a piece of the job in flight is in memory, or in the page file out of which the job moves it
abbrev pub IsOfJob : List (Option Share) → Option PageNo → Held → Type 0
IsOfJob shares None held = IsMemoryIn shares held
IsOfJob shares (Some page) held = IsPagedIn page shares held

-- a piece in the order of use is in memory, with this length
abbrev pub IsMemory : ℕ × ℕ → Item → Type 0
IsMemory used (Memory piece bytes) = (piece.0 ≡ used.0) × (length bytes ≡ used.1)
IsMemory used item = ⊥

abbrev pub IsInMemory : List (Option Share) → List ℕ → ℕ × ℕ → Type 0
IsInMemory shares homes used = IsSomeAnd (slice_get homes used.0) (λ (slot : ℕ). IsSomeAnd (item_at shares slot) (IsMemory used))

-- ---- rows

-- the pieces of a blob that are to come, from its first one on, are no items
abbrev pub AreUnheld : ℕ → List (Option Share) → Row → Type 0
AreUnheld page shares row =
    (number : ℕ) → row.first ≤ number → number < row.first + pieces_to_come page row.lengths row.sending → holds_piece shares number ≡ false

-- the item of a piece that goes to a page file: it is there once its segment came, and room is reserved for it before
abbrev pub IsOnItsWay : ℕ → ℕ → Bool → Item → Type 0
IsOnItsWay number len true (Paged piece page off size) = (piece.0 ≡ number) × (size ≡ len)
IsOnItsWay number len false (Reserved piece size) = (piece.0 ≡ number) × (size ≡ len)
IsOnItsWay number len came item = ⊥

-- there are as many slots as pieces of these lengths, and each holds its piece
abbrev pub AreOnTheirWay : List (Option Share) → ℕ → List ℕ → List ℕ → List Bool → Type 0
AreOnTheirWay shares number [] [] [] = Unit {0}
AreOnTheirWay shares number (len ∷ lengths) (slot ∷ slots) (one ∷ came) =
    IsSomeAnd (item_at shares slot) (IsOnItsWay number len one) × AreOnTheirWay shares (number + 1) lengths slots came
AreOnTheirWay shares number lengths slots came = ⊥

-- bytes that wait are those of a shared plan; gathered segments are of the blob's own parts, cut into pieces by the page size; slots are those of its pieces
abbrev pub IsSendingOf : Limits → List (Option Share) → Row → Sending → Type 0
IsSendingOf limits shares row Settled = Unit {0}
IsSendingOf limits shares row Waiting = row.plan ≡ Some (plans.Shared (div_ceil (sum row.lengths) limits.segment))
IsSendingOf limits shares row (Gathering segments) = (segments.parts ≡ row.lengths) × (segments.page ≡ limits.page)
IsSendingOf limits shares row (Writing slots came) = AreOnTheirWay shares row.first (flat_map (piece_lengths limits.page) row.lengths) slots came

pub record RowStored (limits : Limits) (shares : List (Option Share)) (row : Row) : Type 0 where
  -- the pieces that are to come are some of its own, so that pieces of later blobs are none of them
  pub own : pieces_to_come limits.page row.lengths row.sending ≤ pieces_of_row limits.page row
  pub unheld : AreUnheld limits.page shares row
  pub sending : IsSendingOf limits shares row row.sending

abbrev pub row_weights : List Row → List ℕ
row_weights rows = map (λ (row : Row). row.weight) rows

-- ---- all of them

pub record Stored (limits : Limits) (homes : List ℕ) (shares : List (Option Share)) (rows : List Row) (quota : Queue) (files : Files)
    (recent : List (ℕ × ℕ)) (held weight : ℕ) : Type 0 where
  pub items : (slot : ℕ) → IfSome (item_at shares slot) (IsHeld homes files.pages slot)
  pub ranges : (k : ℕ) → weights (range_weight k) shares ≤ 1
  -- page files, the job in flight and the order of use
  pub pages : (number : ℕ) → AllByRecursion (IsPagedIn (page_no number) shares) (pieces_at files.pages number)
  pub job : AllByRecursion (IsOfJob shares (source_of files.job)) (left_of files.job)
  pub order : AllByRecursion (IsInMemory shares homes) recent
  -- rows: pieces are numbered in turn, and those held and those that wait are no more than all
  pub rows_stored : (number : ℕ) → IfSome (slice_get rows number) (RowStored limits shares)
  pub in_turn : AreInTurn limits.page 0 rows (length homes)
  pub enough : held + all_waiting limits.page rows ≤ length homes
  pub most : length homes ≤ MOST_PIECES
  -- limits and weights
  pub memory_limit : quota.limit ≡ limits.memory
  pub disk_limit : files.limit ≡ limits.disk
  pub weight_so : weight ≡ sum (row_weights rows)
  pub light : weight ≤ MOST_WEIGHT
