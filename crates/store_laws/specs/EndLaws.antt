-- What the endings of a pass leave of a store's parts. Own.
use Rattle.std.specs.Prelude.{ℕ, ◌≡◌, Bool, true, List, Option, Some, filter_map, flat_map, fold, map, sum_by}
use Rattle.data_handles.specs.Table.{Table as HandleTable}
use Rattle.page_disk.specs.declared.change.Change.{Change}
use Rattle.item_shares.specs.declared.item.Item.{Item}
use Rattle.item_shares.specs.declared.shares.Share.{Share}
use Rattle.blob_entries.specs.Book.{Book}
use Rattle.blob_entries.specs.Counted.{SameItems}
use Rattle.blob_registry.specs.Passes.{Finishes}
use Rattle.blob_registry.specs.declared.ended_blob.EndedBlob.{EndedBlob}
use Rattle.blob_model.specs.History.{History}
use Rattle.blob_model.specs.Session.{Session}
use Rattle.blob_model.specs.Settle.{endings}
use Rattle.registry_laws.specs.Agree.{AgreesInMarks}
use Rattle.registry_laws.specs.Laws.{ending_answer, Describes}
use Rattle.store_laws.specs.Items.{holds_piece, piece_at}
use Rattle.store_laws.specs.LetGo.{left_by, let_go_by, AreFreed}
use Rattle.store_laws.specs.Pageable.{pageable_at}
use Rattle.store_laws.specs.Passing.{after_pass, done_pieces, ended_names, entered, rows_passed}
use Rattle.store_laws.specs.Stands.{Between, Parts}
use Rattle.store_laws.specs.SweepLaws.{AreKept}
use Rattle.store_laws.specs.Swept.{queue_left}
use Rattle.store_laws.specs.Weights.{range_weight}

-- what a pass made of entries and items, and how they ended; the slot that is the home of each piece; and what is left of the items once those
-- went that were on their way for blobs that broke
pub record Passed : Type 0 where
  pub book : Book
  pub shares : List (Option Share)
  pub list : List EndedBlob
  pub home : ℕ → ℕ
  pub later : List (Option Share)
  pub freed : List Item

-- the order of use with the pieces of those that got done as the latest
abbrev pub order_passed : Session → History → Passed → Parts → List (ℕ × ℕ)
order_passed s h passed parts =
    fold entered parts.recent (filter_map (pageable_at passed.shares parts.pages.job passed.home) (flat_map (done_pieces s h) passed.list))

abbrev pub passed_parts : Session → History → Passed → ℕ → Parts → Parts
passed_parts s h passed used parts = record parts {
  book = passed.book;
  shares = passed.later;
  rows = rows_passed s h parts.rows;
  quota = queue_left parts.quota (ended_names passed.list) used;
  pages = fold let_go_by parts.pages passed.freed;
  recent = fold left_by (order_passed s h passed parts) passed.freed;
}

-- what a store's calls give of it
pub record Passes (s : Session) (h : History) (parts : Parts) (passed : Passed) : Type 0 where
  pub finishes : Finishes parts.book passed.book passed.list
  pub same : SameItems parts.book.entries passed.book.entries parts.shares passed.shares
  pub homes : (number : ℕ) → holds_piece passed.shares number ≡ true → piece_at passed.shares (passed.home number) ≡ Some number
  pub freed_so : AreFreed passed.shares passed.later passed.freed
  pub kept : AreKept passed.book.entries (rows_passed s h parts.rows) passed.shares passed.later
  pub no_range : (k : ℕ) → sum_by (range_weight k) passed.freed ≡ 0

-- the endings told are those owed, and behind them the parts stand, the same blobs standing
pub record AreEnded (s : Session) (h : History) (stands : ℕ → Bool) (parts : Parts) (told : Option (List Change)) (table : HandleTable) (passed : Passed)
    (used : ℕ) : Type 0 where
  pub owed : map ending_answer passed.list ≡ endings s h
  pub stand : Between s (after_pass s h) stands (passed_parts s h passed used parts) told table

abbrev pub EndingsStand : Type 0
EndingsStand =
    (s : Session) (h : History) (stands : ℕ → Bool) (parts : Parts) (told : Option (List Change)) (table : HandleTable)
    → Between s h stands parts told table → Describes s h parts.book → AgreesInMarks s h parts.book → (passed : Passed) → Passes s h parts passed
    → (used : ℕ) → AreEnded s h stands parts told table passed used
