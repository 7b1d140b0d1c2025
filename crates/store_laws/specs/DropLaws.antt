-- What the drops of one list of settling leave of a store's parts and of its data handles. Own.
use Rattle.std.specs.Prelude.{ℕ, ◌≡◌, ◌≤◌, Bool, true, List, Option, fold, map}
use Rattle.answer_text.specs.declared.answer.Answer.TheVariants as answers
use Rattle.data_handles.specs.Table.{Table as HandleTable}
use Rattle.page_disk.specs.declared.change.Change.{Change}
use Rattle.item_shares.specs.Weights.{weights}
use Rattle.item_shares.specs.declared.item.Item.{Item}
use Rattle.item_shares.specs.declared.shares.Share.{Share}
use Rattle.blob_entries.specs.Book.{book_of}
use Rattle.blob_registry.specs.Sweeps.{dropped, swept}
use Rattle.blob_model.specs.Builds.{builds}
use Rattle.blob_model.specs.History.{History}
use Rattle.blob_model.specs.Live.{is_live}
use Rattle.blob_model.specs.Session.{Session, page_limit}
use Rattle.blob_model.specs.Settle.{drops}
use Rattle.registry_laws.specs.Laws.{Describes}
use Rattle.store_laws.specs.LetGo.{left_by, let_go_by, AreFreed}
use Rattle.store_laws.specs.Releasing.{released_by, AreReleasable}
use Rattle.store_laws.specs.Settling.{after_drops}
use Rattle.store_laws.specs.Stands.{AreExact, Between, Parts}
use Rattle.store_laws.specs.SweepLaws.{rows_left, AreKept}
use Rattle.store_laws.specs.Swept.{queue_left}
use Rattle.store_laws.specs.Weights.{range_weight}

-- the parts without what doesn't live: these items went and those are left, and so many bytes are used
abbrev pub swept_parts : Session → History → List (Option Share) → List Item → ℕ → Parts → Parts
swept_parts s h later freed used parts = record parts {
  book = book_of parts.book.names (swept parts.book.names 0 parts.book.entries);
  shares = later;
  rows = rows_left (is_live (page_limit s) h) (builds (page_limit s) h) parts.rows;
  quota = queue_left parts.quota (dropped parts.book.names 0 parts.book.entries) used;
  pages = fold let_go_by parts.pages freed;
  recent = fold left_by parts.recent freed;
}

-- the names that the sweep drops are those owed, the objects of the items that went can be dropped, and then the parts stand behind the drops,
-- where the live blobs stand and no others
pub record AreDropped (s : Session) (h : History) (parts : Parts) (told : Option (List Change)) (table : HandleTable) (later : List (Option Share))
    (freed : List Item) (used : ℕ) : Type 0 where
  pub owed : map (λ (name : ℕ). answers.Dropped name) (dropped parts.book.names 0 parts.book.entries) ≡ drops s h
  pub releasable : AreReleasable table freed
  pub stands : Between s (after_drops s h) (is_live (page_limit s) h) (swept_parts s h later freed used parts) told (fold released_by table freed)
  pub exact : AreExact s (after_drops s h) (is_live (page_limit s) h)

-- where items went but those that live blobs view or have on their way
abbrev pub DropsStand : Type 0
DropsStand =
    (s : Session) (h : History) (stands : ℕ → Bool) (parts : Parts) (told : Option (List Change)) (table : HandleTable)
    → Between s h stands parts told table → Describes s h parts.book → ((name : ℕ) → is_live (page_limit s) h name ≡ true → stands name ≡ true)
    → ((k : ℕ) → weights (range_weight k) parts.shares ≤ 1) → (later : List (Option Share)) (freed : List Item) → AreFreed parts.shares later freed
    → AreKept (swept parts.book.names 0 parts.book.entries) (rows_left (is_live (page_limit s) h) (builds (page_limit s) h) parts.rows) parts.shares later
    → (used : ℕ) → AreDropped s h parts told table later freed used
