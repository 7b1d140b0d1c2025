-- What becomes of the parts when blobs that nobody holds go: list 1 of settling, and list 3. Own.
use Rattle.std.specs.Prelude.{ℕ, ◌≡◌, ◌<◌, ◌++◌, Bool, false, true, List, Option, fold, sum_by, IsSome}
use Rattle.answer_text.specs.declared.answer.Answer.{Answer}
use Rattle.answer_text.specs.declared.group.Group.{Group}
use Rattle.session_script.specs.declared.event.Event.{Event}
use Rattle.data_handles.specs.Table.{Table, is_claimed_at, object_at}
use Rattle.item_shares.specs.Shares.{item_at}
use Rattle.item_shares.specs.declared.item.Item.{Item}
use Rattle.item_shares.specs.declared.shares.Share.{Share}
use Rattle.blob_entries.specs.Book.{book_of}
use Rattle.blob_entries.specs.Counts.{count_at}
use Rattle.blob_registry.specs.Sweeps.{dropped, swept}
use Rattle.quota_queue.specs.Queue.{without}
use Rattle.blob_model.specs.Builds.{builds}
use Rattle.blob_model.specs.History.{History, after, has_ended, history_from, start}
use Rattle.blob_model.specs.Legal.{IsLegalFrom}
use Rattle.blob_model.specs.Live.{is_live}
use Rattle.blob_model.specs.Order.{Distinct}
use Rattle.blob_model.specs.Own.{IsOwn}
use Rattle.blob_model.specs.Session.{Session, page_limit}
use Rattle.blob_model.specs.Settle.{drops}
use Rattle.registry_laws.specs.Agree.{AgreesWith}
use Rattle.store_laws.specs.Items.{holds_slot}
use Rattle.store_laws.specs.LetGo.{left_by, let_go_by, AreFreed}
use Rattle.store_laws.specs.Settling.{after_drops}
use Rattle.store_laws.specs.Stands.{AreExact, Between, stood}
use Rattle.store_laws.specs.Weights.{range_weight}
use Rattle.blob_store.specs.declared.parts.Parts.{Parts}
use Rattle.blob_store.specs.Dropping.{settled_by}
use Rattle.blob_store.specs.Says.{Scene}
use Rattle.blob_store.specs.Seen.{parts_of}

-- an object is claimed and there, and those behind items are
abbrev pub HasObject : Table → ℕ → Type 0
HasObject table k = (is_claimed_at table k ≡ true) × IsSome (object_at table k)

abbrev pub HaveObjects : List (Option Share) → Table → Type 0
HaveObjects shares table = (k : ℕ) → holds_slot shares k ≡ true → HasObject table k

-- the entries that don't live went, with the items on which nothing has a view or a pin any more, those that the sweep freed and then pieces on
-- their way; the rows of the names dropped are settled, and the queue is without them
pub record EntriesGo (names : List ℕ) (freed : List Item) (old new : Parts) : Type 0 where
  pub book : new.registry ≡ book_of old.registry.names (swept old.registry.names 0 old.registry.entries)
  pub names_so : names ≡ dropped old.registry.names 0 old.registry.entries
  pub pieces : List Item
  pub no_range : (k : ℕ) → sum_by (range_weight k) pieces ≡ 0
  pub freed_so : AreFreed old.shares new.shares (freed ++ pieces)
  pub kept : (slot : ℕ) → 0 < count_at new.shares slot → item_at new.shares slot ≡ item_at old.shares slot
  pub pages : new.pages ≡ fold let_go_by old.pages (freed ++ pieces)
  pub recent : new.recent ≡ fold left_by old.recent (freed ++ pieces)
  pub rest : new ≡ record old {
    registry = new.registry;
    shares = new.shares;
    rows = fold (settled_by old.registry.names) old.rows names;
    quota = record old.quota {
      used = new.quota.used;
      waiting = fold (λ (list : List (ℕ × ℕ)) (name : ℕ). without name list) old.quota.waiting names;
    };
    pages = new.pages;
    recent = new.recent;
    held = new.held;
  }

-- the answers are those of the drops owed, and behind them the parts stand, with the live blobs and no others
pub record AreUnheld (s : Session) (h : History) (before later : List Answer) (now : Scene) : Type 0 where
  pub answers : later ≡ before ++ drops s h
  pub stands : Between s (after_drops s h) (is_live (page_limit s) h) (parts_of now.parts) now.told now.table
  pub exact : AreExact s (after_drops s h) (is_live (page_limit s) h)

-- so for each history for which the parts stand, whatever lives standing, whose names differ, and with which the entries agree
unfoldable pub Drops : List Answer → List Answer → Scene → Scene → Type 0
Drops before later old new =
    (s : Session) (h : History) (stands : ℕ → Bool) → Between s h stands (parts_of old.parts) old.told old.table → Distinct (builds (page_limit s) h)
    → AgreesWith (page_limit s) h old.parts.registry → ((name : ℕ) → is_live (page_limit s) h name ≡ true → stands name ≡ true) → AreUnheld s h before later new

-- and so behind the own answers of each line of a legal transcript that has not ended, once the line is counted and the parts stand
unfoldable pub DropsBehind : List Answer → List Answer → Scene → Scene → Type 0
DropsBehind before later old new =
    (s : Session) (groups : List Group) (event : Event) (own : List Answer) → IsLegalFrom s start groups → has_ended (history_from start groups) ≡ false
    → IsOwn s (history_from start groups) event own
    → Between s (after (history_from start groups) event own) (stood (page_limit s) (history_from start groups) event own) (parts_of old.parts) old.told
    old.table → AreUnheld s (after (history_from start groups) event own) before later new
