-- What a sweep leaves of the contents stands behind the drops. Own.
use Rattle.std.specs.Prelude.{ℕ, ◌≡◌, Bool, true, List, Option, fold, map}
use Rattle.answer_text.specs.declared.answer.Answer.TheVariants as answers
use Rattle.item_shares.specs.declared.item.Item.{Item}
use Rattle.item_shares.specs.declared.shares.Share.{Share}
use Rattle.blob_entries.specs.Book.{Book, book_of}
use Rattle.blob_registry.specs.Sweeps.{swept}
use Rattle.page_files.specs.Files.{Files}
use Rattle.quota_queue.specs.Queue.{Queue, without}
use Rattle.blob_model.specs.Builds.{builds}
use Rattle.blob_model.specs.History.{History}
use Rattle.blob_model.specs.Live.{is_live}
use Rattle.blob_model.specs.Session.{Session, page_limit}
use Rattle.blob_model.specs.Settle.{drops}
use Rattle.registry_laws.specs.Laws.{Describes}
use Rattle.store_laws.specs.LetGo.{left_by, let_go_by, AreFreed}
use Rattle.store_laws.specs.Rows.{Row}
use Rattle.store_laws.specs.Settling.{after_drops}
use Rattle.store_laws.specs.Stands.{ContentsStand}
use Rattle.store_laws.specs.SweepLaws.{rows_left, AreKept}

-- the queue without the blobs of these names, and with so many bytes used
abbrev pub queue_left : Queue → List ℕ → ℕ → Queue
queue_left quota names used =
    record quota { used = used; waiting = fold (λ (list : List (ℕ × ℕ)) (name : ℕ). without name list) quota.waiting names }

-- where items went but those that live blobs view or have on their way, and the names told are those of the drops owed, what is left stands for
-- the live blobs
abbrev pub SweptStands : Type 0
SweptStands =
    (s : Session) (h : History) (stands : ℕ → Bool) (book : Book) (shares : List (Option Share)) (rows : List (Option Row)) (quota : Queue) (files : Files)
    (order : List (ℕ × ℕ)) → ContentsStand s h stands book shares rows quota files order → Describes s h book
    → ((name : ℕ) → is_live (page_limit s) h name ≡ true → stands name ≡ true) → (later : List (Option Share)) (freed : List Item)
    → AreFreed shares later freed
    → AreKept (swept book.names 0 book.entries) (rows_left (is_live (page_limit s) h) (builds (page_limit s) h) rows) shares later → (names : List ℕ)
    → map (λ (name : ℕ). answers.Dropped name) names ≡ drops s h → (used : ℕ)
    → ContentsStand s (after_drops s h) (is_live (page_limit s) h) (book_of book.names (swept book.names 0 book.entries)) later
    (rows_left (is_live (page_limit s) h) (builds (page_limit s) h) rows) (queue_left quota names used) (fold let_go_by files freed) (fold left_by order freed)
