-- The contents stand where items go that no entry views and no piece on its way is in, while nothing is said. Own.
use Rattle.std.specs.Prelude.{ℕ, Bool, List, Option, fold}
use Rattle.item_shares.specs.declared.item.Item.{Item}
use Rattle.item_shares.specs.declared.shares.Share.{Share}
use Rattle.blob_entries.specs.Book.{Book}
use Rattle.page_files.specs.Files.{Files}
use Rattle.quota_queue.specs.Queue.{Queue}
use Rattle.blob_model.specs.History.{History}
use Rattle.blob_model.specs.Session.{Session}
use Rattle.store_laws.specs.LetGo.{left_by, let_go_by, AreFreed}
use Rattle.store_laws.specs.Rows.{Row}
use Rattle.store_laws.specs.Stands.{ContentsStand}
use Rattle.store_laws.specs.SweepLaws.{AreKept}

-- so the pieces on their way of a blob that broke may go once its row is settled
abbrev pub UnpinnedStands : Type 0
UnpinnedStands =
    (s : Session) (h : History) (stands : ℕ → Bool) (book : Book) (shares : List (Option Share)) (rows : List (Option Row)) (quota : Queue) (files : Files)
    (order : List (ℕ × ℕ)) → ContentsStand s h stands book shares rows quota files order → (later : List (Option Share)) (freed : List Item)
    → AreFreed shares later freed → AreKept book.entries rows shares later → (used : ℕ)
    → ContentsStand s h stands book later rows (record quota { used = used }) (fold let_go_by files freed) (fold left_by order freed)
