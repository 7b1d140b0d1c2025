-- What the late lists of settling promise, those behind the drops of list 3: each tells what is owed, and the parts stand for the history with it. Own.
use Rattle.std.specs.Prelude.{◌≡◌, ◌++◌, List}
use Rattle.answer_text.specs.declared.answer.Answer.{Answer}
use Rattle.blob_model.specs.History.{History, said_all}
use Rattle.blob_model.specs.Session.{Session}
use Rattle.store_laws.specs.Late.{AreOwed, IsLate}
use Rattle.blob_store.specs.Says.{Scene}
use Rattle.blob_store.specs.Seen.{parts_of}

-- these answers more were told, and behind them the parts stand, the live blobs and no others
pub record SaysMore (s : Session) (h : History) (more before later : List Answer) (now : Scene) : Type 0 where
  pub answers : later ≡ before ++ more
  pub late : IsLate s (said_all h more) (parts_of now.parts) now.told now.table

-- the answers of this list are told, for each history for which the parts stand so
unfoldable pub Tells : (Session → History → List Answer) → List Answer → List Answer → Scene → Scene → Type 0
Tells list before later old new =
    (s : Session) (h : History) → IsLate s h (parts_of old.parts) old.told old.table → SaysMore s h (list s h) before later new

-- the removals owed are told, some of which may have failed
unfoldable pub Removes : List Answer → List Answer → Scene → Scene → Type 0
Removes before later old new =
    (s : Session) (h : History) → IsLate s h (parts_of old.parts) old.told old.table
    → (removed : List Answer) × AreOwed s h removed × SaysMore s h removed before later new
