-- What holds right behind a line's own answers, so that the drops owed can be told. Own.
use Rattle.std.specs.Prelude.{ℕ, ◌≡◌, Bool, true, false, List, Option}
use Rattle.answer_text.specs.declared.answer.Answer.{Answer}
use Rattle.answer_text.specs.declared.group.Group.{Group}
use Rattle.blob_entries.specs.Book.{Book}
use Rattle.data_handles.specs.Table.{Table as HandleTable}
use Rattle.page_disk.specs.declared.change.Change.{Change}
use Rattle.session_script.specs.declared.event.Event.{Event}
use Rattle.blob_model.specs.Builds.{builds}
use Rattle.blob_model.specs.History.{History, after, has_ended, history_from, start}
use Rattle.blob_model.specs.Legal.{IsLegalFrom}
use Rattle.blob_model.specs.Live.{is_live}
use Rattle.blob_model.specs.Order.{Distinct}
use Rattle.blob_model.specs.Own.{IsOwn}
use Rattle.blob_model.specs.Session.{Session, page_limit}
use Rattle.registry_laws.specs.Agree.{AgreesWith}
use Rattle.store_laws.specs.Rooted.{AreInOrder, AreRooted}
use Rattle.store_laws.specs.Stands.{Between, Parts, stood}

-- the names of the blobs differ, the entries agree with the history, and whatever lives stands
pub record CanDrop (s : Session) (h : History) (stands : ℕ → Bool) (book : Book) : Type 0 where
  pub distinct : Distinct (builds (page_limit s) h)
  pub agree : AgreesWith (page_limit s) h book
  pub living : (name : ℕ) → is_live (page_limit s) h name ≡ true → stands name ≡ true

-- so in a legal transcript that has not ended, where the parts stand behind a line's own answers and entries have the roots that the tables give
abbrev pub LinesCanDrop : Type 0
LinesCanDrop =
    (s : Session) (groups : List Group) (event : Event) (own : List Answer) (parts : Parts) (told : Option (List Change)) (table : HandleTable)
    → IsLegalFrom s start groups → has_ended (history_from start groups) ≡ false → IsOwn s (history_from start groups) event own
    → Between s (after (history_from start groups) event own) (stood (page_limit s) (history_from start groups) event own) parts told table
    → AreInOrder parts.renderers → AreRooted parts
    → CanDrop s (after (history_from start groups) event own) (stood (page_limit s) (history_from start groups) event own) parts.book
