-- What `tally` answers: how much there is of what the parts have. It changes nothing. Own.
use Rattle.std.specs.Prelude.{[], ◌∷◌, List, Option, length}
use Rattle.answer_text.specs.declared.answer.Answer.{Answer}
use Rattle.answer_text.specs.declared.answer.Answer.TheVariants as answers
use Rattle.answer_text.specs.declared.group.Group.{Group}
use Rattle.session_script.specs.declared.event.Event.TheVariants as events
use Rattle.blob_entries.specs.Standing.{standing}
use Rattle.data_handles.specs.Table.{Table as HandleTable}
use Rattle.page_disk.specs.declared.change.Change.{Change}
use Rattle.blob_model.specs.History.{heard, history_from, start}
use Rattle.blob_model.specs.Legal.{IsLegalFrom}
use Rattle.blob_model.specs.Live.{is_live}
use Rattle.blob_model.specs.Own.{IsOwn}
use Rattle.blob_model.specs.Session.{Session, page_limit}
use Rattle.store_laws.specs.LineLaws.{counted}
use Rattle.store_laws.specs.Stands.{Between, Parts, Stands}

-- how many blobs stand, how many URLs, open readers and waiting blobs there are, and whether paging is on
abbrev pub how_many : Parts → Answer
how_many parts =
    answers.Held (length (standing parts.book.names parts.book.entries)) (length parts.urls) (length parts.readers) (length parts.quota.waiting)
    parts.pages.paging

-- in a legal transcript it is the answer to `tally`, and the parts stand for the history with it
pub record TellsHowMany : Type 0 where
  pub is_own : (s : Session) (groups : List Group) (parts : Parts) (told : Option (List Change)) (table : HandleTable) → IsLegalFrom s start groups
      → Stands s (history_from start groups) parts told table → IsOwn s (history_from start groups) events.Count (how_many parts ∷ [])
  pub stands : (s : Session) (groups : List Group) (parts : Parts) (told : Option (List Change)) (table : HandleTable) → IsLegalFrom s start groups
      → Stands s (history_from start groups) parts told table
      → Between s (heard (history_from start groups) events.Count (how_many parts)) (is_live (page_limit s) (history_from start groups)) (counted parts) told
      table
