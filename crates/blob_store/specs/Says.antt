-- What a line promises: its own answers are those that the history calls for, and the parts stand for the history with it. Own.
use Rattle.std.specs.Prelude.{◌≡◌, false, List, Option}
use Rattle.answer_text.specs.declared.answer.Answer.{Answer}
use Rattle.answer_text.specs.declared.group.Group.{Group}
use Rattle.session_script.specs.declared.event.Event.{Event}
use Rattle.data_handles.specs.Table.{Table}
use Rattle.page_disk.specs.declared.change.Change.{Change}
use Rattle.blob_model.specs.History.{History, after, has_ended, history_from, start}
use Rattle.blob_model.specs.Legal.{IsLegalFrom}
use Rattle.blob_model.specs.Own.{IsOwn}
use Rattle.blob_model.specs.Session.{Session, page_limit}
use Rattle.store_laws.specs.LineLaws.{counted}
use Rattle.store_laws.specs.Stands.{Between, Stands, stood}
use Rattle.blob_store.specs.declared.parts.Parts.{Parts}
use Rattle.blob_store.specs.Seen.{parts_of}

-- the parts, what the disk tells and the data handles
pub record Scene : Type 0 where
  pub parts : Parts
  pub told : Option (List Change)
  pub table : Table

abbrev pub scene : Parts → Option (List Change) → Table → Scene
scene parts told table = record { parts = parts; told = told; table = table }

-- an event was heard with these answers of its own; once it is counted the parts stand for the history with it, where what it built stands, and
-- what lived before it
pub record IsHeard (s : Session) (h : History) (event : Event) (own : List Answer) (now : Scene) : Type 0 where
  pub is_own : IsOwn s h event own
  pub stands : Between s (after h event own) (stood (page_limit s) h event own) (counted (parts_of now.parts)) now.told now.table

-- so for each legal transcript that has not ended and for which the parts stood
unfoldable pub Says : Event → List Answer → Scene → Scene → Type 0
Says event own old new =
    (s : Session) (groups : List Group) → IsLegalFrom s start groups → has_ended (history_from start groups) ≡ false
    → Stands s (history_from start groups) (parts_of old.parts) old.told old.table → IsHeard s (history_from start groups) event own new
