-- What holds of a group that is made list by list. Own.
use Rattle.std.specs.Prelude.{◌≡◌, ℕ, false, true, List}
use Rattle.blob_words.specs.declared.tally.Tally.{Tally}
use Rattle.session_script.specs.declared.event.Event.{Event}
use Rattle.answer_text.specs.declared.answer.Answer.{Answer}
use Rattle.answer_text.specs.declared.group.Group.{Group}
use Rattle.blob_model.specs.Session.{Session, page_limit}
use Rattle.blob_model.specs.History.{History, after, has_ended, history_from, start}
use Rattle.blob_model.specs.Legal.{IsLegalFrom, IsLegalGroup, left_files}
use Rattle.blob_model.specs.Live.{is_live, live}
use Rattle.blob_model.specs.Own.{IsOwn}
use Rattle.blob_model.specs.Settle.{removals}
use Rattle.blob_model.specs.Tally.{tally}
use Rattle.store_laws.specs.Settling.{after_all, after_late_drops, answers_of}
use Rattle.store_laws.specs.Stands.{stood}

-- a line with its own answers, and removals that are those owed but for the page files that they leave
pub record Hears (s : Session) (h : History) (event : Event) (own removed : List Answer) : Type 0 where
  pub is_own : IsOwn s h event own
  pub removed_owed : removed ≡ removals s (left_files removed) (after_late_drops s (after h event own))

-- own answers and the seven lists make a legal group, and the history behind it is the one behind the last list
pub record MakesGroup (s : Session) (h : History) (event : Event) (own removed : List Answer) (counted : Tally) : Type 0 where
  pub legal : IsLegalGroup s h (record { event = event; answers = answers_of s own removed (after h event own); tally = counted })
  pub behind : after h event (answers_of s own removed (after h event own)) ≡ after_all s removed (after h event own)

abbrev pub GroupLegal : Type 0
GroupLegal =
    (s : Session) (h : History) (event : Event) (own removed : List Answer) (counted : Tally) → Hears s h event own removed → has_ended h ≡ false
    → counted ≡ tally (page_limit s) (after_all s removed (after h event own))
    → MakesGroup s h event own removed counted

-- the lists behind the drops of list 3 change no life
abbrev pub LateListsKeepLives : Type 0
LateListsKeepLives =
    (s : Session) (h : History) (removed : List Answer) → removed ≡ removals s (left_files removed) (after_late_drops s h)
    → live (page_limit s) (after_all s removed h) ≡ live (page_limit s) (after_late_drops s h)

-- in a legal transcript, whatever lives after a line's own answers lived before the line or was built by it
abbrev pub OwnLives : Type 0
OwnLives =
    (s : Session) (groups : List Group) (event : Event) (own : List Answer) → IsLegalFrom s start groups → IsOwn s (history_from start groups) event own
    → (name : ℕ) → is_live (page_limit s) (after (history_from start groups) event own) name ≡ true
    → stood (page_limit s) (history_from start groups) event own name ≡ true
