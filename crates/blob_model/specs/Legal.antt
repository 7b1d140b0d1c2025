-- What a legal transcript is. Own.
use Rattle.std.specs.Prelude.{◌≡◌, ℕ, false, List, [], ◌∷◌, ◌++◌, flat_map}
use Rattle.blob_words.specs.declared.limits.Limits.{Limits}
use Rattle.blob_words.specs.declared.version.Version.{Version}
use Rattle.blob_words.specs.declared.version.Version.TheVariants.{One, Two}
use Rattle.session_script.specs.declared.event.Event.{Event}
use Rattle.session_script.specs.declared.event.Event.TheVariants as events
use Rattle.answer_text.specs.declared.answer.Answer.{Answer}
use Rattle.answer_text.specs.declared.answer.Answer.TheVariants as answers
use Rattle.answer_text.specs.declared.group.Group.{Group}
use Rattle.blob_model.specs.Session.{Outside, Session, page_limit}
use Rattle.blob_model.specs.History.{History, start, after, has_ended}
use Rattle.blob_model.specs.Tally.{tally}
use Rattle.blob_model.specs.Settle.{settle}
use Rattle.blob_model.specs.Own.{IsOwn}

-- the page file that an answer leaves
abbrev pub left_file : Answer → List ℕ
left_file (answers.Left file) = file.0 ∷ []
left_file answer = []

-- the page files that could not be removed, as the answers tell
abbrev pub left_files : List Answer → List ℕ
left_files list = flat_map left_file list

-- a group after a history: no line comes after the `end` line; the line's own answers come first, then what was owed, all of it; and the tally counts what is
-- reached then
pub record IsLegalGroup (s : Session) (h : History) (group : Group) : Type 0 where
  pub open_still : has_ended h ≡ false
  pub own : List Answer
  pub is_own : IsOwn s h group.event own
  pub settles : group.answers ≡ own ++ settle s (left_files group.answers) (after h group.event own)
  pub counts : group.tally ≡ tally (page_limit s) (after h group.event group.answers)

-- groups after a history
abbrev pub IsLegalFrom : Session → History → List Group → Type 0
IsLegalFrom s h [] = Unit {0}
IsLegalFrom s h (group ∷ groups) = IsLegalGroup s h group × IsLegalFrom s (after h group.event group.answers) groups

-- the line that begins a session of this version
abbrev pub first_line : Version → Limits → Event
first_line One l = events.Limits l
first_line Two l = events.Limits2 l

-- its group: it is accepted, and nothing is held
abbrev pub opening : Version → Limits → Group
opening version l = record { event = first_line version l; answers = answers.Good ∷ []; tally = record { pieces = 0; memory = 0; files = 0; disk = 0 } }

-- the session that such a line begins
abbrev pub session : Outside → Version → Limits → Session
session outside version l = record { limits = l; version = version; outside = outside }

-- a transcript over the objects of the outside: nothing, or the line of the limits and what comes after it
abbrev pub IsLegal : Outside → List Group → Type 0
IsLegal outside [] = Unit {0}
IsLegal outside (group ∷ groups) = (version : Version) × (l : Limits) × (group ≡ opening version l) × IsLegalFrom (session outside version l) start groups
