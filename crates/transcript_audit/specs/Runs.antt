-- What is kept of the groups of a transcript. Own.
use Rattle.std.specs.Prelude.{◌≡◌, ◌&&◌, Bool, true, false, List, [], ◌∷◌, Option, None, Some}
use Rattle.blob_words.specs.declared.limits.Limits.{Limits}
use Rattle.blob_words.specs.declared.version.Version.{Version}
use Rattle.blob_words.specs.declared.version.Version.TheVariants.{One, Two}
use Rattle.session_script.specs.declared.event.Event.{Event}
use Rattle.session_script.specs.declared.event.Event.TheVariants as events
use Rattle.answer_text.specs.declared.answer.Answer.{Answer}
use Rattle.answer_text.specs.declared.answer.Answer.TheVariants as answers
use Rattle.answer_text.specs.declared.group.Group.{Group}
use Rattle.blob_model.specs.Session.{Outside, Session}
use Rattle.blob_model.specs.History.{History, start, has_ended, history_from}
use Rattle.blob_model.specs.Legal.{opening, session}
use Rattle.history_notions.specs.FollowsCourse.{FollowsCourse}
use Rattle.transcript_audit.specs.Tests.{same_answer, same_tally}
use Rattle.transcript_audit.specs.declared.run.Run.{Run}

-- the first answer is none of a refusal
abbrev pub is_answered : List Answer → Bool
is_answered [] = false
is_answered (answers.Refused why ∷ more) = false
is_answered (answer ∷ more) = true

-- an accepted `end` line ends the session
abbrev pub ends : Event → List Answer → Bool
ends events.Finish list = is_answered list
ends event list = false

-- a run keeps the history, and whether it has ended
abbrev pub FollowsRun : Session → History → Run → Type 0
FollowsRun s h run = FollowsCourse s h run.course × (run.ended ≡ has_ended h)

-- the one answer `ok`
abbrev pub is_good_alone : List Answer → Bool
is_good_alone [] = false
is_good_alone (answer ∷ []) = same_answer answer answers.Good
is_good_alone (answer ∷ next ∷ more) = false

-- that answer, and nothing is held
abbrev pub is_quiet : Group → Bool
is_quiet group = is_good_alone group.answers && same_tally group.tally (record { pieces = 0; memory = 0; files = 0; disk = 0 })

-- the session that a first line begins
abbrev pub session_by : Outside → Event → Option Session
session_by outside (events.Limits l) = Some (session outside One l)
session_by outside (events.Limits2 l) = Some (session outside Two l)
session_by outside event = None

-- a group begins a session, and a run keeps its history; or it begins none
abbrev pub Begins : Outside → Group → Option Run → Type 0
Begins outside group (Some run) = (version : Version) × (l : Limits) × (group ≡ opening version l) × FollowsRun (session outside version l) start run
Begins outside group None = (version : Version) (l : Limits) → group ≡ opening version l → ⊥

-- a run keeps the groups of a transcript that has one
abbrev pub Keeps : Outside → List Group → Run → Type 0
Keeps outside [] run = ⊥
Keeps outside (first ∷ more) run = (s : Session) × (session_by outside first.event ≡ Some s) × FollowsRun s (history_from start more) run

-- a run keeps the groups, or there is none of either
abbrev pub AreRun : Outside → List Group → Option Run → Type 0
AreRun outside groups None = groups ≡ []
AreRun outside groups (Some run) = Keeps outside groups run

-- a run, where there is one, keeps the groups
abbrev pub MayRun : Outside → List Group → Option Run → Type 0
MayRun outside groups None = Unit {0}
MayRun outside groups (Some run) = Keeps outside groups run
