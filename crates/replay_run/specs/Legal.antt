-- What a legal transcript is. Own.
use Rattle.std.specs.Prelude.{◌≡◌, false, List, [], ◌∷◌, Some}
use Rattle.session_script.specs.declared.event.Event.TheVariants as events
use Rattle.blob_words.specs.declared.limits.Limits.{Limits}
use Rattle.answer_text.specs.declared.answer.Answer.{Answer}
use Rattle.answer_text.specs.declared.answer.Answer.TheVariants as answers
use Rattle.answer_text.specs.declared.group.Group.{Group}
use Rattle.replay_run.specs.History.{History, start, heard, after, has_ended}
use Rattle.replay_run.specs.Own.{own}
use Rattle.replay_run.specs.Settle.{settle}
use Rattle.replay_run.specs.Pieces.{tally}

-- the group of the line of the limits, which begins a session
abbrev pub opening : Limits → Group
opening l = record { event = events.Limits l; answers = answers.Good ∷ []; tally = record { pieces = 0; memory = 0; files = 0; disk = 0 } }

-- a group after a history: no line comes after the `end` line, the line's own answer comes first, then what was owed, and the tally counts what is held then
pub record IsLegalGroup (l : Limits) (h : History) (group : Group) : Type 0 where
  pub open_still : has_ended h ≡ false
  pub own_answer : Answer
  pub is_own : own l h group.event ≡ Some own_answer
  pub settles : group.answers ≡ own_answer ∷ settle (heard h group.event own_answer)
  pub counts : group.tally ≡ tally l (after h group.event group.answers)

-- groups after a history
abbrev pub IsLegalFrom : Limits → History → List Group → Type 0
IsLegalFrom l h [] = Unit {0}
IsLegalFrom l h (group ∷ groups) = IsLegalGroup l h group × IsLegalFrom l (after h group.event group.answers) groups

-- a transcript: nothing, or the limits and what comes after them
abbrev pub IsLegal : List Group → Type 0
IsLegal [] = Unit {0}
IsLegal (group ∷ groups) = (l : Limits) × (group ≡ opening l) × IsLegalFrom l start groups
