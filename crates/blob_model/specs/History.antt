-- What was heard and what was answered, one after the other. Own.
use Rattle.std.specs.Prelude.{Bool, true, false, List, [], ◌∷◌}
use Rattle.session_script.specs.declared.event.Event.{Event}
use Rattle.session_script.specs.declared.event.Event.TheVariants as events
use Rattle.answer_text.specs.declared.answer.Answer.{Answer}
use Rattle.answer_text.specs.declared.answer.Answer.TheVariants as answers
use Rattle.answer_text.specs.declared.refusal.Refusal.{Refusal}
use Rattle.answer_text.specs.declared.group.Group.{Group}

-- what came after the line of the limits, newest last: nothing, an accepted line with its first answer, a refused line, or a further answer of the last line
pub data History : Type 0 where
  start : History
  heard : History → Event → Answer → History
  refused : History → Event → Refusal → History
  said : History → Answer → History

-- the history after a line and its first answer
abbrev pub heard_first : History → Event → Answer → History
heard_first h event (answers.Refused why) = refused h event why
heard_first h event answer = heard h event answer

-- the history after further answers
abbrev pub said_all : History → List Answer → History
said_all h [] = h
said_all h (answer ∷ more) = said_all (said h answer) more

-- the history after a line with its answers; a line with none is no line
abbrev pub after : History → Event → List Answer → History
after h event [] = h
after h event (answer ∷ more) = said_all (heard_first h event answer) more

-- the history after these groups
abbrev pub history_from : History → List Group → History
history_from h [] = h
history_from h (group ∷ groups) = history_from (after h group.event group.answers) groups

-- whether the `end` line was heard
abbrev pub has_ended : History → Bool
has_ended start = false
has_ended (heard h events.Finish answer) = true
has_ended (heard h event answer) = has_ended h
has_ended (refused h event why) = has_ended h
has_ended (said h answer) = has_ended h
