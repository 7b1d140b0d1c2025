-- What a reader of groups says. Own.
use Rattle.std.specs.Prelude.{ℕ, ◌≡◌, ◌≢◌, ◌⊎◌, ◌-◌, List, ◌++◌, codes, length, Result, Ok, Err}
use Rattle.std.specs.List.{AllByRecursion, flat_map}
use Rattle.blob_words.specs.declared.tally.Tally.{Tally}
use Rattle.session_script.specs.Line.{line_of, HasSpelling}
use Rattle.session_script.specs.declared.event.Event.{Event}
use Rattle.answer_text.specs.Text.{answer_text, tally_text, event_line, answer_line, tally_line, group_text, HasText, TallyHasText, GroupHasText}
use Rattle.answer_text.specs.declared.answer.Answer.{Answer}
use Rattle.answer_text.specs.declared.further.Further.{Further}
use Rattle.answer_text.specs.declared.further.Further.TheVariants as furthers
use Rattle.answer_text.specs.declared.group.Group.{Group}
use Rattle.answer_text.specs.declared.group_fault.GroupFault.{GroupFault}
use Rattle.answer_text.specs.declared.group_fault.GroupFault.TheVariants as group_faults
use Rattle.answer_text.specs.declared.text_fault.TextFault.{TextFault}
use Rattle.answer_text.specs.declared.text_fault.TextFault.TheVariants as faults

-- no line of an event stands in front of the text
abbrev pub HasNoEvent : List ℕ → Type 0
HasNoEvent text = (event : Event) (rest : List ℕ) → HasSpelling event → text ≢ event_line event ++ rest

-- no line of an answer or of a tally does
abbrev pub HasNoFurther : List ℕ → Type 0
HasNoFurther text =
    ((answer : Answer) (rest : List ℕ) → HasText answer → text ≢ answer_line answer ++ rest)
    × ((tally : Tally) (rest : List ℕ) → TallyHasText tally → text ≢ tally_line tally ++ rest)

-- the line of an event and those of some answers stand in front of the text, and no line that can stand behind them does
pub record IsCut (text : List ℕ) (place : ℕ) : Type 0 where
  pub event : Event
  pub answers : List Answer
  pub rest : List ℕ
  pub spelled : HasSpelling event
  pub have_text : AllByRecursion HasText answers
  pub text_is : text ≡ event_line event ++ (flat_map answer_line answers ++ rest)
  pub place_is : place ≡ length (event_line event ++ flat_map answer_line answers)
  pub no_further : HasNoFurther rest

-- the place of the first line that can't stand there with its line feed, or of the line that lacks it
abbrev pub IsPlace : List ℕ → ℕ → Type 0
IsPlace text place = ((place ≡ 0) × HasNoEvent text) ⊎ IsCut text place

-- no group stands in front of the text
abbrev pub HasNoGroup : List ℕ → Type 0
HasNoGroup text = (group : Group) (rest : List ℕ) → GroupHasText group → text ≢ group_text group ++ rest

-- what a reader of groups says: the group in front of the text and its length, or the place where none can be
abbrev pub ReadsGroup : List ℕ → Result (Group × ℕ) GroupFault → Type 0
ReadsGroup text (Ok v) = GroupHasText v.0 × ((rest : List ℕ) × (text ≡ group_text v.0 ++ rest)) × (v.1 ≡ length (group_text v.0))
ReadsGroup text (Err (group_faults.Form place)) = IsPlace text place
ReadsGroup text (Err group_faults.Memory) = Unit {0}

-- what the reader of the line of an event says
abbrev pub ReadsEventLine : List ℕ → Result Event TextFault → Type 0
ReadsEventLine line (Ok event) = HasSpelling event × (line ≡ codes "> " ++ line_of event)
ReadsEventLine line (Err faults.Form) = (event : Event) → HasSpelling event → line ≢ codes "> " ++ line_of event
ReadsEventLine line (Err faults.Memory) = Unit {0}

-- what the reader of a further line says
abbrev pub ReadsFurther : List ℕ → Result Further TextFault → Type 0
ReadsFurther line (Ok (furthers.Answer answer)) = HasText answer × (line ≡ answer_text answer)
ReadsFurther line (Ok (furthers.Tally tally)) = TallyHasText tally × (line ≡ tally_text tally)
ReadsFurther line (Err faults.Form) = ((answer : Answer) → HasText answer → line ≢ answer_text answer)
    × ((tally : Tally) → TallyHasText tally → line ≢ tally_text tally)
ReadsFurther line (Err faults.Memory) = Unit {0}

-- the lines of some answers stand in front of what is left
pub record AreAnswers (old new : List ℕ) (answers : List Answer) : Type 0 where
  pub have_text : AllByRecursion HasText answers
  pub parts : old ≡ flat_map answer_line answers ++ new

-- no line that can stand behind them does; `total` bytes have the whole text
pub record IsCutBehind (old : List ℕ) (total place : ℕ) : Type 0 where
  pub answers : List Answer
  pub rest : List ℕ
  pub are_answers : AreAnswers old rest answers
  pub place_is : place ≡ total - length rest
  pub no_further : HasNoFurther rest

-- what a reader of the lines behind that of the event says
abbrev pub ReadsBehind : List ℕ → List ℕ → ℕ → Result (List Answer × Tally) GroupFault → Type 0
ReadsBehind old new total (Ok v) = AllByRecursion HasText v.0 × TallyHasText v.1 × (old ≡ flat_map answer_line v.0 ++ (tally_line v.1 ++ new))
ReadsBehind old new total (Err (group_faults.Form place)) = IsCutBehind old total place
ReadsBehind old new total (Err group_faults.Memory) = Unit {0}
