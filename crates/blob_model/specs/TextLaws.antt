-- What is written of a legal transcript: each group has a text, so that the text fixes it. Own format.
use Rattle.std.specs.Prelude.{ℕ, ◌<◌, List, slice_index}
use Rattle.std.specs.List.{AllByRecursion}
use Rattle.session_script.specs.Line.{HasSpelling}
use Rattle.answer_text.specs.declared.answer.Answer.{Answer}
use Rattle.answer_text.specs.declared.answer.Answer.TheVariants as answers
use Rattle.answer_text.specs.declared.group.Group.{Group}
use Rattle.answer_text.specs.Text.{GroupHasText}
use Rattle.blob_model.specs.Session.{Session}
use Rattle.blob_model.specs.History.{start}
use Rattle.blob_model.specs.Legal.{IsLegalFrom}

-- an answer that gives bytes gives numbers below 256; where nothing tells a byte the model doesn't
abbrev pub GivesBytes : Answer → Type 0
GivesBytes (answers.Given reader bytes) = (place : ℕ) → slice_index bytes place < 256
GivesBytes answer = Unit {0}

-- the event of the group has a spelling, and the answers give bytes
pub record IsSpelled (group : Group) : Type 0 where
  pub event : HasSpelling group.event
  pub gives : AllByRecursion GivesBytes group.answers

-- each group of a legal transcript has a text, where its events have a spelling and what is given are bytes
abbrev pub GroupsHaveText : Type 0
GroupsHaveText = (s : Session) (groups : List Group) → IsLegalFrom s start groups → AllByRecursion IsSpelled groups → AllByRecursion GroupHasText groups
