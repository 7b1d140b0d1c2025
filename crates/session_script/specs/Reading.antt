-- What the readers of the fields behind a word answer.
use Rattle.std.specs.Prelude.{ℕ, ◌≡◌, List, Result}
use Rattle.session_script.specs.Fault.{IsOwnFault, kinds_of_letter}
use Rattle.session_script.specs.Line.{word_of, event_fields, HasSpelling, letter_of, part_fields, PartHasText}
use Rattle.text_fields.specs.Kind.{IsRowFault}
use Rattle.text_fields.specs.Reading.{IsReading}
use Rattle.session_script.specs.declared.event.Event.{Event}
use Rattle.session_script.specs.declared.event.Part.{Part}
use Rattle.session_script.specs.declared.letter.Letter.{Letter}
use Rattle.text_fields.specs.declared.line_fault.LineFault.{LineFault}
use Rattle.session_script.specs.declared.word.Word.{Word}

-- the event of a word that the fields behind it spell, or what is wrong with them
abbrev pub ReadsEvent : Word → List (List ℕ) → Result Event LineFault → Type 0
ReadsEvent word texts result = IsReading (IsOwnFault word) (λ event. HasSpelling event × (word_of event ≡ word)) event_fields texts result

-- the part of a letter that the fields behind it spell, or what is wrong with them
abbrev pub ReadsPart : Letter → List (List ℕ) → Result Part LineFault → Type 0
ReadsPart letter texts result = IsReading (IsRowFault (kinds_of_letter letter)) (λ part. PartHasText part × (letter_of part ≡ letter)) part_fields texts result
