-- The words for the line at which a session is refused. Own.
use Rattle.std.specs.Prelude.{ℕ, List, Option, None, Some, codes}
use Rattle.text_fields.specs.declared.line_fault.LineFault.{LineFault}
use Rattle.text_fields.specs.declared.line_fault.LineFault.TheVariants as faults
use Rattle.replay_run.specs.declared.reason.Reason.{Reason}
use Rattle.replay_run.specs.declared.reason.Reason.TheVariants.{Lines, Long, Unended, Word, Fields, Number, Hex, Name, «Type», Limits, First, Unbuilt}

-- each word's text
abbrev pub reason_text : Reason → List ℕ
reason_text Lines = codes "lines"
reason_text Long = codes "long"
reason_text Unended = codes "unended"
reason_text Word = codes "word"
reason_text Fields = codes "fields"
reason_text Number = codes "number"
reason_text Hex = codes "hex"
reason_text Name = codes "name"
reason_text «Type» = codes "type"
reason_text Limits = codes "limits"
reason_text First = codes "first"
reason_text Unbuilt = codes "unbuilt"

-- the word for a fault of a line; want of memory is no fault of the line
abbrev pub reason_of : LineFault → Option Reason
reason_of faults.Word = Some Word
reason_of faults.Fields = Some Fields
reason_of faults.Number = Some Number
reason_of faults.Hex = Some Hex
reason_of faults.Name = Some Name
reason_of faults.«Type» = Some «Type»
reason_of faults.Limits = Some Limits
reason_of faults.Memory = None
