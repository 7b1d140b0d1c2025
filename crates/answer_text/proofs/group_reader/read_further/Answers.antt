use Rattle.std.proofs.Common.{ℕ, List, subst}
use Rattle.text_fields.specs.Reading.{split}
use Rattle.answer_text.specs.Fault.{IsTally, Refuses}
use Rattle.answer_text.proofs.GroupLemmas.{further_refused}
use Rattle.answer_text.proofs.group_reader.read_further.Goals as goal

pub returns-in-Err : goal.returns-in-Err
returns-in-Err c =
    further_refused c.args.line.now c.in-Err.fault
    (subst (Refuses (λ (text : List ℕ). IsTally (split 32 text)) c.args.line.now) c.in-Err-Form.field-0-is c.in-Err-Form.ensures) c.in-Err.ensures
