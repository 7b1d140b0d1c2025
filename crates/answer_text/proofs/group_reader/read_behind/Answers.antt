use Rattle.std.proofs.Common.{◌-◌, length, Err, ap, ◌∙◌, subst}
use Rattle.answer_text.specs.Groups.{ReadsFurther}
use Rattle.answer_text.specs.declared.text_fault.TextFault.{TextFault}
use Rattle.answer_text.proofs.GroupLemmas.{unended_cut, wrong_cut}
use Rattle.answer_text.proofs.group_reader.read_behind.Goals as goal

pub returns-in_default-clause-lines : goal.returns-in_default-clause-lines
returns-in_default-clause-lines c =
    unended_cut _ c.loop-line.lines.rest.now _ c.at-at.result c.loop-line.answers c.loop-line.invariant.are_answers c.in_default.ensures.0
    (c.at-at.ensures ∙ ap (λ total. total - length c.loop-line.lines.rest.now) c.loop-line.invariant.total)

pub returns-in-Err-Form-clause-lines : goal.returns-in-Err-Form-clause-lines
returns-in-Err-Form-clause-lines c =
    wrong_cut _ c.loop-line.lines.rest.now c.in-Some.line.now c.next.new.self.rest.now _ c.at-at.result c.loop-line.answers c.loop-line.invariant.are_answers
    c.in-Some.ensures.0 c.in-Some.ensures.1
    (subst (λ (f : TextFault). ReadsFurther c.in-Some.line.now (Err f)) c.in-Err-Form.field-0-is c.in-Err-Form.ensures)
    (c.at-at.ensures ∙ ap (λ total. total - length c.loop-line.lines.rest.now) c.loop-line.invariant.total)
