use Rattle.std.proofs.Common.{◌≡◌, ◌-◌, length, false, Err, sym, ap, ◌∙◌, subst}
use Rattle.blob_source.specs.Lines.{has_line_feed}
use Rattle.answer_text.specs.Groups.{ReadsEventLine}
use Rattle.answer_text.specs.declared.text_fault.TextFault.{TextFault}
use Rattle.answer_text.proofs.GroupLemmas.{unended_place, wrong_event, group_fault, group_whole, fault_no_group, place_no_group}
use Rattle.answer_text.proofs.group_reader.read_group.Goals as goal

pub returns-in_default-clause-group : goal.returns-in_default-clause-group
returns-in_default-clause-group c = unended_place c.args.text.now (subst (λ t. has_line_feed t ≡ false) c.new-lines.ensures.rest c.in_default.ensures.0)

pub returns-in_default-clause-none : goal.returns-in_default-clause-none
returns-in_default-clause-none c = λ place is. place_no_group c.args.text.now 0
    (unended_place c.args.text.now (subst (λ t. has_line_feed t ≡ false) c.new-lines.ensures.rest c.in_default.ensures.0))

pub returns-in-Err-Form-clause-group : goal.returns-in-Err-Form-clause-group
returns-in-Err-Form-clause-group c =
    wrong_event c.args.text.now c.in-Some.line.now c.next.new.self.rest.now c.in-Some.ensures.0 (sym c.new-lines.ensures.rest ∙ c.in-Some.ensures.1)
    (subst (λ (f : TextFault). ReadsEventLine c.in-Some.line.now (Err f)) c.in-Err-Form.field-0-is c.in-Err-Form.ensures)

pub returns-in-Err-Form-clause-none : goal.returns-in-Err-Form-clause-none
returns-in-Err-Form-clause-none c = λ place is.
    place_no_group c.args.text.now 0
    (wrong_event c.args.text.now c.in-Some.line.now c.next.new.self.rest.now c.in-Some.ensures.0 (sym c.new-lines.ensures.rest ∙ c.in-Some.ensures.1)
    (subst (λ (f : TextFault). ReadsEventLine c.in-Some.line.now (Err f)) c.in-Err-Form.field-0-is c.in-Err-Form.ensures))

pub returns-in-Ok-read_behind-clause-group : goal.returns-in-Ok-read_behind-clause-group
returns-in-Ok-read_behind-clause-group c =
    group_whole c.args.text.now c.in-Some.line.now c.next.new.self.rest.now c.read_behind.new.lines.rest.now c.next.new.self.total c.at.result c.in-Ok.event
    c.in-Ok-read_behind.answers c.in-Ok-read_behind.tally
    (sym c.new-lines.ensures.rest ∙ c.in-Some.ensures.1) c.in-Ok.ensures (c.in-Some.ensures.2 ∙ c.new-lines.ensures.total) c.in-Ok-read_behind.ensures.lines
    (c.at.ensures ∙ ap (λ total. total - length c.read_behind.new.lines.rest.now) c.read_behind.ensures.total)

pub returns-in-Err-clause-group : goal.returns-in-Err-clause-group
returns-in-Err-clause-group c =
    group_fault c.args.text.now c.in-Some.line.now c.next.new.self.rest.now c.read_behind.new.lines.rest.now c.next.new.self.total c.in-Ok.event c.in-Err.fault
    (sym c.new-lines.ensures.rest ∙ c.in-Some.ensures.1) c.in-Ok.ensures (c.in-Some.ensures.2 ∙ c.new-lines.ensures.total) c.in-Err.ensures.lines

pub returns-in-Err-clause-none : goal.returns-in-Err-clause-none
returns-in-Err-clause-none c =
    fault_no_group c.args.text.now (Err c.in-Err.fault)
    (group_fault c.args.text.now c.in-Some.line.now c.next.new.self.rest.now c.read_behind.new.lines.rest.now c.next.new.self.total c.in-Ok.event c.in-Err.fault
    (sym c.new-lines.ensures.rest ∙ c.in-Some.ensures.1) c.in-Ok.ensures (c.in-Some.ensures.2 ∙ c.new-lines.ensures.total) c.in-Err.ensures.lines)
