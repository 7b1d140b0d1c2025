use Rattle.std.proofs.Common.{sym, ◌∙◌}
use Rattle.session_script.proofs.Lines.{line_read, line_refused}
use Rattle.text_fields.proofs.Splits.{split_not_empty}
use Rattle.session_script.proofs.line.read_line.Goals as goal

pub returns-in_default-clause-read : goal.returns-in_default-clause-read
returns-in_default-clause-read c = absurd (split_not_empty 32 c.args.line.now (sym c.new-fields.ensures ∙ c.in_default.ensures.0))

pub returns-in_default-clause-refused : goal.returns-in_default-clause-refused
returns-in_default-clause-refused c = absurd (split_not_empty 32 c.args.line.now (sym c.new-fields.ensures ∙ c.in_default.ensures.0))

pub returns-in-Some-from_text-clause-read : goal.returns-in-Some-from_text-clause-read
returns-in-Some-from_text-clause-read c =
    line_read c.args.line.now c.in-Some.first.now c.next.new.self c.in-Some-from_text.word c.read_own.result
    (sym c.new-fields.ensures ∙ c.in-Some.ensures) c.in-Some-from_text.ensures c.read_own.ensures

pub returns-in-Some-from_text-clause-refused : goal.returns-in-Some-from_text-clause-refused
returns-in-Some-from_text-clause-refused c =
    line_refused c.args.line.now c.read_own.result
    (line_read c.args.line.now c.in-Some.first.now c.next.new.self c.in-Some-from_text.word c.read_own.result
    (sym c.new-fields.ensures ∙ c.in-Some.ensures) c.in-Some-from_text.ensures c.read_own.ensures)
