use Rattle.std.proofs.Common.{sym, ◌∙◌}
use Rattle.session_script.proofs.Parts.{part_is, part_read}
use Rattle.text_fields.proofs.Splits.{split_not_empty}
use Rattle.session_script.proofs.part.read_part.Goals as goal

pub returns-in_default-clause-read : goal.returns-in_default-clause-read
returns-in_default-clause-read c = absurd (split_not_empty 58 c.args.text.now (sym c.new-fields.ensures ∙ c.in_default.ensures.0))

pub returns-in-Some-from_text-clause-part : goal.returns-in-Some-from_text-clause-part
returns-in-Some-from_text-clause-part c =
    part_is c.args.text.now c.in-Some.first.now c.next.new.self c.in-Some-from_text.letter c.read_behind.result
    (sym c.new-fields.ensures ∙ c.in-Some.ensures) c.in-Some-from_text.ensures c.read_behind.ensures

pub returns-in-Some-from_text-clause-read : goal.returns-in-Some-from_text-clause-read
returns-in-Some-from_text-clause-read c =
    part_read c.args.text.now c.in-Some.first.now c.next.new.self c.in-Some-from_text.letter c.read_behind.result
    (sym c.new-fields.ensures ∙ c.in-Some.ensures) (λ none. c.if-count-eq0.false (c.count.ensures ∙ none)) c.in-Some-from_text.ensures c.read_behind.ensures
