use Rattle.std.proofs.Common.{sym, ◌∙◌}
use Rattle.text_fields.proofs.Splits.{split_none, split_some}
use Rattle.text_fields.proofs.fields.cut.Goals as goal

pub returns-in_default : goal.returns-in_default
returns-in_default c = split_none c.args.separator c.args.text.now (sym c.find_byte.ensures ∙ c.in_default.is)

pub returns : goal.returns
returns c =
    let found = split_some c.args.separator c.args.text.now c.in-Some.at (sym c.find_byte.ensures ∙ c.in-Some.is) in
    rw (c.split_at.ensures.front, c.split_at-2.ensures.back) found
