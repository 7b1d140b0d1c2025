use Rattle.std.proofs.Common.{◌+◌, sym, ap, ◌∙◌, length, arith}
use Rattle.std.proofs.lemmas.List.{length-drop}
use Rattle.text_fields.proofs.Splits.{one_passed, split_none}
use Rattle.text_fields.proofs.fields.count_fields.Goals as goal

pub loop-at-preserved : goal.loop-at-preserved
loop-at-preserved c =
    let rest = c.loop-at.rest.now in
    let step = one_passed c.args.separator rest c.in-Some.at (sym c.find_byte.ensures ∙ c.in-Some.is) in
    let shorter = length-drop (c.in-Some.at + 1) rest in
    rw c.split_at.ensures.back (omega (arith, c.loop-at.invariant.0, step.0), omega (arith, c.loop-at.invariant.1, step.1, shorter))

pub returns : goal.returns
returns c =
    let last = ap length (split_none c.args.separator c.loop-at.rest.now (sym c.find_byte.ensures ∙ c.in_default.is)) in
    omega (arith, c.loop-at.invariant.0, last)
