use Rattle.std.proofs.Common.{Some, None, sym, ◌∙◌}
use Rattle.text_fields.specs.Counted.{counted_word}
use Rattle.text_fields.specs.declared.counted.TheConstants.{COUNTED}
use Rattle.text_fields.proofs.Counts.{counted_found, no_word, other_limit, with_limit}
use Rattle.text_fields.proofs.Keywords.{found_is}
use Rattle.text_fields.proofs.counted.counted_of.Goals as goal

pub returns-then-eq : goal.returns-then-eq
returns-then-eq c =
    with_limit c.args.word.now c.args.limit.now c.limit_text.result.now c.in-Some.counted
    (found_is counted_word COUNTED c.args.word.now counted_found (Some c.in-Some.counted) (sym c.in-Some.is ∙ c.find.ensures))
    c.limit_text.ensures (sym c.eq.ensures ∙ c.if-eq.true)

pub returns-else-eq : goal.returns-else-eq
returns-else-eq c =
    other_limit c.args.word.now c.args.limit.now c.limit_text.result.now c.in-Some.counted
    (found_is counted_word COUNTED c.args.word.now counted_found (Some c.in-Some.counted) (sym c.in-Some.is ∙ c.find.ensures))
    c.limit_text.ensures (sym c.eq.ensures ∙ c.if-eq.false)

pub returns-in-None : goal.returns-in-None
returns-in-None c =
    no_word c.args.word.now c.args.limit.now (found_is counted_word COUNTED c.args.word.now counted_found None (sym c.in-None.is ∙ c.find.ensures))
