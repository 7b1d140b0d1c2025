use Rattle.std.proofs.Common.{sym, ◌∙◌}
use Rattle.text_fields.proofs.Keywords.{finds_at, none_left, passes_over}
use Rattle.text_fields.proofs.keyword.find.Goals as goal

pub returns-then-eq : goal.returns-then-eq
returns-then-eq g c =
    sym (c.loop-word.invariant ∙ finds_at g.W.Keyword.text c.args.words.now c.args.text.now c.text.result.now c.loop-word.word-index c.word-item.result
    c.loop-word-test.true c.word-item.is c.text.ensures (sym c.eq.ensures ∙ c.if-eq.true))

pub returns : goal.returns
returns g c = sym (c.loop-word.invariant ∙ none_left g.W.Keyword.text c.args.words.now c.args.text.now c.loop-word.word-index c.loop-word-test.false)

pub loop-word-preserved : goal.loop-word-preserved
loop-word-preserved g c =
    c.loop-word.invariant ∙ passes_over g.W.Keyword.text c.args.words.now c.args.text.now c.text.result.now c.loop-word.word-index c.word-item.result
    c.loop-word-test.true c.word-item.is c.text.ensures (sym c.eq.ensures ∙ c.if-eq.false)
