use Rattle.std.proofs.Common.{arith, subst}
use Rattle.std.specs.List.{AllByRecursion}
use Rattle.std.proofs.lemmas.List.{take_all}
use Rattle.reader_tests.proofs.Lists.{all_more}
use Rattle.reader_tests.proofs.many.are_in_memory.Goals as goal

pub loop-view-preserved : goal.loop-view-preserved
loop-view-preserved c from = all_more _ c.args.views.now c.loop-view.view-index c.view-item.result c.loop-view-test.true c.view-item.is
    (c.loop-view.invariant from) (c.if-not-is_in_memory.ensures from)

pub returns : goal.returns
returns c from = subst (AllByRecursion _) (take_all c.loop-view.view-index c.args.views.now (omega (arith, c.loop-view-test.false)))
    (c.loop-view.invariant from)
