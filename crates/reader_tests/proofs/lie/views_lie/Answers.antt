use Rattle.std.proofs.Common.{arith, subst}
use Rattle.std.specs.List.{AllByRecursion}
use Rattle.std.proofs.lemmas.List.{take_all}
use Rattle.reader_tests.proofs.Lists.{all_more}
use Rattle.reader_tests.proofs.lie.views_lie.Goals as goal

pub loop-view-preserved : goal.loop-view-preserved
loop-view-preserved g c files = all_more _ c.args.views.now c.loop-view.view-index c.view-item.result c.loop-view-test.true c.view-item.is
    (c.loop-view.invariant files) (c.if-not-view_lies.ensures files)

pub returns : goal.returns
returns g c files = subst (AllByRecursion _) (take_all c.loop-view.view-index c.args.views.now (omega (arith, c.loop-view-test.false)))
    (c.loop-view.invariant files)
