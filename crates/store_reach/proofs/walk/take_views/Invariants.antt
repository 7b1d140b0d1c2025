use Rattle.std.proofs.Common.{◌≡◌, take}
use Rattle.store_reach.specs.Reach.{views_pieces}
use Rattle.store_reach.specs.Windows.{taken_all}
use Rattle.store_reach.proofs.walk.take_views.Given as goal

abbrev pub invariant-loop-view : goal.invariant-loop-view
invariant-loop-view l = l.window ≡ taken_all l.fn.window (views_pieces l.shares (take l.view-index l.views))
