use Rattle.std.proofs.Common.{sym, subst}
use Rattle.store_reach.specs.Reach.{all_pieces, numbers}
use Rattle.store_reach.specs.Sets.{as_set}
use Rattle.store_reach.specs.Windows.{GoesOn}
use Rattle.store_reach.proofs.Windows.{goes_on}
use Rattle.store_reach.proofs.walk.window_from.Goals as goal

pub returns : goal.returns
returns c =
    let set = as_set (numbers (all_pieces c.args.shares.now c.args.registry.now.entries)) in
    subst (GoesOn set c.args.start) (sym c.take_all.ensures)
    (goes_on c.args.start c.new-window.result (all_pieces c.args.shares.now c.args.registry.now.entries) c.new-window.ensures)
