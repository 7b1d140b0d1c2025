use Rattle.std.proofs.Common.{rules, ◌≡◌, Some}
use Rattle.item_shares.specs.Shares.{item_at}
use Rattle.reader_tests.proofs.lie.view_lies.Goals as goal

pub returns-in-Some : goal.returns-in-Some
returns-in-Some g c files =
    let there : item_at c.args.shares.now c.args.view.now.slot ≡ Some c.in-Some.item.now = search rules in
    rw there (c.item_lies.ensures files)
