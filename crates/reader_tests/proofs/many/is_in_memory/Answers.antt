use Rattle.std.proofs.Common.{rules, ◌≡◌, Some}
use Rattle.item_shares.specs.Shares.{item_at}
use Rattle.reader_tests.proofs.many.is_in_memory.Goals as goal

pub returns-in-Some : goal.returns-in-Some
returns-in-Some c from =
    let there : item_at c.args.shares.now c.args.view.now.slot ≡ Some c.in-Some.item.now = search rules in
    rw there (c.has_in_memory.ensures from)
