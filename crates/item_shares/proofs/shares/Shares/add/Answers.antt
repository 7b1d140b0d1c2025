use Rattle.std.proofs.Common.{rules, ◌≡◌, Some, None}
use Rattle.item_shares.specs.Shares.{Changes, share_at, share_of}
use Rattle.item_shares.proofs.Weighing.{weighs_more}
use Rattle.item_shares.proofs.shares.Shares.add.Goals as goal

pub returns-clause-weighs : goal.returns-clause-weighs
returns-clause-weighs c =
    let slot = c.in_ok-slot.slot in
    let new = c.insert.new.self.slots in
    let vacant : share_at c.args.self.now slot ≡ None = search rules in
    let changes : Changes c.args.self.now new slot (Some (share_of c.args.item 1)) = search rules in
    λ weight. weighs_more weight c.args.self.now new slot (share_of c.args.item 1) vacant changes
