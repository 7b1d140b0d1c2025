use Rattle.std.proofs.Common.{rules, ◌≡◌, false}
use Rattle.renderer_table.specs.Table.{spawned_in, was_spawned}
use Rattle.renderer_table.proofs.Counting.{comes}
use Rattle.renderer_table.proofs.table.Renderers.spawn.Goals as goal

pub returns-clause-changes : goal.returns-clause-changes
returns-clause-changes c =
    let unused : was_spawned c.args.id.0 c.args.self.now ≡ false = search rules in
    let is : c.put.new.self ≡ spawned_in c.args.id.0 c.args.origin.now c.args.self.now = search rules in
    comes c.args.id.0 c.args.origin.now c.args.self.now c.put.new.self unused is
