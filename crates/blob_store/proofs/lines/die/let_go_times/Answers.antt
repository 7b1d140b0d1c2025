-- One root fewer, again.
use Rattle.blob_store.proofs.Leaving.{rerooted_by, roots_by}
use Rattle.blob_store.proofs.lines.die.let_go_times.Goals as goal

pub loop-done-preserved : goal.loop-done-preserved
loop-done-preserved c = record {
  same = rerooted_by c.args.registry.now c.loop-done.registry c.let_go.new.self c.args.name c.loop-done.invariant.same c.let_go.ensures;
  roots = roots_by c.args.registry.now c.loop-done.registry c.let_go.new.self c.args.name c.loop-done.done c.loop-done.invariant.roots c.let_go.ensures;
}
