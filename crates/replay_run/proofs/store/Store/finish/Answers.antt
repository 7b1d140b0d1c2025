use Rattle.std.proofs.Common.{refl}
use Rattle.replay_run.proofs.DropLemmas.{kept-finish}
use Rattle.replay_run.proofs.store.Store.finish.Goals as goal

pub returns : goal.returns
returns c l h stands = (refl, kept-finish l c.args.self.now h stands c.clear.new.self c.clear-2.new.self c.clear.ensures c.clear-2.ensures)
