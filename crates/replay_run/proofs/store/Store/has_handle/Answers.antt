use Rattle.std.proofs.Common.{◌∙◌}
use Rattle.replay_run.proofs.LookupLemmas.{has_handle-row}
use Rattle.replay_run.proofs.store.Store.has_handle.Goals as goal

pub returns : goal.returns
returns c l h stands = c.is_held_by.ensures ∙ has_handle-row l c.args.self.now h stands c.args.renderer c.args.name
