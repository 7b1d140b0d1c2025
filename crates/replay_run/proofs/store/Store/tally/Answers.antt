use Rattle.std.proofs.Common.{sym, ap, ◌∙◌}
use Rattle.replay_run.specs.Shelf.{count_of}
use Rattle.replay_run.proofs.ReachLemmas.{tally-rows}
use Rattle.replay_run.proofs.store.Store.tally.Goals as goal

pub returns-clause-model : goal.returns-clause-model
returns-clause-model c l h stands = c.tally.ensures.count ∙ ap count_of stands.same_blobs ∙ sym (tally-rows l h)
