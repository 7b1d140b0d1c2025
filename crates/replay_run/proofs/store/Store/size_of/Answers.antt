use Rattle.std.proofs.Common.{length, sym, ap, ◌∙◌}
use Rattle.replay_run.proofs.LookupLemmas.{bytes-row, size_of-sent}
use Rattle.replay_run.proofs.store.Store.size_of.Goals as goal

pub returns : goal.returns
returns c l h stands alive = ap length (c.bytes_of.ensures ∙ bytes-row l c.args.self.now h stands c.args.name alive) ∙ sym (size_of-sent h c.args.name)
