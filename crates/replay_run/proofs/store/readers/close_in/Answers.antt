-- The closure only tests.
use Rattle.std.proofs.Common.{◌==◌, not, rules}
use Rattle.std.proofs.lemmas.Fn.{filter_same}
use Rattle.replay_run.specs.declared.store.reader.Reader.{Reader}
use Rattle.replay_run.proofs.store.readers.close_in.Goals as goal

pub returns : goal.returns
returns c = filter_same _ (λ (reader : Reader). not (c.args.number.0 == reader.number.0)) _ (λ x b f' h. search rules) _ _ c.retain.ensures.filtered
