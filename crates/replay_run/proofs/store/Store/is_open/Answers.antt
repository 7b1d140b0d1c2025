use Rattle.std.proofs.Common.{◌==◌, sym, ap, ◌∙◌, List}
use Rattle.std.specs.Prelude.{is_some}
use Rattle.std.specs.List.{list_any}
use Rattle.replay_run.specs.declared.store.reader.Reader.{Reader}
use Rattle.replay_run.specs.Readers.{readers}
use Rattle.replay_run.specs.Stands.{reader_of}
use Rattle.replay_run.proofs.LookupLemmas.{some-find, any-map, is_some-copied}
use Rattle.replay_run.proofs.store.Store.is_open.Goals as goal

pub returns : goal.returns
returns c l h stands =
    c.is_some.ensures
    ∙ sym (is_some-copied c.find.result)
    ∙ ap is_some c.find.ensures
    ∙ some-find (λ (reader : Reader). c.args.number.0 == reader.number.0) c.args.self.now.readers
    ∙ ap (λ (all : List Reader). list_any (λ (reader : Reader). c.args.number.0 == reader.number.0) all) stands.same_readers
    ∙ any-map reader_of (λ (reader : Reader). c.args.number.0 == reader.number.0) (readers h)
