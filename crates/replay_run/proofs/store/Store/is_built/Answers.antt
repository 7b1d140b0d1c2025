use Rattle.std.proofs.Common.{◌==◌, ap, ◌∙◌}
use Rattle.std.specs.List.{list_any}
use Rattle.replay_run.proofs.LookupLemmas.{is_built-keys}
use Rattle.replay_run.proofs.store.Store.is_built.Goals as goal

pub returns : goal.returns
returns c l h stands = c.contains.ensures ∙ ap (λ n. list_any (λ known. n == known) c.args.self.now.names.keys) c.number-number.ensures ∙ is_built-keys l
    c.args.self.now h stands c.args.name
