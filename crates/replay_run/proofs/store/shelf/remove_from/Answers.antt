-- The closure only tests.
use Rattle.std.proofs.Common.{◌==◌, not, rules}
use Rattle.std.proofs.lemmas.Fn.{filter_same}
use Rattle.replay_run.specs.declared.store.blob.Blob.{Blob}
use Rattle.replay_run.proofs.store.shelf.remove_from.Goals as goal

pub returns : goal.returns
returns c = filter_same _ (λ (blob : Blob). not (c.args.name == blob.name)) _ (λ x b f' h. search rules) _ _ c.retain.ensures.filtered
