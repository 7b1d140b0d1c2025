use Rattle.std.proofs.Common.{rules, ◌==◌, not}
use Rattle.std.specs.Prelude.{bytes_eq}
use Rattle.std.proofs.lemmas.Fn.{filter_same}
use Rattle.blob_model.specs.Entries.{Entry}
use Rattle.history_notions.proofs.entries.without_owner.Goals as goal

pub returns : goal.returns
returns c = filter_same _ (λ (entry : Entry). not (entry.owner == c.args.owner)) _ (λ x b f' k. search rules) _ _ c.retain.ensures.filtered
