use Rattle.std.proofs.Common.{rules, ◌==◌, not}
use Rattle.std.proofs.lemmas.Fn.{filter_same}
use Rattle.blob_model.specs.Readers.{OpenReader}
use Rattle.history_notions.proofs.readers.close.Goals as goal

pub returns : goal.returns
returns c = filter_same _ (λ (reader : OpenReader). not (reader.number == c.args.number)) _ (λ x b f' k. search rules) _ _ c.retain.ensures.filtered
