use Rattle.std.proofs.Common.{◌∷◌, [], ap, decimal}
use Rattle.text_fields.specs.Fields.{fields}
use Rattle.text_fields.proofs.Outputs.{puts_then, put_as, stops_early}
use Rattle.replay_run.proofs.refusal_line.put_words.Goals as goal

pub returns-in-Ok : goal.returns-in-Ok
returns-in-Ok g c = puts_then _ _ _ _ _ _ c.in-Ok.ensures (put_as _ _ _ _ _ (ap (λ text. fields 32 (decimal c.args.line.now.number ∷ text ∷ [])) c.text.ensures)
    c.put_all.ensures)

pub returns-in-Err : goal.returns-in-Err
returns-in-Err g c = stops_early _ _ _ _ c.in-Err.ensures
