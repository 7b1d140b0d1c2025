use Rattle.std.proofs.Common.{◌≡◌, ℕ, List, [], ◌∷◌, ap, ◌∙◌, Ok, Err}
use Rattle.text_fields.specs.Fields.{fields}
use Rattle.text_fields.proofs.Each.{heads_then, heads_stop}
use Rattle.text_fields.proofs.Outputs.{put_as}
use Rattle.answer_text.specs.Text.{refusal_word_of, refusal_fields}
use Rattle.answer_text.specs.Word.{refusal_text}
use Rattle.answer_text.proofs.refusals.put_refusal.Goals as goal

pub returns-in-Ok : goal.returns-in-Ok
returns-in-Ok g c =
    let word : c.text.result.now ≡ refusal_text (refusal_word_of c.args.refusal.now) = c.text.ensures ∙ ap refusal_text c.word_of.ensures in
    heads_then _ _ _ 32 (refusal_text (refusal_word_of c.args.refusal.now) ∷ []) (refusal_fields c.args.refusal.now) c.put_behind.result
    (put_as _ _ _ _ (Ok tt) (ap (λ (w : List ℕ). fields 32 (w ∷ [])) word) c.in-Ok.ensures) c.put_behind.ensures

pub returns-in-Err : goal.returns-in-Err
returns-in-Err g c =
    let word : c.text.result.now ≡ refusal_text (refusal_word_of c.args.refusal.now) = c.text.ensures ∙ ap refusal_text c.word_of.ensures in
    heads_stop _ _ 32 (refusal_text (refusal_word_of c.args.refusal.now) ∷ []) (refusal_fields c.args.refusal.now)
    (put_as _ _ _ _ (Err c.in-Err.field-0) (ap (λ (w : List ℕ). fields 32 (w ∷ [])) word) c.in-Err.ensures)
