use Rattle.std.proofs.Common.{ap, ◌∙◌}
use Rattle.session_script.specs.Word.{letter_text}
use Rattle.text_fields.proofs.Outputs.{word_then, word_stops}
use Rattle.session_script.proofs.part.PartSpell.put.Goals as goal

pub returns-in-Ok : goal.returns-in-Ok
returns-in-Ok g c = word_then _ _ _ _ _ _ _ (c.text.ensures ∙ ap letter_text c.letter_of.ensures) c.in-Ok.ensures c.put_behind.ensures

pub returns-in-Err : goal.returns-in-Err
returns-in-Err g c = word_stops _ _ _ _ _ (c.text.ensures ∙ ap letter_text c.letter_of.ensures) c.in-Err.ensures
