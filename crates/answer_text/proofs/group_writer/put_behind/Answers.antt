use Rattle.std.proofs.Common.{ap}
use Rattle.std.specs.List.{flat_map}
use Rattle.text_fields.proofs.Outputs.{word_then, word_stops}
use Rattle.answer_text.specs.Text.{answer_line}
use Rattle.answer_text.proofs.group_writer.put_behind.Goals as goal

pub returns-in-Ok : goal.returns-in-Ok
returns-in-Ok g c = word_then _ _ _ _ _ _ _ (ap (flat_map answer_line) c.as_slice.ensures) c.in-Ok.ensures c.put_tally_line.ensures

pub returns-in-Err : goal.returns-in-Err
returns-in-Err g c = word_stops _ _ _ _ _ (ap (flat_map answer_line) c.as_slice.ensures) c.in-Err.ensures
