use Rattle.text_fields.proofs.Outputs.{stops_early}
use Rattle.text_fields.proofs.buffer.Buffer.put_digits.Goals as goal

pub returns-in-Err : goal.returns-in-Err
returns-in-Err g c = stops_early _ _ _ _ c.in-Err.ensures.put
