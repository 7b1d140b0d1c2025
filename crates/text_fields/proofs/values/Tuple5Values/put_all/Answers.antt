use Rattle.text_fields.proofs.Outputs.{puts_then, stops_early}
use Rattle.text_fields.proofs.values.Tuple5Values.put_all.Goals as goal

pub returns-in-Ok : goal.returns-in-Ok
returns-in-Ok g c = puts_then _ _ _ _ _ _ c.in-Ok.ensures c.put_all.ensures

pub returns-in-Err : goal.returns-in-Err
returns-in-Err g c = stops_early _ _ _ _ c.in-Err.ensures
