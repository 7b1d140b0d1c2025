use Rattle.text_fields.proofs.Outputs.{put_alone}
use Rattle.text_fields.proofs.values.Tuple1Values.put_all.Goals as goal

pub returns : goal.returns
returns g c = put_alone _ _ _ _ c.put_field.ensures
