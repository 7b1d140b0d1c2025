use Rattle.hex_lanes.proofs.Lanes.{values_are}
use Rattle.hex_lanes.proofs.decode.values.Goals as goal

pub returns : goal.returns
returns c = values_are c.args.text c.fits-text.0 c.fits-text.1
