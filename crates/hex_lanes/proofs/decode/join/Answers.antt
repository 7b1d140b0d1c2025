use Rattle.hex_lanes.proofs.Lanes.{joined_is}
use Rattle.hex_lanes.proofs.decode.join.Goals as goal

pub returns : goal.returns
returns c = joined_is c.args.values c.fits-values.0
