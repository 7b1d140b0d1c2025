use Rattle.hex_lanes.proofs.Lanes.{small_of_mask}
use Rattle.hex_lanes.proofs.decode.are_small.Goals as goal

pub returns : goal.returns
returns c = small_of_mask c.args.values c.fits-values.0
