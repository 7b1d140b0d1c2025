use Rattle.std.proofs.Common.{◌++◌, ◌∙◌}
use Rattle.hex_lanes.proofs.Lanes.{woven, woven_is}
use Rattle.hex_lanes.proofs.encode.encode_block.Goals as goal

pub returns : goal.returns
returns c = (λ i. woven (c.high_digits.ensures i ++ c.low_digits.ensures i)) ∙ woven_is c.args.bytes c.fits-bytes.0
