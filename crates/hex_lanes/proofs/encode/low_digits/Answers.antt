use Rattle.std.proofs.Common.{◌%◌, arith}
use Rattle.hex.specs.Hex.{lower_digits}
use Rattle.hex_lanes.proofs.Lanes.{low_is, low_ok, looked_up}
use Rattle.hex_lanes.proofs.encode.low_digits.Goals as goal

pub swizzle : goal.swizzle
swizzle c = low_ok c.args.bytes c.fits-bytes

pub returns : goal.returns
returns c =
    let v = c.args.bytes in
    looked_up lower_digits (λ x. x % 16) v _ c.fits-bytes (low_is v c.fits-bytes.0) (λ x h. omega arith)
