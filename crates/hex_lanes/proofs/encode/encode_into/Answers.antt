use Rattle.std.proofs.Common.{IsOk, arith}
use Rattle.hex_lanes.proofs.Loops.{encode_last, encode_more, nothing_encoded, on_ok}
use Rattle.hex_lanes.proofs.encode.encode_into.Goals as goal

pub loop-at-init : goal.loop-at-init
loop-at-init c = (omega arith, nothing_encoded)

pub loop-at-preserved : goal.loop-at-preserved
loop-at-preserved c =
    let room = c.loop-at.invariant.0 in
    (omega arith, encode_more c.args.bytes.now c.loop-at.out _ c.loop-at.at (omega arith) (omega arith) c.encode_block.ensures c.loop-at.invariant.1)

pub returns : goal.returns
returns c =
    let room = c.loop-at.invariant.0 in
    let done : IsOk c.encode_to_slice.result = c.encode_to_slice.ensures.fits.1 (omega arith) in
    encode_last c.args.bytes.now c.loop-at.out _ c.loop-at.at (omega arith) (omega arith) (on_ok _ _ done c.encode_to_slice.ensures.written)
    c.loop-at.invariant.1
