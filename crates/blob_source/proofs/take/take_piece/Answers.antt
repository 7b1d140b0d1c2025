use Rattle.std.proofs.Common.{◌+◌, ◌^◌, ◌≤◌, length, take, sym, ap, arith}
use Rattle.blob_source.proofs.LineLemmas.{moves_line, moves_all, length_longer}
use Rattle.blob_source.proofs.take.take_piece.Goals as goal

pub returns-in-Some : goal.returns-in-Some
returns-in-Some c =
    let count = c.min-count.result in
    let is_bytes = ap (take count) c.as_slice-3.ensures in
    let room : length c.args.line.now + count ≤ 2 ^ 20 + 1 = omega (arith, ap length c.as_slice.ensures) in
    moves_line c.args.ahead.now _ c.args.line.now _ _ count c.in-Some.place is_bytes (sym c.in-Some.ensures) c.skip.ensures c.append.ensures room

pub returns-then-count-room : goal.returns-then-count-room
returns-then-count-room c =
    let count = c.min-count.result in
    let is_bytes = ap (take count) c.as_slice-3.ensures in
    let within : count ≤ length c.args.ahead.now = omega (arith, ap length c.as_slice-2.ensures) in
    let moves = moves_all c.args.ahead.now _ c.args.line.now _ _ count is_bytes (sym c.in-None.ensures) c.skip-in-None.ensures c.append-in-None.ensures in
    let long = length_longer c.args.ahead.now c.args.line.now _ _ count is_bytes within c.append-in-None.ensures in
    (moves, omega (arith, long, ap length c.as_slice.ensures))

pub returns-else-count-room : goal.returns-else-count-room
returns-else-count-room c =
    let count = c.min-count.result in
    let is_bytes = ap (take count) c.as_slice-3.ensures in
    let within : count ≤ length c.args.ahead.now = omega (arith, ap length c.as_slice-2.ensures) in
    let moves = moves_all c.args.ahead.now _ c.args.line.now _ _ count is_bytes (sym c.in-None.ensures) c.skip-in-None.ensures c.append-in-None.ensures in
    let long = length_longer c.args.ahead.now c.args.line.now _ _ count is_bytes within c.append-in-None.ensures in
    (moves, omega (arith, long, ap length c.as_slice.ensures), omega (arith, long, ap length c.as_slice.ensures, ap length c.as_slice-2.ensures))
