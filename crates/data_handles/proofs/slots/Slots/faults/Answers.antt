use Rattle.std.proofs.Common.{◌≡◌, ◌*◌, ◌^◌, ◌<◌, ◌≤◌, arith, length, sum_by, ap}
use Rattle.data_handles.proofs.Written
use Rattle.data_handles.proofs.slots.Slots.faults.Goals as goal

pub overflow_add-count : goal.overflow_add-count
overflow_add-count g c =
    let vec = c.args.self.now.slots in
    let past = c.args.self.now.past in
    let gaps = Written.gaps_le vec.items in
    let fits : past ≤ 2 ^ 64 * sum_by Written.gap vec.items = c.args.self.now.past_fits in
    let small : length vec.items < 2 ^ 63 = omega (arith, vec.small, vec.ok.0, vec.ok.1) in
    let items : length c.deref-place-items.result.now ≡ length vec.items = ap length c.deref-place-items.ensures.value in
    let faults : c.from-count.result < 2 ^ 64 = rw c.from-count.ensures c.faults.type_inv in
    let here = c.loop-place-test.true in
    let most = c.loop-place.invariant.small in
    omega (arith, gaps, fits, small, items, faults, here, most)
