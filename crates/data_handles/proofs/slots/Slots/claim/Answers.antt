use Rattle.std.proofs.Common.{◌≡◌}
use Rattle.data_handles.proofs.Written
use Rattle.data_handles.proofs.slots.Slots.claim.Goals as goal

pub returns : goal.returns
returns g c =
    let seen = g.H.DataHandle.seen in
    let items = c.args.self.now.slots.items in
    let past = c.args.self.now.past in
    let k = c.args.k in
    let place = c.index_mut.result.now in
    let size = c.in_ok-size.ensures.1 in
    let within = Written.place_within seen (λ handle. handle.size ≡ c.in_ok-size.size) items past k size in
    let there = Written.slot_there seen items k place c.index_mut.ensures.value within in
    (c.in_ok-size.ensures, Written.claimed_places seen items past k place c.claim.new.self there c.claim.ensures)
