use Rattle.std.proofs.Common.{◌*◌, ◌^◌, ◌<◌, ◌≤◌, arith, length, sum_by, Option, ap, ◌∙◌, subst}
use Rattle.std.specs.Prelude.{IsSome}
use Rattle.data_handles.specs.Handles.{Handle}
use Rattle.data_handles.specs.Table.{count_of, Slot}
use Rattle.data_handles.specs.Slots.{slot_of}
use Rattle.data_handles.proofs.Written
use Rattle.data_handles.proofs.slots.Slots.release.Goals as goal

pub overflow_add-self : goal.overflow_add-self
overflow_add-self g c =
    let seen = g.H.DataHandle.seen in
    let items = c.args.self.now.slots.items in
    let past = c.args.self.now.past in
    let k = c.args.k in
    let place = c.index_mut.result.now in
    let gaps = Written.gaps_le items in
    let fits : past ≤ 2 ^ 64 * sum_by Written.gap items = c.args.self.now.past_fits in
    let vec = c.args.self.now.slots in
    let small : length items < 2 ^ 63 = omega (arith, vec.small, vec.ok.0, vec.ok.1) in
    let faults : c.from.result < 2 ^ 64 = rw c.from.ensures c.release-faults.type_inv in
    omega (arith, gaps, fits, small, faults)

pub invariant_of-self : goal.invariant_of-self
invariant_of-self g c =
    let seen = g.H.DataHandle.seen in
    let items = c.args.self.now.slots.items in
    let past = c.args.self.now.past in
    let k = c.args.k in
    let place = c.index_mut.result.now in
    let within = Written.held_within seen items past k c.requires.held in
    let there = Written.slot_there seen items k place c.index_mut.ensures.value within in
    let some = Written.some_seen seen place.object (subst (λ (object : Option Handle). IsSome object) (Written.old_object seen items past k place there)
    c.requires.held) in
    let none = Written.none_seen seen c.release-faults.new.self.object (ap (λ (slot : Slot). slot.object) c.release-faults.ensures.rest) in
    let gaps = Written.gaps_more items k place c.release-faults.new.self c.index_mut.ensures.value within some none in
    let fits : past ≤ 2 ^ 64 * sum_by Written.gap items = c.args.self.now.past_fits in
    let faults : c.from.result < 2 ^ 64 = rw c.from.ensures c.release-faults.type_inv in
    record { few = c.args.self.now.few; past_fits = omega (arith, gaps, fits, faults) }

pub returns : goal.returns
returns g c =
    let seen = g.H.DataHandle.seen in
    let items = c.args.self.now.slots.items in
    let past = c.args.self.now.past in
    let k = c.args.k in
    let place = c.index_mut.result.now in
    let new = c.release-faults.new.self in
    let within = Written.held_within seen items past k c.requires.held in
    let there = Written.slot_there seen items k place c.index_mut.ensures.value within in
    let faults = c.from.ensures ∙ c.release-faults.ensures.faults in
    let rest = Written.released_places seen items past k c.from.result place new there c.release-faults.ensures.rest faults in
    record { rest = rest; count = ap count_of rest ∙ Written.released_count (Written.slots_of seen items) past k (slot_of seen place) there }
