use Rattle.std.proofs.Common.{◌≡◌, ◌<◌, true, false, ℕ, suc, ◌+◌, get_or, length, rules, arith, subst}
use Rattle.page_volumes.specs.Plain.{slot_of, slots_of}
use Rattle.page_volumes.proofs.Written
use Rattle.page_volumes.proofs.Writers
use Rattle.page_volumes.proofs.places.Places.writer.Goals as goal

more : (n : ℕ) → suc n ≡ n + 1
more n = omega arith

pub returns-then-not-index-clause-value : goal.returns-then-not-index-clause-value
returns-then-not-index-clause-value g c =
    let seen = g.V.Volume.seen in
    let items = c.args.self.now.items.items in
    let place = c.index.result.now in
    let is : place ≡ get_or items c.loop-k.k place = search rules in
    let within : c.loop-k.k < length items = search rules in
    let free : place.is_retired ≡ false = search rules in
    Writers.writer_here (slots_of seen items) c.loop-k.k (slot_of seen place) (Written.slot_there seen items c.loop-k.k place is within) free c.loop-k.invariant

pub returns-then-not-index-clause-free : goal.returns-then-not-index-clause-free
returns-then-not-index-clause-free g c =
    let seen = g.V.Volume.seen in
    let items = c.args.self.now.items.items in
    let place = c.index.result.now in
    let is : place ≡ get_or items c.loop-k.k place = search rules in
    let within : c.loop-k.k < length items = search rules in
    let free : place.is_retired ≡ false = search rules in
    Writers.free_here (slots_of seen items) c.loop-k.k (slot_of seen place) (Written.slot_there seen items c.loop-k.k place is within) free

pub loop-k-preserved : goal.loop-k-preserved
loop-k-preserved g c =
    let seen = g.V.Volume.seen in
    let items = c.args.self.now.items.items in
    let place = c.index.result.now in
    let is : place ≡ get_or items c.loop-k.k place = search rules in
    let within : c.loop-k.k < length items = search rules in
    let retired : place.is_retired ≡ true = search rules in
    subst (λ n. Writers.AllRetired n (slots_of seen items)) (more c.loop-k.k)
    (Writers.all_retired_more (slots_of seen items) c.loop-k.k (slot_of seen place) (Written.slot_there seen items c.loop-k.k place is within) retired
    c.loop-k.invariant)
