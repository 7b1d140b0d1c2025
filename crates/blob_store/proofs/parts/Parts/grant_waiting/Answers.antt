-- One head after the other is granted and told, and then none fits.
use Rattle.blob_store.specs.Telling.{Tells}
use Rattle.blob_store.proofs.SeenGranted.{charges_of, goes_on, over}
use Rattle.blob_store.proofs.WholeGranted.{can_open}
use Rattle.blob_store.proofs.parts.Parts.grant_waiting.Goals as goal

pub open-requires : goal.open-requires
open-requires c =
    let parts = c.loop-name.self in
    let charges = charges_of parts.quota c.next_grant.new.self c.in-Some.name c.in-Some.ensures.some in
    can_open parts c.loop-name.invariant.whole c.in-Some.name charges.bytes charges.first charges.fits c.next_grant.new.self

pub loop-name-preserved : goal.loop-name-preserved
loop-name-preserved c =
    let parts = c.loop-name.self in
    let was = c.loop-name.invariant in
    let charges = charges_of parts.quota c.next_grant.new.self c.in-Some.name c.in-Some.ensures.some in
    let next = goes_on c.args.self.now c.args.answers.now c.loop-name.answers parts
    (record { whole = was.whole; swept = was.swept; items = was.items; pages = was.pages; some = was.some })
    c.next_grant.new.self c.in-Some.name c.open.new.self c.push.new.self charges c.in-Ok.ensures.opens c.in-Ok-push.ensures.ok in
    record { whole = next.whole; swept = next.swept; items = next.items; pages = next.pages; some = next.some }

pub returns-clause-tells : goal.returns-clause-tells
unfolding Tells
returns-clause-tells c told table s h late =
    let parts = c.loop-name.self in
    let was = c.loop-name.invariant in
    over c.args.self.now c.args.answers.now c.loop-name.answers parts
    (record { whole = was.whole; swept = was.swept; items = was.items; pages = was.pages; some = was.some })
    c.next_grant.new.self c.in_default.ensures.none.0 c.in_default.ensures.none.1 told table s h late
