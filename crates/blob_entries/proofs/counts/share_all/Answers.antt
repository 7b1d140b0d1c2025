use Rattle.std.proofs.Common.{◌≡◌, ℕ, ◌+◌, ◌<◌, ◌≤◌, ◌^◌, arith, get_or, take, length, ◌∙◌, ap, sym}
use Rattle.blob_items.specs.declared.view.View.{View}
use Rattle.blob_entries.proofs.Counting.{Shared, below_is, on_length, on_more, on_next, shared_at}
use Rattle.blob_entries.specs.Counts.{one_at, views_on}
use Rattle.blob_entries.proofs.counts.share_all.Goals as goal

pub share-requires : goal.share-requires
share-requires c =
    let view : View = c.view-item.result in
    let slot : ℕ = view.slot in
    let is : view ≡ get_or c.args.views.now c.loop-view.view-index view = c.view-item.is in
    let next : views_on slot (take c.loop-view.view-index c.args.views.now) + 1 ≤ views_on slot c.args.views.now =
    rw (ap (λ (v : View). v.slot) is) (on_next c.args.views.now c.loop-view.view-index view c.loop-view-test.true) in
    let some : 0 < views_on slot c.args.views.now = omega arith in
    let asked = c.requires slot some in
    let counts = c.loop-view.invariant.counts slot in
    let most : views_on slot c.args.views.now ≤ length c.args.views.now = on_length slot c.args.views.now in
    below_is c.loop-view.shares slot (2 ^ 32) (omega (arith, asked, counts)) (omega (arith, asked, counts, next, most))

pub loop-view-preserved : goal.loop-view-preserved
loop-view-preserved c =
    let view : View = c.view-item.result in
    let slot : ℕ = view.slot in
    let is : view ≡ get_or c.args.views.now c.loop-view.view-index view = c.view-item.is in
    let next : views_on slot (take c.loop-view.view-index c.args.views.now) + 1 ≤ views_on slot c.args.views.now =
    rw (ap (λ (v : View). v.slot) is) (on_next c.args.views.now c.loop-view.view-index view c.loop-view-test.true) in
    let some : 0 < views_on slot c.args.views.now = omega arith in
    let asked = c.requires slot some in
    let counts = c.loop-view.invariant.counts slot in
    let shared : Shared c.loop-view.shares c.share.new.self slot = shared_at c.loop-view.shares c.share.new.self slot
    (omega (arith, asked, counts)) c.share.ensures.more in
    record {
      counts = λ other.
          let more : views_on other (take (c.loop-view.view-index + 1) c.args.views.now) ≡ views_on other
          (take c.loop-view.view-index c.args.views.now) + one_at slot other =
          on_more other c.args.views.now c.loop-view.view-index view c.loop-view-test.true
          ∙ ap (λ (v : View). views_on other (take c.loop-view.view-index c.args.views.now) + one_at v.slot other) (sym is) in
          omega (arith, shared.counts other, c.loop-view.invariant.counts other, more);
      items = λ other. shared.items other ∙ c.loop-view.invariant.items other;
    }
