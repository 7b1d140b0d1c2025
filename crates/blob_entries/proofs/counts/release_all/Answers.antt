use Rattle.std.proofs.Common.{◌≡◌, ℕ, ◌+◌, ◌<◌, ◌≤◌, ◌++◌, ◌∷◌, [], List, arith, get_or, take, ◌∙◌, ap, sym, append_assoc}
use Rattle.std.proofs.lemmas.List.{take_more}
use Rattle.item_shares.specs.declared.item.Item.{Item}
use Rattle.blob_items.specs.declared.view.View.{View}
use Rattle.blob_entries.proofs.Counting.{freed_step, on_more, on_next}
use Rattle.blob_entries.specs.Counts.{count_at, freed_at, freed_by, one_at, views_on}
use Rattle.blob_entries.proofs.counts.release_all.Goals as goal

pub release_one-requires : goal.release_one-requires
release_one-requires c =
    let view : View = c.view-item.result in
    let slot : ℕ = view.slot in
    let is : view ≡ get_or c.args.views.now c.loop-view.view-index view = c.view-item.is in
    let next : views_on slot (take c.loop-view.view-index c.args.views.now) + 1 ≤ views_on slot c.args.views.now =
    rw (ap (λ (v : View). v.slot) is) (on_next c.args.views.now c.loop-view.view-index view c.loop-view-test.true) in
    omega (arith, next, c.requires slot, c.loop-view.invariant.counts slot)

pub loop-view-preserved : goal.loop-view-preserved
loop-view-preserved c =
    let view : View = c.view-item.result in
    let slot : ℕ = view.slot in
    let seen : List View = take c.loop-view.view-index c.args.views.now in
    let is : view ≡ get_or c.args.views.now c.loop-view.view-index view = c.view-item.is in
    let next : views_on slot seen + 1 ≤ views_on slot c.args.views.now =
    rw (ap (λ (v : View). v.slot) is) (on_next c.args.views.now c.loop-view.view-index view c.loop-view-test.true) in
    let some : 0 < count_at c.loop-view.shares slot = omega (arith, next, c.requires slot, c.loop-view.invariant.counts slot) in
    let more : take (c.loop-view.view-index + 1) c.args.views.now ≡ seen ++ view ∷ [] = take_more c.args.views.now c.loop-view.view-index view
    c.loop-view-test.true ∙ ap (λ (v : View). seen ++ v ∷ []) (sym is) in
    let said = c.in_ok-release_one.ensures in
    let freed : freed_by c.args.shares.now [] (seen ++ view ∷ []) ≡ freed_by c.args.shares.now [] seen ++ freed_at c.loop-view.shares slot 0 =
    freed_step c.args.shares.now c.loop-view.shares seen view c.loop-view.invariant.counts c.loop-view.invariant.items some in
    record {
      counts = λ other.
          let on : views_on other (take (c.loop-view.view-index + 1) c.args.views.now) ≡ views_on other seen + one_at slot other =
          on_more other c.args.views.now c.loop-view.view-index view c.loop-view-test.true
          ∙ ap (λ (v : View). views_on other seen + one_at v.slot other) (sym is) in
          omega (arith, said.counts other, c.loop-view.invariant.counts other, on);
      items = λ other some. said.items other some ∙ c.loop-view.invariant.items other (omega (arith, said.counts other, some));
      freed = said.freed ∙ ap (λ (items : List Item). items ++ freed_at c.loop-view.shares slot 0) c.loop-view.invariant.freed
          ∙ append_assoc c.args.freed.now (freed_by c.args.shares.now [] seen) (freed_at c.loop-view.shares slot 0)
          ∙ ap (λ (items : List Item). c.args.freed.now ++ items) (sym freed)
          ∙ ap (λ (views : List View). c.args.freed.now ++ freed_by c.args.shares.now [] views) (sym more);
      weighs = λ weight. said.weighs weight ∙ c.loop-view.invariant.weighs weight;
    }
