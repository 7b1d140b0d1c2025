-- One page file more holds a piece, or doesn't.
use Rattle.std.proofs.Common.{◌≡◌, ℕ, Bool, true, false, List, sym, ap, ◌∙◌, arith}
use Rattle.blob_model.specs.Pages.{Page}
use Rattle.history_notions.specs.Chosen.{items_at}
use Rattle.history_notions.specs.Placed.{holds_some}
use Rattle.history_notions.proofs.PlacesFound.{found_more, found_not}
use Rattle.history_notions.proofs.tally.held_files.Goals as goal
use Rattle.history_notions.proofs.tally.held_files.Goals.{then-some+in_ok-push, else-some}

pub loop-place-preserved : goal.loop-place-preserved
loop-place-preserved c =
    let items : List Page = c.args.pages.now in
    let page : Page = c.index-pages-place.result in
    let k : ℕ = c.loop-place.place in
    let places : List ℕ = c.loop-place.places in
    let test : Page → Bool = holds_some c.args.pages.now c.args.builds.now c.args.list.now in
    elim c.if-some.branch [
      | then-some+in_ok-push w ↦
          ap (items_at items) (w.places-is ∙ w.in_ok-push.ensures.ok)
          ∙ found_more items test k page places (omega arith) c.index-pages-place.is (sym c.in_ok-some.ensures ∙ w.if-some.true) c.loop-place.invariant
      | else-some w ↦
          ap (items_at items) w.places-is
          ∙ found_not items test k page places (omega arith) c.index-pages-place.is (sym c.in_ok-some.ensures ∙ w.if-some.false) c.loop-place.invariant
    ]
