-- One blob more waits, or doesn't.
use Rattle.std.proofs.Common.{◌≡◌, ℕ, Bool, true, false, List, sym, ap, ◌∙◌, arith}
use Rattle.blob_model.specs.Builds.{Build}
use Rattle.history_notions.specs.Chosen.{items_at}
use Rattle.history_notions.specs.Missing.{is_waiting_in}
use Rattle.history_notions.proofs.PlacesFound.{found_more, found_not}
use Rattle.history_notions.proofs.waits.waiting_places.Goals as goal
use Rattle.history_notions.proofs.waits.waiting_places.Goals.{then-is_waiting+in_ok-push, else-is_waiting}

pub loop-place-preserved : goal.loop-place-preserved
loop-place-preserved c =
    let items : List Build = c.args.builds.now in
    let build : Build = c.index-builds-place.result in
    let k : ℕ = c.loop-place.place in
    let places : List ℕ = c.loop-place.places in
    let test : Build → Bool = is_waiting_in c.args.endings.now c.args.granted.now in
    elim c.if-is_waiting.branch [
      | then-is_waiting+in_ok-push w ↦
          ap (items_at items) (w.places-is ∙ w.in_ok-push.ensures.ok)
          ∙ found_more items test k build places (omega arith) c.index-builds-place.is (sym c.is_waiting.ensures ∙ w.if-is_waiting.true) c.loop-place.invariant
      | else-is_waiting w ↦
          ap (items_at items) w.places-is
          ∙ found_not items test k build places (omega arith) c.index-builds-place.is (sym c.is_waiting.ensures ∙ w.if-is_waiting.false) c.loop-place.invariant
    ]
