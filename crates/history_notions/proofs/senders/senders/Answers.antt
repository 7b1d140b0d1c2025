-- One place more.
use Rattle.std.proofs.Common.{◌≡◌, ℕ, false, take, get_or, refl, ap, ◌∙◌, arith}
use Rattle.std.specs.List.{list_any}
use Rattle.blob_model.specs.Pieces.{Piece}
use Rattle.history_notions.specs.Reach.{has_at}
use Rattle.history_notions.proofs.Sending.{any_place, both_false}
use Rattle.history_notions.proofs.senders.senders.Goals as goal

pub loop-index-preserved : goal.loop-index-preserved
loop-index-preserved c = λ piece unsent.
    let test = has_at c.args.builds.now piece in
    let k : ℕ = c.loop-index.index in
    let place : ℕ = get_or c.args.places.now k 0 in
    let parts = c.in_ok-note_at.ensures piece unsent in
    any_place test c.args.places.now k (omega arith)
    ∙ both_false (list_any test (take k c.args.places.now)) (test place) (c.loop-index.invariant piece parts.0) parts.1
