-- One segment more came, or didn't.
use Rattle.std.proofs.Common.{◌≡◌, ℕ, Bool, true, false, not, List, sym, ap, ◌∙◌}
use Rattle.blob_model.specs.Transport.{has_come}
use Rattle.history_notions.specs.Kept.{arrivals_in}
use Rattle.history_notions.proofs.PlacesFound.{number_found, number_not}
use Rattle.history_notions.proofs.transport.missing_of.Goals as goal
use Rattle.history_notions.proofs.transport.missing_of.Goals.{then-not-has_come+in_ok-push, else-not-has_come}

pub loop-segment-preserved : goal.loop-segment-preserved
loop-segment-preserved c =
    let k : ℕ = c.loop-segment.segment in
    let test : ℕ → Bool = λ (segment : ℕ). not (has_come (arrivals_in c.args.brought.now c.args.name) segment) in
    elim c.if-not-has_come.branch [
      | then-not-has_come+in_ok-push w ↦
          (w.found-is ∙ w.in_ok-push.ensures.ok)
          ∙ number_found test k c.loop-segment.found (ap not (sym c.has_come.ensures ∙ w.if-not-has_come.true)) c.loop-segment.invariant
      | else-not-has_come w ↦
          w.found-is ∙ number_not test k c.loop-segment.found (ap not (sym c.has_come.ensures ∙ w.if-not-has_come.false)) c.loop-segment.invariant
    ]
