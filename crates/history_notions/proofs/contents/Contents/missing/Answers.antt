-- What is missing by the history's arrivals and limits.
use Rattle.std.proofs.Common.{◌≡◌, ℕ, ◌==◌, not, List, length, filter, ap, ◌∙◌}
use Rattle.std.specs.List.{range_with_len}
use Rattle.blob_words.specs.declared.limits.Limits.{Limits}
use Rattle.blob_model.specs.Transport.{Arrival, has_come, spans, missing}
use Rattle.history_notions.specs.Kept.{Brought}
use Rattle.history_notions.specs.Missing.{missing_in}
use Rattle.history_notions.proofs.contents.Contents.missing.Goals as goal

pub returns : goal.returns
returns c = λ s h follows.
    let build = c.args.build.now in
    let limits : Limits = c.args.self.now.limits in
    c.in_ok-found.ensures
    ∙ ap (λ (brought : List Brought). missing_in limits brought build) c.as_slice-brought.ensures
    ∙ ap (λ (came : List Arrival). filter (λ (segment : ℕ). not (has_come came segment)) (range_with_len 0 (length (spans limits build))))
    (follows.keeps.arrivals_are build.name)
    ∙ ap (λ (l : Limits). missing l h build) follows.limits_are
