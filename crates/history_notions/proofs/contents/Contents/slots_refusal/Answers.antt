-- The slots of the history's blobs are taken.
use Rattle.std.proofs.Common.{◌≡◌, ℕ, List, length, ap, ◌∙◌}
use Rattle.blob_model.specs.Builds.{Build}
use Rattle.blob_model.specs.Choice.{first_that}
use Rattle.blob_model.specs.Parts.{claims}
use Rattle.blob_model.specs.Refusals.{claimed, slot_refusals}
use Rattle.history_notions.specs.Slots.{slot_tests, claimed_in}
use Rattle.history_notions.proofs.Slots.{slots_follow}
use Rattle.history_notions.proofs.contents.Contents.slots_refusal.Goals as goal

pub returns : goal.returns
returns c = λ s h follows.
    let contents = c.args.self.now in
    let wanted : List ℕ = claims c.args.parts.now in
    let count : c.len.result ≡ length contents.sizes = c.len.ensures in
    let taken : c.in_ok-taken.taken ≡ claimed s h = c.in_ok-taken.ensures ∙ ap claimed_in (c.as_slice.ensures ∙ follows.builds_are) in
    let slots : c.as_slice-2.result.now ≡ wanted = c.as_slice-2.ensures ∙ c.in_ok-slots.ensures in
    c.in_ok-why.ensures
    ∙ ap (λ (n : ℕ). first_that (slot_tests n c.in_ok-taken.taken c.as_slice-2.result.now)) count
    ∙ ap (λ (list : List ℕ). first_that (slot_tests (length contents.sizes) list c.as_slice-2.result.now)) taken
    ∙ ap (λ (list : List ℕ). first_that (slot_tests (length contents.sizes) (claimed s h) list)) slots
    ∙ ap first_that (slots_follow s h contents follows (claimed s h) wanted)
