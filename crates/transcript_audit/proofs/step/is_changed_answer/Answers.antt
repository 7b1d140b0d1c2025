-- The file of the first cell that fails.
use Rattle.std.proofs.Common.{◌≡◌, ℕ, ◌||◌, Bool, true, List, Option, sym, ap, ◌∙◌}
use Rattle.answer_text.specs.declared.answer.Answer.TheVariants as answers
use Rattle.blob_model.specs.Builds.{Cell}
use Rattle.blob_model.specs.Chunk.{fails, file_of, before_failing}
use Rattle.blob_model.specs.Own.{read_faults}
use Rattle.transcript_audit.specs.Tests.{same_answer, is_among}
use Rattle.transcript_audit.specs.Cells.{cell_of, fails_in}
use Rattle.transcript_audit.specs.OwnTests.{is_read}
use Rattle.transcript_audit.proofs.CellReads.{fails_same, found_passes, file_known, no_file_fails}
use Rattle.transcript_audit.proofs.step.is_changed_answer.Goals as goal

pub returns-in-Some : goal.returns-in-Some
returns-in-Some c = λ s h cells follows first before.
    let at = c.args.at.now in
    let a = c.args.answer.now in
    let changed : c.is_file_changed-changed.result ≡ same_answer a (answers.FileChanged c.args.q (file_of (cell_of at))) =
    c.is_file_changed-changed.ensures
    ∙ ap (λ (name : List ℕ). same_answer a (answers.FileChanged c.args.q name))
    (c.as_slice.ensures.bytes ∙ sym (file_known at.source at.index c.in-Some.name.now c.in-Some.ensures)) in
    let fault : c.is_fault_of-fault.result ≡ is_among a (read_faults s h c.args.q (before_failing h cells)) =
    c.is_fault_of-fault.ensures s h follows ∙ ap (λ (list : List Cell). is_among a (read_faults s h c.args.q list)) (sym before) in
    c.either.ensures
    ∙ ap (λ (b : Bool). b || c.is_fault_of-fault.result) changed
    ∙ ap (λ (b : Bool). same_answer a (answers.FileChanged c.args.q (file_of (cell_of at))) || b) fault
    ∙ sym (ap (λ (found : Option Cell). is_read s h c.args.q cells found a) first)

pub returns-in-None : goal.returns-in-None
returns-in-None c = λ s h cells follows first before.
    let at = c.args.at.now in
    let bad : fails_in c.args.contents.now.kept.notes (cell_of at) ≡ true =
    fails_same s h c.args.contents.now follows (cell_of at) ∙ found_passes (fails h) cells (cell_of at) first in
    absurd (no_file_fails c.args.contents.now at.source at.index c.in-None.ensures bad)
