-- The bytes that are given agree with the history's cells.
use Rattle.std.proofs.Common.{◌≡◌, ◌==◌, ◌&&◌, Bool, List, map, sym, ap, ◌∙◌}
use Rattle.answer_text.specs.declared.answer.Answer.{Answer}
use Rattle.blob_model.specs.Builds.{Cell}
use Rattle.blob_model.specs.Value.{agree}
use Rattle.transcript_audit.specs.Cells.{cell_of, agree_in}
use Rattle.transcript_audit.specs.OwnTests.{is_given}
use Rattle.transcript_audit.proofs.CellReads.{agree_same}
use Rattle.transcript_audit.proofs.step.is_given_answer.Goals as goal

pub returns-in_ok-same-in-Given : goal.returns-in_ok-same-in-Given
returns-in_ok-same-in-Given c = λ s h follows.
    let contents = c.args.contents.now in
    let cells : List Cell = map cell_of c.args.cells.now in
    let same : c.in_ok-same-in-Given.same ≡ agree s h cells c.in-Given.bytes =
    c.in_ok-same-in-Given.ensures ∙ ap (agree_in contents cells) c.as_slice.ensures ∙ agree_same s h contents follows cells c.in-Given.bytes in
    c.both.ensures
    ∙ ap (λ (b : Bool). (c.in-Given.told.0 == c.args.q.0) && b) same
    ∙ ap (λ (a : Answer). is_given s h c.args.q cells a) (sym c.in-Given.is)
