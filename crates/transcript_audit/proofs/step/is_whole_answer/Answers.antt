-- No cell fails.
use Rattle.std.proofs.Common.{◌||◌, Bool, List, Option, map, sym, ap, ◌∙◌}
use Rattle.blob_model.specs.Builds.{Cell}
use Rattle.transcript_audit.specs.Cells.{cell_of}
use Rattle.transcript_audit.specs.OwnTests.{is_given, is_read}
use Rattle.transcript_audit.proofs.step.is_whole_answer.Goals as goal

pub returns : goal.returns
returns c = λ s h follows none.
    let cells : List Cell = map cell_of c.args.cells.now in
    c.either.ensures
    ∙ ap (λ (b : Bool). b || c.is_fault_of-fault.result) (c.in_ok-given.ensures s h follows)
    ∙ ap (λ (b : Bool). is_given s h c.args.q cells c.args.answer.now || b) (c.is_fault_of-fault.ensures s h follows)
    ∙ sym (ap (λ (first : Option Cell). is_read s h c.args.q cells first c.args.answer.now) none)
