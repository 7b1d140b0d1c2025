-- The parts of the slice of the history's blobs.
use Rattle.std.proofs.Common.{List, ap, ◌∙◌}
use Rattle.session_script.specs.declared.event.Part.{Part}
use Rattle.blob_model.specs.Construct.{build_answer}
use Rattle.transcript_audit.specs.Tests.{same_answer}
use Rattle.transcript_audit.proofs.own.is_slice_answer.Goals as goal

pub returns : goal.returns
returns c = λ s h follows.
    c.in_ok-is_own.ensures s h follows
    ∙ ap (λ (parts : List Part). same_answer c.args.answer.now (build_answer s h c.args.r.0 c.args.b parts))
    (c.as_slice.ensures ∙ c.in_ok-parts.ensures s h follows)
