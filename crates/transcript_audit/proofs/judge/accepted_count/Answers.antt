-- A segment, or another line.
use Rattle.std.proofs.Common.{sym, ap, subst, ◌∙◌}
use Rattle.session_script.specs.declared.event.Event.{Event}
use Rattle.blob_model.specs.Refusals.{refusal}
use Rattle.transcript_audit.specs.OwnTests.{OwnFound}
use Rattle.transcript_audit.proofs.OwnFronts.{plain_count}
use Rattle.transcript_audit.proofs.judge.accepted_count.Goals as goal

pub returns-in_ok-found-in-Segment : goal.returns-in_ok-found-in-Segment
returns-in_ok-found-in-Segment c = λ s h follows accepts.
    subst (λ (e : Event). OwnFound s h e c.args.answers.now c.in_ok-found-in-Segment.found) (sym c.in-Segment.is)
    (c.in_ok-found-in-Segment.ensures s h c.in-Segment.r c.in-Segment.bytes follows c.in-Segment.is (ap (refusal s h) (sym c.in-Segment.is) ∙ accepts))

pub returns-in_ok-found-in_default : goal.returns-in_ok-found-in_default
returns-in_ok-found-in_default c = λ s h follows accepts.
    c.in_ok-found-in_default.ensures s h follows accepts (plain_count s h c.args.event.now c.in_default.not-Segment)
