-- Where the plan is file there are two, else one.
use Rattle.std.proofs.Common.{◌≡◌, false, sym, ap, subst, ◌∙◌}
use Rattle.session_script.specs.declared.event.Event.{Event}
use Rattle.session_script.specs.declared.event.Event.TheVariants as events
use Rattle.blob_model.specs.Refusals.{refusal}
use Rattle.blob_model.specs.Own.{plan_in}
use Rattle.transcript_audit.specs.Tests.{is_file}
use Rattle.transcript_audit.specs.OwnTests.{event_count, OwnFound}
use Rattle.transcript_audit.proofs.OwnFronts.{other_count}
use Rattle.transcript_audit.proofs.judge.segment_count.Goals as goal

pub returns-then-is_filed : goal.returns-then-is_filed
returns-then-is_filed c = λ s h r bytes follows at accepts.
    c.in_ok-found.ensures s h r bytes follows accepts (sym (c.is_filed.ensures s h follows) ∙ c.if-is_filed.true)

pub returns : goal.returns
returns c = λ s h r bytes follows at accepts.
    let event : Event = events.Segment r c.args.b c.args.segment bytes in
    let other : is_file (plan_in s h c.args.b) ≡ false = sym (c.is_filed.ensures s h follows) ∙ c.if-is_filed.false in
    subst (λ (e : Event). OwnFound s h e c.args.answers.now c.in_ok-found-2.found) at
    (c.in_ok-found-2.ensures s h follows (ap (refusal s h) at ∙ accepts) (ap (event_count s h) at ∙ other_count (plan_in s h c.args.b) other))
