-- The first plan that applies to what the table looks at.
use Rattle.std.proofs.Common.{◌≡◌, ap, ◌∙◌}
use Rattle.blob_words.specs.declared.limits.Limits.{Limits}
use Rattle.transport_plan.specs.Plan.{plan_of}
use Rattle.history_notions.specs.Planned.{input_of}
use Rattle.history_notions.proofs.contents.Contents.plan_for.Goals as goal

pub returns : goal.returns
returns c = λ s h follows.
    c.in_ok-plan.ensures
    ∙ ap (λ (limits : Limits). plan_of (input_of limits c.in_ok-room.room)) follows.limits_are
    ∙ ap plan_of (c.in_ok-room.ensures s h follows)
