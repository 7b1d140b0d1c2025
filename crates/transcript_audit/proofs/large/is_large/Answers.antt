-- An accepted build.
use Rattle.std.proofs.Common.{◌≡◌, ◌&&◌, List, sym, ap, ◌∙◌}
use Rattle.std.specs.Prelude.{is_none}
use Rattle.session_script.specs.declared.event.Event.{Event}
use Rattle.session_script.specs.declared.event.Event.TheVariants as events
use Rattle.session_script.specs.declared.event.Part.{Part}
use Rattle.blob_model.specs.Refusals.{refusal}
use Rattle.transcript_audit.specs.Large.{has_too_many, is_large}
use Rattle.transcript_audit.proofs.large.is_large.Goals as goal

pub returns-in_ok-many-in-Build : goal.returns-in_ok-many-in-Build
returns-in_ok-many-in-Build c = λ s h follows.
    let r = c.in-Build.r in
    let b = c.in-Build.b in
    let line : Event = events.Build r b c.in-Build.kind c.in-Build.parts in
    c.in_ok-many-in-Build.ensures s h follows
    ∙ ap (λ (one : Event). is_none (refusal s h one) && has_too_many s h r b c.as_slice.result.now) c.in-Build.is
    ∙ ap (λ (list : List Part). is_none (refusal s h line) && has_too_many s h r b list) c.as_slice.ensures
    ∙ ap (is_large s h) (sym c.in-Build.is)
