-- Each line has the refusal of its kind.
use Rattle.std.proofs.Common.{List, sym, ap, ◌∙◌}
use Rattle.session_script.specs.declared.event.Event.TheVariants as events
use Rattle.session_script.specs.declared.event.Part.{Part}
use Rattle.blob_model.specs.Refusals.{refusal}
use Rattle.transcript_audit.proofs.why.refusal.Goals as goal

pub returns-in-Spawn : goal.returns-in-Spawn
returns-in-Spawn c = λ s h follows. c.spawn_refusal.ensures s h c.in-Spawn.origin follows.keeps ∙ ap (refusal s h) (sym c.in-Spawn.is)

pub returns-in-Die : goal.returns-in-Die
returns-in-Die c = λ s h follows. c.renderer_refusal.ensures.die s h follows.keeps ∙ ap (refusal s h) (sym c.in-Die.is)

pub returns-in-File : goal.returns-in-File
returns-in-File c = λ s h follows. c.file_refusal.ensures s h c.in-File.bytes follows.keeps ∙ ap (refusal s h) (sym c.in-File.is)

pub returns-in-Gone : goal.returns-in-Gone
returns-in-Gone c = λ s h follows. c.gone_refusal.ensures s h follows.keeps ∙ ap (refusal s h) (sym c.in-Gone.is)

pub returns-in-Pass : goal.returns-in-Pass
returns-in-Pass c = λ s h follows. c.pass_refusal.ensures s h follows.keeps ∙ ap (refusal s h) (sym c.in-Pass.is)

pub returns-in-Drop : goal.returns-in-Drop
returns-in-Drop c = λ s h follows. c.handle_refusal.ensures.drop s h follows.keeps ∙ ap (refusal s h) (sym c.in-Drop.is)

pub returns-in-Stat : goal.returns-in-Stat
returns-in-Stat c = λ s h follows. c.handle_refusal-in-Stat.ensures.stat s h follows.keeps ∙ ap (refusal s h) (sym c.in-Stat.is)

pub returns-in-Revoke : goal.returns-in-Revoke
returns-in-Revoke c = λ s h follows. c.renderer_refusal-in-Revoke.ensures.revoke s h c.in-Revoke.text follows.keeps ∙ ap (refusal s h) (sym c.in-Revoke.is)

pub returns-in-Disk : goal.returns-in-Disk
returns-in-Disk c = λ s h follows. c.job_refusal.ensures.disk s h follows.keeps ∙ ap (refusal s h) (sym c.in-Disk.is)

pub returns-in-Lost : goal.returns-in-Lost
returns-in-Lost c = λ s h follows. c.job_refusal-in-Lost.ensures.lost s h follows.keeps ∙ ap (refusal s h) (sym c.in-Lost.is)

pub returns-in_ok-why-in-Build : goal.returns-in_ok-why-in-Build
returns-in_ok-why-in-Build c = λ s h follows.
    c.in_ok-why-in-Build.ensures s h c.in-Build.kind follows
    ∙ ap (λ (parts : List Part). refusal s h (events.Build c.in-Build.r c.in-Build.b c.in-Build.kind parts)) c.as_slice.ensures
    ∙ ap (refusal s h) (sym c.in-Build.is)

pub returns-in_ok-why-in-Slice : goal.returns-in_ok-why-in-Slice
returns-in_ok-why-in-Slice c = λ s h follows. c.in_ok-why-in-Slice.ensures s h c.in-Slice.kind follows ∙ ap (refusal s h) (sym c.in-Slice.is)

pub returns-in_ok-why-in-Url : goal.returns-in_ok-why-in-Url
returns-in_ok-why-in-Url c = λ s h follows. c.in_ok-why-in-Url.ensures s h follows ∙ ap (refusal s h) (sym c.in-Url.is)
