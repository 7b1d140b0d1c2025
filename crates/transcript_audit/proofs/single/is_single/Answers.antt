-- Each line has the own answer of its kind.
use Rattle.std.proofs.Common.{◌≡◌, ℕ, ◌&&◌, Bool, not, List, ◌∷◌, Option, Some, refl, sym, ap, ◌∙◌}
use Rattle.blob_words.specs.declared.plan.Plan.{Plan}
use Rattle.blob_words.specs.declared.plan.Plan.TheVariants as plans
use Rattle.session_script.specs.declared.event.Event.{Event}
use Rattle.session_script.specs.declared.event.Part.{Part}
use Rattle.answer_text.specs.declared.answer.Answer.{Answer}
use Rattle.answer_text.specs.declared.answer.Answer.TheVariants as answers
use Rattle.blob_model.specs.Session.{Session}
use Rattle.blob_model.specs.History.{History}
use Rattle.blob_model.specs.Construct.{build_answer}
use Rattle.blob_model.specs.Own.{plan_in, stored_answers, unstored_answers}
use Rattle.transcript_audit.specs.Tests.{same_answer, is_among, is_file}
use Rattle.transcript_audit.specs.OwnTests.{is_single}
use Rattle.transcript_audit.proofs.single.is_single.Goals as goal

segment_single : (s : Session) (h : History) (b segment : ℕ) (a : Answer) (plan : Option Plan)
    → (not (is_file plan) && same_answer a (answers.Taken segment))
    ≡ is_among a ((answers.Taken segment ∷ stored_answers s h b segment plan) ∷ unstored_answers s h segment plan)
segment_single s h b segment a (Some (plans.File n)) = refl
segment_single s h b segment a plan = refl

pub returns-in_ok-is_own-in-Build : goal.returns-in_ok-is_own-in-Build
returns-in_ok-is_own-in-Build c = λ s h follows.
    c.in_ok-is_own-in-Build.ensures s h follows
    ∙ ap (λ (parts : List Part). same_answer c.args.answer.now (build_answer s h c.in-Build.r.0 c.in-Build.b parts)) c.as_slice.ensures
    ∙ ap (λ (event : Event). is_single s h event c.args.answer.now) (sym c.in-Build.is)

pub returns-in_ok-is_own-in-Slice : goal.returns-in_ok-is_own-in-Slice
returns-in_ok-is_own-in-Slice c = λ s h follows. c.in_ok-is_own-in-Slice.ensures s h follows
    ∙ ap (λ (event : Event). is_single s h event c.args.answer.now) (sym c.in-Slice.is)

pub returns-in_ok-is_own-in-Stat : goal.returns-in_ok-is_own-in-Stat
returns-in_ok-is_own-in-Stat c = λ s h follows. c.in_ok-is_own-in-Stat.ensures s h follows
    ∙ ap (λ (event : Event). is_single s h event c.args.answer.now) (sym c.in-Stat.is)

pub returns-in_ok-is_own-in-Step : goal.returns-in_ok-is_own-in-Step
returns-in_ok-is_own-in-Step c = λ s h follows. c.in_ok-is_own-in-Step.ensures s h follows
    ∙ ap (λ (event : Event). is_single s h event c.args.answer.now) (sym c.in-Step.is)

pub returns-in_ok-is_own-in-Disk : goal.returns-in_ok-is_own-in-Disk
returns-in_ok-is_own-in-Disk c = λ s h follows. c.in_ok-is_own-in-Disk.ensures s h follows
    ∙ ap (λ (event : Event). is_single s h event c.args.answer.now) (sym c.in-Disk.is)

pub returns-in_ok-is_own-in-Count : goal.returns-in_ok-is_own-in-Count
returns-in_ok-is_own-in-Count c = λ s h follows. c.in_ok-is_own-in-Count.ensures s h follows
    ∙ ap (λ (event : Event). is_single s h event c.args.answer.now) (sym c.in-Count.is)

pub returns-in-Segment : goal.returns-in-Segment
returns-in-Segment c = λ s h follows.
    let a : Answer = c.args.answer.now in
    let plan : Option Plan = plan_in s h c.in-Segment.b in
    c.both.ensures
    ∙ ap (λ (filed : Bool). not filed && c.is_taken.result) (c.is_filed-is_held.ensures s h follows)
    ∙ ap (λ (taken : Bool). not (is_file plan) && taken) c.is_taken.ensures
    ∙ segment_single s h c.in-Segment.b c.in-Segment.seg a plan
    ∙ ap (λ (event : Event). is_single s h event a) (sym c.in-Segment.is)

pub returns-in-Revoke : goal.returns-in-Revoke
returns-in-Revoke c = λ s h follows. c.is_revoke_answer.ensures s h follows ∙ ap (λ (event : Event). is_single s h event c.args.answer.now)
    (sym c.in-Revoke.is)

pub returns-in-Read : goal.returns-in-Read
returns-in-Read c = λ s h follows. c.is_opened_on.ensures s h follows ∙ ap (λ (event : Event). is_single s h event c.args.answer.now) (sym c.in-Read.is)

pub returns-in-Fetch : goal.returns-in-Fetch
returns-in-Fetch c = λ s h follows. c.is_fetch_answer.ensures s h follows ∙ ap (λ (event : Event). is_single s h event c.args.answer.now) (sym c.in-Fetch.is)

pub returns-in-Lost : goal.returns-in-Lost
returns-in-Lost c = λ s h follows. c.is_lost_job.ensures ∙ ap (λ (event : Event). is_single s h event c.args.answer.now) (sym c.in-Lost.is)
