-- Large, ended, or as the group is judged.
use Rattle.std.proofs.Common.{◌≡◌, ◌||◌, Bool, true, false, List, sym, ap, subst, ◌∙◌}
use Rattle.session_script.specs.declared.event.Event.{Event}
use Rattle.answer_text.specs.declared.answer.Answer.{Answer}
use Rattle.blob_model.specs.History.{after, has_ended}
use Rattle.blob_model.proofs.Lists.{false_true}
use Rattle.transcript_audit.specs.Judged.{Judged}
use Rattle.transcript_audit.specs.Runs.{ends}
use Rattle.transcript_audit.proofs.Ends.{line_ended}
use Rattle.transcript_audit.proofs.auditor.judge_next.Goals as goal

pub returns-then-large : goal.returns-then-large
returns-then-large c = λ s h follows. sym (c.in_ok-large.ensures s h follows.0.follows) ∙ c.if-large.true

pub returns-then-run : goal.returns-then-run
returns-then-run c = λ s h follows. (
  sym (c.in_ok-large.ensures s h follows.0.follows) ∙ c.if-large.false,
  λ legal. false_true (sym legal.open_still ∙ sym follows.1 ∙ c.if-run.true),
)

pub returns-then-not-legal : goal.returns-then-not-legal
returns-then-not-legal c = λ s h follows. (
  sym (c.in_ok-large.ensures s h follows.0.follows) ∙ c.if-large.false,
  subst (λ (b : Bool). Judged s h c.args.group.now c.judge.new.course b) c.if-not-legal.true
      (c.in_ok-legal.ensures s h follows.0 (sym follows.1 ∙ c.if-run.false)),
)

pub returns : goal.returns
returns c = λ s h follows.
    let event : Event = c.args.group.now.event in
    let list : List Answer = c.args.group.now.answers in
    let going : has_ended h ≡ false = sym follows.1 ∙ c.if-run.false in
    let judged : Judged s h c.args.group.now c.judge.new.course true =
    subst (λ (b : Bool). Judged s h c.args.group.now c.judge.new.course b) c.if-not-legal.false (c.in_ok-legal.ensures s h follows.0 going) in
    let ended : c.ends-run.result ≡ has_ended (after h event list) =
    c.ends-run.ensures ∙ ap (ends event) c.as_slice.ensures ∙ sym (line_ended h event list ∙ ap (λ (b : Bool). b || ends event list) going) in
    (sym (c.in_ok-large.ensures s h follows.0.follows) ∙ c.if-large.false, judged.0, (judged.1, ended))
