-- The line is taken, and the session ends with an accepted `end` line.
use Rattle.std.proofs.Common.{◌||◌, Bool, List, sym, ap, subst, ◌∙◌}
use Rattle.session_script.specs.declared.event.Event.{Event}
use Rattle.answer_text.specs.declared.answer.Answer.{Answer}
use Rattle.blob_model.specs.History.{after}
use Rattle.history_notions.specs.FollowsCourse.{FollowsCourse}
use Rattle.transcript_audit.specs.Runs.{ends}
use Rattle.transcript_audit.proofs.Ends.{line_ended}
use Rattle.transcript_audit.proofs.run.Run.take.Goals as goal

pub returns : goal.returns
returns c = λ s h follows.
    let event : Event = c.args.group.now.event in
    let list : List Answer = c.args.group.now.answers in
    let kept : FollowsCourse s (after h event list) c.take_line.new.course =
    subst (λ (own : List Answer). FollowsCourse s (after h event own) c.take_line.new.course) c.as_slice-answers.ensures
    (c.in_ok-take_line.ensures s h follows.0) in (
      kept,
      c.either-self.ensures ∙ ap (λ (b : Bool). c.args.self.now.ended || b) (c.ends.ensures ∙ ap (ends event) c.as_slice-answers.ensures)
          ∙ ap (λ (b : Bool). b || ends event list) follows.1 ∙ sym (line_ended h event list),
    )
