-- A refused line.
use Rattle.std.proofs.Common.{sym, subst}
use Rattle.answer_text.specs.declared.answer.Answer.{Answer}
use Rattle.blob_model.specs.History.{heard_first}
use Rattle.history_notions.specs.FollowsCourse.{FollowsCourse}
use Rattle.transcript_audit.proofs.judge.take_first.Goals as goal

pub returns-in-Refused : goal.returns-in-Refused
returns-in-Refused c = λ s h follows.
    subst (λ (a : Answer). FollowsCourse s (heard_first h c.args.event.now a) c.refuse.new.self) (sym c.in-Refused.is)
    (c.refuse.ensures s h c.args.event.now c.in-Refused.field-0 follows)
