-- The two own answers.
use Rattle.std.proofs.Common.{ℕ, ◌≤◌, List, Option, length, sym, subst, arith}
use Rattle.session_script.specs.declared.event.Event.TheVariants as events
use Rattle.answer_text.specs.declared.answer.Answer.{Answer}
use Rattle.transcript_audit.specs.OwnTests.{OwnFound}
use Rattle.transcript_audit.proofs.OwnFronts.{take_two, found_pair, found_few_pair}
use Rattle.transcript_audit.proofs.judge.stored_count.Goals as goal

pub returns-then-answers-lt2 : goal.returns-then-answers-lt2
returns-then-answers-lt2 c = λ s h r bytes follows accepts filed.
    found_few_pair s h r c.args.b c.args.segment bytes c.args.answers.now accepts filed c.if-answers-lt2.true

pub returns : goal.returns
returns c = λ s h r bytes follows accepts filed.
    let list : List Answer = c.args.answers.now in
    let first : Answer = c.index-answers-0.result in
    let second : Answer = c.index-answers-1.result in
    let below : 2 ≤ length list = omega arith in
    subst (λ (found : Option ℕ). OwnFound s h (events.Segment r c.args.b c.args.segment bytes) list found) (sym c.count_if.ensures)
    (found_pair s h r c.args.b c.args.segment bytes list first second c.in_ok-is_own.is_own accepts filed
    (take_two list first second below c.index-answers-0.is c.index-answers-1.is) below
    (c.in_ok-is_own.ensures s h r bytes follows filed))
