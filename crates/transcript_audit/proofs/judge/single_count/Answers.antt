-- The one own answer.
use Rattle.std.proofs.Common.{ℕ, ◌≤◌, List, Option, length, sym, subst, arith}
use Rattle.answer_text.specs.declared.answer.Answer.{Answer}
use Rattle.transcript_audit.specs.OwnTests.{OwnFound}
use Rattle.transcript_audit.proofs.OwnFronts.{take_one, found_single, found_empty}
use Rattle.transcript_audit.proofs.judge.single_count.Goals as goal

pub returns-then-answers-eq0 : goal.returns-then-answers-eq0
returns-then-answers-eq0 c = λ s h follows accepts count. found_empty s h c.args.event.now c.args.answers.now c.if-answers-eq0.true

pub returns : goal.returns
returns c = λ s h follows accepts count.
    let list : List Answer = c.args.answers.now in
    let a : Answer = c.index-answers-0.result in
    let below : 1 ≤ length list = omega arith in
    subst (λ (found : Option ℕ). OwnFound s h c.args.event.now list found) (sym c.count_if.ensures)
    (found_single s h c.args.event.now list a c.in_ok-is_own.is_own accepts count (take_one list a below c.index-answers-0.is) below
    (c.in_ok-is_own.ensures s h follows))
