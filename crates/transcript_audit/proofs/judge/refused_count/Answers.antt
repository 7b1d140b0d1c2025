-- The refusal alone.
use Rattle.std.proofs.Common.{ℕ, ◌≤◌, Bool, List, Option, None, Some, length, sym, ap, subst, ◌∙◌, arith, if◌then◌else◌}
use Rattle.answer_text.specs.declared.answer.Answer.{Answer}
use Rattle.transcript_audit.specs.OwnTests.{OwnFound}
use Rattle.transcript_audit.proofs.OwnFronts.{take_one, found_refused, found_empty}
use Rattle.transcript_audit.proofs.judge.refused_count.Goals as goal

pub returns-then-answers-eq0 : goal.returns-then-answers-eq0
returns-then-answers-eq0 c = λ s h event refuses. found_empty s h event c.args.answers.now c.if-answers-eq0.true

pub returns : goal.returns
returns c = λ s h event refuses.
    let list : List Answer = c.args.answers.now in
    let a : Answer = c.index-answers-0.result in
    let below : 1 ≤ length list = omega arith in
    subst (λ (found : Option ℕ). OwnFound s h event list found)
    (sym (c.count_if.ensures ∙ ap (λ (b : Bool). if b then Some 1 else None) c.is_refused.ensures))
    (found_refused s h event list a c.args.why refuses (take_one list a below c.index-answers-0.is) below)
