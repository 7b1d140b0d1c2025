-- What the verdict on the group after a history says of it after the groups that were taken.
use Rattle.std.proofs.Common.{List, refl, sym, subst}
use Rattle.answer_text.specs.declared.group.Group.{Group}
use Rattle.transcript_audit.specs.declared.verdict.Verdict.{Verdict}
use Rattle.transcript_audit.specs.declared.verdict.Verdict.TheVariants.{Legal, Illegal, Large}
use Rattle.transcript_audit.specs.Runs.{Keeps}
use Rattle.transcript_audit.proofs.Verdicts.{Next, later_legal, later_keeps, later_illegal, later_large}
use Rattle.transcript_audit.proofs.auditor.judge_later.Goals as goal

pub returns-in_ok-push-in-Legal-clause-says : goal.returns-in_ok-push-in-Legal-clause-says
returns-in_ok-push-in-Legal-clause-says c = λ outside legal keeps.
    let next : Next c.args.kept c.args.group c.judge_next.new.run Legal =
    subst (λ (verdict : Verdict). Next c.args.kept c.args.group c.judge_next.new.run verdict) c.in-Legal.is c.in_ok-verdict.ensures in
    later_legal outside c.args.taken.now c.push.new.self c.args.kept c.judge_next.new.run c.args.group legal keeps next
    c.in_ok-push-in-Legal.ensures.ok

pub returns-in_ok-push-in-Legal-clause-run : goal.returns-in_ok-push-in-Legal-clause-run
returns-in_ok-push-in-Legal-clause-run c = λ outside legal keeps.
    let next : Next c.args.kept c.args.group c.judge_next.new.run Legal =
    subst (λ (verdict : Verdict). Next c.args.kept c.args.group c.judge_next.new.run verdict) c.in-Legal.is c.in_ok-verdict.ensures in
    subst (λ (list : List Group). Keeps outside list c.judge_next.new.run) (sym c.in_ok-push-in-Legal.ensures.ok)
    (later_keeps outside c.args.taken.now c.args.kept c.judge_next.new.run c.args.group keeps next)

pub returns-in-Illegal-clause-says : goal.returns-in-Illegal-clause-says
returns-in-Illegal-clause-says c = λ outside legal keeps.
    let next : Next c.args.kept c.args.group c.judge_next.new.run Illegal =
    subst (λ (verdict : Verdict). Next c.args.kept c.args.group c.judge_next.new.run verdict) c.in-Illegal.is c.in_ok-verdict.ensures in
    later_illegal outside c.args.taken.now c.args.taken.now c.args.kept c.judge_next.new.run c.args.group keeps next refl

pub returns-in-Large-clause-says : goal.returns-in-Large-clause-says
returns-in-Large-clause-says c = λ outside legal keeps.
    let next : Next c.args.kept c.args.group c.judge_next.new.run Large =
    subst (λ (verdict : Verdict). Next c.args.kept c.args.group c.judge_next.new.run verdict) c.in-Large.is c.in_ok-verdict.ensures in
    later_large outside c.args.taken.now c.args.taken.now c.args.kept c.judge_next.new.run c.args.group keeps next refl
