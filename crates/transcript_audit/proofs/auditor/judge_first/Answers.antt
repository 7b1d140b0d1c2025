-- The first group is the first that is taken.
use Rattle.std.proofs.Common.{◌≡◌, List, [], ◌∷◌, ◌++◌, Option, Some, sym, ap, subst, ◌∙◌}
use Rattle.answer_text.specs.declared.group.Group.{Group}
use Rattle.history_notions.specs.Silent.{outside_of}
use Rattle.transcript_audit.specs.declared.run.Run.{Run}
use Rattle.transcript_audit.specs.Runs.{Begins, Keeps}
use Rattle.transcript_audit.proofs.Verdicts.{first_legal, first_keeps}
use Rattle.transcript_audit.proofs.auditor.judge_first.Goals as goal

pub returns-in_ok-push-in-Some-clause-says : goal.returns-in_ok-push-in-Some-clause-says
returns-in_ok-push-in-Some-clause-says c =
    let outside = outside_of c.args.sizes.now in
    let begins : Begins outside c.args.group (Some c.in-Some.begun) =
    subst (λ (found : Option Run). Begins outside c.args.group found) c.in-Some.is c.in_ok-began.ensures in
    first_legal outside c.args.taken.now c.push.new.self c.in-Some.begun c.args.group c.requires.first begins c.in_ok-push-in-Some.ensures.ok

pub returns-in_ok-push-in-Some-clause-run : goal.returns-in_ok-push-in-Some-clause-run
returns-in_ok-push-in-Some-clause-run c =
    let outside = outside_of c.args.sizes.now in
    let begins : Begins outside c.args.group (Some c.in-Some.begun) =
    subst (λ (found : Option Run). Begins outside c.args.group found) c.in-Some.is c.in_ok-began.ensures in
    let alone : c.push.new.self ≡ c.args.group ∷ [] =
    c.in_ok-push-in-Some.ensures.ok ∙ ap (λ (old : List Group). old ++ c.args.group ∷ []) c.requires.first in
    subst (λ (list : List Group). Keeps outside list c.in-Some.begun) (sym alone) (first_keeps outside c.in-Some.begun c.args.group begins)
