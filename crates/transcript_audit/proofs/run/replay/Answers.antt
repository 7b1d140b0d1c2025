-- The first group begins the session, and the others are taken.
use Rattle.std.proofs.Common.{◌≡◌, List, ◌∷◌, Option, Some, sym, subst}
use Rattle.answer_text.specs.declared.group.Group.{Group}
use Rattle.history_notions.specs.Silent.{outside_of}
use Rattle.transcript_audit.specs.declared.run.Run.{Run}
use Rattle.transcript_audit.specs.Runs.{Begins, Keeps}
use Rattle.transcript_audit.proofs.Verdicts.{begun_keeps}
use Rattle.transcript_audit.proofs.run.replay.Goals as goal

pub returns-in_ok-take_all-in-Some-began : goal.returns-in_ok-take_all-in-Some-began
returns-in_ok-take_all-in-Some-began c = λ legal.
    let outside = outside_of c.args.sizes.now in
    let first : Group = c.in-Some.first.now in
    let more : List Group = c.in-Some.more.now in
    let begun : Run = c.in-Some-began.begun in
    let begins : Begins outside first (Some begun) =
    subst (λ (found : Option Run). Begins outside first found) c.in-Some-began.is c.in_ok-began.ensures in
    let whole : c.args.groups.now ≡ first ∷ more = c.in-Some.ensures.cases.0 in
    subst (λ (list : List Group). Keeps outside list c.take_all.new.run) (sym whole)
    (begun_keeps outside first more begun c.take_all.new.run begins c.in_ok-take_all-in-Some-began.ensures)
