-- With own answers the rest decides, without there is none.
use Rattle.std.proofs.Common.{ℕ, List, Option, subst}
use Rattle.answer_text.specs.declared.answer.Answer.{Answer}
use Rattle.transcript_audit.specs.OwnTests.{OwnFound}
use Rattle.transcript_audit.proofs.Judging.{no_own}
use Rattle.transcript_audit.proofs.judge.judge.Goals as goal

pub returns-in_ok-legal-in-Some : goal.returns-in_ok-legal-in-Some
returns-in_ok-legal-in-Some c = λ s h follows going.
    let group = c.args.group.now in
    let found : OwnFound s h group.event group.answers c.in_ok-found.found =
    subst (λ (list : List Answer). OwnFound s h group.event list c.in_ok-found.found) c.as_slice.ensures (c.in_ok-found.ensures s h follows.follows) in
    c.in_ok-legal-in-Some.ensures s h follows going (subst (λ (one : Option ℕ). OwnFound s h group.event group.answers one) c.in-Some.is found)

pub returns-in-None : goal.returns-in-None
returns-in-None c = λ s h follows going.
    let group = c.args.group.now in
    let found : OwnFound s h group.event group.answers c.in_ok-found.found =
    subst (λ (list : List Answer). OwnFound s h group.event list c.in_ok-found.found) c.as_slice.ensures (c.in_ok-found.ensures s h follows.follows) in
    no_own s h group (subst (λ (one : Option ℕ). OwnFound s h group.event group.answers one) c.in-None.is found)
