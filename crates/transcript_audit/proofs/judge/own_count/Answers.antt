-- Refused, or accepted.
use Rattle.std.proofs.Common.{sym, ◌∙◌}
use Rattle.transcript_audit.proofs.judge.own_count.Goals as goal

pub returns-in-Some : goal.returns-in-Some
returns-in-Some c = λ s h follows. c.refused_count.ensures s h c.args.event.now (sym (c.in_ok-why.ensures s h follows) ∙ c.in-Some.is)

pub returns-in_ok-found-in-None : goal.returns-in_ok-found-in-None
returns-in_ok-found-in-None c = λ s h follows. c.in_ok-found-in-None.ensures s h follows (sym (c.in_ok-why.ensures s h follows) ∙ c.in-None.is)
