-- The group is that of the line.
use Rattle.std.proofs.Common.{◌≡◌, List, [], refl, sym, subst}
use Rattle.answer_text.specs.declared.answer.Answer.{Answer}
use Rattle.replay_run.specs.History.{after}
use Rattle.replay_run.specs.Legal.{IsLegalGroup}
use Rattle.replay_run.specs.Settle.{unfinished}
use Rattle.replay_run.specs.Stands.{Stands}
use Rattle.replay_run.proofs.ApplyLemmas.{applied}
use Rattle.replay_run.proofs.store.Store.apply.Goals as goal

pub returns : goal.returns
returns c l h rests =
    let answered = c.in_ok-answer.ensures l h rests.stands in
    let group = applied l h c.args.event c.answer.new.self c.in_ok-answer.answer c.finished_by-done.result c.tally.result rests.nothing_owed rests.open_still
    answered.0 answered.1
    c.finished_by-done.ensures (λ later stands. c.tally.ensures.model l later stands) in
    let listed = sym c.in_ok-answers.ensures.answers in (
      refl,
      subst (λ (all : List Answer). IsLegalGroup l h (record { event = c.args.event; answers = all; tally = c.tally.result })) listed group.0,
      subst (λ (all : List Answer). Stands l c.answer.new.self (after h c.args.event all)) listed group.1,
      subst (λ (all : List Answer). unfinished (after h c.args.event all) ≡ []) listed group.2,
    )
