-- Each kind of line is answered by its own function.
use Rattle.std.proofs.Common.{sym, subst}
use Rattle.session_script.specs.declared.event.Event.{Event}
use Rattle.replay_run.specs.Stands.{Answered}
use Rattle.replay_run.proofs.store.Store.answer.Goals as goal

pub returns-in-Spawn : goal.returns-in-Spawn
returns-in-Spawn c l h stands =
    subst (λ (event : Event). Answered l h event c.spawn.new.self c.spawn.result) (sym c.in-Spawn.is) (c.spawn.ensures l h c.in-Spawn.origin stands)
