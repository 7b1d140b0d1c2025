-- A build that is admitted answers its plan.
use Rattle.std.proofs.Common.{◌≡◌, true, List, None, sym, ap, ◌∙◌, subst, if◌then◌else◌, Bool}
use Rattle.session_script.specs.declared.event.Event.TheVariants as events
use Rattle.session_script.specs.declared.event.Part.{Part}
use Rattle.answer_text.specs.declared.answer.Answer.TheVariants as answers
use Rattle.replay_run.specs.History.{heard}
use Rattle.replay_run.specs.Live.{is_spawned}
use Rattle.replay_run.specs.Own.{own_build}
use Rattle.replay_run.specs.Stands.{Stands}
use Rattle.replay_run.proofs.store.Store.build.Goals as goal

-- where a test holds, its first answer counts
chosen : {X : Type 0} {b : Bool} (x y : X) → b ≡ true → if b then x else y ≡ x
chosen {X} {b} x y holds = ap (λ (test : Bool). if test then x else y) holds

pub returns-in_default : goal.returns-in_default
returns-in_default c l h kind stands plain =
    let spawned : is_spawned h c.args.renderer.0 ≡ true = sym (c.is_spawned.ensures l h stands) ∙ c.if-not-is_spawned.false in
    chosen (own_build l h c.args.renderer c.args.name c.args.parts.now) None plain ∙ ap (own_build l h c.args.renderer c.args.name) (sym c.as_slice.ensures) ∙
    c.in_default.ensures.plan l h c.args.renderer stands spawned

pub returns : goal.returns
returns c l h kind stands plain =
    let spawned : is_spawned h c.args.renderer.0 ≡ true = sym (c.is_spawned.ensures l h stands) ∙ c.if-not-is_spawned.false in (
      chosen (own_build l h c.args.renderer c.args.name c.args.parts.now) None plain ∙ ap (own_build l h c.args.renderer c.args.name) (sym c.as_slice.ensures) ∙
          c.in-Some.ensures.plan l h c.args.renderer stands spawned,
      subst (λ (parts : List Part). Stands l c.keep.new.self (heard h (events.Build c.args.renderer c.args.name kind parts)
          (answers.Planned c.in-Some.admitted.plan))) c.as_slice-2.ensures
          (c.in_ok-keep.ensures.ok l h kind stands (c.in-Some.ensures.new l h stands)),
    )
