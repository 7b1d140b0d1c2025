-- The first line states the limits, or is refused.
use Rattle.std.proofs.Common.{◌≡◌, ℕ, ◌≤◌, ◌^◌, true, false, List, length, None, refl, sym, ◌∙◌, ap, subst}
use Rattle.session_script.specs.declared.event.Event.TheVariants as events
use Rattle.session_script.specs.Line.{line_of}
use Rattle.replay_run.specs.declared.reason.Reason.TheVariants as reasons
use Rattle.replay_run.specs.Reads.{limits_of, states_limits}
use Rattle.replay_run.specs.Turns.{IsOpening, IsOutFirst}
use Rattle.replay_run.proofs.TurnLemmas.{bad-fault, ends-fault, ends-refused, with_event, is_limits}
use Rattle.replay_run.proofs.session.line.read_limits.Goals as goal

pub returns-in-Err-clause-refused : goal.returns-in-Err-clause-refused
returns-in-Err-clause-refused g c unread unread' short clear taken =
    ends-fault IsOpening IsOutFirst 1 unread (g.K.Sink.held c.args.out.now) (g.K.Sink.held c.refuse_fault.new.out) _ c.refuse_fault.result
    (
    λ reason is.
    bad-fault (λ event. states_limits event ≡ false) (λ event. (states_limits event ≡ true) × (limits_of event ≡ None)) unread unread' c.args.line.now
    c.in-Err.fault reason is taken short clear
    c.in-Err.ensures.read
    )
    c.refuse_fault.ensures.ends

pub returns-then-not-states_limits-clause-refused : goal.returns-then-not-states_limits-clause-refused
returns-then-not-states_limits-clause-refused g c unread unread' short clear taken =
    let event = c.in-Ok.event in
    let fits = c.in-Ok.ensures.read in
    ends-refused IsOpening IsOutFirst 1 unread (g.K.Sink.held c.args.out.now) (g.K.Sink.held c.refuse.new.out) reasons.First c.refuse.result
    (
    with_event (λ one. states_limits one ≡ false) unread unread' c.args.line.now event taken
    (fits.0, subst (λ (line : List ℕ). length line ≤ 2 ^ 20) fits.1 short) fits.1
    (sym c.states_limits.ensures ∙ c.if-not-states_limits.true)
    )
    c.refuse.ensures.refusal

pub returns-in-None-clause-refused : goal.returns-in-None-clause-refused
returns-in-None-clause-refused g c unread unread' short clear taken =
    let event = c.in-Ok.event in
    let fits = c.in-Ok.ensures.read in
    ends-refused IsOpening IsOutFirst 1 unread (g.K.Sink.held c.args.out.now) (g.K.Sink.held c.refuse-in-None.new.out) reasons.Unbuilt c.refuse-in-None.result
    (
    with_event (λ one. (states_limits one ≡ true) × (limits_of one ≡ None)) unread unread' c.args.line.now event taken
    (fits.0, subst (λ (line : List ℕ). length line ≤ 2 ^ 20) fits.1 short) fits.1
    (sym c.states_limits.ensures ∙ c.if-not-states_limits.false, sym c.limits_of.ensures ∙ c.in-None.is)
    )
    c.refuse-in-None.ensures.refusal

pub returns-in-Some-clause-limits : goal.returns-in-Some-clause-limits
returns-in-Some-clause-limits g c short =
    let event : c.in-Ok.event ≡ events.Limits c.in-Some.limits = is_limits c.in-Ok.event c.in-Some.limits (sym c.in-Some.ensures) in
    let line : c.args.line.now ≡ line_of (events.Limits c.in-Some.limits) = c.in-Ok.ensures.read.1 ∙ ap line_of event in
    ((tt, subst (λ (line : List ℕ). length line ≤ 2 ^ 20) line short), line, refl)
