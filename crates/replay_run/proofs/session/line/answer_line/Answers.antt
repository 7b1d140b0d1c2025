-- A line is refused, or gives its group.
use Rattle.std.proofs.Common.{◌≡◌, ℕ, ◌<◌, ◌≤◌, ◌^◌, List, [], ◌∷◌, ◌++◌, length, take, Option, None, Ok, Err, inl, refl, sym, ◌∙◌, ap, subst}
use Rattle.std.specs.Io.KnownBytes.{Appends, Consumes}
use Rattle.answer_text.specs.Text.{group_text}
use Rattle.answer_text.specs.declared.group.Group.{Group}
use Rattle.blob_words.specs.declared.limits.Limits.{Limits}
use Rattle.session_script.specs.Line.{line_of, HasSpelling}
use Rattle.session_script.specs.declared.event.Event.{Event}
use Rattle.replay_run.specs.declared.reason.Reason.TheVariants as reasons
use Rattle.replay_run.specs.History.{History, after}
use Rattle.replay_run.specs.Legal.{IsLegalGroup}
use Rattle.replay_run.specs.Own.{own}
use Rattle.replay_run.specs.Reads.{IsLineOf}
use Rattle.replay_run.specs.Run.{IsCut}
use Rattle.replay_run.specs.Stands.{Applies}
use Rattle.replay_run.specs.Turns.{IsOutAt, IsTaken}
use Rattle.replay_run.specs.declared.store.Store.{Store}
use Rattle.replay_run.specs.declared.store.fault.ApplyFault.{ApplyFault}
use Rattle.replay_run.specs.declared.store.fault.ApplyFault.TheVariants as faults
use Rattle.replay_run.proofs.TurnLemmas.{bad-fault, begins, ends-fault, ends-refused, turned-ends, with_event}
use Rattle.replay_run.proofs.session.line.answer_line.Goals as goal

-- a line that isn't built has no own answer
unbuilt_here : (l : Limits) (h : History) (event : Event) (s : Store) (fault : ApplyFault) → Applies l h event s (Err fault) → fault ≡ faults.Unbuilt
    → own l h event ≡ None
unbuilt_here l h event s fault applies is = subst (λ (why : ApplyFault). Applies l h event s (Err why)) is applies

pub returns-in-Err-clause-turned : goal.returns-in-Err-clause-turned
returns-in-Err-clause-turned g c l h unread unread' rests short clear taken =
    let held = g.K.Sink.held c.args.out.now in
    let held' = g.K.Sink.held c.refuse_fault.new.out in
    turned-ends l h c.args.number unread unread' held held' c.args.store.now c.refuse_fault.result
    (
    ends-fault (IsLegalGroup l h) (IsOutAt l h) c.args.number unread held held' _ c.refuse_fault.result
    (λ reason is. bad-fault (λ event. ⊥) (λ event. own l h event ≡ None) unread unread' c.args.line.now c.in-Err.fault reason is taken short clear
    c.in-Err.ensures.read) c.refuse_fault.ensures.ends
    )

pub returns-in-Err-Unbuilt-clause-turned : goal.returns-in-Err-Unbuilt-clause-turned
returns-in-Err-Unbuilt-clause-turned g c l h unread unread' rests short clear taken =
    let held = g.K.Sink.held c.args.out.now in
    let held' = g.K.Sink.held c.refuse.new.out in
    let event = c.in-Ok.event in
    let fits = c.in-Ok.ensures.read in
    let unbuilt : own l h event ≡ None = unbuilt_here l h event c.apply.new.self c.in-Err-Unbuilt.field-0 (c.in-Err-Unbuilt.ensures l h rests)
    c.in-Err-Unbuilt.field-0-is in
    turned-ends l h c.args.number unread unread' held held' c.apply.new.self c.refuse.result
    (
    ends-refused (IsLegalGroup l h) (IsOutAt l h) c.args.number unread held held' reasons.Unbuilt c.refuse.result
    (
    with_event (λ one. own l h one ≡ None) unread unread' c.args.line.now event taken
    (fits.0, subst (λ (line : List ℕ). length line ≤ 2 ^ 20) fits.1 short) fits.1 unbuilt
    )
    c.refuse.ensures.refusal
    )

module _ (l : Limits) (h : History) (unread unread' held held' : Option (List ℕ)) (line : List ℕ) (event : Event) (group : Group) (s : Store)
    (short : length line ≤ 2 ^ 20) (taken : Consumes unread unread' (line ++ 10 ∷ [])) (fits : HasSpelling event)
    (spelled : line ≡ line_of event) (applied : Applies l h event s (Ok group)) where
  same : line ≡ line_of group.event
  same = spelled ∙ ap line_of (sym applied.0)

  is_line : IsLineOf group.event
  is_line = (subst HasSpelling (sym applied.0) fits, subst (λ (text : List ℕ). length text ≤ 2 ^ 20) same short)

  consumed : Consumes unread unread' (line_of group.event ++ 10 ∷ [])
  consumed = subst (λ (text : List ℕ). Consumes unread unread' (text ++ 10 ∷ [])) same taken

  abbrev is_taken : Appends held held' (group_text group) → IsTaken l h unread unread' held held' s
  is_taken appended = record {
    group = group;
    legal = applied.1;
    line = is_line;
    consumed = consumed;
    appended = appended;
    stands = applied.2;
    nothing_owed = applied.3;
  }

  cut_off : (number n : ℕ) → n < length (group_text group) → IsCut (IsLegalGroup l h) (IsOutAt l h) number unread (take n (group_text group))
  cut_off number n less = inl (group, applied.1, is_line, begins unread unread' (line_of group.event) consumed, (n, less, refl))

pub returns-in-Err-stream_group_through-clause-turned : goal.returns-in-Err-stream_group_through-clause-turned
returns-in-Err-stream_group_through-clause-turned g c l h unread unread' rests short clear taken =
    let fits = c.in-Ok.ensures.read in
    let cut = c.in-Err-stream_group_through.ensures.streamed in
    let group = c.in-Ok-apply.group in
    let held = g.K.Sink.held c.args.out.now in
    let held' = g.K.Sink.held c.stream_group_through.new.out in (
      take cut.0 (group_text group),
      cut.2,
      cut_off l h unread unread' held held' c.args.line.now c.in-Ok.event group c.apply.new.self short taken fits.0 fits.1
          (c.in-Ok-apply.ensures l h rests) c.args.number cut.0 cut.1,
    )

pub returns-then-has_ended-clause-turned : goal.returns-then-has_ended-clause-turned
returns-then-has_ended-clause-turned g c l h unread unread' rests short clear taken =
    let fits = c.in-Ok.ensures.read in
    let applied = c.in-Ok-apply.ensures l h rests in
    let group = c.in-Ok-apply.group in (
      is_taken l h unread unread' (g.K.Sink.held c.args.out.now) (g.K.Sink.held c.stream_group_through.new.out) c.args.line.now c.in-Ok.event group
          c.apply.new.self short taken fits.0 fits.1 applied c.in-Ok-stream_group_through.ensures.streamed.0,
      sym (c.has_ended.ensures l (after h group.event group.answers) applied.2) ∙ c.if-has_ended.true,
    )

pub returns-clause-turned : goal.returns-clause-turned
returns-clause-turned g c l h unread unread' rests short clear taken =
    let fits = c.in-Ok.ensures.read in
    let applied = c.in-Ok-apply.ensures l h rests in
    let group = c.in-Ok-apply.group in (
      is_taken l h unread unread' (g.K.Sink.held c.args.out.now) (g.K.Sink.held c.stream_group_through.new.out) c.args.line.now c.in-Ok.event group
          c.apply.new.self short taken fits.0 fits.1 applied c.in-Ok-stream_group_through.ensures.streamed.0,
      sym (c.has_ended.ensures l (after h group.event group.answers) applied.2) ∙ c.if-has_ended.false,
    )
