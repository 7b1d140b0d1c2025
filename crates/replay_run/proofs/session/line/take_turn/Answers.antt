-- The next line is answered, or refused since it has no end or is too long.
use Rattle.std.proofs.Common.{◌≡◌, ℕ, List, [], ◌∷◌, ◌++◌, None, sym, subst}
use Rattle.std.specs.Io.KnownBytes.{Consumes, prepend_known}
use Rattle.replay_run.specs.declared.reason.Reason.TheVariants as reasons
use Rattle.replay_run.specs.Legal.{IsLegalGroup}
use Rattle.replay_run.specs.Own.{own}
use Rattle.replay_run.specs.Turns.{IsOutAt}
use Rattle.replay_run.proofs.TurnLemmas.{bad-long, bad-unended, ends-refused, turned-ends}
use Rattle.replay_run.proofs.session.line.take_turn.Goals as goal

pub returns-in-Line-clause-turned : goal.returns-in-Line-clause-turned
returns-in-Line-clause-turned g c l h rests ready =
    let unread = prepend_known c.args.reader.now.ahead (g.S.Source.left c.args.session.now) in
    let unread' = prepend_known c.next_line.new.self.ahead (g.S.Source.left c.next_line.new.source) in
    c.answer_line.ensures.turned l h unread unread' rests c.line.ensures.short c.line.ensures.plain
    (subst (λ (line : List ℕ). Consumes unread unread' (line ++ 10 ∷ [])) (sym c.line.ensures.bytes) (c.in-Line.ensures.step ready).2)

pub returns-in-Unended-clause-turned : goal.returns-in-Unended-clause-turned
returns-in-Unended-clause-turned g c l h rests ready =
    let taken = c.in-Unended.ensures.step ready in
    let unread = prepend_known c.args.reader.now.ahead (g.S.Source.left c.args.session.now) in
    let unread' = prepend_known c.next_line.new.self.ahead (g.S.Source.left c.next_line.new.source) in
    let held = g.K.Sink.held c.args.out.now in
    let held' = g.K.Sink.held c.refuse.new.out in
    turned-ends l h c.args.number unread unread' held held' c.args.store.now c.refuse.result
    (
    ends-refused (IsLegalGroup l h) (IsOutAt l h) c.args.number unread held held' reasons.Unended c.refuse.result
    (bad-unended (λ event. ⊥) (λ event. own l h event ≡ None) unread c.next_line.new.self.line taken.3 taken.0 taken.1 taken.2) c.refuse.ensures.refusal
    )

pub returns-in-TooLong-clause-turned : goal.returns-in-TooLong-clause-turned
returns-in-TooLong-clause-turned g c l h rests ready =
    let taken = c.in-TooLong.ensures.step ready in
    let unread = prepend_known c.args.reader.now.ahead (g.S.Source.left c.args.session.now) in
    let unread' = prepend_known c.next_line.new.self.ahead (g.S.Source.left c.next_line.new.source) in
    let held = g.K.Sink.held c.args.out.now in
    let held' = g.K.Sink.held c.refuse-in-TooLong.new.out in
    turned-ends l h c.args.number unread unread' held held' c.args.store.now c.refuse-in-TooLong.result
    (
    ends-refused (IsLegalGroup l h) (IsOutAt l h) c.args.number unread held held' reasons.Long c.refuse-in-TooLong.result
    (bad-long (λ event. ⊥) (λ event. own l h event ≡ None) unread unread' c.next_line.new.self.line taken.2 taken.0 taken.1) c.refuse-in-TooLong.ensures.refusal
    )
