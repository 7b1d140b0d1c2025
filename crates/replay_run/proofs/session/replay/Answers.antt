-- What each way out of a replay is.
use Rattle.std.proofs.Common.{◌∷◌, ◌++◌, ℕ, List, [], Option, Err, subst, ap, ◌∙◌, arith}
use Rattle.std.specs.Io.KnownBytes.{prepend_known, Appends, Consumes}
use Rattle.std.proofs.KnownBytes.{Appends-nil, prepend_known-nil}
use Rattle.session_script.specs.declared.event.Event.TheVariants as events
use Rattle.session_script.specs.Line.{line_of}
use Rattle.blob_source.specs.Faults.{Rose}
use Rattle.replay_run.specs.declared.session_end.SessionEnd.TheVariants.{NoMemory}
use Rattle.replay_run.specs.Legal.{opening}
use Rattle.answer_text.specs.Text.{group_text}
use Rattle.replay_run.specs.Puts.{IsUnwritten}
use Rattle.replay_run.specs.Turns.{EndsAt, IsOpening, IsOutFirst}
use Rattle.replay_run.proofs.GoingLemmas.{HasCause-earlier}
use Rattle.replay_run.proofs.OpeningLemmas.{ended-first, ended-cut, replayed}
use Rattle.replay_run.proofs.session.replay.Goals as goal

pub returns-in_default-clause-replay : goal.returns-in_default-clause-replay
returns-in_default-clause-replay g c =
    let held = g.K.Sink.held c.args.out.now in
    let source = g.S.Source.faults c.args.session.now in
    let sink = g.K.Sink.faults c.args.out.now in
    ended-first (g.S.Source.left c.args.session.now) held held source source sink sink NoMemory tt (Appends-nil held)

pub returns-in-Err-clause-replay : goal.returns-in-Err-clause-replay
returns-in-Err-clause-replay g c =
    let told = g.S.Source.left c.args.session.now in
    let held = g.K.Sink.held c.args.out.now in
    let held' = g.K.Sink.held c.take_limits.new.out in
    let ready = ap (λ reader. reader.last) c.in-Ok.ensures in
    let same = ap (λ reader. prepend_known reader.ahead told) c.in-Ok.ensures ∙ prepend_known-nil told in
    ended-first told held held' (g.S.Source.faults c.args.session.now) (g.S.Source.faults c.take_limits.new.session) (g.K.Sink.faults c.args.out.now)
    (g.K.Sink.faults c.take_limits.new.out)
    c.in-Err.ending (c.in-Err.ensures.cause ready) (subst (λ (bytes : Option (List ℕ)). EndsAt IsOpening IsOutFirst 1 bytes held held' c.in-Err.ending) same
    (c.in-Err.ensures.refused ready))

pub returns-in-Err-open_with-clause-replay : goal.returns-in-Err-open_with-clause-replay
returns-in-Err-open_with-clause-replay g c =
    let told = g.S.Source.left c.args.session.now in
    let held' = g.K.Sink.held c.open_with.new.out in
    let sink' = g.K.Sink.faults c.open_with.new.out in
    let first = c.in-Ok-take_limits.ensures.limits (ap (λ reader. reader.last) c.in-Ok.ensures) in
    let ending = c.in-Err-open_with.ending in
    let same = ap (λ reader. prepend_known reader.ahead told) c.in-Ok.ensures ∙ prepend_known-nil told in
    let limits = c.in-Ok-take_limits.limits in
    let unread = prepend_known c.take_limits.new.reader.ahead (g.S.Source.left c.take_limits.new.session) in
    ended-cut told (g.K.Sink.held c.args.out.now) held' (g.S.Source.faults c.args.session.now) (g.S.Source.faults c.take_limits.new.session)
    (g.K.Sink.faults c.args.out.now) sink' limits unread held' first.0
    (subst (λ (bytes : Option (List ℕ)). Consumes bytes unread (line_of (events.Limits limits) ++ 10 ∷ [])) same first.3) ending
    (λ same. subst (λ out. Rose (g.K.Sink.faults out) sink') first.1 (c.in-Err-open_with.ensures.cause (ap (λ e. Err e) same)))
    (subst (λ out. IsUnwritten (group_text (opening limits)) (g.K.Sink.held out) held' ending) first.1 c.in-Err-open_with.ensures.opened)

pub returns-clause-replay : goal.returns-clause-replay
returns-clause-replay g c =
    let told = g.S.Source.left c.args.session.now in
    let held1 = g.K.Sink.held c.open_with.new.out in
    let source = g.S.Source.faults c.args.session.now in
    let source1 = g.S.Source.faults c.take_limits.new.session in
    let source' = g.S.Source.faults c.follow.new.session in
    let sink = g.K.Sink.faults c.args.out.now in
    let sink1 = g.K.Sink.faults c.open_with.new.out in
    let sink' = g.K.Sink.faults c.follow.new.out in
    let first = c.in-Ok-take_limits.ensures.limits (ap (λ reader. reader.last) c.in-Ok.ensures) in
    let same = ap (λ reader. prepend_known reader.ahead told) c.in-Ok.ensures ∙ prepend_known-nil told in
    let limits = c.in-Ok-take_limits.limits in
    let unread = prepend_known c.take_limits.new.reader.ahead (g.S.Source.left c.take_limits.new.session) in
    let taken = c.follow.ensures.taken limits c.in-Ok-open_with.ensures.opened.0 first.2 in
    replayed told (g.K.Sink.held c.args.out.now) (g.K.Sink.held c.follow.new.out) source source' sink sink' limits unread held1 first.0
    (subst (λ (bytes : Option (List ℕ)). Consumes bytes unread (line_of (events.Limits limits) ++ 10 ∷ [])) same first.3)
    (subst (λ out. Appends (g.K.Sink.held out) held1 (group_text (opening limits))) first.1 c.in-Ok-open_with.ensures.opened.1)
    c.follow.result source1 sink1
    (HasCause-earlier c.follow.result source source1 source' sink sink1 sink' c.in-Ok-take_limits.ensures.source_later
    (omega (arith, c.in-Ok-take_limits.ensures.sink_later, c.in-Ok-open_with.ensures.later)) taken.cause)
    taken
