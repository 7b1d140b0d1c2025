-- How the first line ends a session.
use Rattle.std.proofs.Common.{◌≡◌, true, false, None}
use Rattle.std.specs.Io.KnownBytes.{prepend_known}
use Rattle.replay_run.specs.declared.reason.Reason.TheVariants as reasons
use Rattle.replay_run.specs.Reads.{limits_of, states_limits}
use Rattle.replay_run.specs.Turns.{IsOpening, IsOutFirst}
use Rattle.replay_run.proofs.GoingLemmas.{caused-late}
use Rattle.replay_run.proofs.TurnLemmas.{bad-long, bad-unended, ends-refused}
use Rattle.replay_run.proofs.session.line.take_limits.Goals as goal

pub returns-in-Unended-clause-refused : goal.returns-in-Unended-clause-refused
returns-in-Unended-clause-refused g c ready =
    let taken = c.in-Unended.ensures.step ready in
    let unread = prepend_known c.args.reader.now.ahead (g.S.Source.left c.args.session.now) in
    ends-refused IsOpening IsOutFirst 1 unread (g.K.Sink.held c.args.out.now) (g.K.Sink.held c.refuse.new.out) reasons.Unended c.refuse.result
    (bad-unended (λ event. states_limits event ≡ false) (λ event. (states_limits event ≡ true) × (limits_of event ≡ None)) unread c.next_line.new.self.line
    taken.3 taken.0 taken.1 taken.2)
    c.refuse.ensures.refusal

pub returns-in-TooLong-clause-refused : goal.returns-in-TooLong-clause-refused
returns-in-TooLong-clause-refused g c ready =
    let taken = c.in-TooLong.ensures.step ready in
    let unread = prepend_known c.args.reader.now.ahead (g.S.Source.left c.args.session.now) in
    let unread' = prepend_known c.next_line.new.self.ahead (g.S.Source.left c.next_line.new.source) in
    ends-refused IsOpening IsOutFirst 1 unread (g.K.Sink.held c.args.out.now) (g.K.Sink.held c.refuse-in-TooLong.new.out) reasons.Long
    c.refuse-in-TooLong.result
    (bad-long (λ event. states_limits event ≡ false) (λ event. (states_limits event ≡ true) × (limits_of event ≡ None)) unread unread' c.next_line.new.self.line
    taken.2 taken.0 taken.1)
    c.refuse-in-TooLong.ensures.refusal

pub returns-in-Line-clause-cause : goal.returns-in-Line-clause-cause
returns-in-Line-clause-cause g c ready =
    caused-late c.read_limits.result (g.S.Source.faults c.args.session.now) (g.S.Source.faults c.next_line.new.source) (g.K.Sink.faults c.args.out.now)
    (g.K.Sink.faults c.read_limits.new.out)
    c.in-Line.ensures.later (c.read_limits.ensures.cause (g.S.Source.faults c.next_line.new.source))
