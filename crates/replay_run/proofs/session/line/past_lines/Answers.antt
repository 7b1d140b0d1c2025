-- A line behind the greatest number of lines has a byte.
use Rattle.std.proofs.Common.{ℕ, ◌<◌, List, [], ◌∷◌, ◌++◌, length, arith, length-append}
use Rattle.std.specs.Io.KnownBytes.{prepend_known}
use Rattle.replay_run.specs.declared.reason.Reason.TheVariants as reasons
use Rattle.replay_run.specs.Turns.{IsNone, IsOutPast}
use Rattle.replay_run.proofs.TurnLemmas.{past-some, past-unended, ends-refused}
use Rattle.replay_run.proofs.session.line.past_lines.Goals as goal

fed : (line : List ℕ) → 0 < length (line ++ 10 ∷ [])
fed line = omega (arith, length-append line (10 ∷ []))

pub returns-in-Line-clause-ends : goal.returns-in-Line-clause-ends
returns-in-Line-clause-ends g c ready =
    let taken = c.in-Line.ensures.step ready in
    let unread = prepend_known c.args.reader.now.ahead (g.S.Source.left c.args.session.now) in
    let unread' = prepend_known c.next_line.new.self.ahead (g.S.Source.left c.next_line.new.source) in
    let line = c.next_line.new.self.line in
    ends-refused IsNone IsOutPast 1048577 unread (g.K.Sink.held c.args.out.now) (g.K.Sink.held c.refuse.new.out) reasons.Lines c.refuse.result
    (past-some unread unread' (line ++ 10 ∷ []) taken.2 (fed line))
    c.refuse.ensures.refusal

pub returns-in-Unended-clause-ends : goal.returns-in-Unended-clause-ends
returns-in-Unended-clause-ends g c ready =
    let taken = c.in-Unended.ensures.step ready in
    let unread = prepend_known c.args.reader.now.ahead (g.S.Source.left c.args.session.now) in
    ends-refused IsNone IsOutPast 1048577 unread (g.K.Sink.held c.args.out.now) (g.K.Sink.held c.refuse-in-Unended.new.out) reasons.Lines
    c.refuse-in-Unended.result
    (past-unended unread c.next_line.new.self.line taken.3 taken.0) c.refuse-in-Unended.ensures.refusal

pub returns-in-TooLong-clause-ends : goal.returns-in-TooLong-clause-ends
returns-in-TooLong-clause-ends g c ready =
    let taken = c.in-TooLong.ensures.step ready in
    let unread = prepend_known c.args.reader.now.ahead (g.S.Source.left c.args.session.now) in
    let unread' = prepend_known c.next_line.new.self.ahead (g.S.Source.left c.next_line.new.source) in
    ends-refused IsNone IsOutPast 1048577 unread (g.K.Sink.held c.args.out.now) (g.K.Sink.held c.refuse-in-TooLong.new.out) reasons.Lines
    c.refuse-in-TooLong.result
    (past-some unread unread' c.next_line.new.self.line taken.2 (omega (arith, taken.0))) c.refuse-in-TooLong.ensures.refusal
