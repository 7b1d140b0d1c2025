-- One line more, and the two ways to end.
use Rattle.std.proofs.Common.{arith, refl}
use Rattle.std.specs.Io.KnownBytes.{prepend_known}
use Rattle.replay_run.specs.History.{start, history_from}
use Rattle.replay_run.proofs.GoingLemmas.{going-more, going-over, going-past, HasCause-earlier}
use Rattle.replay_run.proofs.session.follow.follow.Goals as goal

pub returns-in-Over-clause-taken : goal.returns-in-Over-clause-taken
returns-in-Over-clause-taken g c l rests ready =
    let kept = c.loop-number.invariant.going l rests ready in
    let going = kept.1 in
    let source = g.S.Source.faults c.args.session.now in
    let source' = g.S.Source.faults c.take_turn.new.session in
    let sink = g.K.Sink.faults c.args.out.now in
    let sink' = g.K.Sink.faults c.take_turn.new.out in
    going-over l _ _ _ _ _ _ _ c.take_turn.new.store c.loop-number.number going source source' sink sink'
    (omega (arith, c.loop-number-test.true)) c.in-Over.ending
    (HasCause-earlier c.in-Over.ending source (g.S.Source.faults c.loop-number.session) source' sink (g.K.Sink.faults c.loop-number.out) sink'
    c.loop-number.invariant.source c.loop-number.invariant.sink (c.in-Over.ensures.cause kept.0))
    (c.in-Over.ensures.turned l (history_from start going.groups) going.rests kept.0)

pub loop-number-preserved : goal.loop-number-preserved
loop-number-preserved g c = record {
  source = omega (arith, c.loop-number.invariant.source, c.in-More.ensures.source_later);
  sink = omega (arith, c.loop-number.invariant.sink, c.in-More.ensures.sink_later);
  empty = c.in-More.ensures.empty refl;
  going = λ l rests ready.
      let kept = c.loop-number.invariant.going l rests ready in
      let turned = c.in-More.ensures.turned l (history_from start kept.1.groups) kept.1.rests kept.0 in
      (c.in-More.ensures.ready refl, going-more l _ _ _ _ _ _ _ c.take_turn.new.store c.loop-number.number kept.1 turned.0 turned.1);
}

pub returns-clause-taken : goal.returns-clause-taken
returns-clause-taken g c l rests ready =
    let kept = c.loop-number.invariant.going l rests ready in
    let source = g.S.Source.faults c.args.session.now in
    let source' = g.S.Source.faults c.past_lines.new.session in
    let sink = g.K.Sink.faults c.args.out.now in
    let sink' = g.K.Sink.faults c.past_lines.new.out in
    going-past l _ _ (prepend_known c.past_lines.new.reader.ahead (g.S.Source.left c.past_lines.new.session)) _ _ _ _ c.loop-number.store c.loop-number.number
    kept.1 source source' sink sink'
    (omega (arith, c.loop-number-test.false, c.loop-number.auto.number-end)) c.past_lines.result
    (HasCause-earlier c.past_lines.result source (g.S.Source.faults c.loop-number.session) source' sink (g.K.Sink.faults c.loop-number.out) sink'
    c.loop-number.invariant.source c.loop-number.invariant.sink (c.past_lines.ensures.cause kept.0))
    (c.past_lines.ensures.ends kept.0)
