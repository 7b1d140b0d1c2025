-- What is kept between two lines.
use Rattle.std.proofs.Common.{◌≡◌, ◌≤◌, []}
use Rattle.std.specs.Io.KnownBytes.{prepend_known}
use Rattle.blob_words.specs.declared.limits.Limits.{Limits}
use Rattle.blob_source.specs.declared.line_step.LineStep.TheVariants as steps
use Rattle.replay_run.specs.History.{start}
use Rattle.replay_run.specs.Stands.{Rests}
use Rattle.replay_run.specs.Turns.{Going}
use Rattle.replay_run.proofs.session.follow.follow.Given as goal

abbrev pub invariant-loop-number : goal.invariant-loop-number
invariant-loop-number g l = record {
  source : g.S.Source.faults l.fn.session ≤ g.S.Source.faults l.session;
  sink : g.K.Sink.faults l.fn.out ≤ g.K.Sink.faults l.out;
  empty : l.buffer ≡ [];
  going : (limits : Limits) → Rests limits l.fn.store start → l.fn.reader.last ≡ steps.Line
      → (l.reader.last ≡ steps.Line)
      × Going limits (prepend_known l.fn.reader.ahead (g.S.Source.left l.fn.session)) (prepend_known l.reader.ahead (g.S.Source.left l.session))
      (g.K.Sink.held l.fn.out) (g.K.Sink.held l.out) l.store l.number;
}
