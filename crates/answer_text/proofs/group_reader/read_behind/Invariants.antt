use Rattle.std.proofs.Common.{◌≡◌, ◌≤◌, length}
use Rattle.answer_text.specs.Groups.{AreAnswers}
use Rattle.answer_text.proofs.group_reader.read_behind.Given as goal

abbrev pub invariant-loop-line : goal.invariant-loop-line
invariant-loop-line l = record {
  room : length l.lines.rest.now ≤ l.lines.total;
  total : l.lines.total ≡ l.fn.lines.total;
  are_answers : AreAnswers l.fn.lines.rest.now l.lines.rest.now l.answers;
}

abbrev pub decreases-loop-line : goal.decreases-loop-line
decreases-loop-line l = length l.lines.rest.now
