-- The contents take the line, and its bytes use their pieces.
use Rattle.std.proofs.Common.{ap, ◌∙◌}
use Rattle.blob_model.specs.Victims.{used_by_line}
use Rattle.history_notions.proofs.course.Course.hear.Goals as goal

pub returns : goal.returns
returns c = λ s h follows. record {
  follows = c.in_ok-hear.ensures s h follows.follows;
  uses_are = c.in_ok-use_line.ensures s h follows.follows ∙ ap (used_by_line s.limits h c.args.event.now c.args.answer.now) follows.uses_are;
}
