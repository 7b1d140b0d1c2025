use Rattle.std.proofs.Common.{length}
use Rattle.session_script.proofs.Parts.{AreRead}
use Rattle.session_script.proofs.part.read_parts.Given as goal

abbrev pub invariant-loop-text : goal.invariant-loop-text
invariant-loop-text l = AreRead l.parts l.fn.fields l.fields

abbrev pub decreases-loop-text : goal.decreases-loop-text
decreases-loop-text l = length l.fields
