use Rattle.session_script.proofs.Parts.{part_wrong}
use Rattle.session_script.proofs.part.read_parts.Goals as goal

pub returns-in-Err : goal.returns-in-Err
returns-in-Err c = part_wrong _ _ c.in-Some.text.now _ _ _ c.loop-text.invariant c.in-Some.ensures c.in-Err.ensures.read
