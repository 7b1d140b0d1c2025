use Rattle.session_script.proofs.Injective.{line_injective}
use Rattle.session_script.proofs.laws.lines_are_injective.Goals as goal

pub returns : goal.returns
returns c = line_injective
