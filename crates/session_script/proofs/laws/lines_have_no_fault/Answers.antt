use Rattle.session_script.proofs.Lines.{line_no_fault}
use Rattle.session_script.proofs.laws.lines_have_no_fault.Goals as goal

pub returns : goal.returns
returns c = line_no_fault
