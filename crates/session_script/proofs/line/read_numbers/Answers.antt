use Rattle.std.proofs.Common.{inr}
use Rattle.session_script.proofs.Parts.{numbers_wrong}
use Rattle.session_script.proofs.line.read_numbers.Goals as goal

pub returns-in-Err : goal.returns-in-Err
returns-in-Err c =
    let n = c.in_ok-memory in
    let fit = n.ensures.0 in
    inr (numbers_wrong n.memory n.disk n.big n.inline_max n.segment n.page n.chunk c.args.fields.now _ fit.0 fit.1 fit.2 fit.3 fit.4 fit.5 fit.6
    n.ensures.1 c.in-Err.ensures.fault)
