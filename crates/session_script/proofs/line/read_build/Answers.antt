use Rattle.std.proofs.Common.{refl, arith}
use Rattle.session_script.proofs.Parts.{build_wrong}
use Rattle.session_script.proofs.line.read_build.Goals as goal

pub returns-in-Err-read_parts : goal.returns-in-Err-read_parts
returns-in-Err-read_parts c =
    build_wrong c.in-Err-read_parts.fault _ _ _ c.args.fields.now c.read.new.fields c.in-Ok.ensures.1 (omega arith, omega arith)
    ((_, c.in-Ok.ensures.0.0, refl), ((_, c.in-Ok.ensures.0.1, refl), ((_, c.in-Ok.ensures.0.2.0, c.in-Ok.ensures.0.2.1, refl), tt)))
    c.in-Err-read_parts.ensures
