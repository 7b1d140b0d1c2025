use Rattle.std.proofs.Common.{refl}
use Rattle.session_gen.proofs.round.data_line.Goals as goal

pub returns-clause-line : goal.returns-clause-line
returns-clause-line c = rw (c.builder.ensures, c.built.ensures, c.in_ok-bytes.ensures.bytes, c.requires.place) refl
