use Rattle.std.proofs.Common.{◌≡◌, take}
use Rattle.std.specs.Prelude.{filter}
use Rattle.transcript_audit.specs.Owed.{is_pageable}
use Rattle.transcript_audit.proofs.starts.pageable_of.Given as goal

abbrev pub invariant-loop-piece : goal.invariant-loop-piece
invariant-loop-piece l = l.found ≡ filter (is_pageable l.endings l.job) (take l.piece-index l.list)
