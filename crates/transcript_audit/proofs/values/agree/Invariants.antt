use Rattle.std.proofs.Common.{◌≡◌, drop, map}
use Rattle.transcript_audit.specs.Cells.{cell_of, agree_in}
use Rattle.transcript_audit.proofs.values.agree.Given as goal

abbrev pub invariant-loop-place : goal.invariant-loop-place
invariant-loop-place l = agree_in l.contents (map cell_of l.cells) l.bytes ≡ agree_in l.contents (map cell_of (drop l.place l.cells)) (drop l.place l.bytes)
