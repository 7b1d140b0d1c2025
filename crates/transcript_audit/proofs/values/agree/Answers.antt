-- As many bytes as cells.
use Rattle.std.proofs.Common.{sym}
use Rattle.transcript_audit.proofs.CellReads.{no_agreement}
use Rattle.transcript_audit.proofs.values.agree.Goals as goal

pub returns-then-cells-bytes : goal.returns-then-cells-bytes
returns-then-cells-bytes c = sym (no_agreement c.args.contents.now c.args.cells.now c.args.bytes.now c.if-cells-bytes.true)
