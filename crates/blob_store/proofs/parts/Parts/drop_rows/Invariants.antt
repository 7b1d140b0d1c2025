use Rattle.std.proofs.Common.{take}
use Rattle.blob_store.specs.Dropping.{RowsGo}
use Rattle.blob_store.proofs.RowsGoing.{queue_by, rows_by}
use Rattle.blob_store.proofs.parts.Parts.drop_rows.Given as goal

abbrev pub invariant-loop-name : goal.invariant-loop-name
invariant-loop-name l =
    RowsGo (rows_by l.fn.self.registry.names l.fn.self.rows (take l.name-index l.names))
    (queue_by l.fn.self.quota.waiting (take l.name-index l.names)) l.fn.self l.self
