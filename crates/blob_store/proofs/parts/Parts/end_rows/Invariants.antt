use Rattle.std.proofs.Common.{take}
use Rattle.store_laws.specs.Passing.{ended_names}
use Rattle.blob_store.specs.Dropping.{RowsGo}
use Rattle.blob_store.proofs.RowsGoing.{queue_by, rows_by}
use Rattle.blob_store.proofs.parts.Parts.end_rows.Given as goal

abbrev pub invariant-loop-end : goal.invariant-loop-end
invariant-loop-end l =
    RowsGo (rows_by l.fn.self.registry.names l.fn.self.rows (take l.end-index (ended_names l.ended)))
    (queue_by l.fn.self.quota.waiting (take l.end-index (ended_names l.ended))) l.fn.self l.self
