-- One more row goes.
use Rattle.blob_store.proofs.RowsGoing.{next_goes}
use Rattle.blob_store.proofs.parts.Parts.drop_rows.Goals as goal

pub loop-name-preserved : goal.loop-name-preserved
loop-name-preserved c =
    next_goes c.args.self.now c.loop-name.self c.drop_row.new.self c.args.names.now c.loop-name.name-index c.name-item.result
    c.loop-name-test.true c.name-item.is c.loop-name.invariant c.drop_row.ensures
