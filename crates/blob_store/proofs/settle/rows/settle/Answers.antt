use Rattle.blob_store.proofs.Settling.{written_back}
use Rattle.blob_store.proofs.settle.rows.settle.Goals as goal

-- the row is written back settled
pub returns-clause-rest : goal.returns-clause-rest
returns-clause-rest c =
    written_back c.args.rows.now c.as_mut_slice.result.now c.args.number c.index-as_mut_slice-number.result c.replace.new.dest c.as_mut_slice.ensures.value
    c.requires c.replace.ensures.after
