use Rattle.blob_store.proofs.GatheringRows.{written_gathering}
use Rattle.blob_store.proofs.settle.grants.gather.Goals as goal

-- the row is written back with the segments
pub returns : goal.returns
returns c =
    written_gathering c.args.rows.now c.as_mut_slice.result.now c.args.number c.index-as_mut_slice-number.result c.args.segments c.replace-waited.new.dest
    c.as_mut_slice.ensures.value c.requires c.replace-waited.ensures.after
