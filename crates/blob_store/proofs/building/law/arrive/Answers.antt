-- The law.
use Rattle.blob_store.proofs.Arriving.{memory_brought, put_added, put_ranges_held}
use Rattle.blob_store.proofs.building.law.arrive.Goals as goal

pub returns : goal.returns
returns c = record {
  ranges = put_ranges_held;
  pieces = λ old new number pieces views put. memory_brought new number pieces views put.held put.whole;
  added = λ all facts count old new items views put news apart. put_added all facts count old new items views put news apart;
}
