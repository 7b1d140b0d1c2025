-- The blob at hand is the next of the list as it was.
use Rattle.std.proofs.Common.{◌<◌, length, ap, arith}
use Rattle.replay_run.specs.Shelf.{freed}
use Rattle.replay_run.proofs.ListLemmas.{mapped_front-step}
use Rattle.replay_run.proofs.store.shelf.free_in.Goals as goal

pub loop-blob-preserved : goal.loop-blob-preserved
loop-blob-preserved c =
    let original = c.args.blobs.now.items in
    let within : c.loop-blob.blob-index < length original = omega (arith, ap length c.deref_mut-blob-items.ensures.value) in
    mapped_front-step (freed c.args.name) c.loop-blob.blob-index original c.loop-blob.blob-items c.blob-item.result _ c.loop-blob.invariant within
    c.holder_without-blob.ensures
