-- The reader at hand is the next of the list as it was.
use Rattle.std.proofs.Common.{◌<◌, length, ap, arith}
use Rattle.replay_run.specs.Open.{placed}
use Rattle.replay_run.proofs.ListLemmas.{mapped_front-step}
use Rattle.replay_run.proofs.store.readers.place_in.Goals as goal

pub loop-reader-preserved : goal.loop-reader-preserved
loop-reader-preserved c =
    let original = c.args.open.now.items in
    let within : c.loop-reader.reader-index < length original = omega (arith, ap length c.deref_mut-reader-items.ensures.value) in
    mapped_front-step (placed c.args.number c.args.place) c.loop-reader.reader-index original c.loop-reader.reader-items c.reader-item.result _
    c.loop-reader.invariant within c.place_after-reader.ensures
