use Rattle.blob_store.proofs.Unpinning.{one_unpinned}
use Rattle.blob_store.proofs.parts.Parts.unpin.Goals as goal

-- one pin more goes
pub loop-slot-preserved : goal.loop-slot-preserved
loop-slot-preserved c =
    one_unpinned c.args.self.now c.loop-slot.self c.args.slots.now c.loop-slot.slot-index c.loop-slot-test.true c.loop-slot.invariant
    c.release-item.result c.release-item.new.self c.release-item.ensures.weighs
    c.discharge_if.new.quota c.discharge_if.new.pages c.discharge_if.new.recent c.discharge_if.new.held
    c.release-item.ensures.last c.release-item.ensures.others c.release-item.ensures.counted
    c.discharge_if.ensures.used c.discharge_if.ensures.pages c.discharge_if.ensures.recent c.discharge_if.ensures.held c.discharge_if.ensures.agrees
