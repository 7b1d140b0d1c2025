-- The law as it was proved.
use Rattle.std.proofs.Common.{◌∙◌}
use Rattle.store_laws.proofs.Closing.{held_reached}
use Rattle.store_laws.proofs.PageCharges.{disk_told}
use Rattle.store_laws.proofs.Slots.{slot_reached}
use Rattle.store_laws.proofs.Tallies.{used_is_memory}
use Rattle.store_laws.proofs.laws.reaches_follows.Goals as goal

pub returns : goal.returns
returns c s h stands book shares rows quota files order contents exact rest kept =
    let told = disk_told s h stands book shares rows quota files order contents exact rest kept.counted kept.apart kept.paged in
    record {
      held = held_reached s h stands book shares rows quota files order contents exact rest kept.counted;
      slots = λ k. slot_reached s h stands book shares rows quota files order contents exact rest kept.counted k;
      used = kept.used ∙ used_is_memory s h stands book shares rows quota files order contents exact rest kept.counted kept.apart;
      charged = told.charged;
      many = told.many;
    }
