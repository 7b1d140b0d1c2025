-- The parts so far and this one have no more bytes than all parts.
use Rattle.std.proofs.Common.{length, ap, arith}
use Rattle.std.proofs.lemmas.List.Folds.{length-flat_map-take}
use Rattle.session_script.specs.declared.event.Part.{Part}
use Rattle.replay_run.specs.Builds.{part_bytes}
use Rattle.replay_run.proofs.store.content.measure_parts.Goals as goal

pub returns-then-len-most : goal.returns-then-len-most
returns-then-len-most c =
    let within = length-flat_map-take part_bytes c.args.parts.now c.loop-part.part-index c.part-item.result c.loop-part-test.true in
    let this = ap (λ (part : Part). length (part_bytes part)) c.part-item.is in
    omega (arith, within, this, ap length c.part_bytes.ensures)
