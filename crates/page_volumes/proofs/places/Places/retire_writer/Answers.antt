use Rattle.std.proofs.Common.{◌≡◌, arith, length, ap, ◌∙◌}
use Rattle.page_volumes.proofs.Logs.{map_length}
use Rattle.page_volumes.specs.Group.{retired}
use Rattle.page_volumes.specs.Plain.{of_places, slot_of}
use Rattle.page_volumes.proofs.Writers.{length_changed}
use Rattle.page_volumes.proofs.places.Places.retire_writer.Goals as goal

pub settle-requires : goal.settle-requires
settle-requires g c =
    let seen = g.V.Volume.seen in
    let old = c.args.self.now.items in
    let new = c.retire.new.self.items in
    let same : length (of_places seen c.retire.new.self) ≡ length (of_places seen c.args.self.now) = ap length c.retire.ensures ∙ length_changed retired
    c.writer-k.result (of_places seen c.args.self.now) in
    let before : length (of_places seen c.args.self.now) ≡ length old.items = map_length (slot_of seen) old.items in
    let after : length (of_places seen c.retire.new.self) ≡ length new.items = map_length (slot_of seen) new.items in
    record { within = omega (arith, same, before, after, old.ok.0, new.ok.0, c.writer-k.ensures.within) }
