use Rattle.std.proofs.Common.{◌<◌, length, arith}
use Rattle.page_volumes.specs.Group.{retired}
use Rattle.page_volumes.proofs.Written
use Rattle.page_volumes.proofs.places.Places.retire.Goals as goal

pub returns : goal.returns
returns g c =
    let vec = c.args.self.now.items in
    let within : c.args.k < length vec.items = omega (arith, vec.ok.0, c.requires) in
    Written.changed_places g.V.Volume.seen retired vec.items c.args.k c.index_mut.result.now c.retire.new.self c.index_mut.ensures.value within c.retire.ensures
