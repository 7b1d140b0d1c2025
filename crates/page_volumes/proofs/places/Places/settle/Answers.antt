use Rattle.std.proofs.Common.{◌<◌, length, arith}
use Rattle.page_volumes.specs.Group.{settled}
use Rattle.page_volumes.proofs.Written
use Rattle.page_volumes.proofs.places.Places.settle.Goals as goal

pub returns : goal.returns
returns g c =
    let vec = c.args.self.now.items in
    let within : c.args.k < length vec.items = omega (arith, vec.ok.0, c.requires) in
    Written.changed_places g.V.Volume.seen (settled c.args.is_home) vec.items c.args.k c.index_mut.result.now c.settle.new.self c.index_mut.ensures.value within
    c.settle.ensures
