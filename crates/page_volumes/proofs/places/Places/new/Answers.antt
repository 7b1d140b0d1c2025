use Rattle.std.proofs.Common.{rules, arith, ◌≡◌, length}
use Rattle.std.specs.Vec.Iter.{into_iter_items, into_iter_len}
use Rattle.std.proofs.lemmas.Iterator.Adapters.{YieldsList-from_vec}
use Rattle.std.proofs.lemmas.Iterator.Consumers.{YieldsList-end}
use Rattle.page_volumes.proofs.places.Places.new.Goals as goal

-- there are as many places as volumes
pub invariant_of-result : goal.invariant_of-result
invariant_of-result g c =
    let iterator = c.into_iter-volume-iterator.result in
    let volumes = c.args.volumes.items in
    let items : into_iter_items iterator ≡ volumes = search rules in
    let len : into_iter_len iterator ≡ length volumes = search rules in
    let ended = YieldsList-end (YieldsList-from_vec {s = iterator} volumes items len) c.loop-volume.yielded c.loop-volume.volume-iterator
    c.loop-volume.yielded_by c.next.result c.next.new.self c.in-None.is c.next.ensures.steps in
    let many : length c.loop-volume.yielded ≡ length volumes = ended.1 in
    omega (arith, many, c.requires.most, c.loop-volume.invariant.as_many, c.args.volumes.ok.0)
