use Rattle.std.proofs.Common.{rules, arith, ◌≡◌, length}
use Rattle.std.specs.Vec.Iter.{into_iter_items, into_iter_len}
use Rattle.std.proofs.lemmas.Iterator.Adapters.{YieldsList-from_vec}
use Rattle.std.proofs.lemmas.Iterator.Consumers.{YieldsList-end}
use Rattle.data_handles.proofs.slots.Slots.new.Goals as goal

-- there are as many slots as objects
pub invariant_of-result : goal.invariant_of-result
invariant_of-result g c =
    let iterator = c.into_iter-object-iterator.result in
    let objects = c.args.objects.items in
    let items : into_iter_items iterator ≡ objects = search rules in
    let len : into_iter_len iterator ≡ length objects = search rules in
    let ended = YieldsList-end (YieldsList-from_vec {s = iterator} objects items len) c.loop-object.yielded c.loop-object.object-iterator
    c.loop-object.yielded_by c.next.result c.next.new.self c.in-None.is c.next.ensures.steps in
    let many : length c.loop-object.yielded ≡ length objects = ended.1 in
    record {
      few = omega (arith, many, c.requires, c.loop-object.invariant.as_many, c.args.objects.ok.0);
      past_fits = omega arith;
    }
