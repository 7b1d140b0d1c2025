use Rattle.std.proofs.Common.{ℕ, get_or, take}
use Rattle.std.proofs.lemmas.List.{take_more}
use Rattle.blob_registry.specs.Lists.{turned}
use Rattle.blob_registry.proofs.Numbers.{among_at}
use Rattle.blob_registry.proofs.Putting.{turned_places, put_more}
use Rattle.blob_registry.proofs.lists.weigh_all.Goals as goal

pub turned-requires : goal.turned-requires
turned-requires c = c.requires.below (get_or c.args.numbers.now c.loop-number.number-index 0)
    (among_at c.args.numbers.now c.loop-number.number-index c.loop-number-test.true)

pub loop-number-preserved : goal.loop-number-preserved
loop-number-preserved c =
    let number : ℕ = get_or c.args.numbers.now c.loop-number.number-index 0 in
    let below = c.requires.below number (among_at c.args.numbers.now c.loop-number.number-index c.loop-number-test.true) in
    let more = put_more turned c.args.weighs.now c.loop-number.weighs (take c.loop-number.number-index c.args.numbers.now) number turned_places below
    c.loop-number.invariant in
    rw (c.set.ensures, c.turned.ensures.value, take_more c.args.numbers.now c.loop-number.number-index 0 c.loop-number-test.true) more
