use Rattle.std.proofs.Common.{ℕ, arith, get_or, take}
use Rattle.std.proofs.lemmas.List.{take_more}
use Rattle.blob_registry.proofs.Numbers.{among_at}
use Rattle.blob_registry.proofs.Putting.{plain_places, put_more}
use Rattle.blob_registry.proofs.lists.look_at_all.Goals as goal

pub set-requires : goal.set-requires
set-requires c =
    let below = c.requires.below (get_or c.args.numbers.now c.loop-number.number-index 0)
    (among_at c.args.numbers.now c.loop-number.number-index c.loop-number-test.true) in
    omega (arith, below, c.loop-number.invariant.sized)

pub loop-number-preserved : goal.loop-number-preserved
loop-number-preserved c =
    let number : ℕ = get_or c.args.numbers.now c.loop-number.number-index 0 in
    let below = c.requires.below number (among_at c.args.numbers.now c.loop-number.number-index c.loop-number-test.true) in
    let more = put_more (λ (n : ℕ). n) c.args.looks.now c.loop-number.looks (take c.loop-number.number-index c.args.numbers.now) number plain_places below
    c.loop-number.invariant in
    rw (c.set.ensures, take_more c.args.numbers.now c.loop-number.number-index 0 c.loop-number-test.true) more
