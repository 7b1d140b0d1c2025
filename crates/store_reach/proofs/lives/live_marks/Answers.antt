use Rattle.std.proofs.Common.{◌≡◌, ℕ, ◌+◌, ◌-◌, ◌<◌, length, subst, arith}
use Rattle.blob_entries.specs.Book.{Book}
use Rattle.store_reach.specs.Lives.{Weighs}
use Rattle.store_reach.proofs.Living.{MarkedTo, marked_all, marked_down}
use Rattle.store_reach.proofs.lives.live_marks.Goals as goal

pub loop-round-preserved : goal.loop-round-preserved
loop-round-preserved c =
    let book : Book = c.args.registry.now in
    let number : ℕ = c.registered-count.result - (c.loop-round.round + 1) in
    let here : (c.registered-count.result - 1) - c.loop-round.round ≡ number = omega arith in
    let next : c.registered-count.result - c.loop-round.round ≡ number + 1 = omega (arith, c.loop-round-test.true) in
    let inside : number < length book.entries = omega (arith, c.loop-round-test.true, c.registered-count.ensures.entries) in
    marked_down book number c.loop-round.marks.items c.weigh.new.marks.items c.registered-count.ensures.sound inside
    (subst (λ (n : ℕ). MarkedTo book n c.loop-round.marks.items) next c.loop-round.invariant)
    (subst (λ (n : ℕ). Weighs book n c.loop-round.marks.items c.weigh.new.marks.items) here c.weigh.ensures)

pub returns : goal.returns
returns c =
    let book : Book = c.args.registry.now in
    let none : c.registered-count.result - c.loop-round.round ≡ 0 = omega (arith, c.loop-round-test.false) in
    marked_all book c.loop-round.marks.items (subst (λ (n : ℕ). MarkedTo book n c.loop-round.marks.items) none c.loop-round.invariant)
