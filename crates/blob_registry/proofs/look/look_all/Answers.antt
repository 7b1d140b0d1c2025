use Rattle.std.proofs.Common.{◌∙◌, ℕ, ◌+◌, ◌<◌, ◌≤◌, length, sym, ap, arith}
use Rattle.blob_entries.specs.Book.{Book}
use Rattle.blob_registry.proofs.Passing.{look_end, passes_all, passes_notes, passes_to}
use Rattle.blob_registry.proofs.Putting.{first_none, first_some, not_below}
use Rattle.blob_registry.proofs.look.look_all.Goals as goal

pub loop-round-preserved : goal.loop-round-preserved
loop-round-preserved c =
    let so_far = c.loop-round.invariant in
    let said = c.in_ok-look.ensures in
    let old : Book = c.args.table.now in
    let now : Book = c.loop-round.table in
    let number : ℕ = c.in-Some.number in
    let first = first_some c.loop-round.work.looks number (sym c.in-Some.ensures) in
    let le : so_far.bound ≤ number = not_below c.loop-round.work.looks so_far.bound number so_far.below first.1 in
    let inside : number < length now.entries = omega (arith, c.if-number-count.false, so_far.size, so_far.sound.sized) in
    let here = passes_to old now so_far.bound number c.loop-round.endings so_far.sound so_far.passes le (omega arith)
    (λ k below. so_far.kept.looked k (first.2 k below)) in
    record {
      bound = number + 1;
      enough = omega (arith, so_far.enough, le);
      passes = passes_notes old now c.look.new.table number said.looked.ended c.loop-round.endings c.look.new.endings so_far.were so_far.sound here inside
          said.looked.notes;
      below = λ k under. said.looked.below k (omega arith) (λ apart. first.2 k (omega arith));
      kept = said.kept;
      were = so_far.were;
      sound = said.sound;
      counted = said.counted;
      room = said.room;
      bounds = λ weights are. said.bounds weights (so_far.bounds weights are);
      same = record {
        items = λ slot. said.items.items slot ∙ so_far.same.items slot;
        others = λ slot none. let one = so_far.same.others slot none in let two = said.items.others slot one.1 in (two.0 ∙ one.0, two.1);
      };
      size = so_far.size ∙ sym (ap length said.looked.notes.looks.names);
    }

pub returns-in_default-clause-finishes : goal.returns-in_default-clause-finishes
returns-in_default-clause-finishes c =
    let so_far = c.loop-round.invariant in
    look_end c.args.table.now c.loop-round.table so_far.bound c.len-count.result c.loop-round.endings so_far.were so_far.sound so_far.passes so_far.size
    (λ k below. so_far.kept.looked k (first_none c.loop-round.work.looks (sym c.first.ensures ∙ c.in_default.is) k
    (omega (arith, below, so_far.kept.looks, so_far.kept.few, so_far.size, so_far.sound.sized))))

pub returns-then-number-count-clause-finishes : goal.returns-then-number-count-clause-finishes
returns-then-number-count-clause-finishes c =
    let so_far = c.loop-round.invariant in
    let first = first_some c.loop-round.work.looks c.in-Some.number (sym c.in-Some.ensures) in
    look_end c.args.table.now c.loop-round.table so_far.bound c.len-count.result c.loop-round.endings so_far.were so_far.sound so_far.passes so_far.size
    (λ k below. so_far.kept.looked k (first.2 k (omega (arith, below, c.if-number-count.true))))

pub returns-clause-finishes : goal.returns-clause-finishes
returns-clause-finishes c =
    let so_far = c.loop-round.invariant in
    passes_all c.args.table.now c.loop-round.table so_far.bound c.loop-round.endings so_far.sound so_far.passes
    (omega (arith, so_far.enough, c.loop-round-test.false, so_far.size, so_far.sound.sized))
    (omega (arith, so_far.sound.sized, so_far.were.sized, ap length so_far.passes.names))
