-- The next cell fails, or doesn't.
use Rattle.std.proofs.Common.{◌≡◌, true, sym, ◌∙◌, arith}
use Rattle.transcript_audit.specs.Cells.{cell_of, fails_in}
use Rattle.transcript_audit.proofs.GoodCells.{good_start, good_step, good_before, good_first, good_all, good_none}
use Rattle.transcript_audit.proofs.failing.good_count.Goals as goal

pub loop-place-init : goal.loop-place-init
loop-place-init c = good_start (fails_in c.args.notes.now) c.args.cells.now

pub loop-place-preserved : goal.loop-place-preserved
loop-place-preserved c =
    good_step (fails_in c.args.notes.now) c.args.cells.now c.loop-place.place c.index-cells-place.result (omega arith) c.index-cells-place.is
    (sym c.cell_fails.ensures ∙ c.if-cell_fails.false) c.loop-place.invariant

pub returns-then-cell_fails : goal.returns-then-cell_fails
returns-then-cell_fails c =
    let bad : fails_in c.args.notes.now (cell_of c.index-cells-place.result) ≡ true = sym c.cell_fails.ensures ∙ c.if-cell_fails.true in
    record {
      within = omega arith;
      before = good_before (fails_in c.args.notes.now) c.args.cells.now c.loop-place.place c.index-cells-place.result
          (omega arith) c.index-cells-place.is bad c.loop-place.invariant;
      first = good_first (fails_in c.args.notes.now) c.args.cells.now c.loop-place.place c.index-cells-place.result
          (omega arith) c.index-cells-place.is bad c.loop-place.invariant;
    }

pub returns : goal.returns
returns c = record {
  within = omega arith;
  before = good_all (fails_in c.args.notes.now) c.args.cells.now c.loop-place.place (omega arith) c.loop-place.invariant;
  first = good_none (fails_in c.args.notes.now) c.args.cells.now c.loop-place.place (omega arith) c.loop-place.invariant;
}
