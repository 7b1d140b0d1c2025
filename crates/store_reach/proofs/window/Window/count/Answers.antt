use Rattle.std.proofs.Common.{◌≡◌, ◌∙◌, ℕ, ◌+◌, ◌<◌, Bool, true, false, List, length, take, sym, ap, arith, length-append}
use Rattle.std.specs.Prelude.{slice_index_or}
use Rattle.blob_registry.specs.Dependents.{listed_if}
use Rattle.store_reach.specs.Windows.{listed}
use Rattle.store_reach.proofs.Listing.{listed_more}
use Rattle.store_reach.proofs.window.Window.count.Goals as goal
use Rattle.store_reach.proofs.window.Window.count.Goals.{then-mark, else-mark}

counts_more : (start : ℕ) (marks : List Bool) (i : ℕ) (mark : Bool) → i < length marks → slice_index_or marks i false ≡ mark
    → length (listed start (take (i + 1) marks)) ≡ length (listed start (take i marks)) + length (listed_if mark (start + i))
counts_more start marks i mark inside is =
    ap length (listed_more start marks i mark inside is) ∙ length-append (listed start (take i marks)) (listed_if mark (start + i))

pub loop-mark-preserved : goal.loop-mark-preserved
loop-mark-preserved c =
    let so_far = c.loop-mark.invariant in
    let place : ℕ = c.loop-mark.mark-index in
    let start : ℕ = c.args.self.now.start in
    let here : slice_index_or c.args.self.now.marks place false ≡ slice_index_or c.self.inside.marks place false =
    ap (λ (marks : List Bool). slice_index_or marks place false) (sym so_far.same) in
    let size : length c.args.self.now.marks ≡ 4096 = ap length (sym so_far.same) ∙ c.self.told in
    elim c.if-mark.branch [
      | then-mark w ↦ record {
        same = so_far.same;
        few = omega (arith, w.count-is, so_far.few);
        counted = (let more = counts_more start c.args.self.now.marks place true (omega (arith, c.loop-mark-test.true, size)) (here ∙ w.if-mark.true) in
            omega (arith, w.count-is, so_far.counted, more));
      }
      | else-mark w ↦ record {
        same = so_far.same;
        few = omega (arith, w.count-is, so_far.few);
        counted = (let more = counts_more start c.args.self.now.marks place false (omega (arith, c.loop-mark-test.true, size)) (here ∙ w.if-mark.false) in
            omega (arith, w.count-is, so_far.counted, more));
      }
    ]
