-- A run more is passed over, or gives cells.
use Rattle.std.proofs.Common.{◌≡◌, ℕ, ◌+◌, ◌-◌, List, ◌∷◌, ◌++◌, min, map, take, drop, sym, ap, ◌∙◌, arith, append_assoc}
use Rattle.std.specs.List.{range_with_len}
use Rattle.std.proofs.lemmas.List.{drop_more}
use Rattle.blob_model.specs.Builds.{Cell}
use Rattle.history_notions.specs.declared.run.Run.{Run}
use Rattle.history_notions.specs.Runs.{cell_at, cells_of_runs}
use Rattle.history_notions.proofs.RunCells.{passed, begun}
use Rattle.history_notions.proofs.runs.put_slice.Goals as goal
use Rattle.history_notions.proofs.runs.put_slice.Goals.{then-skip-run, else-skip-run+in_ok-left}

pub loop-run-preserved : goal.loop-run-preserved
loop-run-preserved c =
    let run : Run = c.run-item.result in
    let runs : List Run = c.args.runs.now in
    let i : ℕ = c.loop-run.run-index in
    let rest : List Run = drop (i + 1) runs in
    let found : List Cell = cells_of_runs c.loop-run.found in
    let skip : ℕ = c.loop-run.skip in
    let left : ℕ = c.loop-run.left in
    let split : drop i runs ≡ run ∷ rest = drop_more runs i run (omega arith) ∙ ap (λ (one : Run). one ∷ rest) (sym c.run-item.is) in
    let before : found ++ take left (drop skip (cells_of_runs (run ∷ rest))) ≡ cells_of_runs c.args.found.now
    ++ take c.args.len (drop c.args.off (cells_of_runs runs)) =
    ap (λ (list : List Run). found ++ take left (drop skip (cells_of_runs list))) (sym split) ∙ c.loop-run.invariant in
    elim c.if-skip-run.branch [
      | then-skip-run w ↦
          rw (w.found-is, w.skip-is, w.left-is) (ap (λ (cells : List Cell). found ++ cells) (sym (passed run rest skip left (omega arith))) ∙ before)
      | else-skip-run+in_ok-left w ↦
          let part : List Cell = map (cell_at run.source) (range_with_len (run.from + skip) (min left (run.len - skip))) in
          let more : cells_of_runs c.if-skip-run.found ≡ found ++ part = ap cells_of_runs w.found-is ∙ w.in_ok-left.ensures.cells in
          let fewer : c.if-skip-run.left ≡ left - min left (run.len - skip) = w.left-is ∙ ap (λ (n : ℕ). left - n) w.in_ok-left.ensures.size in
          rw (more, fewer, w.skip-is)
          (append_assoc found part (take (left - min left (run.len - skip)) (cells_of_runs rest))
          ∙ ap (λ (cells : List Cell). found ++ cells) (sym (begun run rest skip left (omega arith)))
          ∙ before)
    ]
