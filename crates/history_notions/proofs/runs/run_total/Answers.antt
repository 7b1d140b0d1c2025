-- The cells of one run more.
use Rattle.std.proofs.Common.{◌≡◌, ℕ, ◌+◌, List, [], ◌∷◌, ◌++◌, length, take, sym, ap, ◌∙◌, arith, length-append}
use Rattle.std.proofs.lemmas.List.{take_more}
use Rattle.history_notions.specs.declared.run.Run.{Run}
use Rattle.history_notions.specs.Runs.{run_cells, cells_of_runs}
use Rattle.history_notions.proofs.RunCells.{cells_push, length_run}
use Rattle.history_notions.proofs.runs.run_total.Goals as goal

pub loop-run-preserved : goal.loop-run-preserved
loop-run-preserved c =
    let run : Run = c.run-item.result in
    let runs : List Run = c.args.runs.now in
    let i : ℕ = c.loop-run.run-index in
    let grown : cells_of_runs (take (i + 1) runs) ≡ cells_of_runs (take i runs) ++ run_cells run =
    ap cells_of_runs (take_more runs i run (omega arith) ∙ ap (λ (one : Run). take i runs ++ one ∷ []) (sym c.run-item.is)) ∙ cells_push (take i runs) run in
    let count : length (cells_of_runs (take (i + 1) runs)) ≡ length (cells_of_runs (take i runs)) + run.len =
    ap length grown ∙ length-append (cells_of_runs (take i runs)) (run_cells run) ∙ ap (λ (n : ℕ). length (cells_of_runs (take i runs)) + n) (length_run run) in
    (omega arith, omega arith)
