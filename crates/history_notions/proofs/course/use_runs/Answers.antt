-- The cells of one run more.
use Rattle.std.proofs.Common.{◌≡◌, ℕ, ◌+◌, List, [], ◌∷◌, ◌++◌, take, sym, ap, ◌∙◌, arith}
use Rattle.std.proofs.lemmas.List.{take_more}
use Rattle.std.proofs.lemmas.List.Sums.{fold-append}
use Rattle.history_notions.specs.declared.run.Run.{Run}
use Rattle.history_notions.specs.Runs.{run_cells, cells_of_runs}
use Rattle.history_notions.specs.Uses.{use_cell, use_cells}
use Rattle.history_notions.proofs.RunCells.{cells_push}
use Rattle.history_notions.proofs.course.use_runs.Goals as goal

pub loop-run-preserved : goal.loop-run-preserved
loop-run-preserved c =
    let run : Run = c.run-item.result in
    let runs : List Run = c.args.runs.now in
    let i : ℕ = c.loop-run.run-index in
    let using = use_cells c.args.pages.now c.args.builds.now c.args.list.now in
    let grown : cells_of_runs (take (i + 1) runs) ≡ cells_of_runs (take i runs) ++ run_cells run =
    ap cells_of_runs (take_more runs i run (omega arith) ∙ ap (λ (one : Run). take i runs ++ one ∷ []) (sym c.run-item.is)) ∙ cells_push (take i runs) run in
    c.in_ok-use_run.ensures
    ∙ ap (λ (before : List ℕ). using before (run_cells run)) c.loop-run.invariant
    ∙ sym (fold-append (use_cell c.args.pages.now c.args.builds.now c.args.list.now) c.args.uses.now.items (cells_of_runs (take i runs)) (run_cells run))
    ∙ sym (ap (using c.args.uses.now.items) grown)
