-- Cells of files and of handles use nothing.
use Rattle.std.proofs.Common.{◌≡◌, ℕ, List, map, sym, ap, ◌∙◌}
use Rattle.std.specs.List.{range_with_len}
use Rattle.history_notions.specs.declared.run.Source.{Source}
use Rattle.history_notions.specs.Runs.{cell_at}
use Rattle.history_notions.specs.Uses.{use_cells}
use Rattle.history_notions.proofs.Using.{files_use_none, handles_use_none}
use Rattle.history_notions.proofs.course.use_run.Goals as goal

pub returns-in-Filed : goal.returns-in-Filed
returns-in-Filed c =
    let run = c.args.run.now in
    sym (ap (λ (source : Source). use_cells c.args.pages.now c.args.builds.now c.args.list.now c.args.uses.now.items
    (map (cell_at source) (range_with_len run.from run.len))) c.in-Filed.is
    ∙ files_use_none c.args.pages.now c.args.builds.now c.args.list.now c.args.uses.now.items _ _ (range_with_len run.from run.len))

pub returns-in-Lent : goal.returns-in-Lent
returns-in-Lent c =
    let run = c.args.run.now in
    sym (ap (λ (source : Source). use_cells c.args.pages.now c.args.builds.now c.args.list.now c.args.uses.now.items
    (map (cell_at source) (range_with_len run.from run.len))) c.in-Lent.is
    ∙ handles_use_none c.args.pages.now c.args.builds.now c.args.list.now c.args.uses.now.items _ (range_with_len run.from run.len))
