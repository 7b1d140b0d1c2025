-- What a part of a run has of the cells of runs.
use Rattle.std.proofs.Common.{◌≡◌, ℕ, ◌+◌, ◌-◌, ◌<◌, ◌≤◌, List, [], ◌∷◌, ◌++◌, length, map, min, take, drop, ap, ◌∙◌, arith, append-nil}
use Rattle.std.specs.List.{range_with_len}
use Rattle.std.proofs.Math.Seq.{drop-append-add}
use Rattle.std.proofs.lemmas.List.Concat.{flat_map-append}
use Rattle.std.proofs.lemmas.List.FromFn.{length-map-range_with_len}
use Rattle.blob_words.proofs.Ranges.{range_left}
use Rattle.blob_model.specs.Builds.{Cell}
use Rattle.history_notions.specs.declared.run.Run.{Run}
use Rattle.history_notions.specs.Runs.{cell_at, run_cells, cells_of_runs}

pub length_run : (run : Run) → length (run_cells run) ≡ run.len
length_run run = length-map-range_with_len (cell_at run.source) run.from run.len

-- cells that are passed over take a whole run with them
pub passed : (run : Run) (rest : List Run) (skip left : ℕ) → run.len ≤ skip
    → take left (drop skip (cells_of_runs (run ∷ rest))) ≡ take left (drop (skip - run.len) (cells_of_runs rest))
passed run rest skip left over =
    let whole : skip ≡ length (run_cells run) + (skip - run.len) = omega (arith, over, length_run run) in
    ap (λ (n : ℕ). take left (drop n (run_cells run ++ cells_of_runs rest))) whole
    ∙ ap (take left) (drop-append-add (run_cells run) (cells_of_runs rest) (skip - run.len))

-- so many of the cells that are left, of which the first are of this run behind the place `skip`
pub begun : (run : Run) (rest : List Run) (skip left : ℕ) → skip < run.len
    → take left (drop skip (cells_of_runs (run ∷ rest)))
    ≡ map (cell_at run.source) (range_with_len (run.from + skip) (min left (run.len - skip))) ++ take (left - min left (run.len - skip)) (cells_of_runs rest)
begun run rest skip left within = range_left (cell_at run.source) run.from run.len (cells_of_runs rest) skip left within

pub cells_push : (runs : List Run) (run : Run) → cells_of_runs (runs ++ run ∷ []) ≡ cells_of_runs runs ++ run_cells run
cells_push runs run = flat_map-append run_cells runs (run ∷ []) ∙ ap (λ (ys : List Cell). cells_of_runs runs ++ ys) (append-nil (run_cells run))
