-- One cell more.
use Rattle.std.proofs.Common.{◌≡◌, ℕ, ◌+◌, ◌++◌, List, [], ◌∷◌, map, refl, sym, ap, ◌∙◌, arith, append_assoc}
use Rattle.std.specs.List.{range_with_len}
use Rattle.std.proofs.lemmas.List.FromFn.{map-range_with_len_more}
use Rattle.blob_model.specs.Builds.{Cell}
use Rattle.history_notions.specs.Runs.{cell_at}
use Rattle.transcript_audit.specs.Cells.{cell_of}
use Rattle.transcript_audit.proofs.cells.put_cells.Goals as goal

pub loop-k-preserved : goal.loop-k-preserved
loop-k-preserved c =
    let source = c.args.source.now in
    let from : ℕ = c.args.from in
    let k : ℕ = c.loop-k.k in
    let place : c.from.result ≡ k = omega arith in
    let front : List Cell = map cell_of c.args.found.now in
    c.in_ok-put_cell.ensures
    ∙ ap (λ (n : ℕ). map cell_of c.loop-k.found ++ cell_at source (from + n) ∷ []) place
    ∙ ap (λ (list : List Cell). list ++ cell_at source (from + k) ∷ []) c.loop-k.invariant
    ∙ append_assoc front (map (cell_at source) (range_with_len from k)) (cell_at source (from + k) ∷ [])
    ∙ ap (λ (list : List Cell). front ++ list) (sym (map-range_with_len_more (cell_at source) from k (from + k) refl))
