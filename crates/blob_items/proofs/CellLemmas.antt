-- What a part of a view has of the cells of the list.
use Rattle.std.proofs.Common.{◌≡◌, ℕ, ◌+◌, ◌-◌, ◌<◌, List, [], ◌∷◌, ◌++◌, length, map, min, take, drop, refl, ap, ◌∙◌, arith, length-append, append-nil}
use Rattle.std.specs.List.{range_with_len}
use Rattle.std.proofs.lemmas.List.Concat.{flat_map-append}
use Rattle.std.proofs.lemmas.List.FromFn.{length-map-range_with_len}
use Rattle.blob_words.proofs.Ranges.{range_left}
use Rattle.blob_items.specs.declared.view.View.{View}
use Rattle.blob_items.specs.Cells.{view_cells, cells, total}
use Rattle.blob_items.proofs.StartLemmas.{total-cons}

pub length_view : (view : View) → length (view_cells view) ≡ view.len
length_view view = length-map-range_with_len _ view.off view.len

pub length_cells : (views : List View) → length (cells views) ≡ total views
length_cells [] = refl
length_cells (view ∷ views) = length-append (view_cells view) (cells views) ∙ omega (arith, length_view view, length_cells views, total-cons view views)

-- so many of the cells that are left, of which the first are of this view behind the place `skip`
pub step : (view : View) (rest : List View) (skip left : ℕ) → skip < view.len
    → take left (drop skip (cells (view ∷ rest)))
    ≡ map (λ (place : ℕ). (view.slot, place)) (range_with_len (view.off + skip) (min left (view.len - skip))) ++ take (left - min left (view.len - skip))
    (cells rest)
step view rest skip left within = range_left (λ (place : ℕ). (view.slot, place)) view.off view.len (cells rest) skip left within

pub cells_push : (views : List View) (view : View) → cells (views ++ view ∷ []) ≡ cells views ++ view_cells view
cells_push views view = flat_map-append view_cells views (view ∷ []) ∙ ap (λ (ys : List (ℕ × ℕ)). cells views ++ ys) (append-nil (view_cells view))
