-- A cut takes the cells from a place on, view by view.
use Rattle.std.proofs.Common.{◌≡◌, ℕ, zero, suc, ◌+◌, ◌-◌, ◌<◌, ◌≤◌, List, [], ◌∷◌, ◌++◌, length, min, take, drop, get_or, refl, sym, ap, ◌∙◌, arith, ⊎_elim, append_assoc, add-one}
use Rattle.std.proofs.lemmas.Bool.{cases_lt}
use Rattle.std.proofs.lemmas.List.{take-append-drop, drop-drop, drop_at, drop_all, drop_more}
use Rattle.std.proofs.lemmas.List.Concat.{flat_map-append}
use Rattle.std.proofs.lemmas.List.Sums.{sum_by-take-drop, sum_by_push, sum_by-drop_more}
use Rattle.blob_items.specs.declared.view.View.{View}
use Rattle.blob_items.specs.Cells.{view_cells, cells, total, IsPlaceOf}
use Rattle.blob_items.proofs.StartLemmas.{total-cons}
use Rattle.blob_items.proofs.CellLemmas.{length_cells, step, cells_push}

-- behind a place stand the cells that its view has behind it, and those of the views that follow
pub cells_behind : (views : List View) (off first skip : ℕ) → total (take first views) + skip ≡ off → drop off (cells views)
    ≡ drop skip (cells (drop first views))
cells_behind views off first skip before =
    let front = cells (take first views) in
    let back = cells (drop first views) in
    let parts : cells views ≡ front ++ back = ap cells (sym (take-append-drop first views)) ∙ flat_map-append view_cells (take first views) (drop first views)
    in
    let place : off ≡ length front + skip = omega (arith, before, length_cells (take first views)) in
    rw (parts, place, ← drop-drop) (ap (drop skip) (drop_at front back (length front) refl))

one_more : (i : ℕ) (views : List View) → total (take (suc i) views) ≡ total (take i views) + total (take 1 (drop i views))
one_more zero views = omega arith
one_more (suc i) [] = refl
one_more (suc i) (view ∷ views) =
    omega (arith, one_more i views, total-cons view (take (suc i) views), total-cons view (take i views))

pub first_within : (views : List View) (off : ℕ) (place : ℕ × ℕ) → IsPlaceOf views off place → place.1 < total (take 1 (drop place.0 views))
first_within views off place is =
    let whole = rw add-one at is.within in
    omega (arith, is.before, whole, one_more place.0 views)

pub room_left : (views : List View) (first : ℕ) → total (take first views) + total (drop first views) ≡ total views
room_left views first = sum_by-take-drop (λ (v : View). v.len) views first

pub first_some : (views : List View) → 0 < total views → 0 < total (take 1 views)
first_some [] some = absurd (omega arith)
first_some (view ∷ views) some = omega (arith, view.some, total-cons view [])

-- where a view has a cell behind the place, it stands in the list
pub view_there : (views : List View) (place skip : ℕ) → skip < total (take 1 (drop place views)) → place < length views
view_there views place skip within =
    ⊎_elim (λ (inside : place < length views). inside)
    (λ (past : length views ≤ place).
    let none : total (take 1 (drop place views)) ≡ 0 = rw (drop_all place views past) refl in
    absurd (omega (arith, none, within)))
    (cases_lt place (length views))

pub view_within : (views : List View) (place skip : ℕ) (view : View) → place < length views → view ≡ get_or views place view
    → skip < total (take 1 (drop place views)) → skip < view.len
view_within views place skip view inside is within =
    let here : drop place views ≡ view ∷ drop (place + 1) views = drop_more views place view inside ∙ ap (λ (v : View). v ∷ drop (place + 1) views) (sym is) in
    let same : total (take 1 (drop place views)) ≡ total (view ∷ []) = ap (λ (xs : List View). total (take 1 xs)) here in
    omega (arith, within, same, total-cons view [])

pub total_left : (views : List View) (place : ℕ) (view : View) → place < length views → view ≡ get_or views place view → total (drop place views)
    ≡ view.len + total (drop (place + 1) views)
total_left views place view inside is =
    sum_by-drop_more (λ (v : View). v.len) views place view inside ∙ ap (λ (v : View). v.len + total (drop (place + 1) views)) (sym is)

pub total_push : (views : List View) (view : View) → total (views ++ view ∷ []) ≡ total views + view.len
total_push views view = sum_by_push (λ (v : View). v.len) views view

-- one view more of the cut, a part of the view at the place
pub next_cells : (views cut : List View) (view part : View) (place skip left : ℕ) → place < length views → view ≡ get_or views place view → skip < view.len
    → part.slot ≡ view.slot → part.off ≡ view.off + skip → part.len ≡ min left (view.len - skip)
    → cells (cut ++ part ∷ []) ++ take (left - part.len) (cells (drop (place + 1) views)) ≡ cells cut ++ take left (drop skip (cells (drop place views)))
next_cells views cut view part place skip left inside is within slot off len =
    let here : drop place views ≡ view ∷ drop (place + 1) views = drop_more views place view inside ∙ ap (λ (v : View). v ∷ drop (place + 1) views) (sym is) in
    let pushed : cells (cut ++ part ∷ []) ≡ cells cut ++ view_cells part = cells_push cut part in
    rw (pushed, append_assoc, here, step view (drop (place + 1) views) skip left within, slot, off, len) refl
