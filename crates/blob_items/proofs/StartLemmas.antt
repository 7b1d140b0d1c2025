-- The starts of views: where each stands, that they rise, and those of a list that grows.
use Rattle.std.proofs.Common.{◌≡◌, ℕ, zero, suc, ◌+◌, ◌<◌, ◌≤◌, List, [], ◌∷◌, ◌++◌, leb, length, take, get_or, refl, sym, ap, ◌∙◌, arith}
use Rattle.std.specs.List.Sorted.{IsPartitionedBy}
use Rattle.std.proofs.lemmas.Bool.{leb-true, le-leb}
use Rattle.std.proofs.lemmas.List.{take_more}
use Rattle.std.proofs.lemmas.List.Sums.{sum_by-cons, sum_by_more}
use Rattle.blob_items.specs.declared.view.View.{View}
use Rattle.blob_items.specs.Cells.{total}
use Rattle.blob_items.specs.Starts.{starts_from}

pub total-cons : (view : View) (views : List View) → total (view ∷ views) ≡ view.len + total views
total-cons view views = sum_by-cons (λ (v : View). v.len) view views

pub length_starts : (place : ℕ) (views : List View) → length (starts_from place views) ≡ length views
length_starts place [] = refl
length_starts place (view ∷ views) = ap suc (length_starts (place + view.len) views)

pub start_at : (place k : ℕ) (views : List View) (d : ℕ) → k < length views → get_or (starts_from place views) k d ≡ place + total (take k views)
start_at place k [] d within = absurd (omega arith)
start_at place zero (view ∷ views) d within = omega arith
start_at place (suc k) (view ∷ views) d within =
    start_at (place + view.len) k views d (omega arith) ∙ omega (arith, total-cons view (take k views))

pub append_starts : (place : ℕ) (xs ys : List View) → starts_from place (xs ++ ys) ≡ starts_from place xs ++ starts_from (place + total xs) ys
append_starts place [] ys =
    let same : place + total [] ≡ place = omega arith in
    rw same refl
append_starts place (x ∷ xs) ys =
    let same : place + x.len + total xs ≡ place + total (x ∷ xs) = omega (arith, total-cons x xs) in
    rw (append_starts (place + x.len) xs ys, same) refl

take_rises : (i j : ℕ) (views : List View) → i ≤ j → total (take i views) ≤ total (take j views)
take_rises zero j views below = omega arith
take_rises (suc i) zero views below = absurd (omega arith)
take_rises (suc i) (suc j) [] below = omega arith
take_rises (suc i) (suc j) (view ∷ views) below =
    omega (arith, take_rises i j views (omega arith), total-cons view (take i views), total-cons view (take j views))

pub starts_part : (off : ℕ) (views : List View) → IsPartitionedBy (λ (start : ℕ). leb start off) (starts_from 0 views)
starts_part off views i j d below within test =
    let inside : j < length views = rw length_starts at within in
    let late : get_or (starts_from 0 views) j d ≤ off = leb-true _ _ test in
    le-leb _ _ (omega (arith, late, start_at 0 i views d (omega (arith, below, inside)), start_at 0 j views d inside, take_rises i j views below))

-- the starts of one view more
pub more_starts : (place i : ℕ) (views : List View) (view : View) → i < length views → view ≡ get_or views i view
    → starts_from place (take (i + 1) views) ≡ starts_from place (take i views) ++ (place + total (take i views)) ∷ []
more_starts place i views view within is =
    ap (starts_from place) (take_more views i view within) ∙ append_starts place (take i views) (get_or views i view ∷ [])

pub more_total : (i : ℕ) (views : List View) (view : View) → i < length views → view ≡ get_or views i view → total (take (i + 1) views) ≡ total (take i views) +
    view.len
more_total i views view within is =
    sum_by_more (λ (v : View). v.len) views i view within ∙ ap (λ (v : View). total (take i views) + v.len) (sym is)
