-- Where the last start that isn't behind a place stands, the view has the cell there.
use Rattle.std.proofs.Common.{◌≡◌, ℕ, zero, suc, ◌+◌, ◌-◌, ◌<◌, ◌≤◌, List, [], ◌∷◌, true, false, leb, length, take, get_or, subst, arith, ⊎_elim}
use Rattle.std.specs.List.Sorted.{IsPartitionPoint}
use Rattle.std.proofs.lemmas.Bool.{leb-true, leb-false, cases_lt}
use Rattle.std.proofs.lemmas.List.{take_all}
use Rattle.blob_items.specs.declared.view.View.{View}
use Rattle.blob_items.specs.Cells.{total, IsPlaceOf}
use Rattle.blob_items.specs.Starts.{starts_from}
use Rattle.blob_items.proofs.StartLemmas.{length_starts, start_at}

-- in a list that isn't empty some start isn't behind the place: the first one is 0
pub some_begun : (views : List View) (off count : ℕ) → off < total views
    → IsPartitionPoint (λ (start : ℕ). leb start off ≡ true) (λ (start : ℕ). leb start off ≡ false) (starts_from 0 views) count → 1 ≤ count
some_begun [] off count inside point = absurd (omega arith)
some_begun (view ∷ views) off zero inside point =
    let behind = leb-false 0 off (point.1 0 0 (omega arith) (omega arith)) in
    absurd (omega (arith, behind))
some_begun (view ∷ views) off (suc count) inside point = omega arith

pub place_found : (views : List View) (off count start : ℕ) → off < total views → 1 ≤ count → count ≤ length views
    → IsPartitionPoint (λ (s : ℕ). leb s off ≡ true) (λ (s : ℕ). leb s off ≡ false) (starts_from 0 views) count
    → start ≡ get_or (starts_from 0 views) (count - 1) start
    → (start ≤ off) × IsPlaceOf views off (count - 1, off - start)
place_found views off count start inside some bound point is =
    let at : get_or (starts_from 0 views) (count - 1) start ≡ 0 + total (take (count - 1) views) =
    start_at 0 (count - 1) views start (omega (arith, some, bound)) in
    let before : get_or (starts_from 0 views) (count - 1) start ≤ off = leb-true _ _ (point.0 (count - 1) start (omega arith) (omega (arith, some))) in
    let next : count - 1 + 1 ≡ count = omega (arith, some) in
    let within : off < total (take count views) =
    ⊎_elim
    (λ (more : count < length views).
    let behind : off < get_or (starts_from 0 views) count 0 = leb-false _ _ (point.1 count 0 (omega arith) (omega (arith, more, length_starts 0 views))) in
    omega (arith, behind, start_at 0 count views 0 more))
    (λ (all : length views ≤ count). rw (take_all count views all) inside)
    (cases_lt count (length views)) in (
      omega (arith, is, before),
      record {
        view = omega (arith, some, bound);
        before = omega (arith, is, at, before);
        within = rw next within;
      },
    )

-- both, where the starts are kept as a list
module _ (views : List View) (starts : List ℕ) (off count : ℕ) (kept : starts ≡ starts_from 0 views) (inside : off < total views) where
  pub kept_begun : IsPartitionPoint (λ (s : ℕ). leb s off ≡ true) (λ (s : ℕ). leb s off ≡ false) starts count → 1 ≤ count
  kept_begun point =
      some_begun views off count inside (subst (λ (xs : List ℕ). IsPartitionPoint (λ (s : ℕ). leb s off ≡ true) (λ (s : ℕ). leb s off ≡ false) xs count) kept
      point)

  pub kept_found : (start : ℕ) → 1 ≤ count → count ≤ length starts → IsPartitionPoint (λ (s : ℕ). leb s off ≡ true) (λ (s : ℕ). leb s off ≡ false) starts count
      → start ≡ get_or starts (count - 1) start → (start ≤ off) × IsPlaceOf views off (count - 1, off - start)
  kept_found start some bound point is =
      let longest : count ≤ length views = rw (kept, length_starts) at bound in
      place_found views off count start inside some longest
      (subst (λ (xs : List ℕ). IsPartitionPoint (λ (s : ℕ). leb s off ≡ true) (λ (s : ℕ). leb s off ≡ false) xs count) kept point)
      (subst (λ (xs : List ℕ). start ≡ get_or xs (count - 1) start) kept is)
