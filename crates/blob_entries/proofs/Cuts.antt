-- Views that are cut from others: how many, and on which slots.
use Rattle.std.proofs.Common.{◌≡◌, ℕ, suc, ◌+◌, ◌*◌, ◌<◌, ◌≤◌, Bool, true, false, cond, List, [], ◌∷◌, ◌++◌, length, map, take, drop, nat_eq}
use Rattle.std.proofs.Common.{refl, ap, ◌∙◌, arith}
use Rattle.std.specs.Prelude.{count_by, Result, Ok, Err, IfOk}
use Rattle.std.specs.List.{range_with_len}
use Rattle.std.proofs.lemmas.List.{take-append-drop}
use Rattle.std.proofs.lemmas.List.FromFn.{length-range_with_len}
use Rattle.std.proofs.lemmas.List.Sums.{sum_by-append, sum_by-cons}
use Rattle.blob_items.specs.declared.view.View.{View}
use Rattle.blob_items.specs.Cells.{cells, total, view_cells}
use Rattle.blob_entries.proofs.Counting.{on_cons}
use Rattle.blob_entries.specs.Counts.{one_at, views_on}
use Rattle.blob_entries.specs.Making.{IsCut}

-- how many of the cells are in a slot
abbrev in_slot : ℕ → List (ℕ × ℕ) → ℕ
in_slot slot list = count_by (λ (cell : ℕ × ℕ). nat_eq cell.0 slot) list

in_append : (slot : ℕ) (one more : List (ℕ × ℕ)) → in_slot slot (one ++ more) ≡ in_slot slot one + in_slot slot more
in_append slot one more = sum_by-append (λ (cell : ℕ × ℕ). cond (nat_eq cell.0 slot) 1 0) one more

in_take : (slot n : ℕ) (list : List (ℕ × ℕ)) → in_slot slot (take n list) ≤ in_slot slot list
in_take slot n list = omega (arith, in_append slot (take n list) (drop n list), ap (in_slot slot) (take-append-drop n list))

in_drop : (slot n : ℕ) (list : List (ℕ × ℕ)) → in_slot slot (drop n list) ≤ in_slot slot list
in_drop slot n list = omega (arith, in_append slot (take n list) (drop n list), ap (in_slot slot) (take-append-drop n list))

-- the cells of one view are in its slot
in_places : (slot own : ℕ) (places : List ℕ) → in_slot slot (map (λ (place : ℕ). (own, place)) places) ≡ length places * one_at own slot
in_places slot own [] = omega arith
in_places slot own (place ∷ places) =
    sum_by-cons (λ (cell : ℕ × ℕ). cond (nat_eq cell.0 slot) 1 0) (own, place) (map (λ (place : ℕ). (own, place)) places)
    ∙ ap (λ n. cond (nat_eq own slot) 1 0 + n) (in_places slot own places) ∙ by (cond (nat_eq own slot) 1 0) (length places)
  where
    by : (a n : ℕ) → a + n * a ≡ suc n * a
    by a n = grind arith

-- a view is on the slot where some cell is
on_from_in : (slot : ℕ) (views : List View) → 0 < in_slot slot (cells views) → 0 < views_on slot views
on_from_in slot [] some = some
on_from_in slot (view ∷ views) some = by (on_from_in slot views) (nat_eq view.slot slot) refl
  where
    parts : in_slot slot (cells (view ∷ views)) ≡ length (range_with_len view.off view.len) * one_at view.slot slot + in_slot slot (cells views)
    parts = in_append slot (view_cells view) (cells views)
        ∙ ap (λ n. n + in_slot slot (cells views)) (in_places slot view.slot (range_with_len view.off view.len))

    by : (0 < in_slot slot (cells views) → 0 < views_on slot views) → (b : Bool) → nat_eq view.slot slot ≡ b → 0 < views_on slot (view ∷ views)
    by rest true is = let one : one_at view.slot slot ≡ 1 = rw is refl in omega (arith, on_cons slot view views, one)
    by rest false is =
        let none : one_at view.slot slot ≡ 0 = rw is refl in
        let zero_is : length (range_with_len view.off view.len) * one_at view.slot slot ≡ 0 = rw none (omega arith) in
        omega (arith, on_cons slot view views, none, rest (omega (arith, parts, zero_is, some)))

-- some cell is in the slot of a view
in_from_on : (slot : ℕ) (views : List View) → 0 < views_on slot views → 0 < in_slot slot (cells views)
in_from_on slot [] some = some
in_from_on slot (view ∷ views) some = by (in_from_on slot views) (nat_eq view.slot slot) refl
  where
    long : length (range_with_len view.off view.len) ≡ view.len
    long = length-range_with_len view.off view.len

    parts : in_slot slot (cells (view ∷ views)) ≡ length (range_with_len view.off view.len) * one_at view.slot slot + in_slot slot (cells views)
    parts = in_append slot (view_cells view) (cells views)
        ∙ ap (λ n. n + in_slot slot (cells views)) (in_places slot view.slot (range_with_len view.off view.len))

    by : (0 < views_on slot views → 0 < in_slot slot (cells views)) → (b : Bool) → nat_eq view.slot slot ≡ b → 0 < in_slot slot (cells (view ∷ views))
    by rest true is =
        let one : one_at view.slot slot ≡ 1 = rw is refl in
        let len_is : length (range_with_len view.off view.len) * one_at view.slot slot ≡ view.len = rw (one, long) (omega arith) in
        omega (arith, parts, len_is, view.some)
    by rest false is =
        let none : one_at view.slot slot ≡ 0 = rw is refl in
        omega (arith, parts, rest (omega (arith, on_cons slot view views, none, some)))

pub cut_slots : (views cut : List View) (off len : ℕ) → cells cut ≡ take len (drop off (cells views)) → (slot : ℕ) → 0 < views_on slot cut
    → 0 < views_on slot views
cut_slots views cut off len is slot some =
    on_from_in slot views (omega (
      arith,
      in_from_on slot cut some,
      ap (in_slot slot) is,
      in_take slot len (drop off (cells views)),
      in_drop slot off
          (cells views),
    ))

-- there are at most as many views as bytes
pub few_views : (views : List View) → length views ≤ total views
few_views [] = omega arith
few_views (view ∷ views) = omega (arith, few_views views, sum_by-cons (λ (v : View). v.len) view views, view.some)

pub cut_is : {E : Type 0} → (views : List View) (off len : ℕ) (result : Result (List View) E)
    → IfOk result (λ (list : List View). cells list ≡ take len (drop off (cells views))) → IfOk result (λ (list : List View). total list ≡ len)
    → IfOk result (λ (list : List View). length list ≤ length views) → IfOk result (IsCut views off len)
cut_is views off len (Err e) cells_are total_is count = tt
cut_is views off len (Ok list) cells_are total_is count = record {
  cells = cells_are;
  total = total_is;
  few = let few : length list ≤ total list = few_views list in omega (arith, few, total_is, count);
  slots = cut_slots views list off len cells_are;
}
