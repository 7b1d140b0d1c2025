-- The views of a blob, as they are made step by step.
use Rattle.std.proofs.Common.{◌≡◌, ℕ, ◌+◌, ◌<◌, ◌≤◌, ◌^◌, Bool, true, false, List, [], ◌∷◌, ◌++◌, Option, length, drop, min}
use Rattle.std.proofs.Common.{refl, ap, ◌∙◌, arith, append_assoc, append-nil, nat_lt, length-append}
use Rattle.std.proofs.lemmas.Bool.Decides.{nat_tests}
use Rattle.std.proofs.lemmas.List.Sums.{sum_by-append, sum_by-cons}
use Rattle.blob_items.specs.declared.view.View.{View}
use Rattle.blob_items.specs.Cells.{cells, total, view_cells}
use Rattle.std.proofs.lemmas.List.Concat.{flat_map-append}
use Rattle.item_shares.specs.declared.shares.Share.{Share}
use Rattle.blob_entries.specs.declared.entry.Entry.{Entry}
use Rattle.blob_entries.specs.declared.step.Step.{Step}
use Rattle.blob_entries.specs.declared.step.Step.TheVariants.{Own, Fixed, Source}
use Rattle.blob_entries.proofs.Counting.{on_append, on_cons, on_length}
use Rattle.blob_entries.specs.Contents.{made_cells, source_views, step_len}
use Rattle.blob_entries.specs.Counts.{count_at, views_on}
use Rattle.blob_entries.specs.Holdings.{fixed_views, views_in}
use Rattle.blob_entries.specs.Making.{AreShared, HasRoomFor, IsCut, IsMade, IsNextOwn, Puts}
use Rattle.blob_entries.specs.Sound.{AreOwn}
use Rattle.blob_entries.specs.Weights.{cut_most, step_most}

abbrev Entries : Type 0
Entries = List (Option Entry)

abbrev Held : Type 0
Held = List (Option Share)

-- before the first step
pub made_none : (names : List ℕ) (entries : Entries) (steps : List Step) (own : List View) (first : Held)
    → ((slot : ℕ) → 0 < views_in entries slot → (0 < count_at first slot) × (count_at first slot + cut_most names entries steps ≤ 2 ^ 32))
    → IsMade names entries steps own first steps own [] first
made_none names entries steps own first room = record {
  cells = refl;
  total = omega arith;
  few = omega arith;
  counts = λ slot. let none : views_on slot [] ≡ 0 = refl in omega arith;
  rose = λ slot. omega arith;
  room = room;
  stays = λ slot none. refl;
  items = λ slot. refl;
}

cells-append : (one more : List View) → cells (one ++ more) ≡ cells one ++ cells more
cells-append one more = flat_map-append view_cells one more

total_append : (one more : List View) → total (one ++ more) ≡ total one + total more
total_append one more = sum_by-append (λ (view : View). view.len) one more

total_one : (view : View) → total (view ∷ []) ≡ view.len
total_one view = sum_by-cons (λ (v : View). v.len) view [] ∙ omega arith

-- one step on
pub made_more : (names : List ℕ) (entries : Entries) (steps : List Step) (own : List View) (first : Held) (step : Step) (rest : List Step)
    (left views later : List View) (taken : ℕ) (before after : Held)
    → ((name slot : ℕ) → views_on slot (source_views names entries name) ≤ views_in entries slot)
    → IsMade names entries steps own first (step ∷ rest) left views before → AreOwn (step ∷ rest) left
    → Puts names entries step left taken views later before after
    → IsMade names entries steps own first rest (drop taken left) later after
made_more names entries steps own first (Own piece len) rest [] views later taken before after among made are puts = absurd are
made_more names entries steps own first (Own piece len) rest (view ∷ left) views later taken before after among made are puts =
    let one : taken ≡ 1 = puts.adds.0 in
    let added : later ≡ views ++ view ∷ [] = puts.appended ∙ ap (λ (v : List View). views ++ v) puts.adds.1 in
    let same : after ≡ before = puts.adds.2 in
    let cell_parts : cells (views ++ view ∷ []) ≡ cells views ++ cells (view ∷ []) = cells-append views (view ∷ []) in
    rw (one, added, same) (record {
      cells = ap (λ (c : List (ℕ × ℕ)). c ++ made_cells names entries rest left) cell_parts
          ∙ one_cell (cells views) (view_cells view) (made_cells names entries rest left) ∙ made.cells;
      total = omega (arith, made.total, total_append views (view ∷ []), total_one view, are.0, sum_by-cons step_len (Own piece len) rest);
      few = omega (arith, made.few, length-append views (view ∷ []), sum_by-cons (step_most names entries) (Own piece len) rest);
      counts = λ slot. omega (arith, made.counts slot, on_append slot views (view ∷ []), on_cons slot view left, on_cons slot view []);
      rose = made.rose;
      room = λ slot some. let r = made.room slot some in (r.0, omega (arith, r.1, sum_by-cons (step_most names entries) (Own piece len) rest));
      stays = made.stays;
      items = made.items;
    })
  where
    one_cell : (a b c : List (ℕ × ℕ)) → (a ++ (b ++ [])) ++ c ≡ a ++ (b ++ c)
    one_cell a b c = simp (append_assoc, append-nil)
made_more names entries steps own first (Fixed view) rest left views later taken before after among made are puts =
    let zero_is : taken ≡ 0 = puts.adds.0 in
    let added : later ≡ views ++ view ∷ [] = puts.appended ∙ ap (λ (v : List View). views ++ v) puts.adds.1 in
    let same : after ≡ before = puts.adds.2 in
    let cell_parts : cells (views ++ view ∷ []) ≡ cells views ++ cells (view ∷ []) = cells-append views (view ∷ []) in
    rw (zero_is, added, same) (record {
      cells = ap (λ (c : List (ℕ × ℕ)). c ++ made_cells names entries rest left) cell_parts
          ∙ one_cell (cells views) (view_cells view) (made_cells names entries rest left) ∙ made.cells;
      total = omega (arith, made.total, total_append views (view ∷ []), total_one view, sum_by-cons step_len (Fixed view) rest);
      few = omega (arith, made.few, length-append views (view ∷ []), sum_by-cons (step_most names entries) (Fixed view) rest);
      counts = λ slot. omega (arith, made.counts slot, on_append slot views (view ∷ []), on_cons slot view (fixed_views rest), on_cons slot view []);
      rose = made.rose;
      room = λ slot some. let r = made.room slot some in (r.0, omega (arith, r.1, sum_by-cons (step_most names entries) (Fixed view) rest));
      stays = made.stays;
      items = made.items;
    })
  where
    one_cell : (a b c : List (ℕ × ℕ)) → (a ++ (b ++ [])) ++ c ≡ a ++ (b ++ c)
    one_cell a b c = simp (append_assoc, append-nil)
made_more names entries steps own first (Source name off len) rest left views later taken before after among made are puts =
    let zero_is : taken ≡ 0 = puts.adds.0 in
    let cut : IsCut (source_views names entries name) off len puts.added = puts.adds.1 in
    let shared : AreShared puts.added before after = puts.adds.2 in
    let cell_parts : cells (views ++ puts.added) ≡ cells views ++ cells puts.added = cells-append views puts.added in
    let most : step_most names entries (Source name off len) ≡ min len (length (source_views names entries name)) = refl in
    rw (zero_is, puts.appended) (record {
      cells = ap (λ (c : List (ℕ × ℕ)). c ++ made_cells names entries rest left) cell_parts
          ∙ append_assoc (cells views) (cells puts.added) (made_cells names entries rest left)
          ∙ ap (λ (c : List (ℕ × ℕ)). cells views ++ (c ++ made_cells names entries rest left)) cut.cells
          ∙ made.cells;
      total = omega (arith, made.total, total_append views puts.added, cut.total, sum_by-cons step_len (Source name off len) rest);
      few = omega (arith, made.few, length-append views puts.added, cut.few, most, sum_by-cons (step_most names entries) (Source name off len) rest);
      counts = λ slot. omega (arith, made.counts slot, shared.counts slot, on_append slot views puts.added);
      rose = λ slot. omega (arith, made.rose slot, shared.counts slot);
      room = λ slot some.
          let r = made.room slot some in (
            omega (arith, r.0, shared.counts slot),
            omega
                (arith, r.1, shared.counts slot, on_length slot puts.added, cut.few, most, sum_by-cons (step_most names entries) (Source name off len) rest),
          );
      stays = λ slot none.
          let on : views_on slot puts.added ≡ 0 = none_on slot (views_on slot puts.added) refl none in
          omega (arith, made.stays slot none, shared.counts slot, on);
      items = λ slot. shared.items slot ∙ made.items slot;
    })
  where
    none_on : (slot n : ℕ) → views_on slot puts.added ≡ n → views_in entries slot ≡ 0 → n ≡ 0
    none_on slot n is none = by (nat_lt 0 n) refl
      where
        by : (b : Bool) → nat_lt 0 n ≡ b → n ≡ 0
        by false zero_is = grind (arith, nat_tests)
        by true some = let above : 0 < n = grind (arith, nat_tests) in absurd (omega (arith, puts.adds.1.slots slot (omega (arith, is)), among name slot, none))

-- the own views that are left are those of the steps that are left
pub own_more : (names : List ℕ) (entries : Entries) (step : Step) (rest : List Step) (left views later : List View) (taken : ℕ) (before after : Held)
    → AreOwn (step ∷ rest) left → Puts names entries step left taken views later before after → AreOwn rest (drop taken left)
own_more names entries (Own piece len) rest [] views later taken before after are puts = absurd are
own_more names entries (Own piece len) rest (view ∷ left) views later taken before after are puts = rw puts.adds.0 are.1
own_more names entries (Fixed view) rest left views later taken before after are puts = rw puts.adds.0 are
own_more names entries (Source name off len) rest left views later taken before after are puts = rw puts.adds.0 are

pub own_next : (step : Step) (rest : List Step) (left : List View) → AreOwn (step ∷ rest) left → IsNextOwn step left
own_next (Own piece len) rest [] are = are
own_next (Own piece len) rest (view ∷ left) are = are.0
own_next (Fixed view) rest [] are = tt
own_next (Fixed view) rest (first ∷ left) are = tt
own_next (Source name off len) rest [] are = tt
own_next (Source name off len) rest (first ∷ left) are = tt

-- there is room for a step
pub room_for : (names : List ℕ) (entries : Entries) (shares : Held) (step : Step) (rest : List Step)
    → ((name slot : ℕ) → views_on slot (source_views names entries name) ≤ views_in entries slot)
    → ((slot : ℕ) → 0 < views_in entries slot → (0 < count_at shares slot) × (count_at shares slot + cut_most names entries (step ∷ rest) ≤ 2 ^ 32))
    → HasRoomFor names entries shares step
room_for names entries shares (Own piece len) rest among room = tt
room_for names entries shares (Fixed view) rest among room = tt
room_for names entries shares (Source name off len) rest among room = λ slot some.
    let r = room slot (omega (arith, some, among name slot)) in
    let most : step_most names entries (Source name off len) ≡ min len (length (source_views names entries name)) = refl in
    (r.0, omega (arith, r.1, most, sum_by-cons (step_most names entries) (Source name off len) rest))
