-- A table of which one slot was changed.
use Rattle.std.proofs.Common.{◌≡◌, ℕ, zero, suc, ◌+◌, ◌<◌, ◌≤◌, Bool, true, false, List, [], ◌∷◌, Some, None, Option, arith, get_or, length, map, option_and_then, set, sum_by, refl, sym, ap, ◌∙◌, subst, ⊎_elim}
use Rattle.std.specs.Prelude.{if◌then◌else◌, is_some, slice_get, IsSome, IsSomeAnd}
use Rattle.std.specs.Option.{option_map}
use Rattle.std.proofs.lemmas.Bool.{cases_lt}
use Rattle.std.proofs.lemmas.List.{length-map, map-set, set-get_or}
use Rattle.std.proofs.lemmas.List.Sums.{sum_by-cons, sum_by-set}
use Rattle.std.proofs.lemmas.Option.{get_or_from_slice_get, slice_get-map, slice_get_past, slice_get_read, slice_get_within}
use Rattle.data_handles.specs.Handles.{Handle}
use Rattle.data_handles.specs.Table.{claimed, claimed_at, count_of, counted, counted_at, emptied, faults_at, is_claimed_at, object_at, released_at, slot_faults, Slot, Table}
use Rattle.data_handles.specs.Slots.{slot_of}
use Rattle.data_handles.specs.declared.place.Place.{Place}

abbrev table_of : List Slot → ℕ → Table
table_of slots past = record { slots = slots; past = past }

-- what was written is there
written : {X : Type 0} (xs : List X) (k : ℕ) (x y : X) → slice_get xs k ≡ Some x → slice_get (set xs k y) k ≡ Some y
written [] k x y is = cc
written (first ∷ xs) zero x y is = refl
written (first ∷ xs) (suc k) x y is = written xs k x y is

-- and what was there, written again, changes nothing
unwritten : {X : Type 0} (xs : List X) (k : ℕ) (x : X) → slice_get xs k ≡ Some x → set xs k x ≡ xs
unwritten xs k x is = ap (set xs k) (sym (get_or_from_slice_get xs k x x is)) ∙ set-get_or xs k x

-- a slot with an object is one of the table's
pub is_within : (P : Handle → Type 0) (table : Table) (k : ℕ) → IsSomeAnd (object_at table k) P → k < length table.slots
is_within P table k there = ⊎_elim (λ within. within)
    (λ past.
    let none = slice_get_past table.slots k past in
    absurd (subst (λ slot. IsSomeAnd (option_and_then (λ (one : Slot). one.object) slot) P) none there))
    (cases_lt k (length table.slots))

-- the same of a slot that holds something
pub is_held_within : (table : Table) (k : ℕ) → IsSome (object_at table k) → k < length table.slots
is_held_within table k there = is_within (λ _. Unit {0}) table k (some (object_at table k) there)
  where
    some : (object : Option Handle) → IsSome object → IsSomeAnd object (λ _. Unit {0})
    some None is = absurd (cc)
    some (Some handle) is = tt

counts : (slots : List Slot) (past k : ℕ) (one new : Slot) → slice_get slots k ≡ Some one → faults_at (table_of (set slots k new) past) k ≡ slot_faults new
counts slots past k one new there = rw (written slots k one new there) refl

-- a slot with another count
pub counted_table : (slots : List Slot) (past k : ℕ) (one new : Slot) → slice_get slots k ≡ Some one → new ≡ counted (slot_faults new) one
    → table_of (set slots k new) past ≡ counted_at (table_of slots past) k (faults_at (table_of (set slots k new) past) k)
counted_table slots past k one new there is =
    let count = counts slots past k one new there in
    ap (λ (slot : Slot). table_of (set slots k slot) past) (is ∙ ap (λ count. counted count one) (sym count))
    ∙ sym (rw there refl)

-- a slot that is claimed
pub claimed_table : (slots : List Slot) (past k : ℕ) (one new : Slot) → slice_get slots k ≡ Some one → new ≡ claimed one → table_of (set slots k new) past
    ≡ claimed_at (table_of slots past) k
claimed_table slots past k one new there is = ap (λ (slot : Slot). table_of (set slots k slot) past) is ∙ sym (rw there refl)

-- a slot whose object goes
pub released_table : (slots : List Slot) (past k count : ℕ) (one new : Slot) → slice_get slots k ≡ Some one → new ≡ emptied one → count ≡ slot_faults one
    → table_of (set slots k new) (past + count) ≡ released_at (table_of slots past) k
released_table slots past k count one new there is counts = (λ i. table_of (set slots k (is i)) (past + counts i)) ∙ sym (rw there refl)

-- the count of the table outlives the object
pub released_count : (slots : List Slot) (past k : ℕ) (one : Slot) → slice_get slots k ≡ Some one → count_of (released_at (table_of slots past) k)
    ≡ count_of (table_of slots past)
released_count slots past k one there =
    let within = slice_get_within slots k one there in
    let here : get_or slots k one ≡ one = get_or_from_slice_get slots k one one there in
    let sums = sum_by-set slot_faults slots k (emptied one) one within in
    let faults : slot_faults (get_or slots k one) ≡ slot_faults one = ap slot_faults here in
    let is : released_at (table_of slots past) k ≡ table_of (set slots k (emptied one)) (past + slot_faults one) = rw there refl in
    ap count_of is ∙ omega (arith, sums, faults)

module _ {H : Type 0} (seen : H → Handle) where
  -- the slots of some places
  abbrev pub slots_of : List (Place H) → List Slot
  slots_of items = map (slot_of seen) items

  -- the slot of a place
  pub slot_there : (items : List (Place H)) (k : ℕ) (place : Place H) → place ≡ get_or items k place → k < length items → slice_get (slots_of items) k
      ≡ Some (slot_of seen place)
  slot_there items k place is within = slice_get-map (slot_of seen) items k ∙ ap (λ found. option_map (slot_of seen) found)
      (slice_get_read items (length items) k place refl within is)

  -- a place with an object is one of the table's
  pub place_within : (P : Handle → Type 0) (items : List (Place H)) (past k : ℕ) → IsSomeAnd (object_at (table_of (slots_of items) past) k) P → k < length items
  place_within P items past k there = let within = is_within P (table_of (slots_of items) past) k there in rw length-map at within

  pub held_within : (items : List (Place H)) (past k : ℕ) → IsSome (object_at (table_of (slots_of items) past) k) → k < length items
  held_within items past k there = let within = is_held_within (table_of (slots_of items) past) k there in rw length-map at within

  pub old_object : (items : List (Place H)) (past k : ℕ) (place : Place H) → slice_get (slots_of items) k ≡ Some (slot_of seen place)
      → object_at (table_of (slots_of items) past) k ≡ (slot_of seen place).object
  old_object items past k place there = rw there refl

  pub old_claim : (items : List (Place H)) (past k : ℕ) (place : Place H) → slice_get (slots_of items) k ≡ Some (slot_of seen place)
      → is_claimed_at (table_of (slots_of items) past) k ≡ place.is_claimed
  old_claim items past k place there = rw there refl

  pub old_faults : (items : List (Place H)) (past k : ℕ) (place : Place H) → slice_get (slots_of items) k ≡ Some (slot_of seen place)
      → faults_at (table_of (slots_of items) past) k ≡ slot_faults (slot_of seen place)
  old_faults items past k place there = rw there refl

  pub new_faults : (items : List (Place H)) (past k : ℕ) (place new : Place H) → slice_get (slots_of items) k ≡ Some (slot_of seen place)
      → faults_at (table_of (slots_of (set items k new)) past) k ≡ slot_faults (slot_of seen new)
  new_faults items past k place new there =
      ap (λ slots. faults_at (table_of slots past) k) (map-set (slot_of seen) items k new) ∙ counts (slots_of items) past k (slot_of seen place)
      (slot_of seen new) there

  pub counted_places : (items : List (Place H)) (past k : ℕ) (place new : Place H) → slice_get (slots_of items) k ≡ Some (slot_of seen place) → slot_of seen new
      ≡ counted (slot_faults (slot_of seen new)) (slot_of seen place)
      → table_of (slots_of (set items k new)) past ≡ counted_at (table_of (slots_of items) past) k (faults_at (table_of (slots_of (set items k new)) past) k)
  counted_places items past k place new there is =
      let same = map-set (slot_of seen) items k new in
      ap (λ slots. table_of slots past) same ∙ counted_table (slots_of items) past k (slot_of seen place) (slot_of seen new) there is
      ∙ ap (λ slots. counted_at (table_of (slots_of items) past) k (faults_at (table_of slots past) k)) (sym same)

  -- a place that is seen as before
  pub same_places : (items : List (Place H)) (past k : ℕ) (place new : Place H) → slice_get (slots_of items) k ≡ Some (slot_of seen place) → slot_of seen new
      ≡ slot_of seen place
      → table_of (slots_of (set items k new)) past ≡ table_of (slots_of items) past
  same_places items past k place new there is =
      let same : set (slots_of items) k (slot_of seen place) ≡ slots_of items = unwritten (slots_of items) k (slot_of seen place) there in
      ap (λ slots. table_of slots past) (map-set (slot_of seen) items k new ∙ ap (set (slots_of items) k) is ∙ same)

  pub claimed_places : (items : List (Place H)) (past k : ℕ) (place new : Place H) → slice_get (slots_of items) k ≡ Some (slot_of seen place) → slot_of seen new
      ≡ claimed (slot_of seen place)
      → table_of (slots_of (set items k new)) past ≡ claimed_at (table_of (slots_of items) past) k
  claimed_places items past k place new there is =
      ap (λ slots. table_of slots past) (map-set (slot_of seen) items k new) ∙ claimed_table (slots_of items) past k (slot_of seen place) (slot_of seen new)
      there is

  pub released_places : (items : List (Place H)) (past k count : ℕ) (place new : Place H) → slice_get (slots_of items) k ≡ Some (slot_of seen place)
      → slot_of seen new ≡ emptied (slot_of seen place) → count ≡ slot_faults (slot_of seen place)
      → table_of (slots_of (set items k new)) (past + count) ≡ released_at (table_of (slots_of items) past) k
  released_places items past k count place new there is counts =
      ap (λ slots. table_of slots (past + count)) (map-set (slot_of seen) items k new) ∙ released_table (slots_of items) past k count (slot_of seen place)
      (slot_of seen new) there is counts

-- 1 for a place that holds nothing
abbrev pub gap : {H : Type 0} → Place H → ℕ
gap place = if is_some place.object then 0 else 1

gap_by : (b : Bool) → (if b then 0 else 1) ≤ 1
gap_by true = omega arith
gap_by false = omega arith

pub gaps_le : {H : Type 0} (items : List (Place H)) → sum_by gap items ≤ length items
gaps_le [] = omega arith
gaps_le (place ∷ items) = let one = gap_by (is_some place.object) in let more = sum_by-cons gap place items in omega (arith, one, more, gaps_le items)

-- one more place that holds nothing
pub gaps_more : {H : Type 0} (items : List (Place H)) (k : ℕ) (place new : Place H) → place ≡ get_or items k place → k < length items → is_some place.object
    ≡ true → is_some new.object ≡ false → sum_by gap (set items k new) ≡ sum_by gap items + 1
gaps_more items k place new is within some none =
    let sums = sum_by-set gap items k new place within in
    let old : gap (get_or items k place) ≡ 0 = ap gap (sym is) ∙ rw some refl in
    let now : gap new ≡ 1 = rw none refl in
    omega (arith, sums, old, now)

pub some_seen : {H : Type 0} (seen : H → Handle) (object : Option H) → IsSome (option_map seen object) → is_some object ≡ true
some_seen seen None is = is
some_seen seen (Some one) is = refl

pub none_seen : {H : Type 0} (seen : H → Handle) (object : Option H) → option_map seen object ≡ None → is_some object ≡ false
none_seen seen None is = refl
none_seen seen (Some one) is = cc
