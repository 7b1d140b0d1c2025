-- The tests of the slots that are left, where some slots passed.
use Rattle.std.proofs.Common.{◌≡◌, ℕ, ◌+◌, ◌<◌, ◌≤◌, ◌==◌, ◌||◌, Bool, true, false, List, [], ◌∷◌, length, get_or, take, drop, refl, ap, sym, ◌∙◌, Option, Some, None}
use Rattle.std.specs.Prelude.{nat_le, option_and_then, IsSomeAnd}
use Rattle.std.specs.Option.{option_map_or}
use Rattle.std.proofs.lemmas.Bool.{le-leb, lt-leb}
use Rattle.std.proofs.lemmas.List.{drop_all, drop_more, take_more}
use Rattle.std.proofs.lemmas.List.Folds.{list_any-append}
use Rattle.std.proofs.lemmas.Option.{slice_get_within}
use Rattle.answer_text.specs.declared.refusal.Refusal.{Refusal}
use Rattle.answer_text.specs.declared.refusal.Refusal.TheVariants as refusals
use Rattle.data_handles.specs.Handles.{Handle}
use Rattle.data_handles.specs.Table.{is_claimed_at, object_at, slot_at, Slot, Table}
use Rattle.blob_model.specs.Choice.{first_that}
use Rattle.blob_model.specs.Refusals.{is_in}
use Rattle.store_laws.specs.Deciding.{slot_tests}
use Rattle.store_laws.proofs.SlotTests.{taken_alike}

-- ---- slots that are there

pub held_within : (table : Table) (slot : ℕ) (P : Handle → Type 0) → IsSomeAnd (object_at table slot) P → nat_le (length table.slots) slot ≡ false
held_within table slot P is = by (slot_at table slot) refl is
  where
    by : (found : Option Slot) → slot_at table slot ≡ found → IsSomeAnd (option_and_then (λ (one : Slot). one.object) found) P
        → nat_le (length table.slots) slot ≡ false
    by None at has = absurd has
    by (Some one) at has = lt-leb (length table.slots) slot (slice_get_within table.slots slot one at)

pub claimed_within : (table : Table) (slot : ℕ) → is_claimed_at table slot ≡ true → nat_le (length table.slots) slot ≡ false
claimed_within table slot is = by (slot_at table slot) refl is
  where
    by : (found : Option Slot) → slot_at table slot ≡ found → option_map_or (λ (one : Slot). one.is_claimed) found false ≡ true
        → nat_le (length table.slots) slot ≡ false
    by None at has = absurd (cc has)
    by (Some one) at has = lt-leb (length table.slots) slot (slice_get_within table.slots slot one at)

-- ---- slots one after the other

pub second_held : (a b : Bool) → b ≡ true → (a || b) ≡ true
second_held true b e = refl
second_held false b e = e

regrouped : (a b c : Bool) → (a || (b || c)) ≡ ((b || (a || false)) || c)
regrouped true true c = refl
regrouped true false c = refl
regrouped false true c = refl
regrouped false false c = refl

module _ (table : Table) (slots : List ℕ) where
  -- a slot that is claimed, or among the first ones
  abbrev pub taken_by : ℕ → ℕ → Bool
  taken_by i k = is_in k (take i slots) || is_claimed_at table k

  -- what the tests tell of the slots from a place on
  abbrev pub told_from : ℕ → Option Refusal
  told_from i = first_that (slot_tests (length table.slots) (taken_by i) (drop i slots))

  -- the same as of all slots
  abbrev pub ToldFrom : ℕ → Type 0
  ToldFrom i = told_from i ≡ first_that (slot_tests (length table.slots) (is_claimed_at table) slots)

  abbrev slot : ℕ → ℕ
  slot i = get_or slots i 0

  abbrev tests : ℕ → Bool → Bool → Option Refusal
  tests i past held =
      first_that ((past, refusals.NoSuchHandle (slot i)) ∷ (held, refusals.HandleTaken (slot i))
      ∷ slot_tests (length table.slots) (λ (k : ℕ). (slot i == k) || taken_by i k) (drop (i + 1) slots))

  module _ (i : ℕ) (inside : i < length slots) where
    opened : told_from i ≡ tests i (nat_le (length table.slots) (slot i)) (taken_by i (slot i))
    opened = ap (λ (left : List ℕ). first_that (slot_tests (length table.slots) (taken_by i) left)) (drop_more slots i 0 inside)

    pub told_none : length table.slots ≤ slot i → told_from i ≡ Some (refusals.NoSuchHandle (slot i))
    told_none past = opened ∙ ap (λ (b : Bool). tests i b (taken_by i (slot i))) (le-leb (length table.slots) (slot i) past)

    module _ (there : nat_le (length table.slots) (slot i) ≡ false) where
      pub told_taken : taken_by i (slot i) ≡ true → told_from i ≡ Some (refusals.HandleTaken (slot i))
      told_taken held = opened ∙ ap (λ (b : Bool). tests i b (taken_by i (slot i))) there ∙ ap (tests i false) held

      pub told_later : taken_by i (slot i) ≡ false → told_from i ≡ told_from (i + 1)
      told_later free =
          opened ∙ ap (λ (b : Bool). tests i b (taken_by i (slot i))) there ∙ ap (tests i false) free
          ∙ taken_alike (length table.slots) (λ (k : ℕ). (slot i == k) || taken_by i k) (taken_by (i + 1)) (drop (i + 1) slots)
          (λ k known. regrouped (slot i == k) (is_in k (take i slots)) (is_claimed_at table k)
          ∙ sym (ap (λ (list : List ℕ). is_in k list || is_claimed_at table k) (take_more slots i 0 inside)
          ∙ ap (λ (b : Bool). b || is_claimed_at table k) (list_any-append (λ (each : ℕ). each == k) (take i slots) (slot i ∷ []))))

  pub told_end : (i : ℕ) → length slots ≤ i → told_from i ≡ None
  told_end i past = ap (λ (left : List ℕ). first_that (slot_tests (length table.slots) (taken_by i) left)) (drop_all i slots past)
