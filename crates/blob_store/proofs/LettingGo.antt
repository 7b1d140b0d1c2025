-- One slot after the other lets its object go, where it was claimed.
use Rattle.std.proofs.Common.{◌≡◌, ℕ, ◌+◌, ◌<◌, ◌≤◌, ◌&&◌, Bool, true, false, cond, List, ◌++◌, map, drop, take, length, refl, ap, sym, ◌∙◌}
use Rattle.std.proofs.Common.{arith, Option, Some, None, get_or, take_all, append-nil}
use Rattle.std.specs.Prelude.{is_some, slice_set, option_and_then}
use Rattle.std.specs.Option.{option_map_or}
use Rattle.std.proofs.lemmas.List.{drop_all, set-get_or, length-append, length-drop, length-map, length-take-le}
use Rattle.std.proofs.lemmas.List.Edits.{map_over_more}
use Rattle.std.proofs.lemmas.Option.{get_or_from_slice_get, slice_get-get_or}
use Rattle.std.proofs.lemmas.Bool.{false≢true}
use Rattle.data_handles.specs.Handles.{Handle}
use Rattle.data_handles.specs.Table.{changed_at, count_of, emptied, is_claimed_at, object_at, released_at, slot_at, Slot, Table}
use Rattle.blob_store.specs.Closing.{let_go, LetsGo}

-- the slots before a place have let go
pub record LetGoTo (place : ℕ) (old new : Table) : Type 0 where
  pub slots : new.slots ≡ map let_go (take place old.slots) ++ drop place old.slots
  pub count : count_of new ≡ count_of old

abbrev slot_of : Bool → Option Handle → Slot
slot_of claimed object = record { is_claimed = claimed; object = object }

-- a slot lets go where it is claimed, and one that is not, or that is empty, stays
goes : (slot : Slot) → slot.is_claimed ≡ true → emptied slot ≡ let_go slot
goes slot claimed = ap (λ (b : Bool). cond b (emptied slot) slot) (sym claimed)

stays_so : (slot : Slot) → (slot.is_claimed && is_some slot.object) ≡ false → let_go slot ≡ slot
stays_so slot none = by slot.is_claimed slot.object none
  where
    by : (claimed : Bool) (object : Option Handle) → (claimed && is_some object) ≡ false
        → let_go (slot_of claimed object) ≡ slot_of claimed object
    by false object none = refl
    by true None none = refl
    by true (Some handle) none = absurd (false≢true (sym none))

both_left : (a b : Bool) → (a && b) ≡ true → a ≡ true
both_left true b both = refl
both_left false b both = both

module _ (old mid : Table) (k : ℕ) (inside : k < length old.slots) (so : LetGoTo k old mid) where
  long : length mid.slots ≡ length old.slots
  long =
      let front = length-take-le k old.slots (omega (arith, inside)) in
      let rest = length-drop k old.slots in
      ap length so.slots ∙ length-append (map let_go (take k old.slots)) (drop k old.slots)
      ∙ ap (λ (n : ℕ). n + length (drop k old.slots)) (length-map (take k old.slots) let_go) ∙ omega (arith, front, rest, inside)

  abbrev slot : Slot
  slot = get_or mid.slots k (record { is_claimed = false; object = None })

  at : slot_at mid k ≡ Some slot
  at = slice_get-get_or mid.slots k (record { is_claimed = false; object = None }) (omega (arith, inside, long))

  more : slice_set mid.slots k (let_go slot) ≡ map let_go (take (k + 1) old.slots) ++ drop (k + 1) old.slots
  more = map_over_more let_go old.slots mid.slots k slot inside so.slots (sym (get_or_from_slice_get mid.slots k slot slot at))

  pub released : (is_claimed_at mid k && is_some (object_at mid k)) ≡ true → (new : Table) → new ≡ released_at mid k → count_of new ≡ count_of mid
      → LetGoTo (k + 1) old new
  released claimed new is same = record {
    slots = ap (λ (table : Table). table.slots) is ∙ here ∙ more;
    count = same ∙ so.count;
  }
    where
      was : slot.is_claimed ≡ true
      was =
          sym (ap (λ (o : Option Slot). option_map_or (λ (one : Slot). one.is_claimed) o false) at)
          ∙ both_left (is_claimed_at mid k) (is_some (object_at mid k)) claimed

      here : changed_at emptied mid k ≡ slice_set mid.slots k (let_go slot)
      here =
          ap (λ (o : Option Slot). option_map_or (λ (one : Slot). slice_set mid.slots k (emptied one)) o mid.slots) at
          ∙ ap (slice_set mid.slots k) (goes slot was)

  pub stays : (is_claimed_at mid k && is_some (object_at mid k)) ≡ false → LetGoTo (k + 1) old mid
  stays none = record {
    slots = sym (ap (slice_set mid.slots k) (stays_so slot here) ∙ same) ∙ more;
    count = so.count;
  }
    where
      here : (slot.is_claimed && is_some slot.object) ≡ false
      here =
          sym (ap (λ (o : Option Slot). option_map_or (λ (one : Slot). one.is_claimed) o false && is_some (option_and_then (λ (one : Slot). one.object) o)) at)
          ∙ none

      same : slice_set mid.slots k slot ≡ mid.slots
      same = set-get_or mid.slots k (record { is_claimed = false; object = None })

-- all slots have let go
pub all_gone : (old new : Table) (place : ℕ) → length old.slots ≤ place → LetGoTo place old new → LetsGo old new
all_gone old new place past so = record {
  slots = so.slots ∙ ap (λ (list : List Slot). list ++ drop place old.slots) (ap (map let_go) (take_all place old.slots past))
      ∙ ap (λ (list : List Slot). map let_go old.slots ++ list) (drop_all place old.slots past) ∙ append-nil (map let_go old.slots);
  count = so.count;
}
