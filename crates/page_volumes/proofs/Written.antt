-- Places of which one was changed.
use Rattle.std.proofs.Common.{◌≡◌, ℕ, zero, suc, ◌<◌, List, [], ◌∷◌, Some, None, Option, get_or, length, option_and_then, set, refl, sym, ap, ◌∙◌, subst, ⊎_elim}
use Rattle.std.specs.Prelude.{slice_get, IsSomeAnd}
use Rattle.std.specs.Option.{option_map}
use Rattle.std.proofs.lemmas.Bool.{cases_lt}
use Rattle.std.proofs.lemmas.List.{length-map, map-set}
use Rattle.std.proofs.lemmas.Option.{slice_get-map, slice_get_past, slice_get_read}
use Rattle.page_volumes.specs.Seen.{Seen}
use Rattle.page_volumes.specs.Group.{changed_at, object_at, seen_by, Slot}
use Rattle.page_volumes.specs.Acts.{Acts, ActsAt}
use Rattle.page_volumes.specs.Plain.{slot_of, slots_of}
use Rattle.page_volumes.specs.declared.place.Place.{Place}

-- a slot with an object is one of the list
pub is_within : (P : Seen → Type 0) (slots : List Slot) (k : ℕ) → IsSomeAnd (object_at slots k) P → k < length slots
is_within P slots k there = ⊎_elim (λ within. within)
    (λ past.
    let none = slice_get_past slots k past in
    absurd (subst (λ slot. IsSomeAnd (option_and_then (λ (one : Slot). one.object) slot) P) none there))
    (cases_lt k (length slots))

-- a slot that is written is changed
pub changed_is : (change : Slot → Slot) (slots : List Slot) (k : ℕ) (slot : Slot) → slice_get slots k ≡ Some slot → set slots k (change slot)
    ≡ changed_at change k slots
changed_is change [] k slot is = cc
changed_is change (first ∷ slots) zero slot is = let same : first ≡ slot = cc in ap (λ (one : Slot). change one ∷ slots) (sym same)
changed_is change (first ∷ slots) (suc k) slot is = ap (λ rest. first ∷ rest) (changed_is change slots k slot is)

module _ {V : Type 0} (seen : V → Seen) where
  -- the slot of a place
  pub slot_there : (items : List (Place V)) (k : ℕ) (place : Place V) → place ≡ get_or items k place → k < length items → slice_get (slots_of seen items) k
      ≡ Some (slot_of seen place)
  slot_there items k place is within = slice_get-map (slot_of seen) items k ∙ ap (λ found. option_map (slot_of seen) found)
      (slice_get_read items (length items) k place refl within is)

  pub place_within : (P : Seen → Type 0) (items : List (Place V)) (k : ℕ) → IsSomeAnd (object_at (slots_of seen items) k) P → k < length items
  place_within P items k there = let within = is_within P (slots_of seen items) k there in rw length-map at within

  -- what is said of the object of a slot is said of that of its place
  pub place_so : (P : Seen → Type 0) (items : List (Place V)) (k : ℕ) (place : Place V) → place ≡ get_or items k place
      → IsSomeAnd (object_at (slots_of seen items) k) P → IsSomeAnd (slot_of seen place).object P
  place_so P items k place is there =
      subst (λ slot. IsSomeAnd (option_and_then (λ (one : Slot). one.object) slot) P) (slot_there items k place is (place_within P items k there)) there

  -- a slot that was changed
  pub changed_places : (change : Slot → Slot) (items : List (Place V)) (k : ℕ) (place new : Place V) → place ≡ get_or items k place → k < length items
      → slot_of seen new ≡ change (slot_of seen place)
      → slots_of seen (set items k new) ≡ changed_at change k (slots_of seen items)
  changed_places change items k place new is within changed =
      map-set (slot_of seen) items k new ∙ ap (set (slots_of seen items) k) changed ∙ changed_is change (slots_of seen items) k (slot_of seen place)
      (slot_there items k place is within)

  by_objects : (R : Seen → Seen → Type 0) (items : List (Place V)) (k : ℕ) (place new : Place V) (old_object new_object : Option Seen)
      → (slot_of seen place).object ≡ old_object → (slot_of seen new).object ≡ new_object
      → place ≡ get_or items k place → k < length items → IsSomeAnd old_object
      (λ before. IsSomeAnd new_object (λ after. R before after × (slot_of seen new ≡ record (slot_of seen place) { object = Some after })))
      → Acts k (slots_of seen items) (slots_of seen (set items k new)) R
  by_objects R items k place new None new_object was now is within acts = absurd acts
  by_objects R items k place new (Some before) None was now is within acts = absurd acts
  by_objects R items k place new (Some before) (Some after) was now is within acts = record {
    after = after;
    acts = subst (λ slot. IsSomeAnd (option_and_then (λ (one : Slot). one.object) slot) (λ before. R before after)) (sym (slot_there items k place is within))
        (subst (λ (object : Option Seen). IsSomeAnd object (λ before. R before after)) (sym was) acts.0);
    is = changed_places (seen_by (λ _. after)) items k place new is within
        (acts.1 ∙ ap (λ (object : Option Seen). record (slot_of seen place) { object = object }) (sym (ap (option_map (λ _. after)) was)));
  }

  -- a call of the volume at a place
  pub acts_on : (P : Seen → Type 0) (R : Seen → Seen → Type 0) (items : List (Place V)) (k : ℕ) (place new : Place V) → place ≡ get_or items k place
      → IsSomeAnd (object_at (slots_of seen items) k) P → ActsAt (slot_of seen place) (slot_of seen new) R
      → Acts k (slots_of seen items) (slots_of seen (set items k new)) R
  acts_on P R items k place new is there acts = by_objects R items k place new (slot_of seen place).object (slot_of seen new).object refl refl is
      (place_within P items k there) acts
