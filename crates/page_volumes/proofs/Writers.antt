-- The writer of a group, and places of which one is changed.
use Rattle.std.proofs.Common.{◌≡◌, ℕ, zero, suc, ◌+◌, ◌==◌, ◌||◌, Bool, true, false, not, List, [], ◌∷◌, Some, arith, drop, length, ◌≢◌, ◌⊎◌, inl, inr, refl, sym, ap, ◌∙◌, subst}
use Rattle.std.specs.Prelude.{if◌then◌else◌, slice_get, IsSomeAnd}
use Rattle.std.specs.Option.{option_map}
use Rattle.std.proofs.lemmas.Bool.{eqb-false, eqb-true}
use Rattle.page_volumes.specs.Group.{changed_at, is_retired_at, takes_writes, writer_of, Slot}

-- the first n are retired
pub record AllRetired (n : ℕ) (slots : List Slot) : Type 0 where
  pub place : writer_of slots ≡ n + writer_of (drop n slots)
  pub more : takes_writes slots ≡ takes_writes (drop n slots)

pub all_retired_none : (slots : List Slot) → AllRetired 0 slots
all_retired_none slots = record { place = omega arith; more = refl }

drop_slot : (slots : List Slot) (n : ℕ) (slot : Slot) → slice_get slots n ≡ Some slot → drop n slots ≡ slot ∷ drop (suc n) slots
drop_slot [] n slot is = cc
drop_slot (first ∷ slots) zero slot is = let same : first ≡ slot = cc in ap (λ (one : Slot). one ∷ slots) same
drop_slot (first ∷ slots) (suc n) slot is = drop_slot slots n slot is

pub all_retired_more : (slots : List Slot) (n : ℕ) (slot : Slot) → slice_get slots n ≡ Some slot → slot.is_retired ≡ true → AllRetired n slots
    → AllRetired (suc n) slots
all_retired_more slots n slot is retired so =
    let here = drop_slot slots n slot is in
    let place : writer_of (drop n slots) ≡ suc (writer_of (drop (suc n) slots)) = ap writer_of here ∙ rw retired refl in
    let more : takes_writes (drop n slots) ≡ takes_writes (drop (suc n) slots) = ap takes_writes here ∙ rw retired refl in
    record { place = omega (arith, so.place, place); more = so.more ∙ more }

-- the next isn't
pub writer_here : (slots : List Slot) (n : ℕ) (slot : Slot) → slice_get slots n ≡ Some slot → slot.is_retired ≡ false → AllRetired n slots → n ≡ writer_of slots
writer_here slots n slot is free so =
    let here = drop_slot slots n slot is in
    let place : writer_of (drop n slots) ≡ 0 = ap writer_of here ∙ rw free refl in
    omega (arith, so.place, place)

pub free_here : (slots : List Slot) (n : ℕ) (slot : Slot) → slice_get slots n ≡ Some slot → slot.is_retired ≡ false → is_retired_at slots n ≡ false
free_here slots n slot is free = rw is free

-- an element of a list of which one is changed
pub changed_here : (change : Slot → Slot) (k : ℕ) (slots : List Slot) → slice_get (changed_at change k slots) k ≡ option_map change (slice_get slots k)
changed_here change k [] = refl
changed_here change zero (slot ∷ slots) = refl
changed_here change (suc k) (slot ∷ slots) = changed_here change k slots

pub changed_other : (change : Slot → Slot) (k other : ℕ) (slots : List Slot) → other ≢ k → slice_get (changed_at change k slots) other ≡ slice_get slots other
changed_other change k other [] apart = refl
changed_other change zero zero (slot ∷ slots) apart = absurd (apart refl)
changed_other change zero (suc other) (slot ∷ slots) apart = refl
changed_other change (suc k) zero (slot ∷ slots) apart = refl
changed_other change (suc k) (suc other) (slot ∷ slots) apart = changed_other change k other slots (λ is. apart (ap suc is))

-- either
pub changed_or : (change : Slot → Slot) (k other : ℕ) (slots : List Slot)
    → ((other ≡ k) × (slice_get (changed_at change k slots) other ≡ option_map change (slice_get slots other)))
    ⊎ ((other ≢ k) × (slice_get (changed_at change k slots) other ≡ slice_get slots other))
changed_or change k other slots =
    (elim (other == k) as (λ r. (other == k) ≡ r → ((other ≡ k) × (slice_get (changed_at change k slots) other ≡ option_map change (slice_get slots other)))
    ⊎ ((other ≢ k) × (slice_get (changed_at change k slots) other ≡ slice_get slots other))) [
      | true ↦ λ is. let same = eqb-true other k is in inl (
        same,
        subst (λ one. slice_get (changed_at change k slots) one ≡ option_map change (slice_get slots one))
            (sym same) (changed_here change k slots),
      )
      | false ↦ λ is. inr (eqb-false other k is, changed_other change k other slots (eqb-false other k is))
    ]) refl

pub length_changed : (change : Slot → Slot) (k : ℕ) (slots : List Slot) → length (changed_at change k slots) ≡ length slots
length_changed change k [] = refl
length_changed change zero (slot ∷ slots) = refl
length_changed change (suc k) (slot ∷ slots) = ap suc (length_changed change k slots)

module _ (change : Slot → Slot) (keeps : (slot : Slot) → (change slot).is_retired ≡ slot.is_retired) where
  pub writer_changed : (k : ℕ) (slots : List Slot) → writer_of (changed_at change k slots) ≡ writer_of slots
  writer_changed k [] = refl
  writer_changed zero (slot ∷ slots) = ap (λ r. if r then suc (writer_of slots) else zero) (keeps slot)
  writer_changed (suc k) (slot ∷ slots) = ap (λ n. if slot.is_retired then suc n else zero) (writer_changed k slots)

  pub writes_changed : (k : ℕ) (slots : List Slot) → takes_writes (changed_at change k slots) ≡ takes_writes slots
  writes_changed k [] = refl
  writes_changed zero (slot ∷ slots) = ap (λ r. not r || takes_writes slots) (keeps slot)
  writes_changed (suc k) (slot ∷ slots) = ap (λ r. not slot.is_retired || r) (writes_changed k slots)

-- the writer's slot
pub writer_there : (slots : List Slot) → takes_writes slots ≡ true → IsSomeAnd (slice_get slots (writer_of slots)) (λ slot. slot.is_retired ≡ false)
writer_there [] writes = absurd (cc writes)
writer_there (slot ∷ slots) writes = by slot.is_retired refl (λ more. writer_there slots more) writes
  where
    by : (r : Bool) → slot.is_retired ≡ r → (takes_writes slots ≡ true → IsSomeAnd (slice_get slots (writer_of slots)) (λ slot. slot.is_retired ≡ false))
        → takes_writes (slot ∷ slots) ≡ true
        → IsSomeAnd (slice_get (slot ∷ slots) (writer_of (slot ∷ slots))) (λ slot. slot.is_retired ≡ false)
    by true is next writes = let more : takes_writes slots ≡ true = rw is at writes in rw is (next more)
    by false is next writes = subst (λ r. IsSomeAnd (slice_get (slot ∷ slots) (if r then suc (writer_of slots) else zero)) (λ slot. slot.is_retired ≡ false))
        (sym is) is
