-- Slots that pass a test, each given the open write where it is the writer's.
use Rattle.std.proofs.Common.{◌≡◌, ℕ, zero, suc, ◌&&◌, Bool, true, false, List, [], ◌∷◌, Some, None, Option, refl, sym, ◌∙◌, subst}
use Rattle.std.specs.Prelude.{if◌then◌else◌, slice_get}
use Rattle.page_disk.specs.Changes.{OpenWrite}
use Rattle.page_volumes.specs.Group.{changed_at, writer_of, Slot}
use Rattle.page_volumes.specs.Sound.{each_passes}

pub both : (a b : Bool) → (a && b) ≡ true → (a ≡ true) × (b ≡ true)
both true b is = (refl, is)
both false b is = absurd (cc is)

pub and_of : (a b : Bool) → a ≡ true → b ≡ true → (a && b) ≡ true
and_of true b one other = other
and_of false b one other = cc

abbrev closed : Option OpenWrite
closed = None

none_if : (r : Bool) → (if r then closed else closed) ≡ closed
none_if true = refl
none_if false = refl

module _ (test : Option OpenWrite → Slot → Bool) where
  -- where no write is open, each passes without one
  pub passes_any : (slots : List Slot) (k : ℕ) (slot : Slot) → each_passes test None slots ≡ true → slice_get slots k ≡ Some slot → test None slot ≡ true
  passes_any [] k slot so is = cc
  passes_any (first ∷ slots) zero slot so is =
      let same : first ≡ slot = cc in
      subst (λ (one : Slot). test None one ≡ true) same (subst (λ write. test write first ≡ true) (none_if first.is_retired) (both _ _ so).0)
  passes_any (first ∷ slots) (suc k) slot so is =
      passes_any slots k slot (subst (λ write. each_passes test write slots ≡ true) (none_if first.is_retired) (both _ _ so).1) is

  pub passes_each : (slots : List Slot) → ((k : ℕ) (slot : Slot) → slice_get slots k ≡ Some slot → test None slot ≡ true) → each_passes test None slots ≡ true
  passes_each [] each = refl
  passes_each (first ∷ slots) each = and_of _ _
      (subst (λ write. test write first ≡ true) (sym (none_if first.is_retired)) (each zero first refl))
      (subst (λ write. each_passes test write slots ≡ true) (sym (none_if first.is_retired)) (passes_each slots (λ k slot is. each (suc k) slot is)))

  -- the writer passes with the open write
  pub passes_writer : (slots : List Slot) (write : Option OpenWrite) (slot : Slot) → each_passes test write slots ≡ true → slice_get slots (writer_of slots)
      ≡ Some slot → slot.is_retired ≡ false → test write slot ≡ true
  passes_writer [] write slot so is free = cc
  passes_writer (first ∷ slots) write slot so is free = by first.is_retired refl (λ so is. passes_writer slots write slot so is free) so is
    where
      by : (r : Bool) → first.is_retired ≡ r → (each_passes test write slots ≡ true → slice_get slots (writer_of slots) ≡ Some slot → test write slot ≡ true)
          → each_passes test write (first ∷ slots) ≡ true → slice_get (first ∷ slots) (writer_of (first ∷ slots)) ≡ Some slot → test write slot ≡ true
      by true retired rest so is =
          let split : (test None first && each_passes test write slots) ≡ true =
          subst (λ r. (test (if r then None else write) first && each_passes test (if r then write else None) slots) ≡ true) retired so in
          rest (both _ _ split).1 (subst (λ r. slice_get (first ∷ slots) (if r then suc (writer_of slots) else zero) ≡ Some slot) retired is)
      by false retired rest so is =
          let split : (test write first && each_passes test None slots) ≡ true =
          subst (λ r. (test (if r then None else write) first && each_passes test (if r then write else None) slots) ≡ true) retired so in
          let there = (both _ _ split).0 in
          let found : Some first ≡ Some slot = subst (λ r. slice_get (first ∷ slots) (if r then suc (writer_of slots) else zero) ≡ Some slot) retired is in
          let same : first ≡ slot = cc in
          subst (λ (one : Slot). test write one ≡ true) same there

module _ (test other : Option OpenWrite → Slot → Bool) (weaker : (slot : Slot) → test None slot ≡ true → other None slot ≡ true) where
  pub passes_none : (slots : List Slot) → each_passes test None slots ≡ true → each_passes other None slots ≡ true
  passes_none slots so = passes_each other slots (λ k slot is. weaker slot (passes_any test slots k slot so is))

  -- the writer is changed
  pub passes_changed_writer : (change : Slot → Slot) (write after : Option OpenWrite) → ((slot : Slot) → (change slot).is_retired ≡ slot.is_retired)
      → ((slot : Slot) → test write slot ≡ true → other after (change slot) ≡ true)
      → (slots : List Slot) → each_passes test write slots ≡ true → each_passes other after (changed_at change (writer_of slots) slots) ≡ true
  passes_changed_writer change write after keeps step [] so = refl
  passes_changed_writer change write after keeps step (first ∷ slots) so =
      by first.is_retired refl (λ so. passes_changed_writer change write after keeps step slots so) so
    where
      by : (r : Bool) → first.is_retired ≡ r → (each_passes test write slots ≡ true → each_passes other after (changed_at change (writer_of slots) slots)
          ≡ true)
          → each_passes test write (first ∷ slots) ≡ true → each_passes other after (changed_at change (writer_of (first ∷ slots)) (first ∷ slots)) ≡ true
      by true retired next so =
          let split : (test None first && each_passes test write slots) ≡ true =
          subst (λ r. (test (if r then None else write) first && each_passes test (if r then write else None) slots) ≡ true) retired so in
          let one = (both _ _ split).0 in
          let rest = (both _ _ split).1 in
          subst (λ r. each_passes other after (changed_at change (if r then suc (writer_of slots) else zero) (first ∷ slots)) ≡ true) (sym retired)
          (subst (λ r. (other (if r then None else after) first && each_passes other (if r then after else None) (changed_at change (writer_of slots) slots))
          ≡ true) (sym retired)
          (and_of _ _ (weaker first one) (next rest)))
      by false retired next so =
          let split : (test write first && each_passes test None slots) ≡ true =
          subst (λ r. (test (if r then None else write) first && each_passes test (if r then write else None) slots) ≡ true) retired so in
          let one = (both _ _ split).0 in
          let rest = (both _ _ split).1 in
          subst (λ r. each_passes other after (changed_at change (if r then suc (writer_of slots) else zero) (first ∷ slots)) ≡ true) (sym retired)
          (subst (λ r. (other (if r then None else after) (change first) && each_passes other (if r then after else None) slots) ≡ true)
          (sym (keeps first ∙ retired))
          (and_of _ _ (step first one) (passes_none slots rest)))

  -- any one is changed while no write is open
  pub passes_changed : (change : Slot → Slot) → ((slot : Slot) → test None slot ≡ true → other None (change slot) ≡ true) → (k : ℕ) (slots : List Slot)
      → each_passes test None slots ≡ true → each_passes other None (changed_at change k slots) ≡ true
  passes_changed change step k [] so = refl
  passes_changed change step zero (first ∷ slots) so =
      let one = subst (λ write. test write first ≡ true) (none_if first.is_retired) (both _ _ so).0 in
      let rest = subst (λ write. each_passes test write slots ≡ true) (none_if first.is_retired) (both _ _ so).1 in
      and_of _ _ (subst (λ write. other write (change first) ≡ true) (sym (none_if (change first).is_retired)) (step first one))
      (subst (λ write. each_passes other write slots ≡ true) (sym (none_if (change first).is_retired)) (passes_none slots rest))
  passes_changed change step (suc k) (first ∷ slots) so =
      let one = subst (λ write. test write first ≡ true) (none_if first.is_retired) (both _ _ so).0 in
      let rest = subst (λ write. each_passes test write slots ≡ true) (none_if first.is_retired) (both _ _ so).1 in
      and_of _ _ (subst (λ write. other write first ≡ true) (sym (none_if first.is_retired)) (weaker first one))
      (subst (λ write. each_passes other write (changed_at change k slots) ≡ true) (sym (none_if first.is_retired)) (passes_changed change step k slots rest))

-- any one is changed in a way that the test doesn't see
pub passes_unseen : (test : Option OpenWrite → Slot → Bool) (change : Slot → Slot) → ((slot : Slot) → (change slot).is_retired ≡ slot.is_retired)
    → ((write : Option OpenWrite) (slot : Slot) → test write slot ≡ true → test write (change slot) ≡ true)
    → (k : ℕ) (slots : List Slot) (write : Option OpenWrite) → each_passes test write slots ≡ true → each_passes test write (changed_at change k slots) ≡ true
passes_unseen test change keeps step k [] write so = refl
passes_unseen test change keeps step zero (first ∷ slots) write so =
    subst (λ r. (test (if r then None else write) (change first) && each_passes test (if r then write else None) slots) ≡ true) (sym (keeps first))
    (and_of _ _ (step _ first (both _ _ so).0) (both _ _ so).1)
passes_unseen test change keeps step (suc k) (first ∷ slots) write so =
    and_of _ _ (both _ _ so).0 (passes_unseen test change keeps step k slots _ (both _ _ so).1)
