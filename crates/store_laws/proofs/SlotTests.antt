-- Tests in a row, and those of slots, one slot after the other.
use Rattle.std.proofs.Common.{◌≡◌, ℕ, suc, ◌==◌, ◌||◌, Bool, true, false, List, [], ◌∷◌, ◌++◌, length, refl, ap, sym, ◌∙◌, Option, Some, None}
use Rattle.std.specs.Prelude.{is_some, nat_le, slice_get}
use Rattle.answer_text.specs.declared.refusal.Refusal.{Refusal}
use Rattle.answer_text.specs.declared.refusal.Refusal.TheVariants as refusals
use Rattle.blob_model.specs.Choice.{first_that}
use Rattle.blob_model.specs.Refusals.{is_in, slot_refusals}
use Rattle.blob_model.specs.Session.{Session}
use Rattle.store_laws.specs.Deciding.{slot_tests}

-- ---- tests in a row

-- what the first list tells, else the second
abbrev pub either : {X : Type 0} → Option X → Option X → Option X
either (Some x) other = Some x
either None other = other

pub first_append : {X : Type 0} (xs ys : List (Bool × X)) → first_that (xs ++ ys) ≡ either (first_that xs) (first_that ys)
first_append [] ys = refl
first_append {X} (case ∷ xs) ys = by (case.0) (first_append xs ys)
  where
    by : (b : Bool) → first_that (xs ++ ys) ≡ either (first_that xs) (first_that ys)
        → first_that ((b, case.1) ∷ (xs ++ ys)) ≡ either (first_that ((b, case.1) ∷ xs)) (first_that ys)
    by true rest = refl
    by false rest = rest

-- the second lists need tell the same only where the first ones tell nothing
pub merged : {X : Type 0} (xs others ys more : List (Bool × X)) → first_that xs ≡ first_that others
    → (first_that others ≡ None → first_that ys ≡ first_that more) → first_that (xs ++ ys) ≡ first_that (others ++ more)
merged {X} xs others ys more same rest =
    first_append xs ys ∙ ap (λ (told : Option X). either told (first_that ys)) same ∙ by (first_that others) rest ∙ sym (first_append others more)
  where
    by : (told : Option X) → (told ≡ None → first_that ys ≡ first_that more) → either told (first_that ys) ≡ either told (first_that more)
    by None f = f refl
    by (Some x) f = refl

-- ---- slots

-- tests of slots tell the same where the slots that are there are taken alike
pub taken_alike : (count : ℕ) (taken other : ℕ → Bool) (slots : List ℕ) → ((k : ℕ) → nat_le count k ≡ false → taken k ≡ other k)
    → first_that (slot_tests count taken slots) ≡ first_that (slot_tests count other slots)
taken_alike count taken other [] same = refl
taken_alike count taken other (slot ∷ slots) same =
    by (nat_le count slot) refl
    (taken_alike count (λ (k : ℕ). (slot == k) || taken k) (λ (k : ℕ). (slot == k) || other k) slots
    (λ k there. ap (λ (b : Bool). (slot == k) || b) (same k there)))
  where
    by : (past : Bool) → nat_le count slot ≡ past
        → first_that (slot_tests count (λ (k : ℕ). (slot == k) || taken k) slots) ≡ first_that (slot_tests count (λ (k : ℕ). (slot == k) || other k) slots)
        → first_that ((past, refusals.NoSuchHandle slot) ∷ (taken slot, refusals.HandleTaken slot) ∷ slot_tests count (λ (k : ℕ). (slot == k) || taken k) slots)
        ≡ first_that ((past, refusals.NoSuchHandle slot) ∷ (other slot, refusals.HandleTaken slot) ∷ slot_tests count (λ (k : ℕ). (slot == k) || other k) slots)
    by true at rest = refl
    by false at rest = held (taken slot) (other slot) (same slot at)
      where
        held : (a b : Bool) → a ≡ b
            → first_that ((a, refusals.HandleTaken slot) ∷ slot_tests count (λ (k : ℕ). (slot == k) || taken k) slots)
            ≡ first_that ((b, refusals.HandleTaken slot) ∷ slot_tests count (λ (k : ℕ). (slot == k) || other k) slots)
        held true true e = refl
        held true false e = absurd (cc e)
        held false true e = absurd (cc e)
        held false false e = rest

-- the tests of the history are such tests
pub slots_listed : (s : Session) (taken slots : List ℕ) → slot_tests (length s.outside.slots) (λ (k : ℕ). is_in k taken) slots ≡ slot_refusals s taken slots
slots_listed s taken [] = refl
slots_listed s taken (slot ∷ slots) =
    ap (λ (rest : List (Bool × Refusal)).
    (nat_le (length s.outside.slots) slot, refusals.NoSuchHandle slot) ∷ (is_in slot taken, refusals.HandleTaken slot) ∷ rest)
    (slots_listed s (slot ∷ taken) slots)

-- lists that have something at the same places are equally long
pub same_places : {X Y : Type 0} (xs : List X) (ys : List Y) → ((k : ℕ) → is_some (slice_get xs k) ≡ is_some (slice_get ys k)) → length xs ≡ length ys
same_places [] [] same = refl
same_places [] (y ∷ ys) same = absurd (cc (same 0))
same_places (x ∷ xs) [] same = absurd (cc (same 0))
same_places (x ∷ xs) (y ∷ ys) same = ap suc (same_places xs ys (λ k. same (suc k)))
