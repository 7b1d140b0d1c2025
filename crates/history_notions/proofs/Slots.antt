-- The slots that a build claims, slot by slot.
use Rattle.std.proofs.Common.{◌≡◌, ℕ, ◌+◌, ◌==◌, ◌||◌, Bool, true, false, List, [], ◌∷◌, ◌++◌, length, Option, Some, None, refl, sym, ap, ◌∙◌, arith, append-nil}
use Rattle.std.specs.Prelude.{nat_le, map}
use Rattle.std.specs.List.{list_any}
use Rattle.std.proofs.lemmas.List.{length-map}
use Rattle.answer_text.specs.declared.refusal.Refusal.{Refusal}
use Rattle.answer_text.specs.declared.refusal.Refusal.TheVariants as refusals
use Rattle.blob_model.specs.Session.{Slot, Outside, Session}
use Rattle.blob_model.specs.History.{History}
use Rattle.blob_model.specs.Choice.{first_that}
use Rattle.blob_model.specs.Refusals.{is_in, slot_refusals}
use Rattle.history_notions.specs.declared.contents.Contents.{Contents}
use Rattle.history_notions.specs.Silent.{silent}
use Rattle.history_notions.specs.Follows.{Follows}
use Rattle.history_notions.specs.Slots.{slot_tests}

true_false : true ≡ false → ⊥
true_false e = cc

none_some : {X : Type 0} (x : X) → None ≡ Some x → ⊥
none_some x e = cc

-- a test that fails is passed over, one that applies tells
pub first_no : {X : Type 0} (test : Bool) (x : X) (cases : List (Bool × X)) → test ≡ false → first_that ((test, x) ∷ cases) ≡ first_that cases
first_no true x cases e = absurd (true_false e)
first_no false x cases e = refl

pub first_yes : {X : Type 0} (test : Bool) (x : X) (cases : List (Bool × X)) → test ≡ true → first_that ((test, x) ∷ cases) ≡ Some x
first_yes true x cases e = refl
first_yes false x cases e = absurd (true_false (sym e))

-- of two lists of tests the first tells, else the second
pub front_tells : {X : Type 0} (xs ys : List (Bool × X)) (x : X) → first_that xs ≡ Some x → first_that (xs ++ ys) ≡ Some x
front_tells [] ys x e = absurd (none_some x e)
front_tells {X} (case ∷ xs) ys x e = by (case.0) (front_tells xs ys x) e
  where
    by : (b : Bool) → (first_that xs ≡ Some x → first_that (xs ++ ys) ≡ Some x)
        → (elim b as (λ (each : Bool). Option X) [ true ↦ Some (case.1) | false ↦ first_that xs ]) ≡ Some x
        → (elim b as (λ (each : Bool). Option X) [ true ↦ Some (case.1) | false ↦ first_that (xs ++ ys) ]) ≡ Some x
    by true rest f = f
    by false rest f = rest f

pub front_silent : {X : Type 0} (xs ys : List (Bool × X)) → first_that xs ≡ None → first_that (xs ++ ys) ≡ first_that ys
front_silent [] ys e = refl
front_silent {X} (case ∷ xs) ys e = by (case.0) (front_silent xs ys) e
  where
    by : (b : Bool) → (first_that xs ≡ None → first_that (xs ++ ys) ≡ first_that ys)
        → (elim b as (λ (each : Bool). Option X) [ true ↦ Some (case.1) | false ↦ first_that xs ]) ≡ None
        → (elim b as (λ (each : Bool). Option X) [ true ↦ Some (case.1) | false ↦ first_that (xs ++ ys) ]) ≡ first_that ys
    by true rest f = absurd (none_some (case.1) (sym f))
    by false rest f = rest f

-- two tests that fail are passed over
pub two_passed : {X : Type 0} (one two : Bool × X) (cases : List (Bool × X)) → one.0 ≡ false → two.0 ≡ false → first_that (one ∷ two ∷ cases) ≡ first_that cases
two_passed one two cases e f = first_no (one.0) (one.1) (two ∷ cases) e ∙ first_no (two.0) (two.1) cases f

or_turned : (a b : Bool) → (a || b) ≡ (b || (a || false))
or_turned true true = refl
or_turned true false = refl
or_turned false true = refl
or_turned false false = refl

or_along : (a b c : Bool) → (a || (b || c)) ≡ ((a || b) || c)
or_along true b c = refl
or_along false b c = refl

any_append : (test : ℕ → Bool) (xs ys : List ℕ) → list_any test (xs ++ ys) ≡ (list_any test xs || list_any test ys)
any_append test [] ys = refl
any_append test (x ∷ xs) ys = ap (λ (b : Bool). test x || b) (any_append test xs ys) ∙ or_along (test x) (list_any test xs) (list_any test ys)

in_front_or_behind : (number slot : ℕ) (taken : List ℕ) → is_in number (slot ∷ taken) ≡ is_in number (taken ++ slot ∷ [])
in_front_or_behind number slot taken =
    or_turned (slot == number) (is_in number taken) ∙ sym (any_append (λ (each : ℕ). each == number) taken (slot ∷ []))

tests_alike : (count : ℕ) (taken other : List ℕ) (slots : List ℕ) → ((number : ℕ) → is_in number taken ≡ is_in number other)
    → slot_tests count taken slots ≡ slot_tests count other slots
tests_alike count taken other [] same = refl
tests_alike count taken other (slot ∷ slots) same =
    ap (λ (b : Bool). (nat_le count slot, refusals.NoSuchHandle slot) ∷ (b, refusals.HandleTaken slot) ∷ slot_tests count (slot ∷ taken) slots) (same slot)
    ∙ ap (λ (rest : List (Bool × Refusal)). (nat_le count slot, refusals.NoSuchHandle slot) ∷ (is_in slot other, refusals.HandleTaken slot) ∷ rest)
    (tests_alike count (slot ∷ taken) (slot ∷ other) slots (λ (number : ℕ). ap (λ (b : Bool). (slot == number) || b) (same number)))

-- a slot that may be claimed is taken then
pub slot_passed : (count slot : ℕ) (taken slots : List ℕ) → nat_le count slot ≡ false → is_in slot taken ≡ false
    → first_that (slot_tests count taken (slot ∷ slots)) ≡ first_that (slot_tests count (taken ++ slot ∷ []) slots)
slot_passed count slot taken slots there free =
    first_no (nat_le count slot) (refusals.NoSuchHandle slot) ((is_in slot taken, refusals.HandleTaken slot) ∷ slot_tests count (slot ∷ taken) slots) there
    ∙ first_no (is_in slot taken) (refusals.HandleTaken slot) (slot_tests count (slot ∷ taken) slots) free
    ∙ ap first_that (tests_alike count (slot ∷ taken) (taken ++ slot ∷ []) slots (λ (number : ℕ). in_front_or_behind number slot taken))

pub slot_missing : (count slot : ℕ) (taken slots : List ℕ) → nat_le count slot ≡ true → first_that (slot_tests count taken (slot ∷ slots))
    ≡ Some (refusals.NoSuchHandle slot)
slot_missing count slot taken slots past = first_yes (nat_le count slot) (refusals.NoSuchHandle slot)
    ((is_in slot taken, refusals.HandleTaken slot) ∷ slot_tests count (slot ∷ taken) slots) past

pub slot_taken : (count slot : ℕ) (taken slots : List ℕ) → nat_le count slot ≡ false → is_in slot taken ≡ true
    → first_that (slot_tests count taken (slot ∷ slots)) ≡ Some (refusals.HandleTaken slot)
slot_taken count slot taken slots there held =
    first_no (nat_le count slot) (refusals.NoSuchHandle slot) ((is_in slot taken, refusals.HandleTaken slot) ∷ slot_tests count (slot ∷ taken) slots) there
    ∙ first_yes (is_in slot taken) (refusals.HandleTaken slot) (slot_tests count (slot ∷ taken) slots) held

tests_same : (s : Session) (taken slots : List ℕ) → slot_tests (length s.outside.slots) taken slots ≡ slot_refusals s taken slots
tests_same s taken [] = refl
tests_same s taken (slot ∷ slots) =
    ap (λ (rest : List (Bool × Refusal)). (nat_le (length s.outside.slots) slot, refusals.NoSuchHandle slot) ∷ (is_in slot taken, refusals.HandleTaken slot)
    ∷ rest)
    (tests_same s (slot ∷ taken) slots)

pub slots_follow : (s : Session) (h : History) (contents : Contents) → Follows s h contents → (taken slots : List ℕ)
    → slot_tests (length contents.sizes) taken slots ≡ slot_refusals s taken slots
slots_follow s h contents follows taken slots =
    let count : length contents.sizes ≡ length s.outside.slots = sym (length-map contents.sizes silent) ∙ ap (λ (outside : Outside). length outside.slots)
    follows.outside_is in
    ap (λ (n : ℕ). slot_tests n taken slots) count ∙ tests_same s taken slots
