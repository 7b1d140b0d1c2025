-- One slot more may be claimed, or is refused.
use Rattle.std.proofs.Common.{◌≡◌, ℕ, ◌+◌, Bool, true, false, List, ◌∷◌, ◌++◌, Option, get_or, drop, sym, ap, ◌∙◌, arith}
use Rattle.std.specs.Prelude.{nat_le}
use Rattle.std.proofs.lemmas.Bool.{lt-leb}
use Rattle.std.proofs.lemmas.List.{drop_more}
use Rattle.blob_model.specs.Choice.{first_that}
use Rattle.blob_model.specs.Refusals.{is_in}
use Rattle.history_notions.specs.Slots.{slot_tests}
use Rattle.history_notions.proofs.Slots.{slot_passed, slot_taken}
use Rattle.history_notions.proofs.claims.slot_refusal.Goals as goal

pub loop-slot-preserved : goal.loop-slot-preserved
loop-slot-preserved c =
    let count : ℕ = c.args.count in
    let slots : List ℕ = c.args.slots.now in
    let i : ℕ = c.loop-slot.slot-index in
    let slot : ℕ = get_or slots i 0 in
    let taken : List ℕ = c.loop-slot.taken in
    let rest : List ℕ = drop (i + 1) slots in
    let split : drop i slots ≡ slot ∷ rest = drop_more slots i 0 (omega arith) in
    let there : nat_le count slot ≡ false = lt-leb count slot (omega arith) in
    let free : is_in slot taken ≡ false = ap (is_in slot) (sym c.as_slice.ensures) ∙ sym c.has.ensures ∙ c.if-has.false in
    ap (λ (after : List ℕ). first_that (slot_tests count after rest)) c.in_ok-push.ensures.ok
    ∙ sym (slot_passed count slot taken rest there free)
    ∙ sym (ap (λ (list : List ℕ). first_that (slot_tests count taken list)) split)
    ∙ c.loop-slot.invariant

pub returns-then-has : goal.returns-then-has
returns-then-has c =
    let count : ℕ = c.args.count in
    let slots : List ℕ = c.args.slots.now in
    let i : ℕ = c.loop-slot.slot-index in
    let slot : ℕ = get_or slots i 0 in
    let taken : List ℕ = c.loop-slot.taken in
    let rest : List ℕ = drop (i + 1) slots in
    let split : drop i slots ≡ slot ∷ rest = drop_more slots i 0 (omega arith) in
    let there : nat_le count slot ≡ false = lt-leb count slot (omega arith) in
    let held : is_in slot taken ≡ true = ap (is_in slot) (sym c.as_slice.ensures) ∙ sym c.has.ensures ∙ c.if-has.true in
    sym (slot_taken count slot taken rest there held)
    ∙ sym (ap (λ (list : List ℕ). first_that (slot_tests count taken list)) split)
    ∙ c.loop-slot.invariant
