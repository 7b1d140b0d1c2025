-- One slot more passes, or is refused.
use Rattle.std.proofs.Common.{◌≡◌, ℕ, ◌||◌, Bool, true, false, List, get_or, take, sym, subst, ap, ◌∙◌}
use Rattle.data_handles.specs.Boxes.{of_table}
use Rattle.data_handles.specs.Handles.{Handle}
use Rattle.data_handles.specs.Table.{is_claimed_at, SlotFaultAt, Table}
use Rattle.data_handles.specs.contracts.boxed.BoxedDataHandle.TheImpl.{seen-value}
use Rattle.data_handles.specs.declared.fault.SlotFault.{SlotFault}
use Rattle.blob_model.specs.Refusals.{is_in}
use Rattle.blob_store.proofs.Slots.{claimed_within, held_within, second_held, told_later, told_taken}
use Rattle.blob_store.proofs.deciding.slots.slot_refusal.Goals as goal

pub returns-in-Err-Claimed : goal.returns-in-Err-Claimed
returns-in-Err-Claimed g c =
    let table : Table = of_table (seen-value (g.dyn-1.0, g.dyn-1.1)).it c.args.handles.now in
    let slots : List ℕ = c.args.slots.now in
    let slot : ℕ = get_or slots c.loop-i.i 0 in
    let claimed : is_claimed_at table slot ≡ true =
    subst (λ (fault : SlotFault). SlotFaultAt table slot fault) c.in-Err-Claimed.field-0-is c.in-Err-Claimed.ensures in
    sym (told_taken table slots c.loop-i.i c.loop-i-test.true (claimed_within table slot claimed)
    (second_held (is_in slot (take c.loop-i.i slots)) (is_claimed_at table slot) claimed))
    ∙ c.loop-i.invariant

pub returns-then-is_among : goal.returns-then-is_among
returns-then-is_among g c =
    let table : Table = of_table (seen-value (g.dyn-1.0, g.dyn-1.1)).it c.args.handles.now in
    let slots : List ℕ = c.args.slots.now in
    let slot : ℕ = get_or slots c.loop-i.i 0 in
    let among : is_in slot (take c.loop-i.i slots) ≡ true = sym c.is_among.ensures ∙ c.if-is_among.true in
    sym (told_taken table slots c.loop-i.i c.loop-i-test.true
    (held_within table slot (λ (handle : Handle). handle.size ≡ c.in-Ok.field-0) c.in-Ok.ensures.1)
    (ap (λ (b : Bool). b || is_claimed_at table slot) among))
    ∙ c.loop-i.invariant

pub loop-i-preserved : goal.loop-i-preserved
loop-i-preserved g c =
    let table : Table = of_table (seen-value (g.dyn-1.0, g.dyn-1.1)).it c.args.handles.now in
    let slots : List ℕ = c.args.slots.now in
    let slot : ℕ = get_or slots c.loop-i.i 0 in
    let alone : is_in slot (take c.loop-i.i slots) ≡ false = sym c.is_among.ensures ∙ c.if-is_among.false in
    sym (told_later table slots c.loop-i.i c.loop-i-test.true
    (held_within table slot (λ (handle : Handle). handle.size ≡ c.in-Ok.field-0) c.in-Ok.ensures.1)
    (ap (λ (b : Bool). b || is_claimed_at table slot) alone ∙ c.in-Ok.ensures.0))
    ∙ c.loop-i.invariant
