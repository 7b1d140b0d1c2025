-- The slots' refusal, else that of too many blobs, else that of one that has too much.
use Rattle.std.proofs.Common.{◌≡◌, ℕ, ◌<◌, ◌≤◌, false, not, List, length, Option, Some, None, IfOk, sym, ap, subst, ◌∙◌, arith}
use Rattle.std.specs.Prelude.{is_none, is_some}
use Rattle.blob_words.specs.declared.bounds.TheConstants.{MOST_BLOBS}
use Rattle.answer_text.specs.declared.refusal.Refusal.{Refusal}
use Rattle.blob_entries.specs.Names.{number_of}
use Rattle.data_handles.specs.Boxes.{of_table}
use Rattle.data_handles.specs.Table.{is_claimed_at, Table}
use Rattle.data_handles.specs.contracts.boxed.BoxedDataHandle.TheImpl.{seen-value}
use Rattle.renderer_table.specs.Table.{living_of}
use Rattle.blob_model.specs.Choice.{first_that}
use Rattle.blob_model.specs.Parts.{claims}
use Rattle.store_laws.specs.Deciding.{slot_tests, slot_tests_in}
use Rattle.blob_store.specs.Seen.{parts_of}
use Rattle.blob_store.proofs.Refused.{refused_full, refused_much, refused_slot}
use Rattle.blob_store.proofs.parts.Parts.build_refusal.Goals as goal

pub returns-in-Some : goal.returns-in-Some
returns-in-Some g c =
    let table : Table = of_table (seen-value (g.dyn-1.0, g.dyn-1.1)).it c.args.handles.now in
    let alive : is_none (living_of c.args.renderer.0 c.args.self.now.renderers) ≡ false = ap not (sym c.is_alive.ensures ∙ c.if-not-is_alive.false) in
    let fresh : is_some (number_of c.args.name c.args.self.now.registry.names) ≡ false = sym c.was_registered.ensures ∙ c.if-was_registered.false in
    let slots : c.as_slice.result.now ≡ claims c.args.parts.now = c.as_slice.ensures ∙ c.in_ok-slots.ensures in
    let told : first_that (slot_tests_in table (claims c.args.parts.now)) ≡ Some c.in-Some.why =
    sym (ap (λ (list : List ℕ). first_that (slot_tests (length table.slots) (is_claimed_at table) list)) slots)
    ∙ sym c.slot_refusal.ensures ∙ c.in-Some.is in
    sym (refused_slot (parts_of c.args.self.now) table c.args.renderer c.args.name c.args.parts.now alive fresh c.in-Some.why told)

pub returns-then-registered-ge-MOST_BLOBS : goal.returns-then-registered-ge-MOST_BLOBS
returns-then-registered-ge-MOST_BLOBS g c =
    let table : Table = of_table (seen-value (g.dyn-1.0, g.dyn-1.1)).it c.args.handles.now in
    let alive : is_none (living_of c.args.renderer.0 c.args.self.now.renderers) ≡ false = ap not (sym c.is_alive.ensures ∙ c.if-not-is_alive.false) in
    let fresh : is_some (number_of c.args.name c.args.self.now.registry.names) ≡ false = sym c.was_registered.ensures ∙ c.if-was_registered.false in
    let slots : c.as_slice.result.now ≡ claims c.args.parts.now = c.as_slice.ensures ∙ c.in_ok-slots.ensures in
    let silent : first_that (slot_tests_in table (claims c.args.parts.now)) ≡ None =
    sym (ap (λ (list : List ℕ). first_that (slot_tests (length table.slots) (is_claimed_at table) list)) slots)
    ∙ sym c.slot_refusal.ensures ∙ c.in_default.is in
    let full : MOST_BLOBS ≤ length c.args.self.now.registry.names =
    omega (arith, c.registered.ensures.names, c.if-registered-ge-MOST_BLOBS.true) in
    sym (refused_full (parts_of c.args.self.now) table c.args.renderer c.args.name c.args.parts.now alive fresh silent full)

pub returns : goal.returns
returns g c =
    let table : Table = of_table (seen-value (g.dyn-1.0, g.dyn-1.1)).it c.args.handles.now in
    let alive : is_none (living_of c.args.renderer.0 c.args.self.now.renderers) ≡ false = ap not (sym c.is_alive.ensures ∙ c.if-not-is_alive.false) in
    let fresh : is_some (number_of c.args.name c.args.self.now.registry.names) ≡ false = sym c.was_registered.ensures ∙ c.if-was_registered.false in
    let slots : c.as_slice.result.now ≡ claims c.args.parts.now = c.as_slice.ensures ∙ c.in_ok-slots.ensures in
    let silent : first_that (slot_tests_in table (claims c.args.parts.now)) ≡ None =
    sym (ap (λ (list : List ℕ). first_that (slot_tests (length table.slots) (is_claimed_at table) list)) slots)
    ∙ sym c.slot_refusal.ensures ∙ c.in_default.is in
    let few : length c.args.self.now.registry.names < MOST_BLOBS =
    omega (arith, c.registered.ensures.names, c.if-registered-ge-MOST_BLOBS.false) in
    subst (λ (told : Option Refusal). IfOk c.many_refusal.result (λ why. why ≡ told))
    (sym (refused_much (parts_of c.args.self.now) table c.args.renderer c.args.name c.args.parts.now alive fresh silent few)) c.many_refusal.ensures
