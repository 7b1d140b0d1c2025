-- A blob that can be added is laid down and entered.
use Rattle.std.proofs.Common.{◌≡◌, ℕ, ◌<◌, ◌^◌, true, false, List, length, refl, sym, ap, subst, ◌∙◌, Option, None, arith, inr}
use Rattle.std.specs.Option.{option_map_or, option_and_then}
use Rattle.blob_words.specs.declared.number.RendererId.{RendererId}
use Rattle.blob_words.specs.declared.plan.Plan.{Plan}
use Rattle.blob_words.specs.declared.plan.Plan.TheVariants as plans
use Rattle.session_script.specs.declared.event.Part.{Part}
use Rattle.blob_entries.specs.Book.{Book, entry_at, entry_of}
use Rattle.blob_entries.specs.Names.{number_of}
use Rattle.blob_entries.specs.Statuses.{is_pending}
use Rattle.blob_entries.specs.declared.entry.Entry.{Entry}
use Rattle.blob_registry.specs.Registering.{CanRegister}
use Rattle.quota_queue.specs.Queue.{is_waiting}
use Rattle.renderer_table.specs.Table.{count_of}
use Rattle.store_laws.specs.Deciding.{line_weight_in}
use Rattle.store_laws.specs.EntryLaws.{AreBrought}
use Rattle.blob_store.specs.Adding.{arrival_of, CanAdd}
use Rattle.store_laws.specs.Arrivals.{own_by, status_by}
use Rattle.blob_store.specs.Entering.{arrival_by, AreAtHand}
use Rattle.store_laws.specs.Arrivals.{lengths_by}
use Rattle.store_laws.proofs.Rooted.{within_handles}
use Rattle.blob_store.specs.Laying.{first_piece, Lays}
use Rattle.blob_store.specs.Roots.{roots_at}
use Rattle.blob_store.specs.Seen.{parts_of}
use Rattle.blob_store.specs.Whole.{Whole}
use Rattle.blob_store.specs.declared.building.entering.Arrival.{Arrival}
use Rattle.blob_store.specs.declared.building.laying.Laid.{Laid}
use Rattle.blob_store.specs.declared.parts.Parts.{Parts}
use Rattle.blob_store.proofs.Arrivals.{new_waits_not, own_made, recipe_fits, recipe_long}

-- nobody has a handle on a blob whose name is new
pub few_handles : (renderer name : ℕ) (parts : Parts) → Whole parts → number_of name parts.registry.names ≡ None
    → count_of renderer name parts.renderers < 2 ^ 63
few_handles renderer name parts whole fresh =
    let none : entry_of parts.registry name ≡ None = ap (option_and_then (entry_at parts.registry.entries)) fresh in
    let unheld : roots_at parts.registry name ≡ 0 = ap (λ (held : Option Entry). option_map_or (λ (entry : Entry). entry.roots) held 0) none in
    omega (arith, unheld, whole.holders.roots name, within_handles renderer name parts.renderers)

module _ (renderer : RendererId) (name : ℕ) (plan : Plan) (line : List Part) (old : Parts) (whole : Whole old) (can : CanAdd renderer name plan line old) where
  pub not_waiting : is_waiting name old.quota.waiting ≡ false
  not_waiting =
      ap (λ (list : List (ℕ × ℕ)). is_waiting name list) whole.blobs.waits ∙ new_waits_not name old.registry.names old.rows can.fresh

  module _ (laid : Laid) (between : Parts) (lays : Lays name plan line old laid between) where
    pending : (plan : Plan) → is_pending (status_by plan) ≡ true
    pending plans.None = refl
    pending plans.Inline = refl
    pending (plans.Shared n) = refl
    pending (plans.File n) = refl
    pending plans.OutOfMemory = refl
    pending (plans.TooMany what) = refl

    pub can_register : length old.registry.names ≡ length old.registry.entries
        → CanRegister between.registry (arrival_of plan line old laid).size (arrival_of plan line old laid).recipe (arrival_of plan line old laid).status
    can_register sized =
        let same : old.registry ≡ between.registry = sym (ap (λ (parts : Parts). parts.registry) lays.rest) in
        subst (λ (book : Book). CanRegister book (arrival_of plan line old laid).size (arrival_of plan line old laid).recipe
        (arrival_of plan line old laid).status) same
        (inr (
          pending plan,
          sym (recipe_long between.shares old.limits.page old.limits.some_page (first_piece old) laid.ranges line lays.ranges),
          recipe_fits old.registry sized old.limits.page (first_piece old) laid.ranges line can.there,
        ))

    hand_by : (plan : Plan) → AreBrought between.shares (first_piece old) (lengths_by old.limits.page plan line) laid.pieces
        → AreAtHand (arrival_of plan line old laid) (own_by plan laid.pieces)
    hand_by plans.None brought = (refl, own_made between.shares old.limits.page (first_piece old) laid.ranges line laid.pieces brought)
    hand_by plans.Inline brought = (refl, own_made between.shares old.limits.page (first_piece old) laid.ranges line laid.pieces brought)
    hand_by (plans.Shared n) brought = tt
    hand_by (plans.File n) brought = tt
    hand_by plans.OutOfMemory brought = (refl, own_made between.shares old.limits.page (first_piece old) laid.ranges line laid.pieces brought)
    hand_by (plans.TooMany what) brought = (refl, own_made between.shares old.limits.page (first_piece old) laid.ranges line laid.pieces brought)

    pub at_hand : AreAtHand (arrival_of plan line old laid) (arrival_of plan line old laid).own
    at_hand = hand_by plan lays.pieces

    -- what the functions have is what arrives
    pub arrival_so : (page weight first : ℕ) (arrival : Arrival) → page ≡ between.limits.page → weight ≡ line_weight_in (parts_of old) line
        → first ≡ length old.homes → arrival ≡ arrival_by page plan weight first line laid → arrival ≡ arrival_of plan line old laid
    arrival_so page weight first arrival page_is weight_is first_is is =
        let same : page ≡ old.limits.page = page_is ∙ ap (λ (parts : Parts). parts.limits.page) lays.rest in
        is ∙ (λ i. arrival_by (same i) plan (weight_is i) (first_is i) line laid)

    pub few_still : count_of renderer.0 name between.renderers < 2 ^ 63
    few_still = subst (λ (parts : Parts). count_of renderer.0 name parts.renderers < 2 ^ 63) (sym lays.rest)
        (few_handles renderer.0 name old whole can.fresh)
