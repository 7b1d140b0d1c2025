-- A new blob by the plan that its line answers: its items, its entry and its row.
use Rattle.std.proofs.Common.{◌≡◌, ℕ, zero, suc, ◌+◌, ◌<◌, ◌&&◌, Bool, true, false, List, [], ◌∷◌, ◌++◌, map, length, replicate, refl, ap, subst, sym, ◌∙◌, Option, Some, None, arith, ℤ}
use Rattle.std.specs.Prelude.{is_none}
use Rattle.std.specs.List.{AllByRecursion, range_with_len}
use Rattle.std.proofs.lemmas.Bool.{ltb-false}
use Rattle.std.proofs.lemmas.List.{length-map}
use Rattle.blob_words.specs.declared.number.RendererId.{RendererId}
use Rattle.blob_words.specs.declared.plan.Plan.{Plan}
use Rattle.blob_words.specs.declared.plan.Plan.TheVariants as plans
use Rattle.blob_words.specs.declared.status.Status.{Status}
use Rattle.session_script.specs.declared.event.Event.{Event}
use Rattle.session_script.specs.declared.event.Event.TheVariants as events
use Rattle.session_script.specs.declared.event.Part.{Part}
use Rattle.answer_text.specs.declared.group.Group.{Group}
use Rattle.answer_text.specs.declared.refusal.Refusal.{Refusal}
use Rattle.data_handles.specs.Table.{Table as HandleTable}
use Rattle.page_disk.specs.declared.change.Change.{Change}
use Rattle.item_shares.specs.declared.item.Item.{Item}
use Rattle.item_shares.specs.declared.shares.Share.{Share}
use Rattle.blob_items.specs.declared.view.View.{View}
use Rattle.transport_plan.specs.Spans.{piece_count, piece_spans}
use Rattle.blob_model.specs.Builds.{Build, builds, slice_parts}
use Rattle.blob_model.specs.Construct.{build_answer, line_status, line_tests, plan_for}
use Rattle.blob_model.specs.History.{History, heard, history_from, start}
use Rattle.blob_model.specs.Legal.{IsLegalFrom}
use Rattle.blob_model.specs.Parts.{claims, own_lengths}
use Rattle.blob_model.specs.Pieces.{pieces}
use Rattle.blob_model.specs.Refusals.{claimed, piece_total, refusal, slot_refusals}
use Rattle.blob_model.specs.Session.{Session, page_limit}
use Rattle.blob_model.proofs.Lists.{all_append, append_second, false_true}
use Rattle.blob_model.proofs.builds.Cells.{none_applies}
use Rattle.blob_model.proofs.builds.Plans.{FitsParts, plan_fits}
use Rattle.blob_model.proofs.kept.NewBlobs.{tests_fail}
use Rattle.store_laws.specs.Arrivals.{coming_with, lengths_by, planned_entry}
use Rattle.store_laws.specs.BuildLaws.{Adds, AreListed, IsEntered, IsNew, made}
use Rattle.store_laws.specs.Deciding.{line_weight_in}
use Rattle.store_laws.specs.DecidingLaws.{AreHeldThere}
use Rattle.store_laws.specs.EntryLaws.{AreBrought, all_lengths, coming_row}
use Rattle.store_laws.specs.NewItems.{own_items, range_items}
use Rattle.store_laws.specs.PartLaws.{AreRanges}
use Rattle.store_laws.specs.Rows.{writing}
use Rattle.store_laws.specs.Stands.{Parts, Stands}
use Rattle.store_laws.specs.Uses.{facts_of}
use Rattle.store_laws.proofs.Entering.{lengths_all}
use Rattle.store_laws.proofs.NewPieces.{inline_new, none_new, ranges_new, reserved_new, slots_hold}
use Rattle.store_laws.proofs.NewRows.{made_planned, ready_now, waits_now, writes_now}

-- ---- the plan is one that the parts have

none_known : (b c : Bool) → b ≡ true → (b && c) ≡ false → c ≡ false
none_known true c e f = f
none_known false c e f = absurd (false_true e)

pub build_fits : (s : Session) (h : History) (renderer : RendererId) (name : ℕ) (kind : List ℕ) (line : List Part)
    → refusal s h (events.Build renderer name kind line) ≡ None → line_status s h renderer.0 name line ≡ None → FitsParts s line (plan_for s h line)
build_fits s h renderer name kind line passes at =
    let stands : is_none (line_status s h renderer.0 name line) ≡ true = ap (λ (o : Option Status). is_none o) at in
    let tests = append_second (λ (case : Bool × Refusal). case.0 ≡ false) (slot_refusals s (claimed s h) (claims line)) _
    (tests_fail s h (events.Build renderer name kind line) passes).1.1 in
    let total = ltb-false 65536 (piece_total s h + piece_count (page_limit s) (own_lengths line))
    (none_known (is_none (line_status s h renderer.0 name line)) _ stands tests.1.1.0) in
    plan_fits s h line (none_applies (line_tests s h renderer.0 name line) at).1.1.1.0
    (none_known (is_none (line_status s h renderer.0 name line)) _ stands tests.1.0) (omega (arith, total))

-- a slice has no own bytes
pub slice_fits : (s : Session) (h : History) (source : ℕ) (from to : Option ℤ)
    → FitsParts s (slice_parts (builds (page_limit s) h) source from to) (plan_for s h (slice_parts (builds (page_limit s) h) source from to))
slice_fits s h source from to = refl

-- ---- segments that didn't come

none_of : (from count : ℕ) → map (λ (segment : ℕ). false) (range_with_len from count) ≡ replicate count false
none_of from zero = refl
none_of from (suc count) = ap (λ (list : List Bool). false ∷ list) (none_of (from + 1) count)

brought_many : (now : List (Option Share)) (number : ℕ) (lengths : List ℕ) (own : List View) → AreBrought now number lengths own
    → length lengths ≡ length own
brought_many now number [] [] brought = refl
brought_many now number [] (view ∷ own) brought = absurd brought
brought_many now number (len ∷ lengths) [] brought = absurd brought
brought_many now number (len ∷ lengths) (view ∷ own) brought = ap suc (brought_many now (number + 1) lengths own brought.2)

-- ---- a line

module _ (s : Session) (groups : List Group) (legal : IsLegalFrom s start groups) (event : Event) (renderer : RendererId) (name : ℕ) (kind : List ℕ)
    (line : List Part) where
  abbrev h : History
  h = history_from start groups

  abbrev later : History
  later = heard h event (build_answer s h renderer.0 name line)

  abbrev new : Build
  new = made s h renderer name kind line

  abbrev first : ℕ
  first = length (pieces (page_limit s) h)

  module _ (adds : Adds s h later new) (sized : 0 < page_limit s) (at : line_status s h renderer.0 name line ≡ None) (plan : Plan)
      (planned : plan_for s h line ≡ plan) (fits : FitsParts s line plan) where
    has_plan : new.plan ≡ Some plan
    has_plan = ap (λ (build : Build). build.plan) (made_planned s groups legal event renderer name kind line adds plan at planned)

    abbrev AllNew : List Item → Type 0
    AllNew items = AllByRecursion (IsNew (pieces (page_limit s) later) (facts_of s later) first) items

    own_new : AreListed (page_limit s) h → AllNew (own_items (page_limit s) first plan line)
    own_new listed = by plan has_plan fits
      where
        by : (each : Plan) → new.plan ≡ Some each → FitsParts s line each → AllNew (own_items (page_limit s) first each line)
        by plans.None is told = none_new s h later new adds sized told
        by plans.Inline is told = inline_new s h later new adds listed sized is told
        by (plans.Shared n) is told = tt
        by (plans.File n) is told = reserved_new s h later new adds listed n is
        by plans.OutOfMemory is told = absurd told
        by (plans.TooMany what) is told = absurd told

    -- the items of its ranges and of its own pieces
    pub items_new : AreListed (page_limit s) h → AllNew (range_items line ++ own_items (page_limit s) first plan line)
    items_new listed =
        all_append (IsNew (pieces (page_limit s) later) (facts_of s later) first) (range_items line) (own_items (page_limit s) first plan line)
        (ranges_new s h later new adds line) (own_new listed)

    -- its entry and its row
    pub planned_now : (parts : Parts) (told : Option (List Change)) (table : HandleTable) → AreHeldThere parts → Stands s h parts told table
        → (now : List (Option Share)) (views own : List View) → AreRanges now views line → AreBrought now first (lengths_by (page_limit s) plan line) own
        → IsEntered s later new now (planned_entry renderer kind plan line (page_limit s) first views own)
        (coming_row (Some plan) (line_weight_in parts line) first line (coming_with plan (map (λ (view : View). view.slot) own)))
    planned_now parts told table there stands now views own ranges brought = by plan planned has_plan fits brought
      where
        by : (each : Plan) → plan_for s h line ≡ each → new.plan ≡ Some each → FitsParts s line each
            → AreBrought now first (lengths_by (page_limit s) each line) own
            → IsEntered s later new now (planned_entry renderer kind each line (page_limit s) first views own)
            (coming_row (Some each) (line_weight_in parts line) first line (coming_with each (map (λ (view : View). view.slot) own)))
        by plans.None same is told_so came =
            ready_now s groups legal event renderer name kind line adds parts told table there stands sized at now views ranges plans.None same tt own came
        by plans.Inline same is told_so came =
            ready_now s groups legal event renderer name kind line adds parts told table there stands sized at now views ranges plans.Inline same tt own came
        by (plans.Shared n) same is told_so came =
            waits_now s groups legal event renderer name kind line adds parts told table there stands sized at now views ranges n same
        by (plans.File n) same is told_so came =
            let many : length (piece_spans (page_limit s) 0 (own_lengths line)) ≡ length (map (λ (view : View). view.slot) own) =
            sym (length-map (piece_spans (page_limit s) 0 (own_lengths line)) (λ (span : ℕ × ℕ). span.1))
            ∙ ap (λ (list : List ℕ). length list) (lengths_all (page_limit s) 0 (own_lengths line))
            ∙ brought_many now first (all_lengths (page_limit s) line) own came
            ∙ sym (length-map own (λ (view : View). view.slot)) in
            subst (λ (came_so : List Bool). IsEntered s later new now (planned_entry renderer kind (plans.File n) line (page_limit s) first views own)
            (coming_row (Some (plans.File n)) (line_weight_in parts line) first line (writing (map (λ (view : View). view.slot) own) came_so)))
            (none_of 0 (length (piece_spans (page_limit s) 0 (own_lengths line))) ∙ ap (λ (count : ℕ). replicate count false) many)
            (writes_now s groups legal event renderer name kind line adds parts told table there stands sized at now views ranges n
            (map (λ (view : View). view.slot) own) same (slots_hold s h later new adds now (plans.File n) is own came))
        by plans.OutOfMemory same is told_so came = absurd told_so
        by (plans.TooMany what) same is told_so came = absurd told_so
