-- A line was heard that builds, and its blob came.
use Rattle.std.proofs.Common.{◌≡◌, ℕ, ◌+◌, ◌<◌, true, false, List, [], ◌∷◌, ◌++◌, length, map, sum_by, refl, sym, ap, subst, ◌∙◌, Option, Some, None, IsSome, IsSomeAnd, inl}
use Rattle.std.specs.Prelude.{fold, is_some}
use Rattle.std.specs.List.{AllByRecursion}
use Rattle.blob_words.specs.declared.limits.Limits.{Limits}
use Rattle.blob_words.specs.declared.number.RendererId.{RendererId}
use Rattle.blob_words.specs.declared.plan.Plan.{Plan}
use Rattle.blob_words.specs.declared.plan.Plan.TheVariants as plans
use Rattle.blob_words.specs.declared.status.Status.{Status}
use Rattle.session_script.specs.declared.event.Event.{Event}
use Rattle.session_script.specs.declared.event.Event.TheVariants as events
use Rattle.session_script.specs.declared.event.Part.{Part}
use Rattle.answer_text.specs.declared.answer.Answer.{Answer}
use Rattle.answer_text.specs.declared.answer.Answer.TheVariants as answers
use Rattle.answer_text.specs.declared.group.Group.{Group}
use Rattle.answer_text.specs.declared.refusal.Refusal.{Refusal}
use Rattle.data_handles.specs.Table.{Table}
use Rattle.page_disk.specs.declared.change.Change.{Change}
use Rattle.item_shares.specs.Weights.{weights}
use Rattle.item_shares.specs.declared.item.Item.{Item}
use Rattle.item_shares.specs.declared.shares.Share.{Share}
use Rattle.blob_items.specs.declared.view.View.{View}
use Rattle.blob_entries.specs.Book.{entry_of}
use Rattle.blob_entries.specs.declared.entry.Entry.{Entry}
use Rattle.slice_rule.specs.Kind.{kept_type}
use Rattle.blob_model.specs.Builds.{Build}
use Rattle.blob_model.specs.Construct.{build_answer, line_status, plan_for}
use Rattle.blob_model.specs.History.{History, after, heard, history_from, start}
use Rattle.blob_model.specs.Legal.{IsLegalFrom}
use Rattle.blob_model.specs.Own.{IsOwn}
use Rattle.blob_model.specs.Parts.{claims}
use Rattle.blob_model.specs.Pieces.{pieces}
use Rattle.blob_model.specs.Choice.{first_that}
use Rattle.blob_model.specs.Refusals.{claimed, refusal, slot_refusals}
use Rattle.blob_model.specs.Session.{Session, page_limit}
use Rattle.blob_model.proofs.builds.Plans.{FitsParts}
use Rattle.store_laws.specs.Arrivals.{coming_with, lengths_by, planned_entry}
use Rattle.store_laws.specs.BuildLaws.{Adds, AreAdded, IsEntered, IsNew, grown_parts, made}
use Rattle.store_laws.specs.BuiltStands.{broken_parts, planned_parts}
use Rattle.store_laws.specs.Claiming.{claimed_by}
use Rattle.store_laws.specs.Deciding.{build_refusal_in, line_status_in, line_weight_in, plan_in}
use Rattle.store_laws.specs.DecidingLaws.{AreHeldThere}
use Rattle.store_laws.specs.EntryLaws.{broken_entry, coming_row, settled_row, AreBrought}
use Rattle.store_laws.specs.LineLaws.{counted}
use Rattle.store_laws.specs.NewItems.{own_items, range_items}
use Rattle.store_laws.specs.PartLaws.{AreRanges}
use Rattle.store_laws.specs.Rows.{Coming}
use Rattle.store_laws.specs.Stands.{stood, Between, Parts as PartsSaid, Stands}
use Rattle.store_laws.specs.Uses.{facts_of}
use Rattle.store_laws.proofs.BuildLines.{build_breaks, build_comes, build_passes}
use Rattle.store_laws.proofs.Building.{builds_add, listed_are_there}
use Rattle.store_laws.proofs.LineRead.{broken_read, build_silent, plan_read, planned_read, status_read}
use Rattle.store_laws.proofs.Decided.{builds_decided}
use Rattle.store_laws.proofs.LineRefusals.{own_accepted}
use Rattle.store_laws.proofs.NewBlobs.{build_fits, items_new, planned_now}
use Rattle.store_laws.proofs.NewRows.{broken_now}
use Rattle.blob_store.specs.Adding.{broken_blob, new_blob, Breaks, CanAdd, CanBreak, IsAdded}
use Rattle.blob_store.specs.Admitting.{Admits, ComesBy}
use Rattle.blob_store.specs.Laying.{first_piece, sending_by, slot_of}
use Rattle.blob_store.specs.NewBlobs.{Grows, NewBlob}
use Rattle.blob_store.specs.Says.{scene, IsHeard}
use Rattle.blob_store.specs.Seen.{coming_of, parts_of, row_of}
use Rattle.blob_store.specs.Whole.{with_line, Whole}
use Rattle.blob_store.specs.declared.parts.Parts.{Parts}
use Rattle.blob_store.proofs.AddedWhole.{added_fits, added_grows}
use Rattle.blob_store.proofs.Breaking.{broken_fits, broken_grows}
use Rattle.blob_store.proofs.Rooting.{rooted}
use Rattle.blob_store.proofs.SeenEntered.{seen_entered}
use Rattle.blob_store.proofs.SeenGrown.{grown_added}

-- how the bytes come, as the laws see it
comes_with : (plan : Plan) (slots : List ℕ) → coming_of (sending_by plan slots) ≡ coming_with plan slots
comes_with plans.None slots = refl
comes_with plans.Inline slots = refl
comes_with (plans.Shared n) slots = refl
comes_with (plans.File n) slots = refl
comes_with plans.OutOfMemory slots = refl
comes_with (plans.TooMany what) slots = refl

-- a blob that is held stands
pub held_stand : (parts : Parts) → Whole parts → AreHeldThere (parts_of parts)
held_stand parts whole renderer name some =
    by (entry_of parts.registry name) (rooted parts.registry parts.renderers parts.urls parts.readers renderer name (whole.holders.roots name) some)
  where
    by : (held : Option Entry) → IsSomeAnd held (λ (entry : Entry). 0 < entry.roots) → IsSome held
    by None is = absurd is
    by (Some entry) is = refl

-- why the line is refused is what the history says
pub build_known : (s : Session) (groups : List Group) (renderer : RendererId) (name : ℕ) (kind : List ℕ) (line : List Part) (parts : Parts)
    (told : Option (List Change)) (table : Table) → Whole parts → Stands s (history_from start groups) (parts_of parts) told table → {found : Option Refusal}
    → build_refusal_in (parts_of parts) table renderer name line ≡ found
    → refusal s (history_from start groups) (events.Build renderer name kind line) ≡ found
build_known s groups renderer name kind line parts told table whole stands is =
    sym (builds_decided.build s (history_from start groups) (parts_of parts) told table (held_stand parts whole) stands renderer name kind line) ∙ is

module _ (s : Session) (groups : List Group) (legal : IsLegalFrom s start groups) (renderer : RendererId) (name : ℕ) (kind : List ℕ) (line : List Part)
    (old now : Parts) (told : Option (List Change)) (table : Table) (whole : Whole old) (next : Whole (with_line now))
    (sized : length old.registry.names ≡ length old.registry.entries) (stands : Stands s (history_from start groups) (parts_of old) told table) where
  abbrev h : History
  h = history_from start groups

  abbrev first : ℕ
  first = length (pieces (page_limit s) h)

  page_is : old.limits.page ≡ page_limit s
  page_is = ap (λ (limits : Limits). limits.page) stands.between.same_limits

  first_is : first_piece old ≡ first
  first_is = stands.between.same_pieces

  rows_so : length old.registry.entries ≡ length old.rows
  rows_so = sym sized ∙ sym whole.blobs.each_row

  abbrev plan : Plan
  plan = plan_in (parts_of old) line

  module _ (event : Event) (adds : Adds s h (heard h event (build_answer s h renderer.0 name line)) (made s h renderer name kind line)) where
    abbrev later : History
    later = heard h event (build_answer s h renderer.0 name line)

    abbrev build : Build
    build = made s h renderer name kind line

    -- a blob with a plan
    module _ (at : line_status s h renderer.0 name line ≡ None) (planned : plan_for s h line ≡ plan) (fits : FitsParts s line plan)
        (can : CanAdd renderer name plan line old) (added : IsAdded renderer name (kept_type kind) plan line old now) where
      abbrev blob : NewBlob
      blob = new_blob renderer name (kept_type kind) plan line old added.laid

      pub grows : Grows blob renderer.0 old now
      grows = added_grows renderer name (kept_type kind) plan line old now added can

      same_shares : added.between.shares ≡ now.shares
      same_shares = sym (ap (λ (parts : Parts). parts.shares) added.enters.rest)

      news : AllByRecursion (IsNew (pieces (page_limit s) later) (facts_of s later) first) blob.items
      news =
          subst (λ (page : ℕ). AllByRecursion (IsNew (pieces (page_limit s) later) (facts_of s later) first)
          (range_items line ++ own_items page (first_piece old) plan line)) (sym page_is)
          (subst (λ (number : ℕ). AllByRecursion (IsNew (pieces (page_limit s) later) (facts_of s later) first)
          (range_items line ++ own_items (page_limit s) number plan line)) (sym first_is)
          (items_new s groups legal event renderer name kind line adds s.limits.some_page at plan planned fits (listed_are_there s groups legal)))

      pub ranges : AreRanges now.shares added.laid.ranges line
      ranges = subst (λ (shares : List (Option Share)). AreRanges shares added.laid.ranges line) same_shares added.lays.ranges

      pub brought : AreBrought now.shares first (lengths_by (page_limit s) plan line) added.laid.pieces
      brought =
          subst (λ (shares : List (Option Share)). AreBrought shares first (lengths_by (page_limit s) plan line) added.laid.pieces) same_shares
          (subst (λ (number : ℕ). AreBrought added.between.shares number (lengths_by (page_limit s) plan line) added.laid.pieces) first_is
          (subst (λ (page : ℕ). AreBrought added.between.shares (first_piece old) (lengths_by page plan line) added.laid.pieces) page_is added.lays.pieces))

      coming : coming_with plan (map (λ (view : View). view.slot) added.laid.pieces) ≡ coming_of added.laid.sending
      coming = sym (comes_with plan (map slot_of added.laid.pieces)) ∙ ap coming_of (sym added.lays.sending)

      entered : IsEntered s later build now.shares blob.entry (row_of blob.row)
      entered =
          subst (λ (page : ℕ). IsEntered s later build now.shares
          (planned_entry renderer kind plan line page (first_piece old) added.laid.ranges added.laid.pieces)
          (coming_row (Some plan) (line_weight_in (parts_of old) line) (first_piece old) line (coming_of added.laid.sending))) (sym page_is)
          (subst (λ (number : ℕ). IsEntered s later build now.shares
          (planned_entry renderer kind plan line (page_limit s) number added.laid.ranges added.laid.pieces)
          (coming_row (Some plan) (line_weight_in (parts_of old) line) number line (coming_of added.laid.sending))) (sym first_is)
          (subst (λ (one : Coming). IsEntered s later build now.shares
          (planned_entry renderer kind plan line (page_limit s) first added.laid.ranges added.laid.pieces)
          (coming_row (Some plan) (line_weight_in (parts_of old) line) first line one)) coming
          (planned_now s groups legal event renderer name kind line adds s.limits.some_page at plan planned fits (parts_of old) told table
          (held_stand old whole) stands now.shares added.laid.ranges added.laid.pieces ranges brought)))

      pub weighs : (weight : Item → ℕ)
          → weights weight now.shares ≡ weights weight old.shares + sum_by weight (range_items line ++ own_items (page_limit s) first plan line)
      weighs weight =
          grows.put.weighs weight
          ∙ (λ i. weights weight old.shares + sum_by weight (range_items line ++ own_items (page_is i) (first_is i) plan line))

      pub seen : counted (parts_of now)
          ≡ planned_parts s h later renderer name kind line plan added.laid.ranges added.laid.pieces now.shares now.renderers now.quota.used (parts_of old)
      seen =
          ap counted
          (seen_entered blob renderer.0 old now grows (added_fits renderer name (kept_type kind) plan line old now added whole can).row_fits s
          stands.between.same_limits later build refl entered rows_so next)
          ∙ (λ i. counted (grown_parts s later build
          (planned_entry renderer kind plan line (page_is i) (first_is i) added.laid.ranges added.laid.pieces)
          (coming_row (Some plan) (line_weight_in (parts_of old) line) (first_is i) line (sym coming i)) now.shares now.renderers now.quota.used
          (parts_of old)))

      pub came : AreAdded (pieces (page_limit s) later) (facts_of s later) first old.shares now.shares
      came = grown_added blob renderer.0 old now grows next (pieces (page_limit s) later) (facts_of s later) first news

    -- a blob that breaks at its line
    module _ (why : Status) (at : line_status s h renderer.0 name line ≡ Some why) (can : CanBreak renderer name why old)
        (breaks : Breaks renderer name (kept_type kind) why line old now) where
      broken_entered : IsEntered s later build now.shares (broken_entry renderer kind why) (settled_row None 0 (first_piece old) line)
      broken_entered =
          subst (λ (number : ℕ). IsEntered s later build now.shares (broken_entry renderer kind why) (settled_row None 0 number line)) (sym first_is)
          (broken_now s groups legal event renderer name kind line adds now.shares why at)

      pub broken_seen : counted (parts_of now) ≡ broken_parts s h later renderer name kind line why now.renderers now.quota.used (parts_of old)
      broken_seen =
          let same : now.shares ≡ old.shares = ap (λ (parts : Parts). parts.shares) breaks.rest in
          ap counted
          (seen_entered (broken_blob renderer name (kept_type kind) why line old) renderer.0 old now
          (broken_grows renderer name (kept_type kind) why line old now whole can breaks)
          (broken_fits renderer name (kept_type kind) why line old now whole can breaks).row_fits s stands.between.same_limits later build refl
          broken_entered rows_so next)
          ∙ (λ i. counted (grown_parts s later build (broken_entry renderer kind why) (settled_row None 0 (first_is i) line) (same i) now.renderers
          now.quota.used (parts_of old)))

    -- with the answer that the history calls for, where the parts stand for the history with it
    pub heard_one : IsOwn s h event (build_answer s h renderer.0 name line ∷ []) → (answer : Answer) → build_answer s h renderer.0 name line ≡ answer
        → after h event (answer ∷ []) ≡ heard h event answer → (grown : PartsSaid) (claims_now : Table) → counted (parts_of now) ≡ grown
        → Between s later (stood (page_limit s) h event (build_answer s h renderer.0 name line ∷ [])) grown told claims_now
        → IsHeard s h event (answer ∷ []) (scene now told claims_now)
    heard_one own answer is behind grown claims_now seen between = record {
      is_own = subst (λ (one : Answer). IsOwn s h event (one ∷ [])) is own;
      stands = subst (λ (history : History). Between s history (stood (page_limit s) h event (answer ∷ [])) (counted (parts_of now)) told claims_now)
          (sym behind)
          (subst (λ (parts : PartsSaid). Between s (heard h event answer) (stood (page_limit s) h event (answer ∷ [])) parts told claims_now) (sym seen)
          (subst (λ (one : Answer). Between s (heard h event one) (stood (page_limit s) h event (one ∷ [])) grown told claims_now) is between));
    }

-- ---- the line `build`

module _ (s : Session) (groups : List Group) (legal : IsLegalFrom s start groups) (renderer : RendererId) (name : ℕ) (kind : List ℕ) (line : List Part)
    (old now : Parts) (told : Option (List Change)) (table : Table) (whole : Whole old) (next : Whole (with_line now))
    (sized : length old.registry.names ≡ length old.registry.entries) (stands : Stands s (history_from start groups) (parts_of old) told table)
    (accepted : build_refusal_in (parts_of old) table renderer name line ≡ None) where
  abbrev before : History
  before = history_from start groups

  abbrev event : Event
  event = events.Build renderer name kind line

  held : AreHeldThere (parts_of old)
  held = held_stand old whole

  passes : refusal s before event ≡ None
  passes = build_passes s groups legal renderer name kind line (parts_of old) told table held stands accepted

  silent : first_that (slot_refusals s (claimed s before) (claims line)) ≡ None
  silent = build_silent s before renderer name kind line passes

  adds : Adds s before (heard before event (build_answer s before renderer.0 name line)) (made s before renderer name kind line)
  adds = builds_add.by_build s groups renderer name kind line legal passes

  own : IsOwn s before event (build_answer s before renderer.0 name line ∷ [])
  own = own_accepted s before event (build_answer s before renderer.0 name line ∷ []) passes (inl refl)

  abbrev plan_now : Plan
  plan_now = plan_in (parts_of old) line

  broke : (why : Status) → line_status_in (parts_of old) table renderer.0 name line ≡ Some why → CanBreak renderer name why old
      → Breaks renderer name (kept_type kind) why line old now
      → IsHeard s before event (answers.Broken name why ∷ []) (scene now told (fold (claimed_by true) table line))
  broke why is can breaks =
      let at = status_read s before (parts_of old) told table held stands renderer name line silent (Some why) is in
      heard_one s groups legal renderer name kind line old now told table whole next sized stands event adds own (answers.Broken name why)
      (broken_read s before (parts_of old) told table held stands renderer name line silent why is) refl
      (broken_parts s before (heard before event (build_answer s before renderer.0 name line)) renderer name kind line why now.renderers now.quota.used
      (parts_of old)) (fold (claimed_by true) table line)
      (broken_seen s groups legal renderer name kind line old now told table whole next sized stands event adds why at can breaks)
      (build_breaks s groups legal renderer name kind line (parts_of old) told table held stands accepted now.renderers breaks.counts now.quota.used why is)

  comes : line_status_in (parts_of old) table renderer.0 name line ≡ None → CanAdd renderer name plan_now line old
      → IsAdded renderer name (kept_type kind) plan_now line old now
      → IsHeard s before event (answers.Planned plan_now ∷ []) (scene now told (fold (claimed_by false) table line))
  comes is can added =
      let at = status_read s before (parts_of old) told table held stands renderer name line silent None is in
      let planned = plan_read s before (parts_of old) told table held stands renderer name line silent in
      let fits = subst (λ (each : Plan). FitsParts s line each) planned (build_fits s before renderer name kind line passes at) in
      heard_one s groups legal renderer name kind line old now told table whole next sized stands event adds own (answers.Planned plan_now)
      (planned_read s before (parts_of old) told table held stands renderer name line silent is) refl
      (planned_parts s before (heard before event (build_answer s before renderer.0 name line)) renderer name kind line plan_now added.laid.ranges
      added.laid.pieces now.shares now.renderers now.quota.used (parts_of old)) (fold (claimed_by false) table line)
      (seen s groups legal renderer name kind line old now told table whole next sized stands event adds at planned fits can added)
      (build_comes s groups legal renderer name kind line (parts_of old) told table held stands accepted now.renderers
      (grows s groups legal renderer name kind line old now told table whole next sized stands event adds at planned fits can added).counts
      now.quota.used s.limits.some_page plan_now is refl now.shares
      added.laid.ranges added.laid.pieces
      (came s groups legal renderer name kind line old now told table whole next sized stands event adds at planned fits can added)
      (ranges s groups legal renderer name kind line old now told table whole next sized stands event adds at planned fits can added)
      (brought s groups legal renderer name kind line old now told table whole next sized stands event adds at planned fits can added)
      (weighs s groups legal renderer name kind line old now told table whole next sized stands event adds at planned fits can added))

  pub heard_built : (answer : Answer) (later : Table) → Admits renderer name (kept_type kind) line old table answer now later
      → IsHeard s before event (answer ∷ []) (scene now told later)
  heard_built answer later admits = by (line_status_in (parts_of old) table renderer.0 name line) refl admits.comes admits.handles
    where
      by : (status : Option Status) → line_status_in (parts_of old) table renderer.0 name line ≡ status
          → ComesBy renderer name (kept_type kind) line old answer now status → later ≡ fold (claimed_by (is_some status)) table line
          → IsHeard s before event (answer ∷ []) (scene now told later)
      by None is (answer_is, can, added) later_is =
          subst (λ (one : Answer). IsHeard s before event (one ∷ []) (scene now told later)) (sym answer_is)
          (subst (λ (claims_now : Table). IsHeard s before event (answers.Planned plan_now ∷ []) (scene now told claims_now)) (sym later_is)
          (comes is can added))
      by (Some why) is (answer_is, can, breaks) later_is =
          subst (λ (one : Answer). IsHeard s before event (one ∷ []) (scene now told later)) (sym answer_is)
          (subst (λ (claims_now : Table). IsHeard s before event (answers.Broken name why ∷ []) (scene now told claims_now)) (sym later_is)
          (broke why is can breaks))
