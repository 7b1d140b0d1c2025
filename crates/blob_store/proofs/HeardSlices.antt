-- A `slice` line was heard, and its blob came.
use Rattle.std.proofs.Common.{◌≡◌, ℕ, true, false, List, [], ◌∷◌, length, refl, sym, ap, subst, ◌∙◌, Option, Some, None, inl, ℤ}
use Rattle.std.specs.Prelude.{fold, is_some}
use Rattle.blob_words.specs.declared.number.RendererId.{RendererId}
use Rattle.blob_words.specs.declared.plan.Plan.{Plan}
use Rattle.blob_words.specs.declared.status.Status.{Status}
use Rattle.session_script.specs.declared.event.Event.{Event}
use Rattle.session_script.specs.declared.event.Event.TheVariants as events
use Rattle.session_script.specs.declared.event.Part.{Part}
use Rattle.answer_text.specs.declared.answer.Answer.{Answer}
use Rattle.answer_text.specs.declared.answer.Answer.TheVariants as answers
use Rattle.answer_text.specs.declared.group.Group.{Group}
use Rattle.answer_text.specs.declared.refusal.Refusal.{Refusal}
use Rattle.data_handles.specs.Table.{Table}
use Rattle.page_disk.specs.declared.change.Change.{Change}
use Rattle.slice_rule.specs.Kind.{kept_type}
use Rattle.blob_model.specs.Builds.{builds, slice_parts}
use Rattle.blob_model.specs.Construct.{build_answer, plan_for}
use Rattle.blob_model.specs.History.{History, heard, history_from, start}
use Rattle.blob_model.specs.Legal.{IsLegalFrom}
use Rattle.blob_model.specs.Own.{IsOwn}
use Rattle.blob_model.specs.Refusals.{refusal}
use Rattle.blob_model.specs.Session.{Session, page_limit}
use Rattle.blob_model.proofs.builds.Plans.{FitsParts}
use Rattle.store_laws.specs.BuildLaws.{Adds, made}
use Rattle.store_laws.specs.BuiltStands.{broken_parts, planned_parts}
use Rattle.store_laws.specs.Claiming.{claimed_by}
use Rattle.store_laws.specs.Deciding.{line_status_in, plan_in, slice_line, slice_refusal_in}
use Rattle.store_laws.specs.DecidingLaws.{AreHeldThere}
use Rattle.store_laws.specs.Stands.{Stands}
use Rattle.store_laws.proofs.SliceLines.{slice_breaks, slice_comes, slice_is, slice_passes}
use Rattle.store_laws.proofs.Building.{builds_add}
use Rattle.store_laws.proofs.Decided.{builds_decided}
use Rattle.store_laws.proofs.LineRead.{broken_read, plan_read, planned_read, status_read}
use Rattle.store_laws.proofs.LineRefusals.{own_accepted}
use Rattle.store_laws.proofs.NewBlobs.{slice_fits}
use Rattle.blob_store.specs.Adding.{Breaks, CanAdd, CanBreak, IsAdded}
use Rattle.blob_store.specs.Admitting.{Admits, ComesBy}
use Rattle.blob_store.specs.Says.{scene, IsHeard}
use Rattle.blob_store.specs.Seen.{parts_of}
use Rattle.blob_store.specs.Whole.{with_line, Whole}
use Rattle.blob_store.specs.declared.parts.Parts.{Parts}
use Rattle.blob_store.proofs.HeardBuilds.{broken_seen, brought, came, grows, heard_one, held_stand, ranges, seen, weighs}

-- why the line is refused is what the history says
pub slice_known : (s : Session) (groups : List Group) (renderer : RendererId) (name source : ℕ) (from to : Option ℤ) (kind : List ℕ) (parts : Parts)
    (told : Option (List Change)) (table : Table) → Whole parts → Stands s (history_from start groups) (parts_of parts) told table → {found : Option Refusal}
    → slice_refusal_in (parts_of parts) table renderer name source (slice_line parts.registry source from to) ≡ found
    → refusal s (history_from start groups) (events.Slice renderer name source from to kind) ≡ found
slice_known s groups renderer name source from to kind parts told table whole stands is =
    sym (builds_decided.slice s (history_from start groups) (parts_of parts) told table (held_stand parts whole) stands renderer name source from to kind)
    ∙ is

module _ (s : Session) (groups : List Group) (legal : IsLegalFrom s start groups) (renderer : RendererId) (name source : ℕ)
    (from to : Option ℤ) (kind : List ℕ) (old now : Parts) (told : Option (List Change)) (table : Table) (whole : Whole old) (next : Whole (with_line now))
    (sized : length old.registry.names ≡ length old.registry.entries) (stands : Stands s (history_from start groups) (parts_of old) told table)
    (accepted : slice_refusal_in (parts_of old) table renderer name source (slice_line old.registry source from to) ≡ None) where
  abbrev before : History
  before = history_from start groups

  abbrev line : List Part
  line = slice_line old.registry source from to

  abbrev event : Event
  event = events.Slice renderer name source from to kind

  held : AreHeldThere (parts_of old)
  held = held_stand old whole

  passes : refusal s before event ≡ None
  passes = slice_passes s groups legal renderer name source from to kind (parts_of old) told table held stands accepted

  line_is : line ≡ slice_parts (builds (page_limit s) before) source from to
  line_is = slice_is s groups legal renderer name source from to kind (parts_of old) told table held stands accepted

  adds : Adds s before (heard before event (build_answer s before renderer.0 name line)) (made s before renderer name kind line)
  adds = builds_add.by_slice s groups renderer name source from to kind legal passes line line_is

  own : IsOwn s before event (build_answer s before renderer.0 name line ∷ [])
  own = own_accepted s before event (build_answer s before renderer.0 name line ∷ []) passes
      (inl (ap (λ (parts : List Part). build_answer s before renderer.0 name parts ∷ []) line_is))

  abbrev plan : Plan
  plan = plan_in (parts_of old) line

  broke : (why : Status) → line_status_in (parts_of old) table renderer.0 name line ≡ Some why → CanBreak renderer name why old
      → Breaks renderer name (kept_type kind) why line old now
      → IsHeard s before event (answers.Broken name why ∷ []) (scene now told (fold (claimed_by true) table line))
  broke why is can breaks =
      let at = status_read s before (parts_of old) told table held stands renderer name line refl (Some why) is in
      heard_one s groups legal renderer name kind line old now told table whole next sized stands event adds own (answers.Broken name why)
      (broken_read s before (parts_of old) told table held stands renderer name line refl why is) refl
      (broken_parts s before (heard before event (build_answer s before renderer.0 name line)) renderer name kind line why now.renderers now.quota.used
      (parts_of old)) (fold (claimed_by true) table line)
      (broken_seen s groups legal renderer name kind line old now told table whole next sized stands event adds why at can breaks)
      (slice_breaks s groups legal renderer name source from to kind (parts_of old) told table held stands accepted now.renderers breaks.counts
      now.quota.used why is)

  comes : line_status_in (parts_of old) table renderer.0 name line ≡ None → CanAdd renderer name plan line old
      → IsAdded renderer name (kept_type kind) plan line old now
      → IsHeard s before event (answers.Planned plan ∷ []) (scene now told (fold (claimed_by false) table line))
  comes is can added =
      let at = status_read s before (parts_of old) told table held stands renderer name line refl None is in
      let planned = plan_read s before (parts_of old) told table held stands renderer name line refl in
      let fits = subst (λ (each : Plan). FitsParts s line each) planned
      (subst (λ (parts : List Part). FitsParts s parts (plan_for s before parts)) (sym line_is) (slice_fits s before source from to)) in
      heard_one s groups legal renderer name kind line old now told table whole next sized stands event adds own (answers.Planned plan)
      (planned_read s before (parts_of old) told table held stands renderer name line refl is) refl
      (planned_parts s before (heard before event (build_answer s before renderer.0 name line)) renderer name kind line plan added.laid.ranges
      added.laid.pieces now.shares now.renderers now.quota.used (parts_of old)) (fold (claimed_by false) table line)
      (seen s groups legal renderer name kind line old now told table whole next sized stands event adds at planned fits can added)
      (slice_comes s groups legal renderer name source from to kind (parts_of old) told table held stands accepted now.renderers
      (grows s groups legal renderer name kind line old now told table whole next sized stands event adds at planned fits can added).counts
      now.quota.used s.limits.some_page plan is refl now.shares
      added.laid.ranges added.laid.pieces
      (came s groups legal renderer name kind line old now told table whole next sized stands event adds at planned fits can added)
      (ranges s groups legal renderer name kind line old now told table whole next sized stands event adds at planned fits can added)
      (brought s groups legal renderer name kind line old now told table whole next sized stands event adds at planned fits can added)
      (weighs s groups legal renderer name kind line old now told table whole next sized stands event adds at planned fits can added))

  pub heard_sliced : (answer : Answer) (later : Table) → Admits renderer name (kept_type kind) line old table answer now later
      → IsHeard s before event (answer ∷ []) (scene now told later)
  heard_sliced answer later admits = by (line_status_in (parts_of old) table renderer.0 name line) refl admits.comes admits.handles
    where
      by : (status : Option Status) → line_status_in (parts_of old) table renderer.0 name line ≡ status
          → ComesBy renderer name (kept_type kind) line old answer now status → later ≡ fold (claimed_by (is_some status)) table line
          → IsHeard s before event (answer ∷ []) (scene now told later)
      by None is (answer_is, can, added) later_is =
          subst (λ (one : Answer). IsHeard s before event (one ∷ []) (scene now told later)) (sym answer_is)
          (subst (λ (claims_now : Table). IsHeard s before event (answers.Planned plan ∷ []) (scene now told claims_now)) (sym later_is)
          (comes is can added))
      by (Some why) is (answer_is, can, breaks) later_is =
          subst (λ (one : Answer). IsHeard s before event (one ∷ []) (scene now told later)) (sym answer_is)
          (subst (λ (claims_now : Table). IsHeard s before event (answers.Broken name why ∷ []) (scene now told claims_now)) (sym later_is)
          (broke why is can breaks))
