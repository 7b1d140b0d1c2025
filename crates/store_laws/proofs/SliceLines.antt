-- The parts stand for the history with an accepted `slice` line, whose one part the parts tell.
use Rattle.std.proofs.Common.{◌≡◌, ℕ, ◌+◌, ◌<◌, true, false, List, [], ◌∷◌, ◌++◌, length, refl, ap, subst, sym, ◌∙◌, Option, Some, None, ℤ}
use Rattle.std.specs.Prelude.{fold, is_some, sum_by}
use Rattle.std.specs.Option.{option_map_or}
use Rattle.std.specs.List.{AllByRecursion}
use Rattle.std.proofs.lemmas.Bool.{ltb-true}
use Rattle.blob_words.specs.declared.number.RendererId.{RendererId}
use Rattle.blob_words.specs.declared.plan.Plan.{Plan}
use Rattle.blob_words.specs.declared.status.Status.{Status}
use Rattle.session_script.specs.declared.event.Event.{Event}
use Rattle.session_script.specs.declared.event.Event.TheVariants as events
use Rattle.session_script.specs.declared.event.Part.{Part}
use Rattle.session_script.specs.declared.event.Part.TheVariants.{BlobRange}
use Rattle.answer_text.specs.declared.group.Group.{Group}
use Rattle.blob_entries.specs.Book.{entry_of}
use Rattle.blob_entries.specs.declared.entry.Entry.{Entry}
use Rattle.blob_items.specs.declared.view.View.{View}
use Rattle.data_handles.specs.Table.{Table as HandleTable}
use Rattle.item_shares.specs.declared.item.Item.{Item}
use Rattle.item_shares.specs.declared.shares.Share.{Share}
use Rattle.item_shares.specs.Weights.{weights}
use Rattle.page_disk.specs.declared.change.Change.{Change}
use Rattle.renderer_table.specs.Counted.{ChangesCount}
use Rattle.renderer_table.specs.Table.{count_of, Table}
use Rattle.slice_rule.specs.Range.{slice_of}
use Rattle.blob_model.specs.Builds.{Build, builds, size_in, slice_parts}
use Rattle.blob_model.specs.Construct.{build_answer, plan_for}
use Rattle.blob_model.specs.Handles.{has_handle}
use Rattle.blob_model.specs.History.{History, heard, history_from, start}
use Rattle.blob_model.specs.Legal.{IsLegalFrom}
use Rattle.blob_model.specs.Live.{is_live}
use Rattle.blob_model.specs.Pieces.{pieces}
use Rattle.blob_model.specs.Refusals.{refusal}
use Rattle.blob_model.specs.Session.{Session, page_limit}
use Rattle.blob_model.proofs.Lists.{not_false}
use Rattle.blob_model.proofs.builds.Plans.{FitsParts}
use Rattle.blob_model.proofs.kept.NewBlobs.{tests_fail}
use Rattle.store_laws.specs.Arrivals.{lengths_by}
use Rattle.store_laws.specs.BuildLaws.{made, Adds, AreAdded, IsNew}
use Rattle.store_laws.specs.BuiltStands.{broken_parts, planned_parts}
use Rattle.store_laws.specs.Claiming.{claimed_by}
use Rattle.store_laws.specs.Deciding.{line_status_in, plan_in, slice_line, slice_refusal_in}
use Rattle.store_laws.specs.DecidingLaws.{AreHeldThere}
use Rattle.store_laws.specs.EntryLaws.{AreBrought}
use Rattle.store_laws.specs.NewItems.{own_items, range_items}
use Rattle.store_laws.specs.PartLaws.{AreRanges}
use Rattle.store_laws.specs.Stands.{stood, Between, Parts, Stands}
use Rattle.store_laws.specs.Tables.{TablesStand}
use Rattle.store_laws.specs.Uses.{facts_of}
use Rattle.store_laws.proofs.Building.{builds_add, listed_are_there}
use Rattle.store_laws.proofs.BuiltStands.{stood_by_slice}
use Rattle.store_laws.proofs.BuiltTables.{fresh_by_slice, none_held, tables_by_slice}
use Rattle.store_laws.proofs.Decided.{builds_decided}
use Rattle.store_laws.proofs.Deciding.{holds_known}
use Rattle.store_laws.proofs.LineRead.{plan_read, status_read}
use Rattle.store_laws.proofs.LineStands.{broken_grows, planned_grows}
use Rattle.store_laws.proofs.NewBlobs.{items_new, slice_fits}
use Rattle.store_laws.proofs.Telling.{size_told}

module _ (s : Session) (groups : List Group) (legal : IsLegalFrom s start groups) (renderer : RendererId) (name source : ℕ) (from to : Option ℤ)
    (kind : List ℕ) (parts : Parts) (told : Option (List Change)) (table : HandleTable) (there : AreHeldThere parts)
    (stands : Stands s (history_from start groups) parts told table)
    (accepted : slice_refusal_in parts table renderer name source (slice_line parts.book source from to) ≡ None) where
  abbrev h : History
  h = history_from start groups

  abbrev line : List Part
  line = slice_line parts.book source from to

  abbrev event : Event
  event = events.Slice renderer name source from to kind

  abbrev later : History
  later = heard h event (build_answer s h renderer.0 name line)

  abbrev new : Build
  new = made s h renderer name kind line

  abbrev first : ℕ
  first = length (pieces (page_limit s) h)

  pub slice_passes : refusal s h (events.Slice renderer name source from to kind) ≡ None
  slice_passes = sym (builds_decided.slice s h parts told table there stands renderer name source from to kind) ∙ accepted

  -- the part that the parts tell is the history's
  pub slice_is : line ≡ slice_parts (builds (page_limit s) h) source from to
  slice_is = ap (λ (n : ℕ). BlobRange source (slice_of n from to).0 (slice_of n from to).1 ∷ []) (by (entry_of parts.book source) refl)
    where
      has : has_handle h renderer.0 source ≡ true
      has = not_false (has_handle h renderer.0 source) (tests_fail s h (events.Slice renderer name source from to kind) slice_passes).1.1.0

      by : (found : Option Entry) → entry_of parts.book source ≡ found
          → option_map_or (λ (entry : Entry). entry.size) (entry_of parts.book source) 0 ≡ size_in (builds (page_limit s) h) source
      by (Some entry) at =
          ap (λ (found : Option Entry). option_map_or (λ (entry : Entry). entry.size) found 0) at
          ∙ size_told s h (is_live (page_limit s) h) parts told table stands.between source entry at
      by None at =
          let stands_there = there renderer.0 source
          (ltb-true 0 (count_of renderer.0 source parts.renderers)
          (holds_known s h (is_live (page_limit s) h) parts told table stands.between renderer.0 source ∙ has)) in
          absurd (cc (sym (ap (λ (found : Option Entry). is_some found) at) ∙ stands_there))

  slice_adds : Adds s h later new
  slice_adds = builds_add.by_slice s groups renderer name source from to kind legal slice_passes line slice_is

  slice_fitting : (plan : Plan) → plan_in parts line ≡ plan → FitsParts s line plan
  slice_fitting plan planned =
      subst (λ (each : Plan). FitsParts s line each) (plan_read s h parts told table there stands renderer name line refl ∙ planned)
      (subst (λ (each : List Part). FitsParts s each (plan_for s h each)) (sym slice_is) (slice_fits s h source from to))

  -- the items that are to come are new ones of the history with the line
  pub slice_items : 0 < page_limit s → (plan : Plan) → line_status_in parts table renderer.0 name line ≡ None → plan_in parts line ≡ plan
      → AllByRecursion (IsNew (pieces (page_limit s) later) (facts_of s later) first) (range_items line ++ own_items (page_limit s) first plan line)
  slice_items sized plan fine planned =
      items_new s groups legal event renderer name kind line slice_adds sized
      (status_read s h parts told table there stands renderer name line refl None fine) plan
      (plan_read s h parts told table there stands renderer name line refl ∙ planned) (slice_fitting plan planned)
      (listed_are_there s groups legal)

  module _ (renderers : Table) (handed : ChangesCount (λ (count : ℕ). count + 1) renderer.0 name parts.renderers renderers) (used : ℕ) where
    slice_tables : TablesStand s later renderers parts.urls parts.files parts.readers
    slice_tables =
        tables_by_slice s h renderer name
        (none_held s groups renderer.0 name legal (fresh_by_slice s h renderer name source from to kind slice_passes)) parts.renderers
        renderers parts.urls parts.files parts.readers stands.between.tables handed source from to kind (build_answer s h renderer.0 name line)

    pub slice_breaks : (why : Status) → line_status_in parts table renderer.0 name line ≡ Some why
        → Between s later (stood (page_limit s) h event (build_answer s h renderer.0 name line ∷ []))
        (broken_parts s h later renderer name kind line why renderers used parts) told
        (fold (claimed_by true) table line)
    slice_breaks why broke =
        stood_by_slice s h later renderer name source from to kind line
        (broken_parts s h later renderer name kind line why renderers used parts) told
        (fold (claimed_by true) table line)
        (broken_grows s groups legal event renderer name kind line parts told table there stands refl
        slice_adds renderers slice_tables handed used why broke (tt, tt))

    pub slice_comes : 0 < page_limit s → (plan : Plan) → line_status_in parts table renderer.0 name line ≡ None → plan_in parts line ≡ plan
        → (now : List (Option Share)) (views own : List View) → AreAdded (pieces (page_limit s) later) (facts_of s later) first parts.shares now
        → AreRanges now views line → AreBrought now first (lengths_by (page_limit s) plan line) own
        → ((weight : Item → ℕ) → weights weight now ≡ weights weight parts.shares + sum_by weight (range_items line
        ++ own_items (page_limit s) first plan line))
        → Between s later (stood (page_limit s) h event (build_answer s h renderer.0 name line ∷ []))
        (planned_parts s h later renderer name kind line plan views own now renderers used parts) told
        (fold (claimed_by false) table line)
    slice_comes sized plan fine planned now views own added ranges brought weighs =
        stood_by_slice s h later renderer name source from to kind line
        (planned_parts s h later renderer name kind line plan views own now renderers used parts) told
        (fold (claimed_by false) table line)
        (planned_grows s groups legal event renderer name kind line parts told table there stands refl
        slice_adds renderers slice_tables handed used sized plan fine planned (slice_fitting plan planned) (tt, tt) now views own added ranges brought weighs)
