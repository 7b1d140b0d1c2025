-- The parts stand for the history with an accepted `build` line.
use Rattle.std.proofs.Common.{◌≡◌, ℕ, ◌+◌, ◌<◌, true, false, List, [], ◌∷◌, ◌++◌, length, subst, sym, ◌∙◌, Option, Some, None}
use Rattle.std.specs.Prelude.{fold, sum_by}
use Rattle.std.specs.List.{AllByRecursion}
use Rattle.blob_words.specs.declared.number.RendererId.{RendererId}
use Rattle.blob_words.specs.declared.plan.Plan.{Plan}
use Rattle.blob_words.specs.declared.status.Status.{Status}
use Rattle.session_script.specs.declared.event.Event.{Event}
use Rattle.session_script.specs.declared.event.Event.TheVariants as events
use Rattle.session_script.specs.declared.event.Part.{Part}
use Rattle.answer_text.specs.declared.group.Group.{Group}
use Rattle.blob_items.specs.declared.view.View.{View}
use Rattle.data_handles.specs.Table.{Table as HandleTable}
use Rattle.item_shares.specs.declared.item.Item.{Item}
use Rattle.item_shares.specs.declared.shares.Share.{Share}
use Rattle.item_shares.specs.Weights.{weights}
use Rattle.page_disk.specs.declared.change.Change.{Change}
use Rattle.renderer_table.specs.Counted.{ChangesCount}
use Rattle.renderer_table.specs.Table.{Table}
use Rattle.blob_model.specs.Builds.{Build}
use Rattle.blob_model.specs.Construct.{build_answer}
use Rattle.blob_model.specs.History.{History, heard, history_from, start}
use Rattle.blob_model.specs.Legal.{IsLegalFrom}
use Rattle.blob_model.specs.Pieces.{pieces}
use Rattle.blob_model.specs.Refusals.{refusal}
use Rattle.blob_model.specs.Session.{Session, page_limit}
use Rattle.blob_model.proofs.builds.Plans.{FitsParts}
use Rattle.store_laws.specs.Arrivals.{lengths_by}
use Rattle.store_laws.specs.BuildLaws.{made, Adds, AreAdded, IsNew}
use Rattle.store_laws.specs.BuiltStands.{broken_parts, planned_parts}
use Rattle.store_laws.specs.Claiming.{claimed_by}
use Rattle.store_laws.specs.Deciding.{build_refusal_in, line_status_in, plan_in}
use Rattle.store_laws.specs.DecidingLaws.{AreHeldThere}
use Rattle.store_laws.specs.EntryLaws.{AreBrought}
use Rattle.store_laws.specs.NewItems.{own_items, range_items}
use Rattle.store_laws.specs.PartLaws.{AreRanges}
use Rattle.store_laws.specs.Stands.{stood, Between, Parts, Stands}
use Rattle.store_laws.specs.Tables.{TablesStand}
use Rattle.store_laws.specs.Uses.{facts_of}
use Rattle.store_laws.proofs.Building.{builds_add, listed_are_there}
use Rattle.store_laws.proofs.BuiltStands.{stood_by_build}
use Rattle.store_laws.proofs.BuiltTables.{fresh_by_build, none_held, tables_by_build}
use Rattle.store_laws.proofs.Claiming.{free_accepted}
use Rattle.store_laws.proofs.Decided.{builds_decided}
use Rattle.store_laws.proofs.LineRead.{build_silent, plan_read, status_read}
use Rattle.store_laws.proofs.LineStands.{broken_grows, planned_grows}
use Rattle.store_laws.proofs.NewBlobs.{build_fits, items_new}

module _ (s : Session) (groups : List Group) (legal : IsLegalFrom s start groups) (renderer : RendererId) (name : ℕ) (kind : List ℕ) (line : List Part)
    (parts : Parts) (told : Option (List Change)) (table : HandleTable) (there : AreHeldThere parts)
    (stands : Stands s (history_from start groups) parts told table) (accepted : build_refusal_in parts table renderer name line ≡ None) where
  abbrev h : History
  h = history_from start groups

  abbrev event : Event
  event = events.Build renderer name kind line

  abbrev later : History
  later = heard h event (build_answer s h renderer.0 name line)

  abbrev new : Build
  new = made s h renderer name kind line

  abbrev first : ℕ
  first = length (pieces (page_limit s) h)

  pub build_passes : refusal s h (events.Build renderer name kind line) ≡ None
  build_passes = sym (builds_decided.build s h parts told table there stands renderer name kind line) ∙ accepted

  build_adds : Adds s h later new
  build_adds = builds_add.by_build s groups renderer name kind line legal build_passes

  build_fitting : (plan : Plan) → line_status_in parts table renderer.0 name line ≡ None → plan_in parts line ≡ plan → FitsParts s line plan
  build_fitting plan fine planned =
      let silent = build_silent s h renderer name kind line build_passes in
      subst (λ (each : Plan). FitsParts s line each) (plan_read s h parts told table there stands renderer name line silent ∙ planned)
      (build_fits s h renderer name kind line build_passes
      (status_read s h parts told table there stands renderer name line silent None fine))

  -- the items that are to come are new ones of the history with the line
  pub build_items : 0 < page_limit s → (plan : Plan) → line_status_in parts table renderer.0 name line ≡ None → plan_in parts line ≡ plan
      → AllByRecursion (IsNew (pieces (page_limit s) later) (facts_of s later) first) (range_items line ++ own_items (page_limit s) first plan line)
  build_items sized plan fine planned =
      let silent = build_silent s h renderer name kind line build_passes in
      items_new s groups legal event renderer name kind line build_adds sized
      (status_read s h parts told table there stands renderer name line silent None fine) plan
      (plan_read s h parts told table there stands renderer name line silent ∙ planned) (build_fitting plan fine planned)
      (listed_are_there s groups legal)

  module _ (renderers : Table) (handed : ChangesCount (λ (count : ℕ). count + 1) renderer.0 name parts.renderers renderers) (used : ℕ) where
    build_tables : TablesStand s later renderers parts.urls parts.files parts.readers
    build_tables =
        tables_by_build s h renderer name (none_held s groups renderer.0 name legal (fresh_by_build s h renderer name kind line build_passes)) parts.renderers
        renderers parts.urls parts.files parts.readers stands.between.tables handed kind line (build_answer s h renderer.0 name line)

    pub build_breaks : (why : Status) → line_status_in parts table renderer.0 name line ≡ Some why
        → Between s later (stood (page_limit s) h event (build_answer s h renderer.0 name line ∷ []))
        (broken_parts s h later renderer name kind line why renderers used parts) told
        (fold (claimed_by true) table line)
    build_breaks why broke =
        stood_by_build s h later renderer name kind line
        (broken_parts s h later renderer name kind line why renderers used parts) told
        (fold (claimed_by true) table line)
        (broken_grows s groups legal event renderer name kind line parts told table there stands (build_silent s h renderer name kind line build_passes)
        build_adds renderers build_tables handed used why broke (free_accepted true parts table renderer name line accepted))

    pub build_comes : 0 < page_limit s → (plan : Plan) → line_status_in parts table renderer.0 name line ≡ None → plan_in parts line ≡ plan
        → (now : List (Option Share)) (views own : List View) → AreAdded (pieces (page_limit s) later) (facts_of s later) first parts.shares now
        → AreRanges now views line → AreBrought now first (lengths_by (page_limit s) plan line) own
        → ((weight : Item → ℕ) → weights weight now ≡ weights weight parts.shares + sum_by weight (range_items line
        ++ own_items (page_limit s) first plan line))
        → Between s later (stood (page_limit s) h event (build_answer s h renderer.0 name line ∷ []))
        (planned_parts s h later renderer name kind line plan views own now renderers used parts) told
        (fold (claimed_by false) table line)
    build_comes sized plan fine planned now views own added ranges brought weighs =
        stood_by_build s h later renderer name kind line
        (planned_parts s h later renderer name kind line plan views own now renderers used parts) told
        (fold (claimed_by false) table line)
        (planned_grows s groups legal event renderer name kind line parts told table there stands (build_silent s h renderer name kind line build_passes)
        build_adds renderers build_tables handed used sized plan fine planned (build_fitting plan fine planned)
        (free_accepted false parts table renderer name line accepted) now views own added ranges brought weighs)
