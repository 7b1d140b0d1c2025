-- The parts stand for the history with a line that builds, as the parts decide it: by the plan, or the status with which the blob breaks.
use Rattle.std.proofs.Common.{◌≡◌, ℕ, ◌+◌, ◌<◌, true, false, List, ◌++◌, length, map, refl, subst, sym, ◌∙◌, Option, Some, None}
use Rattle.std.specs.Prelude.{fold, sum_by, IfSome}
use Rattle.blob_words.specs.declared.number.RendererId.{RendererId}
use Rattle.blob_words.specs.declared.plan.Plan.{Plan}
use Rattle.blob_words.specs.declared.status.Status.{Status}
use Rattle.session_script.specs.declared.event.Event.{Event}
use Rattle.session_script.specs.declared.event.Part.{Part}
use Rattle.answer_text.specs.declared.group.Group.{Group}
use Rattle.blob_items.specs.declared.view.View.{View}
use Rattle.data_handles.specs.Table.{Table as HandleTable}
use Rattle.item_shares.specs.declared.item.Item.{Item}
use Rattle.item_shares.specs.declared.shares.Share.{Share}
use Rattle.item_shares.specs.Shares.{item_at}
use Rattle.item_shares.specs.Weights.{weights}
use Rattle.page_disk.specs.declared.change.Change.{Change}
use Rattle.renderer_table.specs.Counted.{ChangesCount}
use Rattle.renderer_table.specs.Table.{Table}
use Rattle.blob_model.specs.Builds.{Build}
use Rattle.blob_model.specs.Choice.{first_that}
use Rattle.blob_model.specs.Construct.{build_answer}
use Rattle.blob_model.specs.History.{History, heard, history_from, start}
use Rattle.blob_model.specs.Legal.{IsLegalFrom}
use Rattle.blob_model.specs.Live.{is_live}
use Rattle.blob_model.specs.Parts.{claims}
use Rattle.blob_model.specs.Pieces.{Piece, pieces}
use Rattle.blob_model.specs.Refusals.{claimed, slot_refusals}
use Rattle.blob_model.specs.Session.{Session, page_limit}
use Rattle.blob_model.proofs.builds.Plans.{FitsParts}
use Rattle.store_laws.specs.Arrivals.{coming_with, lengths_by, planned_entry}
use Rattle.store_laws.specs.BuildLaws.{made, Adds, AreAdded, IsNew}
use Rattle.store_laws.specs.BuiltStands.{broken_parts, planned_parts, with_name}
use Rattle.store_laws.specs.Claiming.{claimed_by, AreFree}
use Rattle.store_laws.specs.Deciding.{line_status_in, line_weight_in, plan_in}
use Rattle.store_laws.specs.DecidingLaws.{AreHeldThere}
use Rattle.store_laws.specs.EntryLaws.{broken_entry, coming_row, settled_row, AreBrought}
use Rattle.store_laws.specs.Items.{AreOnePerPiece, Facts}
use Rattle.store_laws.specs.NewItems.{own_items, range_items}
use Rattle.store_laws.specs.PartLaws.{AreRanges}
use Rattle.store_laws.specs.Stands.{Between, Parts, Stands}
use Rattle.store_laws.specs.Tables.{TablesStand}
use Rattle.store_laws.specs.Uses.{facts_of}
use Rattle.store_laws.proofs.BuiltStands.{grows_by}
use Rattle.store_laws.proofs.BuiltTables.{disk_built}
use Rattle.store_laws.proofs.LineRead.{plan_read, status_read}
use Rattle.store_laws.proofs.NewBlobs.{planned_now}
use Rattle.store_laws.proofs.NewRows.{broken_now}
use Rattle.store_laws.proofs.RangesHeld.{broken_held, planned_held}

-- nothing comes where nothing changes
pub same_added : (all : List Piece) (facts : Facts) (count : ℕ) (shares : List (Option Share)) → AreOnePerPiece shares → AreAdded all facts count shares shares
same_added all facts count shares apart = record {
  kept = λ slot. kept slot (item_at shares slot) refl;
  added = λ slot none. none_added slot none;
  apart = apart;
}
  where
    kept : (slot : ℕ) (found : Option Item) → item_at shares slot ≡ found → IfSome found (λ (item : Item). item_at shares slot ≡ Some item)
    kept slot None at = tt
    kept slot (Some item) at = at

    none_added : (slot : ℕ) → item_at shares slot ≡ None → IfSome (item_at shares slot) (IsNew all facts count)
    none_added slot none = subst (λ (found : Option Item). IfSome found (IsNew all facts count)) (sym none) tt

module _ (s : Session) (groups : List Group) (legal : IsLegalFrom s start groups) (event : Event) (renderer : RendererId) (name : ℕ) (kind : List ℕ)
    (line : List Part) (parts : Parts) (told : Option (List Change)) (table : HandleTable) (there : AreHeldThere parts)
    (stands : Stands s (history_from start groups) parts told table)
    (silent : first_that (slot_refusals s (claimed s (history_from start groups)) (claims line)) ≡ None) where
  abbrev h : History
  h = history_from start groups

  abbrev later : History
  later = heard h event (build_answer s h renderer.0 name line)

  abbrev new : Build
  new = made s h renderer name kind line

  abbrev first : ℕ
  first = length (pieces (page_limit s) h)

  module _ (adds : Adds s h later new) (renderers : Table) (tables : TablesStand s later renderers parts.urls parts.files parts.readers)
      (handed : ChangesCount (λ (count : ℕ). count + 1) renderer.0 name parts.renderers renderers) (used : ℕ) where
    -- the blob breaks at its line: no item comes
    pub broken_grows : (why : Status) → line_status_in parts table renderer.0 name line ≡ Some why → AreFree true table line
        → Between s later (with_name name (is_live (page_limit s) h))
        (broken_parts s h later renderer name kind line why renderers used parts) told
        (fold (claimed_by true) table line)
    broken_grows why broke free =
        grows_by s groups legal renderer name kind line true (broken_entry renderer kind why) (settled_row None 0 first line) parts.shares renderers used
        (is_live (page_limit s) h) parts told table stands.between later adds refl tables
        (disk_built s h event renderer.0 name line told stands.between.disk_stands) (record {
          added = same_added (pieces (page_limit s) later) (facts_of s later) first parts.shares stands.between.contents.items.apart;
          entered = broken_now s groups legal event renderer name kind line adds parts.shares why
              (status_read s h parts told table there stands renderer name line silent (Some why) broke);
          free = free;
          held = broken_held line parts.shares;
          handed = handed;
        })

    -- it has a plan: its items come
    pub planned_grows : 0 < page_limit s → (plan : Plan) → line_status_in parts table renderer.0 name line ≡ None → plan_in parts line ≡ plan
        → FitsParts s line plan → AreFree false table line → (now : List (Option Share)) (views own : List View)
        → AreAdded (pieces (page_limit s) later) (facts_of s later) first parts.shares now → AreRanges now views line
        → AreBrought now first (lengths_by (page_limit s) plan line) own
        → ((weight : Item → ℕ) → weights weight now ≡ weights weight parts.shares + sum_by weight (range_items line
        ++ own_items (page_limit s) first plan line))
        → Between s later (with_name name (is_live (page_limit s) h))
        (planned_parts s h later renderer name kind line plan views own now renderers used parts) told
        (fold (claimed_by false) table line)
    planned_grows sized plan fine planned fits free now views own added ranges brought weighs =
        grows_by s groups legal renderer name kind line false (planned_entry renderer kind plan line (page_limit s) first views own)
        (coming_row (Some plan) (line_weight_in parts line) first line (coming_with plan (map (λ (view : View). view.slot) own))) now renderers used
        (is_live (page_limit s) h) parts told table stands.between later adds refl tables
        (disk_built s h event renderer.0 name line told stands.between.disk_stands) (record {
          added = added;
          entered = planned_now s groups legal event renderer name kind line adds sized
              (status_read s h parts told table there stands renderer name line silent None fine) plan
              (plan_read s h parts told table there stands renderer name line silent ∙ planned) fits parts told table there stands now views own ranges brought;
          free = free;
          held = planned_held (page_limit s) first plan line parts.shares now weighs;
          handed = handed;
        })
