-- What came of the blob of a line that builds, in a history with that line. Own.
use Rattle.std.specs.Prelude.{ℕ, ◌≡◌, ◌+◌, ◌==◌, ◌&&◌, ◌||◌, not, Bool, List, length, map, None, Option, Some}
use Rattle.std.specs.List.{list_any}
use Rattle.blob_words.specs.declared.number.RendererId.{RendererId}
use Rattle.blob_words.specs.declared.plan.Plan.{Plan}
use Rattle.blob_words.specs.declared.status.Status.{Status}
use Rattle.session_script.specs.declared.event.Part.{Part}
use Rattle.blob_entries.specs.declared.entry.Entry.{Entry}
use Rattle.blob_items.specs.declared.view.View.{View}
use Rattle.data_handles.specs.Table.{Table as HandleTable}
use Rattle.item_shares.specs.declared.shares.Share.{Share}
use Rattle.renderer_table.specs.Counted.{ChangesCount}
use Rattle.renderer_table.specs.Table.{Table}
use Rattle.blob_model.specs.History.{History}
use Rattle.blob_model.specs.Pieces.{pieces}
use Rattle.blob_model.specs.Session.{Session, page_limit}
use Rattle.store_laws.specs.Arrivals.{coming_with, planned_entry}
use Rattle.store_laws.specs.BuildLaws.{grown_parts, made, AreAdded, IsEntered}
use Rattle.store_laws.specs.Claiming.{is_ranged, AreFree}
use Rattle.store_laws.specs.Deciding.{line_weight_in}
use Rattle.store_laws.specs.EntryLaws.{broken_entry, coming_row, settled_row}
use Rattle.store_laws.specs.Items.{holds_slot}
use Rattle.store_laws.specs.LineLaws.{counted}
use Rattle.store_laws.specs.Rows.{Row}
use Rattle.store_laws.specs.Stands.{Parts}
use Rattle.store_laws.specs.Uses.{facts_of}

-- the blob that is built stands, and what stood
abbrev pub with_name : ℕ → (ℕ → Bool) → ℕ → Bool
with_name name stands other = (name == other) || stands other

-- its items are added, its entry and its row are entered, the handles of its parts were free, those of which an item is are held where it didn't break, and
-- its builder has one handle more
pub record Came (s : Session) (h later : History) (renderer : RendererId) (name : ℕ) (kind : List ℕ) (line : List Part) (is_broken : Bool) (entry : Entry)
    (row : Row) (now : List (Option Share)) (renderers : Table) (parts : Parts) (table : HandleTable) : Type 0 where
  pub added : AreAdded (pieces (page_limit s) later) (facts_of s later) (length (pieces (page_limit s) h)) parts.shares now
  pub entered : IsEntered s later (made s h renderer name kind line) now entry row
  pub free : AreFree is_broken table line
  pub held : (k : ℕ) → holds_slot now k ≡ (holds_slot parts.shares k || (not is_broken && list_any (is_ranged k) line))
  pub handed : ChangesCount (λ (count : ℕ). count + 1) renderer.0 name parts.renderers renderers

-- the parts with a blob that broke at its line
abbrev pub broken_parts : Session → History → History → RendererId → ℕ → List ℕ → List Part → Status → Table → ℕ → Parts → Parts
broken_parts s h later renderer name kind line why renderers used parts =
    counted (grown_parts s later (made s h renderer name kind line) (broken_entry renderer kind why)
    (settled_row None 0 (length (pieces (page_limit s) h)) line) parts.shares renderers used parts)

-- and with one that has a plan, whose ranges and own pieces have these views
abbrev pub planned_parts : Session → History → History → RendererId → ℕ → List ℕ → List Part → Plan → List View → List View → List (Option Share) → Table → ℕ
    → Parts → Parts
planned_parts s h later renderer name kind line plan ranges own now renderers used parts =
    counted (grown_parts s later (made s h renderer name kind line)
    (planned_entry renderer kind plan line (page_limit s) (length (pieces (page_limit s) h)) ranges own)
    (coming_row (Some plan) (line_weight_in parts line) (length (pieces (page_limit s) h)) line (coming_with plan (map (λ (view : View). view.slot) own)))
    now renderers used parts)
