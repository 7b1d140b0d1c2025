-- The parts stand for the history with a line that builds, where the entry, the row and the items of its blob come, its builder has one handle more, and
-- the data handles that its parts name are claimed.
use Rattle.std.proofs.Common.{◌≡◌, ℕ, ◌+◌, Bool, List, [], ◌∷◌, refl, subst, Option, None, Some, ℤ}
use Rattle.std.specs.Prelude.{fold}
use Rattle.blob_words.specs.declared.number.RendererId.{RendererId}
use Rattle.blob_words.specs.declared.status.Status.{Status}
use Rattle.session_script.specs.declared.event.Event.TheVariants as events
use Rattle.session_script.specs.declared.event.Part.{Part}
use Rattle.answer_text.specs.declared.group.Group.{Group}
use Rattle.blob_entries.specs.declared.entry.Entry.{Entry}
use Rattle.data_handles.specs.Table.{Table as HandleTable}
use Rattle.item_shares.specs.declared.shares.Share.{Share}
use Rattle.page_disk.specs.declared.change.Change.{Change}
use Rattle.renderer_table.specs.Table.{Table}
use Rattle.blob_model.specs.Construct.{build_answer, build_answer_by, line_status}
use Rattle.blob_model.specs.History.{History, history_from, start}
use Rattle.blob_model.specs.Legal.{IsLegalFrom}
use Rattle.blob_model.specs.Live.{is_live}
use Rattle.blob_model.specs.Session.{Session, page_limit}
use Rattle.store_laws.specs.BuildLaws.{grown_parts, made, Adds}
use Rattle.store_laws.specs.BuiltStands.{with_name, Came}
use Rattle.store_laws.specs.Claiming.{claimed_by}
use Rattle.store_laws.specs.LineLaws.{counted}
use Rattle.store_laws.specs.Rows.{Row}
use Rattle.store_laws.specs.Stands.{lines, stood, Between, Parts}
use Rattle.store_laws.specs.Tables.{DiskStands, TablesStand}
use Rattle.store_laws.proofs.Building.{grown_stands, listed_are_there}
use Rattle.store_laws.proofs.Claiming.{claims_built, handles_built}
use Rattle.store_laws.proofs.Resting.{rests_when_settled}
use Rattle.store_laws.proofs.Unmarked.{none_marked}

module _ (s : Session) (groups : List Group) (legal : IsLegalFrom s start groups) (renderer : RendererId) (name : ℕ) (kind : List ℕ) (line : List Part)
    (is_broken : Bool) (entry : Entry) (row : Row) (now : List (Option Share)) (renderers : Table) (used : ℕ) (stands : ℕ → Bool) (parts : Parts)
    (told : Option (List Change)) (table : HandleTable) (between : Between s (history_from start groups) stands parts told table) where
  abbrev h : History
  h = history_from start groups

  pub grows_by : (later : History) → Adds s h later (made s h renderer name kind line) → lines later ≡ lines h + 1
      → TablesStand s later renderers parts.urls parts.files parts.readers → DiskStands s later told
      → Came s h later renderer name kind line is_broken entry row now renderers parts table
      → Between s later (with_name name stands) (counted (grown_parts s later (made s h renderer name kind line) entry row now renderers used parts)) told
      (fold (claimed_by is_broken) table line)
  grows_by later adds one_line tables disk came =
      grown_stands s h stands parts told table (none_marked s groups stands parts told table legal between) between (rests_when_settled s groups legal)
      (listed_are_there s groups legal) later (made s h renderer name kind line) adds one_line entry row now came.added came.entered renderers tables
      (fold (claimed_by is_broken) table line)
      (handles_built s h later (made s h renderer name kind line) adds is_broken table parts.shares now between.handles between.claims came.free came.held)
      (claims_built s h later (made s h renderer name kind line) adds is_broken table parts.shares now between.handles between.claims came.free came.held)
      disk used

-- ---- the blobs that stand

stood_build : (s : Session) (h : History) (renderer : RendererId) (name : ℕ) (kind : List ℕ) (line : List Part) (status : Option Status)
    → with_name name (is_live (page_limit s) h)
    ≡ stood (page_limit s) h (events.Build renderer name kind line) (build_answer_by s h name line status ∷ [])
stood_build s h renderer name kind line None = refl
stood_build s h renderer name kind line (Some why) = refl

stood_slice : (s : Session) (h : History) (renderer : RendererId) (name source : ℕ) (from to : Option ℤ) (kind : List ℕ) (line : List Part)
    (status : Option Status) → with_name name (is_live (page_limit s) h)
    ≡ stood (page_limit s) h (events.Slice renderer name source from to kind) (build_answer_by s h name line status ∷ [])
stood_slice s h renderer name source from to kind line None = refl
stood_slice s h renderer name source from to kind line (Some why) = refl

-- once the line was heard with its own answer, the blob stands that it built, and those that lived
pub stood_by_build : (s : Session) (h later : History) (renderer : RendererId) (name : ℕ) (kind : List ℕ) (line : List Part) (parts : Parts)
    (told : Option (List Change)) (table : HandleTable) → Between s later (with_name name (is_live (page_limit s) h)) parts told table
    → Between s later (stood (page_limit s) h (events.Build renderer name kind line) (build_answer s h renderer.0 name line ∷ [])) parts told table
stood_by_build s h later renderer name kind line parts told table between =
    subst (λ (stands : ℕ → Bool). Between s later stands parts told table)
    (stood_build s h renderer name kind line (line_status s h renderer.0 name line)) between

pub stood_by_slice : (s : Session) (h later : History) (renderer : RendererId) (name source : ℕ) (from to : Option ℤ) (kind : List ℕ) (line : List Part)
    (parts : Parts) (told : Option (List Change)) (table : HandleTable) → Between s later (with_name name (is_live (page_limit s) h)) parts told table
    → Between s later (stood (page_limit s) h (events.Slice renderer name source from to kind) (build_answer s h renderer.0 name line ∷ [])) parts told table
stood_by_slice s h later renderer name source from to kind line parts told table between =
    subst (λ (stands : ℕ → Bool). Between s later stands parts told table)
    (stood_slice s h renderer name source from to kind line (line_status s h renderer.0 name line)) between
