-- Renderers, URLs, files, readers and the disk stand for the history with a line that builds, which is one line more.
use Rattle.std.proofs.Common.{◌≡◌, ℕ, zero, suc, ◌+◌, ◌==◌, ◌&&◌, Bool, true, false, cond, List, length, refl, ap, sym, ◌∙◌, Option, Some, None, ℤ, arith}
use Rattle.std.specs.Prelude.{if◌then◌else◌, nat_lt}
use Rattle.std.specs.BTreeMap.{is_at}
use Rattle.std.specs.List.{list_any}
use Rattle.std.specs.Ordering.{nat_cmp}
use Rattle.std.proofs.lemmas.Bool.{and_parts, eqb-true, lt-ltb}
use Rattle.blob_words.specs.declared.number.RendererId.{RendererId}
use Rattle.blob_words.specs.declared.status.Status.{Status}
use Rattle.session_script.specs.declared.event.Event.{Event}
use Rattle.session_script.specs.declared.event.Event.TheVariants as events
use Rattle.session_script.specs.declared.event.Part.{Part}
use Rattle.answer_text.specs.declared.answer.Answer.{Answer}
use Rattle.answer_text.specs.declared.group.Group.{Group}
use Rattle.file_table.specs.declared.file_note.FileNote.{FileNote}
use Rattle.page_disk.specs.declared.change.Change.{Change}
use Rattle.renderer_table.specs.Counted.{ChangesCount}
use Rattle.renderer_table.specs.Table.{count_of, Table}
use Rattle.url_store.specs.declared.url.Url.{Url}
use Rattle.blob_model.specs.Builds.{builds}
use Rattle.blob_model.specs.Changes.{Change as DiskChange, changes}
use Rattle.blob_model.specs.Construct.{build_answer, build_answer_by, line_status}
use Rattle.blob_model.specs.Handles.{count}
use Rattle.blob_model.specs.History.{History, heard, history_from, start}
use Rattle.blob_model.specs.Legal.{IsLegalFrom}
use Rattle.blob_model.specs.Order.{named}
use Rattle.blob_model.specs.Readers.{OpenReader}
use Rattle.blob_model.specs.Refusals.{refusal}
use Rattle.blob_model.specs.Renderers.{is_alive, origin_of, spawned}
use Rattle.blob_model.specs.Session.{Session, page_limit}
use Rattle.blob_model.proofs.Lists.{false_true}
use Rattle.blob_model.proofs.kept.Groups.{kept_from, kept_start}
use Rattle.blob_model.proofs.kept.NewBlobs.{found_named, tests_fail}
use Rattle.store_laws.specs.Stands.{lines}
use Rattle.store_laws.specs.Tables.{DiskStands, RenderersStand, TablesStand}

-- ---- a blob that wasn't built

-- a blob that wasn't built has no handle
pub none_held : (s : Session) (groups : List Group) (holder name : ℕ) → IsLegalFrom s start groups
    → named name (builds (page_limit s) (history_from start groups)) ≡ false → count (history_from start groups) holder name ≡ 0
none_held s groups holder name legal fresh = by (count (history_from start groups) holder name) refl
  where
    by : (n : ℕ) → count (history_from start groups) holder name ≡ n → n ≡ 0
    by zero at = refl
    by (suc n) at =
        let has = ap {B = Bool} (nat_lt 0) at ∙ lt-ltb 0 (suc n) (omega arith) in
        absurd (false_true (sym fresh ∙ (kept_from s start groups (kept_start s) legal).held holder name has))

-- a line that isn't refused builds a blob that wasn't built
pub fresh_by_build : (s : Session) (h : History) (renderer : RendererId) (name : ℕ) (kind : List ℕ) (line : List Part)
    → refusal s h (events.Build renderer name kind line) ≡ None → named name (builds (page_limit s) h) ≡ false
fresh_by_build s h renderer name kind line passes =
    sym (found_named (builds (page_limit s) h) name) ∙ (tests_fail s h (events.Build renderer name kind line) passes).1.0

pub fresh_by_slice : (s : Session) (h : History) (renderer : RendererId) (name source : ℕ) (from to : Option ℤ) (kind : List ℕ)
    → refusal s h (events.Slice renderer name source from to kind) ≡ None → named name (builds (page_limit s) h) ≡ false
fresh_by_slice s h renderer name source from to kind passes =
    sym (found_named (builds (page_limit s) h) name) ∙ (tests_fail s h (events.Slice renderer name source from to kind) passes).1.0

-- ---- tables

-- the builder has one handle on its blob
abbrev handed : (ℕ → ℕ → ℕ) → ℕ → ℕ → ℕ → ℕ → ℕ
handed counts renderer name holder blob = cond ((renderer == holder) && (name == blob)) 1 (counts holder blob)

handed_stand : (h : History) (table later : Table) (renderer name : ℕ) → count h renderer name ≡ 0
    → RenderersStand (spawned h) (is_alive h) (origin_of h) (count h) table → ChangesCount (λ (count : ℕ). count + 1) renderer name table later
    → RenderersStand (spawned h) (is_alive h) (origin_of h) (handed (count h) renderer name) later
handed_stand h table later renderer name none stand changes = record {
  spawned = λ number. ap (λ (list : List ℕ). list_any (is_at (nat_cmp number)) list) changes.spawned ∙ stand.spawned number;
  many = ap (λ (list : List ℕ). length list) changes.spawned ∙ stand.many;
  living = λ number. changes.origins number ∙ stand.living number;
  counts = λ number blob. changes.counts number blob ∙ by number blob ((renderer == number) && (name == blob)) refl;
}
  where
    by : (number blob : ℕ) (b : Bool) → ((renderer == number) && (name == blob)) ≡ b
        → ◌≡◌ {A = ℕ} (cond b (count_of number blob table + 1) (count_of number blob table)) (cond b 1 (count h number blob))
    by number blob false at = stand.counts number blob
    by number blob true at =
        let same = and_parts (renderer == number) (name == blob) at in
        let here : count h number blob ≡ 0 =
        (λ i. count h (sym (eqb-true renderer number same.0) i) (sym (eqb-true name blob same.1) i)) ∙ none in
        ap (λ (n : ℕ). n + 1) (stand.counts number blob ∙ here)

module _ (s : Session) (h : History) (renderer : RendererId) (name : ℕ) (none : count h renderer.0 name ≡ 0) (table later : Table)
    (urls : List (List ℕ × Url)) (files : List (List ℕ × FileNote)) (readers : List (ℕ × OpenReader)) (stand : TablesStand s h table urls files readers)
    (changes_so : ChangesCount (λ (count : ℕ). count + 1) renderer.0 name table later) where
  pub tables_by_build : (kind : List ℕ) (line : List Part) (answer : Answer)
      → TablesStand s (heard h (events.Build renderer name kind line) answer) later urls files readers
  tables_by_build kind line answer = record {
    renderers = handed_stand h table later renderer.0 name none stand.renderers changes_so;
    urls_stand = stand.urls_stand;
    files_stand = stand.files_stand;
    readers_stand = stand.readers_stand;
  }

  pub tables_by_slice : (source : ℕ) (from to : Option ℤ) (kind : List ℕ) (answer : Answer)
      → TablesStand s (heard h (events.Slice renderer name source from to kind) answer) later urls files readers
  tables_by_slice source from to kind answer = record {
    renderers = handed_stand h table later renderer.0 name none stand.renderers changes_so;
    urls_stand = stand.urls_stand;
    files_stand = stand.files_stand;
    readers_stand = stand.readers_stand;
  }

-- ---- the disk, and lines

changes_built : (s : Session) (h : History) (event : Event) (name : ℕ) (line : List Part) (status : Option Status)
    → changes s (heard h event (build_answer_by s h name line status)) ≡ changes s h
changes_built s h event name line None = refl
changes_built s h event name line (Some why) = refl

-- a line that builds changes nothing on the disk
pub disk_built : (s : Session) (h : History) (event : Event) (renderer name : ℕ) (line : List Part) (told : Option (List Change)) → DiskStands s h told
    → DiskStands s (heard h event (build_answer s h renderer name line)) told
disk_built s h event renderer name line told stand =
    stand
    ∙ sym (ap (λ (list : List DiskChange). if s.outside.disk_tells then Some list else None)
    (changes_built s h event name line (line_status s h renderer name line)))

-- an accepted line is one line more
pub lines_built : (h : History) (event : Event) (answer : Answer) → lines (heard h event answer) ≡ lines h + 1
lines_built h event answer = refl
