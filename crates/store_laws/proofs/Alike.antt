-- Where a later history tells the same of blobs, pieces and page files, the parts stand for it as they stood.
use Rattle.std.proofs.Common.{◌≡◌, ℕ, ◌+◌, Bool, List, map, length, ap, subst, sym, ◌∙◌, Option, Some, None, true}
use Rattle.std.specs.Prelude.{if◌then◌else◌}
use Rattle.std.specs.Option.{option_map}
use Rattle.blob_words.specs.declared.status.Status.{Status}
use Rattle.data_handles.specs.Table.{Table as HandleTable}
use Rattle.file_table.specs.declared.file_note.FileNote.{FileNote}
use Rattle.item_shares.specs.declared.shares.Share.{Share}
use Rattle.page_disk.specs.declared.change.Change.{Change}
use Rattle.model_bridges.specs.Bridges.{change_as}
use Rattle.renderer_table.specs.Table.{Table}
use Rattle.url_store.specs.declared.url.Url.{Url}
use Rattle.blob_model.specs.Builds.{Build, builds, size}
use Rattle.blob_model.specs.Changes.{Change as DiskChange, changes}
use Rattle.blob_model.specs.History.{History}
use Rattle.blob_model.specs.Jobs.{paging}
use Rattle.blob_model.specs.Parts.{own_bytes}
use Rattle.blob_model.specs.Pieces.{Piece, pieces}
use Rattle.blob_model.specs.Readers.{OpenReader}
use Rattle.blob_model.specs.Refusals.{claimed, is_in, weight_total}
use Rattle.blob_model.specs.Session.{Session, page_limit}
use Rattle.blob_model.specs.Waits.{waits}
use Rattle.registry_laws.specs.Agree.{Beside}
use Rattle.store_laws.specs.Items.{Facts, ItemsStand, holds_slot}
use Rattle.store_laws.specs.LineLaws.{counted, AreUnmarked}
use Rattle.store_laws.specs.Outlines.{outlines, status_now, IsMarkedRight}
use Rattle.store_laws.specs.PageFiles.{PageFacts, PagesStand}
use Rattle.store_laws.specs.Recipes.{EntriesStand}
use Rattle.store_laws.specs.Rows.{bare, row_of, Row}
use Rattle.store_laws.specs.Stands.{lines, Between, ContentsStand, Parts}
use Rattle.store_laws.specs.Tables.{AreClaimed, HandlesStand, TablesStand}
use Rattle.store_laws.specs.Uses.{facts_of, order_of, own_pieces, page_facts_of}
use Rattle.store_laws.proofs.Unmarked.{unmarked_right}

-- what a history tells of blobs, pieces, page files and data handles
pub record Notions : Type 0 where
  pub builds : List Build
  pub pieces : List Piece
  pub status : Build → Status
  pub row : Build → Row
  pub facts : Facts
  pub own : ℕ → List ℕ
  pub waits : List Build
  pub pages : PageFacts
  pub paging : Bool
  pub order : List (Option Share) → List (Option Row) → List (ℕ × ℕ)
  pub claimed : List ℕ
  pub changes : List DiskChange
  pub weight : ℕ

abbrev pub notions : Session → History → Notions
notions s h = record {
  builds = builds (page_limit s) h;
  pieces = pieces (page_limit s) h;
  status = status_now s h;
  row = row_of s h;
  facts = facts_of s h;
  own = own_pieces (page_limit s) h;
  waits = waits (page_limit s) h;
  pages = page_facts_of h;
  paging = paging h;
  order = order_of s h;
  claimed = claimed s h;
  changes = changes s h;
  weight = weight_total s h;
}

module _ (s : Session) (h later : History) (same : notions s later ≡ notions s h) (stands : ℕ → Bool) (parts : Parts) (told : Option (List Change))
    (table : HandleTable) (unmarked : AreUnmarked parts.book.entries) (between : Between s h stands parts told table) where
  over : (P : Notions → Type 0) → P (notions s h) → P (notions s later)
  over P is = subst P (sym same) is

  contents_alike : ContentsStand s later stands parts.book parts.shares parts.rows parts.quota parts.pages parts.recent
  contents_alike = record {
    names = over (λ (n : Notions). parts.book.names ≡ map (λ (build : Build). build.name) n.builds) between.contents.names;
    outlines_stand = over
        (λ (n : Notions). outlines parts.book.entries ≡ map (λ (build : Build). if stands build.name then Some (record {
          owner = build.builder;
          size = size build;
          kind = build.kind;
          status = n.status build;
        }) else None) n.builds) between.contents.outlines_stand;
    marks = over (λ (n : Notions). Beside (IsMarkedRight s later) n.builds parts.book.entries)
        (unmarked_right s h later (builds (page_limit s) h) parts.book.entries between.contents.marks unmarked);
    rows_stand = over
        (λ (n : Notions). map (option_map bare) parts.rows ≡ map (λ (build : Build). if stands build.name then Some (n.row build) else None) n.builds)
        between.contents.rows_stand;
    items = over (λ (n : Notions). ItemsStand n.pieces n.facts parts.shares) between.contents.items;
    entries = over (λ (n : Notions). EntriesStand n.builds n.pieces n.own parts.shares parts.book.entries parts.rows) between.contents.entries;
    waiting = over (λ (n : Notions). parts.quota.waiting ≡ map (λ (build : Build). (build.name, own_bytes build.parts)) n.waits) between.contents.waiting;
    memory_limit = between.contents.memory_limit;
    page_files_stand = over (λ (n : Notions). PagesStand n.pieces n.pages s.limits.disk parts.shares parts.pages) between.contents.page_files_stand;
    recent = over (λ (n : Notions). n.paging ≡ true → parts.recent ≡ n.order parts.shares parts.rows) between.contents.recent;
  }

  -- with tables that stand for it
  pub between_alike : (renderers : Table) (urls : List (List ℕ × Url)) (files : List (List ℕ × FileNote)) (readers : List (ℕ × OpenReader))
      → TablesStand s later renderers urls files readers → lines later ≡ lines h + 1
      → Between s later stands (counted (record parts { renderers = renderers; urls = urls; files = files; readers = readers })) told table
  between_alike renderers urls files readers tables one_more = record {
    same_limits = between.same_limits;
    same_version = between.same_version;
    contents = contents_alike;
    tables = tables;
    handles = over (λ (n : Notions). HandlesStand s.outside.slots (λ (k : ℕ). is_in k n.claimed) (holds_slot parts.shares) table) between.handles;
    claims = over (λ (n : Notions). AreClaimed s.outside.slots (λ (k : ℕ). is_in k n.claimed) (holds_slot parts.shares)) between.claims;
    disk_stands = over (λ (n : Notions). option_map (map change_as) told ≡ (if s.outside.disk_tells then Some n.changes else None)) between.disk_stands;
    same_lines = ap (λ (n : ℕ). n + 1) between.same_lines ∙ ap (λ (n : ℕ). n + 1) (sym one_more);
    same_pieces = over (λ (n : Notions). parts.pieces ≡ length n.pieces) between.same_pieces;
    same_weight = over (λ (n : Notions). parts.weight ≡ n.weight) between.same_weight;
  }
