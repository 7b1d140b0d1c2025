-- What `tally` answers is what the history says, and changes nothing.
use Rattle.std.proofs.Common.{◌≡◌, ℕ, ◌+◌, Bool, List, [], ◌∷◌, map, length, Option, Some, None, refl, ap, sym, ◌∙◌, inl, arith}
use Rattle.std.proofs.lemmas.List.{length-map}
use Rattle.answer_text.specs.declared.answer.Answer.{Answer}
use Rattle.answer_text.specs.declared.answer.Answer.TheVariants as answers
use Rattle.answer_text.specs.declared.group.Group.{Group}
use Rattle.session_script.specs.declared.event.Event.TheVariants as events
use Rattle.blob_entries.specs.Standing.{standing}
use Rattle.blob_entries.specs.declared.entry.Entry.{Entry}
use Rattle.data_handles.specs.Table.{Table as HandleTable}
use Rattle.page_disk.specs.declared.change.Change.{Change}
use Rattle.blob_model.specs.Builds.{Build, builds}
use Rattle.blob_model.specs.Entries.{entries}
use Rattle.blob_model.specs.History.{History, heard, history_from, start}
use Rattle.blob_model.specs.Jobs.{paging}
use Rattle.blob_model.specs.Legal.{IsLegalFrom}
use Rattle.blob_model.specs.Live.{is_live, live}
use Rattle.blob_model.specs.Own.{IsOwn}
use Rattle.blob_model.specs.Order.{Distinct}
use Rattle.blob_model.specs.Parts.{own_bytes}
use Rattle.blob_model.specs.Readers.{readers}
use Rattle.blob_model.specs.Session.{Session, page_limit}
use Rattle.blob_model.specs.Waits.{waits}
use Rattle.blob_model.proofs.builds.Order.{ordered_distinct}
use Rattle.blob_model.proofs.live.Names.{live_named}
use Rattle.store_laws.specs.CountLaws.{how_many, TellsHowMany}
use Rattle.store_laws.specs.Having.{paired}
use Rattle.store_laws.specs.LineLaws.{counted, AreUnmarked}
use Rattle.store_laws.specs.Stands.{Between, Parts, Stands}
use Rattle.store_laws.proofs.LineRefusals.{own_accepted}
use Rattle.store_laws.proofs.Paired.{paired_stand}
use Rattle.store_laws.proofs.Resting.{rests_when_settled}
use Rattle.store_laws.proofs.Unmarked.{none_marked, unmarked_right}

-- as many names stand as blobs have an entry
standing_paired : (list : List Build) (held : List (Option Entry))
    → length (standing (map (λ (build : Build). build.name) list) held) ≡ length (paired list held)
standing_paired [] [] = refl
standing_paired [] (one ∷ held) = refl
standing_paired (build ∷ list) [] = refl
standing_paired (build ∷ list) (None ∷ held) = standing_paired list held
standing_paired (build ∷ list) (Some entry ∷ held) = omega (arith, standing_paired list held)

module _ (s : Session) (h : History) (parts : Parts) (told : Option (List Change)) (table : HandleTable)
    (between : Between s h (is_live (page_limit s) h) parts told table) where
  standing_live : Distinct (builds (page_limit s) h) → length (standing parts.book.names parts.book.entries) ≡ length (live (page_limit s) h)
  standing_live distinct =
      ap (λ (names : List ℕ). length (standing names parts.book.entries)) between.contents.names
      ∙ standing_paired (builds (page_limit s) h) parts.book.entries
      ∙ sym (length-map (paired (builds (page_limit s) h) parts.book.entries) (λ (pair : Build × Entry). pair.0))
      ∙ ap (λ (list : List Build). length list)
      (paired_stand s h (is_live (page_limit s) h) (builds (page_limit s) h) parts.book.entries between.contents.outlines_stand)
      ∙ ap (λ (list : List Build). length list) (sym (live_named (page_limit s) h distinct))

  many_wait : length parts.quota.waiting ≡ length (waits (page_limit s) h)
  many_wait =
      ap (λ (list : List (ℕ × ℕ)). length list) between.contents.waiting
      ∙ length-map (waits (page_limit s) h) (λ (build : Build). (build.name, own_bytes build.parts))

  same_answer : Distinct (builds (page_limit s) h)
      → how_many parts
      ≡ answers.Held (length (live (page_limit s) h)) (length (entries h)) (length (readers (page_limit s) h)) (length (waits (page_limit s) h)) (paging h)
  same_answer distinct =
      let blobs = standing_live distinct in
      let urls = between.tables.urls_stand.many in
      let open_ones = between.tables.readers_stand.many in
      let waiting = many_wait in
      let on = between.contents.page_files_stand.same_paging in
      rw (blobs, urls, open_ones, waiting, on) refl

  between_counted : AreUnmarked parts.book.entries → (blobs urls read_by waiting : ℕ) (on : Bool)
      → Between s (heard h events.Count (answers.Held blobs urls read_by waiting on)) (is_live (page_limit s) h) (counted parts) told table
  between_counted unmarked blobs urls read_by waiting on = record {
    same_limits = between.same_limits;
    same_version = between.same_version;
    contents = record {
      names = between.contents.names;
      outlines_stand = between.contents.outlines_stand;
      marks = unmarked_right s h (heard h events.Count (answers.Held blobs urls read_by waiting on)) (builds (page_limit s) h) parts.book.entries
          between.contents.marks unmarked;
      rows_stand = between.contents.rows_stand;
      items = between.contents.items;
      entries = between.contents.entries;
      waiting = between.contents.waiting;
      memory_limit = between.contents.memory_limit;
      page_files_stand = between.contents.page_files_stand;
      recent = between.contents.recent;
    };
    tables = record {
      renderers = between.tables.renderers;
      urls_stand = between.tables.urls_stand;
      files_stand = between.tables.files_stand;
      readers_stand = between.tables.readers_stand;
    };
    handles = between.handles;
    claims = between.claims;
    disk_stands = between.disk_stands;
    same_lines = ap (λ (n : ℕ). n + 1) between.same_lines;
    same_pieces = between.same_pieces;
    same_weight = between.same_weight;
  }

count_own : (s : Session) (groups : List Group) (parts : Parts) (told : Option (List Change)) (table : HandleTable) → IsLegalFrom s start groups
    → Stands s (history_from start groups) parts told table → IsOwn s (history_from start groups) events.Count (how_many parts ∷ [])
count_own s groups parts told table legal stands =
    let distinct = ordered_distinct [] (builds (page_limit s) (history_from start groups)) (rests_when_settled s groups legal).ordered in
    own_accepted s (history_from start groups) events.Count (how_many parts ∷ []) refl
    (inl (ap (λ (answer : Answer). answer ∷ []) (same_answer s (history_from start groups) parts told table stands.between distinct)))

pub tells_how_many : TellsHowMany
tells_how_many = record {
  is_own = count_own;
  stands = λ s groups parts told table legal stands.
      between_counted s (history_from start groups) parts told table stands.between
      (none_marked s groups (is_live (page_limit s) (history_from start groups)) parts told table legal stands.between)
      (length (standing parts.book.names parts.book.entries)) (length parts.urls) (length parts.readers) (length parts.quota.waiting) parts.pages.paging;
}
