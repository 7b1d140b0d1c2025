-- The parts stand for the history in which a job ended that wrote nothing: none of its pieces was left, or the disk failed.
use Rattle.std.proofs.Common.{◌≡◌, ℕ, ◌+◌, ◌&&◌, not, Bool, true, false, cond, List, [], ◌∷◌, ◌++◌, map, refl, ap, sym, ◌∙◌, arith, Option, Some, None}
use Rattle.std.specs.Prelude.{◌==◌, filter, filter_map, length}
use Rattle.std.proofs.lemmas.List.{map-append}
use Rattle.std.specs.Option.{option_map, option_map_or}
use Rattle.std.specs.List.{list_any, AllByRecursion}
use Rattle.answer_text.specs.declared.answer.Answer.TheVariants as answers
use Rattle.blob_words.specs.declared.number.JobNo.{JobNo}
use Rattle.blob_words.specs.declared.number.PageNo.{PageNo}
use Rattle.data_handles.specs.Table.{Table as HandleTable}
use Rattle.page_disk.specs.Changes.{with_change}
use Rattle.page_disk.specs.declared.change.Change.{Change}
use Rattle.page_disk.specs.declared.change.Change.TheVariants as changes
use Rattle.page_files.specs.Files.{is_in_flight, left_of, turned_off, without_job, Files}
use Rattle.page_files.specs.Pages.{pieces_of}
use Rattle.page_files.specs.declared.held.Held.{Held}
use Rattle.page_files.specs.declared.page.Page.{Page as FilePage}
use Rattle.page_files.specs.declared.page.Page.TheVariants.{Torn}
use Rattle.session_script.specs.declared.event.Event.TheVariants as events
use Rattle.blob_model.specs.Builds.{builds}
use Rattle.blob_model.specs.Changes.{changes as changes_of, Change as DiskChange}
use Rattle.blob_model.specs.History.{heard, History}
use Rattle.blob_model.specs.Jobs.{in_flight, is_in_job, without_job as job_over, Job as JobSaid}
use Rattle.blob_model.specs.Pages.{asked, is_memory, place}
use Rattle.blob_model.specs.Pieces.{pieces, Piece}
use Rattle.blob_model.specs.Session.{page_limit, Session}
use Rattle.blob_model.specs.Victims.{last_uses, with_length}
use Rattle.blob_model.proofs.Lists.{all_append, false_true}
use Rattle.model_bridges.specs.Bridges.{change_as}
use Rattle.store_laws.specs.Items.{holds_piece}
use Rattle.store_laws.specs.JobLaws.{unwritten, EmptyStands, MoveFailStands, PageFailStands, UnreadStands}
use Rattle.store_laws.specs.LineLaws.{counted, AreUnmarked}
use Rattle.store_laws.specs.PageFiles.{holds_paged, sheet, sheet_of, sheets_from, with_held, writes, IsSlotOf, PagesStand}
use Rattle.store_laws.specs.Stands.{Between, Parts}
use Rattle.store_laws.specs.Tables.{told_changes}
use Rattle.store_laws.specs.Uses.{held_pieces, order_of, page_facts_of, pageable_of}
use Rattle.store_laws.proofs.JobOrder.{pageable_ended}
use Rattle.store_laws.proofs.Losing.{flying_same, none_flies}
use Rattle.store_laws.proofs.Unmarked.{unmarked_right}

-- ---- one page file more

pub sheets_more : (all : List Piece) (holds : ℕ → ℕ → Bool) (before : List ℕ) (n : ℕ) (written : List (Option (List ℕ))) (one : Option (List ℕ))
    → sheets_from all holds before n (written ++ one ∷ []) ≡ sheets_from all holds before n written ++ sheet_of all holds before (n + length written) one ∷ []
sheets_more all holds before n [] one =
    let same : n ≡ n + length {A = Option (List ℕ)} [] = omega arith in
    ap (λ (k : ℕ). sheet_of all holds before k one ∷ []) same
sheets_more all holds before n (first ∷ written) one =
    let same : (n + 1) + length written ≡ n + length (first ∷ written) = omega arith in
    ap (λ sheets. sheet_of all holds before n first ∷ sheets)
    (sheets_more all holds before (n + 1) written one
    ∙ ap (λ (k : ℕ). sheets_from all holds before (n + 1) written ++ sheet_of all holds before k one ∷ []) same)

-- and one change more
pub told_more : (s : Session) (h later : History) (told : Option (List Change)) (change : Change)
    → option_map (map change_as) told ≡ told_changes s h → changes_of s later ≡ changes_of s h ++ change_as change ∷ []
    → option_map (map change_as) (with_change change told) ≡ told_changes s later
told_more s h later told change stands more = by told s.outside.disk_tells stands
  where
    by : (told : Option (List Change)) (tells : Bool) → option_map (map change_as) told ≡ cond {A = Option (List DiskChange)} tells (Some (changes_of s h)) None
        → option_map (map change_as) (with_change change told) ≡ cond {A = Option (List DiskChange)} tells (Some (changes_of s later)) None
    by None true e = absurd (cc e)
    by None false e = refl
    by (Some list) true e =
        let same : map change_as list ≡ changes_of s h = cc e in
        ap (λ (xs : List DiskChange). Some xs)
        (map-append change_as list (change ∷ []) ∙ ap (λ (xs : List DiskChange). xs ++ change_as change ∷ []) same ∙ sym more)
    by (Some list) false e = absurd (cc e)

-- ---- the job has ended

module _ (s : Session) (h : History) (stands : ℕ → Bool) (parts : Parts) (told : Option (List Change)) (table : HandleTable)
    (unmarked : AreUnmarked parts.book.entries) (between : Between s h stands parts told table) (job : JobNo)
    (flies : is_in_flight job parts.pages.job ≡ true) where
  abbrev all : List Piece
  all = pieces (page_limit s) h

  abbrev files : Files
  files = parts.pages

  abbrev stand : PagesStand (pieces (page_limit s) h) (page_facts_of h) s.limits.disk parts.shares parts.pages
  stand = between.contents.page_files_stand

  pub ended : job_over job.0 (in_flight h) ≡ None
  ended = none_flies (in_flight h) job.0 (flying_same (holds_piece parts.shares) (in_flight h) files.job job stand.job ∙ flies)

  pub no_job : None ≡ option_map (with_held (holds_piece parts.shares)) (job_over job.0 (in_flight h))
  no_job = sym (ap (option_map (with_held (holds_piece parts.shares))) ended)

  sheets_torn : map sheet (files.pages ++ Torn ∷ []) ≡ sheets_from all (holds_paged parts.shares) (asked h) 0 (writes h ++ None ∷ [])
  sheets_torn =
      map-append sheet files.pages (Torn ∷ []) ∙ ap (λ sheets. sheets ++ sheet Torn ∷ []) stand.sheets
      ∙ sym (sheets_more all (holds_paged parts.shares) (asked h) 0 (writes h) None)

  slots_torn : AllByRecursion (λ (page : FilePage). AllByRecursion (IsSlotOf parts.shares) (pieces_of page)) (files.pages ++ Torn ∷ [])
  slots_torn = all_append (λ (page : FilePage). AllByRecursion (IsSlotOf parts.shares) (pieces_of page)) files.pages (Torn ∷ []) stand.slots (tt, tt)

  -- none of its pieces was left

  abbrev later : History
  later = heard h (events.Disk job) (answers.Empty job)

  same_order : left_of files.job ≡ [] → order_of s h parts.shares parts.rows ≡ order_of s later parts.shares parts.rows
  same_order none =
      ap (λ (list : List Piece). filter_map (with_length list) (last_uses s.limits h))
      (sym (every (pageable_of (page_limit s) h (held_pieces (page_limit s) h parts.shares parts.rows)))
      ∙ sym (pageable_ended s h stands parts.shares parts.rows files.job between.contents.rows_stand stand.job (is_in_job later)
      (λ n. ap (λ (o : Option JobSaid). option_map_or (λ (one : JobSaid). list_any (λ (named : ℕ). named == n) one.pieces) o false) ended)
      (λ (piece : Piece). is_memory (place (page_limit s) h piece))
      (λ piece. sym (ap (λ (b : Bool). is_memory (place (page_limit s) h piece) && not b) (idle piece.number)
      ∙ and_true (is_memory (place (page_limit s) h piece))))))
    where
      idle : (n : ℕ) → list_any (λ (held : Held). held.piece.0 == n) (left_of files.job) ≡ false
      idle n = ap (list_any (λ (held : Held). held.piece.0 == n)) none

      and_true : (b : Bool) → (b && true) ≡ b
      and_true true = refl
      and_true false = refl

      every : (list : List Piece) → filter (λ (piece : Piece). not (list_any (λ (held : Held). held.piece.0 == piece.number) (left_of files.job))) list ≡ list
      every [] = refl
      every (piece ∷ list) =
          ap (λ (b : Bool). cond {A = List Piece} (not b)
          (piece ∷ filter (λ (one : Piece). not (list_any (λ (held : Held). held.piece.0 == one.number) (left_of files.job))) list)
          (filter (λ (one : Piece). not (list_any (λ (held : Held). held.piece.0 == one.number) (left_of files.job))) list)) (idle piece.number)
          ∙ ap (λ (more : List Piece). piece ∷ more) (every list)

  emptied : (none : left_of parts.pages.job ≡ [])
      → Between s (heard h (events.Disk job) (answers.Empty job)) stands (counted (record parts { pages = without_job parts.pages })) told table
  emptied none = record {
    same_limits = between.same_limits;
    same_version = between.same_version;
    contents = record {
      names = between.contents.names;
      outlines_stand = between.contents.outlines_stand;
      marks = unmarked_right s h (later) (builds (page_limit s) h) parts.book.entries between.contents.marks unmarked;
      rows_stand = between.contents.rows_stand;
      items = between.contents.items;
      entries = between.contents.entries;
      waiting = between.contents.waiting;
      memory_limit = between.contents.memory_limit;
      page_files_stand = record {
        same_limit = stand.same_limit;
        sheets = stand.sheets;
        slots = stand.slots;
        reserved = stand.reserved;
        job = no_job;
        job_slots = tt;
        job_lengths = tt;
        same_jobs = stand.same_jobs;
        same_paging = stand.same_paging;
      };
      recent = λ on. between.contents.recent on ∙ same_order none;
    };
    tables = record {
      renderers = between.tables.renderers;
      urls_stand = between.tables.urls_stand;
      files_stand = between.tables.files_stand;
      readers_stand = between.tables.readers_stand;
    };
    handles = between.handles;
    claims = between.claims;
    disk_stands = between.disk_stands;
    same_lines = ap (λ (n : ℕ). n + 1) between.same_lines;
    same_pieces = between.same_pieces;
    same_weight = between.same_weight;
  }

  left_unread : (page : PageNo)
      → Between s (heard h (events.Disk job) (answers.MoveUnread job page)) stands (counted (record parts { pages = turned_off parts.pages })) told table
  left_unread page = record {
    same_limits = between.same_limits;
    same_version = between.same_version;
    contents = record {
      names = between.contents.names;
      outlines_stand = between.contents.outlines_stand;
      marks = unmarked_right s h (heard h (events.Disk job) (answers.MoveUnread job page)) (builds (page_limit s) h) parts.book.entries
          between.contents.marks unmarked;
      rows_stand = between.contents.rows_stand;
      items = between.contents.items;
      entries = between.contents.entries;
      waiting = between.contents.waiting;
      memory_limit = between.contents.memory_limit;
      page_files_stand = record {
        same_limit = stand.same_limit;
        sheets = stand.sheets;
        slots = stand.slots;
        reserved = stand.reserved;
        job = no_job;
        job_slots = tt;
        job_lengths = tt;
        same_jobs = stand.same_jobs;
        same_paging = refl;
      };
      recent = λ on. absurd (false_true on);
    };
    tables = record {
      renderers = between.tables.renderers;
      urls_stand = between.tables.urls_stand;
      files_stand = between.tables.files_stand;
      readers_stand = between.tables.readers_stand;
    };
    handles = between.handles;
    claims = between.claims;
    disk_stands = between.disk_stands;
    same_lines = ap (λ (n : ℕ). n + 1) between.same_lines;
    same_pieces = between.same_pieces;
    same_weight = between.same_weight;
  }

  page_failed : (page : PageNo)
      → Between s (heard h (events.Disk job) (answers.PageFailed job page)) stands (unwritten parts) (with_change (changes.Torn page) told) table
  page_failed page = record {
    same_limits = between.same_limits;
    same_version = between.same_version;
    contents = record {
      names = between.contents.names;
      outlines_stand = between.contents.outlines_stand;
      marks = unmarked_right s h (heard h (events.Disk job) (answers.PageFailed job page)) (builds (page_limit s) h) parts.book.entries
          between.contents.marks unmarked;
      rows_stand = between.contents.rows_stand;
      items = between.contents.items;
      entries = between.contents.entries;
      waiting = between.contents.waiting;
      memory_limit = between.contents.memory_limit;
      page_files_stand = record {
        same_limit = stand.same_limit;
        sheets = sheets_torn;
        slots = slots_torn;
        reserved = stand.reserved;
        job = no_job;
        job_slots = tt;
        job_lengths = tt;
        same_jobs = stand.same_jobs;
        same_paging = refl;
      };
      recent = λ on. absurd (false_true on);
    };
    tables = record {
      renderers = between.tables.renderers;
      urls_stand = between.tables.urls_stand;
      files_stand = between.tables.files_stand;
      readers_stand = between.tables.readers_stand;
    };
    handles = between.handles;
    claims = between.claims;
    disk_stands = told_more s h (heard h (events.Disk job) (answers.PageFailed job page)) told (changes.Torn page) between.disk_stands refl;
    same_lines = ap (λ (n : ℕ). n + 1) between.same_lines;
    same_pieces = between.same_pieces;
    same_weight = between.same_weight;
  }

  move_failed : (page : PageNo)
      → Between s (heard h (events.Disk job) (answers.MoveFailed job page)) stands (unwritten parts) (with_change (changes.Torn page) told) table
  move_failed page = record {
    same_limits = between.same_limits;
    same_version = between.same_version;
    contents = record {
      names = between.contents.names;
      outlines_stand = between.contents.outlines_stand;
      marks = unmarked_right s h (heard h (events.Disk job) (answers.MoveFailed job page)) (builds (page_limit s) h) parts.book.entries
          between.contents.marks unmarked;
      rows_stand = between.contents.rows_stand;
      items = between.contents.items;
      entries = between.contents.entries;
      waiting = between.contents.waiting;
      memory_limit = between.contents.memory_limit;
      page_files_stand = record {
        same_limit = stand.same_limit;
        sheets = sheets_torn;
        slots = slots_torn;
        reserved = stand.reserved;
        job = no_job;
        job_slots = tt;
        job_lengths = tt;
        same_jobs = stand.same_jobs;
        same_paging = refl;
      };
      recent = λ on. absurd (false_true on);
    };
    tables = record {
      renderers = between.tables.renderers;
      urls_stand = between.tables.urls_stand;
      files_stand = between.tables.files_stand;
      readers_stand = between.tables.readers_stand;
    };
    handles = between.handles;
    claims = between.claims;
    disk_stands = told_more s h (heard h (events.Disk job) (answers.MoveFailed job page)) told (changes.Torn page) between.disk_stands refl;
    same_lines = ap (λ (n : ℕ). n + 1) between.same_lines;
    same_pieces = between.same_pieces;
    same_weight = between.same_weight;
  }

pub emptying : EmptyStands
emptying s h stands parts told table unmarked between job flies none = emptied s h stands parts told table unmarked between job flies none

pub page_failing : PageFailStands
page_failing s h stands parts told table unmarked between job flies page = page_failed s h stands parts told table unmarked between job flies page

pub move_failing : MoveFailStands
move_failing s h stands parts told table unmarked between job flies page = move_failed s h stands parts told table unmarked between job flies page

pub unread : UnreadStands
unread s h stands parts told table unmarked between job flies page = left_unread s h stands parts told table unmarked between job flies page
