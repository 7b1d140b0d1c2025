-- A page job starts: the parts stand for the history that tells it.
use Rattle.std.proofs.Common.{◌≡◌, ℕ, ◌+◌, ◌-◌, ◌==◌, ◌&&◌, ◌||◌, not, Bool, true, false, cond, List, [], ◌∷◌, map, length, min, nat_le}
use Rattle.std.proofs.Common.{refl, ap, sym, subst, ◌∙◌, Option, Some, None}
use Rattle.std.specs.Prelude.{filter, filter_map, IfSome, IsSomeAnd}
use Rattle.std.specs.Option.{option_map, option_map_or}
use Rattle.std.specs.List.{cons_option, list_any, AllByRecursion}
use Rattle.std.proofs.lemmas.Bool.{and_parts, eq-eqb}
use Rattle.answer_text.specs.declared.answer.Answer.TheVariants as answers
use Rattle.data_handles.specs.Table.{Table as HandleTable}
use Rattle.item_shares.specs.Shares.{item_at}
use Rattle.item_shares.specs.declared.item.Item.{Item}
use Rattle.item_shares.specs.declared.item.Item.TheVariants.{Memory, Paged, Reserved, File, Range}
use Rattle.item_shares.specs.declared.shares.Share.{Share}
use Rattle.page_disk.specs.declared.change.Change.{Change}
use Rattle.page_files.specs.Files.{room, with_job, Files}
use Rattle.page_files.specs.Items.{IsMemoryIn, IsMemoryOf}
use Rattle.page_files.specs.declared.held.Held.{Held}
use Rattle.page_files.specs.declared.job.Job.{Job}
use Rattle.recent_items.specs.Recent.{enough, within}
use Rattle.blob_model.specs.Builds.{build_in, Build, builds}
use Rattle.blob_model.specs.History.{History, said}
use Rattle.blob_model.specs.Jobs.{in_flight, is_in_job, next_job, Job as JobSaid}
use Rattle.blob_model.specs.Live.{is_live}
use Rattle.blob_model.specs.Pages.{in_memory, is_memory, is_reserved, place, unlisted_place}
use Rattle.blob_model.specs.Pieces.{length_in, pieces, Piece}
use Rattle.blob_model.specs.Session.{page_limit, Session}
use Rattle.blob_model.specs.Settle.{job_no, piece_list}
use Rattle.blob_model.specs.Standing.{is_done}
use Rattle.blob_model.specs.Victims.{last_uses, with_length}
use Rattle.blob_model.proofs.Lists.{for_each}
use Rattle.blob_model.proofs.builds.PieceNumbers.{all_by_number, pieces_numbered}
use Rattle.blob_model.proofs.disk.Settling.{numbers_list}
use Rattle.blob_model.proofs.settled.LateAnswers.{live_late}
use Rattle.model_bridges.specs.Bridges.{held_numbers, job_as}
use Rattle.store_laws.specs.Cells.{piece_in}
use Rattle.store_laws.specs.Items.{holds_piece, is_number, piece_by, IsPlaced, ItemsStand}
use Rattle.store_laws.specs.Late.{is_flyable, IsFlyable, LateCourse}
use Rattle.store_laws.specs.LateJobs.{without_all, with_page_job, PageJobsStand}
use Rattle.store_laws.specs.LateLists.{head_weight}
use Rattle.store_laws.specs.LineLaws.{AreUnmarked}
use Rattle.store_laws.specs.PageFiles.{with_held, IsSlotOf, PagesStand}
use Rattle.store_laws.specs.Rows.{Row}
use Rattle.store_laws.specs.Stands.{Between, Parts}
use Rattle.store_laws.specs.Uses.{facts_of, held_pieces, is_held, order_of, page_facts_of, pageable_of}
use Rattle.store_laws.proofs.HeldCounts.{at_slot}
use Rattle.store_laws.proofs.LateCourses.{course_goes}
use Rattle.store_laws.proofs.Letting.{filter_same, filter_twice}
use Rattle.store_laws.proofs.OrderLeft.{done_over, length_left, number_kept, passing, uses_left}
use Rattle.store_laws.proofs.Pageable.{none_passes}
use Rattle.store_laws.proofs.PassUses.{three}
use Rattle.store_laws.proofs.Unmarked.{unmarked_right}

-- ---- what all in the order of use have, all victims have

module _ (P : ℕ × ℕ → Type 0) where
  pub all_within : (most : ℕ) (order : List (ℕ × ℕ)) → AllByRecursion P order → AllByRecursion P (within most order)
  all_within most [] all = tt
  all_within most (entry ∷ order) all = go (nat_le entry.1 most) (all_within (most - entry.1) order all.1)
    where
      go : (b : Bool) → AllByRecursion P (within (most - entry.1) order) → AllByRecursion P (cond b (entry ∷ within (most - entry.1) order) [])
      go true rest = (all.0, rest)
      go false rest = tt

  pub all_enough : (need : ℕ) (order : List (ℕ × ℕ)) → AllByRecursion P order → AllByRecursion P (enough need order)
  all_enough need [] all = tt
  all_enough need (entry ∷ order) all = go (nat_le need 0) (all_enough (need - entry.1) order all.1)
    where
      go : (b : Bool) → AllByRecursion P (enough (need - entry.1) order) → AllByRecursion P (cond b [] (entry ∷ enough (need - entry.1) order))
      go true rest = tt
      go false rest = (all.0, rest)

  pub all_victims : (need most : ℕ) (order : List (ℕ × ℕ)) → AllByRecursion P order → AllByRecursion P (within most (enough need order))
  all_victims need most order all = all_within most (enough need order) (all_enough need order all)

pub all_numbers : (P : ℕ × ℕ → Type 0) (Q : ℕ → Type 0) (order : List (ℕ × ℕ)) → ((entry : ℕ × ℕ) → P entry → Q entry.0) → AllByRecursion P order
    → AllByRecursion Q (map (λ (entry : ℕ × ℕ). entry.0) order)
all_numbers P Q [] f all = tt
all_numbers P Q (entry ∷ order) f all = (f entry all.0, all_numbers P Q order f all.1)

-- ---- the order of use without the pieces of the job

module _ (test : ℕ → Bool) where
  pub told_left : (list : List Piece) (uses : List ℕ)
      → filter_map (with_length (passing test list)) uses ≡ filter (λ (entry : ℕ × ℕ). test entry.0) (filter_map (with_length list) uses)
  told_left list uses = (λ i. filter_map (λ (n : ℕ). length_left test list n i) uses) ∙ uses_left test list uses

-- each is told with its length
all_told : (list : List Piece) (uses : List ℕ)
    → AllByRecursion (λ (entry : ℕ × ℕ). with_length list entry.0 ≡ Some entry) (filter_map (with_length list) uses)
all_told list [] = tt
all_told list (n ∷ uses) = go (with_length list n) refl (all_told list uses)
  where
    go : (o : Option (ℕ × ℕ)) → with_length list n ≡ o
        → AllByRecursion (λ (entry : ℕ × ℕ). with_length list entry.0 ≡ Some entry) (filter_map (with_length list) uses)
        → AllByRecursion (λ (entry : ℕ × ℕ). with_length list entry.0 ≡ Some entry) (cons_option o (filter_map (with_length list) uses))
    go None at rest = rest
    go (Some entry) at rest = (ap (with_length list) (number_kept (λ (m : ℕ). true) list n entry at) ∙ at, rest)

-- what is found among those that pass a test passes
passed_test : (q : Piece → Bool) (number : ℕ) (list : List Piece) (one : Piece) (entry : ℕ × ℕ)
    → AllByRecursion (λ (piece : Piece). piece_in list piece.number ≡ Some piece) list → with_length (filter q list) number ≡ Some entry
    → piece_in list number ≡ Some one → q one ≡ true
passed_test q number list one entry all told found = go (q one) refl
  where
    go : (b : Bool) → q one ≡ b → q one ≡ true
    go true is = is
    go false is =
        let none =
        none_passes q number list
        (for_each (λ (piece : Piece). piece_in list piece.number ≡ Some piece) (λ (piece : Piece). piece.number ≡ number → q piece ≡ false) list
        (λ piece at same. let is_one : piece ≡ one = cc (sym at ∙ ap (piece_in list) same ∙ found) in ap q is_one ∙ is) all) in
        let bad : None ≡ Some entry = sym (ap (option_map (λ (piece : Piece). (piece.number, piece.len))) none) ∙ told in
        absurd (cc bad)

-- ---- pieces in memory, each in its slot

module _ (shares : List (Option Share)) where
  slot_of : (held : Held) → IsMemoryIn shares held → IsSlotOf shares held
  slot_of held is = by (item_at shares held.slot) is
    where
      by : (o : Option Item) → IsSomeAnd o (IsMemoryOf held) → piece_by o ≡ Some held.piece.0
      by None is = absurd is
      by (Some (Memory piece bytes)) is = ap {B = Option ℕ} (λ p. Some p.0) is.0
      by (Some (Paged piece page off len)) is = absurd is
      by (Some (Reserved piece len)) is = absurd is
      by (Some (File name stamp off len)) is = absurd is
      by (Some (Range k off len)) is = absurd is

  pub all_held : (list : List Held) → AllByRecursion (IsSlotOf shares) list → filter (holds_piece shares) (held_numbers list) ≡ held_numbers list
  all_held [] all = refl
  all_held (held ∷ list) all =
      ap (λ (b : Bool). cond b (held.piece.0 ∷ filter (holds_piece shares) (held_numbers list)) (filter (holds_piece shares) (held_numbers list)))
      (at_slot held.piece.0 held.slot shares (ap (is_number held.piece.0) all.0 ∙ eq-eqb held.piece.0 held.piece.0 refl))
      ∙ ap (λ (rest : List ℕ). held.piece.0 ∷ rest) (all_held list all.1)

  module _ (s : Session) (h : History) (items : ItemsStand (pieces (page_limit s) h) (facts_of s h) shares) where
    abbrev all : List Piece
    all = pieces (page_limit s) h

    -- the piece of an item in memory, as long as that
    there : (held : Held) → IsMemoryIn shares held → IsSomeAnd (piece_in all held.piece.0) (λ (one : Piece). held.len ≡ one.len)
    there held is = by (item_at shares held.slot) is (items.each held.slot)
      where
        by : (o : Option Item) → IsSomeAnd o (IsMemoryOf held) → IfSome o (IsPlaced all (facts_of s h))
            → IsSomeAnd (piece_in all held.piece.0) (λ (one : Piece). held.len ≡ one.len)
        by None is placed = absurd is
        by (Some (Memory piece bytes)) is placed =
            subst (λ (n : ℕ). IsSomeAnd (piece_in all n) (λ (one : Piece). held.len ≡ one.len)) (ap {B = ℕ} (λ p. p.0) is.0)
            (long (piece_in all piece.0) placed)
          where
            long : (o : Option Piece)
                → IsSomeAnd o (λ (one : Piece). ((facts_of s h).granted one ≡ true) × ((facts_of s h).place one ≡ in_memory)
                × (bytes ≡ (facts_of s h).bytes one) × (length bytes ≡ one.len))
                → IsSomeAnd o (λ (one : Piece). held.len ≡ one.len)
            long None placed = absurd placed
            long (Some one) placed = sym is.1 ∙ placed.3
        by (Some (Paged piece page off len)) is placed = absurd is
        by (Some (Reserved piece len)) is placed = absurd is
        by (Some (File name stamp off len)) is placed = absurd is
        by (Some (Range k off len)) is placed = absurd is

    long_as : (held : Held) → IsMemoryIn shares held → held.len ≡ length_in all held.piece.0
    long_as held is = by (piece_in all held.piece.0) (there held is)
      where
        by : (o : Option Piece) → IsSomeAnd o (λ (one : Piece). held.len ≡ one.len) → held.len ≡ option_map_or (λ (piece : Piece). piece.len) o 0
        by None is = absurd is
        by (Some one) is = is

-- ---- the page files with the job

pub idle : (is_held : ℕ → Bool) (flying : Option JobSaid) (job : Option Job) → option_map job_as job ≡ option_map (with_held is_held) flying → job ≡ None
    → flying ≡ None
idle is_held None job same none = refl
idle is_held (Some one) job same none =
    let bad : None ≡ Some (with_held is_held one) = sym (ap (option_map job_as) none) ∙ same in absurd (cc bad)

module _ (s : Session) (h : History) (list : List Held) where
  abbrev job_numbers : List ℕ
  job_numbers = held_numbers list

  abbrev g : History
  g = said h (answers.Job (job_no (next_job h)) (piece_list (held_numbers list)))

  module _ (shares : List (Option Share)) (files : Files) (items : ItemsStand (pieces (page_limit s) h) (facts_of s h) shares)
      (memory : AllByRecursion (IsMemoryIn shares) list) where
    in_slots : AllByRecursion (IsSlotOf shares) list
    in_slots = for_each (IsMemoryIn shares) (IsSlotOf shares) list (slot_of shares) memory

    pages_started : PagesStand (pieces (page_limit s) h) (page_facts_of h) s.limits.disk shares files
        → PagesStand (pieces (page_limit s) g) (page_facts_of g) s.limits.disk shares (with_job None list files)
    pages_started stand = record {
      same_limit = stand.same_limit;
      sheets = stand.sheets;
      slots = stand.slots;
      reserved = stand.reserved;
      job = λ i. Some (record {
        number = stand.same_jobs i;
        source = None;
        pieces = sym (ap (filter (holds_piece shares)) (numbers_list job_numbers) ∙ all_held shares list in_slots) i;
      });
      job_slots = in_slots;
      job_lengths = for_each (IsMemoryIn shares) (λ (held : Held). held.len ≡ length_in (pieces (page_limit s) h) held.piece.0) list
          (long_as shares s h items) memory;
      same_jobs = ap (λ (n : ℕ). n + 1) stand.same_jobs;
      same_paging = stand.same_paging;
    }

  -- ---- the order of use

  module _ (none : in_flight h ≡ None) (shares : List (Option Share)) (rows : List (Option Row)) where
    abbrev stays : ℕ → Bool
    stays n = not (list_any (λ (number : ℕ). number == n) job_numbers)

    abbrev before : List Piece
    before = pageable_of (page_limit s) h (held_pieces (page_limit s) h shares rows)

    not_in_job : (n : ℕ) → is_in_job h n ≡ false
    not_in_job n = ap (λ (o : Option JobSaid). option_map_or (λ (job : JobSaid). list_any (λ (named : ℕ). named == n) job.pieces) o false) none

    now_in_job : (n : ℕ) → is_in_job g n ≡ list_any (λ (number : ℕ). number == n) job_numbers
    now_in_job n = ap (list_any (λ (named : ℕ). named == n)) (numbers_list job_numbers)

    left : pageable_of (page_limit s) g (held_pieces (page_limit s) g shares rows) ≡ passing stays before
    left =
        filter_same (λ (piece : Piece). is_done h piece.blob && not (is_in_job g piece.number))
        (λ (piece : Piece). (is_done h piece.blob && not (is_in_job h piece.number)) && stays piece.number)
        (filter (λ (piece : Piece). is_memory (place (page_limit s) h piece)) (held_pieces (page_limit s) h shares rows))
        (λ piece. by (is_done h piece.blob) (stays piece.number) (is_in_job g piece.number) (is_in_job h piece.number) (ap not (now_in_job piece.number))
        (not_in_job piece.number))
        ∙ sym (filter_twice (λ (piece : Piece). is_done h piece.blob && not (is_in_job h piece.number)) (λ (piece : Piece). stays piece.number)
        (filter (λ (piece : Piece). is_memory (place (page_limit s) h piece)) (held_pieces (page_limit s) h shares rows)))
      where
        by : (done out now was : Bool) → not now ≡ out → was ≡ false → (done && not now) ≡ ((done && not was) && out)
        by done out now was is isnt = (λ i. done && is i) ∙ same done ∙ (λ i. (done && not (sym isnt i)) && out)
          where
            same : (b : Bool) → (b && out) ≡ ((b && true) && out)
            same true = refl
            same false = refl

    order_started : (order : List (ℕ × ℕ)) → order ≡ order_of s h shares rows → without_all job_numbers order ≡ order_of s g shares rows
    order_started order is =
        ap (without_all job_numbers) is ∙ sym (told_left stays before (last_uses s.limits h))
        ∙ (λ i. filter_map (with_length (sym left i)) (last_uses s.limits h))

-- ---- whose blobs are done

module _ (s : Session) (h : History) (shares : List (Option Share)) (rows : List (Option Row)) where
  abbrev pageables : List Piece
  pageables = pageable_of (page_limit s) h (held_pieces (page_limit s) h shares rows)

  abbrev passes : Piece → Bool
  passes piece =
      (is_held (builds (page_limit s) h) shares rows piece && is_memory (place (page_limit s) h piece))
      && (is_done h piece.blob && not (is_in_job h piece.number))

  done_there : (number : ℕ) (one : Piece) (entry : ℕ × ℕ) → with_length pageables number ≡ Some entry → piece_in (pieces (page_limit s) h) number ≡ Some one
      → is_done h one.blob ≡ true
  done_there number one entry told found =
      let is =
      passed_test passes number (pieces (page_limit s) h) one entry
      (all_by_number 0 (pieces (page_limit s) h) (pieces_numbered (page_limit s) 0 (builds (page_limit s) h)))
      (ap (λ (list : List Piece). with_length list number)
      (sym (three (λ (piece : Piece). is_held (builds (page_limit s) h) shares rows piece) (λ (piece : Piece). is_memory (place (page_limit s) h piece))
      (λ (piece : Piece). is_done h piece.blob && not (is_in_job h piece.number)) (pieces (page_limit s) h))) ∙ told) found in
      (and_parts (is_done h one.blob) (not (is_in_job h one.number))
      (and_parts (is_held (builds (page_limit s) h) shares rows one && is_memory (place (page_limit s) h one))
      (is_done h one.blob && not (is_in_job h one.number)) is).1).0

  flies : (held : Held) → IsSomeAnd (piece_in (pieces (page_limit s) h) held.piece.0) (λ (one : Piece). held.len ≡ one.len)
      → IsSomeAnd (with_length pageables held.piece.0) (λ (entry : ℕ × ℕ). Unit {0}) → IsFlyable (page_limit s) h held.piece.0
  flies held found told = by (piece_in (pieces (page_limit s) h) held.piece.0) refl found (with_length pageables held.piece.0) refl told
    where
      by : (o : Option Piece) → piece_in (pieces (page_limit s) h) held.piece.0 ≡ o → IsSomeAnd o (λ (one : Piece). held.len ≡ one.len)
          → (t : Option (ℕ × ℕ)) → with_length pageables held.piece.0 ≡ t → IsSomeAnd t (λ (entry : ℕ × ℕ). Unit {0})
          → IsSomeAnd o (λ (piece : Piece). is_flyable (page_limit s) h piece ≡ true)
      by None at found t told is = absurd found
      by (Some one) at found None told is = absurd is
      by (Some one) at found (Some entry) told is =
          ap (λ (b : Bool). not b || is_reserved (unlisted_place (build_in (builds (page_limit s) h) one.blob)))
          (done_over h one.blob (done_there held.piece.0 one entry told at))

  all_fly : (list : List Held) → AllByRecursion (λ (held : Held). IsSomeAnd (piece_in (pieces (page_limit s) h) held.piece.0)
      (λ (one : Piece). held.len ≡ one.len)) list
      → AllByRecursion (λ (number : ℕ). IsSomeAnd (with_length pageables number) (λ (entry : ℕ × ℕ). Unit {0})) (held_numbers list)
      → AllByRecursion (IsFlyable (page_limit s) h) (held_numbers list)
  all_fly [] found told = tt
  all_fly (held ∷ list) found told = (flies held found.0 told.0, all_fly list found.1 told.1)

  -- what is taken is told
  taken_told : (need most : ℕ) (order : List (ℕ × ℕ)) → order ≡ order_of s h shares rows
      → AllByRecursion (λ (number : ℕ). IsSomeAnd (with_length pageables number) (λ (entry : ℕ × ℕ). Unit {0}))
      (map (λ (entry : ℕ × ℕ). entry.0) (within most (enough need order)))
  taken_told need most order is =
      all_numbers (λ (entry : ℕ × ℕ). with_length pageables entry.0 ≡ Some entry)
      (λ (number : ℕ). IsSomeAnd (with_length pageables number) (λ (entry : ℕ × ℕ). Unit {0})) (within most (enough need order))
      (λ entry at. some (with_length pageables entry.0) entry at)
      (all_victims (λ (entry : ℕ × ℕ). with_length pageables entry.0 ≡ Some entry) need most order
      (subst (AllByRecursion (λ (entry : ℕ × ℕ). with_length pageables entry.0 ≡ Some entry)) (sym is) (all_told pageables (last_uses s.limits h))))
    where
      some : (o : Option (ℕ × ℕ)) (entry : ℕ × ℕ) → o ≡ Some entry → IsSomeAnd o (λ (entry : ℕ × ℕ). Unit {0})
      some None entry e = absurd (cc e)
      some (Some one) entry e = tt

-- ---- the law

module _ (s : Session) (h : History) (list : List Held) where
  abbrev later : History
  later = said h (answers.Job (job_no (next_job h)) (piece_list (held_numbers list)))

  lives : is_live (page_limit s) later ≡ is_live (page_limit s) h
  lives =
      λ i name. list_any (λ (build : Build). build.name == name)
      (live_late (page_limit s) h (answers.Job (job_no (next_job h)) (piece_list (held_numbers list)) ∷ []) (refl, tt) i)

  course_started : LateCourse s h → AllByRecursion (IsFlyable (page_limit s) h) (held_numbers list) → LateCourse s later
  course_started course fly =
      course_goes s h (answers.Job (job_no (next_job h)) (piece_list (held_numbers list))) refl
      (subst (AllByRecursion (IsFlyable (page_limit s) h)) (sym (numbers_list (held_numbers list))) fly) course

  between_started : (stands : ℕ → Bool) (parts : Parts) (told : Option (List Change)) (table : HandleTable) → AreUnmarked parts.book.entries
      → Between s h stands parts told table → parts.pages.job ≡ None → AllByRecursion (IsMemoryIn parts.shares) list
      → Between s later stands (with_page_job list parts) told table
  between_started stands parts told table unmarked between none memory = record {
    same_limits = between.same_limits;
    same_version = between.same_version;
    contents = record {
      names = between.contents.names;
      outlines_stand = between.contents.outlines_stand;
      marks = unmarked_right s h later (builds (page_limit s) h) parts.book.entries between.contents.marks unmarked;
      rows_stand = between.contents.rows_stand;
      items = between.contents.items;
      entries = between.contents.entries;
      waiting = between.contents.waiting;
      memory_limit = between.contents.memory_limit;
      page_files_stand = pages_started s h list parts.shares parts.pages between.contents.items memory between.contents.page_files_stand;
      recent = λ on.
          order_started s h list (idle (holds_piece parts.shares) (in_flight h) parts.pages.job between.contents.page_files_stand.job none) parts.shares
          parts.rows parts.recent (between.contents.recent on);
    };
    tables = record {
      renderers = between.tables.renderers;
      urls_stand = between.tables.urls_stand;
      files_stand = between.tables.files_stand;
      readers_stand = between.tables.readers_stand;
    };
    handles = between.handles;
    claims = between.claims;
    disk_stands = between.disk_stands;
    same_lines = between.same_lines;
    same_pieces = between.same_pieces;
    same_weight = between.same_weight;
  }

pub page_jobs_stand : PageJobsStand
page_jobs_stand s h parts told table late on none list are memory =
    let contents = late.between.contents in
    let order : parts.recent ≡ order_of s h parts.shares parts.rows = contents.recent (sym contents.page_files_stand.same_paging ∙ on) in
    record {
      course = course_started s h list late.course
          (all_fly s h parts.shares parts.rows list
          (for_each (IsMemoryIn parts.shares)
          (λ (held : Held). IsSomeAnd (piece_in (pieces (page_limit s) h) held.piece.0) (λ (one : Piece). held.len ≡ one.len)) list
          (there parts.shares s h contents.items) memory)
          (subst
          (AllByRecursion (λ (number : ℕ).
          IsSomeAnd (with_length (pageables s h parts.shares parts.rows) number) (λ (entry : ℕ × ℕ). Unit {0})))
          (sym are)
          (taken_told s h parts.shares parts.rows (parts.quota.used + head_weight parts.quota.waiting - parts.quota.limit)
          (min s.limits.page (room parts.pages)) parts.recent order)));
      between = subst (λ (alive : ℕ → Bool).
          Between s (later s h list) alive (with_page_job list parts) told table) (sym (lives s h list))
          (between_started s h list (is_live (page_limit s) h) parts told table late.unmarked late.between none memory);
      unmarked = late.unmarked;
    }
