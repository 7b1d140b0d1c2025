-- The parts stand behind the removal of a page file that was due, and answers for all that were due are the removals owed.
use Rattle.std.proofs.Common.{◌≡◌, ℕ, zero, suc, ◌+◌, ◌<◌, ◌==◌, Bool, true, false, ◌||◌, not, List, [], ◌∷◌, ◌++◌, map, length, get_or, set}
use Rattle.std.proofs.Common.{refl, ap, sym, subst, ◌∙◌, arith, Option, Some, None, cond}
use Rattle.std.proofs.lemmas.List.{map-append}
use Rattle.std.specs.Prelude.{filter, if◌then◌else◌, sum_by}
use Rattle.std.specs.Option.{option_map}
use Rattle.std.specs.List.{list_any, position, AllByRecursion}
use Rattle.std.proofs.lemmas.Bool.{eq-eqb, ne_eqb, or_parts}
use Rattle.std.proofs.lemmas.List.Folds.{list_any-append}
use Rattle.std.proofs.lemmas.List.Quantifiers.{position-Some}
use Rattle.answer_text.specs.declared.answer.Answer.{Answer}
use Rattle.answer_text.specs.declared.answer.Answer.TheVariants as answers
use Rattle.data_handles.specs.Table.{Table as HandleTable}
use Rattle.item_shares.specs.declared.shares.Share.{Share}
use Rattle.page_disk.specs.Changes.{with_change}
use Rattle.page_disk.specs.declared.change.Change.{Change}
use Rattle.page_files.specs.Files.{asked, removal}
use Rattle.page_files.specs.Pages.{is_due, pieces_of}
use Rattle.page_files.specs.declared.page.Page.{Page as FilePage}
use Rattle.page_files.specs.declared.page.Page.TheVariants.{Torn, Whole, Asked}
use Rattle.model_bridges.specs.Bridges.{change_as}
use Rattle.blob_model.specs.Builds.{Build, builds}
use Rattle.blob_model.specs.Changes.{Change as DiskChange, changes as changes_of}
use Rattle.blob_model.specs.History.{History, said}
use Rattle.blob_model.specs.Legal.{left_files}
use Rattle.blob_model.specs.Live.{is_live, live}
use Rattle.blob_model.specs.Pages.{Page, asked as asked_of, pages}
use Rattle.blob_model.specs.Pieces.{Piece, pieces, length_in}
use Rattle.blob_model.specs.Session.{Session, page_limit}
use Rattle.blob_model.specs.Settle.{is_due as is_due_in, page_no, removal as removal_of}
use Rattle.blob_model.specs.Tally.{files}
use Rattle.blob_model.proofs.Lists.{false_true, for_both, AreApart}
use Rattle.blob_model.proofs.settled.LateAnswers.{live_late}
use Rattle.store_laws.specs.Late.{AreOwed, IsLate, LateCourse}
use Rattle.store_laws.specs.LateLaws.{due_numbers, told_of, without_page, RemovalsStand}
use Rattle.store_laws.specs.PageFiles.{gone, holds_paged, sheet, sheet_of, sheets_from, whole, writes, IsSlotOf, PageFacts, PagesStand, Sheet, placed_from}
use Rattle.store_laws.specs.PageLaws.{numbered_pages}
use Rattle.store_laws.specs.Stands.{Between, Parts}
use Rattle.store_laws.specs.Tables.{told_changes}
use Rattle.store_laws.specs.Uses.{page_facts_of}
use Rattle.store_laws.proofs.DuePages.{due_told, least_due, nothing_due}
use Rattle.store_laws.proofs.LateCourses.{course_goes}
use Rattle.store_laws.proofs.Unmarked.{unmarked_right}

-- ---- sheets once a page was asked for

-- a page that is due was written whole
due_whole : (page : FilePage) → is_due page ≡ true → (size : ℕ) × (sheet page ≡ whole size [])
due_whole Torn e = absurd (false_true e)
due_whole (Whole size []) e = (size, refl)
due_whole (Whole size (held ∷ pieces)) e = absurd (false_true e)
due_whole Asked e = absurd (false_true e)

module _ (all : List Piece) (held : ℕ → ℕ → Bool) (before : List ℕ) where
  -- it is gone where it was written whole
  sheet_gone : (n : ℕ) (one : Option (List ℕ)) (size : ℕ) → sheet_of all held before n one ≡ whole size []
      → sheet_of all held (before ++ n ∷ []) n one ≡ gone
  sheet_gone n None size e = absurd (cc e)
  sheet_gone n (Some list) size e =
      let last : list_any (λ (each : ℕ). each == n) (before ++ n ∷ []) ≡ true =
      list_any-append (λ (each : ℕ). each == n) before (n ∷ []) ∙ ap (λ (b : Bool). list_any (λ (each : ℕ). each == n) before || (b || false))
      (eq-eqb n n refl) ∙ or_true (list_any (λ (each : ℕ). each == n) before) in
      ap (λ (b : Bool). cond b gone (whole (sum_by (length_in all) list) (placed_from all (held n) 0 list))) last
    where
      or_true : (b : Bool) → (b || true) ≡ true
      or_true true = refl
      or_true false = refl

  -- every other is what it was
  sheet_other : (n k : ℕ) (one : Option (List ℕ)) → (n == k) ≡ false → sheet_of all held (before ++ n ∷ []) k one ≡ sheet_of all held before k one
  sheet_other n k None other = refl
  sheet_other n k (Some list) other =
      let same : list_any (λ (each : ℕ). each == k) (before ++ n ∷ []) ≡ list_any (λ (each : ℕ). each == k) before =
      list_any-append (λ (each : ℕ). each == k) before (n ∷ [])
      ∙ ap (λ (b : Bool). list_any (λ (each : ℕ). each == k) before || (b || false)) other ∙ or_none (list_any (λ (each : ℕ). each == k) before) in
      ap (λ (b : Bool). cond b gone (whole (sum_by (length_in all) list) (placed_from all (held k) 0 list))) same
    where
      or_none : (b : Bool) → (b || false) ≡ b
      or_none true = refl
      or_none false = refl

  sheets_above : (n k : ℕ) (written : List (Option (List ℕ))) → n < k → sheets_from all held (before ++ n ∷ []) k written
      ≡ sheets_from all held before k written
  sheets_above n k [] less = refl
  sheets_above n k (one ∷ written) less =
      let other : (n == k) ≡ false = ne_eqb n k (λ same. absurd (omega (arith, same, less))) in
      ap (λ (x : Sheet). x ∷ sheets_from all held (before ++ n ∷ []) (k + 1) written) (sheet_other n k one other)
      ∙ ap (λ (xs : List Sheet). sheet_of all held before k one ∷ xs) (sheets_above n (k + 1) written (omega (arith, less)))

  sheets_asked : (k place : ℕ) (written : List (Option (List ℕ))) (list : List FilePage) → map sheet list ≡ sheets_from all held before k written
      → place < length list → is_due (get_or list place Asked) ≡ true
      → map sheet (set list place Asked) ≡ sheets_from all held (before ++ (k + place) ∷ []) k written
  sheets_asked k place written [] e within due = absurd (omega (arith, within))
  sheets_asked k place [] (page ∷ list) e within due = absurd (cc e)
  sheets_asked k zero (one ∷ written) (page ∷ list) e within due =
      let first : sheet page ≡ sheet_of all held before k one = cc in
      let rest : map sheet list ≡ sheets_from all held before (k + 1) written = cc in
      let is = due_whole page due in
      let here : k ≡ k + 0 = omega arith in
      ap (λ (x : Sheet). x ∷ map sheet list) (sym (sheet_gone k one is.0 (sym first ∙ is.1)))
      ∙ ap (λ (xs : List Sheet). sheet_of all held (before ++ k ∷ []) k one ∷ xs)
      (rest ∙ sym (sheets_above k (k + 1) written (omega arith)))
      ∙ ap (λ (n : ℕ). sheets_from all held (before ++ n ∷ []) k (one ∷ written)) here
  sheets_asked k (suc place) (one ∷ written) (page ∷ list) e within due =
      let first : sheet page ≡ sheet_of all held before k one = cc in
      let rest : map sheet list ≡ sheets_from all held before (k + 1) written = cc in
      let shift : (k + 1) + place ≡ k + suc place = omega arith in
      let other : ((k + suc place) == k) ≡ false = ne_eqb (k + suc place) k (λ same. absurd (omega (arith, same))) in
      ap (λ (x : Sheet). x ∷ map sheet (set list place Asked)) (first ∙ sym (sheet_other (k + suc place) k one other))
      ∙ ap (λ (xs : List Sheet). sheet_of all held (before ++ (k + suc place) ∷ []) k one ∷ xs)
      (sheets_asked (k + 1) place written list rest (omega (arith, within)) due
      ∙ ap (λ (n : ℕ). sheets_from all held (before ++ n ∷ []) (k + 1) written) shift)

slots_asked : (shares : List (Option Share)) (list : List FilePage) (place : ℕ)
    → AllByRecursion (λ (page : FilePage). AllByRecursion (IsSlotOf shares) (pieces_of page)) list
    → AllByRecursion (λ (page : FilePage). AllByRecursion (IsSlotOf shares) (pieces_of page)) (set list place Asked)
slots_asked shares [] place all = tt
slots_asked shares (page ∷ list) zero all = (tt, all.1)
slots_asked shares (page ∷ list) (suc place) all = (all.0, slots_asked shares list place all.1)

-- ---- the parts behind a removal

module _ (s : Session) (h : History) (parts : Parts) (told : Option (List Change)) (table : HandleTable) (late : IsLate s h parts told table) (page : ℕ)
    (due : position is_due parts.pages.pages ≡ Some page) where
  abbrev stand : PagesStand (pieces (page_limit s) h) (page_facts_of h) s.limits.disk parts.shares parts.pages
  stand = late.between.contents.page_files_stand

  found : (page < length parts.pages.pages) × (is_due (get_or parts.pages.pages page Asked) ≡ true)
      × ((k : ℕ) → k < page → is_due (get_or parts.pages.pages k Asked) ≡ false)
  found = position-Some is_due parts.pages.pages page Asked due

  plain : 0 + page ≡ page
  plain = omega arith

  pages_behind : (g : History) → page_facts_of g ≡ record (page_facts_of h) { asked = asked_of h ++ page ∷ [] }
      → PagesStand (pieces (page_limit s) h) (page_facts_of g) s.limits.disk parts.shares (asked page parts.pages)
  pages_behind g facts =
      subst (λ (f : PageFacts). PagesStand (pieces (page_limit s) h) f s.limits.disk parts.shares (asked page parts.pages)) (sym facts)
      (record {
        same_limit = stand.same_limit;
        sheets = sheets_asked (pieces (page_limit s) h) (holds_paged parts.shares) (asked_of h) 0 page (writes h) parts.pages.pages stand.sheets
            found.0 found.1
            ∙ ap (λ (n : ℕ). sheets_from (pieces (page_limit s) h) (holds_paged parts.shares) (asked_of h ++ n ∷ []) 0 (writes h)) plain;
        slots = slots_asked parts.shares parts.pages.pages page stand.slots;
        reserved = stand.reserved;
        job = stand.job;
        job_slots = stand.job_slots;
        job_lengths = stand.job_lengths;
        same_jobs = stand.same_jobs;
        same_paging = stand.same_paging;
      })

  -- the changes told have the removal
  told_behind : (change : Change) (g : History) → changes_of s g ≡ changes_of s h ++ change_as change ∷ []
      → option_map (map change_as) (with_change change told) ≡ told_changes s g
  told_behind change g more = by told s.outside.disk_tells late.between.disk_stands
    where
      by : (told : Option (List Change)) (tells : Bool) → option_map (map change_as) told ≡ cond {A = Option (List DiskChange)} tells (Some (changes_of s h)) None
          → option_map (map change_as) (with_change change told) ≡ cond {A = Option (List DiskChange)} tells (Some (changes_of s g)) None
      by None true e = absurd (cc e)
      by None false e = refl
      by (Some list) true e =
          let same : map change_as list ≡ changes_of s h = cc e in
          ap (λ (xs : List DiskChange). Some xs)
          (map-append change_as list (change ∷ []) ∙ ap (λ (xs : List DiskChange). xs ++ change_as change ∷ []) same ∙ sym more)
      by (Some list) false e = absurd (cc e)

  lives : (answer : Answer) → live (page_limit s) (said h answer) ≡ live (page_limit s) h
      → is_live (page_limit s) h ≡ is_live (page_limit s) (said h answer)
  lives answer same = λ i name. list_any (λ (build : Build). build.name == name) (sym same i)

  between_removed : Between s (said h (answers.Removed (page_no page))) (is_live (page_limit s) h) (without_page page parts)
      (with_change (removal page true) told) table
  between_removed = record {
    same_limits = late.between.same_limits;
    same_version = late.between.same_version;
    contents = record {
      names = late.between.contents.names;
      outlines_stand = late.between.contents.outlines_stand;
      marks = unmarked_right s h (said h (answers.Removed (page_no page))) (builds (page_limit s) h) parts.book.entries late.between.contents.marks
          late.unmarked;
      rows_stand = late.between.contents.rows_stand;
      items = late.between.contents.items;
      entries = late.between.contents.entries;
      waiting = late.between.contents.waiting;
      memory_limit = late.between.contents.memory_limit;
      page_files_stand = pages_behind (said h (answers.Removed (page_no page))) refl;
      recent = late.between.contents.recent;
    };
    tables = record {
      renderers = late.between.tables.renderers;
      urls_stand = late.between.tables.urls_stand;
      files_stand = late.between.tables.files_stand;
      readers_stand = late.between.tables.readers_stand;
    };
    handles = late.between.handles;
    claims = late.between.claims;
    disk_stands = told_behind (removal page true) (said h (answers.Removed (page_no page))) refl;
    same_lines = late.between.same_lines;
    same_pieces = late.between.same_pieces;
    same_weight = late.between.same_weight;
  }

  between_left : Between s (said h (answers.Left (page_no page))) (is_live (page_limit s) h) (without_page page parts)
      (with_change (removal page false) told) table
  between_left = record {
    same_limits = late.between.same_limits;
    same_version = late.between.same_version;
    contents = record {
      names = late.between.contents.names;
      outlines_stand = late.between.contents.outlines_stand;
      marks = unmarked_right s h (said h (answers.Left (page_no page))) (builds (page_limit s) h) parts.book.entries late.between.contents.marks
          late.unmarked;
      rows_stand = late.between.contents.rows_stand;
      items = late.between.contents.items;
      entries = late.between.contents.entries;
      waiting = late.between.contents.waiting;
      memory_limit = late.between.contents.memory_limit;
      page_files_stand = pages_behind (said h (answers.Left (page_no page))) refl;
      recent = late.between.contents.recent;
    };
    tables = record {
      renderers = late.between.tables.renderers;
      urls_stand = late.between.tables.urls_stand;
      files_stand = late.between.tables.files_stand;
      readers_stand = late.between.tables.readers_stand;
    };
    handles = late.between.handles;
    claims = late.between.claims;
    disk_stands = told_behind (removal page false) (said h (answers.Left (page_no page))) refl;
    same_lines = late.between.same_lines;
    same_pieces = late.between.same_pieces;
    same_weight = late.between.same_weight;
  }

  abbrev now : Parts
  now = without_page page parts

  removed_late : IsLate s (said h (answers.Removed (page_no page))) now (with_change (removal page true) told) table
  removed_late = record {
    course = course_goes s h (answers.Removed (page_no page)) refl late.course.flying late.course;
    between = subst (λ (stands : ℕ → Bool). Between s (said h (answers.Removed (page_no page))) stands now (with_change (removal page true) told) table)
        (lives (answers.Removed (page_no page)) (live_late (page_limit s) h (answers.Removed (page_no page) ∷ []) (refl, tt))) between_removed;
    unmarked = late.unmarked;
  }

  left_late : IsLate s (said h (answers.Left (page_no page))) now (with_change (removal page false) told) table
  left_late = record {
    course = course_goes s h (answers.Left (page_no page)) refl late.course.flying late.course;
    between = subst (λ (stands : ℕ → Bool). Between s (said h (answers.Left (page_no page))) stands now (with_change (removal page false) told) table)
        (lives (answers.Left (page_no page)) (live_late (page_limit s) h (answers.Left (page_no page) ∷ []) (refl, tt))) between_left;
    unmarked = late.unmarked;
  }

  removal_late : (goes : Bool) → IsLate s (said h (told_of (page, goes))) now (with_change (removal page goes) told) table
  removal_late true = removed_late
  removal_late false = left_late

-- ---- the answers for all of them

-- how a removal is told by its number
abbrev removal_at : List ℕ → ℕ → Answer
removal_at left n = if list_any (λ (each : ℕ). each == n) left then answers.Left (page_no n) else answers.Removed (page_no n)

by_number : (left : List ℕ) (list : List Page) → map (removal_of left) list ≡ map (removal_at left) (map (λ (one : Page). one.number) list)
by_number left [] = refl
by_number left (one ∷ list) = ap (λ (xs : List Answer). removal_at left one.number ∷ xs) (by_number left list)

abbrev names : List (ℕ × Bool) → List ℕ
names told = map (λ (one : ℕ × Bool). one.0) told

abbrev left_of : List (ℕ × Bool) → List ℕ
left_of told = left_files (map told_of told)

-- whoever isn't among them isn't left
none_left : (n : ℕ) (told : List (ℕ × Bool)) → list_any (λ (each : ℕ). each == n) (names told) ≡ false
    → list_any (λ (each : ℕ). each == n) (left_of told) ≡ false
none_left n [] none = refl
none_left n ((m, goes) ∷ told) none =
    let parts = or_parts (m == n) (list_any (λ (each : ℕ). each == n) (names told)) none in
    by goes parts.0 (none_left n told parts.1)
  where
    by : (goes : Bool) → (m == n) ≡ false → list_any (λ (each : ℕ). each == n) (left_of told) ≡ false
        → list_any (λ (each : ℕ). each == n) (left_of ((m, goes) ∷ told)) ≡ false
    by true other rest = rest
    by false other rest = ap (λ (b : Bool). b || list_any (λ (each : ℕ). each == n) (left_of told)) other ∙ rest

-- those that are left are those that were told so
abbrev IsToldIn : List ℕ → ℕ × Bool → Type 0
IsToldIn left one = list_any (λ (each : ℕ). each == one.0) left ≡ not one.1

apart_from : (m : ℕ) (told : List (ℕ × Bool)) → list_any (λ (each : ℕ). each == m) (names told) ≡ false
    → AllByRecursion (λ (one : ℕ × Bool). (m == one.0) ≡ false) told
apart_from m [] none = tt
apart_from m (one ∷ told) none =
    let parts = or_parts (one.0 == m) (list_any (λ (each : ℕ). each == m) (names told)) none in
    (ne_eqb m one.0 (λ same. false_true (sym parts.0 ∙ eq-eqb one.0 m (sym same))), apart_from m told parts.1)

told_left : (told : List (ℕ × Bool)) → AreApart (names told) → AllByRecursion (IsToldIn (left_of told)) told
told_left [] apart = tt
told_left ((m, goes) ∷ told) apart = by goes (none_left m told apart.0) (apart_from m told apart.0) (told_left told apart.1)
  where
    by : (goes : Bool) → list_any (λ (each : ℕ). each == m) (left_of told) ≡ false
        → AllByRecursion (λ (one : ℕ × Bool). (m == one.0) ≡ false) told → AllByRecursion (IsToldIn (left_of told)) told
        → AllByRecursion (IsToldIn (left_of ((m, goes) ∷ told))) ((m, goes) ∷ told)
    by true none other rest = (none, rest)
    by false none other rest = (
      ap (λ (b : Bool). b || list_any (λ (each : ℕ). each == m) (left_of told)) (eq-eqb m m refl),
      for_both (λ (one : ℕ × Bool). (m == one.0) ≡ false) (IsToldIn (left_of told)) (IsToldIn (m ∷ left_of told)) told
          (λ one apart so. ap (λ (b : Bool). b || list_any (λ (each : ℕ). each == one.0) (left_of told)) apart ∙ so) other rest,
    )

all_told : (left : List ℕ) (told : List (ℕ × Bool)) → AllByRecursion (IsToldIn left) told → map told_of told ≡ map (removal_at left) (names told)
all_told left [] all = refl
all_told left ((m, goes) ∷ told) all =
    ap (λ (xs : List Answer). told_of (m, goes) ∷ xs) (all_told left told all.1)
    ∙ ap (λ (answer : Answer). answer ∷ map (removal_at left) (names told)) (by goes all.0)
  where
    by : (goes : Bool) → list_any (λ (each : ℕ). each == m) left ≡ not goes → told_of (m, goes) ≡ removal_at left m
    by true is = sym (ap (λ (b : Bool). if b then answers.Left (page_no m) else answers.Removed (page_no m)) is)
    by false is = sym (ap (λ (b : Bool). if b then answers.Left (page_no m) else answers.Removed (page_no m)) is)

-- the numbers of page files written differ
abbrev numbers_of : List Page → List ℕ
numbers_of list = map (λ (one : Page). one.number) list

numbers_above : (k n : ℕ) (test : Page → Bool) (written : List (Option (List ℕ))) → k < n
    → list_any (λ (each : ℕ). each == k) (numbers_of (filter test (numbered_pages n written))) ≡ false
numbers_above k n test [] less = refl
numbers_above k n test (None ∷ written) less = numbers_above k (n + 1) test written (omega (arith, less))
numbers_above k n test (Some list ∷ written) less =
    by (filter test (numbered_pages (n + 1) written)) (test (record { number = n; pieces = list }))
    (ne_eqb n k (λ same. absurd (omega (arith, same, less)))) (numbers_above k (n + 1) test written (omega (arith, less)))
  where
    by : (others : List Page) (b : Bool) → (n == k) ≡ false → list_any (λ (each : ℕ). each == k) (numbers_of others) ≡ false
        → list_any (λ (each : ℕ). each == k) (numbers_of (cond b (record { number = n; pieces = list } ∷ others) others)) ≡ false
    by others true other rest = ap (λ (b : Bool). b || list_any (λ (each : ℕ). each == k) (numbers_of others)) other ∙ rest
    by others false other rest = rest

numbers_apart : (n : ℕ) (test : Page → Bool) (written : List (Option (List ℕ))) → AreApart (numbers_of (filter test (numbered_pages n written)))
numbers_apart n test [] = tt
numbers_apart n test (None ∷ written) = numbers_apart (n + 1) test written
numbers_apart n test (Some list ∷ written) =
    by (filter test (numbered_pages (n + 1) written)) (test (record { number = n; pieces = list })) (numbers_above n (n + 1) test written (omega arith))
    (numbers_apart (n + 1) test written)
  where
    by : (others : List Page) (b : Bool) → list_any (λ (each : ℕ). each == n) (numbers_of others) ≡ false → AreApart (numbers_of others)
        → AreApart (numbers_of (cond b (record { number = n; pieces = list } ∷ others) others))
    by others true none rest = (none, rest)
    by others false none rest = rest

all_owed : (s : Session) (h : History) → LateCourse s h → (told : List (ℕ × Bool)) → names told ≡ due_numbers s h → AreOwed s h (map told_of told)
all_owed s h course told same =
    all_told (left_of told) told (told_left told apart) ∙ ap (map (removal_at (left_of told))) same
    ∙ sym (by_number (left_of told) (filter (is_due_in h (files (page_limit s) h)) (pages h)))
  where
    apart : AreApart (names told)
    apart =
        subst AreApart
        (sym (same ∙ ap (λ (list : List Page). map (λ (one : Page). one.number) (filter (is_due_in h (files (page_limit s) h)) list)) course.in_turn))
        (numbers_apart 0 (is_due_in h (files (page_limit s) h)) (writes h))

pub removals_stand : RemovalsStand
removals_stand = record {
  late = λ s h parts told table late page due goes. removal_late s h parts told table late page due goes;
  next = λ s h parts told table late kept page due goes after.
      due_told s h parts told table late kept ∙ least_due parts.pages.pages page due
      ∙ ap (λ (list : List ℕ). page ∷ list)
      (sym (due_told s (said h (told_of (page, goes))) (without_page page parts) (with_change (removal page goes) told) table
      (removal_late s h parts told table late page due goes) after));
  none = λ s h parts told table late kept due. due_told s h parts told table late kept ∙ nothing_due parts.pages.pages due;
  owed = all_owed;
}
