-- The compaction that is owed is the one that the page files call for, and the parts stand behind it.
use Rattle.std.proofs.Common.{◌≡◌, ℕ, zero, suc, ◌+◌, ◌<◌, ◌≤◌, ◌==◌, ◌&&◌, ◌⊎◌, inl, inr, not, Bool, true, false, cond, List, [], ◌∷◌, map, length, get_or}
use Rattle.std.proofs.Common.{refl, ap, sym, subst, ◌∙◌, arith, nat_eq, nat_lt, Option, Some, None, ⊎_elim}
use Rattle.std.specs.Prelude.{filter, filter_map, find, is_none, if◌then◌else◌}
use Rattle.std.specs.Option.{option_map, option_map_or, option_to_list}
use Rattle.std.specs.List.{list_any, position, position_or_len, AllByRecursion, IsDistinct}
use Rattle.std.proofs.lemmas.Bool.{ltb-false}
use Rattle.std.proofs.lemmas.List.Quantifiers.{position-Some}
use Rattle.std.proofs.lemmas.List.Sums.{fails_before_first}
use Rattle.answer_text.specs.declared.answer.Answer.{Answer}
use Rattle.answer_text.specs.declared.answer.Answer.TheVariants as answers
use Rattle.blob_words.specs.declared.number.PageNo.{PageNo}
use Rattle.blob_words.specs.declared.number.PieceNo.{PieceNo}
use Rattle.data_handles.specs.Table.{Table as HandleTable}
use Rattle.page_disk.specs.declared.change.Change.{Change}
use Rattle.page_files.specs.Files.{room, with_job}
use Rattle.page_files.specs.Pages.{can_move, pieces_at, pieces_of}
use Rattle.page_files.specs.Pieces.{names}
use Rattle.page_files.specs.declared.held.Held.{Held}
use Rattle.page_files.specs.declared.page.Page.{Page as FilePage}
use Rattle.page_files.specs.declared.page.Page.TheVariants.{Asked}
use Rattle.blob_model.specs.Builds.{builds, Build}
use Rattle.blob_model.specs.History.{History, said}
use Rattle.blob_model.specs.Jobs.{in_flight, is_in_job, next_job, Job as JobSaid}
use Rattle.blob_model.specs.Live.{is_live}
use Rattle.blob_model.specs.Pages.{asked, in_memory, in_page, is_memory, is_page, numbers, pages, place, reserved, Page, Place}
use Rattle.blob_model.specs.Pieces.{length_in, pieces, Piece}
use Rattle.blob_model.specs.Reached.{reached}
use Rattle.blob_model.specs.Session.{page_limit, Session}
use Rattle.blob_model.specs.Settle.{can_move as can_move_in, compaction, compactions, job_no, kept, may_start, page_no, piece_list}
use Rattle.blob_model.specs.Standing.{is_done}
use Rattle.blob_model.specs.Tally.{in_page_of}
use Rattle.blob_model.specs.Victims.{last_uses, with_length}
use Rattle.blob_model.proofs.Lists.{false_true, filter_all, for_each}
use Rattle.blob_model.proofs.settled.LateAnswers.{live_late}
use Rattle.model_bridges.specs.Bridges.{held_numbers}
use Rattle.store_laws.specs.AgreeLaws.{IsKept}
use Rattle.store_laws.specs.Compacting.{compaction_by, moving, with_move, CompactionsStand}
use Rattle.store_laws.specs.Items.{holds_piece}
use Rattle.store_laws.specs.Late.{IsFlyable, IsLate}
use Rattle.store_laws.specs.PageFiles.{holds_paged, sheet, sheet_of, sheets_from, torn, writes, IsSlotOf, PagesStand}
use Rattle.store_laws.specs.PageLaws.{numbered_pages}
use Rattle.store_laws.specs.Stands.{Between, Parts}
use Rattle.store_laws.specs.Uses.{is_held, order_of, page_facts_of}
use Rattle.store_laws.proofs.JobStarts.{all_held, idle}
use Rattle.store_laws.proofs.LateCourses.{course_goes}
use Rattle.store_laws.proofs.LateLists.{jobs_may_start}
use Rattle.store_laws.proofs.PageMoves.{filter_each, held_by_place, kept_there, moves_in, none_kept, page_holds, page_torn, same_move, Holds}
use Rattle.store_laws.proofs.PassUses.{three}
use Rattle.store_laws.proofs.Unmarked.{unmarked_right}

-- ---- lists

pub listed_names : (list : List Held) → names list ≡ piece_list (held_numbers list)
listed_names [] = refl
listed_names (held ∷ list) = ap (λ (more : List PieceNo). held.piece ∷ more) (listed_names list)

pub numbers_names : (list : List Held) → numbers (names list) ≡ held_numbers list
numbers_names [] = refl
numbers_names (held ∷ list) = ap (λ (more : List ℕ). held.piece.0 ∷ more) (numbers_names list)

find_kept : (keep test : Page → Bool) (list : List Page) → find test (filter keep list) ≡ find (λ (page : Page). keep page && test page) list
find_kept keep test [] = refl
find_kept keep test (page ∷ list) = go (keep page) (find_kept keep test list)
  where
    go : (b : Bool) → find test (filter keep list) ≡ find (λ (one : Page). keep one && test one) list
        → find test (cond b (page ∷ filter keep list) (filter keep list))
        ≡ cond {A = Option Page} (b && test page) (Some page) (find (λ (one : Page). keep one && test one) list)
    go true rest = ap (λ (o : Option Page). cond (test page) (Some page) o) rest
    go false rest = rest

-- none before the first, and none where none is found
never : (test : FilePage → Bool) (list : List FilePage) → position test list ≡ None → (k : ℕ) → k < length list → test (get_or list k Asked) ≡ false
never test list at k less = fails_before_first test list k Asked (omega (arith, less, beyond))
  where
    beyond : length list ≤ position_or_len test list
    beyond = by (nat_lt (position_or_len test list) (length list)) refl
      where
        by : (b : Bool) → nat_lt (position_or_len test list) (length list) ≡ b → length list ≤ position_or_len test list
        by true is =
            let bad : Some (position_or_len test list) ≡ None =
            sym (ap (λ (b : Bool). cond {A = Option ℕ} b (Some (position_or_len test list)) None) is) ∙ at in
            absurd (cc bad)
        by false is = ltb-false (position_or_len test list) (length list) is

-- a page file of a number that was written
numbered_all : (P : Page → Type 0) (n : ℕ) (written : List (Option (List ℕ))) (j : ℕ) (list : List ℕ) → AllByRecursion P (numbered_pages n written)
    → get_or written j None ≡ Some list → P (record { number = n + j; pieces = list })
numbered_all P n [] j list all at = absurd (cc at)
numbered_all P n (None ∷ written) zero list all at = absurd (cc at)
numbered_all P n (Some one ∷ written) zero list all at =
    let same : one ≡ list = cc at in
    let here : n ≡ n + 0 = omega arith in
    subst (λ (page : Page). P page) (λ i. record { number = here i; pieces = same i }) all.0
numbered_all P n (None ∷ written) (suc j) list all at =
    let shift : (n + 1) + j ≡ n + suc j = omega arith in
    subst (λ (k : ℕ). P (record { number = k; pieces = list })) shift (numbered_all P (n + 1) written j list all at)
numbered_all P n (Some one ∷ written) (suc j) list all at =
    let shift : (n + 1) + j ≡ n + suc j = omega arith in
    subst (λ (k : ℕ). P (record { number = k; pieces = list })) shift (numbered_all P (n + 1) written j list all.1 at)

-- what is said of each page file is said of that of a number
all_at : (P : FilePage → Type 0) (list : List FilePage) (k : ℕ) → AllByRecursion P list → P Asked → P (get_or list k Asked)
all_at P [] k all none = none
all_at P (page ∷ list) zero all none = all.0
all_at P (page ∷ list) (suc k) all none = all_at P list k all.1 none

module _ (s : Session) (h : History) (parts : Parts) (told : Option (List Change)) (table : HandleTable) (late : IsLate s h parts told table)
    (keeps_so : IsKept s h parts.book parts.shares parts.rows parts.quota parts.pages) where
  abbrev all : List Piece
  all = pieces (page_limit s) h

  abbrev holds : ℕ → ℕ → Bool
  holds = holds_paged parts.shares

  abbrev may_move : FilePage → Bool
  may_move page = can_move (room parts.pages) page

  abbrev moves : Page → Bool
  moves page = moves_in s h parts told table late keeps_so page

  abbrev Apart : Page → Type 0
  Apart page = IsDistinct nat_eq page.pieces

  -- ---- the first page file whose pieces may move, from a number on

  abbrev told_at : ℕ → FilePage → Answer
  told_at n page = answers.Compacting (job_no (next_job h)) (page_no n) (names (pieces_of page))

  abbrev moves_from : ℕ → List FilePage → List Answer
  moves_from n [] = []
  moves_from n (page ∷ list) = if may_move page then told_at n page ∷ [] else moves_from (n + 1) list

  moves_front : (n : ℕ) (list : List FilePage) (k : ℕ) → k < length list → may_move (get_or list k Asked) ≡ true
      → ((j : ℕ) → j < k → may_move (get_or list j Asked) ≡ false) → moves_from n list ≡ told_at (n + k) (get_or list k Asked) ∷ []
  moves_front n [] k within may before = absurd (omega (arith, within))
  moves_front n (page ∷ list) zero within may before =
      let here : n ≡ n + 0 = omega arith in
      ap (λ (b : Bool). cond b (told_at n page ∷ []) (moves_from (n + 1) list)) may ∙ ap (λ (m : ℕ). told_at m page ∷ []) here
  moves_front n (page ∷ list) (suc k) within may before =
      let first : may_move page ≡ false = before 0 (omega arith) in
      let shift : (n + 1) + k ≡ n + suc k = omega arith in
      ap (λ (b : Bool). cond b (told_at n page ∷ []) (moves_from (n + 1) list)) first
      ∙ moves_front (n + 1) list k (omega (arith, within)) may (λ j less. before (suc j) (omega (arith, less)))
      ∙ ap (λ (m : ℕ). told_at m (get_or list k Asked) ∷ []) shift

  moves_none : (n : ℕ) (list : List FilePage) → ((k : ℕ) → k < length list → may_move (get_or list k Asked) ≡ false) → moves_from n list ≡ []
  moves_none n [] none = refl
  moves_none n (page ∷ list) none =
      ap (λ (b : Bool). cond b (told_at n page ∷ []) (moves_from (n + 1) list)) (none 0 (omega arith))
      ∙ moves_none (n + 1) list (λ k less. none (suc k) (omega (arith, less)))

  by_position : compaction_by (next_job h) parts.pages ≡ moves_from 0 parts.pages.pages
  by_position = by (position may_move parts.pages.pages) refl
    where
      by : (o : Option ℕ) → position may_move parts.pages.pages ≡ o
          → option_to_list (option_map (moving (next_job h) parts.pages) (option_map page_no o)) ≡ moves_from 0 parts.pages.pages
      by None at = sym (moves_none 0 parts.pages.pages (never may_move parts.pages.pages at))
      by (Some k) at =
          let is = position-Some may_move parts.pages.pages k Asked at in
          let plain : 0 + k ≡ k = omega arith in
          ap (λ (m : ℕ). told_at m (get_or parts.pages.pages k Asked) ∷ []) (sym plain)
          ∙ sym (moves_front 0 parts.pages.pages k is.0 is.1 is.2)

  -- it is the one of the history
  moves_are : (n : ℕ) (written : List (Option (List ℕ))) (list : List FilePage) → ((j : ℕ) → get_or (writes h) (n + j) None ≡ get_or written j None)
      → AllByRecursion Apart (numbered_pages n written) → map sheet list ≡ sheets_from all (holds_paged parts.shares) (asked h) n written
      → option_to_list (option_map (compaction s h) (find moves (numbered_pages n written))) ≡ moves_from n list
  moves_are n [] [] at apart e = refl
  moves_are n [] (page ∷ list) at apart e = absurd (cc e)
  moves_are n (one ∷ more) [] at apart e = absurd (cc e)
  moves_are n (None ∷ more) (page ∷ list) at apart e =
      let is : sheet page ≡ torn = cc in
      let later : map sheet list ≡ sheets_from all (holds_paged parts.shares) (asked h) (n + 1) more = cc in
      moves_are (n + 1) more list (λ j. ap (λ (k : ℕ). get_or (writes h) k None) (shift j) ∙ at (suc j)) apart later
      ∙ sym (ap (λ (b : Bool). cond b (told_at n page ∷ []) (moves_from (n + 1) list)) (ap may_move (page_torn page is)))
    where
      shift : (j : ℕ) → (n + 1) + j ≡ n + suc j
      shift j = omega arith
  moves_are n (Some given ∷ more) (page ∷ list) at apart e =
      let is : sheet page ≡ sheet_of all (holds_paged parts.shares) (asked h) n (Some given) = cc in
      let later : map sheet list ≡ sheets_from all (holds_paged parts.shares) (asked h) (n + 1) more = cc in
      let written : get_or (writes h) n None ≡ Some given = ap (λ (k : ℕ). get_or (writes h) k None) (sym plain) ∙ at 0 in
      let same = same_move s h parts told table late keeps_so n given written apart.0 page is in
      let has = page_holds s h parts told table late keeps_so n given page is in
      let listed : piece_list (kept s h (record { number = n; pieces = given })) ≡ names (pieces_of page) =
      ap piece_list (kept_there s h parts told table late keeps_so n given ∙ sym has.numbers_so) ∙ sym (listed_names (pieces_of page)) in
      by (moves (record { number = n; pieces = given })) listed
      (moves_are (n + 1) more list (λ j. ap (λ (k : ℕ). get_or (writes h) k None) (shift j) ∙ at (suc j)) apart.1 later)
      ∙ sym (ap (λ (b : Bool). cond b (told_at n page ∷ []) (moves_from (n + 1) list)) same)
    where
      shift : (j : ℕ) → (n + 1) + j ≡ n + suc j
      shift j = omega arith

      plain : n + 0 ≡ n
      plain = omega arith

      by : (b : Bool) → piece_list (kept s h (record { number = n; pieces = given })) ≡ names (pieces_of page)
          → option_to_list (option_map (compaction s h) (find moves (numbered_pages (n + 1) more))) ≡ moves_from (n + 1) list
          → option_to_list (option_map (compaction s h)
          (cond b (Some (record { number = n; pieces = given })) (find moves (numbered_pages (n + 1) more))))
          ≡ cond b (told_at n page ∷ []) (moves_from (n + 1) list)
      by true listed rest = ap (λ (more : List PieceNo). answers.Compacting (job_no (next_job h)) (page_no n) more ∷ []) listed
      by false listed rest = rest

  told_so : (if parts.pages.paging && is_none parts.pages.job then compaction_by (next_job h) parts.pages else []) ≡ compactions s h
  told_so =
      (λ i. if jobs_may_start s h parts.shares parts.pages late.between.contents.page_files_stand i then by_position i else [])
      ∙ ap (λ (list : List Answer). if may_start h then list else [])
      (sym (moves_are 0 (writes h) parts.pages.pages (λ j. ap (λ (k : ℕ). get_or (writes h) k None) (plain j))
      (subst (AllByRecursion Apart) late.course.in_turn late.course.apart) late.between.contents.page_files_stand.sheets)
      ∙ ap (λ (list : List Page). option_to_list (option_map (compaction s h) (find moves list))) (sym late.course.in_turn)
      ∙ ap (λ (o : Option Page). option_to_list (option_map (compaction s h) o))
      (sym (find_kept (λ (page : Page). nat_lt 0 (length (in_page_of h (builds (page_limit s) h) page (reached (page_limit s) h))))
      (can_move_in s h (builds (page_limit s) h) all (reached (page_limit s) h)) (pages h))))
    where
      plain : (j : ℕ) → 0 + j ≡ j
      plain j = omega arith

  -- ---- the pieces of a page file

  abbrev IsAt : ℕ → ℕ → List (Option (List ℕ)) → List FilePage → Type 0
  IsAt n k written list =
      (pieces_of (get_or list k Asked) ≡ [])
      ⊎ ((given : List ℕ) × (get_or written k None ≡ Some given) × Holds all (holds (n + k)) given (pieces_of (get_or list k Asked)))

  is_at : (n k : ℕ) (written : List (Option (List ℕ))) (list : List FilePage)
      → map sheet list ≡ sheets_from all (holds_paged parts.shares) (asked h) n written → IsAt n k written list
  is_at n k written [] e = inl refl
  is_at n k [] (page ∷ list) e = absurd (cc e)
  is_at n zero (None ∷ more) (page ∷ list) e =
      let is : sheet page ≡ torn = cc in inl (ap pieces_of (page_torn page is))
  is_at n zero (Some given ∷ more) (page ∷ list) e =
      let is : sheet page ≡ sheet_of all (holds_paged parts.shares) (asked h) n (Some given) = cc in
      let here : n ≡ n + 0 = omega arith in
      inr (given, refl, subst (λ (m : ℕ). Holds all (holds m) given (pieces_of page)) here (page_holds s h parts told table late keeps_so n given page is))
  is_at n (suc k) (one ∷ more) (page ∷ list) e =
      let later : map sheet list ≡ sheets_from all (holds_paged parts.shares) (asked h) (n + 1) more = cc in
      let shift : (n + 1) + k ≡ n + suc k = omega arith in
      ⊎_elim (λ (none : pieces_of (get_or list k Asked) ≡ []). inl none)
      (λ (some : (given : List ℕ) × (get_or more k None ≡ Some given) × Holds all (holds ((n + 1) + k)) given (pieces_of (get_or list k Asked))).
      inr (some.0, some.1, subst (λ (m : ℕ). Holds all (holds m) some.0 (pieces_of (get_or list k Asked))) shift some.2))
      (is_at (n + 1) k more list later)

  module _ (page : PageNo) where
    abbrev list : List Held
    list = pieces_at parts.pages.pages page.0

    plain : 0 + page.0 ≡ page.0
    plain = omega arith

    here : (list ≡ []) ⊎ ((given : List ℕ) × (get_or (writes h) page.0 None ≡ Some given) × Holds all (holds page.0) given list)
    here =
        subst
        (λ (m : ℕ). (list ≡ []) ⊎ ((given : List ℕ) × (get_or (writes h) page.0 None ≡ Some given) × Holds all (holds m) given list)) plain
        (is_at 0 page.0 (writes h) parts.pages.pages late.between.contents.page_files_stand.sheets)

    in_slots : AllByRecursion (IsSlotOf parts.shares) list
    in_slots =
        all_at (λ (one : FilePage). AllByRecursion (IsSlotOf parts.shares) (pieces_of one)) parts.pages.pages page.0
        late.between.contents.page_files_stand.slots tt

    lengths : AllByRecursion (λ (held : Held). held.len ≡ length_in all held.piece.0) list
    lengths =
        ⊎_elim
        (λ (none : list ≡ []). subst (AllByRecursion (λ (held : Held). held.len ≡ length_in all held.piece.0)) (sym none) tt)
        (λ (some : (given : List ℕ) × (get_or (writes h) page.0 None ≡ Some given) × Holds all (holds page.0) given list). some.2.lengths) here

    may_fly : AllByRecursion (IsFlyable (page_limit s) h) (held_numbers list)
    may_fly =
        ⊎_elim
        (λ (none : list ≡ []). subst (λ (some : List Held). AllByRecursion (IsFlyable (page_limit s) h) (held_numbers some)) (sym none) tt)
        (λ (some : (given : List ℕ) × (get_or (writes h) page.0 None ≡ Some given) × Holds all (holds page.0) given list).
        subst (AllByRecursion (IsFlyable (page_limit s) h)) (sym some.2.numbers_so)
        (filter_all (IsFlyable (page_limit s) h) (holds page.0) some.0
        (numbered_all (λ (file : Page). AllByRecursion (IsFlyable (page_limit s) h) file.pieces) 0 (writes h) page.0 some.0
        (subst (AllByRecursion (λ (file : Page). AllByRecursion (IsFlyable (page_limit s) h) file.pieces)) late.course.in_turn late.course.written)
        some.1))) here

    -- none of them is in memory
    not_paged : (at : Place) → is_memory at ≡ true → is_page page.0 at ≡ false
    not_paged in_memory e = refl
    not_paged reserved e = absurd (false_true e)
    not_paged (in_page n) e = absurd (false_true e)

    and_not : (b c : Bool) → c ≡ false → (b && c) ≡ false
    and_not true c e = e
    and_not false c e = refl

    elsewhere : (number : ℕ) → holds page.0 number ≡ false → list_any (λ (each : ℕ). each == number) (held_numbers list) ≡ false
    elsewhere number fails =
        ⊎_elim
        (λ (none : list ≡ []). ap (λ (some : List Held). list_any (λ (each : ℕ). each == number) (held_numbers some)) none)
        (λ (some : (given : List ℕ) × (get_or (writes h) page.0 None ≡ Some given) × Holds all (holds page.0) given list).
        ap (list_any (λ (each : ℕ). each == number)) some.2.numbers_so ∙ none_kept (holds page.0) number fails some.0) here

    abbrev g : History
    g = said h (moving (next_job h) parts.pages page)

    module _ (none : in_flight h ≡ None) where
      same_job : AllByRecursion (λ (piece : Piece). is_memory (place (page_limit s) h piece) ≡ true → is_in_job g piece.number ≡ is_in_job h piece.number) all
      same_job =
          for_each (λ (piece : Piece). holds page.0 piece.number
          ≡ (is_held (builds (page_limit s) h) parts.shares parts.rows piece && is_page page.0 (place (page_limit s) h piece)))
          (λ (piece : Piece). is_memory (place (page_limit s) h piece) ≡ true → is_in_job g piece.number ≡ is_in_job h piece.number) all
          (λ piece is memory.
          ap (list_any (λ (each : ℕ). each == piece.number)) (numbers_names list)
          ∙ elsewhere piece.number
          (is ∙ and_not (is_held (builds (page_limit s) h) parts.shares parts.rows piece) (is_page page.0 (place (page_limit s) h piece))
          (not_paged (place (page_limit s) h piece) memory))
          ∙ sym (ap (λ (o : Option JobSaid). option_map_or (λ (job : JobSaid). list_any (λ (each : ℕ). each == piece.number) job.pieces) o false) none))
          (held_by_place s h parts told table late keeps_so page.0)

      alike : (a m d now was : Bool) → (m ≡ true → now ≡ was) → ((a && m) && (d && not now)) ≡ ((a && m) && (d && not was))
      alike a true d now was same = λ i. (a && true) && (d && not (same refl i))
      alike true false d now was same = refl
      alike false false d now was same = refl

      order_same : order_of s g parts.shares parts.rows ≡ order_of s h parts.shares parts.rows
      order_same =
          ap (λ (some : List Piece). filter_map (with_length some) (last_uses s.limits h))
          (three H M (λ (piece : Piece). is_done h piece.blob && not (is_in_job g piece.number)) all
          ∙ filter_each (λ (piece : Piece). (H piece && M piece) && (is_done h piece.blob && not (is_in_job g piece.number)))
          (λ (piece : Piece). (H piece && M piece) && (is_done h piece.blob && not (is_in_job h piece.number))) all
          (for_each (λ (piece : Piece). is_memory (place (page_limit s) h piece) ≡ true → is_in_job g piece.number ≡ is_in_job h piece.number)
          (λ (piece : Piece). ((H piece && M piece) && (is_done h piece.blob && not (is_in_job g piece.number)))
          ≡ ((H piece && M piece) && (is_done h piece.blob && not (is_in_job h piece.number)))) all
          (λ piece same. alike (H piece) (M piece) (is_done h piece.blob) (is_in_job g piece.number) (is_in_job h piece.number) same) same_job)
          ∙ sym (three H M (λ (piece : Piece). is_done h piece.blob && not (is_in_job h piece.number)) all))
        where
          H : Piece → Bool
          H piece = is_held (builds (page_limit s) h) parts.shares parts.rows piece

          M : Piece → Bool
          M piece = is_memory (place (page_limit s) h piece)

    pages_moved : PagesStand all (page_facts_of g) s.limits.disk parts.shares (with_job (Some page) list parts.pages)
    pages_moved =
        let stand = late.between.contents.page_files_stand in
        record {
          same_limit = stand.same_limit;
          sheets = stand.sheets;
          slots = stand.slots;
          reserved = stand.reserved;
          job = λ i. Some (record {
            number = stand.same_jobs i;
            source = Some page.0;
            pieces = sym (ap (filter (holds_piece parts.shares)) (numbers_names list) ∙ all_held parts.shares list in_slots) i;
          });
          job_slots = in_slots;
          job_lengths = lengths;
          same_jobs = ap (λ (n : ℕ). n + 1) stand.same_jobs;
          same_paging = stand.same_paging;
        }

    lives : is_live (page_limit s) g ≡ is_live (page_limit s) h
    lives = λ i name. list_any (λ (build : Build). build.name == name) (live_late (page_limit s) h (moving (next_job h) parts.pages page ∷ []) (refl, tt) i)

    between_moved : parts.pages.job ≡ None → Between s g (is_live (page_limit s) h) (with_move page parts) told table
    between_moved none =
        let between = late.between in
        record {
          same_limits = between.same_limits;
          same_version = between.same_version;
          contents = record {
            names = between.contents.names;
            outlines_stand = between.contents.outlines_stand;
            marks = unmarked_right s h g (builds (page_limit s) h) parts.book.entries between.contents.marks late.unmarked;
            rows_stand = between.contents.rows_stand;
            items = between.contents.items;
            entries = between.contents.entries;
            waiting = between.contents.waiting;
            memory_limit = between.contents.memory_limit;
            page_files_stand = pages_moved;
            recent = λ on.
                between.contents.recent on
                ∙ sym (order_same (idle (holds_piece parts.shares) (in_flight h) parts.pages.job between.contents.page_files_stand.job none));
          };
          tables = record {
            renderers = between.tables.renderers;
            urls_stand = between.tables.urls_stand;
            files_stand = between.tables.files_stand;
            readers_stand = between.tables.readers_stand;
          };
          handles = between.handles;
          claims = between.claims;
          disk_stands = between.disk_stands;
          same_lines = between.same_lines;
          same_pieces = between.same_pieces;
          same_weight = between.same_weight;
        }

    late_so : parts.pages.job ≡ None → IsLate s g (with_move page parts) told table
    late_so none = record {
      course = course_goes s h (moving (next_job h) parts.pages page) refl
          (subst (AllByRecursion (IsFlyable (page_limit s) h)) (sym (numbers_names list)) may_fly) late.course;
      between = subst (λ (alive : ℕ → Bool). Between s g alive (with_move page parts) told table) (sym lives) (between_moved none);
      unmarked = late.unmarked;
    }

pub compactions_stand : CompactionsStand
compactions_stand = record {
  told = told_so;
  late = λ s h parts told table late keeps none page. late_so s h parts told table late keeps page none;
}
