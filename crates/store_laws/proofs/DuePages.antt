-- The page files that are due are those of the history, by rising number.
use Rattle.std.proofs.Common.{◌≡◌, ℕ, zero, suc, ◌+◌, ◌<◌, ◌≤◌, ◌==◌, Bool, true, false, ◌&&◌, ◌||◌, not, List, [], ◌∷◌, map, length, get_or, set}
use Rattle.std.proofs.Common.{refl, ap, sym, ◌∙◌, arith, Option, Some, None, cond}
use Rattle.std.specs.Prelude.{filter, nat_lt, sum_by, if◌then◌else◌}
use Rattle.std.specs.List.{list_any, position, position_or_len}
use Rattle.std.proofs.lemmas.Bool.{eqb-true, eq-eqb, ltb-false}
use Rattle.std.proofs.lemmas.List.Quantifiers.{position-Some}
use Rattle.std.proofs.lemmas.List.Sums.{fails_before_first}
use Rattle.data_handles.specs.Table.{Table as HandleTable}
use Rattle.page_disk.specs.declared.change.Change.{Change}
use Rattle.page_files.specs.Pages.{is_due}
use Rattle.page_files.specs.declared.page.Page.{Page as FilePage}
use Rattle.page_files.specs.declared.page.Page.TheVariants.{Torn, Whole, Asked}
use Rattle.blob_model.specs.Builds.{builds}
use Rattle.blob_model.specs.History.{History}
use Rattle.blob_model.specs.Live.{is_live}
use Rattle.blob_model.specs.Pages.{Page, asked, is_page, pages, place}
use Rattle.blob_model.specs.Pieces.{Piece, length_in, pieces}
use Rattle.blob_model.specs.Reached.{reached}
use Rattle.blob_model.specs.Session.{Session, page_limit}
use Rattle.blob_model.specs.Settle.{is_due as is_due_in}
use Rattle.blob_model.specs.Tally.{files, in_page_of}
use Rattle.blob_model.proofs.Lists.{or_first, or_second}
use Rattle.store_laws.specs.AgreeLaws.{IsKept}
use Rattle.store_laws.specs.Late.{IsLate}
use Rattle.store_laws.specs.LateLaws.{due_numbers}
use Rattle.store_laws.specs.PageFiles.{gone, holds_paged, placed_from, sheet, sheet_of, sheets_from, torn, whole, writes, Sheet}
use Rattle.store_laws.specs.PageLaws.{numbered_pages}
use Rattle.store_laws.specs.Stands.{Parts}
use Rattle.store_laws.proofs.PageCharges.{has_some, page_has, placed_some, some_length}

-- ---- page files that are due, by number

-- from a number on
abbrev pub dues_from : ℕ → List FilePage → List ℕ
dues_from n [] = []
dues_from n (page ∷ list) = if is_due page then n ∷ dues_from (n + 1) list else dues_from (n + 1) list

-- the least of them, and the others once it was asked for
pub dues_front : (n : ℕ) (list : List FilePage) (place : ℕ) → place < length list → is_due (get_or list place Asked) ≡ true
    → ((k : ℕ) → k < place → is_due (get_or list k Asked) ≡ false) → dues_from n list ≡ (n + place) ∷ dues_from n (set list place Asked)
dues_front n [] place within due before = absurd (omega (arith, within))
dues_front n (page ∷ list) zero within due before =
    let here : n ≡ n + 0 = omega arith in
    ap (λ (b : Bool). cond b (n ∷ dues_from (n + 1) list) (dues_from (n + 1) list)) due ∙ ap (λ (k : ℕ). k ∷ dues_from (n + 1) list) here
dues_front n (page ∷ list) (suc place) within due before =
    let first : is_due page ≡ false = before 0 (omega arith) in
    let shift : (n + 1) + place ≡ n + suc place = omega arith in
    ap (λ (b : Bool). cond b (n ∷ dues_from (n + 1) list) (dues_from (n + 1) list)) first
    ∙ dues_front (n + 1) list place (omega (arith, within)) due (λ k less. before (suc k) (omega (arith, less)))
    ∙ ap (λ (k : ℕ). k ∷ dues_from (n + 1) (set list place Asked)) shift
    ∙ ap (λ (b : Bool). (n + suc place) ∷ cond b (n ∷ dues_from (n + 1) (set list place Asked)) (dues_from (n + 1) (set list place Asked))) (sym first)

dues_none : (n : ℕ) (list : List FilePage) → ((k : ℕ) → k < length list → is_due (get_or list k Asked) ≡ false) → dues_from n list ≡ []
dues_none n [] none = refl
dues_none n (page ∷ list) none =
    ap (λ (b : Bool). cond b (n ∷ dues_from (n + 1) list) (dues_from (n + 1) list)) (none 0 (omega arith))
    ∙ dues_none (n + 1) list (λ k less. none (suc k) (omega (arith, less)))

-- where none is found, none is due
pub nothing_due : (list : List FilePage) → position is_due list ≡ None → dues_from 0 list ≡ []
nothing_due list at = dues_none 0 list (λ k less. fails_before_first is_due list k Asked (omega (arith, less, beyond)))
  where
    beyond : length list ≤ position_or_len is_due list
    beyond = by (nat_lt (position_or_len is_due list) (length list)) refl
      where
        by : (b : Bool) → nat_lt (position_or_len is_due list) (length list) ≡ b → length list ≤ position_or_len is_due list
        by true is =
            let bad : Some (position_or_len is_due list) ≡ None =
            sym (ap (λ (b : Bool). cond {A = Option ℕ} b (Some (position_or_len is_due list)) None) is) ∙ at in
            absurd (cc bad)
        by false is = ltb-false (position_or_len is_due list) (length list) is

pub least_due : (list : List FilePage) (place : ℕ) → position is_due list ≡ Some place
    → dues_from 0 list ≡ place ∷ dues_from 0 (set list place Asked)
least_due list place at =
    let is = position-Some is_due list place Asked at in
    let plain : 0 + place ≡ place = omega arith in
    dues_front 0 list place is.0 is.1 is.2 ∙ ap (λ (k : ℕ). k ∷ dues_from 0 (set list place Asked)) plain

-- ---- those of the history

abbrev sheet_due : Sheet → Bool
sheet_due torn = false
sheet_due (whole size held) = not (has_some held)
sheet_due gone = false

same_due : (page : FilePage) → is_due page ≡ sheet_due (sheet page)
same_due Torn = refl
same_due (Whole size []) = refl
same_due (Whole size (held ∷ pieces)) = refl
same_due Asked = refl

-- a page file of a number that was written
numbered_there : (n : ℕ) (written : List (Option (List ℕ))) (j : ℕ) (list : List ℕ) → get_or written j None ≡ Some list
    → list_any (λ (each : Page). each.number == n + j) (numbered_pages n written) ≡ true
numbered_there n [] j list at = absurd (cc at)
numbered_there n (None ∷ written) zero list at = absurd (cc at)
numbered_there n (Some one ∷ written) zero list at =
    let here : n ≡ n + 0 = omega arith in
    or_first (n == n + 0) (list_any (λ (each : Page). each.number == n + 0) (numbered_pages (n + 1) written)) (eq-eqb n (n + 0) here)
numbered_there n (None ∷ written) (suc j) list at =
    let shift : (n + 1) + j ≡ n + suc j = omega arith in
    ap (λ (k : ℕ). list_any (λ (each : Page). each.number == k) (numbered_pages (n + 1) written)) (sym shift) ∙ numbered_there (n + 1) written j list at
numbered_there n (Some one ∷ written) (suc j) list at =
    let shift : (n + 1) + j ≡ n + suc j = omega arith in
    or_second (n == n + suc j) (list_any (λ (each : Page). each.number == n + suc j) (numbered_pages (n + 1) written))
    (ap (λ (k : ℕ). list_any (λ (each : Page). each.number == k) (numbered_pages (n + 1) written)) (sym shift) ∙ numbered_there (n + 1) written j list at)

-- among the page files that pass a test on their numbers
abbrev any_at : ℕ → List Page → Bool
any_at n list = list_any (λ (each : Page). each.number == n) list

any_kept : (test : ℕ → Bool) (n : ℕ) (list : List Page) → any_at n (filter (λ (each : Page). test each.number) list) ≡ (test n && any_at n list)
any_kept test n [] = sym (nothing (test n))
  where
    nothing : (b : Bool) → (b && false) ≡ false
    nothing true = refl
    nothing false = refl
any_kept test n (page ∷ list) =
    go (filter (λ (each : Page). test each.number) list) (test page.number) refl (page.number == n) refl (any_kept test n list)
  where
    go : (kept : List Page) (a : Bool) → test page.number ≡ a → (b : Bool) → (page.number == n) ≡ b
        → any_at n kept ≡ (test n && any_at n list)
        → any_at n (cond a (page ∷ kept) kept) ≡ (test n && ((page.number == n) || any_at n list))
    go kept true passes true here rest =
        let so : test n ≡ true = ap test (sym (eqb-true page.number n here)) ∙ passes in
        (λ i. here i || any_at n kept) ∙ sym (λ i. so i && (here i || any_at n list))
    go kept true passes false other rest =
        ap (λ (b : Bool). b || any_at n kept) other ∙ rest ∙ ap (λ (b : Bool). test n && (b || any_at n list)) (sym other)
    go kept false fails true here rest =
        let so : test n ≡ false = ap test (sym (eqb-true page.number n here)) ∙ fails in
        rest ∙ ap (λ (b : Bool). b && any_at n list) so ∙ ap (λ (b : Bool). b && ((page.number == n) || any_at n list)) (sym so)
    go kept false fails false other rest = rest ∙ ap (λ (b : Bool). test n && (b || any_at n list)) (sym other)

module _ (s : Session) (h : History) (parts : Parts) (told : Option (List Change)) (table : HandleTable) (late : IsLate s h parts told table)
    (kept : IsKept s h parts.book parts.shares parts.rows parts.quota parts.pages) where
  abbrev all : List Piece
  all = pieces (page_limit s) h

  abbrev held : List Page
  held = files (page_limit s) h

  abbrev is_asked : ℕ → Bool
  is_asked n = list_any (λ (each : ℕ). each == n) (asked h)

  -- whether a reached piece is in the page file of a number
  abbrev reaches_at : ℕ → Bool
  reaches_at n = nat_lt 0 (length (in_page_of h (builds (page_limit s) h) (record { number = n; pieces = [] }) (reached (page_limit s) h)))

  held_at : (n : ℕ) (list : List ℕ) → get_or (writes h) n None ≡ Some list
      → list_any (λ (each : Page). each.number == n) held ≡ (not (is_asked n) && list_any (holds_paged parts.shares n) list)
  held_at n list written =
      any_kept reaches_at n (pages h)
      ∙ ap (λ (b : Bool). reaches_at n && b) there ∙ and_true (reaches_at n)
      ∙ some_length (λ (piece : Piece). is_page n (place (page_limit s) h piece)) (reached (page_limit s) h)
      ∙ sym (page_has s h (is_live (page_limit s) h) parts.book parts.shares parts.rows parts.quota parts.pages parts.recent late.between.contents
      (λ name. refl) late.course.rest kept.counted kept.apart kept.paged n list written)
    where
      plain : n ≡ 0 + n
      plain = omega arith

      there : list_any (λ (each : Page). each.number == n) (pages h) ≡ true
      there =
          ap (list_any (λ (each : Page). each.number == n)) late.course.in_turn
          ∙ ap (λ (k : ℕ). list_any (λ (each : Page). each.number == k) (numbered_pages 0 (writes h))) plain
          ∙ numbered_there 0 (writes h) n list written

      and_true : (b : Bool) → (b && true) ≡ b
      and_true true = refl
      and_true false = refl

  due_sheet : (a some : Bool) (size : ℕ) (list : List (ℕ × ℕ × ℕ)) → has_some list ≡ some
      → sheet_due (cond a gone (whole size list)) ≡ (not (not a && some) && not a)
  due_sheet true some size list is = refl
  due_sheet false true size list is = ap not is
  due_sheet false false size list is = ap not is

  dues_are : (n : ℕ) (written : List (Option (List ℕ))) (list : List FilePage)
      → ((j : ℕ) → get_or (writes h) (n + j) None ≡ get_or written j None)
      → map sheet list ≡ sheets_from all (holds_paged parts.shares) (asked h) n written
      → map (λ (page : Page). page.number) (filter (is_due_in h held) (numbered_pages n written)) ≡ dues_from n list
  dues_are n [] [] at e = refl
  dues_are n [] (page ∷ list) at e = absurd (cc e)
  dues_are n (one ∷ more) [] at e = absurd (cc e)
  dues_are n (None ∷ more) (page ∷ list) at e =
      let is : sheet page ≡ torn = cc in
      let later : map sheet list ≡ sheets_from all (holds_paged parts.shares) (asked h) (n + 1) more = cc in
      dues_are (n + 1) more list (λ j. ap (λ (k : ℕ). get_or (writes h) k None) (shift j) ∙ at (suc j)) later
      ∙ ap (λ (b : Bool). cond b (n ∷ dues_from (n + 1) list) (dues_from (n + 1) list)) (sym (same_due page ∙ ap sheet_due is))
    where
      shift : (j : ℕ) → (n + 1) + j ≡ n + suc j
      shift j = omega arith
  dues_are n (Some numbers ∷ more) (page ∷ list) at e =
      let is : sheet page ≡ sheet_of all (holds_paged parts.shares) (asked h) n (Some numbers) = cc in
      let later : map sheet list ≡ sheets_from all (holds_paged parts.shares) (asked h) (n + 1) more = cc in
      let written : get_or (writes h) n None ≡ Some numbers = ap (λ (k : ℕ). get_or (writes h) k None) (sym plain) ∙ at 0 in
      let size : ℕ = sum_by (length_in all) numbers in
      let there_now : List (ℕ × ℕ × ℕ) = placed_from all (holds_paged parts.shares n) 0 numbers in
      let due_is : is_due page ≡ (not (list_any (λ (each : Page). each.number == n) held) && not (is_asked n)) =
      same_due page ∙ ap sheet_due is
      ∙ due_sheet (is_asked n) (list_any (holds_paged parts.shares n) numbers) size there_now
      (placed_some all (holds_paged parts.shares n) 0 numbers)
      ∙ ap (λ (b : Bool). not b && not (is_asked n)) (sym (held_at n numbers written)) in
      by (not (list_any (λ (each : Page). each.number == n) held) && not (is_asked n))
      (filter (is_due_in h held) (numbered_pages (n + 1) more))
      (dues_are (n + 1) more list (λ j. ap (λ (k : ℕ). get_or (writes h) k None) (shift j) ∙ at (suc j)) later)
      ∙ ap (λ (b : Bool). cond b (n ∷ dues_from (n + 1) list) (dues_from (n + 1) list)) (sym due_is)
    where
      shift : (j : ℕ) → (n + 1) + j ≡ n + suc j
      shift j = omega arith

      plain : n + 0 ≡ n
      plain = omega arith

      by : (b : Bool) (others : List Page) → map (λ (each : Page). each.number) others ≡ dues_from (n + 1) list
          → map (λ (each : Page). each.number) (cond b (record { number = n; pieces = numbers } ∷ others) others)
          ≡ cond b (n ∷ dues_from (n + 1) list) (dues_from (n + 1) list)
      by true others rest = ap (λ (ns : List ℕ). n ∷ ns) rest
      by false others rest = rest

  pub due_told : due_numbers s h ≡ dues_from 0 parts.pages.pages
  due_told =
      ap (λ (list : List Page). map (λ (page : Page). page.number) (filter (is_due_in h held) list)) late.course.in_turn
      ∙ dues_are 0 (writes h) parts.pages.pages (λ j. ap (λ (k : ℕ). get_or (writes h) k None) (nothing j))
      late.between.contents.page_files_stand.sheets
    where
      nothing : (j : ℕ) → 0 + j ≡ j
      nothing j = omega arith
