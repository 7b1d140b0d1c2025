-- Removals are done once, and so are grants and jobs.
use Rattle.std.proofs.Common.{◌≡◌, ℕ, ◌==◌, ◌≤◌, ◌<◌, Bool, true, false, ◌&&◌, not, List, [], ◌∷◌, ◌++◌, map, length, refl, ap, subst, sym, ◌∙◌, ⊎_elim, arith, Option, Some, None}
use Rattle.std.specs.Prelude.{cond, filter, nat_lt, if◌then◌else◌}
use Rattle.std.specs.Option.{option_map_or}
use Rattle.std.specs.List.{AllByRecursion, list_any}
use Rattle.std.proofs.lemmas.Bool.{and_parts, ltb-true, lt-ltb, eq-eqb}
use Rattle.answer_text.specs.declared.answer.Answer.{Answer}
use Rattle.answer_text.specs.declared.answer.Answer.TheVariants as answers
use Rattle.blob_model.specs.Session.{Session, page_limit}
use Rattle.blob_model.specs.History.{History, said, said_all}
use Rattle.blob_model.specs.Builds.{Build, builds, build_in}
use Rattle.blob_model.specs.Standing.{is_granted}
use Rattle.blob_model.specs.Pieces.{Piece, pieces, pieces_from}
use Rattle.blob_model.specs.Reached.{reached, live_cells, is_granted_piece, owns_some}
use Rattle.blob_model.specs.Pages.{Page, pages, asked, asked_after, place_by, page_with, is_page}
use Rattle.blob_model.specs.Tally.{in_page_of, files}
use Rattle.blob_model.specs.Settle.{removal, removals, is_due}
use Rattle.blob_model.proofs.Lists.{any_append_first, any_append_second, false_true, filter_none, or_cases, or_first, or_second}
use Rattle.blob_model.proofs.live.Agreement.{builds_all}
use Rattle.blob_model.proofs.settled.Endings.{is_granted_all}
use Rattle.blob_model.proofs.settled.LateAnswers.{is_late, AllLate, pages_late, cells_late, more_filtered}

-- ---- page files that hold a reached piece go on doing so

holds_more : (page : ℕ) (h : History) (list : List Answer) (file : Page) → AllLate list
    → length (in_page_of h (builds page h) file (reached page h)) ≤ length
    (in_page_of (said_all h list) (builds page (said_all h list)) file (reached page (said_all h list)))
holds_more page h list file all =
    let blobs : builds page (said_all h list) ≡ builds page h = builds_all page h list in
    let written : pages (said_all h list) ≡ pages h = pages_late h list all in
    let cells : live_cells page (said_all h list) ≡ live_cells page h = cells_late page h list all in
    let more : length (filter (λ (piece : Piece). is_page file.number (place_by (page_with (pages h) piece.number) (build_in (builds page h) piece.blob)))
    (filter (λ (piece : Piece). is_granted_piece h (builds page h) piece && owns_some (live_cells page h) piece) (pieces page h)))
    ≤ length (filter (λ (piece : Piece). is_page file.number (place_by (page_with (pages h) piece.number) (build_in (builds page h) piece.blob)))
    (filter (λ (piece : Piece). is_granted_piece (said_all h list) (builds page h) piece && owns_some (live_cells page h) piece) (pieces page h))) =
    more_filtered (λ (piece : Piece). is_page file.number (place_by (page_with (pages h) piece.number) (build_in (builds page h) piece.blob)))
    (λ (piece : Piece). is_granted_piece h (builds page h) piece && owns_some (live_cells page h) piece)
    (λ (piece : Piece). is_granted_piece (said_all h list) (builds page h) piece && owns_some (live_cells page h) piece) (pieces page h)
    (λ piece e.
    let parts = and_parts (is_granted_piece h (builds page h) piece) (owns_some (live_cells page h) piece) e in
    λ i. granted (build_in (builds page h) piece.blob) parts.0 i && parts.1 i) in
    subst (λ (n : ℕ). length (in_page_of h (builds page h) file (reached page h)) ≤ n)
    (λ i. length (filter (λ (piece : Piece). is_page file.number (place_by (page_with (sym written i) piece.number) (build_in (sym blobs i) piece.blob)))
    (filter (λ (piece : Piece). is_granted_piece (said_all h list) (sym blobs i) piece && owns_some (sym cells i) piece) (pieces_from page 0 (sym blobs i)))))
    more
  where
    granted : (found : Option Build) → option_map_or (is_granted h) found false ≡ true → option_map_or (is_granted (said_all h list)) found false ≡ true
    granted None e = e
    granted (Some build) e = is_granted_all h list build e

-- whether a page file of this number is among them
abbrev pub has_page : ℕ → List Page → Bool
has_page number list = list_any (λ (each : Page). each.number == number) list

any_filter_more : (test t t' : Page → Bool) (list : List Page) → ((x : Page) → t x ≡ true → t' x ≡ true) → list_any test (filter t list) ≡ true
    → list_any test (filter t' list) ≡ true
any_filter_more test t t' [] up e = e
any_filter_more test t t' (x ∷ list) up e = go (t x) (t' x) (up x) e (any_filter_more test t t' list up)
  where
    go : (a b : Bool) → (a ≡ true → b ≡ true) → list_any test (cond a (x ∷ filter t list) (filter t list)) ≡ true
        → (list_any test (filter t list) ≡ true → list_any test (filter t' list) ≡ true)
        → list_any test (cond b (x ∷ filter t' list) (filter t' list)) ≡ true
    go true false f e rest = absurd (false_true (f refl))
    go true true f e rest = ⊎_elim (λ (here : test x ≡ true). or_first (test x) (list_any test (filter t' list)) here)
        (λ (more : list_any test (filter t list) ≡ true). or_second (test x) (list_any test (filter t' list)) (rest more))
        (or_cases (test x) (list_any test (filter t list)) e)
    go false true f e rest = or_second (test x) (list_any test (filter t' list)) (rest e)
    go false false f e rest = rest e

files_more : (page : ℕ) (h : History) (list : List Answer) (number : ℕ) → AllLate list → has_page number (files page h) ≡ true
    → has_page number (files page (said_all h list)) ≡ true
files_more page h list number all e =
    let written : pages (said_all h list) ≡ pages h = pages_late h list all in
    let more : list_any (λ (each : Page). each.number == number)
    (filter (λ (file : Page). nat_lt 0 (length (in_page_of (said_all h list) (builds page (said_all h list)) file (reached page (said_all h list)))))
    (pages h)) ≡ true =
    any_filter_more (λ (each : Page). each.number == number) (λ (file : Page). nat_lt 0 (length (in_page_of h (builds page h) file (reached page h))))
    (λ (file : Page). nat_lt 0 (length (in_page_of (said_all h list) (builds page (said_all h list)) file (reached page (said_all h list))))) (pages h)
    (λ file some.
    let a : 0 < length (in_page_of h (builds page h) file (reached page h)) = ltb-true 0 (length (in_page_of h (builds page h) file (reached page h))) some in
    let b : length (in_page_of h (builds page h) file (reached page h)) ≤ length
    (in_page_of (said_all h list) (builds page (said_all h list)) file (reached page (said_all h list))) = holds_more page h list file all in
    lt-ltb 0 (length (in_page_of (said_all h list) (builds page (said_all h list)) file (reached page (said_all h list)))) (omega (arith, a, b))) e in
    subst (λ (xs : List Page). list_any (λ (each : Page). each.number == number)
    (filter (λ (file : Page). nat_lt 0 (length (in_page_of (said_all h list) (builds page (said_all h list)) file (reached page (said_all h list))))) xs)
    ≡ true) (sym written) more

-- ---- asked once

abbrev pub was_asked : History → ℕ → Bool
was_asked h number = list_any (λ (each : ℕ). each == number) (asked h)

asked_keeps : (answer : Answer) (number : ℕ) (before : List ℕ) → list_any (λ (each : ℕ). each == number) before ≡ true → list_any (λ (each : ℕ). each == number)
    (asked_after answer before) ≡ true
asked_keeps (answers.Removed file) number before e = any_append_first (λ (each : ℕ). each == number) before (file.0 ∷ []) e
asked_keeps (answers.Left file) number before e = any_append_first (λ (each : ℕ). each == number) before (file.0 ∷ []) e
asked_keeps answer number before e = e

asked_all : (h : History) (list : List Answer) (number : ℕ) → was_asked h number ≡ true → was_asked (said_all h list) number ≡ true
asked_all h [] number e = e
asked_all h (answer ∷ list) number e = asked_all (said h answer) list number (asked_keeps answer number (asked h) e)

removal_asks : (unremoved : List ℕ) (h : History) (page : Page) → was_asked (said h (removal unremoved page)) page.number ≡ true
removal_asks unremoved h page = go (list_any (λ (number : ℕ). number == page.number) unremoved)
  where
    last : list_any (λ (each : ℕ). each == page.number) (asked h ++ page.number ∷ []) ≡ true
    last = any_append_second (λ (each : ℕ). each == page.number) (asked h) (page.number ∷ [])
        (or_first (page.number == page.number) false (eq-eqb page.number page.number refl))

    go : (b : Bool) → was_asked (said h (if b then answers.Left (record { 0 = page.number }) else answers.Removed (record { 0 = page.number }))) page.number
        ≡ true
    go true = last
    go false = last

removals_ask : (unremoved : List ℕ) (test : Page → Bool) (g : History) (list : List Page)
    → AllByRecursion (λ (page : Page). test page ≡ true → was_asked (said_all g (map (removal unremoved) (filter test list))) page.number ≡ true) list
removals_ask unremoved test g [] = tt
removals_ask unremoved test g (page ∷ list) = go (test page) (λ next. removals_ask unremoved test next list)
  where
    go : (b : Bool)
        → ((next : History) → AllByRecursion (λ (each : Page). test each ≡ true → was_asked (said_all next (map (removal unremoved) (filter test list)))
        each.number ≡ true) list)
        → (b ≡ true → was_asked (said_all g (map (removal unremoved) (cond b (page ∷ filter test list) (filter test list)))) page.number ≡ true)
        × AllByRecursion (λ (each : Page). test each ≡ true → was_asked
        (said_all g (map (removal unremoved) (cond b (page ∷ filter test list) (filter test list)))) each.number ≡ true) list
    go false rest = ((λ e. absurd (false_true e)), rest g)
    go true rest = (
      (λ e. asked_all (said g (removal unremoved page)) (map (removal unremoved) (filter test list)) page.number (removal_asks unremoved g page)),
      rest
          (said g (removal unremoved page)),
    )

pub removals_late : (unremoved : List ℕ) (list : List Page) → AllLate (map (removal unremoved) list)
removals_late unremoved [] = tt
removals_late unremoved (page ∷ list) = (go (list_any (λ (number : ℕ). number == page.number) unremoved), removals_late unremoved list)
  where
    go : (b : Bool) → is_late (if b then answers.Left (record { 0 = page.number }) else answers.Removed (record { 0 = page.number })) ≡ true
    go true = refl
    go false = refl

-- after the removals, and more answers of the late kinds, no page file is due
pub removals_done : (s : Session) (unremoved other : List ℕ) (h : History) (more : List Answer) → AllLate more
    → removals s other (said_all (said_all h (removals s unremoved h)) more) ≡ []
removals_done s unremoved other h more late =
    let written : pages (said_all (said_all h (removals s unremoved h)) more) ≡ pages h =
    pages_late (said_all h (removals s unremoved h)) more late ∙ pages_late h (removals s unremoved h)
    (removals_late unremoved (filter (is_due h (files (page_limit s) h)) (pages h))) in
    let none : filter (is_due (said_all (said_all h (removals s unremoved h)) more)
    (files (page_limit s) (said_all (said_all h (removals s unremoved h)) more))) (pages h) ≡ [] =
    filter_none (is_due (said_all (said_all h (removals s unremoved h)) more) (files (page_limit s) (said_all (said_all h (removals s unremoved h)) more)))
    (pages h)
    (each (pages h) (removals_ask unremoved (is_due h (files (page_limit s) h)) h (pages h))) in
    ap (λ (xs : List Page). map (removal other)
    (filter (is_due (said_all (said_all h (removals s unremoved h)) more) (files (page_limit s) (said_all (said_all h (removals s unremoved h)) more))) xs))
    written
    ∙ ap (λ (xs : List Page). map (removal other) xs) none
  where
    held : (page : Page) → has_page page.number (files (page_limit s) h) ≡ true
        → has_page page.number (files (page_limit s) (said_all (said_all h (removals s unremoved h)) more)) ≡ true
    held page e =
        files_more (page_limit s) (said_all h (removals s unremoved h)) more page.number late
        (files_more (page_limit s) h (removals s unremoved h) page.number (removals_late unremoved (filter (is_due h (files (page_limit s) h)) (pages h))) e)

    one : (page : Page) → (is_due h (files (page_limit s) h) page ≡ true → was_asked (said_all h (removals s unremoved h)) page.number ≡ true)
        → is_due (said_all (said_all h (removals s unremoved h)) more) (files (page_limit s) (said_all (said_all h (removals s unremoved h)) more)) page ≡ false
    one page asks = go (has_page page.number (files (page_limit s) h)) refl (was_asked h page.number) refl
      where
        go : (a : Bool) → has_page page.number (files (page_limit s) h) ≡ a → (b : Bool) → was_asked h page.number ≡ b
            → (not (has_page page.number (files (page_limit s) (said_all (said_all h (removals s unremoved h)) more)))
            && not (was_asked (said_all (said_all h (removals s unremoved h)) more) page.number)) ≡ false
        go true e b f = rw (held page e) refl
        go false e true f =
            let later : was_asked (said_all (said_all h (removals s unremoved h)) more) page.number ≡ true =
            asked_all (said_all h (removals s unremoved h)) more page.number (asked_all h (removals s unremoved h) page.number f) in
            second (not (has_page page.number (files (page_limit s) (said_all (said_all h (removals s unremoved h)) more))))
            (was_asked (said_all (said_all h (removals s unremoved h)) more) page.number) later
          where
            second : (x y : Bool) → y ≡ true → (x && not y) ≡ false
            second true true at = refl
            second true false at = sym at
            second false y at = refl
        go false e false f =
            let due : is_due h (files (page_limit s) h) page ≡ true = rw (e, f) refl in
            let later : was_asked (said_all (said_all h (removals s unremoved h)) more) page.number ≡ true = asked_all (said_all h (removals s unremoved h))
            more page.number (asks due) in
            second (not (has_page page.number (files (page_limit s) (said_all (said_all h (removals s unremoved h)) more))))
            (was_asked (said_all (said_all h (removals s unremoved h)) more) page.number) later
          where
            second : (x y : Bool) → y ≡ true → (x && not y) ≡ false
            second true true at = refl
            second true false at = sym at
            second false y at = refl

    each : (list : List Page) → AllByRecursion (λ (page : Page). is_due h (files (page_limit s) h) page ≡ true → was_asked (said_all h (removals s unremoved h))
        page.number ≡ true) list
        → AllByRecursion (λ (page : Page). is_due (said_all (said_all h (removals s unremoved h)) more)
        (files (page_limit s) (said_all (said_all h (removals s unremoved h)) more)) page ≡ false) list
    each [] all = tt
    each (page ∷ list) all = (one page all.0, each list all.1)
