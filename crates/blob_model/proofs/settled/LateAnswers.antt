-- What removals, grants and jobs leave alone.
use Rattle.std.proofs.Common.{◌≡◌, ℕ, ◌==◌, ◌≤◌, Bool, true, false, ◌&&◌, ◌||◌, not, List, [], ◌∷◌, ◌++◌, map, reverse, length, refl, ap, ◌∙◌, arith, Option, Some, None}
use Rattle.std.specs.Prelude.{cond, filter, is_none}
use Rattle.std.specs.Option.{option_map_or}
use Rattle.std.specs.List.{AllByRecursion, list_any}
use Rattle.answer_text.specs.declared.answer.Answer.{Answer}
use Rattle.answer_text.specs.declared.answer.Answer.TheVariants as answers
use Rattle.blob_words.specs.declared.status.Status.{Status}
use Rattle.blob_model.specs.Session.{Session, page_limit}
use Rattle.blob_model.specs.History.{History, said, said_all}
use Rattle.blob_model.specs.Builds.{Build, builds, build_in}
use Rattle.blob_model.specs.Standing.{ended, is_broken, is_broken_status, is_done, is_done_status, was_granted, is_granted, grants_at_once}
use Rattle.blob_model.specs.Live.{live}
use Rattle.blob_model.specs.Pieces.{Piece, pieces, pieces_from}
use Rattle.blob_model.specs.Reached.{reached, reached_of, live_cells, is_granted_piece, owns_some}
use Rattle.blob_model.specs.Pages.{pages, place_by, page_with, is_memory}
use Rattle.blob_model.specs.Tally.{bytes_of, memory}
use Rattle.blob_model.specs.Waits.{is_waiting, is_shared, waits}
use Rattle.blob_model.specs.Settle.{drops}
use Rattle.blob_model.proofs.Lists.{false_true, filter_same}
use Rattle.blob_model.proofs.live.Agreement.{kept_by_kind, live_alike, rooted_said, builds_all, drops_test, dropping}
use Rattle.blob_model.proofs.settled.Endings.{AllQuiet, is_quiet}

-- removals, grants and starts of jobs
abbrev pub is_late : Answer → Bool
is_late (answers.Removed file) = true
is_late (answers.Left file) = true
is_late (answers.Granted b) = true
is_late (answers.Job job list) = true
is_late (answers.Compacting job file list) = true
is_late answer = false

abbrev pub AllLate : List Answer → Type 0
AllLate list = AllByRecursion (λ (answer : Answer). is_late answer ≡ true) list

-- of these, those that grant nothing
abbrev pub is_still : Answer → Bool
is_still (answers.Granted b) = false
is_still answer = is_late answer

abbrev pub AllStill : List Answer → Type 0
AllStill list = AllByRecursion (λ (answer : Answer). is_still answer ≡ true) list

late_ended : (h : History) (name : ℕ) (answer : Answer) → is_late answer ≡ true → ended (said h answer) name ≡ ended h name
late_ended h name (answers.Done b) e = absurd (false_true e)
late_ended h name (answers.Broken b status) e = absurd (false_true e)
late_ended h name (answers.Dropped b) e = absurd (false_true e)
late_ended h name answer e = refl

late_pages : (h : History) (answer : Answer) → is_late answer ≡ true → pages (said h answer) ≡ pages h
late_pages h (answers.Stored file piece) e = absurd (false_true e)
late_pages h (answers.Paged job file list) e = absurd (false_true e)
late_pages h (answers.Moved job file list) e = absurd (false_true e)
late_pages h answer e = refl

late_quiet : (answer : Answer) → is_late answer ≡ true → is_quiet answer ≡ true
late_quiet (answers.StoreFailed file) e = absurd (false_true e)
late_quiet answer e = refl

still_late : (answer : Answer) → is_still answer ≡ true → is_late answer ≡ true
still_late (answers.Granted b) e = refl
still_late answer e = e

still_granted_same : (h : History) (name : ℕ) (answer : Answer) → is_still answer ≡ true → was_granted (said h answer) name ≡ was_granted h name
still_granted_same h name (answers.Granted b) e = absurd (false_true e)
still_granted_same h name answer e = refl

pub all_late : (list : List Answer) → AllStill list → AllLate list
all_late [] all = tt
all_late (answer ∷ list) all = (still_late answer all.0, all_late list all.1)

pub all_quiet : (list : List Answer) → AllLate list → AllQuiet list
all_quiet [] all = tt
all_quiet (answer ∷ list) all = (late_quiet answer all.0, all_quiet list all.1)

pub late_append : (xs ys : List Answer) → AllLate xs → AllLate ys → AllLate (xs ++ ys)
late_append [] ys p q = q
late_append (x ∷ xs) ys p q = (p.0, late_append xs ys p.1 q)

pub ended_late : (h : History) (list : List Answer) (name : ℕ) → AllLate list → ended (said_all h list) name ≡ ended h name
ended_late h list name all = kept_by_kind (λ (g : History). ended g name) is_late (λ g answer e. late_ended g name answer e) h list all

pub pages_late : (h : History) (list : List Answer) → AllLate list → pages (said_all h list) ≡ pages h
pages_late h list all = kept_by_kind pages is_late late_pages h list all

pub granted_still : (h : History) (list : List Answer) (name : ℕ) → AllStill list → was_granted (said_all h list) name ≡ was_granted h name
granted_still h list name all = kept_by_kind (λ (g : History). was_granted g name) is_still (λ g answer e. still_granted_same g name answer e) h list all

-- ---- liveness and contents

pub live_late : (page : ℕ) (h : History) (list : List Answer) → AllLate list → live page (said_all h list) ≡ live page h
live_late page h list all =
    live_alike page h (said_all h list) (builds_all page h list) (rooted_said page h list)
    (λ name lives. ap (λ (o : Option Status). is_none o) (ended_late h list name all))

pub broken_late : (h : History) (list : List Answer) (name : ℕ) → AllLate list → is_broken (said_all h list) name ≡ is_broken h name
broken_late h list name all = ap (λ (o : Option Status). option_map_or is_broken_status o false) (ended_late h list name all)

pub done_late : (h : History) (list : List Answer) (name : ℕ) → AllLate list → is_done (said_all h list) name ≡ is_done h name
done_late h list name all = ap (λ (o : Option Status). option_map_or is_done_status o false) (ended_late h list name all)

pub cells_late : (page : ℕ) (h : History) (list : List Answer) → AllLate list → live_cells page (said_all h list) ≡ live_cells page h
cells_late page h list all =
    ap (λ (xs : List Build). map (λ (build : Build). build.cells) (filter (λ (build : Build). not (is_broken (said_all h list) build.name)) xs))
    (live_late page h list all)
    ∙ ap (λ (xs : List Build). map (λ (build : Build). build.cells) xs)
    (filter_same (λ (build : Build). not (is_broken (said_all h list) build.name)) (λ (build : Build). not (is_broken h build.name)) (live page h)
    (λ build i. not (broken_late h list build.name all i)))

pub drops_late : (s : Session) (h : History) (list : List Answer) → AllLate list → drops s (said_all h list) ≡ drops s h
drops_late s h list all =
    ap (λ (xs : List Build). map dropping (filter (drops_test s (said_all h list)) (reverse xs))) (builds_all (page_limit s) h list)
    ∙ ap (λ (xs : List Build). map dropping xs)
    (filter_same (drops_test s (said_all h list)) (drops_test s h) (reverse (builds (page_limit s) h))
    (λ build i. is_none (ended_late h list build.name all i) && not
    (list_any (λ (each : Build). each.name == build.name) (live_late (page_limit s) h list all i))))

-- ---- memory, where nothing is granted

option_same : {X : Type 0} (f g : X → Bool) (o : Option X) → ((x : X) → f x ≡ g x) → option_map_or f o false ≡ option_map_or g o false
option_same f g None same = refl
option_same f g (Some x) same = same x

pub reached_still : (page : ℕ) (h : History) (list : List Answer) → AllStill list → reached page (said_all h list) ≡ reached page h
reached_still page h list all =
    let late = all_late list all in
    let blobs : builds page (said_all h list) ≡ builds page h = builds_all page h list in
    let cells : live_cells page (said_all h list) ≡ live_cells page h = cells_late page h list (all_late list all) in
    (λ i. reached_of (said_all h list) (blobs i) (cells i) (pieces_from page 0 (blobs i)))
    ∙ filter_same (λ (piece : Piece). is_granted_piece (said_all h list) (builds page h) piece && owns_some (live_cells page h) piece)
    (λ (piece : Piece). is_granted_piece h (builds page h) piece && owns_some (live_cells page h) piece) (pieces page h)
    (λ piece i.
    option_same (is_granted (said_all h list)) (is_granted h) (build_in (builds page h) piece.blob)
    (λ build j. option_map_or grants_at_once build.plan false || granted_still h list build.name all j) i
    && owns_some (live_cells page h) piece)

pub memory_still : (page : ℕ) (h : History) (list : List Answer) → AllStill list → memory page (said_all h list) ≡ memory page h
memory_still page h list all =
    let blobs : builds page (said_all h list) ≡ builds page h = builds_all page h list in
    let written : pages (said_all h list) ≡ pages h = pages_late h list (all_late list all) in
    let held : reached page (said_all h list) ≡ reached page h = reached_still page h list all in
    (λ i. bytes_of (filter (λ (piece : Piece). is_memory (place_by (page_with (written i) piece.number) (build_in (blobs i) piece.blob))) (held i)))

pub waits_still : (page : ℕ) (h : History) (list : List Answer) → AllStill list → waits page (said_all h list) ≡ waits page h
waits_still page h list all =
    ap (λ (xs : List Build). filter (is_waiting (said_all h list)) xs) (builds_all page h list)
    ∙ filter_same (is_waiting (said_all h list)) (is_waiting h) (builds page h)
    (λ build i. is_none (ended_late h list build.name (all_late list all) i) && is_shared build.plan && not (granted_still h list build.name all i))

-- ---- page files, where more is granted

pub more_filtered : {X : Type 0} (q r r' : X → Bool) (xs : List X) → ((x : X) → r x ≡ true → r' x ≡ true) → length (filter q (filter r xs)) ≤ length
    (filter q (filter r' xs))
more_filtered q r r' [] up = omega arith
more_filtered {X = X} q r r' (x ∷ xs) up = go (r x) (r' x) (q x) (up x) (more_filtered q r r' xs up)
  where
    go : (a b c : Bool) → (a ≡ true → b ≡ true) → length (filter q (filter r xs)) ≤ length (filter q (filter r' xs))
        → length (filter q (cond a (x ∷ filter r xs) (filter r xs))) ≤ length (filter q (cond b (x ∷ filter r' xs) (filter r' xs)))
    go true false c f rest = absurd (false_true (f refl))
    go false false c f rest = rest
    go false true c f rest = more q x (filter r' xs) (length (filter q (filter r xs))) rest
      where
        more : (p : X → Bool) (y : X) (ys : List X) (n : ℕ) → n ≤ length (filter p ys) → n ≤ length (cond (p y) (y ∷ filter p ys) (filter p ys))
        more p y ys n low = pick (p y)
          where
            pick : (b : Bool) → n ≤ length (cond b (y ∷ filter p ys) (filter p ys))
            pick true = omega (arith, low)
            pick false = low
    go true true c f rest = same (q x)
      where
        same : (b : Bool) → length (cond b (x ∷ filter q (filter r xs)) (filter q (filter r xs))) ≤ length
            (cond b (x ∷ filter q (filter r' xs)) (filter q (filter r' xs)))
        same true = omega (arith, rest)
        same false = rest
