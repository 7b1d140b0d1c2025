-- What is settled keeps the bytes charged to the disk within the limit.
use Rattle.std.proofs.Common.{◌≡◌, ℕ, ◌+◌, ◌-◌, ◌≤◌, ◌<◌, ◌==◌, Bool, true, false, List, [], ◌∷◌, ◌++◌, map, reverse, refl, ap, subst, sym, ◌∙◌, ⊎_elim, arith, Option, Some, None}
use Rattle.std.specs.Prelude.{filter, is_none, nat_le, if◌then◌else◌}
use Rattle.std.specs.List.{AllByRecursion, list_any}
use Rattle.std.proofs.lemmas.Bool.{and_parts}
use Rattle.answer_text.specs.declared.answer.Answer.{Answer}
use Rattle.answer_text.specs.declared.answer.Answer.TheVariants as answers
use Rattle.blob_model.specs.Session.{Session, page_limit}
use Rattle.blob_model.specs.History.{History, said, said_all}
use Rattle.blob_model.specs.Parts.{own_bytes}
use Rattle.blob_model.specs.Builds.{Build, builds}
use Rattle.blob_model.specs.Standing.{was_granted}
use Rattle.blob_model.specs.Transport.{arrivals, has_come}
use Rattle.blob_model.specs.Pieces.{Piece, pieces}
use Rattle.blob_model.specs.Reached.{reached, live_cells, is_granted_piece, owns_some}
use Rattle.blob_model.specs.Pages.{Page, pages, next_page, lists, numbers}
use Rattle.blob_model.specs.Jobs.{Job, in_flight}
use Rattle.blob_model.specs.Tally.{disk, memory, files}
use Rattle.blob_model.specs.Waits.{waits}
use Rattle.blob_model.specs.Settle.{piece_list, drops, ending_tests, ending_answers, endings_of, endings, is_due, removal, removals, grants_of, grants}
use Rattle.blob_model.proofs.Lists.{AreApart, PartOf, both, false_true, for_each, keeps, member_has, or_cases, or_first, over}
use Rattle.blob_model.proofs.kept.Kept.{still_granted}
use Rattle.blob_model.proofs.live.Agreement.{kept_by_kind, kept_by_all, builds_all, drops_test, dropping}
use Rattle.blob_model.proofs.settled.Endings.{some_that, one_by}
use Rattle.blob_model.proofs.settled.LateAnswers.{AllStill, reached_still, cells_late}
use Rattle.blob_model.proofs.settled.GrantsAndJobs.{grants_late}
use Rattle.blob_model.proofs.memory.Shrinking.{Shrinks}
use Rattle.blob_model.proofs.memory.Steps.{drops_shrink, endings_shrink}
use Rattle.blob_model.proofs.memory.Grants.{removals_shrink}
use Rattle.blob_model.proofs.disk.Charges.{charge, is_charged, in_job}
use Rattle.blob_model.proofs.disk.Stock.{flying_of, flying, is_listed, Known, Stocked, Follows, known_follows, stocked_less, reaches, disk_as, disk_less, disk_shrinks, charged_granted}

-- stocked, and within the limit
abbrev pub Fits : Session → History → Type 0
Fits s h = Stocked s h × (disk (page_limit s) h ≤ s.limits.disk)

-- a list is a part of itself
pub part_same : (xs : List ℕ) → PartOf xs xs
part_same [] = over
part_same (x ∷ xs) = keeps x xs xs (part_same xs)

-- ---- answers that write nothing and start or end no job

abbrev is_even : Answer → Bool
is_even (answers.Done b) = true
is_even (answers.Broken b status) = true
is_even (answers.Dropped b) = true
is_even (answers.Granted b) = true
is_even (answers.Removed file) = true
is_even (answers.Left file) = true
is_even answer = false

abbrev AllEven : List Answer → Type 0
AllEven list = AllByRecursion (λ (answer : Answer). is_even answer ≡ true) list

even_pages : (h : History) (answer : Answer) → is_even answer ≡ true → pages (said h answer) ≡ pages h
even_pages h (answers.Stored file piece) e = absurd (false_true e)
even_pages h (answers.Paged job file list) e = absurd (false_true e)
even_pages h (answers.Moved job file list) e = absurd (false_true e)
even_pages h answer e = refl

even_next : (h : History) (answer : Answer) → is_even answer ≡ true → next_page (said h answer) ≡ next_page h
even_next h (answers.Stored file piece) e = absurd (false_true e)
even_next h (answers.StoreFailed file) e = absurd (false_true e)
even_next h (answers.Paged job file list) e = absurd (false_true e)
even_next h (answers.PageFailed job file) e = absurd (false_true e)
even_next h (answers.Moved job file list) e = absurd (false_true e)
even_next h (answers.MoveFailed job file) e = absurd (false_true e)
even_next h answer e = refl

even_flying : (h : History) (answer : Answer) → is_even answer ≡ true → flying (said h answer) ≡ flying h
even_flying h (answers.Job job list) e = absurd (false_true e)
even_flying h (answers.Compacting job file list) e = absurd (false_true e)
even_flying h (answers.Paged job file list) e = absurd (false_true e)
even_flying h (answers.Empty job) e = absurd (false_true e)
even_flying h (answers.PageFailed job file) e = absurd (false_true e)
even_flying h (answers.Moved job file list) e = absurd (false_true e)
even_flying h (answers.MoveFailed job file) e = absurd (false_true e)
even_flying h (answers.MoveUnread job file) e = absurd (false_true e)
even_flying h (answers.LostJob job) e = absurd (false_true e)
even_flying h answer e = refl

even_append : (xs ys : List Answer) → AllEven xs → AllEven ys → AllEven (xs ++ ys)
even_append [] ys p q = q
even_append (x ∷ xs) ys p q = (p.0, even_append xs ys p.1 q)

drops_even : (list : List Build) → AllEven (map dropping list)
drops_even [] = tt
drops_even (build ∷ list) = (refl, drops_even list)

pass_even : (s : Session) (g : History) (list : List Build) → AllEven (endings_of s g list)
pass_even s g [] = tt
pass_even s g (build ∷ list) =
    even_append (ending_answers s g build) (endings_of s (said_all g (ending_answers s g build)) list)
    (one_by s g build AllEven tt
    (λ answer e. (some_that (λ (each : Answer). is_even each ≡ true) (ending_tests s g build) answer (refl, (refl, (refl, (refl, tt)))) e, tt)))
    (pass_even s (said_all g (ending_answers s g build)) list)

removals_even : (unremoved : List ℕ) (list : List Page) → AllEven (map (removal unremoved) list)
removals_even unremoved [] = tt
removals_even unremoved (file ∷ list) = (go (list_any (λ (number : ℕ). number == file.number) unremoved), removals_even unremoved list)
  where
    go : (b : Bool) → is_even (if b then answers.Left (record { 0 = file.number }) else answers.Removed (record { 0 = file.number })) ≡ true
    go true = refl
    go false = refl

grants_even : (s : Session) (h : History) (list : List Build) → AllEven (grants_of s h list)
grants_even s h [] = tt
grants_even s h (build ∷ more) = go (nat_le (memory (page_limit s) h + own_bytes build.parts) s.limits.memory)
    (grants_even s (said h (answers.Granted build.name)) more)
  where
    go : (b : Bool) → AllEven (grants_of s (said h (answers.Granted build.name)) more)
        → AllEven (if b then answers.Granted build.name ∷ grants_of s (said h (answers.Granted build.name)) more else [])
    go true rest = (refl, rest)
    go false rest = tt

-- ---- further answers build nothing

granted_all : (h : History) (list : List Answer) (name : ℕ) → was_granted h name ≡ true → was_granted (said_all h list) name ≡ true
granted_all h [] name e = e
granted_all h (answer ∷ list) name e = granted_all (said h answer) list name (still_granted answer name (was_granted h name) e)

-- answers keep blobs, grants and segments
pub follows_all : (s : Session) (h : History) (list : List Answer) → Follows s h (said_all h list)
follows_all s h list = record {
  blobs = builds_all (page_limit s) h list;
  granted = λ name e. granted_all h list name e;
  came = λ name k e. subst (λ xs. has_come xs k ≡ true) (sym (kept_by_all (λ (g : History). arrivals g name) (λ g answer. refl) h list)) e;
}

-- even answers keep what is listed
stocked_even : (s : Session) (h : History) (list : List Answer) → AllEven list → Stocked s h → Stocked s (said_all h list)
stocked_even s h list all stocked =
    let same : flying (said_all h list) ≡ flying h = kept_by_kind flying is_even even_flying h list all in
    let next : next_page (said_all h list) ≡ next_page h = kept_by_kind next_page is_even even_next h list all in
    stocked_less s h (said_all h list) (follows_all s h list) (kept_by_kind pages is_even even_pages h list all) (omega (arith, next))
    (subst (λ (xs : List ℕ). PartOf xs (flying h)) (sym same) (part_same (flying h))) (subst AreApart (sym same) stocked.job_apart) stocked

-- and the limit
fits_even : (s : Session) (h : History) (list : List Answer) → AllEven list → Shrinks (page_limit s) h (said_all h list) → Fits s h → Fits s (said_all h list)
fits_even s h list all shrinks fits =
    let same : flying (said_all h list) ≡ flying h = kept_by_kind flying is_even even_flying h list all in
    let less = disk_shrinks (page_limit s) h (said_all h list) shrinks (kept_by_kind pages is_even even_pages h list all)
    (subst (λ (xs : List ℕ). PartOf xs (flying h)) (sym same) (part_same (flying h))) in
    let before = fits.1 in
    (stocked_even s h list all fits.0, omega (arith, less, before))

pub fits_drops : (s : Session) (h : History) → Fits s h → Fits s (said_all h (drops s h))
fits_drops s h fits = fits_even s h (drops s h) (drops_even (filter (drops_test s h) (reverse (builds (page_limit s) h)))) (drops_shrink s h) fits

pub fits_endings : (s : Session) (h : History) → Fits s h → Fits s (said_all h (endings s h))
fits_endings s h fits = fits_even s h (endings s h) (pass_even s h (builds (page_limit s) h)) (endings_shrink s h) fits

pub fits_removals : (s : Session) (unremoved : List ℕ) (h : History) → Fits s h → Fits s (said_all h (removals s unremoved h))
fits_removals s unremoved h fits = fits_even s h (removals s unremoved h) (removals_even unremoved (filter (is_due h (files (page_limit s) h)) (pages h)))
    (removals_shrink s unremoved h) fits

-- grants do, since charged pieces are granted
pub grants_fit : (s : Session) (h : History) → Fits s h → Fits s (said_all h (grants s h))
grants_fit s h fits =
    let same : flying (said_all h (grants s h)) ≡ flying h = kept_by_kind flying is_even even_flying h (grants s h) (grants_even s h (waits (page_limit s) h))
    in
    let cells = cells_late (page_limit s) h (grants s h) (grants_late s h (waits (page_limit s) h)) in
    let less = disk_less (page_limit s) h (said_all h (grants s h)) (builds_all (page_limit s) h (grants s h))
    (kept_by_kind pages is_even even_pages h (grants s h) (grants_even s h (waits (page_limit s) h)))
    (subst (λ (xs : List ℕ). PartOf xs (flying h)) (sym same) (part_same (flying h)))
    (for_each (λ (piece : Piece). is_charged (pages h) (flying h) (builds (page_limit s) h) piece ≡ true → is_granted_piece h (builds (page_limit s) h) piece
    ≡ true)
    (λ (piece : Piece). reaches (page_limit s) (said_all h (grants s h)) (builds (page_limit s) h) piece ≡ true → is_charged (pages h) (flying h)
    (builds (page_limit s) h) piece ≡ true → reaches (page_limit s) h (builds (page_limit s) h) piece ≡ true)
    (pieces (page_limit s) h)
    (λ piece f reach charged.
    let parts = and_parts (is_granted_piece (said_all h (grants s h)) (builds (page_limit s) h) piece)
    (owns_some (live_cells (page_limit s) (said_all h (grants s h))) piece) reach in
    both (is_granted_piece h (builds (page_limit s) h) piece) (owns_some (live_cells (page_limit s) h) piece) (f charged)
    (subst (λ xs. owns_some xs piece ≡ true) cells parts.1))
    (charged_granted s h fits.0)) in
    let before = fits.1 in
    (stocked_even s h (grants s h) (grants_even s h (waits (page_limit s) h)) fits.0, omega (arith, less, before))

-- ---- a job starts

-- numbers that an answer lists
pub numbers_list : (list : List ℕ) → numbers (piece_list list) ≡ list
numbers_list [] = refl
numbers_list (n ∷ list) = ap (λ (xs : List ℕ). n ∷ xs) (numbers_list list)

-- a job of known pieces that differ, where the disk has room for them
pub job_fits : (s : Session) (h : History) (answer : Answer) (list : List ℕ) → AllStill (answer ∷ []) → pages (said h answer) ≡ pages h
    → next_page (said h answer) ≡ next_page h → flying (said h answer) ≡ list → is_none (in_flight h) ≡ true
    → AreApart list → AllByRecursion (Known s h) list → in_job list (pieces (page_limit s) h) (reached (page_limit s) h) ≤ s.limits.disk - disk (page_limit s) h
    → Fits s h → Fits s (said h answer)
job_fits s h answer list still written next flies idle apart known room fits =
    let held : reached (page_limit s) (said h answer) ≡ reached (page_limit s) h = reached_still (page_limit s) h (answer ∷ []) still in
    let now : disk (page_limit s) (said h answer) ≡ charge (pages h) list (builds (page_limit s) h) (pieces (page_limit s) h) (reached (page_limit s) h) =
    disk_as (page_limit s) (said h answer) ∙ (λ i. charge (written i) (flies i) (builds (page_limit s) h) (pieces (page_limit s) h) (held i)) in
    let before : disk (page_limit s) h ≡ charge (pages h) [] (builds (page_limit s) h) (pieces (page_limit s) h) (reached (page_limit s) h) =
    disk_as (page_limit s) h ∙ (λ i. charge (pages h) (none_flies (in_flight h) idle i) (builds (page_limit s) h) (pieces (page_limit s) h)
    (reached (page_limit s) h)) in
    let limit = fits.1 in (
      record {
        low = subst (λ (xs : List Page). AllByRecursion (λ (file : Page). file.number < next_page (said h answer)) xs) (sym written)
            (for_each (λ (file : Page). file.number < next_page h) (λ (file : Page). file.number < next_page (said h answer)) (pages h)
            (λ file e. omega (arith, e, next)) fits.0.low);
        apart = subst (λ (xs : List Page). AllByRecursion (λ (file : Page). AreApart file.pieces) xs) (sym written) fits.0.apart;
        job_apart = subst AreApart (sym flies) apart;
        known = λ n e. known_follows s h (said h answer) n (follows_all s h (answer ∷ []))
            (go n (subst (λ (xs : List Page). is_listed xs (flying (said h answer)) n ≡ true) written e));
      },
      omega (arith, now, before, room, limit),
    )
  where
    none_flies : (job : Option Job) → is_none job ≡ true → flying_of job ≡ []
    none_flies None e = refl
    none_flies (Some job) e = absurd (false_true e)

    go : (n : ℕ) → is_listed (pages h) (flying (said h answer)) n ≡ true → Known s h n
    go n e =
        ⊎_elim
        (λ (file : list_any (λ (each : Page). lists each n) (pages h) ≡ true). fits.0.known n
        (or_first (list_any (λ (each : Page). lists each n) (pages h)) (list_any (λ (each : ℕ). each == n) (flying h)) file))
        (λ (job : list_any (λ (each : ℕ). each == n) (flying (said h answer)) ≡ true). member_has (Known s h) list n known
        (subst (λ (xs : List ℕ). list_any (λ (each : ℕ). each == n) xs ≡ true) flies job))
        (or_cases (list_any (λ (each : Page). lists each n) (pages h)) (list_any (λ (each : ℕ). each == n) (flying (said h answer))) e)
