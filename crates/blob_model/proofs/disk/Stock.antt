-- What each page file and job lists, and what the disk is charged with from one history to the next.
use Rattle.std.proofs.Common.{◌≡◌, ℕ, ◌+◌, ◌≤◌, ◌<◌, ◌==◌, Bool, true, false, ◌&&◌, ◌||◌, not, List, [], ◌∷◌, reverse, refl, subst, sym, ◌∙◌, ⊎_elim, arith, Option, Some, None}
use Rattle.std.specs.Prelude.{cond, find, filter, sum_by, slice_get}
use Rattle.std.specs.Option.{option_map_or}
use Rattle.std.specs.List.{AllByRecursion, list_any}
use Rattle.std.proofs.lemmas.Bool.{and_parts}
use Rattle.std.proofs.lemmas.List.{reverse-reverse}
use Rattle.std.proofs.lemmas.List.Sums.{sum_by-cons}
use Rattle.blob_words.specs.declared.plan.Plan.{Plan}
use Rattle.blob_words.specs.declared.plan.Plan.TheVariants as plans
use Rattle.blob_model.specs.Session.{Session, page_limit}
use Rattle.blob_model.specs.History.{History}
use Rattle.blob_model.specs.Builds.{Build, builds, build_in}
use Rattle.blob_model.specs.Standing.{was_granted, is_granted, grants_at_once}
use Rattle.blob_model.specs.Transport.{arrivals, has_come}
use Rattle.blob_model.specs.Pieces.{Piece, pieces, pieces_of, pieces_from, length_in}
use Rattle.blob_model.specs.Reached.{live_cells, is_granted_piece, owns_some}
use Rattle.blob_model.specs.Pages.{Page, pages, next_page, page_with, lists, place_by, unlisted_place, planned_place, is_memory, is_reserved}
use Rattle.blob_model.specs.Jobs.{Job, in_flight}
use Rattle.blob_model.specs.Tally.{disk, job_left_of}
use Rattle.blob_model.proofs.Lists.{AreApart, PartOf, any_reverse, both, false_true, for_each, keeps, or_cases, or_first, or_second, over, part_any, skips}
use Rattle.blob_model.proofs.memory.Shrinking.{Shrinks, holds_before, granted_before}
use Rattle.blob_model.proofs.disk.Charges.{each_piece, charge, is_charged, place_at, charge_less, in_files, in_reserve, has_number}
use Rattle.blob_model.proofs.builds.PieceNumbers.{FoundIn, pieces_numbered, all_by_number}

-- ---- what is listed

-- the pieces of a job in flight
abbrev pub flying_of : Option Job → List ℕ
flying_of None = []
flying_of (Some job) = job.pieces

abbrev pub flying : History → List ℕ
flying h = flying_of (in_flight h)

-- whether a page file or the job lists the piece
abbrev pub is_listed : List Page → List ℕ → ℕ → Bool
is_listed written numbers n = list_any (λ (file : Page). lists file n) written || list_any (λ (each : ℕ). each == n) numbers

-- whether the plan of the blob is file
abbrev pub is_filed : List Build → ℕ → Bool
is_filed blobs name = is_reserved (unlisted_place (build_in blobs name))

-- the segment that brings the piece came
abbrev pub HasCome : Session → History → Piece → Type 0
HasCome s h piece = (k : ℕ) × (slice_get (pieces_of (page_limit s) h piece.blob) k ≡ Some piece) × (has_come (arrivals h piece.blob) k ≡ true)

-- a number that is listed: its piece is there, its blob was granted, and where the plan is file its segment came
pub record Known (s : Session) (h : History) (n : ℕ) : Type 0 where
  pub piece : Piece
  pub found : FoundIn (pieces (page_limit s) h) n piece
  pub granted : is_granted_piece h (builds (page_limit s) h) piece ≡ true
  pub came : is_filed (builds (page_limit s) h) piece.blob ≡ true → HasCome s h piece

-- page files have numbers that were given out, lists have no piece twice, and what is listed is known
pub record Stocked (s : Session) (h : History) : Type 0 where
  pub low : AllByRecursion (λ (file : Page). file.number < next_page h) (pages h)
  pub apart : AllByRecursion (λ (file : Page). AreApart file.pieces) (pages h)
  pub job_apart : AreApart (flying h)
  pub known : (n : ℕ) → is_listed (pages h) (flying h) n ≡ true → Known s h n

-- ---- steps that build nothing

-- blobs stay, and grants and segments only come
pub record Follows (s : Session) (h g : History) : Type 0 where
  pub blobs : builds (page_limit s) g ≡ builds (page_limit s) h
  pub granted : (name : ℕ) → was_granted h name ≡ true → was_granted g name ≡ true
  pub came : (name k : ℕ) → has_come (arrivals h name) k ≡ true → has_come (arrivals g name) k ≡ true

-- a granted blob stays granted
granted_found : (h g : History) (found : Option Build) → ((name : ℕ) → was_granted h name ≡ true → was_granted g name ≡ true) → option_map_or (is_granted h)
    found false ≡ true → option_map_or (is_granted g) found false ≡ true
granted_found h g None more e = e
granted_found h g (Some build) more e =
    ⊎_elim (λ (once : option_map_or grants_at_once build.plan false ≡ true). or_first (option_map_or grants_at_once build.plan false) (was_granted g build.name)
    once)
    (λ (was : was_granted h build.name ≡ true). or_second (option_map_or grants_at_once build.plan false) (was_granted g build.name) (more build.name was))
    (or_cases (option_map_or grants_at_once build.plan false) (was_granted h build.name) e)

-- what is known stays known
pub known_follows : (s : Session) (h g : History) (n : ℕ) → Follows s h g → Known s h n → Known s g n
known_follows s h g n follows known =
    record {
      piece = known.piece;
      found = subst (λ (xs : List Build). FoundIn (pieces_from (page_limit s) 0 xs) n known.piece) (sym follows.blobs) known.found;
      granted = subst (λ (xs : List Build). is_granted_piece g xs known.piece ≡ true) (sym follows.blobs)
          (granted_found h g (build_in (builds (page_limit s) h) known.piece.blob) follows.granted known.granted);
      came =
          λ filed.
          let before = known.came (subst (λ (xs : List Build). is_filed xs known.piece.blob ≡ true) follows.blobs filed) in (
            before.0,
            subst (λ (xs : List Build). slice_get (filter (λ (each : Piece). each.blob == known.piece.blob) (pieces_from (page_limit s) 0 xs)) before.0
                ≡ Some known.piece) (sym follows.blobs) before.1,
            follows.came known.piece.blob before.0 before.2,
          );
    }

-- a step that writes nothing, and of which the job lists at most what it did
pub stocked_less : (s : Session) (h g : History) → Follows s h g → pages g ≡ pages h → next_page h ≤ next_page g → PartOf (flying g) (flying h)
    → AreApart (flying g) → Stocked s h → Stocked s g
stocked_less s h g follows written next part apart stocked = record {
  low = subst (λ (xs : List Page). AllByRecursion (λ (file : Page). file.number < next_page g) xs) (sym written)
      (for_each (λ (file : Page). file.number < next_page h) (λ (file : Page). file.number < next_page g) (pages h) (λ file e. omega (arith, e, next))
      stocked.low);
  apart = subst (λ (xs : List Page). AllByRecursion (λ (file : Page). AreApart file.pieces) xs) (sym written) stocked.apart;
  job_apart = apart;
  known =
      λ n e.
      known_follows s h g n follows
      (stocked.known n
      (⊎_elim (λ (file : list_any (λ (each : Page). lists each n) (pages g) ≡ true).
      or_first (list_any (λ (each : Page). lists each n) (pages h)) (list_any (λ (each : ℕ). each == n) (flying h))
      (subst (λ (xs : List Page). list_any (λ (each : Page). lists each n) xs ≡ true) written file))
      (λ (job : list_any (λ (each : ℕ). each == n) (flying g) ≡ true).
      or_second (list_any (λ (each : Page). lists each n) (pages h)) (list_any (λ (each : ℕ). each == n) (flying h))
      (part_any (λ (each : ℕ). each == n) (flying g) (flying h) part job))
      (or_cases (list_any (λ (each : Page). lists each n) (pages g)) (list_any (λ (each : ℕ). each == n) (flying g)) e)));
}

-- ---- the charge of a history

abbrev pub reaches : ℕ → History → List Build → Piece → Bool
reaches page h blobs piece = is_granted_piece h blobs piece && owns_some (live_cells page h) piece

abbrev pub charge_with : ℕ → History → List Page → List ℕ → List Build → ℕ
charge_with page h written numbers blobs = charge written numbers blobs (pieces_from page 0 blobs) (filter (reaches page h blobs) (pieces_from page 0 blobs))

-- the disk number in three parts
pub disk_as : (page : ℕ) (h : History) → disk page h ≡ charge_with page h (pages h) (flying h) (builds page h)
disk_as page h = go (in_flight h)
  where
    go : (job : Option Job)
        → in_files (pages h) (pages h) (builds page h) (pieces page h) (filter (reaches page h (builds page h)) (pieces page h)) + in_reserve (pages h)
        (builds page h) (filter (reaches page h (builds page h)) (pieces page h))
        + sum_by (length_in (pieces page h)) (option_map_or (λ (each : Job). job_left_of each (filter (reaches page h (builds page h)) (pieces page h))) job [])
        ≡ charge_with page h (pages h) (flying_of job) (builds page h)
    go None = refl
    go (Some job) = refl

-- a part of the numbers sums to no more
part_sum : (f : ℕ → ℕ) (p : ℕ → Bool) (ys xs : List ℕ) → PartOf ys xs → sum_by f (filter p ys) ≤ sum_by f (filter p xs)
part_sum f p some whole over = omega arith
part_sum f p some whole (skips x ys xs part) = go (p x) (part_sum f p ys xs part)
  where
    go : (b : Bool) → sum_by f (filter p ys) ≤ sum_by f (filter p xs) → sum_by f (filter p ys) ≤ sum_by f (cond b (x ∷ filter p xs) (filter p xs))
    go true rest = let right = sum_by-cons f x (filter p xs) in omega (arith, right, rest)
    go false rest = rest
part_sum f p some whole (keeps x ys xs part) = go (p x) (part_sum f p ys xs part)
  where
    go : (b : Bool) → sum_by f (filter p ys) ≤ sum_by f (filter p xs) → sum_by f (cond b (x ∷ filter p ys) (filter p ys)) ≤ sum_by f
        (cond b (x ∷ filter p xs) (filter p xs))
    go true rest = let left = sum_by-cons f x (filter p ys) in let right = sum_by-cons f x (filter p xs) in omega (arith, left, right, rest)
    go false rest = rest

-- where no charged piece gets reached and nothing is written, the charge doesn't grow
pub disk_less : (page : ℕ) (h g : History) → builds page g ≡ builds page h → pages g ≡ pages h → PartOf (flying g) (flying h)
    → AllByRecursion (λ (piece : Piece). reaches page g (builds page h) piece ≡ true → is_charged (pages h) (flying h) (builds page h) piece ≡ true
    → reaches page h (builds page h) piece ≡ true) (pieces page h)
    → disk page g ≤ disk page h
disk_less page h g blobs written part up =
    let now : disk page g ≡ charge_with page g (pages h) (flying g) (builds page h) =
    disk_as page g ∙ (λ i. charge_with page g (written i) (flying g) (blobs i)) in
    let before = disk_as page h in
    let less = charge_less (pages h) (flying h) (builds page h) (pieces page h) (reaches page g (builds page h)) (reaches page h (builds page h)) up in
    let job = part_sum (length_in (pieces page h)) (has_number (filter (reaches page g (builds page h)) (pieces page h))) (flying g) (flying h) part in
    omega (arith, now, before, less, job)

-- with the shrinking of roots, blobs and grants
pub reach_shrinks : (page : ℕ) (h g : History) (piece : Piece) → Shrinks page h g → reaches page g (builds page h) piece ≡ true → reaches page h (builds page h)
    piece ≡ true
reach_shrinks page h g piece shrinks e =
    let parts = and_parts (is_granted_piece g (builds page h) piece) (owns_some (live_cells page g) piece) e in
    both (is_granted_piece h (builds page h) piece) (owns_some (live_cells page h) piece) (granted_before page h g (builds page h) piece shrinks parts.0)
    (holds_before page h g piece shrinks parts.1)

-- where roots, blobs and grants shrink the charge does not grow
pub disk_shrinks : (page : ℕ) (h g : History) → Shrinks page h g → pages g ≡ pages h → PartOf (flying g) (flying h) → disk page g ≤ disk page h
disk_shrinks page h g shrinks written part = disk_less page h g shrinks.blobs written part
    (each_piece (pieces page h) (λ piece e charged. reach_shrinks page h g piece shrinks e))

-- ---- charged pieces are granted

-- the page file that is found is among those that list the piece
pub listed_by : (written : List Page) (n : ℕ) (file : Page) → page_with written n ≡ Some file → list_any (λ (each : Page). lists each n) written ≡ true
listed_by written n file e =
    subst (λ (xs : List Page). list_any (λ (each : Page). lists each n) xs ≡ true) (reverse-reverse written)
    (any_reverse (λ (each : Page). lists each n) (reverse written) (go (reverse written) e))
  where
    go : (list : List Page) → find (λ (each : Page). lists each n) list ≡ Some file → list_any (λ (each : Page). lists each n) list ≡ true
    go [] f = cc
    go (x ∷ list) f = pick (lists x n) f (go list)
      where
        pick : (b : Bool) → cond b (Some x) (find (λ (each : Page). lists each n) list) ≡ Some file
            → (find (λ (each : Page). lists each n) list ≡ Some file → list_any (λ (each : Page). lists each n) list ≡ true)
            → (b || list_any (λ (each : Page). lists each n) list) ≡ true
        pick true g rest = refl
        pick false g rest = rest g

-- a blob whose plan is file is granted
planned_granted : (h : History) (found : Option Build) → not (is_memory (unlisted_place found)) ≡ true → option_map_or (is_granted h) found false ≡ true
planned_granted h None e = absurd (false_true e)
planned_granted h (Some build) e = go build.plan e
  where
    go : (plan : Option Plan) → not (is_memory (planned_place plan)) ≡ true → (option_map_or grants_at_once plan false || was_granted h build.name) ≡ true
    go (Some (plans.File n)) f = refl
    go (Some plans.None) f = absurd (false_true f)
    go (Some plans.Inline) f = absurd (false_true f)
    go (Some (plans.Shared n)) f = absurd (false_true f)
    go (Some plans.OutOfMemory) f = absurd (false_true f)
    go (Some (plans.TooMany what)) f = absurd (false_true f)
    go None f = absurd (false_true f)

-- the piece of a known number
pub known_piece : (s : Session) (h : History) (piece : Piece) → FoundIn (pieces (page_limit s) h) piece.number piece → (known : Known s h piece.number)
    → known.piece ≡ piece
known_piece s h piece found known = let same = sym known.found ∙ found in cc

pub charged_granted : (s : Session) (h : History) → Stocked s h
    → AllByRecursion (λ (piece : Piece). is_charged (pages h) (flying h) (builds (page_limit s) h) piece ≡ true → is_granted_piece h (builds (page_limit s) h)
    piece ≡ true) (pieces (page_limit s) h)
charged_granted s h stocked =
    for_each (λ (piece : Piece). FoundIn (pieces (page_limit s) h) piece.number piece)
    (λ (piece : Piece). is_charged (pages h) (flying h) (builds (page_limit s) h) piece ≡ true → is_granted_piece h (builds (page_limit s) h) piece ≡ true)
    (pieces (page_limit s) h)
    (λ piece found e.
    ⊎_elim (λ (out : not (is_memory (place_at (pages h) (builds (page_limit s) h) piece)) ≡ true). placed piece found (page_with (pages h) piece.number) refl
    out)
    (λ (job : list_any (λ (each : ℕ). each == piece.number) (flying h) ≡ true). listed piece found
    (or_second (list_any (λ (each : Page). lists each piece.number) (pages h)) (list_any (λ (each : ℕ). each == piece.number) (flying h)) job))
    (or_cases (not (is_memory (place_at (pages h) (builds (page_limit s) h) piece))) (list_any (λ (each : ℕ). each == piece.number) (flying h)) e))
    (all_by_number 0 (pieces (page_limit s) h) (pieces_numbered (page_limit s) 0 (builds (page_limit s) h)))
  where
    listed : (piece : Piece) → FoundIn (pieces (page_limit s) h) piece.number piece → is_listed (pages h) (flying h) piece.number ≡ true
        → is_granted_piece h (builds (page_limit s) h) piece ≡ true
    listed piece found e =
        let known = stocked.known piece.number e in
        subst (λ (each : Piece). is_granted_piece h (builds (page_limit s) h) each ≡ true) (known_piece s h piece found known) known.granted

    placed : (piece : Piece) → FoundIn (pieces (page_limit s) h) piece.number piece → (at : Option Page) → page_with (pages h) piece.number ≡ at
        → not (is_memory (place_by at (build_in (builds (page_limit s) h) piece.blob))) ≡ true
        → is_granted_piece h (builds (page_limit s) h) piece ≡ true
    placed piece found None at e = planned_granted h (build_in (builds (page_limit s) h) piece.blob) e
    placed piece found (Some file) at e = listed piece found (or_first (list_any (λ (each : Page). lists each piece.number) (pages h))
        (list_any (λ (each : ℕ). each == piece.number) (flying h)) (listed_by (pages h) piece.number file at))
