-- A page file that is written keeps the bytes charged to the disk within the limit.
use Rattle.std.proofs.Common.{◌≡◌, ◌⊎◌, ℕ, ◌+◌, ◌≤◌, ◌<◌, ◌==◌, Bool, true, false, List, [], ◌∷◌, ◌++◌, reverse, length, refl, ap, subst, sym, ◌∙◌, inl, inr, ⊎_elim, arith, Option, Some, None}
use Rattle.std.specs.Prelude.{cond, filter, sum_by, nat_lt}
use Rattle.std.specs.Option.{option_map_or}
use Rattle.std.specs.List.{AllByRecursion, list_any}
use Rattle.std.proofs.lemmas.Bool.{eqb-true, eq-eqb}
use Rattle.std.proofs.lemmas.List.{reverse-append}
use Rattle.std.proofs.lemmas.List.Sums.{sum_by-cons}
use Rattle.blob_words.specs.declared.plan.Plan.{Plan}
use Rattle.blob_words.specs.declared.plan.Plan.TheVariants as plans
use Rattle.blob_model.specs.Session.{Session, page_limit}
use Rattle.blob_model.specs.History.{History}
use Rattle.blob_model.specs.Builds.{Build, builds, build_in}
use Rattle.blob_model.specs.Pieces.{Piece, pieces, length_in}
use Rattle.blob_model.specs.Pages.{Page, Place, planned_place, pages, next_page, page_with, lists, page_size, place_by, unlisted_place, is_page, is_reserved}
use Rattle.blob_model.specs.Jobs.{Job, in_flight}
use Rattle.blob_model.specs.Reached.{reached}
use Rattle.blob_model.specs.Tally.{disk, job_left, job_left_of}
use Rattle.blob_model.proofs.Lists.{AreApart, PartOf, all_more, false_true, for_each, found_all, not_same, or_cases, or_first, or_second, part_any, part_apart, part_filter, part_nil}
use Rattle.blob_model.proofs.memory.Shrinking.{Shrinks}
use Rattle.blob_model.proofs.disk.Charges.{each_piece, charge_less, place_at, has_some, has_number, in_files, in_reserve, in_job, IsNew, files_written, reserve_written, file_most, page_more, reserved_before, some_up}
use Rattle.blob_model.proofs.builds.PieceNumbers.{FoundIn, length_found}
use Rattle.blob_model.proofs.disk.Victims.{sum_without}
use Rattle.blob_model.proofs.disk.Stock.{flying_of, flying, Known, Stocked, Follows, known_follows, reaches, charge_with, disk_as, reach_shrinks}
use Rattle.blob_model.proofs.disk.Settling.{Fits, part_same}
use Rattle.blob_model.proofs.disk.Jobs.{all_pieces}

-- a number that no page file has yet
new_file : (file : Page) (next : ℕ) (written : List Page) → file.number ≡ next → AllByRecursion (λ (each : Page). each.number < next) written
    → IsNew file written
new_file file next [] e all = tt
new_file file next (each ∷ written) e all = let low = all.0 in (
  not_same file.number each.number (λ same. omega (arith, e, low, same)),
  new_file file next
      written e all.1,
)

-- what one more page file lists
listed_more : (written : List Page) (file : Page) (n : ℕ) → list_any (λ (each : Page). lists each n) (written ++ file ∷ []) ≡ true
    → (list_any (λ (each : Page). lists each n) written ≡ true) ⊎ (lists file n ≡ true)
listed_more [] file n e = ⊎_elim (λ (here : lists file n ≡ true). inr here) (λ (none : false ≡ true). absurd (false_true none))
    (or_cases (lists file n) false e)
listed_more (each ∷ written) file n e =
    ⊎_elim (λ (here : lists each n ≡ true). inl (or_first (lists each n) (list_any (λ (other : Page). lists other n) written) here))
    (λ (more : list_any (λ (other : Page). lists other n) (written ++ file ∷ []) ≡ true).
    ⊎_elim (λ (old : list_any (λ (other : Page). lists other n) written ≡ true). inl
    (or_second (lists each n) (list_any (λ (other : Page). lists other n) written) old)) (λ (new : lists file n ≡ true). inr new)
    (listed_more written file n more))
    (or_cases (lists each n) (list_any (λ (other : Page). lists other n) (written ++ file ∷ [])) e)

-- with one more page file of known pieces that differ
pub stocked_written : (s : Session) (h g : History) (file : Page) → Follows s h g → pages g ≡ pages h ++ file ∷ [] → file.number ≡ next_page h → next_page g
    ≡ next_page h + 1 → PartOf (flying g) (flying h) → AreApart file.pieces
    → ((n : ℕ) → lists file n ≡ true → Known s g n) → Stocked s h → Stocked s g
stocked_written s h g file follows written number next part apart known stocked = record {
  low =
      subst (λ (xs : List Page). AllByRecursion (λ (each : Page). each.number < next_page g) xs) (sym written)
      (all_more (λ (each : Page). each.number < next_page g) (pages h) file
      (for_each (λ (each : Page). each.number < next_page h) (λ (each : Page). each.number < next_page g) (pages h) (λ each e. omega (arith, e, next))
      stocked.low) (omega (arith, number, next)));
  apart = subst (λ (xs : List Page). AllByRecursion (λ (each : Page). AreApart each.pieces) xs) (sym written)
      (all_more (λ (each : Page). AreApart each.pieces) (pages h) file stocked.apart apart);
  job_apart = part_apart (flying g) (flying h) part stocked.job_apart;
  known =
      λ n e.
      ⊎_elim
      (λ (paper : list_any (λ (each : Page). lists each n) (pages g) ≡ true).
      ⊎_elim (λ (old : list_any (λ (each : Page). lists each n) (pages h) ≡ true). known_follows s h g n follows
      (stocked.known n (or_first (list_any (λ (each : Page). lists each n) (pages h)) (list_any (λ (each : ℕ). each == n) (flying h)) old)))
      (λ (new : lists file n ≡ true). known n new)
      (listed_more (pages h) file n (subst (λ (xs : List Page). list_any (λ (each : Page). lists each n) xs ≡ true) written paper)))
      (λ (job : list_any (λ (each : ℕ). each == n) (flying g) ≡ true).
      known_follows s h g n follows
      (stocked.known n (or_second (list_any (λ (each : Page). lists each n) (pages h)) (list_any (λ (each : ℕ). each == n) (flying h))
      (part_any (λ (each : ℕ). each == n) (flying g) (flying h) part job))))
      (or_cases (list_any (λ (each : Page). lists each n) (pages g)) (list_any (λ (each : ℕ). each == n) (flying g)) e);
}

-- ---- a job is done

-- what the job still has, as a part of its pieces
left_flies : (page : ℕ) (h : History) → job_left page h ≡ filter (has_number (reached page h)) (flying h)
left_flies page h = go (in_flight h)
  where
    go : (job : Option Job) → option_map_or (λ (each : Job). job_left_of each (reached page h)) job [] ≡ filter (has_number (reached page h)) (flying_of job)
    go None = refl
    go (Some job) = refl

-- the pieces that the job still has go into one page file, and the job is over
pub job_written : (s : Session) (h g : History) (file : Page) → Follows s h g → Shrinks (page_limit s) h g → pages g ≡ pages h ++ file ∷ [] → file.number
    ≡ next_page h → next_page g ≡ next_page h + 1 → flying g ≡ []
    → file.pieces ≡ job_left (page_limit s) h → Fits s h → Fits s g
job_written s h g file follows shrinks written number next over same fits =
    let fresh = new_file file (next_page h) (pages h) number fits.0.low in
    let listed : file.pieces ≡ filter (has_number (reached (page_limit s) h)) (flying h) = same ∙ left_flies (page_limit s) h in
    let part : PartOf file.pieces (flying h) = subst (λ (xs : List ℕ). PartOf xs (flying h)) (sym listed)
    (part_filter (has_number (reached (page_limit s) h)) (flying h)) in
    let none : PartOf (flying g) (flying h) = subst (λ (xs : List ℕ). PartOf xs (flying h)) (sym over) (part_nil (flying h)) in
    let now : disk (page_limit s) g ≡ charge_with (page_limit s) g (pages h ++ file ∷ []) [] (builds (page_limit s) h) =
    disk_as (page_limit s) g ∙ (λ i. charge_with (page_limit s) g (written i) (over i) (follows.blobs i)) in
    let before = disk_as (page_limit s) h in
    let less = charge_less (pages h) [] (builds (page_limit s) h) (pieces (page_limit s) h) (reaches (page_limit s) g (builds (page_limit s) h))
    (reaches (page_limit s) h (builds (page_limit s) h))
    (each_piece (pieces (page_limit s) h) (λ piece e charged. reach_shrinks (page_limit s) h g piece shrinks e)) in
    let papers = files_written (pages h) file (builds (page_limit s) h) (pieces (page_limit s) h) (reaches (page_limit s) g (builds (page_limit s) h)) fresh in
    let reserves = reserve_written (pages h) file (builds (page_limit s) h) (pieces (page_limit s) h) (reaches (page_limit s) g (builds (page_limit s) h)) in
    let one = file_most file (pages h ++ file ∷ []) (builds (page_limit s) h) (pieces (page_limit s) h)
    (filter (reaches (page_limit s) g (builds (page_limit s) h)) (pieces (page_limit s) h)) in
    let size : page_size (pieces (page_limit s) h) file ≡ in_job (flying h) (pieces (page_limit s) h) (reached (page_limit s) h) =
    ap (sum_by (length_in (pieces (page_limit s) h))) listed in
    let limit = fits.1 in (
      stocked_written s h g file follows written number next none (part_apart file.pieces (flying h) part fits.0.job_apart)
          (λ n e. known_follows s h g n follows
          (fits.0.known n (or_second (list_any (λ (each : Page). lists each n) (pages h)) (list_any (λ (each : ℕ). each == n) (flying h))
          (part_any (λ (each : ℕ). each == n) file.pieces (flying h) part e)))) fits.0,
      omega (arith, now, before, less, papers, reserves, one, size, limit),
    )

-- ---- a piece is stored

-- a page file that is found has a number that was given out
low_numbers : (written : List Page) (next n : ℕ) (file : Page) → AllByRecursion (λ (each : Page). each.number < next) written → page_with written n ≡ Some file
    → file.number < next
low_numbers written next n file all e = found_all (λ (each : Page). each.number < next) (λ (each : Page). lists each n) (reverse written) file
    (turned written all) e
  where
    turned : (list : List Page) → AllByRecursion (λ (each : Page). each.number < next) list → AllByRecursion (λ (each : Page). each.number < next)
        (reverse list)
    turned [] a = tt
    turned (x ∷ list) a = subst (λ (xs : List Page). AllByRecursion (λ (each : Page). each.number < next) xs) (sym (reverse-append (x ∷ []) list))
        (all_more (λ (each : Page). each.number < next) (reverse list) x (turned list a.1) a.0)

-- a reserved piece that isn't listed goes into a page file of its own
pub piece_written : (s : Session) (h g : History) (file : Page) (piece : Piece) → Follows s h g → Shrinks (page_limit s) h g → pages g ≡ pages h ++ file ∷ []
    → file.number ≡ next_page h → next_page g ≡ next_page h + 1 → flying g ≡ flying h
    → file.pieces ≡ piece.number ∷ [] → FoundIn (pieces (page_limit s) h) piece.number piece → page_with (pages h) piece.number ≡ None
    → is_reserved (unlisted_place (build_in (builds (page_limit s) h) piece.blob)) ≡ true
    → Known s h piece.number → Fits s h → Fits s g
piece_written s h g file piece follows shrinks written number next same alone found unlisted filed known fits =
    let fresh = new_file file (next_page h) (pages h) number fits.0.low in
    let part : PartOf (flying g) (flying h) = subst (λ (xs : List ℕ). PartOf xs (flying h)) (sym same) (part_same (flying h)) in
    let now : disk (page_limit s) g ≡ charge_with (page_limit s) g (pages h ++ file ∷ []) (flying h) (builds (page_limit s) h) =
    disk_as (page_limit s) g ∙ (λ i. charge_with (page_limit s) g (written i) (same i) (follows.blobs i)) in
    let before = disk_as (page_limit s) h in
    let less = charge_less (pages h) (flying h) (builds (page_limit s) h) (pieces (page_limit s) h) (reaches (page_limit s) g (builds (page_limit s) h))
    (reaches (page_limit s) h (builds (page_limit s) h))
    (each_piece (pieces (page_limit s) h) (λ each e charged. reach_shrinks (page_limit s) h g each shrinks e)) in
    let papers = files_written (pages h) file (builds (page_limit s) h) (pieces (page_limit s) h) (reaches (page_limit s) g (builds (page_limit s) h)) fresh in
    let moved = moves (reaches (page_limit s) g (builds (page_limit s) h) piece) refl in
    let limit = fits.1 in (
      stocked_written s h g file follows written number next part (subst AreApart (sym alone) (refl, tt))
          (λ n e. known_follows s h g n follows (subst (Known s h) (only n (subst (λ (xs : List ℕ). list_any (λ (each : ℕ). each == n) xs ≡ true) alone e))
          known)) fits.0,
      omega (arith, now, before, less, papers, moved, limit),
    )
  where
    all : List Piece
    all = pieces (page_limit s) h

    r : Piece → Bool
    r = reaches (page_limit s) g (builds (page_limit s) h)

    after : List Page
    after = pages h ++ file ∷ []

    only : (n : ℕ) → list_any (λ (each : ℕ). each == n) (piece.number ∷ []) ≡ true → piece.number ≡ n
    only n e = ⊎_elim (λ (here : (piece.number == n) ≡ true). eqb-true piece.number n here) (λ (none : false ≡ true). absurd (false_true none))
        (or_cases (piece.number == n) false e)

    placed : place_at (pages h) (builds (page_limit s) h) piece ≡ unlisted_place (build_in (builds (page_limit s) h) piece.blob)
    placed = ap (λ (o : Option Page). place_by o (build_in (builds (page_limit s) h) piece.blob)) unlisted

    lists_it : lists file piece.number ≡ true
    lists_it = subst (λ (xs : List ℕ). list_any (λ (each : ℕ). each == piece.number) xs ≡ true) (sym alone)
        (or_first (piece.number == piece.number) false (eq-eqb piece.number piece.number refl))

    gone : is_reserved (place_at after (builds (page_limit s) h) piece) ≡ false
    gone = ap (λ (o : Option Page). is_reserved (place_by o (build_in (builds (page_limit s) h) piece.blob)))
        (page_more (pages h) file piece.number ∙ (λ i. cond (lists_it i) (Some file) (page_with (pages h) piece.number)))

    -- no reached piece is in the file where this one isn't reached
    none_in : r piece ≡ false → (x : Piece) → FoundIn all x.number x → is_page file.number (place_at after (builds (page_limit s) h) x) ≡ true → r x ≡ true → ⊥
    none_in off x there at reach =
        look (lists file x.number) refl (page_with (pages h) x.number) refl
        (ap (λ (o : Option Page). is_page file.number (place_by o (build_in (builds (page_limit s) h) x.blob))) (sym (page_more (pages h) file x.number)) ∙
        at)
      where
        look : (b : Bool) → lists file x.number ≡ b → (o : Option Page) → page_with (pages h) x.number ≡ o
            → is_page file.number (place_by (cond b (Some file) o) (build_in (builds (page_limit s) h) x.blob)) ≡ true → ⊥
        look true e o f p =
            let equal : piece.number ≡ x.number = only x.number (subst (λ (xs : List ℕ). list_any (λ (each : ℕ). each == x.number) xs ≡ true) alone e) in
            let self : FoundIn all x.number piece = subst (λ (n : ℕ). FoundIn all n piece) equal found in
            let one : piece ≡ x = (let both = sym self ∙ there in cc) in
            false_true (sym off ∙ ap r one ∙ reach)
        look false e (Some other) f p =
            let low = low_numbers (pages h) (next_page h) x.number other fits.0.low f in
            let equal : other.number ≡ file.number = eqb-true other.number file.number p in
            omega (arith, low, equal, number)
        look false e None f p = never (unlisted_place (build_in (builds (page_limit s) h) x.blob)) (build_in (builds (page_limit s) h) x.blob) refl p
          where
            never : (at : Place) (build : Option Build) → unlisted_place build ≡ at → is_page file.number (unlisted_place build) ≡ true → ⊥
            never at None same p = false_true p
            never at (Some build) same p = plain build.plan p
              where
                plain : (plan : Option Plan) → is_page file.number (planned_place plan) ≡ true → ⊥
                plain (Some (plans.File n)) p = false_true p
                plain plan p = false_true p

    moves : (b : Bool) → r piece ≡ b → in_files (file ∷ []) after (builds (page_limit s) h) all (filter r all) + in_reserve after (builds (page_limit s) h)
        (filter r all) ≤ in_reserve (pages h) (builds (page_limit s) h) (filter r all)
    moves true on =
        let one = file_most file after (builds (page_limit s) h) all (filter r all) in
        let size : page_size all file ≡ length_in all piece.number + 0 = ap (sum_by (length_in all)) alone ∙ sum_by-cons (length_in all) piece.number [] in
        let len = length_found all piece.number piece found in
        let rest = sum_without (λ (each : Piece). is_reserved (place_at after (builds (page_limit s) h) each))
        (λ (each : Piece). is_reserved (place_at (pages h) (builds (page_limit s) h) each)) r (λ (each : Piece). each.number == piece.number) all piece
        (λ each e. reserved_before (pages h) (builds (page_limit s) h) file each e) found (ap is_reserved placed ∙ filed) on gone in
        omega (arith, one, size, len, rest)
    moves false off =
        let rest = reserve_written (pages h) file (builds (page_limit s) h) all r in
        let none = empty (has_some after (builds (page_limit s) h) (filter r all) file) refl in
        omega (arith, rest, none)
      where
        nothing : (xs : List Piece) → nat_lt 0 (length (filter (λ (x : Piece). false) xs)) ≡ false
        nothing [] = refl
        nothing (x ∷ xs) = nothing xs

        empty : (b : Bool) → has_some after (builds (page_limit s) h) (filter r all) file ≡ b → sum_by (page_size all) (cond b (file ∷ []) []) ≤ 0
        empty false at = omega arith
        empty true at =
            let up = some_up (λ (x : Piece). is_page file.number (place_at after (builds (page_limit s) h) x)) r (λ (x : Piece). false) (λ (x : Piece). false)
            all
            (for_each (λ (x : Piece). FoundIn all x.number x) (λ (x : Piece). is_page file.number (place_at after (builds (page_limit s) h) x) ≡ true → r x
            ≡ true → (false ≡ true) × (false ≡ true)) all
            (λ x there p q. absurd (none_in off x there p q)) (all_pieces s h)) at in
            absurd (false_true (sym (nothing (filter (λ (x : Piece). false) all)) ∙ up))
