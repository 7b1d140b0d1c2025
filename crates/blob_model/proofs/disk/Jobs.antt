-- The jobs that settling starts fit on the disk, and so does all that is settled.
use Rattle.std.proofs.Common.{◌≡◌, ℕ, ◌+◌, ◌-◌, ◌≤◌, ◌==◌, Bool, true, false, ◌&&◌, not, List, [], ◌∷◌, length, refl, subst, sym, arith, Option, Some, None}
use Rattle.std.specs.Prelude.{filter, is_none, min, nat_lt, nat_le, sum_by, if◌then◌else◌}
use Rattle.std.specs.Option.{option_map, option_to_list}
use Rattle.std.specs.List.{AllByRecursion, list_any}
use Rattle.std.proofs.lemmas.Bool.{and_parts, leb-true}
use Rattle.answer_text.specs.declared.answer.Answer.TheVariants as answers
use Rattle.blob_model.specs.Session.{Session, page_limit}
use Rattle.blob_model.specs.History.{History, said, said_all}
use Rattle.blob_model.specs.Builds.{Build, builds, build_in}
use Rattle.blob_model.specs.Standing.{is_done}
use Rattle.blob_model.specs.Pieces.{Piece, pieces, length_in}
use Rattle.blob_model.specs.Reached.{reached, live_cells, is_granted_piece, owns_some}
use Rattle.blob_model.specs.Pages.{Page, pages, page_with, lists, place_by, place_in, unlisted_place, is_memory, is_reserved, is_page}
use Rattle.blob_model.specs.Pages.{Place, in_memory, reserved, in_page}
use Rattle.blob_model.specs.Jobs.{in_flight, is_in_job, next_job, paging}
use Rattle.blob_model.specs.Tally.{disk, memory, files, is_thin, in_page_of, bytes_of}
use Rattle.blob_model.specs.Waits.{waits}
use Rattle.blob_model.specs.Victims.{pageable, last_uses, chosen, head_bytes}
use Rattle.blob_model.specs.Settle.{piece_list, job_no, drops, endings, removals, grants, may_start, page_job_of, page_jobs, can_move, movable, kept, compaction, compactions, settle}
use Rattle.blob_model.proofs.Lists.{AreApart, all_members, each_any, false_true, filter_all, filter_has, for_each, found_all, found_true, or_first, part_any, part_apart, part_filter}
use Rattle.blob_model.proofs.settled.Settling.{settle_run}
use Rattle.blob_model.proofs.disk.Charges.{has_number, in_job}
use Rattle.blob_model.proofs.builds.PieceNumbers.{FoundIn, pieces_numbered, all_by_number, length_found, part_victims}
use Rattle.blob_model.proofs.disk.Victims.{filter_less, victims_most, victims_stand, StandsFor, apart_sum}
use Rattle.blob_model.proofs.disk.Uses.{uses_apart}
use Rattle.blob_model.proofs.disk.Stock.{flying, Known}
use Rattle.blob_model.proofs.disk.Settling.{Fits, fits_drops, fits_endings, fits_removals, grants_fit, numbers_list, job_fits}

-- ---- page jobs

abbrev pub has_piece : Session → History → Piece → Type 0
has_piece s h piece = FoundIn (pieces (page_limit s) h) piece.number piece

abbrev pub is_reached : Session → History → Piece → Bool
is_reached s h piece = is_granted_piece h (builds (page_limit s) h) piece && owns_some (live_cells (page_limit s) h) piece

abbrev pub is_held : Session → History → Piece → Bool
is_held s h piece = is_memory (place_in h (builds (page_limit s) h) piece)

-- each piece is there
pub all_pieces : (s : Session) (h : History) → AllByRecursion (has_piece s h) (pieces (page_limit s) h)
all_pieces s h = all_by_number 0 (pieces (page_limit s) h) (pieces_numbered (page_limit s) 0 (builds (page_limit s) h))

-- and each reached one
pub all_reached : (s : Session) (h : History) → AllByRecursion (λ (piece : Piece). has_piece s h piece × (is_reached s h piece ≡ true))
    (reached (page_limit s) h)
all_reached s h = filter_has (has_piece s h) (is_reached s h) (pieces (page_limit s) h) (all_pieces s h)

-- a piece in memory that is there and granted
pub record Held (s : Session) (h : History) (piece : Piece) : Type 0 where
  pub there : FoundIn (pieces (page_limit s) h) piece.number piece
  pub granted : is_granted_piece h (builds (page_limit s) h) piece ≡ true
  pub in_mind : is_memory (place_in h (builds (page_limit s) h) piece) ≡ true

-- each pageable piece is held in memory
pub all_pageable : (s : Session) (h : History) → AllByRecursion (Held s h) (pageable (page_limit s) h)
all_pageable s h =
    let first = filter_has (λ (piece : Piece). has_piece s h piece × (is_reached s h piece ≡ true)) (is_held s h) (reached (page_limit s) h) (all_reached s h)
    in
    let held : AllByRecursion (Held s h) (filter (is_held s h) (reached (page_limit s) h)) =
    for_each (λ (piece : Piece). (has_piece s h piece × (is_reached s h piece ≡ true)) × (is_held s h piece ≡ true)) (Held s h)
    (filter (is_held s h) (reached (page_limit s) h))
    (λ piece e. record {
      there = e.0.0;
      granted = (and_parts (is_granted_piece h (builds (page_limit s) h) piece) (owns_some (live_cells (page_limit s) h) piece) e.0.1).0;
      in_mind = e.1;
    }) first in
    for_each (λ (piece : Piece). Held s h piece × ((is_done h piece.blob && not (is_in_job h piece.number)) ≡ true)) (Held s h) (pageable (page_limit s) h)
    (λ piece e. e.0)
    (filter_has (Held s h) (λ (piece : Piece). is_done h piece.blob && not (is_in_job h piece.number)) (filter (is_held s h) (reached (page_limit s) h)) held)

-- a piece in memory is of no blob whose plan is file
pub not_filed : (found : Option Page) (build : Option Build) → is_memory (place_by found build) ≡ true → is_reserved (unlisted_place build) ≡ true → ⊥
not_filed (Some file) build e f = false_true e
not_filed None build e f = go (unlisted_place build) e f
  where
    go : (at : Place) → is_memory at ≡ true → is_reserved at ≡ true → ⊥
    go in_memory a b = false_true b
    go reserved a b = false_true a
    go (in_page n) a b = false_true a

-- the chosen pieces are known
chosen_known : (s : Session) (h : History) → AllByRecursion (Known s h) (chosen s.limits h)
chosen_known s h =
    for_each (StandsFor (Held s h) (pageable (page_limit s) h)) (Known s h) (chosen s.limits h)
    (λ n one. subst (λ (m : ℕ). Known s h m) one.1
    (record {
      piece = one.0;
      found = one.2.there;
      granted = one.2.granted;
      came = λ filed. absurd (not_filed (page_with (pages h) one.0.number) (build_in (builds (page_limit s) h) one.0.blob) one.2.in_mind filed);
    }))
    (victims_stand (Held s h) (memory (page_limit s) h + head_bytes (waits (page_limit s) h) - s.limits.memory)
    (min (page_limit s) (s.limits.disk - disk (page_limit s) h)) (pageable (page_limit s) h) (last_uses s.limits h) (all_pageable s h))

-- and the disk has room for them
chosen_most : (s : Session) (h : History) → sum_by (length_in (pieces (page_limit s) h)) (chosen s.limits h) ≤ s.limits.disk - disk (page_limit s) h
chosen_most s h =
    let most = victims_most (length_in (pieces (page_limit s) h)) (memory (page_limit s) h + head_bytes (waits (page_limit s) h) - s.limits.memory)
    (min (page_limit s) (s.limits.disk - disk (page_limit s) h)) (pageable (page_limit s) h) (last_uses s.limits h)
    (for_each (Held s h) (λ (piece : Piece). length_in (pieces (page_limit s) h) piece.number ≡ piece.len) (pageable (page_limit s) h)
    (λ piece held. length_found (pieces (page_limit s) h) piece.number piece held.there) (all_pageable s h)) in
    omega (arith, most)

-- a page job fits
page_jobs_fit : (s : Session) (h : History) → Fits s h → Fits s (said_all h (page_jobs s h))
page_jobs_fit s h fits = go (may_start h && nat_lt 0 (length (waits (page_limit s) h))) refl
  where
    begin : is_none (in_flight h) ≡ true → (list : List ℕ) → chosen s.limits h ≡ list → Fits s (said_all h (page_job_of h list))
    begin idle [] e = fits
    begin idle (n ∷ more) e =
        let some = filter_less (length_in (pieces (page_limit s) h)) (has_number (reached (page_limit s) h)) (chosen s.limits h) in
        let most = chosen_most s h in
        let room : in_job (chosen s.limits h) (pieces (page_limit s) h) (reached (page_limit s) h) ≤ s.limits.disk - disk (page_limit s) h =
        omega (arith, some, most) in
        let apart : AreApart (chosen s.limits h) =
        part_apart (chosen s.limits h) (last_uses s.limits h)
        (part_victims (memory (page_limit s) h + head_bytes (waits (page_limit s) h) - s.limits.memory)
        (min (page_limit s) (s.limits.disk - disk (page_limit s) h)) (pageable (page_limit s) h) (last_uses s.limits h)) (uses_apart s.limits h) in
        job_fits s h (answers.Job (job_no (next_job h)) (piece_list (n ∷ more))) (n ∷ more) (refl, tt) refl refl (numbers_list (n ∷ more)) idle
        (subst AreApart e apart) (subst (AllByRecursion (Known s h)) e (chosen_known s h))
        (subst (λ (xs : List ℕ). in_job xs (pieces (page_limit s) h) (reached (page_limit s) h) ≤ s.limits.disk - disk (page_limit s) h) e room) fits

    go : (b : Bool) → (may_start h && nat_lt 0 (length (waits (page_limit s) h))) ≡ b
        → Fits s (said_all h (if b then page_job_of h (chosen s.limits h) else []))
    go false at = fits
    go true at = begin (and_parts (paging h) (is_none (in_flight h)) (and_parts (may_start h) (nat_lt 0 (length (waits (page_limit s) h))) at).0).1
        (chosen s.limits h) refl

-- ---- compactions

-- a compaction job fits
compaction_fits : (s : Session) (h : History) (file : Page) → movable s h ≡ Some file → is_none (in_flight h) ≡ true → Fits s h
    → Fits s (said h (compaction s h file))
compaction_fits s h file e idle fits =
    let test : can_move s h (builds (page_limit s) h) (pieces (page_limit s) h) (reached (page_limit s) h) file ≡ true =
    found_true (can_move s h (builds (page_limit s) h) (pieces (page_limit s) h) (reached (page_limit s) h)) (files (page_limit s) h) file e in
    let fitting = leb-true (bytes_of (in_page_of h (builds (page_limit s) h) file (reached (page_limit s) h))) (s.limits.disk - disk (page_limit s) h)
    (and_parts (is_thin h (builds (page_limit s) h) (pieces (page_limit s) h) (reached (page_limit s) h) file)
    (nat_le (bytes_of (in_page_of h (builds (page_limit s) h) file (reached (page_limit s) h))) (s.limits.disk - disk (page_limit s) h)) test).1 in
    let apart : AreApart file.pieces = among (λ (each : Page). AreApart each.pieces) fits.0.apart in
    let part = part_filter (has_number (in_page_of h (builds (page_limit s) h) file (reached (page_limit s) h))) file.pieces in
    let list_apart : AreApart (kept s h file) = part_apart (kept s h file) file.pieces part apart in
    let measured = filter_all (λ (piece : Piece). length_in (pieces (page_limit s) h) piece.number ≡ piece.len)
    (λ (piece : Piece). is_page file.number (place_in h (builds (page_limit s) h) piece)) (reached (page_limit s) h)
    (for_each (λ (piece : Piece). has_piece s h piece × (is_reached s h piece ≡ true)) (λ (piece : Piece). length_in (pieces (page_limit s) h) piece.number
    ≡ piece.len) (reached (page_limit s) h) (λ piece f. length_found (pieces (page_limit s) h) piece.number piece f.0) (all_reached s h)) in
    let sums = apart_sum (length_in (pieces (page_limit s) h)) file.pieces (in_page_of h (builds (page_limit s) h) file (reached (page_limit s) h)) apart
    measured in
    let some = filter_less (length_in (pieces (page_limit s) h)) (has_number (reached (page_limit s) h)) (kept s h file) in
    job_fits s h (compaction s h file) (kept s h file) (refl, tt) refl refl (numbers_list (kept s h file)) idle list_apart
    (for_each (λ (n : ℕ). list_any (λ (each : ℕ). each == n) (kept s h file) ≡ true) (Known s h) (kept s h file) (λ n member.
    fits.0.known n (or_first (list_any (λ (each : Page). lists each n) (pages h)) (list_any (λ (each : ℕ). each == n) (flying h))
    (among (λ (each : Page). lists each n ≡ true → list_any (λ (other : Page). lists other n) (pages h) ≡ true)
    (each_any (λ (each : Page). lists each n) (pages h)) (part_any (λ (each : ℕ). each == n) (kept s h file) file.pieces part member))))
    (all_members (kept s h file)))
    (omega (arith, fitting, sums, some)) fits
  where
    among : (P : Page → Type 0) → AllByRecursion P (pages h) → P file
    among P all =
        found_all P (can_move s h (builds (page_limit s) h) (pieces (page_limit s) h) (reached (page_limit s) h)) (files (page_limit s) h) file
        (filter_all P (λ (page : Page). nat_lt 0 (length (in_page_of h (builds (page_limit s) h) page (reached (page_limit s) h)))) (pages h) all) e

compactions_fit : (s : Session) (h : History) → Fits s h → Fits s (said_all h (compactions s h))
compactions_fit s h fits = go (may_start h) refl (movable s h) refl
  where
    go : (b : Bool) → may_start h ≡ b → (found : Option Page) → movable s h ≡ found
        → Fits s (said_all h (if b then option_to_list (option_map (compaction s h) found) else []))
    go false at found e = fits
    go true at None e = fits
    go true at (Some file) e = compaction_fits s h file e (and_parts (paging h) (is_none (in_flight h)) at).1 fits

-- ---- a whole settling

pub settle_disk : (s : Session) (unremoved : List ℕ) (h : History) → Fits s h → Fits s (said_all h (settle s unremoved h))
settle_disk s unremoved h fits =
    let h1 = said_all h (drops s h) in
    let h2 = said_all h1 (endings s h1) in
    let h3 = said_all h2 (drops s h2) in
    let h4 = said_all h3 (removals s unremoved h3) in
    let h5 = said_all h4 (grants s h4) in
    let h6 = said_all h5 (page_jobs s h5) in
    let last = settle_run (drops s ∷ endings s ∷ drops s ∷ removals s unremoved ∷ grants s ∷ page_jobs s ∷ compactions s ∷ []) h in
    subst (Fits s) (sym last)
    (compactions_fit s h6 (page_jobs_fit s h5 (grants_fit s h4 (fits_removals s unremoved h3 (fits_drops s h2 (fits_endings s h1 (fits_drops s h fits)))))))
