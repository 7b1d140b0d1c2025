-- A build within the limits stays within them.
use Rattle.std.proofs.Common.{◌≡◌, ◌⊎◌, ℕ, ◌+◌, ◌≤◌, ◌==◌, Bool, true, false, ◌&&◌, ◌||◌, not, List, [], ◌∷◌, ◌++◌, reverse, length, refl, ap, subst, sym, ◌∙◌, arith, Option, Some, None, append-nil}
use Rattle.std.specs.Prelude.{cond, filter, is_none, sum_by, nat_lt, nat_le}
use Rattle.std.specs.Option.{option_map_or}
use Rattle.std.specs.List.{AllByRecursion, list_any}
use Rattle.std.specs.Int.{div_ceil}
use Rattle.std.proofs.lemmas.Bool.{and_parts, or_parts, eqb-true, eq-eqb, leb-true}
use Rattle.blob_words.specs.declared.counted.Counted.{Counted}
use Rattle.blob_words.specs.declared.counted.Counted.TheVariants as counted
use Rattle.blob_words.specs.declared.plan.Plan.{Plan}
use Rattle.blob_words.specs.declared.plan.Plan.TheVariants as plans
use Rattle.blob_words.specs.declared.status.Status.{Status}
use Rattle.session_script.specs.declared.event.Event.{Event}
use Rattle.session_script.specs.declared.event.Part.{Part}
use Rattle.answer_text.specs.declared.answer.Answer.{Answer}
use Rattle.answer_text.specs.declared.answer.Answer.TheVariants as answers
use Rattle.transport_plan.specs.Plan.{file_plan, shared_plan, has_file_room, fits_inline}
use Rattle.transport_plan.specs.Plan.{own_bytes as input_bytes}
use Rattle.blob_model.specs.Session.{Session, page_limit}
use Rattle.blob_model.specs.History.{History, heard}
use Rattle.blob_model.specs.Parts.{sources, own_bytes, embedded}
use Rattle.blob_model.specs.Builds.{Build, builds, build_in, cells_of, planned_cells, plan_told}
use Rattle.blob_model.specs.Standing.{ended, is_broken, is_broken_status, was_granted, is_granted, grants_at_once}
use Rattle.blob_model.specs.Handles.{has_handle, is_held}
use Rattle.blob_model.specs.Entries.{is_named}
use Rattle.blob_model.specs.Readers.{is_read}
use Rattle.blob_model.specs.Live.{is_rooted, live}
use Rattle.blob_model.specs.Pieces.{Piece, pieces_from, numbered, spans_of, owns}
use Rattle.blob_model.specs.Reached.{some_passes, is_granted_piece, owns_some, live_cells}
use Rattle.blob_model.specs.Pages.{Page, pages, page_with, place_by, planned_place, is_memory}
use Rattle.blob_model.specs.Tally.{memory, bytes_of}
use Rattle.blob_model.specs.Construct.{is_lost_source, line_tests, line_status, build_answer, build_answer_by, plan_for, plan_input}
use Rattle.blob_model.proofs.Lists.{any_reverse, both, false_true, for_each, not_false, or_first}
use Rattle.blob_model.proofs.builds.Cells.{none_applies}
use Rattle.blob_model.proofs.live.Least.{named}
use Rattle.blob_model.proofs.settled.Endings.{some_that}
use Rattle.blob_model.proofs.kept.Kept.{Kept, unfinished_heard}
use Rattle.blob_model.proofs.kept.NewBlobs.{new_build, embedded_within, fails_at}
use Rattle.blob_model.proofs.live.Roots.{HoldersSpawned, held_by}
use Rattle.blob_model.proofs.memory.Shrinking.{holds_piece, some_any}
use Rattle.blob_model.proofs.memory.Steps.{of_blob, blob_bytes}
use Rattle.blob_model.proofs.memory.Grants.{found_name}
use Rattle.blob_model.proofs.memory.NewSources.{owns_source, rooted_any, found_any}
use Rattle.blob_model.proofs.memory.Builds.{Adds, memory_adds, in_memory_now, reached_now, sum_where, found_last, numbered_named}

-- ---- what a plan says

inline_by : (b1 b2 b3 b4 : Bool) (file shared : Plan) → (file ≡ plans.Inline → ⊥) → (shared ≡ plans.Inline → ⊥)
    → cond b1 plans.None (cond b2 plans.OutOfMemory (cond b3 file (cond b4 plans.Inline shared))) ≡ plans.Inline → b4 ≡ true
inline_by true b2 b3 b4 file shared f g e = cc
inline_by false true b3 b4 file shared f g e = cc
inline_by false false true b4 file shared f g e = absurd (f e)
inline_by false false false true file shared f g e = refl
inline_by false false false false file shared f g e = absurd (g e)

none_by : (b1 b2 b3 b4 : Bool) (file shared : Plan) → (file ≡ plans.None → ⊥) → (shared ≡ plans.None → ⊥)
    → cond b1 plans.None (cond b2 plans.OutOfMemory (cond b3 file (cond b4 plans.Inline shared))) ≡ plans.None → b1 ≡ true
none_by true b2 b3 b4 file shared f g e = refl
none_by false true b3 b4 file shared f g e = cc
none_by false false true b4 file shared f g e = absurd (f e)
none_by false false false true file shared f g e = cc
none_by false false false false file shared f g e = absurd (g e)

file_other : (n : ℕ) (p : Plan) → ((m : ℕ) → plans.File m ≡ p → ⊥) → ((c : Counted) → plans.TooMany c ≡ p → ⊥) → file_plan n ≡ p → ⊥
file_other n p f g e = go (nat_lt 65536 n) e
  where
    go : (b : Bool) → cond b (plans.TooMany counted.Pieces) (plans.File n) ≡ p → ⊥
    go true at = g counted.Pieces at
    go false at = f n at

pub shared_other : (n : ℕ) (p : Plan) → ((m : ℕ) → plans.Shared m ≡ p → ⊥) → ((c : Counted) → plans.TooMany c ≡ p → ⊥) → shared_plan n ≡ p → ⊥
shared_other n p f g e = go (nat_lt 65536 n) e
  where
    go : (b : Bool) → cond b (plans.TooMany counted.Segments) (plans.Shared n) ≡ p → ⊥
    go true at = g counted.Segments at
    go false at = f n at

inline_fits : (s : Session) (h : History) (parts : List Part) → plan_for s h parts ≡ plans.Inline → memory (page_limit s) h + own_bytes parts ≤ s.limits.memory
inline_fits s h parts e =
    let input = plan_input s h parts in
    let fits : fits_inline (plan_input s h parts) ≡ true =
    inline_by (input_bytes (plan_input s h parts) == 0) (nat_lt s.limits.memory (input_bytes (plan_input s h parts))
    && not (has_file_room (plan_input s h parts))) (nat_lt s.limits.big (input_bytes (plan_input s h parts)) && has_file_room (plan_input s h parts))
    (fits_inline (plan_input s h parts)) (file_plan (plan_input s h parts).pieces)
    (shared_plan (div_ceil (input_bytes (plan_input s h parts)) s.limits.segment))
    (file_other (plan_input s h parts).pieces plans.Inline (λ m f. cc) (λ c f. cc))
    (shared_other (div_ceil (input_bytes (plan_input s h parts)) s.limits.segment) plans.Inline (λ m f. cc) (λ c f. cc)) e in
    let last = (and_parts _ (nat_le (memory (page_limit s) h + input_bytes (plan_input s h parts)) s.limits.memory) fits).1 in
    let room : memory (page_limit s) h + input_bytes (plan_input s h parts) ≤ s.limits.memory =
    leb-true (memory (page_limit s) h + input_bytes (plan_input s h parts)) s.limits.memory last in
    let within : length (embedded parts) ≤ own_bytes parts = embedded_within parts in
    omega (arith, room, within)

none_bytes : (s : Session) (h : History) (parts : List Part) → plan_for s h parts ≡ plans.None → own_bytes parts ≤ 0
none_bytes s h parts e =
    let zeroed : (input_bytes (plan_input s h parts) == 0) ≡ true =
    none_by (input_bytes (plan_input s h parts) == 0) (nat_lt s.limits.memory (input_bytes (plan_input s h parts))
    && not (has_file_room (plan_input s h parts))) (nat_lt s.limits.big (input_bytes (plan_input s h parts)) && has_file_room (plan_input s h parts))
    (fits_inline (plan_input s h parts)) (file_plan (plan_input s h parts).pieces)
    (shared_plan (div_ceil (input_bytes (plan_input s h parts)) s.limits.segment))
    (file_other (plan_input s h parts).pieces plans.None (λ m f. cc) (λ c f. cc))
    (shared_other (div_ceil (input_bytes (plan_input s h parts)) s.limits.segment) plans.None (λ m f. cc) (λ c f. cc)) e in
    let bytes : input_bytes (plan_input s h parts) ≡ 0 = eqb-true (input_bytes (plan_input s h parts)) 0 zeroed in
    let within : length (embedded parts) ≤ own_bytes parts = embedded_within parts in
    omega (arith, bytes, within)

-- ---- what a build adds

source_root : (s : Session) (h : History) (renderer name source : ℕ) (parts : List Part) → HoldersSpawned h → line_status s h renderer name parts ≡ None
    → list_any (λ (each : ℕ). each == source) (sources parts) ≡ true
    → (is_rooted (page_limit s) h source ≡ true) × (is_broken h source ≡ false)
source_root s h renderer name source parts holders e member =
    let tests = none_applies (line_tests s h renderer name parts) e in
    let lost : is_lost_source h renderer source ≡ false = fails_at (is_lost_source h renderer) (sources parts) source tests.1.0 member in
    let two = or_parts (not (has_handle h renderer source)) (is_broken h source) lost in
    let held : is_held h source ≡ true = held_by h renderer source holders (not_false (has_handle h renderer source) two.0) in
    (or_first (is_held h source || is_named h source) (is_read (page_limit s) h source) (or_first (is_held h source) (is_named h source) held), two.1)

cells_live : (s : Session) (h : History) (renderer name : ℕ) (parts : List Part) (piece : Piece) → HoldersSpawned h → named name (builds (page_limit s) h)
    ≡ false → line_status s h renderer name parts ≡ None
    → named piece.blob (builds (page_limit s) h) ≡ true → list_any (owns piece) (cells_of (builds (page_limit s) h) name 0 parts) ≡ true
    → list_any (holds_piece h piece) (live (page_limit s) h) ≡ true
cells_live s h renderer name parts piece holders fresh e member owned =
    let from = owns_source (builds (page_limit s) h) name 0 piece parts (other (name == piece.blob) refl) owned in
    let root = source_root s h renderer name from.0 parts holders e from.1 in
    rooted_any (page_limit s) h from.0 (holds_piece h piece) (reverse (builds (page_limit s) h)) [] root.0
    (any_reverse (λ (build : Build). (build.name == from.0) && holds_piece h piece build) (builds (page_limit s) h)
    (look from.0 root.1 (build_in (builds (page_limit s) h) from.0) refl from.2))
  where
    other : (b : Bool) → (name == piece.blob) ≡ b → b ≡ false
    other false at = refl
    other true at = absurd (false_true (sym fresh ∙ subst (λ (n : ℕ). named n (builds (page_limit s) h) ≡ true) (sym (eqb-true name piece.blob at)) member))

    look : (source : ℕ) → is_broken h source ≡ false → (found : Option Build) → build_in (builds (page_limit s) h) source ≡ found
        → list_any (owns piece) (option_map_or (λ (build : Build). build.cells) found []) ≡ true
        → list_any (λ (build : Build). (build.name == source) && holds_piece h piece build) (builds (page_limit s) h) ≡ true
    look source whole None at cells = absurd (false_true cells)
    look source whole (Some build) at cells =
        let same : build.name ≡ source = found_name (builds (page_limit s) h) source build at in
        let unbroken : not (is_broken h build.name) ≡ true = (λ i. not (is_broken h (same i))) ∙ (λ i. not (whole i)) in
        found_any (builds (page_limit s) h) source (holds_piece h piece) build at
        (both (not (is_broken h build.name)) (some_passes (owns piece) build.cells) unbroken (some_any (owns piece) build.cells ∙ cells))

-- a status of the line breaks
status_breaks : (s : Session) (h : History) (renderer name : ℕ) (parts : List Part) (status : Status) → line_status s h renderer name parts ≡ Some status
    → is_broken_status status ≡ true
status_breaks s h renderer name parts status e = some_that (λ (each : Status). is_broken_status each ≡ true) (line_tests s h renderer name parts) status
    (refl, (refl, (refl, (refl, tt)))) e

module _ (s : Session) (h : History) (event : Event) (renderer name : ℕ) (kind : List ℕ) (parts : List Part) (kept : Kept s h) (holders : HoldersSpawned h)
    (fresh : named name (builds (page_limit s) h) ≡ false)
    (blobs : (plan : Answer) → plan ≡ build_answer s h renderer name parts → builds (page_limit s) (heard h event plan) ≡ builds (page_limit s) h
    ++ new_build s h renderer name kind parts ∷ [])
    (roots : (plan : Answer) (n : ℕ) → is_rooted (page_limit s) (heard h event plan) n ≡ true → (is_rooted (page_limit s) h n ≡ true) ⊎ ((n == name) ≡ true))
  where
    pub adds_by : (status : Option Status) → line_status s h renderer name parts ≡ status
        → Adds (page_limit s) h (heard h event (build_answer_by s h name parts status)) (new_build s h renderer name kind parts)
    adds_by (Some status) e = record {
      blobs = blobs (answers.Broken name status) (ap (build_answer_by s h name parts) (sym e));
      fresh = fresh;
      roots = roots (answers.Broken name status);
      begun = λ n. unfinished_heard h event (answers.Broken name status) n;
      broken = λ n was. go n (name == n) was;
      granted = λ n. refl;
      written = refl;
      needs = λ source begun has. absurd (false_true (sym (λ i. is_none (cond (eq-eqb name name refl i) (Some status) (ended h name))) ∙ begun));
      cells =
          λ piece member owned. absurd
          (false_true
          (sym
          (ap (λ (o : Option Status). list_any (owns piece) (planned_cells (builds (page_limit s) h) name parts (plan_told (build_answer_by s h name parts o))))
          e) ∙ owned));
    }
      where
        go : (n : ℕ) (b : Bool) → is_broken h n ≡ true → option_map_or is_broken_status (cond b (Some status) (ended h n)) false ≡ true
        go n true was = status_breaks s h renderer name parts status e
        go n false was = was
    adds_by None e = record {
      blobs = blobs (answers.Planned (plan_for s h parts)) (ap (build_answer_by s h name parts) (sym e));
      fresh = fresh;
      roots = roots (answers.Planned (plan_for s h parts));
      begun = λ n. unfinished_heard h event (answers.Planned (plan_for s h parts)) n;
      broken = λ n was. was;
      granted = λ n. refl;
      written = refl;
      needs = λ source begun has. (source_root s h renderer name source parts holders e has).0;
      cells =
          λ piece member owned. cells_live s h renderer name parts piece holders fresh e member
          (subst (λ (o : Option Status). list_any (owns piece) (planned_cells (builds (page_limit s) h) name parts
          (plan_told (build_answer_by s h name parts o)))
          ≡ true) e owned);
    }

    -- ---- the bytes of the new pieces

    abbrev pub added : Option Status → History
    added status = heard h event (build_answer_by s h name parts status)

    abbrev whole_build : Build
    whole_build = new_build s h renderer name kind parts

    own_most : (status : Option Status) (e : line_status s h renderer name parts ≡ status) (next : ℕ)
        → bytes_of (filter (in_memory_now (page_limit s) h (added status) whole_build (adds_by status e))
        (filter (reached_now (page_limit s) h (added status) whole_build (adds_by status e)) (pieces_from (page_limit s) next (whole_build ∷ [])))) ≤
        own_bytes parts
    own_most status e next =
        let adds = adds_by status e in
        let one = numbered_named (λ (n : ℕ). (n == name) ≡ true) name next (spans_of (page_limit s) whole_build) (eq-eqb name name refl) in
        let each : AllByRecursion (λ (piece : Piece). (piece.blob == name) ≡ true) (pieces_from (page_limit s) next (whole_build ∷ [])) =
        subst (λ (xs : List Piece). AllByRecursion (λ (piece : Piece). (piece.blob == name) ≡ true) xs)
        (sym (append-nil (numbered name next (spans_of (page_limit s) whole_build)))) one in
        let low = sum_where (λ (piece : Piece). piece.len) (in_memory_now (page_limit s) h (added status) whole_build (adds_by status e))
        (reached_now (page_limit s) h (added status) whole_build (adds_by status e))
        (λ (piece : Piece). piece.blob == name) (λ (piece : Piece). true) (pieces_from (page_limit s) next (whole_build ∷ []))
        (for_each (λ (piece : Piece). (piece.blob == name) ≡ true)
        (λ (piece : Piece). in_memory_now (page_limit s) h (added status) whole_build (adds_by status e) piece ≡ true → reached_now (page_limit s) h
        (added status) whole_build (adds_by status e) piece ≡ true → ((piece.blob == name) ≡ true) × (true ≡ true))
        (pieces_from (page_limit s) next (whole_build ∷ [])) (λ piece at a b. (at, refl)) each) in
        let all : filter (λ (piece : Piece). true) (pieces_from (page_limit s) next (whole_build ∷ [])) ≡ pieces_from (page_limit s) next (whole_build ∷ []) =
        everything (pieces_from (page_limit s) next (whole_build ∷ [])) in
        let sums : sum_by (λ (piece : Piece). piece.len) (filter (λ (piece : Piece). piece.blob == name)
        (filter (λ (piece : Piece). true) (pieces_from (page_limit s) next (whole_build ∷ []))))
        ≡ of_blob name (pieces_from (page_limit s) next (whole_build ∷ [])) =
        ap (of_blob name) all in
        let own = blob_bytes s.limits next name (whole_build ∷ []) (refl, tt) in
        let found : option_map_or (λ (build : Build). own_bytes build.parts) (build_in (whole_build ∷ []) name) 0 ≡ own_bytes parts =
        (λ i. option_map_or (λ (build : Build). own_bytes build.parts) (cond (eq-eqb name name refl i) (Some whole_build) None) 0) in
        omega (arith, low, sums, own, found)
      where
        everything : (xs : List Piece) → filter (λ (piece : Piece). true) xs ≡ xs
        everything [] = refl
        everything (x ∷ xs) = ap (λ ys. x ∷ ys) (everything xs)

    -- where a new piece is either not reached or not in memory there are none
    none_added : (status : Option Status) (e : line_status s h renderer name parts ≡ status) (next : ℕ)
        → ((piece : Piece) → (piece.blob == name) ≡ true → in_memory_now (page_limit s) h (added status) whole_build (adds_by status e) piece ≡ true
        → reached_now (page_limit s) h (added status) whole_build (adds_by status e) piece ≡ true → ⊥)
        → bytes_of (filter (in_memory_now (page_limit s) h (added status) whole_build (adds_by status e))
        (filter (reached_now (page_limit s) h (added status) whole_build (adds_by status e)) (pieces_from (page_limit s) next (whole_build ∷ [])))) ≤ 0
    none_added status e next never =
        let one = numbered_named (λ (n : ℕ). (n == name) ≡ true) name next (spans_of (page_limit s) whole_build) (eq-eqb name name refl) in
        let each : AllByRecursion (λ (piece : Piece). (piece.blob == name) ≡ true) (pieces_from (page_limit s) next (whole_build ∷ [])) =
        subst (λ (xs : List Piece). AllByRecursion (λ (piece : Piece). (piece.blob == name) ≡ true) xs)
        (sym (append-nil (numbered name next (spans_of (page_limit s) whole_build)))) one in
        let low = sum_where (λ (piece : Piece). piece.len) (in_memory_now (page_limit s) h (added status) whole_build (adds_by status e))
        (reached_now (page_limit s) h (added status) whole_build (adds_by status e))
        (λ (piece : Piece). false) (λ (piece : Piece). false) (pieces_from (page_limit s) next (whole_build ∷ []))
        (for_each (λ (piece : Piece). (piece.blob == name) ≡ true)
        (λ (piece : Piece). in_memory_now (page_limit s) h (added status) whole_build (adds_by status e) piece ≡ true → reached_now (page_limit s) h
        (added status) whole_build (adds_by status e) piece ≡ true → (false ≡ true) × (false ≡ true))
        (pieces_from (page_limit s) next (whole_build ∷ [])) (λ piece at a b. absurd (never piece at a b)) each) in
        let empty : sum_by (λ (piece : Piece). piece.len) (filter (λ (piece : Piece). false)
        (filter (λ (piece : Piece). false) (pieces_from (page_limit s) next (whole_build ∷ [])))) ≡ 0 =
        ap (sum_by (λ (piece : Piece). piece.len)) (nothing (pieces_from (page_limit s) next (whole_build ∷ []))) in
        omega (arith, low, empty)
      where
        nothing : (xs : List Piece) → filter (λ (piece : Piece). false) (filter (λ (piece : Piece). false) xs) ≡ []
        nothing [] = refl
        nothing (x ∷ xs) = nothing xs

    -- the blob of a new piece is the new one
    new_found : (piece : Piece) → (piece.blob == name) ≡ true → build_in (builds (page_limit s) h ++ whole_build ∷ []) piece.blob ≡ Some whole_build
    new_found piece at = ap (build_in (builds (page_limit s) h ++ whole_build ∷ [])) (eqb-true piece.blob name at) ∙ found_last (builds (page_limit s) h)
        whole_build fresh

    not_reached : (status : Option Status) (e : line_status s h renderer name parts ≡ status) (piece : Piece) → is_granted (added status) whole_build ≡ false
        → (piece.blob == name) ≡ true
        → reached_now (page_limit s) h (added status) whole_build (adds_by status e) piece ≡ true → ⊥
    not_reached status e piece waits at reach =
        let granted = (and_parts (is_granted_piece (added status) (builds (page_limit s) h ++ whole_build ∷ []) piece)
        (owns_some (live_cells (page_limit s) (added status)) piece) reach).0 in
        false_true (sym waits ∙ sym (ap (λ (o : Option Build). option_map_or (is_granted (added status)) o false) (new_found piece at)) ∙ granted)

    -- the plan that the new blob has
    pub plan_is : (status : Option Status) → line_status s h renderer name parts ≡ status → whole_build.plan ≡ plan_told (build_answer_by s h name parts status)
    plan_is status e = ap (λ (o : Option Status). plan_told (build_answer_by s h name parts o)) e

    fits_by : (status : Option Status) (e : line_status s h renderer name parts ≡ status) → was_granted h name ≡ false → memory (page_limit s) h ≤
        s.limits.memory
        → memory (page_limit s) (added status) ≤ s.limits.memory
    fits_by (Some status) e not_yet fits =
        let more = memory_adds (page_limit s) h (added (Some status)) whole_build (adds_by (Some status) e) in
        let none = none_added (Some status) e more.0 (λ piece at a b. not_reached (Some status) e piece waits at b) in
        omega (arith, more.1, none, fits)
      where
        waits : is_granted (added (Some status)) whole_build ≡ false
        waits = (λ i. option_map_or grants_at_once (plan_is (Some status) e i) false || not_yet i)
    fits_by None e not_yet fits = go (plan_for s h parts) refl
      where
        more : (next : ℕ) × (memory (page_limit s) (added None) ≤ memory (page_limit s) h + bytes_of
            (filter (in_memory_now (page_limit s) h (added None) whole_build (adds_by None e))
            (filter (reached_now (page_limit s) h (added None) whole_build (adds_by None e)) (pieces_from (page_limit s) next (whole_build ∷ [])))))
        more = memory_adds (page_limit s) h (added None) whole_build (adds_by None e)

        waiting : (plan : Plan) → plan_for s h parts ≡ plan → grants_at_once plan ≡ false → memory (page_limit s) (added None) ≤ s.limits.memory
        waiting plan at no_grant =
            let waits : is_granted (added None) whole_build ≡ false =
            (λ i. option_map_or grants_at_once (plan_is None e i) false || not_yet i) ∙ (λ i. grants_at_once (at i) || false) ∙ (λ i. no_grant i || false) in
            let none = none_added None e more.0 (λ piece same a b. not_reached None e piece waits same b) in
            omega (arith, more.1, none, fits)

        go : (plan : Plan) → plan_for s h parts ≡ plan → memory (page_limit s) (added None) ≤ s.limits.memory
        go plans.None at = let own = own_most None e more.0 in let none = none_bytes s h parts at in omega (arith, more.1, own, none, fits)
        go plans.Inline at = let own = own_most None e more.0 in let room = inline_fits s h parts at in omega (arith, more.1, own, room)
        go (plans.Shared n) at = waiting (plans.Shared n) at refl
        go (plans.File n) at =
            let none = none_added None e more.0 (λ piece same a b.
            let plan : whole_build.plan ≡ Some (plans.File n) = plan_is None e ∙ ap (λ (p : Plan). Some p) at in
            absurd (reserved_never (page_with (pages h) piece.number) plan
            (ap (λ (o : Option Build). is_memory (place_by (page_with (pages h) piece.number) o)) (sym (new_found piece same)) ∙ a))) in
            omega (arith, more.1, none, fits)
          where
            reserved_never : (found : Option Page) → whole_build.plan ≡ Some (plans.File n) → is_memory (place_by found (Some whole_build)) ≡ true → ⊥
            reserved_never None plan m = false_true (sym (ap (λ (o : Option Plan). is_memory (planned_place o)) plan) ∙ m)
            reserved_never (Some file) plan m = false_true m
        go plans.OutOfMemory at = waiting plans.OutOfMemory at refl
        go (plans.TooMany what) at = waiting (plans.TooMany what) at refl

    pub build_fits : was_granted h name ≡ false → memory (page_limit s) h ≤ s.limits.memory
        → memory (page_limit s) (heard h event (build_answer s h renderer name parts)) ≤ s.limits.memory
    build_fits not_yet fits = fits_by (line_status s h renderer name parts) refl not_yet fits
