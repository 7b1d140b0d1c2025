-- A stored segment keeps the bytes charged to the disk within the limit.
use Rattle.std.proofs.Common.{◌≡◌, ℕ, zero, suc, ◌+◌, ◌≤◌, ◌<◌, ◌==◌, Bool, true, false, List, [], ◌∷◌, ◌++◌, length, refl, ap, subst, sym, ◌∙◌, arith, Option, Some, None}
use Rattle.std.specs.Prelude.{cond, filter, slice_get}
use Rattle.std.specs.Option.{option_map_or}
use Rattle.std.specs.List.{AllByRecursion, list_any}
use Rattle.std.proofs.lemmas.Bool.{eqb-true, eq-eqb, leb-false}
use Rattle.blob_words.specs.declared.number.RendererId.{RendererId}
use Rattle.blob_words.specs.declared.plan.Plan.{Plan}
use Rattle.blob_words.specs.declared.plan.Plan.TheVariants as plans
use Rattle.session_script.specs.declared.event.Event.TheVariants as events
use Rattle.answer_text.specs.declared.answer.Answer.{Answer}
use Rattle.answer_text.specs.declared.answer.Answer.TheVariants as answers
use Rattle.answer_text.specs.declared.refusal.Refusal.{Refusal}
use Rattle.transport_plan.specs.Spans.{segment_spans}
use Rattle.blob_model.specs.Session.{Session, page_limit}
use Rattle.blob_model.specs.History.{History, heard, said}
use Rattle.blob_model.specs.Parts.{own_lengths}
use Rattle.blob_model.specs.Builds.{Build, builds, build_in}
use Rattle.blob_model.specs.Standing.{is_granted}
use Rattle.blob_model.specs.Transport.{Arrival, arrivals, has_come, spans}
use Rattle.blob_model.specs.Pieces.{Piece, pieces, pieces_of, pieces_from, numbered, spans_of, planned_spans}
use Rattle.blob_model.specs.Pages.{Page, pages, next_page, page_with, lists, planned_place, unlisted_place, is_reserved}
use Rattle.blob_model.specs.Settle.{page_no}
use Rattle.blob_model.specs.Refusals.{refusal, segment_refusals}
use Rattle.blob_model.specs.Own.{piece_at, piece_no, plan_in}
use Rattle.blob_model.proofs.Lists.{any_append_second, false_true, filter_all, filter_has, for_each, get_all, get_there, or_first}
use Rattle.blob_model.proofs.kept.NewBlobs.{tests_fail}
use Rattle.blob_model.proofs.kept.Lines.{segment_found}
use Rattle.blob_model.proofs.live.Roots.{HoldersSpawned}
use Rattle.blob_model.proofs.memory.Steps.{filter_append}
use Rattle.blob_model.proofs.memory.Grants.{found_name}
use Rattle.blob_model.proofs.memory.PlainAnswers.{plain_said}
use Rattle.blob_model.proofs.builds.PieceNumbers.{FoundIn, AreNumbered, pieces_numbered, numbers_low}
use Rattle.blob_model.proofs.disk.Stock.{flying, is_listed, Known, HasCome, known_piece, listed_by}
use Rattle.blob_model.proofs.disk.Settling.{Fits, follows_all}
use Rattle.blob_model.proofs.disk.Jobs.{all_pieces}
use Rattle.blob_model.proofs.disk.DryAnswers.{dry_heard}
use Rattle.blob_model.proofs.disk.PageFiles.{piece_written}

-- ---- places in a list

-- numbers that rise
abbrev pub AreRising : List Piece → Type 0
AreRising [] = Unit {0}
AreRising (piece ∷ more) = AllByRecursion (λ (other : Piece). piece.number < other.number) more × AreRising more

-- pieces rise
pub numbered_rising : (n : ℕ) (list : List Piece) → AreNumbered n list → AreRising list
numbered_rising n [] all = tt
numbered_rising n (piece ∷ list) all =
    let here = all.0 in (
      for_each (λ (other : Piece). n + 1 ≤ other.number) (λ (other : Piece). piece.number < other.number) list (λ other low. omega (arith, low, here))
          (numbers_low (n + 1) list all.1),
      numbered_rising (n + 1) list all.1,
    )

-- also where some are left out
pub filter_rising : (test : Piece → Bool) (list : List Piece) → AreRising list → AreRising (filter test list)
filter_rising test [] rising = tt
filter_rising test (piece ∷ list) rising = go (test piece) (filter_rising test list rising.1)
  where
    go : (b : Bool) → AreRising (filter test list) → AreRising (cond b (piece ∷ filter test list) (filter test list))
    go true rest = (filter_all (λ (other : Piece). piece.number < other.number) test list rising.0, rest)
    go false rest = rest

-- a piece stands at one place
pub one_place : (list : List Piece) (i j : ℕ) (piece : Piece) → AreRising list → slice_get list i ≡ Some piece → slice_get list j ≡ Some piece → i ≡ j
one_place [] i j piece rising e f = cc
one_place (x ∷ list) zero zero piece rising e f = refl
one_place (x ∷ list) zero (suc j) piece rising e f =
    let same : x ≡ piece = cc in
    let low = get_all (λ (other : Piece). x.number < other.number) list j piece rising.0 f in
    let equal : x.number ≡ piece.number = ap (λ (each : Piece). each.number) same in
    absurd (omega (arith, low, equal))
one_place (x ∷ list) (suc i) zero piece rising e f =
    let same : x ≡ piece = cc in
    let low = get_all (λ (other : Piece). x.number < other.number) list i piece rising.0 e in
    let equal : x.number ≡ piece.number = ap (λ (each : Piece). each.number) same in
    absurd (omega (arith, low, equal))
one_place (x ∷ list) (suc i) (suc j) piece rising e f = ap suc (one_place list i j piece rising.1 e f)

-- ---- a blob has a piece for each span

-- the length of two lists
pub length_two : (xs ys : List Piece) → length (xs ++ ys) ≡ length xs + length ys
length_two [] ys = omega arith
length_two (x ∷ xs) ys = let rest = length_two xs ys in omega (arith, rest)

-- the pieces of the blob itself
numbered_length : (name blob number : ℕ) (list : List (ℕ × ℕ)) → (blob == name) ≡ true
    → length (filter (λ (piece : Piece). piece.blob == name) (numbered blob number list)) ≡ length list
numbered_length name blob number [] e = refl
numbered_length name blob number (span ∷ list) e =
    let rest = numbered_length name blob (number + 1) list e in
    let head : length (filter (λ (piece : Piece). piece.blob == name) (numbered blob number (span ∷ list)))
    ≡ length (record { number = number; blob = blob; from = span.0; len = span.1 } ∷ filter (λ (piece : Piece). piece.blob == name)
    (numbered blob (number + 1) list)) =
    (λ i. length (cond (e i) (record { number = number; blob = blob; from = span.0; len = span.1 } ∷ filter (λ (piece : Piece). piece.blob == name)
    (numbered blob (number + 1) list)) (filter (λ (piece : Piece). piece.blob == name) (numbered blob (number + 1) list)))) in
    omega (arith, rest, head)

-- a blob has at least a piece for each span
pub spans_within : (page number name : ℕ) (list : List Build) (build : Build) → build_in list name ≡ Some build → length (spans_of page build) ≤ length
    (filter (λ (piece : Piece). piece.blob == name) (pieces_from page number list))
spans_within page number name [] build e = cc
spans_within page number name (x ∷ list) build e = go (x.name == name) refl e (λ f. spans_within page (number + length (spans_of page x)) name list build f)
  where
    whole : length (filter (λ (piece : Piece). piece.blob == name) (pieces_from page number (x ∷ list)))
        ≡ length (filter (λ (piece : Piece). piece.blob == name) (numbered x.name number (spans_of page x))) + length
        (filter (λ (piece : Piece). piece.blob == name) (pieces_from page (number + length (spans_of page x)) list))
    whole =
        ap length (filter_append (λ (piece : Piece). piece.blob == name) (numbered x.name number (spans_of page x))
        (pieces_from page (number + length (spans_of page x)) list))
        ∙ length_two (filter (λ (piece : Piece). piece.blob == name) (numbered x.name number (spans_of page x)))
        (filter (λ (piece : Piece). piece.blob == name) (pieces_from page (number + length (spans_of page x)) list))

    go : (b : Bool) → (x.name == name) ≡ b → cond b (Some x) (build_in list name) ≡ Some build
        → (build_in list name ≡ Some build → length (spans_of page build) ≤ length
        (filter (λ (piece : Piece). piece.blob == name) (pieces_from page (number + length (spans_of page x)) list)))
        → length (spans_of page build) ≤ length (filter (λ (piece : Piece). piece.blob == name) (pieces_from page number (x ∷ list)))
    go true at f rest =
        let same : x ≡ build = cc in
        let one = numbered_length name x.name number (spans_of page x) at in
        let equal : length (spans_of page x) ≡ length (spans_of page build) = ap (λ (each : Build). length (spans_of page each)) same in
        omega (arith, whole, one, equal)
    go false at f rest = let later = rest f in omega (arith, whole, later)

-- ---- the stored piece

stored_by : (s : Session) (h : History) (renderer : RendererId) (b segment : ℕ) (bytes : List ℕ) (n : ℕ) (build : Build) → HoldersSpawned h
    → refusal s h (events.Segment renderer b segment bytes) ≡ None
    → build_in (builds (page_limit s) h) b ≡ Some build → build.plan ≡ Some (plans.File n) → is_granted h build ≡ true → segment < length (spans s.limits build)
    → has_come (arrivals h b) segment ≡ false
    → Fits s h → Fits s (said (heard h (events.Segment renderer b segment bytes) (answers.Taken segment))
    (answers.Stored (page_no (next_page h)) (piece_no (piece_at s h b segment))))
stored_by s h renderer b segment bytes n build holders accepted at plan granted low fresh fits =
    let first : Fits s next = dry_heard s h (events.Segment renderer b segment bytes) (answers.Taken segment) holders accepted refl refl fits in
    piece_written s next (said next stored) (record { number = next_page h; pieces = piece_at s h b segment ∷ [] }) piece (follows_all s next (stored ∷ []))
    (plain_said (page_limit s) next stored refl) refl refl refl refl alone found unlisted filed known first
  where
    next : History
    next = heard h (events.Segment renderer b segment bytes) (answers.Taken segment)

    stored : Answer
    stored = answers.Stored (page_no (next_page h)) (piece_no (piece_at s h b segment))

    same_name : build.name ≡ b
    same_name = found_name (builds (page_limit s) h) b build at

    -- the piece at the place of the segment
    place_of : (piece : Piece) × (slice_get (pieces_of (page_limit s) h b) segment ≡ Some piece)
    place_of =
        let equal : length (spans s.limits build) ≡ length (spans_of (page_limit s) build) =
        (λ i. length (option_map_or (λ (p : Plan). segment_spans (own_lengths build.parts) p s.limits) (plan i) [])) ∙ sym
        (λ i. length (planned_spans (page_limit s) build (plan i))) in
        let within = spans_within (page_limit s) 0 b (builds (page_limit s) h) build at in
        get_there (pieces_of (page_limit s) h b) segment (omega (arith, low, equal, within))

    piece : Piece
    piece = place_of.0

    alone : piece_at s h b segment ∷ [] ≡ piece.number ∷ []
    alone = ap (λ (o : Option Piece). option_map_or (λ (each : Piece). each.number) o 0 ∷ []) place_of.1

    both_facts : FoundIn (pieces (page_limit s) h) piece.number piece × ((piece.blob == b) ≡ true)
    both_facts =
        get_all (λ (each : Piece). FoundIn (pieces (page_limit s) h) each.number each × ((each.blob == b) ≡ true)) (pieces_of (page_limit s) h b) segment piece
        (filter_has (λ (each : Piece). FoundIn (pieces (page_limit s) h) each.number each) (λ (each : Piece). each.blob == b) (pieces (page_limit s) h)
        (all_pieces s h)) place_of.1

    found : FoundIn (pieces (page_limit s) h) piece.number piece
    found = both_facts.0

    of_b : piece.blob ≡ b
    of_b = eqb-true piece.blob b both_facts.1

    filed : is_reserved (unlisted_place (build_in (builds (page_limit s) h) piece.blob)) ≡ true
    filed =
        ap (λ (name : ℕ). is_reserved (unlisted_place (build_in (builds (page_limit s) h) name))) of_b ∙ ap
        (λ (o : Option Build). is_reserved (unlisted_place o)) at
        ∙ ap (λ (p : Option Plan). is_reserved (planned_place p)) plan

    at_place : slice_get (pieces_of (page_limit s) h piece.blob) segment ≡ Some piece
    at_place = subst (λ (name : ℕ). slice_get (pieces_of (page_limit s) h name) segment ≡ Some piece) (sym of_b) place_of.1

    not_listed : is_listed (pages h) (flying h) piece.number ≡ true → ⊥
    not_listed e =
        let known = fits.0.known piece.number e in
        let one : known.piece ≡ piece = known_piece s h piece found known in
        let came : HasCome s h piece =
        subst (HasCome s h) one (known.came (subst (λ (each : Piece). is_reserved (unlisted_place (build_in (builds (page_limit s) h) each.blob)) ≡ true)
        (sym one) filed)) in
        let equal : came.0 ≡ segment = one_place (pieces_of (page_limit s) h piece.blob) came.0 segment piece
        (filter_rising (λ (each : Piece). each.blob == piece.blob) (pieces (page_limit s) h)
        (numbered_rising 0 (pieces (page_limit s) h) (pieces_numbered (page_limit s) 0 (builds (page_limit s) h)))) came.1 at_place in
        let arrived : has_come (arrivals h b) segment ≡ true = sym (λ i. has_come (arrivals h (of_b i)) (equal i)) ∙ came.2 in
        false_true (sym fresh ∙ arrived)

    unlisted : page_with (pages h) piece.number ≡ None
    unlisted = go (page_with (pages h) piece.number) refl
      where
        go : (o : Option Page) → page_with (pages h) piece.number ≡ o → o ≡ None
        go None e = refl
        go (Some file) e =
            absurd
            (not_listed (or_first (list_any (λ (each : Page). lists each piece.number) (pages h)) (list_any (λ (each : ℕ). each == piece.number) (flying h))
            (listed_by (pages h) piece.number file e)))

    has_now : has_come (arrivals next b) segment ≡ true
    has_now =
        (λ i. has_come (cond (eq-eqb b b refl i) (arrivals h b ++ record { segment = segment; bytes = bytes } ∷ []) (arrivals h b)) segment)
        ∙ any_append_second (λ (arrival : Arrival). arrival.segment == segment) (arrivals h b) (record { segment = segment; bytes = bytes } ∷ [])
        (or_first (segment == segment) false (eq-eqb segment segment refl))

    known : Known s next piece.number
    known = record {
      piece = piece;
      found = found;
      granted = ap (λ (name : ℕ). option_map_or (is_granted next) (build_in (builds (page_limit s) h) name) false) of_b ∙ ap
          (λ (o : Option Build). option_map_or (is_granted next) o false) at ∙ granted;
      came = λ e. (segment, at_place, subst (λ (name : ℕ). has_come (arrivals next name) segment ≡ true) (sym of_b) has_now);
    }

-- the line's tests say what the stored piece needs
pub stored_fits : (s : Session) (h : History) (renderer : RendererId) (b segment : ℕ) (bytes : List ℕ) (n : ℕ) → HoldersSpawned h
    → refusal s h (events.Segment renderer b segment bytes) ≡ None → plan_in s h b ≡ Some (plans.File n) → Fits s h
    → Fits s (said (heard h (events.Segment renderer b segment bytes) (answers.Taken segment))
    (answers.Stored (page_no (next_page h)) (piece_no (piece_at s h b segment))))
stored_fits s h renderer b segment bytes n holders accepted plan fits = go (build_in (builds (page_limit s) h) b) refl
    (tests_fail s h (events.Segment renderer b segment bytes) accepted).1
  where
    go : (found : Option Build) → build_in (builds (page_limit s) h) b ≡ found → AllByRecursion (λ (case : Bool × Refusal). case.0 ≡ false)
        (segment_refusals s h renderer b segment (length bytes) found)
        → Fits s (said (heard h (events.Segment renderer b segment bytes) (answers.Taken segment))
        (answers.Stored (page_no (next_page h)) (piece_no (piece_at s h b segment))))
    go None at tests = absurd (false_true (sym tests.0))
    go (Some build) at tests =
        let sends = segment_found s h renderer b segment (length bytes) (Some build) tests in
        let same : sends.0 ≡ build = (let e = sends.1 in cc) in
        let granted : is_granted h build ≡ true = subst (λ (each : Build). is_granted h each ≡ true) same sends.2 in
        let planned : build.plan ≡ Some (plans.File n) = sym (ap (λ (o : Option Build). option_map_or (λ (each : Build). each.plan) o None) at) ∙ plan in
        stored_by s h renderer b segment bytes n build holders accepted at planned granted (leb-false (length (spans s.limits build)) segment tests.1.0)
        tests.1.1.0 fits
