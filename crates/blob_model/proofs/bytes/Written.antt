-- Each piece that a page file or the job in flight lists is there, and each of its bytes has a value.
use Rattle.std.proofs.Common.{◌≡◌, ◌⊎◌, ℕ, zero, suc, ◌+◌, ◌-◌, ◌^◌, ◌≤◌, ◌<◌, ◌==◌, Bool, true, false, ◌&&◌, ◌||◌, not, List, [], ◌∷◌, ◌++◌, length, refl, ap, subst, sym, ◌∙◌, inl, inr, ⊎_elim, arith, Option, Some, None, append-nil, append_assoc}
use Rattle.std.specs.Prelude.{cond, filter, filter_map, min, nat_lt, slice_get, IfSome}
use Rattle.std.specs.Option.{option_map_or}
use Rattle.std.specs.List.{AllByRecursion, cons_option, list_any, range_with_len}
use Rattle.std.proofs.lemmas.Bool.{and_parts, or_parts, eqb-true, eq-eqb, leb-false}
use Rattle.std.proofs.lemmas.List.Folds.{list_any-append}
use Rattle.blob_words.specs.declared.number.RendererId.{RendererId}
use Rattle.blob_words.specs.declared.number.JobNo.{JobNo}
use Rattle.blob_words.specs.declared.plan.Plan.{Plan}
use Rattle.blob_words.specs.declared.plan.Plan.TheVariants as plans
use Rattle.session_script.specs.declared.event.Event.{Event}
use Rattle.session_script.specs.declared.event.Event.TheVariants as events
use Rattle.answer_text.specs.declared.answer.Answer.{Answer}
use Rattle.answer_text.specs.declared.answer.Answer.TheVariants as answers
use Rattle.answer_text.specs.declared.refusal.Refusal.{Refusal}
use Rattle.transport_plan.specs.Spans.{segment_spans}
use Rattle.blob_model.specs.Session.{Session, page_limit}
use Rattle.blob_model.specs.History.{History, start, heard, refused, said}
use Rattle.blob_model.specs.Parts.{parts_length, own_lengths, own_bytes}
use Rattle.blob_model.specs.Builds.{sent, Build, builds, build_in}
use Rattle.blob_model.specs.Standing.{was_granted, grants_at_once, is_granted, is_done}
use Rattle.blob_model.specs.Transport.{Arrival, arrivals, spans, has_come}
use Rattle.blob_model.specs.Pieces.{Piece, pieces, pieces_from, pieces_of, numbered, spans_of, planned_spans, length_in}
use Rattle.blob_model.specs.Reached.{live_cells, is_granted_piece, owns_some, reached}
use Rattle.blob_model.specs.Pages.{Page, pages, next_page, pages_after, lists, numbers, is_memory, is_reserved, page_with, place_in, unlisted_place}
use Rattle.blob_model.specs.Jobs.{Job, in_flight, in_flight_after, without_job, is_in_job}
use Rattle.blob_model.specs.Tally.{job_left, job_left_of, memory, disk, in_page_of, files}
use Rattle.blob_model.specs.Waits.{waits}
use Rattle.blob_model.specs.Victims.{pageable, last_uses, chosen, head_bytes}
use Rattle.blob_model.specs.Value.{value}
use Rattle.blob_model.specs.Choice.{IsOneOf}
use Rattle.blob_model.specs.Settle.{piece_list, can_move, movable, kept}
use Rattle.blob_model.specs.Changes.{piece_bytes, numbered_bytes}
use Rattle.blob_model.specs.Refusals.{refusal, segment_refusals}
use Rattle.blob_model.specs.Own.{plan_in, piece_at, job_done, job_failed, source_of}
use Rattle.blob_model.proofs.Lists.{all_append, all_members, any_append_second, any_filtered, each_any, false_true, filter_all, filter_has, for_both, for_each, found_all, get_all, get_append, get_there, member_has, or_cases, or_first, or_second}
use Rattle.blob_model.proofs.builds.Order.{Distinct}
use Rattle.blob_model.proofs.kept.NewBlobs.{tests_fail}
use Rattle.blob_model.proofs.kept.Lines.{segment_found}
use Rattle.blob_model.proofs.live.Closed.{cover_pieces}
use Rattle.blob_model.proofs.memory.Steps.{filter_append}
use Rattle.blob_model.proofs.legal.Steps.{builds_found, distinct_of, kept_caused}
use Rattle.blob_model.proofs.builds.PieceNumbers.{FoundIn, found_append, length_found}
use Rattle.blob_model.proofs.disk.Victims.{victims_stand, StandsFor}
use Rattle.blob_model.proofs.disk.Stock.{flying_of, flying, is_listed, is_filed, HasCome}
use Rattle.blob_model.proofs.disk.Settling.{numbers_list}
use Rattle.blob_model.proofs.disk.Jobs.{not_filed, all_pieces, has_piece, is_reached, is_held}
use Rattle.blob_model.proofs.disk.Segments.{spans_within}
use Rattle.blob_model.proofs.legal.PageNumbers.{same_first}
use Rattle.blob_model.proofs.legal.Causes.{is_idle, OwnCase, idle, breaks, stores, unstores, replies, loses, own_case, IsFurther, by_store, by_unstore, by_drop, by_break, by_done, by_removal, by_grant, by_page_job, by_compaction, IsCaused}
use Rattle.blob_model.proofs.builds.Plans.{FitsParts, IsPlanned, all_planned}
use Rattle.blob_model.proofs.bytes.Sent.{IsKnown, span_between, byte_came, all_bytes}
use Rattle.blob_model.proofs.bytes.Arrivals.{Grown, grown_heard, grown_said, built_grown, came_grown, value_grown, arrivals_fit, done_came}

-- ---- where a piece is cut

-- a piece stands at a span of its blob
pub record IsCut (page : ℕ) (whole : List Build) (piece : Piece) : Type 0 where
  pub build : Build
  pub found : build_in whole piece.blob ≡ Some build
  pub place : ℕ
  pub at : slice_get (spans_of page build) place ≡ Some (piece.from, piece.len)

-- of one blob
abbrev CutAt : ℕ → List (ℕ × ℕ) → Piece → Type 0
CutAt blob list piece = (piece.blob ≡ blob) × ((k : ℕ) × (slice_get list k ≡ Some (piece.from, piece.len)))

numbered_cut : (blob number : ℕ) (list : List (ℕ × ℕ)) → AllByRecursion (CutAt blob list) (numbered blob number list)
numbered_cut blob number [] = tt
numbered_cut blob number (span ∷ list) = (
  (refl, (zero, refl)),
  for_each (CutAt blob list) (CutAt blob (span ∷ list)) (numbered blob (number + 1) list)
      (λ piece one. (one.0, (suc (one.1.0), one.1.1))) (numbered_cut blob (number + 1) list),
)

pieces_cut : (page number : ℕ) (whole rest : List Build) → AllByRecursion (λ (build : Build). build_in whole build.name ≡ Some build) rest
    → AllByRecursion (IsCut page whole) (pieces_from page number rest)
pieces_cut page number whole [] all = tt
pieces_cut page number whole (build ∷ rest) all =
    all_append (IsCut page whole) (numbered build.name number (spans_of page build)) (pieces_from page (number + length (spans_of page build)) rest)
    (for_each (CutAt build.name (spans_of page build)) (IsCut page whole) (numbered build.name number (spans_of page build))
    (λ piece one. record { build = build; found = ap (build_in whole) one.0 ∙ all.0; place = one.1.0; at = one.1.1 })
    (numbered_cut build.name number (spans_of page build)))
    (pieces_cut page (number + length (spans_of page build)) whole rest all.1)

-- the pieces of a blob are cut at its spans, in order
none_of : (page number name : ℕ) (list : List Build) → list_any (λ (build : Build). build.name == name) list ≡ false
    → filter (λ (piece : Piece). piece.blob == name) (pieces_from page number list) ≡ []
none_of page number name [] e = refl
none_of page number name (build ∷ list) e =
    let parts = or_parts (build.name == name) (list_any (λ (each : Build). each.name == name) list) e in
    filter_append (λ (piece : Piece). piece.blob == name) (numbered build.name number (spans_of page build))
    (pieces_from page (number + length (spans_of page build)) list)
    ∙ (λ i. others (spans_of page build) number parts.0 i ++ none_of page (number + length (spans_of page build)) name list parts.1 i)
  where
    others : (spans : List (ℕ × ℕ)) (n : ℕ) → (build.name == name) ≡ false → filter (λ (piece : Piece). piece.blob == name) (numbered build.name n spans) ≡ []
    others [] n f = refl
    others (span ∷ spans) n f =
        ap (λ (b : Bool). cond b (record { number = n; blob = build.name; from = span.0; len = span.1 } ∷ filter (λ (piece : Piece). piece.blob == name)
        (numbered build.name (n + 1) spans)) (filter (λ (piece : Piece). piece.blob == name) (numbered build.name (n + 1) spans))) f
        ∙ others spans (n + 1) f

own_spans : (name number : ℕ) (spans : List (ℕ × ℕ)) (blob : ℕ) → (blob == name) ≡ true → filter (λ (piece : Piece). piece.blob == name)
    (numbered blob number spans) ≡ numbered blob number spans
own_spans name number [] blob e = refl
own_spans name number (span ∷ spans) blob e =
    ap (λ (b : Bool). cond b (record { number = number; blob = blob; from = span.0; len = span.1 } ∷ filter (λ (piece : Piece). piece.blob == name)
    (numbered blob (number + 1) spans)) (filter (λ (piece : Piece). piece.blob == name) (numbered blob (number + 1) spans))) e
    ∙ ap (λ (xs : List Piece). record { number = number; blob = blob; from = span.0; len = span.1 } ∷ xs) (own_spans name (number + 1) spans blob e)

cut_place : (blob number : ℕ) (spans : List (ℕ × ℕ)) (k : ℕ) (piece : Piece) → slice_get (numbered blob number spans) k ≡ Some piece → slice_get spans k
    ≡ Some (piece.from, piece.len)
cut_place blob number [] k piece e = cc
cut_place blob number (span ∷ spans) zero piece e =
    let first : Piece = record { number = number; blob = blob; from = span.0; len = span.1 } in
    let one : Some first ≡ Some piece = e in
    let same : first ≡ piece = cc in
    λ i. Some ((same i).from, (same i).len)
cut_place blob number (span ∷ spans) (suc k) piece e = cut_place blob (number + 1) spans k piece e

pub piece_cut : (page number name : ℕ) (list : List Build) (build : Build) (k : ℕ) (piece : Piece) → Distinct list → build_in list name ≡ Some build
    → slice_get (filter (λ (each : Piece). each.blob == name) (pieces_from page number list)) k ≡ Some piece → slice_get (spans_of page build) k
    ≡ Some (piece.from, piece.len)
piece_cut page number name [] build k piece distinct found at = cc
piece_cut page number name (x ∷ list) build k piece distinct found at =
    go (x.name == name) refl found (λ f g. piece_cut page (number + length (spans_of page x)) name list build k piece distinct.1 f g)
  where
    parts : filter (λ (each : Piece). each.blob == name) (pieces_from page number (x ∷ list))
        ≡ filter (λ (each : Piece). each.blob == name) (numbered x.name number (spans_of page x)) ++ filter (λ (each : Piece). each.blob == name)
        (pieces_from page (number + length (spans_of page x)) list)
    parts = filter_append (λ (each : Piece). each.blob == name) (numbered x.name number (spans_of page x))
        (pieces_from page (number + length (spans_of page x)) list)

    go : (b : Bool) → (x.name == name) ≡ b → cond b (Some x) (build_in list name) ≡ Some build
        → (build_in list name ≡ Some build → slice_get (filter (λ (each : Piece). each.blob == name)
        (pieces_from page (number + length (spans_of page x)) list)) k ≡ Some piece → slice_get (spans_of page build) k ≡ Some (piece.from, piece.len))
        → slice_get (spans_of page build) k ≡ Some (piece.from, piece.len)
    go true here f rest =
        let same : x ≡ build = cc in
        let fresh : list_any (λ (each : Build). each.name == name) list ≡ false = subst (λ (n : ℕ). list_any (λ (each : Build). each.name == n) list ≡ false)
        (eqb-true x.name name here) distinct.0 in
        let whole : filter (λ (each : Piece). each.blob == name) (pieces_from page number (x ∷ list)) ≡ numbered x.name number (spans_of page x) =
        parts ∙ (λ i. own_spans name number (spans_of page x) x.name here i ++ none_of page (number + length (spans_of page x)) name list fresh i) ∙ append-nil
        (numbered x.name number (spans_of page x)) in
        let one = cut_place x.name number (spans_of page x) k piece (subst (λ (xs : List Piece). slice_get xs k ≡ Some piece) whole at) in
        subst (λ (each : Build). slice_get (spans_of page each) k ≡ Some (piece.from, piece.len)) same one
    go false other f rest =
        let skips : filter (λ (each : Piece). each.blob == name) (numbered x.name number (spans_of page x)) ≡ [] = skip (spans_of page x) number other in
        let whole = parts ∙ ap (λ (xs : List Piece). xs ++ filter (λ (each : Piece). each.blob == name)
        (pieces_from page (number + length (spans_of page x)) list)) skips in
        rest f (subst (λ (xs : List Piece). slice_get xs k ≡ Some piece) whole at)
      where
        skip : (spans : List (ℕ × ℕ)) (n : ℕ) → (x.name == name) ≡ false → filter (λ (each : Piece). each.blob == name) (numbered x.name n spans) ≡ []
        skip [] n g = refl
        skip (span ∷ spans) n g =
            ap (λ (b : Bool). cond b (record { number = n; blob = x.name; from = span.0; len = span.1 } ∷ filter (λ (each : Piece). each.blob == name)
            (numbered x.name (n + 1) spans)) (filter (λ (each : Piece). each.blob == name) (numbered x.name (n + 1) spans))) g
            ∙ skip spans (n + 1) g

-- ---- bytes of a piece

-- each byte of the piece has a value
abbrev pub HasBytes : Session → History → Piece → Type 0
HasBytes s h piece = (index : ℕ) → piece.from ≤ index → index < piece.from + piece.len → IsKnown (value s h (sent piece.blob index))

-- a piece of this number is there, its blob was granted, and its bytes have values
pub record HasPiece (s : Session) (h : History) (number : ℕ) : Type 0 where
  pub piece : Piece
  pub found : FoundIn (pieces (page_limit s) h) number piece
  pub granted : is_granted_piece h (builds (page_limit s) h) piece ≡ true
  pub came : is_filed (builds (page_limit s) h) piece.blob ≡ true → HasCome s h piece
  pub bytes : (index : ℕ) → piece.from ≤ index → index < piece.from + piece.len → IsKnown (value s h (sent piece.blob index))

pub pieces_append : (page number : ℕ) (xs ys : List Build) → (more : List Piece) × (pieces_from page number (xs ++ ys) ≡ pieces_from page number xs ++ more)
pieces_append page number [] ys = (pieces_from page number ys, refl)
pieces_append page number (x ∷ xs) ys =
    let rest = pieces_append page (number + length (spans_of page x)) xs ys in (
      rest.0,
      ap (λ (list : List Piece). numbered x.name number (spans_of page x) ++ list) rest.1 ∙ sym
          (append_assoc (numbered x.name number (spans_of page x)) (pieces_from page (number + length (spans_of page x)) xs) (rest.0)),
    )

granted_grown : (s : Session) (h g : History) (piece : Piece) → Grown s h g → is_granted_piece h (builds (page_limit s) h) piece ≡ true
    → is_granted_piece g (builds (page_limit s) g) piece ≡ true
granted_grown s h g piece grown e = go (build_in (builds (page_limit s) h) piece.blob) refl e
  where
    go : (found : Option Build) → build_in (builds (page_limit s) h) piece.blob ≡ found → option_map_or (is_granted h) found false ≡ true
        → is_granted_piece g (builds (page_limit s) g) piece ≡ true
    go None at f = absurd (false_true f)
    go (Some build) at f =
        ap (λ (o : Option Build). option_map_or (is_granted g) o false) (built_grown s h g piece.blob build grown at)
        ∙ ⊎_elim (λ (once : option_map_or grants_at_once build.plan false ≡ true). or_first (option_map_or grants_at_once build.plan false)
        (was_granted g build.name) once)
        (λ (was : was_granted h build.name ≡ true). or_second (option_map_or grants_at_once build.plan false) (was_granted g build.name)
        (grown.grants build.name was))
        (or_cases (option_map_or grants_at_once build.plan false) (was_granted h build.name) f)

-- a granted blob has its plan from the start
filed_before : (s : Session) (h g : History) (piece : Piece) → Grown s h g → is_granted_piece h (builds (page_limit s) h) piece ≡ true
    → is_filed (builds (page_limit s) g) piece.blob ≡ true → is_filed (builds (page_limit s) h) piece.blob ≡ true
filed_before s h g piece grown granted filed = go (build_in (builds (page_limit s) h) piece.blob) refl granted
  where
    go : (found : Option Build) → build_in (builds (page_limit s) h) piece.blob ≡ found → option_map_or (is_granted h) found false ≡ true
        → is_reserved (unlisted_place found) ≡ true
    go None at f = absurd (false_true f)
    go (Some build) at f = sym (ap (λ (o : Option Build). is_reserved (unlisted_place o)) (built_grown s h g piece.blob build grown at)) ∙ filed

-- a segment that came with a piece stays so
pub came_stays : (s : Session) (h g : History) (piece : Piece) → Grown s h g → HasCome s h piece → HasCome s g piece
came_stays s h g piece grown before =
    let more = pieces_append (page_limit s) 0 (builds (page_limit s) h) grown.more in
    let whole : pieces (page_limit s) g ≡ pieces (page_limit s) h ++ more.0 = ap (pieces_from (page_limit s) 0) grown.blobs ∙ more.1 in
    let parts = filter_append (λ (each : Piece). each.blob == piece.blob) (pieces (page_limit s) h) (more.0) in (
      before.0,
      ap (λ (list : List Piece). slice_get list (before.0)) (ap (filter (λ (each : Piece). each.blob == piece.blob)) whole ∙ parts)
          ∙ get_append (pieces_of (page_limit s) h piece.blob) (filter (λ (each : Piece). each.blob == piece.blob) (more.0)) (before.0) piece before.1,
      came_grown s h g piece.blob (before.0) grown before.2,
    )

pub piece_grown : (s : Session) (h g : History) (number : ℕ) → Grown s h g → HasPiece s h number → HasPiece s g number
piece_grown s h g number grown one =
    let more = pieces_append (page_limit s) 0 (builds (page_limit s) h) grown.more in
    let whole : pieces (page_limit s) g ≡ pieces (page_limit s) h ++ more.0 = ap (pieces_from (page_limit s) 0) grown.blobs ∙ more.1 in
    record {
      piece = one.piece;
      found = subst (λ (list : List Piece). FoundIn list number one.piece) (sym whole)
          (found_append (pieces (page_limit s) h) (more.0) number one.piece one.found);
      granted = granted_grown s h g one.piece grown one.granted;
      came = λ filed. came_stays s h g one.piece grown (one.came (filed_before s h g one.piece grown one.granted filed));
      bytes = λ index low high. value_grown s h g one.piece.blob index grown (one.bytes index low high);
    }

-- a piece of a planned blob
cut_planned : (s : Session) (build : Build) (k : ℕ) (span : ℕ × ℕ) → slice_get (spans_of (page_limit s) build) k ≡ Some span → (plan : Plan)
    × (build.plan ≡ Some plan)
cut_planned s build k span at = go build.plan refl at
  where
    go : (plan : Option Plan) → build.plan ≡ plan → slice_get (planned_spans (page_limit s) build plan) k ≡ Some span → (each : Plan) × (build.plan ≡ Some each)
    go None e f = cc
    go (Some plan) e f = (plan, e)

plan_at : (s : Session) (build : Build) (plan : Plan) → IsPlanned s build → build.plan ≡ Some plan → FitsParts s build.parts plan
plan_at s build plan planned e = (subst (λ (o : Option Plan). IfSome o (λ (each : Plan). FitsParts s build.parts each × (parts_length build.parts ≤ 2 ^ 62))) e
    planned).0

-- the pieces of a done blob have their bytes
done_bytes : (s : Session) (h : History) (piece : Piece) → IsCaused s h → IsCut (page_limit s) (builds (page_limit s) h) piece → is_done h piece.blob ≡ true
    → (index : ℕ) → piece.from ≤ index → index < piece.from + piece.len → IsKnown (value s h (sent piece.blob index))
done_bytes s h piece caused cut done index low high =
    let plan = cut_planned s cut.build cut.place (piece.from, piece.len) cut.at in
    let planned = found_all (IsPlanned s) (λ (each : Build). each.name == piece.blob) (builds (page_limit s) h) cut.build (all_planned s h caused) cut.found in
    let fits = plan_at s cut.build (plan.0) planned plan.1 in
    let came = done_came s h caused piece.blob done in
    let same : came.build ≡ cut.build = (let e = came.found in let f = cut.found in cc) in
    let covers = cover_pieces s.limits cut.build (plan.0) plan.1 in
    let within = (span_between 0 (own_bytes cut.build.parts) (spans_of (page_limit s) cut.build) cut.place (piece.from, piece.len) covers cut.at).1 in
    all_bytes s h piece.blob index cut.build (plan.0) (arrivals_fit s h caused piece.blob) cut.found plan.1 fits
    (subst (λ (each : Build). (k : ℕ) → k < length (spans s.limits each) → has_come (arrivals h piece.blob) k ≡ true) same came.came)
    (omega (arith, within, high))

-- ---- what a job starts with

-- a piece of a done blob
abbrev IsThere : Session → History → Piece → Type 0
IsThere s h piece = IsCut (page_limit s) (builds (page_limit s) h) piece × has_piece s h piece

-- with how it stands: reached, in memory and of a done blob
pub record IsOfDone (s : Session) (h : History) (piece : Piece) : Type 0 where
  pub there : IsCut (page_limit s) (builds (page_limit s) h) piece × FoundIn (pieces (page_limit s) h) piece.number piece
  pub reaches : (is_granted_piece h (builds (page_limit s) h) piece && owns_some (live_cells (page_limit s) h) piece) ≡ true
  pub in_mind : is_memory (place_in h (builds (page_limit s) h) piece) ≡ true
  pub done : is_done h piece.blob ≡ true

done_piece : (s : Session) (h : History) (piece : Piece) → IsCaused s h → IsOfDone s h piece → HasPiece s h piece.number
done_piece s h piece caused one = record {
  piece = piece;
  found = one.there.1;
  granted = (and_parts (is_granted_piece h (builds (page_limit s) h) piece) (owns_some (live_cells (page_limit s) h) piece) one.reaches).0;
  came = λ filed. absurd (not_filed (page_with (pages h) piece.number) (build_in (builds (page_limit s) h) piece.blob) one.in_mind filed);
  bytes = done_bytes s h piece caused one.there.0 one.done;
}

cut_pieces : (s : Session) (h : History) → IsCaused s h → AllByRecursion (λ (piece : Piece). IsCut (page_limit s) (builds (page_limit s) h) piece
    × has_piece s h piece) (pieces (page_limit s) h)
cut_pieces s h caused =
    for_both (IsCut (page_limit s) (builds (page_limit s) h)) (has_piece s h) (λ (piece : Piece). IsCut (page_limit s) (builds (page_limit s) h) piece
    × has_piece s h piece) (pieces (page_limit s) h) (λ piece cut there. (cut, there))
    (pieces_cut (page_limit s) 0 (builds (page_limit s) h) (builds (page_limit s) h) (builds_found s h (kept_caused s h caused))) (all_pieces s h)

pub all_of_done : (s : Session) (h : History) → IsCaused s h → AllByRecursion (IsOfDone s h) (pageable (page_limit s) h)
all_of_done s h caused =
    for_each (λ (piece : Piece). ((IsThere s h piece × (is_reached s h piece ≡ true)) × (is_held s h piece ≡ true))
    × ((is_done h piece.blob && not (is_in_job h piece.number)) ≡ true)) (IsOfDone s h) (pageable (page_limit s) h)
    (λ piece e. record {
      there = e.0.0.0;
      reaches = e.0.0.1;
      in_mind = e.0.1;
      done = (and_parts (is_done h piece.blob) (not (is_in_job h piece.number)) e.1).0;
    })
    (filter_has (λ (piece : Piece). (IsThere s h piece × (is_reached s h piece ≡ true)) × (is_held s h piece ≡ true))
    (λ (piece : Piece). is_done h piece.blob && not (is_in_job h piece.number)) (filter (is_held s h) (reached (page_limit s) h))
    (filter_has (λ (piece : Piece). IsThere s h piece × (is_reached s h piece ≡ true)) (is_held s h) (reached (page_limit s) h)
    (filter_has (IsThere s h) (is_reached s h) (pieces (page_limit s) h) (cut_pieces s h caused))))

pub chosen_stand : (s : Session) (h : History) → IsCaused s h → AllByRecursion (StandsFor (IsOfDone s h) (pageable (page_limit s) h)) (chosen s.limits h)
chosen_stand s h caused =
    victims_stand (IsOfDone s h) (memory (page_limit s) h + head_bytes (waits (page_limit s) h) - s.limits.memory)
    (min (page_limit s) (s.limits.disk - disk (page_limit s) h)) (pageable (page_limit s) h) (last_uses s.limits h) (all_of_done s h caused)

pub chosen_there : (s : Session) (h : History) → IsCaused s h → AllByRecursion (HasPiece s h) (chosen s.limits h)
chosen_there s h caused =
    for_each (StandsFor (IsOfDone s h) (pageable (page_limit s) h)) (HasPiece s h) (chosen s.limits h)
    (λ n one. subst (HasPiece s h) one.1 (done_piece s h (one.0) caused one.2)) (chosen_stand s h caused)

-- ---- the piece that a segment stores

-- a blob that gets a segment is granted
segment_granted : (s : Session) (h : History) (renderer : RendererId) (b segment len : ℕ) (build : Build)
    → AllByRecursion (λ (case : Bool × Refusal). case.0 ≡ false) (segment_refusals s h renderer b segment len (Some build))
    → is_granted h build ≡ true
segment_granted s h renderer b segment len build tests =
    let found = segment_found s h renderer b segment len (Some build) tests in
    let same : found.0 ≡ build = (let e = found.1 in cc) in
    subst (λ (each : Build). is_granted h each ≡ true) same found.2

pub stored_there : (s : Session) (g : History) (renderer : RendererId) (b segment : ℕ) (bytes : List ℕ) (n : ℕ)
    → IsCaused s (heard g (events.Segment renderer b segment bytes) (answers.Taken segment))
    → refusal s g (events.Segment renderer b segment bytes) ≡ None → plan_in s g b ≡ Some (plans.File n)
    → HasPiece s (heard g (events.Segment renderer b segment bytes) (answers.Taken segment)) (piece_at s g b segment)
stored_there s g renderer b segment bytes n caused passes plan = go (build_in (builds (page_limit s) g) b) refl
    (tests_fail s g (events.Segment renderer b segment bytes) passes).1
  where
    next : History
    next = heard g (events.Segment renderer b segment bytes) (answers.Taken segment)

    has_now : has_come (arrivals next b) segment ≡ true
    has_now =
        (λ i. has_come (cond (eq-eqb b b refl i) (arrivals g b ++ record { segment = segment; bytes = bytes } ∷ []) (arrivals g b)) segment)
        ∙ any_append_second (λ (arrival : Arrival). arrival.segment == segment) (arrivals g b) (record { segment = segment; bytes = bytes } ∷ [])
        (or_first (segment == segment) false (eq-eqb segment segment refl))

    go : (found : Option Build) → build_in (builds (page_limit s) g) b ≡ found → AllByRecursion (λ (case : Bool × Refusal). case.0 ≡ false)
        (segment_refusals s g renderer b segment (length bytes) found) → HasPiece s next (piece_at s g b segment)
    go None at tests = absurd (false_true (sym tests.0))
    go (Some build) at tests =
        let planned : build.plan ≡ Some (plans.File n) = sym (ap (λ (o : Option Build). option_map_or (λ (each : Build). each.plan) o None) at) ∙ plan in
        let equal : spans s.limits build ≡ spans_of (page_limit s) build =
        (λ i. option_map_or (λ (p : Plan). segment_spans (own_lengths build.parts) p s.limits) (planned i) []) ∙ sym
        (λ i. planned_spans (page_limit s) build (planned i)) in
        let sends = segment_granted s g renderer b segment (length bytes) build tests in
        let low = leb-false (length (spans s.limits build)) segment tests.1.0 in
        let same_length = ap length equal in
        let within = spans_within (page_limit s) 0 b (builds (page_limit s) g) build at in
        let there = get_there (pieces_of (page_limit s) g b) segment (omega (arith, low, same_length, within)) in
        let kept = kept_caused s next caused in
        let cut = piece_cut (page_limit s) 0 b (builds (page_limit s) g) build segment (there.0) (distinct_of s next kept) at there.1 in
        let facts = get_all (λ (each : Piece). has_piece s g each × ((each.blob == b) ≡ true)) (pieces_of (page_limit s) g b) segment (there.0)
        (filter_has (has_piece s g) (λ (each : Piece). each.blob == b) (pieces (page_limit s) g) (all_pieces s g)) there.1 in
        let of_b : there.0.blob ≡ b = eqb-true there.0.blob b facts.1 in
        let fits = plan_at s build (plans.File n) (found_all (IsPlanned s) (λ (each : Build). each.name == b) (builds (page_limit s) g) build
        (all_planned s next caused) at) planned in
        let one : HasPiece s next there.0.number = record {
          piece = there.0;
          found = facts.0;
          granted = ap (λ (name : ℕ). option_map_or (is_granted next) (build_in (builds (page_limit s) g) name) false) of_b ∙ ap
              (λ (o : Option Build). option_map_or (is_granted next) o false) at ∙ sends;
          came =
              λ filed. (
                segment,
                subst (λ (name : ℕ). slice_get (pieces_of (page_limit s) g name) segment ≡ Some (there.0)) (sym of_b) there.1,
                subst
                    (λ (name : ℕ). has_come (arrivals next name) segment ≡ true) (sym of_b) has_now,
              );
          bytes =
              λ index above below.
              subst (λ (name : ℕ). IsKnown (value s next (sent name index))) (sym of_b)
              (byte_came s next b segment index build (plans.File n) (there.0.from, there.0.len) (arrivals_fit s next caused b) at planned fits has_now
              (ap (λ (xs : List (ℕ × ℕ)). slice_get xs segment) equal ∙ cut) above below);
        } in
        subst (HasPiece s next) (sym (ap (λ (o : Option Piece). option_map_or (λ (each : Piece). each.number) o 0) there.1)) one

-- ---- what is listed

-- what a job still has it had
pub left_flying : (page : ℕ) (h : History) (n : ℕ) → list_any (λ (each : ℕ). each == n) (job_left page h) ≡ true → list_any (λ (each : ℕ). each == n) (flying h)
    ≡ true
left_flying page h n e = go (in_flight h) e
  where
    go : (job : Option Job) → list_any (λ (each : ℕ). each == n) (option_map_or (λ (each : Job). job_left_of each (reached page h)) job []) ≡ true
        → list_any (λ (each : ℕ). each == n) (flying_of job) ≡ true
    go None f = f
    go (Some job) f = any_filtered (λ (each : ℕ). each == n) (λ (number : ℕ). list_any (λ (piece : Piece). piece.number == number) (reached page h)) job.pieces
        f

flying_less : (number : ℕ) (job : Option Job) (n : ℕ) → list_any (λ (each : ℕ). each == n) (flying_of (without_job number job)) ≡ true
    → list_any (λ (each : ℕ). each == n) (flying_of job) ≡ true
flying_less number None n e = e
flying_less number (Some job) n e = go (job.number == number) e
  where
    go : (b : Bool) → list_any (λ (each : ℕ). each == n) (flying_of (cond b None (Some job))) ≡ true → list_any (λ (each : ℕ). each == n) job.pieces ≡ true
    go true f = absurd (false_true f)
    go false f = f

-- with fewer in flight
listed_less : (written : List Page) (number : ℕ) (job : Option Job) (n : ℕ) → is_listed written (flying_of (without_job number job)) n ≡ true
    → is_listed written (flying_of job) n ≡ true
listed_less written number job n e =
    ⊎_elim (λ (file : list_any (λ (each : Page). lists each n) written ≡ true). or_first (list_any (λ (each : Page). lists each n) written)
    (list_any (λ (each : ℕ). each == n) (flying_of job)) file)
    (λ (flies : list_any (λ (each : ℕ). each == n) (flying_of (without_job number job)) ≡ true). or_second (list_any (λ (each : Page). lists each n) written)
    (list_any (λ (each : ℕ). each == n) (flying_of job)) (flying_less number job n flies))
    (or_cases (list_any (λ (each : Page). lists each n) written) (list_any (λ (each : ℕ). each == n) (flying_of (without_job number job))) e)

-- with one more page file
listed_more : (written : List Page) (file : Page) (flies : List ℕ) (n : ℕ) → is_listed (written ++ file ∷ []) flies n ≡ true
    → (is_listed written flies n ≡ true) ⊎ (lists file n ≡ true)
listed_more written file flies n e =
    ⊎_elim
    (λ (some : list_any (λ (each : Page). lists each n) (written ++ file ∷ []) ≡ true).
    ⊎_elim (λ (old : list_any (λ (each : Page). lists each n) written ≡ true). inl
    (or_first (list_any (λ (each : Page). lists each n) written) (list_any (λ (each : ℕ). each == n) flies) old))
    (λ (new : (lists file n || false) ≡ true). inr (only (lists file n) new))
    (or_cases (list_any (λ (each : Page). lists each n) written) (lists file n || false)
    (sym (list_any-append (λ (each : Page). lists each n) written (file ∷ [])) ∙ some)))
    (λ (some : list_any (λ (each : ℕ). each == n) flies ≡ true). inl
    (or_second (list_any (λ (each : Page). lists each n) written) (list_any (λ (each : ℕ). each == n) flies) some))
    (or_cases (list_any (λ (each : Page). lists each n) (written ++ file ∷ [])) (list_any (λ (each : ℕ). each == n) flies) e)
  where
    only : (b : Bool) → (b || false) ≡ true → b ≡ true
    only true f = refl
    only false f = f

-- what a job leaves listed was listed
wrote : (h : History) (list : List ℕ) (job : JobNo) (file : Page) (n : ℕ) → file.pieces ≡ list
    → (list_any (λ (each : ℕ). each == n) list ≡ true → list_any (λ (each : ℕ). each == n) (flying h) ≡ true)
    → is_listed (pages h ++ file ∷ []) (flying_of (without_job job.0 (in_flight h))) n ≡ true → is_listed (pages h) (flying h) n ≡ true
wrote h list job file n same left e =
    ⊎_elim (λ (old : is_listed (pages h) (flying_of (without_job job.0 (in_flight h))) n ≡ true). listed_less (pages h) job.0 (in_flight h) n old)
    (λ (new : lists file n ≡ true).
    or_second (list_any (λ (each : Page). lists each n) (pages h)) (list_any (λ (each : ℕ). each == n) (flying h))
    (left (subst (λ (xs : List ℕ). list_any (λ (each : ℕ). each == n) xs ≡ true) same new)))
    (listed_more (pages h) file (flying_of (without_job job.0 (in_flight h))) n e)

-- what is listed after an answer
abbrev ListedAfter : History → Answer → ℕ → Type 0
ListedAfter h answer n = is_listed (pages_after answer (pages h)) (flying_of (in_flight_after answer (in_flight h))) n ≡ true

reply_listed : (h : History) (job : JobNo) (source : Option ℕ) (list : List ℕ) (answer : Answer) (rest : List Answer) (n : ℕ)
    → (list_any (λ (each : ℕ). each == n) list ≡ true → list_any (λ (each : ℕ). each == n) (flying h) ≡ true)
    → IsOneOf (answer ∷ rest) ((job_done h job source list ∷ []) ∷ job_failed h job source list) → ListedAfter h answer n → is_listed (pages h) (flying h) n
    ≡ true
reply_listed h job source [] answer rest n left (inl e) f = listed_less (pages h) job.0 (in_flight h) n
    (subst (λ (a : Answer). ListedAfter h a n) (same_first answer (answers.Empty job) rest [] e) f)
reply_listed h job source [] answer rest n left (inr never) f = absurd never
reply_listed h job None (number ∷ more) answer rest n left (inl e) f =
    wrote h (number ∷ more) job (record { number = next_page h; pieces = numbers (piece_list (number ∷ more)) }) n (numbers_list (number ∷ more)) left
    (subst (λ (a : Answer). ListedAfter h a n) (same_first answer _ rest [] e) f)
reply_listed h job None (number ∷ more) answer rest n left (inr (inl e)) f = listed_less (pages h) job.0 (in_flight h) n
    (subst (λ (a : Answer). ListedAfter h a n) (same_first answer _ rest [] e) f)
reply_listed h job None (number ∷ more) answer rest n left (inr (inr never)) f = absurd never
reply_listed h job (Some file) (number ∷ more) answer rest n left (inl e) f =
    wrote h (number ∷ more) job (record { number = next_page h; pieces = numbers (piece_list (number ∷ more)) }) n (numbers_list (number ∷ more)) left
    (subst (λ (a : Answer). ListedAfter h a n) (same_first answer _ rest [] e) f)
reply_listed h job (Some file) (number ∷ more) answer rest n left (inr (inl e)) f = listed_less (pages h) job.0 (in_flight h) n
    (subst (λ (a : Answer). ListedAfter h a n) (same_first answer _ rest [] e) f)
reply_listed h job (Some file) (number ∷ more) answer rest n left (inr (inr (inl e))) f = listed_less (pages h) job.0 (in_flight h) n
    (subst (λ (a : Answer). ListedAfter h a n) (same_first answer _ rest [] e) f)
reply_listed h job (Some file) (number ∷ more) answer rest n left (inr (inr (inr never))) f = absurd never

idle_lists : (h : History) (answer : Answer) (n : ℕ) → is_idle answer ≡ true → ListedAfter h answer n → is_listed (pages h) (flying h) n ≡ true
idle_lists h (answers.Stored file piece) n e f = absurd (false_true e)
idle_lists h (answers.Paged job file list) n e f = absurd (false_true e)
idle_lists h (answers.Empty job) n e f = absurd (false_true e)
idle_lists h (answers.PageFailed job file) n e f = absurd (false_true e)
idle_lists h (answers.Moved job file list) n e f = absurd (false_true e)
idle_lists h (answers.MoveFailed job file) n e f = absurd (false_true e)
idle_lists h (answers.MoveUnread job file) n e f = absurd (false_true e)
idle_lists h (answers.LostJob job) n e f = absurd (false_true e)
idle_lists h (answers.Job job list) n e f = absurd (false_true e)
idle_lists h (answers.Compacting job file list) n e f = absurd (false_true e)
idle_lists h answer n e f = f

listed_first : (s : Session) (h : History) (event : Event) (answer : Answer) (rest : List Answer) (n : ℕ) → OwnCase s h event (answer ∷ rest)
    → ListedAfter h answer n → is_listed (pages h) (flying h) n ≡ true
listed_first s h event answer rest n (idle one e free) f = idle_lists h one n free
    (subst (λ (a : Answer). ListedAfter h a n) (same_first answer one rest [] e) f)
listed_first s h event answer rest n (breaks b status broken building e) f = subst (λ (a : Answer). ListedAfter h a n) (same_first answer _ rest [] e) f
listed_first s h event answer rest n (stores renderer b segment bytes k same at e) f = subst (λ (a : Answer). ListedAfter h a n) (same_first answer _ rest _ e)
    f
listed_first s h event answer rest n (unstores renderer b segment bytes k same at e) f = subst (λ (a : Answer). ListedAfter h a n)
    (same_first answer _ rest _ e) f
listed_first s h event answer rest n (replies job one same e reply done) f = reply_listed h job (source_of (in_flight h)) (job_left (page_limit s) h) answer
    rest n (left_flying (page_limit s) h n) done f
listed_first s h event answer rest n (loses job same e) f = listed_less (pages h) job.0 (in_flight h) n
    (subst (λ (a : Answer). ListedAfter h a n) (same_first answer _ rest [] e) f)

-- in a list of numbers each of which has its piece
among_there : (s : Session) (h : History) (list : List ℕ) (n : ℕ) → AllByRecursion (HasPiece s h) list → list_any (λ (each : ℕ). each == n) list ≡ true
    → HasPiece s h n
among_there s h list n all e = member_has (HasPiece s h) list n all e

-- what a compaction moves is listed
pub kept_listed : (s : Session) (h : History) (file : Page) (n : ℕ) → movable s h ≡ Some file → list_any (λ (each : ℕ). each == n) (kept s h file) ≡ true
    → is_listed (pages h) (flying h) n ≡ true
kept_listed s h file n found e =
    let listed : lists file n ≡ true =
    any_filtered (λ (each : ℕ). each == n) (λ (number : ℕ). list_any (λ (piece : Piece). piece.number == number)
    (in_page_of h (builds (page_limit s) h) file (reached (page_limit s) h))) file.pieces e in
    let has : lists file n ≡ true → list_any (λ (each : Page). lists each n) (pages h) ≡ true =
    found_all (λ (each : Page). lists each n ≡ true → list_any (λ (other : Page). lists other n) (pages h) ≡ true)
    (can_move s h (builds (page_limit s) h) (pieces (page_limit s) h) (reached (page_limit s) h)) (files (page_limit s) h) file
    (filter_all (λ (each : Page). lists each n ≡ true → list_any (λ (other : Page). lists other n) (pages h) ≡ true)
    (λ (page : Page). nat_lt 0 (length (in_page_of h (builds (page_limit s) h) page (reached (page_limit s) h)))) (pages h)
    (each_any (λ (each : Page). lists each n) (pages h))) found in
    or_first (list_any (λ (each : Page). lists each n) (pages h)) (list_any (λ (each : ℕ). each == n) (flying h)) (has listed)

-- a further answer lists what was listed, or a piece that is there
listed_second : (s : Session) (h : History) (answer : Answer) (n : ℕ) → IsFurther s h answer → IsCaused s h → ListedAfter h answer n
    → (is_listed (pages h) (flying h) n ≡ true) ⊎ HasPiece s h n
listed_second s h answer n (by_store g renderer b segment bytes k same passes at e) caused f =
    ⊎_elim (λ (old : is_listed (pages h) (flying h) n ≡ true). inl old)
    (λ (new : ((piece_at s g b segment == n) || false) ≡ true).
    let number : piece_at s g b segment ≡ n = eqb-true (piece_at s g b segment) n (only (piece_at s g b segment == n) new) in
    let there = stored_there s g renderer b segment bytes k (subst (IsCaused s) same caused) passes at in
    inr (subst (HasPiece s h) number (subst (λ (line : History). HasPiece s line (piece_at s g b segment)) (sym same) there)))
    (listed_more (pages h) (record { number = next_page g; pieces = piece_at s g b segment ∷ [] }) (flying h) n (subst (λ (a : Answer). ListedAfter h a n) e f))
  where
    only : (c : Bool) → (c || false) ≡ true → c ≡ true
    only true d = refl
    only false d = d
listed_second s h answer n (by_unstore g renderer b segment bytes k same passes at e) caused f = inl (subst (λ (a : Answer). ListedAfter h a n) e f)
listed_second s h answer n (by_drop build found begun unrooted e) caused f = inl (subst (λ (a : Answer). ListedAfter h a n) e f)
listed_second s h answer n (by_break build found begun status broken e) caused f = inl (subst (λ (a : Answer). ListedAfter h a n) e f)
listed_second s h answer n (by_done build found begun complete e) caused f = inl (subst (λ (a : Answer). ListedAfter h a n) e f)
listed_second s h answer n (by_removal number written left (inl e)) caused f = inl (subst (λ (a : Answer). ListedAfter h a n) e f)
listed_second s h answer n (by_removal number written left (inr e)) caused f = inl (subst (λ (a : Answer). ListedAfter h a n) e f)
listed_second s h answer n (by_grant build found e) caused f = inl (subst (λ (a : Answer). ListedAfter h a n) e f)
listed_second s h answer n (by_page_job number more may chosen_is e) caused f =
    ⊎_elim (λ (file : list_any (λ (each : Page). lists each n) (pages h) ≡ true). inl
    (or_first (list_any (λ (each : Page). lists each n) (pages h)) (list_any (λ (each : ℕ). each == n) (flying h)) file))
    (λ (flies : list_any (λ (each : ℕ). each == n) (numbers (piece_list (number ∷ more))) ≡ true).
    inr (among_there s h (chosen s.limits h) n (chosen_there s h caused)
    (subst (λ (xs : List ℕ). list_any (λ (each : ℕ). each == n) xs ≡ true) (numbers_list (number ∷ more) ∙ sym chosen_is) flies)))
    (or_cases (list_any (λ (each : Page). lists each n) (pages h)) (list_any (λ (each : ℕ). each == n) (numbers (piece_list (number ∷ more))))
    (subst (λ (a : Answer). ListedAfter h a n) e f))
listed_second s h answer n (by_compaction file may found e) caused f =
    ⊎_elim (λ (old : list_any (λ (each : Page). lists each n) (pages h) ≡ true). inl
    (or_first (list_any (λ (each : Page). lists each n) (pages h)) (list_any (λ (each : ℕ). each == n) (flying h)) old))
    (λ (flies : list_any (λ (each : ℕ). each == n) (numbers (piece_list (kept s h file))) ≡ true).
    inl (kept_listed s h file n found (subst (λ (xs : List ℕ). list_any (λ (each : ℕ). each == n) xs ≡ true) (numbers_list (kept s h file)) flies)))
    (or_cases (list_any (λ (each : Page). lists each n) (pages h)) (list_any (λ (each : ℕ). each == n) (numbers (piece_list (kept s h file))))
    (subst (λ (a : Answer). ListedAfter h a n) e f))

pub listed_there : (s : Session) (h : History) → IsCaused s h → (n : ℕ) → is_listed (pages h) (flying h) n ≡ true → HasPiece s h n
listed_there s start caused n e = absurd (false_true e)
listed_there s (heard h event answer) caused n e =
    piece_grown s h (heard h event answer) n (grown_heard s h event answer)
    (listed_there s h caused.1 n (listed_first s h event answer caused.0.rest n (own_case s h event (answer ∷ caused.0.rest) caused.0.own) e))
listed_there s (refused h event why) caused n e = let one = listed_there s h caused.2 n e in
    record { piece = one.piece; found = one.found; granted = one.granted; came = one.came; bytes = one.bytes }
listed_there s (said h answer) caused n e = piece_grown s h (said h answer) n (grown_said s h answer)
    (go (listed_second s h answer n caused.0 caused.1 e) (listed_there s h caused.1 n))
  where
    go : (is_listed (pages h) (flying h) n ≡ true) ⊎ HasPiece s h n → (is_listed (pages h) (flying h) n ≡ true → HasPiece s h n) → HasPiece s h n
    go (inl old) rest = rest old
    go (inr new) rest = new

-- ---- the law

known_length : (f : ℕ → Option ℕ) (from len : ℕ) → ((index : ℕ) → from ≤ index → index < from + len → IsKnown (f index))
    → length (filter_map f (range_with_len from len)) ≡ len
known_length f from zero known = refl
known_length f from (suc len) known = go (f from) (known from (omega arith) (omega arith))
    (known_length f (from + 1) len (λ index low high. known index (omega (arith, low)) (omega (arith, high))))
  where
    go : (found : Option ℕ) → IsKnown found → length (filter_map f (range_with_len (from + 1) len)) ≡ len
        → length (cons_option found (filter_map f (range_with_len (from + 1) len))) ≡ suc len
    go None one rest = let e = one.1 in cc
    go (Some x) one rest = ap suc rest

there_whole : (s : Session) (h : History) (n : ℕ) → HasPiece s h n → length (numbered_bytes s h n) ≡ length_in (pieces (page_limit s) h) n
there_whole s h n one =
    ap (λ (o : Option Piece). length (option_map_or (piece_bytes s h) o [])) one.found
    ∙ known_length (λ (index : ℕ). value s h (sent one.piece.blob index)) one.piece.from one.piece.len one.bytes
    ∙ sym (length_found (pieces (page_limit s) h) n one.piece one.found)

all_listing : (list : List Page) → AllByRecursion (λ (file : Page). (n : ℕ) → lists file n ≡ true → list_any (λ (each : Page). lists each n) list ≡ true) list
all_listing [] = tt
all_listing (file ∷ list) = (
  (λ n e. or_first (lists file n) (list_any (λ (each : Page). lists each n) list) e),
  for_each (λ (each : Page). (n : ℕ) → lists each n ≡ true → list_any (λ (other : Page). lists other n) list ≡ true)
      (λ (each : Page). (n : ℕ) → lists each n ≡ true → list_any (λ (other : Page). lists other n) (file ∷ list) ≡ true) list
      (λ each f n e. or_second (lists file n) (list_any (λ (other : Page). lists other n) list) (f n e))
      (all_listing list),
)

pub written_whole : (s : Session) (h : History) → IsCaused s h
    → AllByRecursion (λ (file : Page). AllByRecursion (λ (number : ℕ). length (numbered_bytes s h number) ≡ length_in (pieces (page_limit s) h) number)
    file.pieces) (pages h)
written_whole s h caused =
    for_each (λ (file : Page). (n : ℕ) → lists file n ≡ true → list_any (λ (each : Page). lists each n) (pages h) ≡ true)
    (λ (file : Page). AllByRecursion (λ (number : ℕ). length (numbered_bytes s h number) ≡ length_in (pieces (page_limit s) h) number) file.pieces) (pages h)
    (λ file listing.
    for_each (λ (n : ℕ). list_any (λ (each : ℕ). each == n) file.pieces ≡ true)
    (λ (number : ℕ). length (numbered_bytes s h number) ≡ length_in (pieces (page_limit s) h) number) file.pieces
    (λ n member. there_whole s h n
    (listed_there s h caused n (or_first (list_any (λ (each : Page). lists each n) (pages h)) (list_any (λ (each : ℕ). each == n) (flying h))
    (listing n member)))) (all_members file.pieces))
    (all_listing (pages h))
