-- An unfinished entry has its own bytes exactly where its blob was granted and misses no segment.
use Rattle.std.proofs.Common.{◌≡◌, ℕ, zero, suc, ◌+◌, ◌<◌, ◌≤◌, ◌&&◌, not, Bool, true, false, cond, List, [], ◌∷◌, map, length, refl, ap, subst, sym, ◌∙◌, Option, Some, None, arith}
use Rattle.std.specs.Prelude.{filter, flat_map, is_none, is_some, sum, unwrap_or}
use Rattle.std.specs.Int.{div_ceil}
use Rattle.std.specs.Option.{option_map_or}
use Rattle.std.specs.List.{AllByRecursion, list_any, range_with_len}
use Rattle.std.proofs.lemmas.Bool.{eqb-false}
use Rattle.std.proofs.lemmas.List.{length-append}
use Rattle.std.proofs.lemmas.List.FromFn.{length-map-range_with_len, length-range_with_len}
use Rattle.std.proofs.lemmas.List.Sums.{sum_by-cons}
use Rattle.blob_words.specs.declared.plan.Plan.{Plan}
use Rattle.blob_words.specs.declared.plan.Plan.TheVariants as plans
use Rattle.blob_words.specs.declared.status.Status.{Status}
use Rattle.blob_words.specs.declared.status.Status.TheVariants as statuses
use Rattle.item_shares.specs.declared.shares.Share.{Share}
use Rattle.blob_items.specs.declared.view.View.{View}
use Rattle.blob_entries.specs.Contents.{is_own}
use Rattle.blob_entries.specs.Endings.{is_granted_status, misses}
use Rattle.blob_entries.specs.Holdings.{own_views}
use Rattle.blob_entries.specs.Statuses.{is_pending}
use Rattle.blob_entries.specs.declared.entry.Entry.{Entry}
use Rattle.blob_entries.specs.declared.step.Step.{Step}
use Rattle.blob_entries.specs.declared.step.Step.TheVariants.{Own, Fixed, Source}
use Rattle.transport_plan.specs.Spans.{cut_spans, piece_spans, segment_spans}
use Rattle.transport_plan.proofs.SpanLemmas.{cut_length}
use Rattle.blob_model.specs.Builds.{Build, Cell}
use Rattle.blob_model.specs.History.{History}
use Rattle.blob_model.specs.Own.{pending_status}
use Rattle.blob_model.specs.Parts.{own_lengths}
use Rattle.blob_model.specs.Pieces.{Piece, spans_of}
use Rattle.blob_model.specs.Session.{Session, page_limit}
use Rattle.blob_model.specs.Standing.{ended, is_granted, is_unfinished, was_granted}
use Rattle.blob_model.specs.Transport.{arrivals, has_all, has_come, spans}
use Rattle.blob_model.specs.Waits.{is_waiting}
use Rattle.blob_model.proofs.Lists.{false_true, filter_short}
use Rattle.blob_model.proofs.builds.Plans.{IsPlanned}
use Rattle.store_laws.specs.Cells.{denoted, piece_cell, piece_in}
use Rattle.store_laws.specs.Marking.{lacks}
use Rattle.store_laws.specs.Outlines.{status_now}
use Rattle.store_laws.specs.Recipes.{IsEntryFor, IsStep, StandsFor, own_numbers, own_step_cells}
use Rattle.store_laws.proofs.ComingNow.{granted_shared, waits_shared, waits_ungranted}

-- ---- a blob that misses a segment has a piece

ceil_positive : (n size : ℕ) → 0 < n → 0 < size → 0 < div_ceil n size
ceil_positive n size some sized = grind arith

ceil_none : (size : ℕ) → 0 < size → div_ceil 0 size ≡ 0
ceil_none size sized = grind arith

some_piece : (page from : ℕ) (lens : List ℕ) → 0 < page → 0 < sum lens → 0 < length (piece_spans page from lens)
some_piece page from [] sized some = absurd (omega (arith, some))
some_piece page from (zero ∷ lens) sized some =
    let all = sum_by-cons (λ (n : ℕ). n) zero lens in
    let rest = some_piece page (from + zero) lens sized (omega (arith, some, all)) in
    let long = length-append (cut_spans page from zero) (piece_spans page (from + zero) lens) in
    omega (arith, rest, long)
some_piece page from (suc n ∷ lens) sized some =
    let long = length-append (cut_spans page from (suc n)) (piece_spans page (from + suc n) lens) in
    let many = cut_length page from (suc n) in
    let first = ceil_positive (suc n) page (omega arith) sized in
    omega (arith, long, many, first)

module _ (s : Session) (h : History) (build : Build) where
  some_span : has_all s.limits h build ≡ false → 0 < length (spans s.limits build)
  some_span missing_some =
      let few = filter_short (λ (segment : ℕ). not (has_come (arrivals h build.name) segment)) (range_with_len 0 (length (spans s.limits build))) in
      let long = length-range_with_len 0 (length (spans s.limits build)) in
      let some = eqb-false (length (filter (λ (segment : ℕ). not (has_come (arrivals h build.name) segment)) (range_with_len 0
      (length (spans s.limits build))))) 0 missing_some in
      go (length (spans s.limits build)) (length (filter (λ (segment : ℕ). not (has_come (arrivals h build.name) segment)) (range_with_len 0
      (length (spans s.limits build))))) (omega (arith, few, long)) some
    where
      go : (n m : ℕ) → m ≤ n → (m ≡ 0 → ⊥) → 0 < n
      go (suc n) m few some = omega arith
      go zero m few some = absurd (some (omega (arith, few)))

  some_of_plan : (plan : Option Plan) → build.plan ≡ plan
      → 0 < length (option_map_or (λ (one : Plan). segment_spans (own_lengths build.parts) one s.limits) plan [])
      → 0 < length (spans_of (page_limit s) build)
  some_of_plan None at some = absurd (omega (arith, some))
  some_of_plan (Some plans.None) at some = absurd (omega (arith, some))
  some_of_plan (Some plans.Inline) at some = absurd (omega (arith, some))
  some_of_plan (Some plans.OutOfMemory) at some = absurd (omega (arith, some))
  some_of_plan (Some (plans.TooMany what)) at some = absurd (omega (arith, some))
  some_of_plan (Some (plans.File n)) at some =
      subst (λ (list : List (ℕ × ℕ)). 0 < length list)
      (sym (ap (λ (p : Option Plan). spans_of (page_limit s) (record build { plan = p })) at)) some
  some_of_plan (Some (plans.Shared n)) at some =
      subst (λ (list : List (ℕ × ℕ)). 0 < length list)
      (sym (ap (λ (p : Option Plan). spans_of (page_limit s) (record build { plan = p })) at))
      (some_piece s.limits.page 0 (own_lengths build.parts) s.limits.some_page (by (sum (own_lengths build.parts)) refl))
    where
      by : (n : ℕ) → sum (own_lengths build.parts) ≡ n → 0 < sum (own_lengths build.parts)
      by (suc n) at = omega (arith, at)
      by zero at =
          let many = cut_length s.limits.segment 0 (sum (own_lengths build.parts)) in
          let none = ap (λ (n : ℕ). div_ceil n s.limits.segment) at in
          let zero_so = ceil_none s.limits.segment s.limits.some_segment in
          absurd (omega (arith, some, many, none, zero_so))

  pub has_pieces : has_all s.limits h build ≡ false → 0 < length (spans_of (page_limit s) build)
  has_pieces missing_some = some_of_plan build.plan refl (some_span missing_some)

  -- ---- a blob that doesn't wait has its room

  roomy : (plan : Option Plan) → build.plan ≡ plan → (is_some build.plan ≡ false → is_unfinished h build.name ≡ false) → IsPlanned s build
      → is_unfinished h build.name ≡ true → is_waiting h build ≡ false → is_granted h build ≡ true
  roomy None at broke planned begun free = absurd (false_true (sym (broke (ap is_some at)) ∙ begun))
  roomy (Some plans.None) at broke planned begun free = ap (λ (p : Option Plan). is_granted h (record build { plan = p })) at
  roomy (Some plans.Inline) at broke planned begun free = ap (λ (p : Option Plan). is_granted h (record build { plan = p })) at
  roomy (Some (plans.File n)) at broke planned begun free = ap (λ (p : Option Plan). is_granted h (record build { plan = p })) at
  roomy (Some (plans.Shared n)) at broke planned begun free =
      granted_shared s h build n at ∙ by (is_unfinished h build.name) (was_granted h build.name) begun (sym (waits_shared s h build n at) ∙ free)
    where
      by : (b c : Bool) → b ≡ true → (b && not c) ≡ false → c ≡ true
      by b true e f = refl
      by true false e f = absurd (false_true (sym f))
      by false false e f = absurd (false_true e)
  roomy (Some plans.OutOfMemory) at broke planned begun free = absurd (subst (λ (p : Option Plan). IsPlanned s (record build { plan = p })) at planned).0
  roomy (Some (plans.TooMany what)) at broke planned begun free =
      absurd (subst (λ (p : Option Plan). IsPlanned s (record build { plan = p })) at planned).0

-- ---- own steps

has_own : (recipe : List Step) → 0 < length (own_numbers recipe) → list_any is_own recipe ≡ true
has_own [] some = absurd (omega (arith, some))
has_own (Own piece len ∷ recipe) some = refl
has_own (Fixed view ∷ recipe) some = has_own recipe some
has_own (Source name off len ∷ recipe) some = has_own recipe some

no_own : (all : List Piece) (shares : List (Option Share)) (recipe : List Step) → AllByRecursion (IsStep all shares) recipe
    → flat_map (own_step_cells all) recipe ≡ [] → list_any is_own recipe ≡ false
no_own all shares [] steps none = refl
no_own all shares (Own piece len ∷ recipe) steps none =
    let long = length-append (map (piece_cell (piece_in all piece.0)) (range_with_len 0 len)) (flat_map (own_step_cells all) recipe) in
    let many = length-map-range_with_len (piece_cell (piece_in all piece.0)) 0 len in
    let empty = ap (λ (list : List Cell). length list) none in
    let some = steps.0.0 in
    absurd (omega (arith, long, many, empty, some))
no_own all shares (Fixed view ∷ recipe) steps none = no_own all shares recipe steps.1 none
no_own all shares (Source name off len ∷ recipe) steps none = no_own all shares recipe steps.1 none

-- ---- one entry

-- what a history says of a blob, whose own pieces have these numbers
pub record IsCut (s : Session) (h : History) (own : ℕ → List ℕ) (build : Build) : Type 0 where
  pub broke : is_some build.plan ≡ false → is_unfinished h build.name ≡ false
  pub planned : IsPlanned s build
  pub many : length (own build.name) ≡ length (spans_of (page_limit s) build)

module _ (s : Session) (h : History) (whole : List Build) (all : List Piece) (shares : List (Option Share)) (own : ℕ → List ℕ) (build : Build)
    (cut : IsCut s h own build) (entry : Entry) (fine : IsEntryFor whole all shares own build entry) (tells : entry.status ≡ status_now s h build)
    (pending : is_pending entry.status ≡ true) (begun : is_unfinished h build.name ≡ true) where
  waits_for : entry.status ≡ pending_status s h build
  waits_for = tells ∙ go (ended h build.name) begun
    where
      go : (o : Option Status) → is_none o ≡ true → unwrap_or o (pending_status s h build) ≡ pending_status s h build
      go None e = refl
      go (Some status) e = absurd (false_true e)

  brought : (own_now : Option (List View)) → entry.own ≡ own_now → denoted all shares (own_views entry.own) ≡ flat_map (own_step_cells all) entry.recipe
      → misses entry ≡ false
  brought None at is =
      let none : flat_map (own_step_cells all) entry.recipe ≡ [] = sym is ∙ ap (λ (o : Option (List View)). denoted all shares (own_views o)) at in
      ap (λ (o : Option (List View)). is_none o && list_any is_own entry.recipe) at ∙ no_own all shares entry.recipe fine.steps none
  brought (Some views) at is = ap (λ (o : Option (List View)). is_none o && list_any is_own entry.recipe) at

  has_bytes : entry.status ≡ statuses.PendingReferencedBlobs → misses entry ≡ false
  has_bytes is =
      brought entry.own refl (subst (λ (status : Status). StandsFor whole all shares build.cells status entry) is fine.stands).2

  lacks_bytes : entry.status ≡ statuses.PendingTransport → has_all s.limits h build ≡ false → misses entry ≡ true
  lacks_bytes is missing_some =
      let none : entry.own ≡ None = (subst (λ (status : Status). StandsFor whole all shares build.cells status entry) is fine.stands).2 in
      let some = has_pieces s h build missing_some in
      let many = cut.many in
      let same = ap (λ (list : List ℕ). length list) (fine.owned pending) in
      ap (λ (o : Option (List View)). is_none o && list_any is_own entry.recipe) none ∙ has_own entry.recipe (omega (arith, some, many, same))

  room : is_waiting h build ≡ false → is_granted h build ≡ true
  room free = roomy s h build build.plan refl cut.broke cut.planned begun free

  pub bytes_agree : (is_granted_status entry.status && not (misses entry)) ≡ (is_granted h build && has_all s.limits h build)
  bytes_agree = by (is_waiting h build) (has_all s.limits h build) refl refl waits_for
    where
      by : (a b : Bool) → is_waiting h build ≡ a → has_all s.limits h build ≡ b
          → entry.status ≡ cond a statuses.PendingQuota (cond b statuses.PendingReferencedBlobs statuses.PendingTransport)
          → (is_granted_status entry.status && not (misses entry)) ≡ (is_granted h build && has_all s.limits h build)
      by true b waits segments is =
          ap (λ (status : Status). is_granted_status status && not (misses entry)) is
          ∙ sym (ap (λ (c : Bool). c && has_all s.limits h build) (waits_ungranted s h build build.plan refl waits))
      by false true free segments is =
          (λ i. is_granted_status (is i) && not (has_bytes is i)) ∙ sym (λ i. room free i && segments i)
      by false false free none is =
          (λ i. is_granted_status (is i) && not (lacks_bytes is none i)) ∙ sym (λ i. room free i && none i)

  -- whether they are still to come is what the status says
  pub lacks_agree : lacks entry.status ≡ not (is_granted h build && has_all s.limits h build)
  lacks_agree = by (is_waiting h build) (has_all s.limits h build) refl refl waits_for
    where
      by : (a b : Bool) → is_waiting h build ≡ a → has_all s.limits h build ≡ b
          → entry.status ≡ cond a statuses.PendingQuota (cond b statuses.PendingReferencedBlobs statuses.PendingTransport)
          → lacks entry.status ≡ not (is_granted h build && has_all s.limits h build)
      by true b waits segments is =
          ap lacks is ∙ sym (ap (λ (c : Bool). not (c && has_all s.limits h build)) (waits_ungranted s h build build.plan refl waits))
      by false true free segments is = ap lacks is ∙ sym (λ i. not (room free i && segments i))
      by false false free none is = ap lacks is ∙ sym (λ i. not (room free i && none i))
