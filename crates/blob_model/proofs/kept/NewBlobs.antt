-- An accepted line of a legal transcript keeps order, handles and the segments that waiting blobs miss.
use Rattle.std.proofs.Common.{◌≡◌, ℕ, ◌+◌, ◌≤◌, ◌<◌, ◌==◌, Bool, true, false, ◌&&◌, ◌||◌, not, List, [], ◌∷◌, ◌++◌, length, refl, ap, subst, sym, ◌∙◌, ⊎_elim, arith, Option, Some, None, length-append}
use Rattle.std.specs.Prelude.{cond, filter, is_some, sum, nat_lt, if◌then◌else◌}
use Rattle.std.specs.Int.{div_ceil}
use Rattle.std.specs.List.{AllByRecursion, list_any, range_with_len}
use Rattle.std.proofs.lemmas.Bool.{or_parts, eqb-true, eq-eqb}
use Rattle.std.proofs.lemmas.List.FromFn.{length-map-range_with_len, length-range_with_len}
use Rattle.std.proofs.lemmas.List.Sums.{sum_by-append, sum_by-cons}
use Rattle.blob_words.specs.declared.plan.Plan.{Plan}
use Rattle.blob_words.specs.declared.plan.Plan.TheVariants as plans
use Rattle.blob_words.specs.declared.status.Status.{Status}
use Rattle.session_script.specs.declared.event.Event.{Event}
use Rattle.session_script.specs.declared.event.Part.{Part}
use Rattle.session_script.specs.declared.event.Part.TheVariants.{Embedded, Asked, FileRange, BlobRange, HandleRange}
use Rattle.answer_text.specs.declared.answer.Answer.{Answer}
use Rattle.answer_text.specs.declared.refusal.Refusal.{Refusal}
use Rattle.transport_plan.specs.declared.input.PlanInput.{PlanInput}
use Rattle.transport_plan.specs.Plan.{plan_of, file_plan, shared_plan, has_file_room, fits_inline}
use Rattle.transport_plan.specs.Plan.{own_bytes as input_bytes}
use Rattle.blob_model.specs.Session.{Session, page_limit}
use Rattle.blob_model.specs.History.{History, heard}
use Rattle.blob_model.specs.Parts.{sources, own_lengths, own_bytes, embedded}
use Rattle.blob_model.specs.Builds.{Build, builds, built, build_in, plan_told}
use Rattle.blob_model.specs.Standing.{is_unfinished}
use Rattle.blob_model.specs.Transport.{Arrival, arrivals, has_come, missing, has_all, spans}
use Rattle.blob_model.specs.Handles.{has_handle}
use Rattle.blob_model.specs.Live.{has_source}
use Rattle.blob_model.specs.Waits.{is_shared}
use Rattle.blob_model.specs.Construct.{is_lost_source, line_tests, line_status, build_answer, build_answer_by, plan_for, plan_input}
use Rattle.blob_model.specs.Refusals.{refusal, refusals_of}
use Rattle.blob_model.proofs.Lists.{false_true, not_false, or_cases}
use Rattle.blob_model.proofs.builds.Cells.{none_applies}
use Rattle.blob_model.proofs.live.Least.{named}
use Rattle.blob_model.proofs.builds.Order.{AreOrdered, ordered_more}
use Rattle.blob_model.proofs.kept.Kept.{Kept}

-- ---- a shared plan has a segment

sum_append : (xs ys : List ℕ) → sum (xs ++ ys) ≡ sum xs + sum ys
sum_append xs ys = sum_by-append (λ (x : ℕ). x) xs ys

pub embedded_within : (parts : List Part) → length (embedded parts) ≤ own_bytes parts
embedded_within [] = omega arith
embedded_within (Embedded bytes ∷ parts) =
    let rest : length (embedded parts) ≤ own_bytes parts = embedded_within parts in
    let front : length (bytes ++ embedded parts) ≡ length bytes + length (embedded parts) = length-append bytes (embedded parts) in
    let whole : sum (length bytes ∷ own_lengths parts) ≡ length bytes + own_bytes parts = sum_by-cons (λ (x : ℕ). x) (length bytes) (own_lengths parts) in
    omega (arith, rest, front, whole)
embedded_within (Asked len ∷ parts) =
    let rest : length (embedded parts) ≤ own_bytes parts = embedded_within parts in
    let whole : sum (len ∷ own_lengths parts) ≡ len + own_bytes parts = sum_by-cons (λ (x : ℕ). x) len (own_lengths parts) in
    omega (arith, rest, whole)
embedded_within (FileRange name off len stamp ∷ parts) = embedded_within parts
embedded_within (BlobRange b off len ∷ parts) = embedded_within parts
embedded_within (HandleRange k off len ∷ parts) = embedded_within parts

-- a plan that is shared has own bytes
shared_has_bytes : (input : PlanInput) → is_shared (Some (plan_of input)) ≡ true → 0 < input_bytes input
shared_has_bytes input e = go (input_bytes input == 0) refl e
  where
    go : (b : Bool) → (input_bytes input == 0) ≡ b
        → is_shared (Some (cond b plans.None
        (if nat_lt input.limits.memory (input_bytes input) && not (has_file_room input) then plans.OutOfMemory
        else (if nat_lt input.limits.big (input_bytes input) && has_file_room input then file_plan input.pieces
        else (if fits_inline input then plans.Inline
        else shared_plan (div_ceil (input_bytes input) input.limits.segment)))))) ≡ true → 0 < input_bytes input
    go true at f = absurd (false_true f)
    go false at f =
        let not_zero : input_bytes input ≡ 0 → ⊥ = λ z. false_true (sym at ∙ eq-eqb (input_bytes input) 0 z) in
        omega arith

ceil_positive : (n size : ℕ) → 0 < n → 0 < size → 0 < div_ceil n size
ceil_positive n size some sized = grind arith

shared_spans : (s : Session) (h : History) (parts : List Part) (plan : Plan) → plan ≡ plan_for s h parts → is_shared (Some plan) ≡ true
    → (build : Build) → build.parts ≡ parts → build.plan ≡ Some plan → 0 < length (spans s.limits build)
shared_spans s h parts (plans.Shared n) at e build same planned =
    let bytes : 0 < input_bytes (plan_input s h parts) = shared_has_bytes (plan_input s h parts) (subst (λ (p : Plan). is_shared (Some p) ≡ true) at e) in
    let within : length (embedded parts) ≤ own_bytes parts = embedded_within parts in
    let own : 0 < own_bytes parts = omega (arith, bytes, within) in
    let some : 0 < div_ceil (own_bytes parts) s.limits.segment = ceil_positive (own_bytes parts) s.limits.segment own s.limits.some_segment in
    rw (planned, same, length-map-range_with_len) some
shared_spans s h parts plan at e build same planned = absurd (false_true e)

-- ---- what the tests of an accepted line say

pub tests_fail : (s : Session) (h : History) (event : Event) → refusal s h event ≡ None → AllByRecursion (λ (case : Bool × Refusal). case.0 ≡ false)
    (refusals_of s h event)
tests_fail s h event e = none_applies (refusals_of s h event) e

pub found_named : (list : List Build) (name : ℕ) → is_some (build_in list name) ≡ named name list
found_named [] name = refl
found_named (build ∷ list) name = go (build.name == name) (found_named list name)
  where
    go : (b : Bool) → is_some (build_in list name) ≡ named name list → is_some (cond b (Some build) (build_in list name)) ≡ (b || named name list)
    go true rest = refl
    go false rest = rest

-- a test that fails everywhere fails at a name in the list
pub fails_at : (test : ℕ → Bool) (list : List ℕ) (name : ℕ) → list_any test list ≡ false → list_any (λ (each : ℕ). each == name) list ≡ true → test name ≡ false
fails_at test [] name none has = absurd (false_true has)
fails_at test (x ∷ list) name none has =
    let parts = or_parts (test x) (list_any test list) none in
    ⊎_elim
    (λ (here : (x == name) ≡ true). subst (λ (n : ℕ). test n ≡ false) (eqb-true x name here) parts.0)
    (λ (more : list_any (λ (each : ℕ). each == name) list ≡ true). fails_at test list name parts.1 more)
    (or_cases (x == name) (list_any (λ (each : ℕ). each == name) list) has)

-- ---- the new blob

abbrev pub new_build : Session → History → ℕ → ℕ → List ℕ → List Part → Build
new_build s h renderer name kind parts = built (page_limit s) (builds (page_limit s) h) renderer name kind parts
    (plan_told (build_answer s h renderer name parts))

new_older : (s : Session) (h : History) (renderer name : ℕ) (kind : List ℕ) (parts : List Part) → Kept s h → (source : ℕ)
    → is_some (new_build s h renderer name kind parts).plan ≡ true → has_source (new_build s h renderer name kind parts) source ≡ true
    → named source (builds (page_limit s) h) ≡ true
new_older s h renderer name kind parts kept source planned has = go (line_status s h renderer name parts) refl planned
  where
    go : (status : Option Status) → line_status s h renderer name parts ≡ status → is_some (plan_told (build_answer_by s h name parts status)) ≡ true
        → named source (builds (page_limit s) h) ≡ true
    go (Some status) e f = absurd (false_true f)
    go None e f =
        let tests = none_applies (line_tests s h renderer name parts) e in
        let lost : is_lost_source h renderer source ≡ false = fails_at (is_lost_source h renderer) (sources parts) source tests.1.0 has in
        let holds : has_handle h renderer source ≡ true = not_false (has_handle h renderer source) (or_parts (not (has_handle h renderer source)) _ lost).0 in
        kept.held renderer source holds

pub ordered_grows : (s : Session) (h : History) (renderer name : ℕ) (kind : List ℕ) (parts : List Part) → Kept s h → named name (builds (page_limit s) h)
    ≡ false
    → AreOrdered [] (builds (page_limit s) h ++ new_build s h renderer name kind parts ∷ [])
ordered_grows s h renderer name kind parts kept fresh =
    ordered_more [] (builds (page_limit s) h) (new_build s h renderer name kind parts) kept.ordered fresh (new_older s h renderer name kind parts kept)

-- a blob that breaks at its own line has ended
pub new_broke : (s : Session) (h : History) (event : Event) (renderer name : ℕ) (kind : List ℕ) (parts : List Part)
    → is_some (new_build s h renderer name kind parts).plan ≡ false → is_unfinished (heard h event (build_answer s h renderer name parts)) name ≡ false
new_broke s h event renderer name kind parts none = go (line_status s h renderer name parts) none
  where
    go : (status : Option Status) → is_some (plan_told (build_answer_by s h name parts status)) ≡ false
        → is_unfinished (heard h event (build_answer_by s h name parts status)) name ≡ false
    go (Some status) e = rw (eq-eqb name name refl) refl
    go None e = absurd (false_true (sym e))

none_came : (list : List ℕ) → filter (λ (segment : ℕ). not (has_come [] segment)) list ≡ list
none_came [] = refl
none_came (x ∷ list) = ap (λ more. x ∷ more) (none_came list)

positive_not_zero : (n : ℕ) → 0 < n → (n == 0) ≡ false
positive_not_zero n some = go (n == 0) refl
  where
    go : (b : Bool) → (n == 0) ≡ b → b ≡ false
    go false e = refl
    go true e = let zeroed : n ≡ 0 = eqb-true n 0 e in absurd (omega (arith, zeroed))

-- a new blob that waits misses all its segments
pub new_lacking : (s : Session) (h : History) (event : Event) (answer : Answer) (renderer name : ℕ) (kind : List ℕ) (parts : List Part)
    → arrivals (heard h event answer) name ≡ []
    → is_shared (new_build s h renderer name kind parts).plan ≡ true → has_all s.limits (heard h event answer) (new_build s h renderer name kind parts) ≡ false
new_lacking s h event answer renderer name kind parts quiet shared =
    let some : 0 < length (spans s.limits (new_build s h renderer name kind parts)) = go (line_status s h renderer name parts) refl shared in
    let list : missing s.limits (heard h event answer) (new_build s h renderer name kind parts)
    ≡ range_with_len 0 (length (spans s.limits (new_build s h renderer name kind parts))) =
    ap (λ (came : List Arrival). filter (λ (segment : ℕ). not (has_come came segment))
    (range_with_len 0 (length (spans s.limits (new_build s h renderer name kind parts))))) quiet
    ∙ none_came (range_with_len 0 (length (spans s.limits (new_build s h renderer name kind parts)))) in
    let count : length (missing s.limits (heard h event answer) (new_build s h renderer name kind parts))
    ≡ length (spans s.limits (new_build s h renderer name kind parts)) =
    ap (λ (xs : List ℕ). length xs) list ∙ length-range_with_len 0 (length (spans s.limits (new_build s h renderer name kind parts))) in
    positive_not_zero (length (missing s.limits (heard h event answer) (new_build s h renderer name kind parts))) (omega (arith, some, count))
  where
    go : (status : Option Status) → line_status s h renderer name parts ≡ status → is_shared (plan_told (build_answer_by s h name parts status)) ≡ true
        → 0 < length (spans s.limits (new_build s h renderer name kind parts))
    go (Some status) e f = absurd (false_true f)
    go None e f =
        shared_spans s h parts (plan_for s h parts) refl f (new_build s h renderer name kind parts) refl
        (ap (λ (status : Option Status). plan_told (build_answer_by s h name parts status)) e)
