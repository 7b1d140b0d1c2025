-- Each accepted line of a legal transcript keeps order, handles and missing segments.
use Rattle.std.proofs.Common.{◌≡◌, ◌⊎◌, ℕ, ◌+◌, ◌-◌, ◌<◌, ◌==◌, Bool, true, false, ◌&&◌, ◌||◌, not, List, [], ◌∷◌, ◌++◌, length, refl, ap, subst, sym, ◌∙◌, inl, inr, ⊎_elim, arith, Option, Some, None}
use Rattle.std.specs.Prelude.{cond, filter, is_some, nat_lt}
use Rattle.std.specs.Option.{option_map_or}
use Rattle.std.specs.List.{AllByRecursion, list_any, range_with_len}
use Rattle.std.proofs.lemmas.Bool.{and_parts, eqb-true, ltb-true, lt-ltb}
use Rattle.blob_words.specs.declared.number.RendererId.{RendererId}
use Rattle.blob_words.specs.declared.plan.Plan.{Plan}
use Rattle.blob_words.specs.declared.plan.Plan.TheVariants as plans
use Rattle.session_script.specs.declared.event.Event.{Event}
use Rattle.session_script.specs.declared.event.Event.TheVariants as events
use Rattle.session_script.specs.declared.event.Part.{Part}
use Rattle.answer_text.specs.declared.answer.Answer.{Answer}
use Rattle.answer_text.specs.declared.refusal.Refusal.{Refusal}
use Rattle.blob_model.specs.Session.{Session, page_limit}
use Rattle.blob_model.specs.History.{History, heard}
use Rattle.blob_model.specs.Builds.{Build, builds, build_in}
use Rattle.blob_model.specs.Standing.{is_unfinished, was_granted, is_granted, grants_at_once}
use Rattle.blob_model.specs.Transport.{Arrival, arrivals, has_come, missing, has_all, spans}
use Rattle.blob_model.specs.Handles.{has_handle, count}
use Rattle.blob_model.specs.Waits.{is_shared, is_waiting}
use Rattle.blob_model.specs.Construct.{build_answer}
use Rattle.blob_model.specs.Refusals.{refusal, is_sending, segment_refusals}
use Rattle.blob_model.proofs.Lists.{all_more, any_append_first, any_append_second, false_true, for_each, not_false, or_first}
use Rattle.blob_model.proofs.live.Least.{named}
use Rattle.blob_model.proofs.builds.Order.{AreOrdered, ordered_distinct, all_found}
use Rattle.blob_model.proofs.kept.Kept.{Kept, waiting_heard, unfinished_heard}
use Rattle.blob_model.proofs.kept.NewBlobs.{new_build, ordered_grows, new_broke, new_lacking, tests_fail, found_named}

contrary : (b c : Bool) → c ≡ false → (b ≡ true → c ≡ true) → b ≡ false
contrary true c e f = absurd (false_true (sym e ∙ f refl))
contrary false c e f = refl

-- blobs that ended and blobs that wait, after a line that brings them no segment
broke_on : (s : Session) (h : History) (event : Event) (answer : Answer) (list : List Build)
    → AllByRecursion (λ (build : Build). is_some build.plan ≡ false → is_unfinished h build.name ≡ false) list
    → AllByRecursion (λ (build : Build). is_some build.plan ≡ false → is_unfinished (heard h event answer) build.name ≡ false) list
broke_on s h event answer list all =
    for_each (λ (build : Build). is_some build.plan ≡ false → is_unfinished h build.name ≡ false)
    (λ (build : Build). is_some build.plan ≡ false → is_unfinished (heard h event answer) build.name ≡ false)
    list (λ build was none. contrary (is_unfinished (heard h event answer) build.name) (is_unfinished h build.name) (was none)
    (unfinished_heard h event answer build.name)) all

lacking_on : (s : Session) (h : History) (event : Event) (answer : Answer) (list : List Build)
    → ((name : ℕ) → arrivals (heard h event answer) name ≡ arrivals h name)
    → AllByRecursion (λ (build : Build). is_waiting h build ≡ true → has_all s.limits h build ≡ false) list
    → AllByRecursion (λ (build : Build). is_waiting (heard h event answer) build ≡ true → has_all s.limits (heard h event answer) build ≡ false) list
lacking_on s h event answer list same all =
    for_each (λ (build : Build). is_waiting h build ≡ true → has_all s.limits h build ≡ false)
    (λ (build : Build). is_waiting (heard h event answer) build ≡ true → has_all s.limits (heard h event answer) build ≡ false)
    list
    (λ build was waits.
    let before : has_all s.limits h build ≡ false = was (waiting_heard h event answer build waits) in
    ap (λ (came : List Arrival). length (filter (λ (segment : ℕ). not (has_come came segment)) (range_with_len 0 (length (spans s.limits build)))) == 0)
    (same build.name) ∙ before)
    all

-- ---- lines that build

has_one : (c : Bool) (n : ℕ) → nat_lt 0 (cond c 1 n) ≡ true → (c ≡ true) ⊎ (nat_lt 0 n ≡ true)
has_one true n e = inl refl
has_one false n e = inr e

pub held_grows : (s : Session) (h : History) (build : Build) (renderer : ℕ) → Kept s h → (holder name : ℕ)
    → nat_lt 0 (cond ((renderer == holder) && (build.name == name)) 1 (count h holder name)) ≡ true → named name (builds (page_limit s) h ++ build ∷ []) ≡ true
held_grows s h build renderer kept holder name e =
    ⊎_elim
    (λ (here : ((renderer == holder) && (build.name == name)) ≡ true).
    any_append_second (λ (each : Build). each.name == name) (builds (page_limit s) h) (build ∷ [])
    (or_first (build.name == name) false (and_parts (renderer == holder) (build.name == name) here).1))
    (λ (before : nat_lt 0 (count h holder name) ≡ true). any_append_first (λ (each : Build). each.name == name) (builds (page_limit s) h) (build ∷ [])
    (kept.held holder name before))
    (has_one ((renderer == holder) && (build.name == name)) (count h holder name) e)

none_append : {X : Type 0} (test : X → Bool) (xs ys : List X) → list_any test (xs ++ ys) ≡ false → list_any test xs ≡ false
none_append test xs ys e = contrary (list_any test xs) (list_any test (xs ++ ys)) e (any_append_first test xs ys)

pub kept_build : (s : Session) (h : History) (renderer name : ℕ) (kind : List ℕ) (parts : List Part) (event : Event) → Kept s h
    → named name (builds (page_limit s) h) ≡ false
    → ((n : ℕ) → arrivals (heard h event (build_answer s h renderer name parts)) n ≡ arrivals h n)
    → (AreOrdered [] (builds (page_limit s) h ++ new_build s h renderer name kind parts ∷ []))
    × (AllByRecursion (λ (build : Build). is_some build.plan ≡ false → is_unfinished (heard h event (build_answer s h renderer name parts)) build.name ≡ false)
    (builds (page_limit s) h ++ new_build s h renderer name kind parts ∷ []))
    × ((n : ℕ) → named n (builds (page_limit s) h ++ new_build s h renderer name kind parts ∷ []) ≡ false → arrivals h n ≡ [])
    × (AllByRecursion (λ (build : Build). is_waiting (heard h event (build_answer s h renderer name parts)) build ≡ true
    → has_all s.limits (heard h event (build_answer s h renderer name parts)) build ≡ false)
    (builds (page_limit s) h ++ new_build s h renderer name kind parts ∷ []))
kept_build s h renderer name kind parts event kept fresh same =
    let one = build_answer s h renderer name parts in
    let build = new_build s h renderer name kind parts in (
      ordered_grows s h renderer name kind parts kept fresh,
      all_more (λ (each : Build). is_some each.plan ≡ false → is_unfinished (heard h event (build_answer s h renderer name parts)) each.name ≡ false)
          (builds (page_limit s) h) (new_build s h renderer name kind parts)
          (broke_on s h event (build_answer s h renderer name parts) (builds (page_limit s) h) kept.broke) (new_broke s h event renderer name kind parts),
      (λ n none. kept.quiet n (none_append (λ (each : Build). each.name == n) (builds (page_limit s) h) (new_build s h renderer name kind parts ∷ []) none)),
      all_more (λ (each : Build). is_waiting (heard h event (build_answer s h renderer name parts)) each ≡ true
          → has_all s.limits (heard h event (build_answer s h renderer name parts)) each ≡ false)
          (builds (page_limit s) h) (new_build s h renderer name kind parts)
          (lacking_on s h event (build_answer s h renderer name parts) (builds (page_limit s) h) same kept.lacking)
          (λ waits. new_lacking s h event (build_answer s h renderer name parts) renderer name kind parts (same name ∙ kept.quiet name fresh)
          (and_parts (is_unfinished (heard h event (build_answer s h renderer name parts)) name) (is_shared build.plan)
          (and_parts (is_unfinished (heard h event (build_answer s h renderer name parts)) name && is_shared build.plan) _ waits).0).1),
    )

-- ---- lines that bring a segment

-- a blob that gets a segment doesn't wait
sending_waits : (h : History) (build : Build) → is_granted h build ≡ true → is_waiting h build ≡ true → ⊥
sending_waits h build granted waits =
    let outer = and_parts (is_unfinished h build.name && is_shared build.plan) (not (was_granted h build.name)) waits in
    let inner = and_parts (is_unfinished h build.name) (is_shared build.plan) outer.0 in
    go build.plan (was_granted h build.name) inner.1 outer.1 granted
  where
    go : (plan : Option Plan) (g : Bool) → is_shared plan ≡ true → not g ≡ true → (option_map_or grants_at_once plan false || g) ≡ true → ⊥
    go (Some (plans.Shared n)) true e f g = false_true f
    go (Some (plans.Shared n)) false e f g = false_true g
    go plan g e f granted' = false_true e

-- the blob that gets a segment was built and is granted
pub segment_found : (s : Session) (h : History) (renderer : RendererId) (b segment len : ℕ) (found : Option Build)
    → AllByRecursion (λ (case : Bool × Refusal). case.0 ≡ false) (segment_refusals s h renderer b segment len found) → (build : Build) × (found ≡ Some build)
    × (is_granted h build ≡ true)
segment_found s h renderer b segment len None tests = absurd (false_true (sym tests.0))
segment_found s h renderer b segment len (Some build) tests =
    let sends : is_sending s h renderer.0 build ≡ true = not_false (is_sending s h renderer.0 build) tests.0 in
    let p = and_parts (is_unfinished h build.name && is_granted h build && (build.builder == renderer.0)) (nat_lt 0 (length (missing s.limits h build))) sends
    in
    let q = and_parts (is_unfinished h build.name && is_granted h build) (build.builder == renderer.0) p.0 in
    let r = and_parts (is_unfinished h build.name) (is_granted h build) q.0 in
    (build, refl, r.1)

pub kept_segment : (s : Session) (h : History) (answer : Answer) (renderer : RendererId) (b segment : ℕ) (bytes : List ℕ) → Kept s h
    → refusal s h (events.Segment renderer b segment bytes) ≡ None
    → Kept s (heard h (events.Segment renderer b segment bytes) answer)
kept_segment s h answer renderer b segment bytes kept accepted =
    let event = events.Segment renderer b segment bytes in
    let found = segment_found s h renderer b segment (length bytes) (build_in (builds (page_limit s) h) b)
    (tests_fail s h (events.Segment renderer b segment bytes) accepted).1 in
    let member : named b (builds (page_limit s) h) ≡ true = sym (found_named (builds (page_limit s) h) b) ∙ ap (λ (o : Option Build). is_some o) found.1 in
    let each = all_found (builds (page_limit s) h) (builds (page_limit s) h) (ordered_distinct [] (builds (page_limit s) h) kept.ordered) (λ build built. refl)
    in
    record {
      ordered = kept.ordered;
      held = kept.held;
      broke = broke_on s h (events.Segment renderer b segment bytes) answer (builds (page_limit s) h) kept.broke;
      quiet = λ name none. quiet_by name (b == name) refl none member;
      lacking =
          for_both (λ (build : Build). is_waiting h build ≡ true → has_all s.limits h build ≡ false)
          (λ (build : Build). build_in (builds (page_limit s) h) build.name ≡ Some build)
          (λ (build : Build). is_waiting (heard h (events.Segment renderer b segment bytes) answer) build ≡ true
          → has_all s.limits (heard h (events.Segment renderer b segment bytes) answer) build ≡ false)
          (builds (page_limit s) h)
          (λ build was self waits. lacking_by build (b == build.name) refl was self
          (waiting_heard h (events.Segment renderer b segment bytes) answer build waits) found.0 found.1 found.2)
          kept.lacking
          each;
    }
  where
    quiet_by : (name : ℕ) (c : Bool) → (b == name) ≡ c → named name (builds (page_limit s) h) ≡ false → named b (builds (page_limit s) h) ≡ true
        → cond c (arrivals h name ++ record { segment = segment; bytes = bytes } ∷ []) (arrivals h name) ≡ []
    quiet_by name false e none member = kept.quiet name none
    quiet_by name true e none member =
        let same : b ≡ name = eqb-true b name e in
        absurd (false_true (sym none ∙ subst (λ (n : ℕ). named n (builds (page_limit s) h) ≡ true) same member))

    for_both : {X : Type 0} (P Q R : X → Type 0) (xs : List X) → ((x : X) → P x → Q x → R x) → AllByRecursion P xs → AllByRecursion Q xs → AllByRecursion R xs
    for_both P Q R [] f p q = tt
    for_both P Q R (x ∷ xs) f p q = (f x p.0 q.0, for_both P Q R xs f p.1 q.1)

    lacking_by : (build : Build) (c : Bool) → (b == build.name) ≡ c → (is_waiting h build ≡ true → has_all s.limits h build ≡ false)
        → build_in (builds (page_limit s) h) build.name ≡ Some build
        → is_waiting h build ≡ true → (other : Build) → build_in (builds (page_limit s) h) b ≡ Some other → is_granted h other ≡ true
        → (length
        (filter (λ (each : ℕ). not (has_come (cond c (arrivals h build.name ++ record { segment = segment; bytes = bytes } ∷ []) (arrivals h build.name))
        each)) (range_with_len 0 (length (spans s.limits build)))) == 0) ≡ false
    lacking_by build false e was self waits other at granted = was waits
    lacking_by build true e was self waits other at granted =
        let same : b ≡ build.name = eqb-true b build.name e in
        let both : Some other ≡ Some build = sym at ∙ ap (λ (n : ℕ). build_in (builds (page_limit s) h) n) same ∙ self in
        let one : other ≡ build = cc in
        absurd (sending_waits h build (subst (λ (x : Build). is_granted h x ≡ true) one granted) waits)

-- ---- lines that move handles

pub same_all : (s : Session) (h : History) (event : Event) (answer : Answer) → Kept s h → builds (page_limit s) (heard h event answer) ≡ builds (page_limit s) h
    → ((name : ℕ) → arrivals (heard h event answer) name ≡ arrivals h name)
    → ((holder name : ℕ) → has_handle (heard h event answer) holder name ≡ true → named name (builds (page_limit s) h) ≡ true) → Kept s (heard h event answer)
same_all s h event answer kept same quiet held = record {
  ordered = subst (λ (list : List Build). AreOrdered [] list) (sym same) kept.ordered;
  held = λ holder name has. subst (λ (list : List Build). named name list ≡ true) (sym same) (held holder name has);
  broke = subst (λ (list : List Build). AllByRecursion (λ (build : Build). is_some build.plan ≡ false → is_unfinished (heard h event answer) build.name ≡ false)
      list) (sym same) (broke_on s h event answer (builds (page_limit s) h) kept.broke);
  quiet = λ name none. quiet name ∙ kept.quiet name (subst (λ (list : List Build). named name list ≡ false) same none);
  lacking =
      subst (λ (list : List Build). AllByRecursion (λ (build : Build). is_waiting (heard h event answer) build ≡ true → has_all s.limits (heard h event answer)
      build ≡ false) list) (sym same)
      (lacking_on s h event answer (builds (page_limit s) h) quiet kept.lacking);
}

pub held_pass : (c : Bool) (n : ℕ) → nat_lt 0 (cond c (n + 1) n) ≡ true → (c ≡ true) ⊎ (nat_lt 0 n ≡ true)
held_pass true n e = inl refl
held_pass false n e = inr e

pub held_drop : (c : Bool) (n : ℕ) → nat_lt 0 (cond c (n - 1) n) ≡ true → nat_lt 0 n ≡ true
held_drop true n e = let some : 0 < n - 1 = ltb-true 0 (n - 1) e in lt-ltb 0 n (omega arith)
held_drop false n e = e

pub held_die : (c : Bool) (n : ℕ) → nat_lt 0 (cond c 0 n) ≡ true → nat_lt 0 n ≡ true
held_die true n e = absurd (false_true e)
held_die false n e = e
