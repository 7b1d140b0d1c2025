-- The own bytes of a blob have values once their segments came, and those of a done blob all do.
use Rattle.std.proofs.Common.{◌≡◌, ℕ, zero, suc, ◌+◌, ◌-◌, ◌≤◌, ◌<◌, ◌==◌, Bool, true, false, ◌&&◌, ◌||◌, List, [], ◌∷◌, length, refl, ap, subst, sym, ◌∙◌, arith, Option, Some}
use Rattle.std.specs.Prelude.{cond, find, nat_lt, nat_le, slice_get}
use Rattle.std.specs.Option.{option_map, option_map_or, option_and_then}
use Rattle.std.specs.List.{AllByRecursion, list_any}
use Rattle.std.proofs.lemmas.Bool.{eqb-true, ltb-true, lt-ltb, le-leb, ltb-false}
use Rattle.std.proofs.lemmas.Option.{slice_get_within}
use Rattle.blob_words.specs.declared.plan.Plan.{Plan}
use Rattle.blob_words.specs.declared.plan.Plan.TheVariants as plans
use Rattle.transport_plan.specs.Spans.{IsEndToEnd, segment_spans}
use Rattle.transport_plan.proofs.PlanSpans.{cover_plan}
use Rattle.blob_model.specs.Session.{Session, page_limit}
use Rattle.blob_model.specs.History.{History}
use Rattle.blob_model.specs.Parts.{own_lengths, own_bytes, embedded}
use Rattle.blob_model.specs.Builds.{sent, Build, builds, build_in}
use Rattle.blob_model.specs.Transport.{Arrival, arrivals, spans, has_come, brought, is_within, byte_from, byte_by_plan, sent_byte}
use Rattle.blob_model.specs.Value.{value}
use Rattle.blob_model.proofs.Lists.{false_true, found_all, found_true, get_there}
use Rattle.blob_model.proofs.memory.Grants.{found_name}
use Rattle.blob_model.proofs.builds.Plans.{FitsParts}

-- ---- spans

-- spans from one place to another stand between them
pub span_between : (from to : ℕ) (list : List (ℕ × ℕ)) (k : ℕ) (span : ℕ × ℕ) → IsEndToEnd from list to → slice_get list k ≡ Some span → (from ≤ span.0)
    × (span.0 + span.1 ≤ to)
span_between from to [] k span ends e = cc
span_between from to (x ∷ list) zero span ends e =
    let same : x ≡ span = cc in
    let here = ends.0 in
    let over = end_after (from + x.1) to list ends.2 in
    subst (λ (y : ℕ × ℕ). (from ≤ y.0) × (y.0 + y.1 ≤ to)) same (omega (arith, here), omega (arith, here, over))
  where
    end_after : (a b : ℕ) (xs : List (ℕ × ℕ)) → IsEndToEnd a xs b → a ≤ b
    end_after a b [] f = omega (arith, f)
    end_after a b (y ∷ xs) f = let rest = end_after (a + y.1) b xs f.2 in omega (arith, rest)
span_between from to (x ∷ list) (suc k) span ends e =
    let rest = span_between (from + x.1) to list k span ends.2 e in
    let low = rest.0 in
    (omega (arith, low), rest.1)

-- a place between them is in one of them
span_of : (from to : ℕ) (list : List (ℕ × ℕ)) (index : ℕ) → IsEndToEnd from list to → from ≤ index → index < to
    → (k : ℕ) × (span : ℕ × ℕ) × (slice_get list k ≡ Some span) × (span.0 ≤ index) × (index < span.0 + span.1)
span_of from to [] index ends low high = absurd (omega (arith, ends, low, high))
span_of from to (x ∷ list) index ends low high = go (nat_lt index (from + x.1)) refl (λ later. span_of (from + x.1) to list index ends.2 later high)
  where
    go : (b : Bool) → nat_lt index (from + x.1) ≡ b → (from + x.1 ≤ index → (k : ℕ) × (span : ℕ × ℕ) × (slice_get list k ≡ Some span) × (span.0 ≤ index)
        × (index < span.0 + span.1))
        → (k : ℕ) × (span : ℕ × ℕ) × (slice_get (x ∷ list) k ≡ Some span) × (span.0 ≤ index) × (index < span.0 + span.1)
    go true at rest =
        let here = ends.0 in
        let below = ltb-true index (from + x.1) at in
        (zero, x, refl, omega (arith, here, low), omega (arith, here, below))
    go false at rest =
        let later = rest (ltb-false index (from + x.1) at) in
        (suc (later.0), later.1, later.2, later.3, later.4)

-- the byte at a place of the k-th span is that of segment k
byte_at : (came : List Arrival) (segment from to : ℕ) (list : List (ℕ × ℕ)) (k index : ℕ) (span : ℕ × ℕ) → IsEndToEnd from list to → slice_get list k
    ≡ Some span → span.0 ≤ index → index < span.0 + span.1
    → byte_from came segment list index ≡ option_and_then (λ (bytes : List ℕ). slice_get bytes (index - span.0)) (brought came (segment + k))
byte_at came segment from to [] k index span ends e low high = cc
byte_at came segment from to (x ∷ list) zero index span ends e low high =
    let same : x ≡ span = cc in
    let inside : is_within x index ≡ true = subst (λ (y : ℕ × ℕ). is_within y index ≡ true) (sym same)
    (within_true (le-leb span.0 index low) (lt-ltb index (span.0 + span.1) high)) in
    let number : segment ≡ segment + 0 = omega arith in
    ap (λ (b : Bool). cond b (option_and_then (λ (bytes : List ℕ). slice_get bytes (index - x.0)) (brought came segment))
    (byte_from came (segment + 1) list index)) inside
    ∙ (λ i. option_and_then (λ (bytes : List ℕ). slice_get bytes (index - (same i).0)) (brought came (number i)))
  where
    within_true : {a b : Bool} → a ≡ true → b ≡ true → (a && b) ≡ true
    within_true p q = rw (p, q) refl
byte_at came segment from to (x ∷ list) (suc k) index span ends e low high =
    let between = span_between (from + x.1) to list k span ends.2 e in
    let above = between.0 in
    let here = ends.0 in
    let past : nat_lt index (x.0 + x.1) ≡ false = over index (x.0 + x.1) (omega (arith, above, here, low)) in
    let number : (segment + 1) + k ≡ segment + suc k = omega arith in
    ap (λ (b : Bool). cond b (option_and_then (λ (bytes : List ℕ). slice_get bytes (index - x.0)) (brought came segment))
    (byte_from came (segment + 1) list index)) (outside (nat_le x.0 index) past)
    ∙ byte_at came (segment + 1) (from + x.1) to list k index span ends.2 e low high
    ∙ ap (λ (n : ℕ). option_and_then (λ (bytes : List ℕ). slice_get bytes (index - span.0)) (brought came n)) number
  where
    over : (a b : ℕ) → b ≤ a → nat_lt a b ≡ false
    over a b f = go (nat_lt a b) refl
      where
        go : (c : Bool) → nat_lt a b ≡ c → c ≡ false
        go false at = refl
        go true at = let below = ltb-true a b at in absurd (omega (arith, below, f))

    outside : (a : Bool) {b : Bool} → b ≡ false → (a && b) ≡ false
    outside true f = f
    outside false f = refl

-- ---- segments that came

-- a segment that came is one of the blob's, with as many bytes as its span
pub record ArrivalFits (s : Session) (h : History) (b : ℕ) (arrival : Arrival) : Type 0 where
  pub build : Build
  pub found : build_in (builds (page_limit s) h) b ≡ Some build
  pub span : ℕ × ℕ
  pub spans_it : slice_get (spans s.limits build) arrival.segment ≡ Some span
  pub whole : length arrival.bytes ≡ span.1

-- what is known
abbrev pub IsKnown : {X : Type 0} → Option X → Type 0
IsKnown {X} found = (x : X) × (found ≡ Some x)

find_some : {X : Type 0} (test : X → Bool) (xs : List X) → list_any test xs ≡ true → IsKnown (find test xs)
find_some test [] e = absurd (false_true e)
find_some {X = X} test (x ∷ xs) e = go (test x) e (find_some test xs)
  where
    go : (b : Bool) → (b || list_any test xs) ≡ true → (list_any test xs ≡ true → IsKnown (find test xs)) → IsKnown (cond b (Some x) (find test xs))
    go true f rest = (x, refl)
    go false f rest = rest f

-- what a segment that came brought
brought_whole : (s : Session) (h : History) (b k : ℕ) (build : Build) (span : ℕ × ℕ) → AllByRecursion (ArrivalFits s h b) (arrivals h b)
    → has_come (arrivals h b) k ≡ true → build_in (builds (page_limit s) h) b ≡ Some build
    → slice_get (spans s.limits build) k ≡ Some span → (bytes : List ℕ) × (brought (arrivals h b) k ≡ Some bytes) × (length bytes ≡ span.1)
brought_whole s h b k build span fit came found at =
    let test : Arrival → Bool = λ arrival. arrival.segment == k in
    let some = find_some (λ (arrival : Arrival). arrival.segment == k) (arrivals h b) came in
    let one = found_all (ArrivalFits s h b) (λ (arrival : Arrival). arrival.segment == k) (arrivals h b) some.0 fit some.1 in
    let number : some.0.segment ≡ k = eqb-true some.0.segment k (found_true (λ (arrival : Arrival). arrival.segment == k) (arrivals h b) some.0 some.1) in
    let same : one.build ≡ build = (let e = one.found in cc) in
    let spans_same : Some one.span ≡ Some span = sym one.spans_it ∙ (λ i. slice_get (spans s.limits (same i)) (number i)) ∙ at in
    let equal : one.span ≡ span = cc in
    (some.0.bytes, ap (option_map (λ (arrival : Arrival). arrival.bytes)) some.1, one.whole ∙ ap (λ (x : ℕ × ℕ). x.1) equal)

-- an own byte whose segment came has a value
pub byte_came : (s : Session) (h : History) (b k index : ℕ) (build : Build) (plan : Plan) (span : ℕ × ℕ) → AllByRecursion (ArrivalFits s h b) (arrivals h b)
    → build_in (builds (page_limit s) h) b ≡ Some build → build.plan ≡ Some plan
    → FitsParts s build.parts plan → has_come (arrivals h b) k ≡ true → slice_get (spans s.limits build) k ≡ Some span → span.0 ≤ index
    → index < span.0 + span.1 → IsKnown (value s h (sent b index))
byte_came s h b k index build plan span fit found planned fits came at low high =
    let name : build.name ≡ b = found_name (builds (page_limit s) h) b build found in
    let whole = brought_whole s h b k build span fit came found at in
    let bytes = whole.0 in
    let length_is = whole.2 in
    let there = get_there whole.0 (index - span.0) (omega (arith, length_is, low, high)) in
    let byte : byte_from (arrivals h b) 0 (spans s.limits build) index ≡ Some (there.0) =
    by_span plan planned fits
    ∙ (λ i. option_and_then (λ (xs : List ℕ). slice_get xs (index - span.0)) (brought (arrivals h b) (zero_plus i)))
    ∙ ap (option_and_then (λ (xs : List ℕ). slice_get xs (index - span.0))) whole.1 ∙ there.1 in (
      there.0,
      ap (option_and_then (λ (each : Build). sent_byte s.limits h each index)) found ∙ ap (byte_by_plan s.limits h build index) planned ∙ by_plan plan planned
          fits
          ∙ ap (λ (n : ℕ). byte_from (arrivals h n) 0 (spans s.limits build) index) name ∙ byte,
    )
  where
    zero_plus : 0 + k ≡ k
    zero_plus = omega arith

    spans_by : (p : Plan) → build.plan ≡ Some p → spans s.limits build ≡ segment_spans (own_lengths build.parts) p s.limits
    spans_by p e = ap (λ (o : Option Plan). option_map_or (λ (each : Plan). segment_spans (own_lengths build.parts) each s.limits) o []) e

    none_at : (p : Plan) → build.plan ≡ Some p → segment_spans (own_lengths build.parts) p s.limits ≡ [] → ⊥
    none_at p e empty = let gone : slice_get {X = ℕ × ℕ} [] k ≡ Some span = ap (λ (xs : List (ℕ × ℕ)). slice_get xs k) (sym (spans_by p e ∙ empty)) ∙ at in cc

    by_span : (p : Plan) → build.plan ≡ Some p → FitsParts s build.parts p
        → byte_from (arrivals h b) 0 (spans s.limits build) index ≡ option_and_then (λ (xs : List ℕ). slice_get xs (index - span.0))
        (brought (arrivals h b) (0 + k))
    by_span plans.None e f = absurd (none_at plans.None e refl)
    by_span plans.Inline e f = absurd (none_at plans.Inline e refl)
    by_span plans.OutOfMemory e f = absurd f
    by_span (plans.TooMany what) e f = absurd f
    by_span (plans.Shared n) e f =
        let covers = (cover_plan (own_lengths build.parts) (plans.Shared n) s.limits f.0).1 in
        byte_at (arrivals h b) 0 0 (own_bytes build.parts) (spans s.limits build) k index span
        (subst (λ (xs : List (ℕ × ℕ)). IsEndToEnd 0 xs (own_bytes build.parts)) (sym (spans_by (plans.Shared n) e)) covers) at low high
    by_span (plans.File n) e f =
        let covers = (cover_plan (own_lengths build.parts) (plans.File n) s.limits f.0).1 in
        byte_at (arrivals h b) 0 0 (own_bytes build.parts) (spans s.limits build) k index span
        (subst (λ (xs : List (ℕ × ℕ)). IsEndToEnd 0 xs (own_bytes build.parts)) (sym (spans_by (plans.File n) e)) covers) at low high

    by_plan : (p : Plan) → build.plan ≡ Some p → FitsParts s build.parts p → byte_by_plan s.limits h build index (Some p) ≡ byte_from (arrivals h build.name) 0
        (spans s.limits build) index
    by_plan plans.Inline e f = absurd (none_at plans.Inline e refl)
    by_plan plans.None e f = refl
    by_plan (plans.Shared n) e f = refl
    by_plan (plans.File n) e f = refl
    by_plan plans.OutOfMemory e f = refl
    by_plan (plans.TooMany what) e f = refl

-- where all segments came each own byte has a value
pub all_bytes : (s : Session) (h : History) (b index : ℕ) (build : Build) (plan : Plan) → AllByRecursion (ArrivalFits s h b) (arrivals h b)
    → build_in (builds (page_limit s) h) b ≡ Some build → build.plan ≡ Some plan → FitsParts s build.parts plan
    → ((k : ℕ) → k < length (spans s.limits build) → has_come (arrivals h b) k ≡ true) → index < own_bytes build.parts → IsKnown (value s h (sent b index))
all_bytes s h b index build plan fit found planned fits came low = go plan planned fits
  where
    shared : (p : Plan) → build.plan ≡ Some p → FitsParts s build.parts p → IsEndToEnd 0 (segment_spans (own_lengths build.parts) p s.limits)
        (own_bytes build.parts) → IsKnown (value s h (sent b index))
    shared p e f covers =
        let spans_by : spans s.limits build ≡ segment_spans (own_lengths build.parts) p s.limits =
        ap (λ (o : Option Plan). option_map_or (λ (each : Plan). segment_spans (own_lengths build.parts) each s.limits) o []) e in
        let one = span_of 0 (own_bytes build.parts) (spans s.limits build) index
        (subst (λ (xs : List (ℕ × ℕ)). IsEndToEnd 0 xs (own_bytes build.parts)) (sym spans_by) covers) (omega arith) low in
        byte_came s h b (one.0) index build p (one.1) fit found e f (came (one.0) (slice_get_within (spans s.limits build) (one.0) (one.1) (one.2))) (one.2)
        (one.3) (one.4)

    go : (p : Plan) → build.plan ≡ Some p → FitsParts s build.parts p → IsKnown (value s h (sent b index))
    go plans.None e f = absurd (omega (arith, f, low))
    go plans.Inline e f =
        let there = get_there (embedded build.parts) index (omega (arith, f, low)) in
        (there.0, ap (option_and_then (λ (each : Build). sent_byte s.limits h each index)) found ∙ ap (byte_by_plan s.limits h build index) e ∙ there.1)
    go (plans.Shared n) e f = shared (plans.Shared n) e f (cover_plan (own_lengths build.parts) (plans.Shared n) s.limits f.0).1
    go (plans.File n) e f = shared (plans.File n) e f (cover_plan (own_lengths build.parts) (plans.File n) s.limits f.0).1
    go plans.OutOfMemory e f = absurd f
    go (plans.TooMany what) e f = absurd f
