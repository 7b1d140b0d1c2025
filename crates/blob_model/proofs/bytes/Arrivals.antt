-- Blobs and segments only come: each segment that came fits its blob, and a done blob has all of them.
use Rattle.std.proofs.Common.{◌≡◌, ◌⊎◌, ℕ, zero, suc, ◌+◌, ◌-◌, ◌≤◌, ◌<◌, ◌==◌, Bool, true, false, ◌&&◌, not, List, [], ◌∷◌, ◌++◌, length, refl, ap, subst, sym, ◌∙◌, inl, inr, arith, Option, Some, None, append-nil}
use Rattle.std.specs.Prelude.{cond, filter, find, nat_lt, nat_le, slice_get, slice_index_or}
use Rattle.std.specs.Option.{option_map, option_map_or, option_and_then}
use Rattle.std.specs.List.{AllByRecursion, range_with_len}
use Rattle.std.proofs.lemmas.Bool.{and_parts, eqb-true, eq-eqb, leb-false}
use Rattle.std.proofs.lemmas.Option.{get_or_from_slice_get}
use Rattle.blob_words.specs.declared.number.RendererId.{RendererId}
use Rattle.blob_words.specs.declared.plan.Plan.{Plan}
use Rattle.blob_words.specs.declared.plan.Plan.TheVariants as plans
use Rattle.blob_words.specs.declared.status.Status.{Status}
use Rattle.blob_words.specs.declared.status.Status.TheVariants as statuses
use Rattle.session_script.specs.declared.event.Event.{Event}
use Rattle.session_script.specs.declared.event.Event.TheVariants as events
use Rattle.answer_text.specs.declared.answer.Answer.{Answer}
use Rattle.answer_text.specs.declared.answer.Answer.TheVariants as answers
use Rattle.answer_text.specs.declared.refusal.Refusal.{Refusal}
use Rattle.blob_model.specs.Session.{Session, page_limit}
use Rattle.blob_model.specs.History.{History, start, heard, refused, said}
use Rattle.blob_model.specs.Builds.{sent, Build, builds, builds_after, build_in}
use Rattle.blob_model.specs.Standing.{ended, ended_after, is_done_status, is_done, is_broken_status, was_granted, is_granted}
use Rattle.blob_model.specs.Waits.{has_sources}
use Rattle.blob_model.specs.Transport.{Arrival, arrivals, spans, has_come, has_all, brought, byte_from, byte_by_plan, sent_byte}
use Rattle.blob_model.specs.Value.{value}
use Rattle.blob_model.specs.Refusals.{refusal, segment_refusals}
use Rattle.blob_model.proofs.Lists.{all_more, any_append_first, false_true, find_append, for_each, get_there, not_false}
use Rattle.blob_model.proofs.kept.Kept.{still_granted}
use Rattle.blob_model.proofs.kept.NewBlobs.{tests_fail}
use Rattle.blob_model.proofs.legal.PageNumbers.{same_first}
use Rattle.blob_model.proofs.legal.Causes.{is_idle, is_reply, OwnCase, idle, breaks, stores, unstores, replies, loses, own_case, IsFurther, by_store, by_unstore, by_drop, by_break, by_done, by_removal, by_grant, by_page_job, by_compaction, IsCaused}
use Rattle.blob_model.proofs.bytes.Sent.{ArrivalFits, IsKnown}

-- ---- blobs and segments only come

-- blobs, grants and segments only come
pub record Grown (s : Session) (h g : History) : Type 0 where
  pub grants : (name : ℕ) → was_granted h name ≡ true → was_granted g name ≡ true
  pub more : List Build
  pub blobs : builds (page_limit s) g ≡ builds (page_limit s) h ++ more
  pub came : (name : ℕ) → List Arrival
  pub segments : (name : ℕ) → arrivals g name ≡ arrivals h name ++ came name

blobs_grow : (page : ℕ) (event : Event) (answer : Answer) (list : List Build) → (more : List Build) × (builds_after page event answer list ≡ list ++ more)
blobs_grow page (events.Build renderer name kind parts) answer list = (_, refl)
blobs_grow page (events.Slice renderer name source from to kind) answer list = (_, refl)
blobs_grow page event answer list = ([], sym (append-nil list))

segments_grow : (h : History) (event : Event) (answer : Answer) (name : ℕ) → (more : List Arrival)
    × (arrivals (heard h event answer) name ≡ arrivals h name ++ more)
segments_grow h (events.Segment renderer b segment bytes) answer name = go (b == name)
  where
    go : (c : Bool) → (more : List Arrival) × (cond c (arrivals h name ++ record { segment = segment; bytes = bytes } ∷ []) (arrivals h name) ≡ arrivals h name
        ++ more)
    go true = (_, refl)
    go false = ([], sym (append-nil (arrivals h name)))
segments_grow h event answer name = ([], sym (append-nil (arrivals h name)))

pub grown_heard : (s : Session) (h : History) (event : Event) (answer : Answer) → Grown s h (heard h event answer)
grown_heard s h event answer = record {
  grants = λ name e. still_granted answer name (was_granted h name) e;
  more = (blobs_grow (page_limit s) event answer (builds (page_limit s) h)).0;
  blobs = (blobs_grow (page_limit s) event answer (builds (page_limit s) h)).1;
  came = λ name. (segments_grow h event answer name).0;
  segments = λ name. (segments_grow h event answer name).1;
}

pub grown_said : (s : Session) (h : History) (answer : Answer) → Grown s h (said h answer)
grown_said s h answer = record {
  grants = λ name e. still_granted answer name (was_granted h name) e;
  more = [];
  blobs = sym
      (append-nil (builds (page_limit s) h));
  came = λ name. [];
  segments = λ name. sym (append-nil (arrivals h name));
}

pub built_grown : (s : Session) (h g : History) (name : ℕ) (build : Build) → Grown s h g → build_in (builds (page_limit s) h) name ≡ Some build
    → build_in (builds (page_limit s) g) name ≡ Some build
built_grown s h g name build grown e =
    ap (λ (xs : List Build). build_in xs name) grown.blobs ∙ find_append (λ (each : Build). each.name == name) (builds (page_limit s) h) grown.more build e

pub came_grown : (s : Session) (h g : History) (name k : ℕ) → Grown s h g → has_come (arrivals h name) k ≡ true → has_come (arrivals g name) k ≡ true
came_grown s h g name k grown e =
    ap (λ (xs : List Arrival). has_come xs k) (grown.segments name) ∙ any_append_first (λ (arrival : Arrival). arrival.segment == k) (arrivals h name)
    (grown.came name) e

-- a byte that is known stays
byte_grown : (came more : List Arrival) (segment : ℕ) (list : List (ℕ × ℕ)) (index : ℕ) → IsKnown (byte_from came segment list index)
    → IsKnown (byte_from (came ++ more) segment list index)
byte_grown came more segment [] index known = known
byte_grown came more segment (span ∷ list) index known = go (nat_le span.0 index && nat_lt index (span.0 + span.1)) known
    (byte_grown came more (segment + 1) list index)
  where
    read : (found : Option Arrival) → find (λ (arrival : Arrival). arrival.segment == segment) came ≡ found
        → IsKnown (option_and_then (λ (bytes : List ℕ). slice_get bytes (index - span.0)) (brought came segment))
        → IsKnown (option_and_then (λ (bytes : List ℕ). slice_get bytes (index - span.0)) (brought (came ++ more) segment))
    read None at some =
        let none : option_and_then (λ (bytes : List ℕ). slice_get bytes (index - span.0)) (brought came segment) ≡ None =
        ap (λ (o : Option Arrival). option_and_then (λ (bytes : List ℕ). slice_get bytes (index - span.0))
        (option_map (λ (arrival : Arrival). arrival.bytes) o)) at in
        let f = some.1 in
        cc
    read (Some arrival) at some =
        let before : option_and_then (λ (bytes : List ℕ). slice_get bytes (index - span.0)) (brought came segment) ≡ slice_get arrival.bytes (index - span.0) =
        ap (λ (o : Option Arrival). option_and_then (λ (bytes : List ℕ). slice_get bytes (index - span.0)) (option_map (λ (each : Arrival). each.bytes) o)) at
        in
        let later : option_and_then (λ (bytes : List ℕ). slice_get bytes (index - span.0)) (brought (came ++ more) segment) ≡ slice_get arrival.bytes
        (index - span.0) =
        ap (λ (o : Option Arrival). option_and_then (λ (bytes : List ℕ). slice_get bytes (index - span.0)) (option_map (λ (each : Arrival). each.bytes) o))
        (find_append (λ (each : Arrival). each.segment == segment) came more arrival at) in
        (some.0, later ∙ sym before ∙ some.1)

    go : (b : Bool) → IsKnown (cond b (option_and_then (λ (bytes : List ℕ). slice_get bytes (index - span.0)) (brought came segment))
        (byte_from came (segment + 1) list index))
        → (IsKnown (byte_from came (segment + 1) list index) → IsKnown (byte_from (came ++ more) (segment + 1) list index))
        → IsKnown (cond b (option_and_then (λ (bytes : List ℕ). slice_get bytes (index - span.0)) (brought (came ++ more) segment))
        (byte_from (came ++ more) (segment + 1) list index))
    go true f rest = read (find (λ (arrival : Arrival). arrival.segment == segment) came) refl f
    go false f rest = rest f

pub value_grown : (s : Session) (h g : History) (b index : ℕ) → Grown s h g → IsKnown (value s h (sent b index)) → IsKnown (value s g (sent b index))
value_grown s h g b index grown known = go (build_in (builds (page_limit s) h) b) refl known
  where
    from_came : (build : Build) → IsKnown (byte_from (arrivals h build.name) 0 (spans s.limits build) index)
        → IsKnown (byte_from (arrivals g build.name) 0 (spans s.limits build) index)
    from_came build f =
        subst (λ (xs : List Arrival). IsKnown (byte_from xs 0 (spans s.limits build) index)) (sym (grown.segments build.name))
        (byte_grown (arrivals h build.name) (grown.came build.name) 0 (spans s.limits build) index f)

    by_plan : (build : Build) (plan : Option Plan) → IsKnown (byte_by_plan s.limits h build index plan) → IsKnown (byte_by_plan s.limits g build index plan)
    by_plan build (Some plans.Inline) f = f
    by_plan build None f = from_came build f
    by_plan build (Some plans.None) f = from_came build f
    by_plan build (Some (plans.Shared n)) f = from_came build f
    by_plan build (Some (plans.File n)) f = from_came build f
    by_plan build (Some plans.OutOfMemory) f = from_came build f
    by_plan build (Some (plans.TooMany what)) f = from_came build f

    go : (found : Option Build) → build_in (builds (page_limit s) h) b ≡ found
        → IsKnown (option_and_then (λ (build : Build). sent_byte s.limits h build index) found) → IsKnown (value s g (sent b index))
    go None at f = let e = f.1 in cc
    go (Some build) at f =
        let later = by_plan build build.plan f in
        (later.0, ap (option_and_then (λ (each : Build). sent_byte s.limits g each index)) (built_grown s h g b build grown at) ∙ later.1)

-- ---- each segment that came fits

fits_grown : (s : Session) (h g : History) (b : ℕ) (list : List Arrival) → Grown s h g → AllByRecursion (ArrivalFits s h b) list
    → AllByRecursion (ArrivalFits s g b) list
fits_grown s h g b list grown all =
    for_each (ArrivalFits s h b) (ArrivalFits s g b) list
    (λ arrival one. record {
      build = one.build;
      found = built_grown s h g b one.build grown one.found;
      span = one.span;
      spans_it = one.spans_it;
      whole =
          one.whole;
    }) all

segment_fits : (s : Session) (h : History) (renderer : RendererId) (b segment : ℕ) (bytes : List ℕ) (found : Option Build) → build_in (builds (page_limit s) h)
    b ≡ found
    → AllByRecursion (λ (case : Bool × Refusal). case.0 ≡ false) (segment_refusals s h renderer b segment (length bytes) found)
    → ArrivalFits s h b (record { segment = segment; bytes = bytes })
segment_fits s h renderer b segment bytes None at tests = absurd (false_true (sym tests.0))
segment_fits s h renderer b segment bytes (Some build) at tests =
    let low = leb-false (length (spans s.limits build)) segment tests.1.0 in
    let there = get_there (spans s.limits build) segment low in
    let right : length bytes ≡ (slice_index_or (spans s.limits build) segment (0, 0)).1 =
    eqb-true (length bytes) (slice_index_or (spans s.limits build) segment (0, 0)).1
    (not_false (length bytes == (slice_index_or (spans s.limits build) segment (0, 0)).1) tests.1.1.1.0) in
    let same : slice_index_or (spans s.limits build) segment (0, 0) ≡ there.0 = get_or_from_slice_get (spans s.limits build) segment (there.0) (0, 0) there.1 in
    record { build = build; found = at; span = there.0; spans_it = there.1; whole = right ∙ ap (λ (span : ℕ × ℕ). span.1) same }

pub arrivals_fit : (s : Session) (h : History) → IsCaused s h → (b : ℕ) → AllByRecursion (ArrivalFits s h b) (arrivals h b)
arrivals_fit s start caused b = tt
arrivals_fit s (heard h event answer) caused b = go event caused.0.passes (arrivals_fit s h caused.1 b)
    (λ line list. fits_grown s h (heard h line answer) b list (grown_heard s h line answer))
  where
    go : (line : Event) → refusal s h line ≡ None → AllByRecursion (ArrivalFits s h b) (arrivals h b)
        → ((line : Event) (list : List Arrival) → AllByRecursion (ArrivalFits s h b) list → AllByRecursion (ArrivalFits s (heard h line answer) b) list)
        → AllByRecursion (ArrivalFits s (heard h line answer) b) (arrivals (heard h line answer) b)
    go (events.Segment renderer name segment bytes) passes before grow = pick (name == b) refl
      where
        pick : (c : Bool) → (name == b) ≡ c → AllByRecursion (ArrivalFits s (heard h (events.Segment renderer name segment bytes) answer) b)
            (cond c (arrivals h b ++ record { segment = segment; bytes = bytes } ∷ []) (arrivals h b))
        pick false at = grow (events.Segment renderer name segment bytes) (arrivals h b) before
        pick true at =
            let same : name ≡ b = eqb-true name b at in
            let one = segment_fits s h renderer name segment bytes (build_in (builds (page_limit s) h) name) refl
            (tests_fail s h (events.Segment renderer name segment bytes) passes).1 in
            let here : ArrivalFits s h b (record { segment = segment; bytes = bytes }) =
            subst (λ (n : ℕ). ArrivalFits s h n (record { segment = segment; bytes = bytes })) same one in
            grow (events.Segment renderer name segment bytes) (arrivals h b ++ record { segment = segment; bytes = bytes } ∷ [])
            (all_more (ArrivalFits s h b) (arrivals h b) (record { segment = segment; bytes = bytes }) before here)
    go line passes before grow = subst (λ (xs : List Arrival). AllByRecursion (ArrivalFits s (heard h line answer) b) xs) refl (grow line (arrivals h b) before)
arrivals_fit s (refused h event why) caused b = fits_grown s h (refused h event why) b (arrivals h b)
    (record {
      grants = λ name e. e;
      more = [];
      blobs = sym (append-nil (builds (page_limit s) h));
      came = λ name. [];
      segments = λ name. sym
          (append-nil (arrivals h name));
    }) (arrivals_fit s h caused.2 b)
arrivals_fit s (said h answer) caused b = fits_grown s h (said h answer) b (arrivals h b) (grown_said s h answer) (arrivals_fit s h caused.1 b)

-- ---- a done blob has all its segments

pub record HasEnded (s : Session) (h : History) (name : ℕ) : Type 0 where
  pub build : Build
  pub found : build_in (builds (page_limit s) h) name ≡ Some build
  pub came : (k : ℕ) → k < length (spans s.limits build) → has_come (arrivals h name) k ≡ true

ended_grown : (s : Session) (h g : History) (name : ℕ) → Grown s h g → HasEnded s h name → HasEnded s g name
ended_grown s h g name grown one = record {
  build = one.build;
  found = built_grown s h g name one.build grown one.found;
  came = λ k low. came_grown s h g name k
      grown (one.came k low);
}

-- where no segment is missing each came
none_missing : (came : List Arrival) (from count k : ℕ) → (length (filter (λ (segment : ℕ). not (has_come came segment)) (range_with_len from count)) == 0)
    ≡ true → from ≤ k → k < from + count → has_come came k ≡ true
none_missing came from zero k e low high = absurd (omega (arith, low, high))
none_missing came from (suc count) k e low high = go (has_come came from) refl e (λ f above. none_missing came (from + 1) count k f above (omega (arith, high)))
  where
    go : (b : Bool) → has_come came from ≡ b
        → (length (cond (not b) (from ∷ filter (λ (segment : ℕ). not (has_come came segment)) (range_with_len (from + 1) count))
        (filter (λ (segment : ℕ). not (has_come came segment)) (range_with_len (from + 1) count))) == 0) ≡ true
        → ((length (filter (λ (segment : ℕ). not (has_come came segment)) (range_with_len (from + 1) count)) == 0) ≡ true → from + 1 ≤ k → has_come came k
        ≡ true) → has_come came k ≡ true
    go false at f rest = let none = eqb-true (length (from ∷ filter (λ (segment : ℕ). not (has_come came segment)) (range_with_len (from + 1) count))) 0 f in
        absurd (omega (arith, none))
    go true at f rest = pick (from == k) refl
      where
        pick : (c : Bool) → (from == k) ≡ c → has_come came k ≡ true
        pick true same = subst (λ (n : ℕ). has_come came n ≡ true) (eqb-true from k same) at
        pick false other =
            let differs : from ≡ k → ⊥ = λ same. false_true (sym other ∙ eq-eqb from k same) in
            rest f (omega (arith, low))

not_both : (status : Status) → is_broken_status status ≡ true → is_done_status status ≡ false
not_both statuses.InvalidArguments e = refl
not_both statuses.OutOfMemory e = refl
not_both statuses.FileWriteFailed e = refl
not_both statuses.SourceDied e = refl
not_both statuses.ReferencedBlobBroken e = refl
not_both statuses.ReferencedFileUnavailable e = refl
not_both status e = absurd (false_true e)

-- who is done after such an answer was done before
still_done : (b : Bool) (status : Status) (before : Option Status) → is_done_status status ≡ false → option_map_or is_done_status (cond b (Some status) before)
    false ≡ true → option_map_or is_done_status before false ≡ true
still_done true status before e f = absurd (false_true (sym e ∙ f))
still_done false status before e f = f

pub idle_ends : (answer : Answer) (name : ℕ) (before : Option Status) → is_idle answer ≡ true → ended_after answer name before ≡ before
idle_ends (answers.Done b) name before e = absurd (false_true e)
idle_ends (answers.Broken b status) name before e = absurd (false_true e)
idle_ends (answers.Dropped b) name before e = absurd (false_true e)
idle_ends answer name before e = refl

pub reply_ends : (answer : Answer) (name : ℕ) (before : Option Status) → is_reply answer ≡ true → ended_after answer name before ≡ before
reply_ends (answers.Done b) name before e = absurd (false_true e)
reply_ends (answers.Broken b status) name before e = absurd (false_true e)
reply_ends (answers.Dropped b) name before e = absurd (false_true e)
reply_ends answer name before e = refl

-- nobody gets done by a line's first answer
abbrev IsDoneAs : Option Status → Type 0
IsDoneAs status = option_map_or is_done_status status false ≡ true

done_first : (s : Session) (h : History) (event : Event) (answer : Answer) (rest : List Answer) (name : ℕ) → OwnCase s h event (answer ∷ rest)
    → IsDoneAs (ended_after answer name (ended h name)) → is_done h name ≡ true
done_first s h event answer rest name (idle one e free) f = subst IsDoneAs
    (ap (λ (a : Answer). ended_after a name (ended h name)) (same_first answer one rest [] e) ∙ idle_ends one name (ended h name) free) f
done_first s h event answer rest name (breaks b status broken building e) f =
    still_done (b == name) status (ended h name) (not_both status broken)
    (subst IsDoneAs (ap (λ (a : Answer). ended_after a name (ended h name)) (same_first answer _ rest [] e)) f)
done_first s h event answer rest name (stores renderer b segment bytes n same at e) f =
    subst IsDoneAs (ap (λ (a : Answer). ended_after a name (ended h name)) (same_first answer _ rest _ e)) f
done_first s h event answer rest name (unstores renderer b segment bytes n same at e) f =
    subst IsDoneAs (ap (λ (a : Answer). ended_after a name (ended h name)) (same_first answer _ rest _ e)) f
done_first s h event answer rest name (replies job one same e reply done) f =
    subst IsDoneAs (ap (λ (a : Answer). ended_after a name (ended h name)) (same_first answer one rest [] e) ∙ reply_ends one name (ended h name) reply) f
done_first s h event answer rest name (loses job same e) f = subst IsDoneAs
    (ap (λ (a : Answer). ended_after a name (ended h name)) (same_first answer _ rest [] e)) f

-- a further answer gets a complete blob done, or none
done_second : (s : Session) (h : History) (answer : Answer) (name : ℕ) → IsFurther s h answer → IsDoneAs (ended_after answer name (ended h name))
    → (is_done h name ≡ true) ⊎ ((build : Build) × (build_in (builds (page_limit s) h) name ≡ Some build) × (has_all s.limits h build ≡ true)
    × (build.name ≡ name))
done_second s h answer name (by_store g renderer b segment bytes n same passes at e) f =
    inl (subst IsDoneAs (ap (λ (a : Answer). ended_after a name (ended h name)) e) f)
done_second s h answer name (by_unstore g renderer b segment bytes n same passes at e) f =
    inl (subst IsDoneAs (ap (λ (a : Answer). ended_after a name (ended h name)) e) f)
done_second s h answer name (by_drop build found begun unrooted e) f =
    inl (still_done (build.name == name) statuses.Dereferenced (ended h name) refl
    (subst IsDoneAs (ap (λ (a : Answer). ended_after a name (ended h name)) e) f))
done_second s h answer name (by_break build found begun status broken e) f =
    inl (still_done (build.name == name) status (ended h name) (not_both status broken)
    (subst IsDoneAs (ap (λ (a : Answer). ended_after a name (ended h name)) e) f))
done_second s h answer name (by_done build found begun complete e) f =
    go (build.name == name) refl (subst IsDoneAs (ap (λ (a : Answer). ended_after a name (ended h name)) e) f)
  where
    go : (b : Bool) → (build.name == name) ≡ b → IsDoneAs (cond b (Some statuses.Done) (ended h name))
        → (is_done h name ≡ true) ⊎ ((each : Build) × (build_in (builds (page_limit s) h) name ≡ Some each) × (has_all s.limits h each ≡ true)
        × (each.name ≡ name))
    go false at g = inl g
    go true at g =
        let same : build.name ≡ name = eqb-true build.name name at in
        let first = and_parts (is_granted h build && has_all s.limits h build) (has_sources h build) complete in
        let second = and_parts (is_granted h build) (has_all s.limits h build) first.0 in
        inr (build, subst (λ (n : ℕ). build_in (builds (page_limit s) h) n ≡ Some build) same found, second.1, same)
done_second s h answer name (by_removal number written left (inl e)) f = inl (subst IsDoneAs (ap (λ (a : Answer). ended_after a name (ended h name)) e) f)
done_second s h answer name (by_removal number written left (inr e)) f = inl (subst IsDoneAs (ap (λ (a : Answer). ended_after a name (ended h name)) e) f)
done_second s h answer name (by_grant build found e) f = inl (subst IsDoneAs (ap (λ (a : Answer). ended_after a name (ended h name)) e) f)
done_second s h answer name (by_page_job number more may chosen e) f = inl (subst IsDoneAs (ap (λ (a : Answer). ended_after a name (ended h name)) e) f)
done_second s h answer name (by_compaction file may found e) f = inl (subst IsDoneAs (ap (λ (a : Answer). ended_after a name (ended h name)) e) f)

pub done_came : (s : Session) (h : History) → IsCaused s h → (name : ℕ) → is_done h name ≡ true → HasEnded s h name
done_came s start caused name e = absurd (false_true e)
done_came s (heard h event answer) caused name e =
    ended_grown s h (heard h event answer) name (grown_heard s h event answer)
    (done_came s h caused.1 name (done_first s h event answer caused.0.rest name (own_case s h event (answer ∷ caused.0.rest) caused.0.own) e))
done_came s (refused h event why) caused name e = let before = done_came s h caused.2 name e in
    record { build = before.build; found = before.found; came = before.came }
done_came s (said h answer) caused name e =
    ended_grown s h (said h answer) name (grown_said s h answer) (go (done_second s h answer name caused.0 e) (done_came s h caused.1 name))
  where
    go : (is_done h name ≡ true) ⊎ ((build : Build) × (build_in (builds (page_limit s) h) name ≡ Some build) × (has_all s.limits h build ≡ true)
        × (build.name ≡ name)) → (is_done h name ≡ true → HasEnded s h name) → HasEnded s h name
    go (inl before) rest = rest before
    go (inr one) rest = record {
      build = one.0;
      found = one.1;
      came =
          λ k low.
          none_missing (arrivals h name) 0 (length (spans s.limits one.0)) k
          (subst (λ (n : ℕ). (length (filter (λ (segment : ℕ). not (has_come (arrivals h n) segment)) (range_with_len 0 (length (spans s.limits one.0))))
          == 0) ≡ true) one.3 one.2)
          (omega arith) (omega (arith, low));
    }
