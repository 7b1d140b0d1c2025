-- Each planned blob has a plan that its parts have, and a size of at most 2^62.
use Rattle.std.proofs.Common.{◌≡◌, ◌⊎◌, ℕ, ◌+◌, ◌≤◌, ◌==◌, ◌^◌, Bool, true, false, ◌&&◌, not, List, [], ◌∷◌, length, refl, ap, subst, sym, inl, inr, arith, Option, Some, None}
use Rattle.std.specs.Prelude.{cond, is_none, nat_lt, nat_le, IfSome}
use Rattle.std.specs.Int.{div_ceil}
use Rattle.std.specs.List.{AllByRecursion, list_any}
use Rattle.std.proofs.lemmas.Bool.{and_parts, or_parts, eqb-true, ltb-true, ltb-false}
use Rattle.blob_words.specs.declared.plan.Plan.{Plan}
use Rattle.blob_words.specs.declared.plan.Plan.TheVariants as plans
use Rattle.blob_words.specs.declared.counted.Counted.TheVariants as counted
use Rattle.blob_words.specs.declared.status.Status.{Status}
use Rattle.session_script.specs.declared.event.Event.{Event}
use Rattle.session_script.specs.declared.event.Event.TheVariants as events
use Rattle.session_script.specs.declared.event.Part.{Part}
use Rattle.answer_text.specs.declared.answer.Answer.{Answer}
use Rattle.answer_text.specs.declared.refusal.Refusal.{Refusal}
use Rattle.transport_plan.specs.Plan.{file_plan, shared_plan, has_file_room, fits_inline}
use Rattle.transport_plan.specs.Plan.{own_bytes as input_bytes}
use Rattle.transport_plan.specs.Spans.{piece_count}
use Rattle.blob_model.specs.Session.{Session, page_limit}
use Rattle.blob_model.specs.History.{History, start, heard, refused, said}
use Rattle.blob_model.specs.Parts.{parts_length, own_lengths, own_bytes, embedded, claims}
use Rattle.blob_model.specs.Builds.{Build, builds, plan_told, slice_parts}
use Rattle.blob_model.specs.Construct.{is_invalid, is_out_of_memory, line_tests, line_status, plan_for, plan_input, build_answer, build_answer_by}
use Rattle.blob_model.specs.Refusals.{slot_refusals, claimed, piece_total, is_many_segments}
use Rattle.blob_model.proofs.Lists.{all_more, append_second, false_true}
use Rattle.blob_model.proofs.builds.Cells.{none_applies}
use Rattle.blob_model.proofs.kept.NewBlobs.{tests_fail, new_build, embedded_within}
use Rattle.blob_model.proofs.legal.PageNumbers.{same_first}
use Rattle.blob_model.proofs.legal.Causes.{IsHeard, IsCaused}

-- the plan is one that these parts have
abbrev pub FitsParts : Session → List Part → Plan → Type 0
FitsParts s parts plans.None = own_bytes parts ≡ 0
FitsParts s parts plans.Inline = length (embedded parts) ≡ own_bytes parts
FitsParts s parts (plans.Shared n) = (n ≡ div_ceil (own_bytes parts) s.limits.segment) × (n ≤ 65536)
FitsParts s parts (plans.File n) = (n ≡ piece_count (page_limit s) (own_lengths parts)) × (n ≤ 65536)
FitsParts s parts plans.OutOfMemory = ⊥
FitsParts s parts (plans.TooMany what) = ⊥

-- the own bytes that the table of plans sees
same_bytes : (s : Session) (h : History) (parts : List Part) → input_bytes (plan_input s h parts) ≡ own_bytes parts
same_bytes s h parts = let within = embedded_within parts in omega (arith, within)

fits_file : (s : Session) (parts : List Part) → piece_count (page_limit s) (own_lengths parts) ≤ 65536
    → FitsParts s parts (file_plan (piece_count (page_limit s) (own_lengths parts)))
fits_file s parts few = go (nat_lt 65536 (piece_count (page_limit s) (own_lengths parts))) refl
  where
    go : (b : Bool) → nat_lt 65536 (piece_count (page_limit s) (own_lengths parts)) ≡ b
        → FitsParts s parts (cond b (plans.TooMany counted.Pieces) (plans.File (piece_count (page_limit s) (own_lengths parts))))
    go true at = let many = ltb-true 65536 (piece_count (page_limit s) (own_lengths parts)) at in absurd (omega (arith, many, few))
    go false at = (refl, few)

fits_shared : (s : Session) (parts : List Part) (count : ℕ) → count ≡ div_ceil (own_bytes parts) s.limits.segment → is_many_segments (shared_plan count) ≡ false
    → FitsParts s parts (shared_plan count)
fits_shared s parts count same few = go (nat_lt 65536 count) refl few
  where
    go : (b : Bool) → nat_lt 65536 count ≡ b → is_many_segments (cond b (plans.TooMany counted.Segments) (plans.Shared count)) ≡ false
        → FitsParts s parts (cond b (plans.TooMany counted.Segments) (plans.Shared count))
    go true at f = absurd (false_true (sym f))
    go false at f = (same, ltb-false 65536 count at)

pub plan_fits : (s : Session) (h : History) (parts : List Part) → is_out_of_memory (plan_for s h parts) ≡ false → is_many_segments (plan_for s h parts) ≡ false
    → piece_count (page_limit s) (own_lengths parts) ≤ 65536 → FitsParts s parts (plan_for s h parts)
plan_fits s h parts room segments few =
    let input = plan_input s h parts in
    go (input_bytes input == 0) refl (nat_lt s.limits.memory (input_bytes input) && not (has_file_room input))
    (nat_lt s.limits.big (input_bytes input) && has_file_room input) (fits_inline input) refl room segments
  where
    go : (a : Bool) → (input_bytes (plan_input s h parts) == 0) ≡ a → (b c d : Bool) → fits_inline (plan_input s h parts) ≡ d
        → is_out_of_memory
        (cond a plans.None
        (cond b plans.OutOfMemory (cond c (file_plan (piece_count (page_limit s) (own_lengths parts)))
        (cond d plans.Inline (shared_plan (div_ceil (input_bytes (plan_input s h parts)) s.limits.segment)))))) ≡ false
        → is_many_segments
        (cond a plans.None
        (cond b plans.OutOfMemory (cond c (file_plan (piece_count (page_limit s) (own_lengths parts)))
        (cond d plans.Inline (shared_plan (div_ceil (input_bytes (plan_input s h parts)) s.limits.segment)))))) ≡ false
        → FitsParts s parts
        (cond a plans.None
        (cond b plans.OutOfMemory (cond c (file_plan (piece_count (page_limit s) (own_lengths parts)))
        (cond d plans.Inline (shared_plan (div_ceil (input_bytes (plan_input s h parts)) s.limits.segment))))))
    go true at b c d inline f g = let none = eqb-true (input_bytes (plan_input s h parts)) 0 at in let same = same_bytes s h parts in omega (arith, none, same)
    go false at true c d inline f g = absurd (false_true (sym f))
    go false at false true d inline f g = fits_file s parts few
    go false at false false true inline f g =
        let input = plan_input s h parts in
        let three = and_parts ((input.asked == 0) && nat_le (input_bytes input) input.limits.inline_max && not input.waiting)
        (nat_le (input.memory_used + input_bytes input) input.limits.memory) inline in
        let two = and_parts ((input.asked == 0) && nat_le (input_bytes input) input.limits.inline_max) (not input.waiting) three.0 in
        let one = and_parts (input.asked == 0) (nat_le (input_bytes input) input.limits.inline_max) two.0 in
        let none = eqb-true input.asked 0 one.0 in
        let within = embedded_within parts in
        omega (arith, none, within)
    go false at false false false inline f g = fits_shared s parts (div_ceil (input_bytes (plan_input s h parts)) s.limits.segment)
        (ap (λ (n : ℕ). div_ceil n s.limits.segment) (same_bytes s h parts)) g

-- ---- all blobs

-- a planned blob: its plan, and its size
abbrev pub IsPlanned : Session → Build → Type 0
IsPlanned s build = IfSome build.plan (λ (plan : Plan). FitsParts s build.parts plan × (parts_length build.parts ≤ 2 ^ 62))

new_planned : (s : Session) (h : History) (renderer name : ℕ) (kind : List ℕ) (parts : List Part)
    → (is_none (line_status s h renderer name parts) ≡ true → is_out_of_memory (plan_for s h parts) ≡ false → FitsParts s parts (plan_for s h parts))
    → IsPlanned s (new_build s h renderer name kind parts)
new_planned s h renderer name kind parts fits = go (line_status s h renderer name parts) refl
  where
    go : (status : Option Status) → line_status s h renderer name parts ≡ status
        → IfSome (plan_told (build_answer_by s h name parts status)) (λ (plan : Plan). FitsParts s parts plan × (parts_length parts ≤ 2 ^ 62))
    go (Some status) at = tt
    go None at =
        let tests = none_applies (line_tests s h renderer name parts) at in
        let short = (or_parts (list_any (is_invalid s h renderer name) parts) (nat_lt (2 ^ 62) (parts_length parts)) tests.0).1 in
        (fits (ap (λ (o : Option Status). is_none o) at) tests.1.1.1.0, ltb-false (2 ^ 62) (parts_length parts) short)

none_known : (b c : Bool) → b ≡ true → (b && c) ≡ false → c ≡ false
none_known true c e f = f
none_known false c e f = absurd (false_true e)

planned_heard : (s : Session) (h : History) (event : Event) (answer : Answer) → IsHeard s h event answer → AllByRecursion (IsPlanned s)
    (builds (page_limit s) h) → AllByRecursion (IsPlanned s) (builds (page_limit s) (heard h event answer))
planned_heard s h (events.Build renderer name kind parts) answer line before = go line.own
  where
    go : ((answer ∷ line.rest) ≡ build_answer s h renderer.0 name parts ∷ []) ⊎ ⊥ → AllByRecursion (IsPlanned s)
        (builds (page_limit s) (heard h (events.Build renderer name kind parts) answer))
    go (inr never) = absurd never
    go (inl e) =
        let tests = append_second (λ (case : Bool × Refusal). case.0 ≡ false) (slot_refusals s (claimed s h) (claims parts)) _
        (tests_fail s h (events.Build renderer name kind parts) line.passes).1.1 in
        subst (λ (a : Answer). AllByRecursion (IsPlanned s) (builds (page_limit s) (heard h (events.Build renderer name kind parts) a)))
        (sym (same_first answer _ line.rest [] e))
        (all_more (IsPlanned s) (builds (page_limit s) h) (new_build s h renderer.0 name kind parts) before
        (new_planned s h renderer.0 name kind parts
        (λ stands room.
        let total = ltb-false 65536 (piece_total s h + piece_count (page_limit s) (own_lengths parts))
        (none_known (is_none (line_status s h renderer.0 name parts)) _ stands tests.1.1.0) in
        plan_fits s h parts room (none_known (is_none (line_status s h renderer.0 name parts)) _ stands tests.1.0) (omega (arith, total)))))
planned_heard s h (events.Slice renderer name source from to kind) answer line before = go line.own
  where
    go : ((answer ∷ line.rest) ≡ build_answer s h renderer.0 name (slice_parts (builds (page_limit s) h) source from to) ∷ []) ⊎ ⊥
        → AllByRecursion (IsPlanned s) (builds (page_limit s) (heard h (events.Slice renderer name source from to kind) answer))
    go (inr never) = absurd never
    go (inl e) =
        subst (λ (a : Answer). AllByRecursion (IsPlanned s) (builds (page_limit s) (heard h (events.Slice renderer name source from to kind) a)))
        (sym (same_first answer _ line.rest [] e))
        (all_more (IsPlanned s) (builds (page_limit s) h) (new_build s h renderer.0 name kind (slice_parts (builds (page_limit s) h) source from to)) before
        (new_planned s h renderer.0 name kind (slice_parts (builds (page_limit s) h) source from to) (λ stands room. refl)))
planned_heard s h event answer line before = before

pub all_planned : (s : Session) (h : History) → IsCaused s h → AllByRecursion (IsPlanned s) (builds (page_limit s) h)
all_planned s start caused = tt
all_planned s (heard h event answer) caused = planned_heard s h event answer caused.0 (all_planned s h caused.1)
all_planned s (refused h event why) caused = all_planned s h caused.2
all_planned s (said h answer) caused = all_planned s h caused.1
