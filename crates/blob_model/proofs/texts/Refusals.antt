-- A refusal of a line that has a spelling has a text.
use Rattle.std.proofs.Common.{◌≡◌, ℕ, ◌≤◌, ◌<◌, ◌==◌, ◌^◌, Bool, List, [], ◌∷◌, length, refl, ap, sym, ◌∙◌, arith, Option, Some, None}
use Rattle.std.specs.Prelude.{slice_get, slice_index_or, unwrap_or, IfSome}
use Rattle.std.specs.Option.{option_map_or}
use Rattle.std.specs.List.{AllByRecursion}
use Rattle.std.proofs.lemmas.Option.{unwrap_or-slice_get}
use Rattle.std.proofs.lemmas.List.Sums.{sum_by-cons}
use Rattle.blob_words.specs.declared.number.RendererId.{RendererId}
use Rattle.blob_words.specs.declared.number.ReaderId.{ReaderId}
use Rattle.blob_words.specs.declared.plan.Plan.{Plan}
use Rattle.blob_words.specs.declared.plan.Plan.TheVariants as plans
use Rattle.session_script.specs.Line.{HasSpelling, PartHasText}
use Rattle.session_script.specs.declared.event.Event.{Event}
use Rattle.session_script.specs.declared.event.Event.TheVariants as events
use Rattle.session_script.specs.declared.event.Part.{Part}
use Rattle.session_script.specs.declared.event.Part.TheVariants.{Embedded, Asked, FileRange, BlobRange, HandleRange}
use Rattle.answer_text.specs.Text.{RefusalHasText}
use Rattle.answer_text.specs.declared.refusal.Refusal.{Refusal}
use Rattle.transport_plan.specs.Spans.{IsEndToEnd, segment_spans}
use Rattle.transport_plan.proofs.PlanSpans.{cover_plan}
use Rattle.blob_model.specs.Session.{Session, page_limit}
use Rattle.blob_model.specs.History.{History}
use Rattle.blob_model.specs.Recorded.{last_stamp}
use Rattle.blob_model.specs.Parts.{part_length, parts_length, own_lengths, own_bytes, claims}
use Rattle.blob_model.specs.Builds.{Build, builds, build_in, size, size_in, planned_size}
use Rattle.blob_model.specs.Transport.{spans}
use Rattle.blob_model.specs.Entries.{Entry, resolved}
use Rattle.blob_model.specs.Refusals.{refusal, refusals_of, slot_refusals, claimed, reader_refusals, fetch_refusals, segment_refusals}
use Rattle.blob_model.proofs.Lists.{all_append, found_all}
use Rattle.blob_model.proofs.settled.Endings.{some_that}
use Rattle.blob_model.proofs.legal.Causes.{IsCaused}
use Rattle.blob_model.proofs.builds.Plans.{FitsParts, IsPlanned, all_planned}
use Rattle.blob_model.proofs.bytes.Sent.{span_between}
use Rattle.blob_model.proofs.texts.Ranges.{IsSpelt, stamps_low}

-- ---- sizes

-- own bytes are some of the bytes
own_within : (parts : List Part) → own_bytes parts ≤ parts_length parts
own_within [] = omega arith
own_within (Embedded bytes ∷ parts) =
    let rest = own_within parts in
    let left = sum_by-cons (λ (x : ℕ). x) (length bytes) (own_lengths parts) in
    let right = sum_by-cons part_length (Embedded bytes) parts in
    omega (arith, rest, left, right)
own_within (Asked len ∷ parts) =
    let rest = own_within parts in
    let left = sum_by-cons (λ (x : ℕ). x) len (own_lengths parts) in
    let right = sum_by-cons part_length (Asked len) parts in
    omega (arith, rest, left, right)
own_within (FileRange name off len stamp ∷ parts) = let rest = own_within parts in let right = sum_by-cons part_length (FileRange name off len stamp) parts in
    omega (arith, rest, right)
own_within (BlobRange b off len ∷ parts) = let rest = own_within parts in let right = sum_by-cons part_length (BlobRange b off len) parts in
    omega (arith, rest, right)
own_within (HandleRange k off len ∷ parts) = let rest = own_within parts in let right = sum_by-cons part_length (HandleRange k off len) parts in
    omega (arith, rest, right)

size_low : (s : Session) (build : Build) → IsPlanned s build → size build ≤ 2 ^ 62
size_low s build planned = go build.plan planned
  where
    go : (plan : Option Plan) → IfSome plan (λ (each : Plan). FitsParts s build.parts each × (parts_length build.parts ≤ 2 ^ 62))
        → planned_size plan build.parts ≤ 2 ^ 62
    go None one = omega arith
    go (Some plan) one = one.1

-- the size of each blob
pub sizes_low : (s : Session) (h : History) (name : ℕ) → IsCaused s h → size_in (builds (page_limit s) h) name < 2 ^ 64
sizes_low s h name caused = go (build_in (builds (page_limit s) h) name) refl
  where
    go : (found : Option Build) → build_in (builds (page_limit s) h) name ≡ found → option_map_or size found 0 < 2 ^ 64
    go None at = omega arith
    go (Some build) at =
        let low = size_low s build (found_all (IsPlanned s) (λ (each : Build). each.name == name) (builds (page_limit s) h) build (all_planned s h caused) at)
        in
        omega (arith, low)

-- few segments, and short ones
record FewSpans (list : List (ℕ × ℕ)) : Type 0 where
  few : length list ≤ 65536
  short : (k : ℕ) (span : ℕ × ℕ) → slice_get list k ≡ Some span → span.1 ≤ 2 ^ 62

spans_few : (s : Session) (build : Build) → IsPlanned s build → FewSpans (spans s.limits build)
spans_few s build planned = go build.plan planned
  where
    none : FewSpans []
    none = record { few = omega arith; short = λ k span e. cc }

    cut : (plan : Plan) → (length (segment_spans (own_lengths build.parts) plan s.limits) ≤ 65536)
        → IsEndToEnd 0 (segment_spans (own_lengths build.parts) plan s.limits) (own_bytes build.parts) → parts_length build.parts ≤ 2 ^ 62
        → FewSpans (segment_spans (own_lengths build.parts) plan s.limits)
    cut plan few ends low = record {
      few = few;
      short =
          λ k span e.
          let within = (span_between 0 (own_bytes build.parts) (segment_spans (own_lengths build.parts) plan s.limits) k span ends e).1 in
          let own = own_within build.parts in
          omega (arith, within, own, low);
    }

    go : (plan : Option Plan) → IfSome plan (λ (each : Plan). FitsParts s build.parts each × (parts_length build.parts ≤ 2 ^ 62))
        → FewSpans (option_map_or (λ (each : Plan). segment_spans (own_lengths build.parts) each s.limits) plan [])
    go None one = none
    go (Some plans.None) one = none
    go (Some plans.Inline) one = none
    go (Some plans.OutOfMemory) one = none
    go (Some (plans.TooMany what)) one = none
    go (Some (plans.Shared n)) one =
        let cover = cover_plan (own_lengths build.parts) (plans.Shared n) s.limits one.0.0 in
        let count = cover.0 in
        let few = one.0.1 in
        cut (plans.Shared n) (omega (arith, count, few)) cover.1 one.1
    go (Some (plans.File n)) one =
        let cover = cover_plan (own_lengths build.parts) (plans.File n) s.limits one.0.0 in
        let count = cover.0 in
        let few = one.0.1 in
        cut (plans.File n) (omega (arith, count, few)) cover.1 one.1

-- the length of the span at a place
span_low : (list : List (ℕ × ℕ)) (k : ℕ) → FewSpans list → (slice_index_or list k (0, 0)).1 < 2 ^ 64
span_low list k few = go (slice_get list k) refl
  where
    go : (found : Option (ℕ × ℕ)) → slice_get list k ≡ found → (slice_index_or list k (0, 0)).1 < 2 ^ 64
    go None at =
        let same : slice_index_or list k (0, 0) ≡ (0, 0) = sym (unwrap_or-slice_get list k (0, 0)) ∙ ap (λ (o : Option (ℕ × ℕ)). unwrap_or o (0, 0)) at in
        let none : (slice_index_or list k (0, 0)).1 ≡ 0 = ap (λ (span : ℕ × ℕ). span.1) same in
        omega (arith, none)
    go (Some span) at =
        let same : slice_index_or list k (0, 0) ≡ span = sym (unwrap_or-slice_get list k (0, 0)) ∙ ap (λ (o : Option (ℕ × ℕ)). unwrap_or o (0, 0)) at in
        let equal : (slice_index_or list k (0, 0)).1 ≡ span.1 = ap (λ (each : ℕ × ℕ). each.1) same in
        let low = few.short k span at in
        omega (arith, equal, low)

-- ---- the tests of a line

abbrev AllRefuse : List (Bool × Refusal) → Type 0
AllRefuse cases = AllByRecursion (λ (case : Bool × Refusal). RefusalHasText (case.1)) cases

slots_refuse : (s : Session) (taken list : List ℕ) → AllByRecursion (λ (slot : ℕ). slot < 2 ^ 32) list → AllRefuse (slot_refusals s taken list)
slots_refuse s taken [] all = tt
slots_refuse s taken (slot ∷ list) all = (all.0, (all.0, slots_refuse s (slot ∷ taken) list all.1))

claims_low : (parts : List Part) → AllByRecursion PartHasText parts → AllByRecursion (λ (slot : ℕ). slot < 2 ^ 32) (claims parts)
claims_low [] all = tt
claims_low (Embedded bytes ∷ parts) all = claims_low parts all.1
claims_low (Asked len ∷ parts) all = claims_low parts all.1
claims_low (FileRange name off len stamp ∷ parts) all = claims_low parts all.1
claims_low (BlobRange b off len ∷ parts) all = claims_low parts all.1
claims_low (HandleRange k off len ∷ parts) all = (all.0.0, claims_low parts all.1)

segment_refuse : (s : Session) (h : History) (renderer : RendererId) (b segment len : ℕ) (found : Option Build) → b < 2 ^ 128 → segment < 2 ^ 32
    → ((build : Build) → found ≡ Some build → IsPlanned s build) → AllRefuse (segment_refusals s h renderer b segment len found)
segment_refuse s h renderer b segment len None name low planned = (name, tt)
segment_refuse s h renderer b segment len (Some build) name low planned =
    let few = spans_few s build (planned build refl) in
    let count = few.few in
    (name, (omega (arith, count), (low, (span_low (spans s.limits build) segment few, tt))))

reader_refuse : (s : Session) (h : History) (reader : ReaderId) (b off : ℕ) (len : Option ℕ) → IsCaused s h → reader.0 < 2 ^ 32
    → AllRefuse (reader_refusals s h reader b off len)
reader_refuse s h reader b off len caused low = (low, (sizes_low s h b caused, (tt, tt)))

fetch_refuse : (s : Session) (h : History) (reader : ReaderId) (found : Option Entry) (off : ℕ) (len : Option ℕ) → IsCaused s h → reader.0 < 2 ^ 32
    → AllRefuse (fetch_refusals s h reader found off len)
fetch_refuse s h reader None off len caused low = (tt, tt)
fetch_refuse s h reader (Some entry) off len caused low = reader_refuse s h reader entry.blob off len caused low

last_low : (found : Option ℕ) → IfSome found (λ (stamp : ℕ). stamp < 2 ^ 64) → unwrap_or found 0 < 2 ^ 64
last_low None low = omega arith
last_low (Some stamp) low = low

all_refuse : (s : Session) (h : History) (event : Event) → IsCaused s h → IsSpelt h → HasSpelling event → AllRefuse (refusals_of s h event)
all_refuse s h (events.Limits limits) caused spelt line = (tt, tt)
all_refuse s h (events.Limits2 limits) caused spelt line = (tt, tt)
all_refuse s h (events.Spawn renderer origin) caused spelt line = (line.0, (tt, tt))
all_refuse s h (events.Die renderer) caused spelt line = (line, tt)
all_refuse s h (events.File name stamp bytes) caused spelt line = (last_low (last_stamp h name) (stamps_low h name spelt), (tt, tt))
all_refuse s h (events.Gone name) caused spelt line = (tt, tt)
all_refuse s h (events.Build renderer name kind parts) caused spelt line = (
  line.0,
  (
    line.1,
    all_append (λ (case : Bool × Refusal). RefusalHasText (case.1)) (slot_refusals s (claimed s h) (claims parts)) _
        (slots_refuse s (claimed s h) (claims parts) (claims_low parts line.4)) (tt, (tt, (tt, (tt, tt)))),
  ),
)
all_refuse s h (events.Slice renderer name source from to kind) caused spelt line = (line.0, (line.1, ((line.0, line.2), (tt, (tt, tt)))))
all_refuse s h (events.Segment renderer b segment bytes) caused spelt line = (
  line.0,
  segment_refuse s h renderer b segment (length bytes) (build_in (builds (page_limit s) h) b) line.1 line.2
      (λ build found. found_all (IsPlanned s) (λ (each : Build). each.name == b) (builds (page_limit s) h) build (all_planned s h caused) found),
)
all_refuse s h (events.Pass renderer to b) caused spelt line = (line.0, (line.1, ((line.0, line.2), tt)))
all_refuse s h (events.Drop renderer b) caused spelt line = (line.0, ((line.0, line.1), tt))
all_refuse s h (events.Stat renderer b) caused spelt line = (line.0, ((line.0, line.1), tt))
all_refuse s h (events.Url renderer b text) caused spelt line = (line.0, ((line.0, line.1), (tt, (tt, (tt, tt)))))
all_refuse s h (events.Revoke renderer text) caused spelt line = (line.0, tt)
all_refuse s h (events.Read renderer reader b off len) caused spelt line = (line.0, ((line.0, line.2), reader_refuse s h reader b off len caused line.1))
all_refuse s h (events.Fetch renderer reader text off len) caused spelt line =
    (line.0, fetch_refuse s h reader (resolved h renderer.0 text) off len caused line.1)
all_refuse s h (events.Step reader) caused spelt line = (line, tt)
all_refuse s h (events.Cancel renderer reader) caused spelt line = (line.0, (line.1, tt))
all_refuse s h (events.Disk job) caused spelt line = (line, tt)
all_refuse s h (events.Lost job) caused spelt line = (line, tt)
all_refuse s h events.Count caused spelt line = tt
all_refuse s h events.Finish caused spelt line = tt

pub refusal_text : (s : Session) (h : History) (event : Event) (why : Refusal) → IsCaused s h → IsSpelt h → HasSpelling event → refusal s h event ≡ Some why
    → RefusalHasText why
refusal_text s h event why caused spelt line e = some_that RefusalHasText (refusals_of s h event) why (all_refuse s h event caused spelt line) e
