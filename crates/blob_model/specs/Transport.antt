-- What was sent for a blob, and what is missing. Own.
use Rattle.std.specs.Prelude.{ℕ, ◌+◌, ◌-◌, ◌==◌, ◌&&◌, Bool, not, List, [], ◌∷◌, ◌++◌, length, filter, find, nat_lt, nat_le, Option, None, Some, slice_get, if◌then◌else◌}
use Rattle.std.specs.Option.{option_map, option_map_or, option_and_then}
use Rattle.std.specs.List.{list_any, range_with_len}
use Rattle.session_script.specs.declared.event.Event.{Event}
use Rattle.session_script.specs.declared.event.Event.TheVariants as events
use Rattle.blob_words.specs.declared.limits.Limits.{Limits}
use Rattle.blob_words.specs.declared.plan.Plan.{Plan}
use Rattle.blob_words.specs.declared.plan.Plan.TheVariants as plans
use Rattle.transport_plan.specs.Spans.{segment_spans}
use Rattle.blob_model.specs.History.{History, start, heard, refused, said}
use Rattle.blob_model.specs.Parts.{own_lengths, embedded}
use Rattle.blob_model.specs.Builds.{Build}

-- a segment that came, with its bytes
pub record Arrival : Type 0 where
  pub segment : ℕ
  pub bytes : List ℕ

-- an accepted `data` line brings a segment
abbrev pub arrivals_after : Event → ℕ → List Arrival → List Arrival
arrivals_after (events.Segment renderer b segment bytes) name before = if b == name then before ++ record { segment = segment; bytes = bytes } ∷ [] else before
arrivals_after event name before = before

-- the segments of the blob that came, in the order in which they came
abbrev pub arrivals : History → ℕ → List Arrival
arrivals start name = []
arrivals (heard h event answer) name = arrivals_after event name (arrivals h name)
arrivals (refused h event why) name = arrivals h name
arrivals (said h answer) name = arrivals h name

-- the spans of the blob's segments in its own bytes
abbrev pub spans : Limits → Build → List (ℕ × ℕ)
spans l build = option_map_or (λ (plan : Plan). segment_spans (own_lengths build.parts) plan l) build.plan []

-- whether the segment came
abbrev pub has_come : List Arrival → ℕ → Bool
has_come came segment = list_any (λ (arrival : Arrival). arrival.segment == segment) came

-- the segments that did not come
abbrev pub missing : Limits → History → Build → List ℕ
missing l h build = filter (λ (segment : ℕ). not (has_come (arrivals h build.name) segment)) (range_with_len 0 (length (spans l build)))

-- whether none is missing
abbrev pub has_all : Limits → History → Build → Bool
has_all l h build = length (missing l h build) == 0

-- the bytes that a segment brought
abbrev pub brought : List Arrival → ℕ → Option (List ℕ)
brought came segment = option_map (λ (arrival : Arrival). arrival.bytes) (find (λ (arrival : Arrival). arrival.segment == segment) came)

-- whether the place is in the span
abbrev pub is_within : ℕ × ℕ → ℕ → Bool
is_within span index = nat_le span.0 index && nat_lt index (span.0 + span.1)

-- the byte at a place of the own bytes, as the segment with this place brought it; the segments count from `segment`
abbrev pub byte_from : List Arrival → ℕ → List (ℕ × ℕ) → ℕ → Option ℕ
byte_from came segment [] index = None
byte_from came segment (span ∷ more) index =
    if is_within span index then option_and_then (λ (bytes : List ℕ). slice_get bytes (index - span.0)) (brought came segment) else byte_from came (segment + 1)
    more index

-- the own byte of a blob at a place: an inline plan takes those that stand in the line, a shared or a file plan those of the segments
abbrev pub byte_by_plan : Limits → History → Build → ℕ → Option Plan → Option ℕ
byte_by_plan l h build index (Some plans.Inline) = slice_get (embedded build.parts) index
byte_by_plan l h build index plan = byte_from (arrivals h build.name) 0 (spans l build) index

abbrev pub sent_byte : Limits → History → Build → ℕ → Option ℕ
sent_byte l h build index = byte_by_plan l h build index build.plan
