-- Where pieces and segments stand in the own bytes of a blob. A span is a start and a length. Own.
use Rattle.std.specs.Prelude.{ℕ, ◌+◌, ◌-◌, ◌*◌, ◌<◌, ◌≡◌, List, [], ◌∷◌, ◌++◌, length, map, min, sum, sum_by}
use Rattle.std.specs.List.{range_with_len}
use Rattle.std.specs.Int.{div_ceil}
use Rattle.blob_words.specs.declared.limits.Limits.{Limits}
use Rattle.blob_words.specs.declared.plan.Plan.{Plan}
use Rattle.blob_words.specs.declared.plan.Plan.TheVariants.{None, Inline, Shared, File, OutOfMemory, TooMany}

-- the k-th of the spans into which `len` bytes are cut at the multiples of `size`
abbrev pub span_at : ℕ → ℕ → ℕ → ℕ × ℕ
span_at size len k = (k * size, min size (len - k * size))

-- all of them, where the bytes begin at the place `from`
abbrev pub cut_spans : ℕ → ℕ → ℕ → List (ℕ × ℕ)
cut_spans size from len = map (λ (k : ℕ). (from + (span_at size len k).0, (span_at size len k).1)) (range_with_len 0 (div_ceil len size))

-- the pieces of the parts, which stand one after the other from the place `from` on: each part is cut from its own start
abbrev pub piece_spans : ℕ → ℕ → List ℕ → List (ℕ × ℕ)
piece_spans page from [] = []
piece_spans page from (len ∷ parts) = cut_spans page from len ++ piece_spans page (from + len) parts

-- the number of pieces of the parts
abbrev pub piece_count : ℕ → List ℕ → ℕ
piece_count page parts = sum_by (λ (len : ℕ). div_ceil len page) parts

-- the segments of a plan: a file plan has one per piece, a shared plan cuts all own bytes
abbrev pub segment_spans : List ℕ → Plan → Limits → List (ℕ × ℕ)
segment_spans parts (Shared n) l = cut_spans l.segment 0 (sum parts)
segment_spans parts (File n) l = piece_spans l.page 0 parts
segment_spans parts None l = []
segment_spans parts Inline l = []
segment_spans parts OutOfMemory l = []
segment_spans parts (TooMany what) l = []

-- the plan is shared or file, and its number is that of the segments of these parts
abbrev pub IsPlanOf : List ℕ → Plan → Limits → Type 0
IsPlanOf parts (Shared n) l = n ≡ div_ceil (sum parts) l.segment
IsPlanOf parts (File n) l = n ≡ piece_count l.page parts
IsPlanOf parts None l = ⊥
IsPlanOf parts Inline l = ⊥
IsPlanOf parts OutOfMemory l = ⊥
IsPlanOf parts (TooMany what) l = ⊥

-- the number of segments of a plan
abbrev pub segments : Plan → ℕ
segments (Shared n) = n
segments (File n) = n
segments None = 0
segments Inline = 0
segments OutOfMemory = 0
segments (TooMany what) = 0

-- the spans stand end to end, from one place to another, and none is empty
abbrev pub IsEndToEnd : ℕ → List (ℕ × ℕ) → ℕ → Type 0
IsEndToEnd from [] to = from ≡ to
IsEndToEnd from (span ∷ spans) to = (span.0 ≡ from) × (0 < span.1) × IsEndToEnd (from + span.1) spans to

-- the segments of a plan are as many as it says and cover each own byte once: they stand end to end from 0, and their lengths sum to the own bytes
abbrev pub SpansCover : Type 0
SpansCover =
    (parts : List ℕ) (plan : Plan) (l : Limits) → IsPlanOf parts plan l →
    (length (segment_spans parts plan l) ≡ segments plan) × IsEndToEnd 0 (segment_spans parts plan l) (sum parts)
    × (sum_by (λ (span : ℕ × ℕ). span.1) (segment_spans parts plan l) ≡ sum parts)
