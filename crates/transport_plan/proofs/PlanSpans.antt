-- By the two plans that have segments: one cut of all bytes, and the cuts of the parts.
use Rattle.std.proofs.Common.{◌≡◌, ℕ, ◌+◌, List, sum, length, sum_by, sym, ◌∙◌, arith}
use Rattle.blob_words.specs.declared.limits.Limits.{Limits}
use Rattle.blob_words.specs.declared.plan.Plan.{Plan}
use Rattle.blob_words.specs.declared.plan.Plan.TheVariants.{None, Inline, Shared, File, OutOfMemory, TooMany}
use Rattle.transport_plan.specs.Spans.{cut_spans, piece_spans, segment_spans, segments, IsPlanOf, IsEndToEnd}
use Rattle.transport_plan.proofs.SpanLemmas.{cut_cover, pieces_cover, cover_sum, cut_length, pieces_length}

pub cover_plan : (parts : List ℕ) (plan : Plan) (l : Limits) → IsPlanOf parts plan l
    → (length (segment_spans parts plan l) ≡ segments plan) × IsEndToEnd 0 (segment_spans parts plan l) (sum parts)
    × (sum_by (λ (span : ℕ × ℕ). span.1) (segment_spans parts plan l) ≡ sum parts)
cover_plan parts (Shared n) l number =
    let cover : IsEndToEnd 0 (cut_spans l.segment 0 (sum parts)) (0 + sum parts) = cut_cover l.segment 0 (sum parts) l.some_segment in
    let zero : 0 + sum parts ≡ sum parts = omega arith in
    (cut_length l.segment 0 (sum parts) ∙ sym number, rw zero at cover, omega (arith, cover_sum _ _ _ cover))
cover_plan parts (File n) l number =
    let cover : IsEndToEnd 0 (piece_spans l.page 0 parts) (0 + sum parts) = pieces_cover l.page parts 0 l.some_page in
    let zero : 0 + sum parts ≡ sum parts = omega arith in
    (pieces_length l.page parts 0 ∙ sym number, rw zero at cover, omega (arith, cover_sum _ _ _ cover))
cover_plan parts None l number = absurd number
cover_plan parts Inline l number = absurd number
cover_plan parts OutOfMemory l number = absurd number
cover_plan parts (TooMany what) l number = absurd number
