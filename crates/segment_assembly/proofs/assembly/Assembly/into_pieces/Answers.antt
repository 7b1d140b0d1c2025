-- None is missing, so what was sent is the buffer.
use Rattle.std.proofs.Common.{◌≡◌, ℕ, ◌*◌, ◌≤◌, List, IfOk, length, map, count_by, sym, subst, ◌∙◌}
use Rattle.std.specs.Option.{is_none}
use Rattle.transport_plan.specs.Spans.{piece_spans}
use Rattle.transport_plan.proofs.SpanLemmas.{end_within}
use Rattle.segment_assembly.specs.Assembly.{AreSegments, Sending, bytes_at, pieces_of, sent}
use Rattle.segment_assembly.specs.Slots.{slots, sending_of}
use Rattle.segment_assembly.proofs.Lengths.{are_segments}
use Rattle.segment_assembly.proofs.SlotLemmas.{all_slots, count_slots}
use Rattle.segment_assembly.proofs.assembly.Assembly.into_pieces.Goals as goal

pub returns-clause-pieces : goal.returns-clause-pieces
returns-clause-pieces c =
    let inside = c.self.inside in
    let whole = c.self.invariant in
    let none : count_by is_none (slots inside.segment inside.came.items inside.bytes.items) ≡ 0 =
    subst (λ (sending : Sending). count_by is_none sending.taken ≡ 0) (sym c.self.view_is) c.requires in
    let short : length inside.bytes.items ≤ length inside.came.items * inside.segment =
    rw (whole.buffer, whole.flags) (end_within inside.segment inside.own whole.some_segment) in
    let all : sent (sending_of inside) ≡ inside.bytes.items =
    all_slots inside.segment inside.came.items inside.bytes.items short (sym (count_slots inside.segment inside.came.items inside.bytes.items) ∙ none) in
    let cut = rw (c.as_slice.ensures.value, c.as_slice-2.ensures.value) at c.cut_parts.ensures in
    subst (λ (sending : Sending). IfOk c.cut_parts.result (λ pieces. pieces.items ≡ pieces_of sending)) c.self.view_is
    (subst (λ (bytes : List ℕ). IfOk c.cut_parts.result (λ pieces. pieces.items ≡ map (bytes_at bytes) (piece_spans inside.page 0 inside.parts.items)))
    (sym all) cut)

pub returns-clause-segments : goal.returns-clause-segments
returns-clause-segments c = subst AreSegments c.self.view_is (are_segments c.self.inside c.self.invariant)
