-- The segments of a shared plan, what is sent by them, and the pieces of it. Own.
use Rattle.std.specs.Prelude.{ℕ, ◌≡◌, ◌<◌, ◌==◌, false, List, [], Option, Some, None, length, map, sum, take, drop, flat_map, nat_le, slice_index_or, if◌then◌else◌, IfSome}
use Rattle.std.specs.Int.{div_ceil}
use Rattle.std.specs.Option.{is_some, unwrap_or}
use Rattle.segment_assembly.specs.declared.segment_fault.SegmentFault.{SegmentFault}
use Rattle.segment_assembly.specs.declared.segment_fault.SegmentFault.TheVariants.{BadSegment, Taken, Length}
use Rattle.transport_plan.specs.Spans.{span_at, piece_spans}

-- the lengths of the parts, of a segment and of a page, and the bytes of each segment by its number, where it was taken
pub record Sending : Type 0 where
  pub parts : List ℕ
  pub segment : ℕ
  pub page : ℕ
  pub taken : List (Option (List ℕ))

-- the length of a segment: the last may be shorter than the others
abbrev pub want : Sending → ℕ → ℕ
want sending seg = (span_at sending.segment (sum sending.parts) seg).1

-- why so many bytes are not the segment that is to be taken: its number, then that it was taken, then its length
abbrev pub segment_fault : Sending → ℕ → ℕ → Option SegmentFault
segment_fault sending seg len =
    if nat_le (length sending.taken) seg then Some (BadSegment (length sending.taken))
    else (if is_some (slice_index_or sending.taken seg None) then Some Taken
    else (if len == want sending seg then None else Some (Length (want sending seg))))

-- the segment is one of them, wasn't taken, and has its length
abbrev pub CanTake : Sending → ℕ → ℕ → Type 0
CanTake sending seg len = (seg < length sending.taken) × (is_some (slice_index_or sending.taken seg None) ≡ false) × (len ≡ want sending seg)

-- there are as many segments as the own bytes make, and each that was taken has its length
pub record AreSegments (sending : Sending) : Type 0 where
  pub number : length sending.taken ≡ div_ceil (sum sending.parts) sending.segment
  pub lengths : (seg : ℕ) → IfSome (slice_index_or sending.taken seg None) (λ bytes. length bytes ≡ want sending seg)

-- what is sent: the segments by rising number, one after the other
abbrev pub sent : Sending → List ℕ
sent sending = flat_map (λ (bytes : Option (List ℕ)). unwrap_or bytes []) sending.taken

-- the bytes of a span
abbrev pub bytes_at : List ℕ → ℕ × ℕ → List ℕ
bytes_at bytes span = take span.1 (drop span.0 bytes)

-- what is sent, cut into the pieces of the parts
abbrev pub pieces_of : Sending → List (List ℕ)
pieces_of sending = map (bytes_at (sent sending)) (piece_spans sending.page 0 sending.parts)
