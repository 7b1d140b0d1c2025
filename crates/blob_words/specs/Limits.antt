-- Which seven numbers are the limits of a session, in the order memory, disk, big, inline_max, segment, page, chunk. Own bounds.
use Rattle.std.specs.Prelude.{ℕ, ◌==◌, ◌^◌, ◌||◌, Bool, true, false, [], ◌∷◌, Option, Some, None, nat_lt}
use Rattle.std.specs.Option.{option_map}
use Rattle.std.specs.List.{find}
use Rattle.blob_words.specs.declared.limit_fault.Field.{Field}
use Rattle.blob_words.specs.declared.limit_fault.Field.TheVariants.{Memory, Disk, Big, InlineMax, Segment, Page, Chunk}
use Rattle.blob_words.specs.declared.limit_fault.LimitFault.{LimitFault}
use Rattle.blob_words.specs.declared.limit_fault.LimitFault.TheVariants as faults

-- the first field that is 0 and may not be
abbrev pub zero_field : ℕ → ℕ → ℕ → ℕ → ℕ → Option Field
zero_field memory big segment page chunk =
    option_map (λ (entry : Field × ℕ). entry.0)
    (find (λ (entry : Field × ℕ). entry.1 == 0) ((Memory, memory) ∷ (Big, big) ∷ (Segment, segment) ∷ (Page, page) ∷ (Chunk, chunk) ∷ []))

-- the first field that passes its greatest value
abbrev pub large_field : ℕ → ℕ → ℕ → ℕ → ℕ → ℕ → Option Field
large_field memory disk inline_max segment page chunk =
    option_map (λ (entry : Field × ℕ × ℕ). entry.0)
    (find (λ (entry : Field × ℕ × ℕ). nat_lt entry.2 entry.1)
    ((Memory, memory, 2 ^ 30) ∷ (Disk, disk, 2 ^ 40) ∷ (InlineMax, inline_max, 2 ^ 18) ∷ (Segment, segment, 2 ^ 18) ∷ (Page, page, 2 ^ 18)
    ∷ (Chunk, chunk, 2 ^ 16) ∷ []))

-- a 0 counts before a value that is too large, and that before the order of the fields
abbrev pub first_fault : Option Field → Option Field → Bool → Option LimitFault
first_fault (Some field) large disordered = Some (faults.Zero field)
first_fault None (Some field) disordered = Some (faults.Large field)
first_fault None None true = Some faults.Order
first_fault None None false = None

-- why seven numbers are no limits, or nothing where they are
abbrev pub limit_fault : ℕ → ℕ → ℕ → ℕ → ℕ → ℕ → ℕ → Option LimitFault
limit_fault memory disk big inline_max segment page chunk =
    first_fault (zero_field memory big segment page chunk) (large_field memory disk inline_max segment page chunk) (nat_lt memory big || nat_lt memory page)
