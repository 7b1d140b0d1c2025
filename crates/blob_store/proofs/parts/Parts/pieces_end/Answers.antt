-- The pieces of a blob end where those of the next one begin.
use Rattle.std.proofs.Common.{ℕ, ◌+◌, ◌<◌, List, Option, length, ap, sym, subst, ◌∙◌, arith}
use Rattle.std.specs.Prelude.{slice_get, slice_index_or}
use Rattle.std.specs.Option.{option_map_or}
use Rattle.std.proofs.lemmas.Option.{slice_get_past, slice_get-get_or}
use Rattle.blob_store.specs.declared.row.Row.{Row}
use Rattle.blob_store.proofs.Using.{pieces_end}
use Rattle.blob_store.proofs.parts.Parts.pieces_end.Goals as goal

pub returns-then-next-len : goal.returns-then-next-len
returns-then-next-len c =
    let parts = c.args.self.now in
    let next = c.args.number + 1 in
    let list = c.as_slice.result.now in
    let row = slice_index_or list next c.index-as_slice-next.result in
    pieces_end parts.limits.page (length parts.homes) c.args.number parts.rows c.requires.enters.in_turn c.requires.number row.first
    (ap (λ (found : Option Row). option_map_or (λ (other : Row). other.first) found (length parts.homes))
    (ap (λ (rows : List Row). slice_get rows next) (sym c.as_slice.ensures)
    ∙ slice_get-get_or list next c.index-as_slice-next.result
    (subst (λ (n : ℕ). next < n) (c.len.ensures ∙ ap (λ (rows : List Row). length rows) (sym c.as_slice.ensures)) c.if-next-len.true)))

pub returns-else-next-len : goal.returns-else-next-len
returns-else-next-len c =
    let parts = c.args.self.now in
    let number = c.args.number in
    let long = c.if-next-len.false in
    let many = c.len.ensures in
    pieces_end parts.limits.page (length parts.homes) number parts.rows c.requires.enters.in_turn c.requires.number c.len-else-next-len.result
    (ap (λ (found : Option Row). option_map_or (λ (other : Row). other.first) found (length parts.homes))
    (slice_get_past parts.rows (number + 1) (omega (arith, long, many))) ∙ sym c.len-else-next-len.ensures)
