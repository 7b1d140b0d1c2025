-- One more of the pieces of a blob is used, each of which has a home.
use Rattle.std.proofs.Common.{◌≡◌, ℕ, suc, ◌+◌, ◌<◌, ◌∷◌, [], List, Some, length, ap, sym, subst, ◌∙◌, arith}
use Rattle.std.specs.Prelude.{slice_get, slice_index_or}
use Rattle.std.specs.List.{range_with_len}
use Rattle.std.proofs.lemmas.Option.{slice_get-get_or}
use Rattle.blob_store.specs.Passing.{with_used}
use Rattle.blob_store.specs.declared.parts.Parts.{Parts}
use Rattle.blob_store.specs.declared.row.Row.{Row}
use Rattle.blob_store.proofs.Using.{piece_within, pieces_are, range_more, used_more}
use Rattle.blob_store.proofs.parts.Parts.enter_pieces.Goals as goal

pub enter_piece-requires-clause-number : goal.enter_piece-requires-clause-number
enter_piece-requires-clause-number c =
    let parts = c.args.self.now in
    let number = c.args.number in
    let list = c.as_slice.result.now in
    let row = slice_index_or list number c.index-as_slice-number.result in
    let at : slice_get parts.rows number ≡ Some row =
    ap (λ (rows : List Row). slice_get rows number) (sym c.as_slice.ensures)
    ∙ slice_get-get_or list number c.index-as_slice-number.result
    (subst (λ (rows : List Row). number < length rows) (sym c.as_slice.ensures) c.requires.number) in
    subst (λ (one : Parts). row.first + c.loop-done.done < length one.homes) (sym c.loop-done.invariant.1)
    (piece_within parts number c.pieces_end.result row at c.pieces_end.ensures c.requires.enters c.loop-done.done c.loop-done-test.true)

pub loop-done-preserved : goal.loop-done-preserved
loop-done-preserved c =
    let parts = c.args.self.now in
    let row = slice_index_or c.as_slice.result.now c.args.number c.index-as_slice-number.result in
    let done = c.loop-done.done in
    let next : suc done ≡ done + 1 = omega arith in (
      c.in_ok-enter_piece.ensures.enters,
      c.in_ok-enter_piece.ensures.used
          ∙ ap (with_used ((row.first + done) ∷ [])) c.loop-done.invariant.1
          ∙ used_more parts (range_with_len row.first done) ((row.first + done) ∷ [])
          ∙ ap (λ (list : List ℕ). with_used list parts)
          (sym (range_more row.first done) ∙ ap (range_with_len row.first) next),
    )

pub returns-clause-used : goal.returns-clause-used
returns-clause-used c =
    let parts = c.args.self.now in
    let number = c.args.number in
    let list = c.as_slice.result.now in
    let row = slice_index_or list number c.index-as_slice-number.result in
    let at : slice_get parts.rows number ≡ Some row =
    ap (λ (rows : List Row). slice_get rows number) (sym c.as_slice.ensures)
    ∙ slice_get-get_or list number c.index-as_slice-number.result
    (subst (λ (rows : List Row). number < length rows) (sym c.as_slice.ensures) c.requires.number) in
    c.loop-done.invariant.1
    ∙ ap (λ (list : List ℕ). with_used list parts)
    (ap (range_with_len row.first) (let past = c.loop-done-test.false in let auto = c.loop-done.auto.done-end in omega (arith, past, auto))
    ∙ sym (pieces_are parts number c.pieces_end.result row at c.pieces_end.ensures))
