use Rattle.std.proofs.Common.{ℕ, List, [], ◌∷◌, decimal, ap}
use Rattle.blob_words.specs.declared.number.PieceNo.{PieceNo}
use Rattle.text_fields.specs.Fields.{fields}
use Rattle.text_fields.proofs.Each.{heads_then, heads_stop}
use Rattle.text_fields.proofs.Outputs.{put_as}
use Rattle.answer_text.specs.Text.{piece_fields}
use Rattle.answer_text.proofs.answer_writer.put_paged_pieces.Goals as goal

pub returns-in-Ok : goal.returns-in-Ok
returns-in-Ok g c =
    let heads : List (List ℕ) = decimal c.args.j.now.0 ∷ decimal c.args.f.now.0 ∷ [] in
    heads_then _ _ _ 32 heads (piece_fields c.args.ps.now) c.put_each.result c.in-Ok.ensures
    (put_as _ _ _ _ _ (ap (λ (all : List PieceNo). fields 32 (piece_fields all)) c.as_slice.ensures) c.put_each.ensures)

pub returns-in-Err : goal.returns-in-Err
returns-in-Err g c =
    let heads : List (List ℕ) = decimal c.args.j.now.0 ∷ decimal c.args.f.now.0 ∷ [] in
    heads_stop _ _ 32 heads (piece_fields c.args.ps.now) c.in-Err.ensures
