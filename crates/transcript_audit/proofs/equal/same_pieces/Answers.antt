-- Two lists of pieces are one where their numbers are.
use Rattle.std.proofs.Common.{◌≡◌, ℕ, List, [], ◌∷◌, map, refl, sym, ap, ◌∙◌, nat_eq}
use Rattle.std.specs.Prelude.{bytes_eq}
use Rattle.std.specs.Cmp.Derive.Mapped.{pointwise-map}
use Rattle.blob_words.specs.declared.number.PieceNo.{PieceNo}
use Rattle.blob_model.proofs.tested.Words.{numbers_of}
use Rattle.transcript_audit.proofs.equal.same_pieces.Goals as goal

numbers_are : (list : List PieceNo) → map (λ (piece : PieceNo). piece.0) list ≡ numbers_of list
numbers_are [] = refl
numbers_are (piece ∷ list) = ap (λ (more : List ℕ). piece.0 ∷ more) (numbers_are list)

pub returns : goal.returns
returns c =
    c.eq.ensures
    ∙ sym (pointwise-map (λ (piece : PieceNo). piece.0) nat_eq c.args.one.now c.args.other.now)
    ∙ ap (λ (list : List ℕ). bytes_eq list (map (λ (piece : PieceNo). piece.0) c.args.other.now)) (numbers_are c.args.one.now)
    ∙ ap (bytes_eq (numbers_of c.args.one.now)) (numbers_are c.args.other.now)
