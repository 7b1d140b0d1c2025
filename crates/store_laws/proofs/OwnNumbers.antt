-- The pieces of a blob are numbered one after the other, behind those of the blobs before it.
use Rattle.std.proofs.Common.{◌≡◌, ℕ, zero, suc, ◌+◌, ◌==◌, Bool, true, false, cond, List, [], ◌∷◌, ◌++◌, map, length, refl, ap, subst, sym, ◌∙◌, Some}
use Rattle.std.proofs.Common.{arith}
use Rattle.std.specs.Prelude.{filter, slice_get}
use Rattle.std.specs.List.{range_with_len}
use Rattle.std.proofs.lemmas.Bool.{eq-eqb}
use Rattle.std.proofs.lemmas.List.{append-nil}
use Rattle.std.proofs.lemmas.List.Elements.{filter-append}
use Rattle.blob_model.specs.Builds.{Build, builds}
use Rattle.blob_model.specs.History.{History}
use Rattle.blob_model.specs.Order.{named, Distinct}
use Rattle.blob_model.specs.Pieces.{numbered, pieces_from, spans_of, Piece}
use Rattle.blob_model.proofs.Lists.{false_true, filter_none, for_each, not_same, or_first, or_second}
use Rattle.blob_model.proofs.memory.Builds.{numbered_named, pieces_named}
use Rattle.store_laws.specs.Rows.{pieces_before}
use Rattle.store_laws.specs.Uses.{own_pieces}
use Rattle.store_laws.proofs.Entering.{all_mine, firsts_none}

-- a blob that is among others is named there
pub named_get : (list : List Build) (k : ℕ) (build : Build) → slice_get list k ≡ Some build → named build.name list ≡ true
named_get [] k build at = absurd (cc at)
named_get (first ∷ list) zero build at =
    let same : first ≡ build = cc at in
    or_first (first.name == build.name) (named build.name list) (eq-eqb first.name build.name (ap (λ (one : Build). one.name) same))
named_get (first ∷ list) (suc k) build at = or_second (first.name == build.name) (named build.name list) (named_get list k build at)

numbers_of : (blob number : ℕ) (spans : List (ℕ × ℕ))
    → map (λ (piece : Piece). piece.number) (numbered blob number spans) ≡ range_with_len number (length spans)
numbers_of blob number [] = refl
numbers_of blob number (span ∷ spans) = ap (λ (rest : List ℕ). number ∷ rest) (numbers_of blob (number + 1) spans)

-- the numbers of those that are a blob's
abbrev numbers_in : ℕ → List Piece → List ℕ
numbers_in name list = map (λ (piece : Piece). piece.number) (filter (λ (piece : Piece). piece.blob == name) list)

module _ (page : ℕ) where
  first_own : (first : Build) (list : List Build) (number : ℕ) → named first.name list ≡ false
      → numbers_in first.name (pieces_from page number (first ∷ list))
      ≡ range_with_len (number + pieces_before page (first ∷ list) first.name) (length (spans_of page first))
  first_own first list number fresh =
      ap (map (λ (piece : Piece). piece.number))
      (filter-append (λ (piece : Piece). piece.blob == first.name) (numbered first.name number (spans_of page first)) rest
      ∙ ap (λ (more : List Piece). filter (λ (piece : Piece). piece.blob == first.name) (numbered first.name number (spans_of page first)) ++ more)
      (filter_none (λ (piece : Piece). piece.blob == first.name) rest
      (for_each (λ (piece : Piece). named piece.blob list ≡ true) (λ (piece : Piece). (piece.blob == first.name) ≡ false) rest
      (λ piece member. not_same piece.blob first.name (λ same. false_true
      (sym fresh ∙ subst (λ (n : ℕ). named n list ≡ true) same member))) (pieces_named page (number + length (spans_of page first)) list)))
      ∙ append-nil (filter (λ (piece : Piece). piece.blob == first.name) (numbered first.name number (spans_of page first))))
      ∙ all_mine first.name number (spans_of page first)
      ∙ numbers_of first.name number (spans_of page first)
      ∙ ap (λ (n : ℕ). range_with_len n (length (spans_of page first)))
      (let none : pieces_before page (first ∷ list) first.name ≡ 0 =
      ap (λ (b : Bool). cond b 0 (length (spans_of page first) + pieces_before page list first.name)) (eq-eqb first.name first.name refl) in
      omega (arith, none))
    where
      rest : List Piece
      rest = pieces_from page (number + length (spans_of page first)) list

  own_from : (list : List Build) → Distinct list → (k : ℕ) (build : Build) → slice_get list k ≡ Some build → (number : ℕ)
      → numbers_in build.name (pieces_from page number list)
      ≡ range_with_len (number + pieces_before page list build.name) (length (spans_of page build))
  own_from [] distinct k build at number = absurd (cc at)
  own_from (first ∷ list) distinct zero build at number =
      let same : first ≡ build = cc at in
      subst (λ (one : Build). numbers_in one.name (pieces_from page number (first ∷ list))
      ≡ range_with_len (number + pieces_before page (first ∷ list) one.name) (length (spans_of page one))) same
      (first_own first list number distinct.0)
  own_from (first ∷ list) distinct (suc k) build at number =
      let apart : (first.name == build.name) ≡ false =
      not_same first.name build.name (λ same. false_true (sym distinct.0 ∙ ap (λ (n : ℕ). named n list) same ∙ named_get list k build at)) in
      let before : pieces_before page (first ∷ list) build.name ≡ length (spans_of page first) + pieces_before page list build.name =
      ap (λ (b : Bool). cond b 0 (length (spans_of page first) + pieces_before page list build.name)) apart in
      ap (map (λ (piece : Piece). piece.number))
      (firsts_none build.name (numbered first.name number (spans_of page first))
      (for_each (λ (piece : Piece). (piece.blob == build.name) ≡ false) (λ (piece : Piece). (piece.blob == build.name) ≡ false)
      (numbered first.name number (spans_of page first)) (λ piece is. is)
      (numbered_named (λ (n : ℕ). (n == build.name) ≡ false) first.name number (spans_of page first) apart))
      (pieces_from page (number + length (spans_of page first)) list))
      ∙ own_from list distinct.1 k build at (number + length (spans_of page first))
      ∙ ap (λ (n : ℕ). range_with_len n (length (spans_of page build))) (omega (arith, before))

pub own_range : (page : ℕ) (h : History) → Distinct (builds page h) → (k : ℕ) (build : Build) → slice_get (builds page h) k ≡ Some build
    → own_pieces page h build.name ≡ range_with_len (pieces_before page (builds page h) build.name) (length (spans_of page build))
own_range page h distinct k build at =
    own_from page (builds page h) distinct k build at 0
    ∙ ap (λ (n : ℕ). range_with_len n (length (spans_of page build))) (omega arith)
