-- The pieces of one blob more.
use Rattle.std.proofs.Common.{◌≡◌, ℕ, ◌+◌, List, [], ◌∷◌, ◌++◌, length, suc, refl, sym, ap, ◌∙◌, arith, append_assoc, append-nil, length-append, sum_by}
use Rattle.std.proofs.lemmas.List.Sums.{sum_by-append}
use Rattle.blob_model.specs.Builds.{Build}
use Rattle.blob_model.specs.Pieces.{Piece, spans_of, numbered, pieces_from}

length_numbered : (blob number : ℕ) (spans : List (ℕ × ℕ)) → length (numbered blob number spans) ≡ length spans
length_numbered blob number [] = refl
length_numbered blob number (span ∷ spans) = ap suc (length_numbered blob (number + 1) spans)

pub pieces_more : (page number : ℕ) (builds : List Build) (build : Build)
    → pieces_from page number (builds ++ build ∷ [])
    ≡ pieces_from page number builds ++ numbered build.name (number + length (pieces_from page number builds)) (spans_of page build)
pieces_more page number [] build =
    let same : number + 0 ≡ number = omega arith in
    append-nil (numbered build.name number (spans_of page build)) ∙ ap (λ (n : ℕ). numbered build.name n (spans_of page build)) (sym same)
pieces_more page number (first ∷ builds) build =
    let front : List Piece = numbered first.name number (spans_of page first) in
    let after : ℕ = number + length (spans_of page first) in
    let rest : List Piece = pieces_from page after builds in
    let place : after + length rest ≡ number + length (front ++ rest) =
    omega (arith, length-append front rest, length_numbered first.name number (spans_of page first)) in
    ap (λ (list : List Piece). front ++ list) (pieces_more page after builds build)
    ∙ sym (append_assoc front rest (numbered build.name (after + length rest) (spans_of page build)))
    ∙ ap (λ (n : ℕ). (front ++ rest) ++ numbered build.name n (spans_of page build)) place

pub pieces_grow : (page : ℕ) (builds : List Build) (pieces : List Piece) (build : Build) → pieces ≡ pieces_from page 0 builds
    → pieces ++ numbered build.name (length pieces) (spans_of page build) ≡ pieces_from page 0 (builds ++ build ∷ [])
pieces_grow page builds pieces build same =
    let count : length pieces ≡ 0 + length (pieces_from page 0 builds) = ap length same ∙ omega arith in
    ap (λ (list : List Piece). list ++ numbered build.name (length pieces) (spans_of page build)) same
    ∙ ap (λ (n : ℕ). pieces_from page 0 builds ++ numbered build.name n (spans_of page build)) count
    ∙ sym (pieces_more page 0 builds build)

pub total_pieces : (page number : ℕ) (builds : List Build) → length (pieces_from page number builds) ≡ sum_by (λ (build : Build). length (spans_of page build))
    builds
total_pieces page number [] = refl
total_pieces page number (first ∷ builds) =
    let counts : Build → ℕ = λ (build : Build). length (spans_of page build) in
    let front : List Piece = numbered first.name number (spans_of page first) in
    let rest : List Piece = pieces_from page (number + length (spans_of page first)) builds in
    let one : sum_by counts (first ∷ []) ≡ length (spans_of page first) = omega arith in
    length-append front rest
    ∙ ap (λ (n : ℕ). n + length rest) (length_numbered first.name number (spans_of page first) ∙ sym one)
    ∙ ap (λ (n : ℕ). sum_by counts (first ∷ []) + n) (total_pieces page (number + length (spans_of page first)) builds)
    ∙ sym (sum_by-append counts (first ∷ []) builds)
