-- The pieces of parts, one part more at a time.
use Rattle.std.proofs.Common.{◌≡◌, ℕ, ◌+◌, ◌<◌, List, [], ◌∷◌, ◌++◌, sum, length, take, get_or, refl, sym, ap, ◌∙◌, arith, append_assoc, append-nil}
use Rattle.std.proofs.lemmas.List.{take_more}
use Rattle.std.proofs.lemmas.List.Sums.{sum_by-cons}
use Rattle.transport_plan.specs.Spans.{cut_spans, piece_spans}

push_part : (page from : ℕ) (xs : List ℕ) (y : ℕ) → piece_spans page from (xs ++ y ∷ []) ≡ piece_spans page from xs ++ cut_spans page (from + sum xs) y
push_part page from [] y =
    let same : from + sum [] ≡ from = omega arith in
    append-nil (cut_spans page from y) ∙ ap (λ (place : ℕ). cut_spans page place y) (sym same)
push_part page from (x ∷ xs) y =
    let same : from + x + sum xs ≡ from + sum (x ∷ xs) = omega (arith, sum_by-cons (λ (n : ℕ). n) x xs) in
    rw (push_part page (from + x) xs y, same)
    (sym (append_assoc (cut_spans page from x) (piece_spans page (from + x) xs) (cut_spans page (from + sum (x ∷ xs)) y)))

pub more_parts : (page i : ℕ) (parts : List ℕ) → i < length parts
    → piece_spans page 0 (take (i + 1) parts) ≡ piece_spans page 0 (take i parts) ++ cut_spans page (sum (take i parts)) (get_or parts i 0)
more_parts page i parts within =
    let same : 0 + sum (take i parts) ≡ sum (take i parts) = omega arith in
    rw (take_more parts i 0 within, push_part page 0 (take i parts) (get_or parts i 0), same) refl
