-- The victims one by one.
use Rattle.std.proofs.Common.{◌≡◌, ℕ, ◌<◌, ◌≤◌, ◌-◌, true, false, List, [], ◌∷◌, ◌++◌, nat_le, refl, sym, ap, ◌∙◌, arith}
use Rattle.std.proofs.lemmas.List.{append-nil}
use Rattle.std.proofs.lemmas.Bool.Decides.{nat_tests}
use Rattle.recent_items.specs.Recent.{victims}

needed : (need : ℕ) → 0 < need → nat_le need 0 ≡ false
needed need some = grind (arith, nat_tests)

fits : (len most : ℕ) → len ≤ most → nat_le len most ≡ true
fits len most room = grind (arith, nat_tests)

passes : (len most : ℕ) → most < len → nat_le len most ≡ false
passes len most past = grind (arith, nat_tests)

-- no victim where nothing is needed
pub victims_none : (most : ℕ) (pieces : List (ℕ × ℕ)) → victims 0 most pieces ≡ []
victims_none most [] = refl
victims_none most (entry ∷ pieces) = refl

-- none where the first doesn't fit
pub victims_cut : (need most : ℕ) (entry : ℕ × ℕ) (pieces : List (ℕ × ℕ)) → 0 < need → most < entry.1 → victims need most (entry ∷ pieces) ≡ []
victims_cut need most entry pieces some past = rw (needed need some, passes entry.1 most past) refl

-- else the first, and those that are needed behind it
pub victims_more : (need most : ℕ) (entry : ℕ × ℕ) (pieces : List (ℕ × ℕ)) → 0 < need → entry.1 ≤ most
    → victims need most (entry ∷ pieces) ≡ entry.0 ∷ victims (need - entry.1) (most - entry.1) pieces
victims_more need most entry pieces some room = rw (needed need some, fits entry.1 most room) refl

-- nothing is missing any more
pub victims_all : (front : List ℕ) (need most : ℕ) (pieces : List (ℕ × ℕ)) (whole : List ℕ) → need ≤ 0 → front ++ victims need most pieces ≡ whole → front
    ≡ whole
victims_all front need most pieces whole done is =
    let none : need ≡ 0 = omega (arith, done) in
    sym (append-nil front) ∙ ap (λ back. front ++ back) (sym (rw none (victims_none most pieces))) ∙ is
