-- Line feeds: where lines end.
use Rattle.std.proofs.Common.{◌≡◌, ℕ, Bool, true, false, List, [], ◌∷◌, ◌++◌, refl, inl, inr}
use Rattle.std.specs.Prelude.{◌==◌, ◌||◌}
use Rattle.std.proofs.lemmas.Bool.{cases_Bool, both_ways}
use Rattle.blob_source.specs.Lines.{has_line_feed}

-- a line with its line feed has one
pub fed : (line rest : List ℕ) → has_line_feed (line ++ 10 ∷ rest) ≡ true
fed [] rest = refl
fed (byte ∷ line) rest = elim (cases_Bool (byte == 10)) [ inl feed ↦ rw feed refl | inr other ↦ rw other (fed line rest) ]

no_more : (b d : Bool) → (b || d) ≡ false → d ≡ false
no_more true d none = cc none
no_more false d none = none

-- a text has one first line
pub line_apart : (x y xs ys : List ℕ) → has_line_feed x ≡ false → has_line_feed y ≡ false → x ++ 10 ∷ xs ≡ y ++ 10 ∷ ys → (x ≡ y) × (xs ≡ ys)
line_apart [] [] xs ys a b same = (refl, cc same)
line_apart [] (c ∷ y) xs ys a b same = let feed : 10 ≡ c = cc same in absurd (both_ways _ b (rw (← feed) refl))
line_apart (c ∷ x) [] xs ys a b same = let feed : c ≡ 10 = cc same in absurd (both_ways _ a (rw feed refl))
line_apart (c ∷ x) (d ∷ y) xs ys a b same =
    let first : c ≡ d = cc same in
    let rest = line_apart x y xs ys (no_more (c == 10) (has_line_feed x) a) (no_more (d == 10) (has_line_feed y) b) (cc same) in
    (cc (first, rest.0), rest.1)
