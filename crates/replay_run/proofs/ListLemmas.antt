-- A list that is mapped in place from its front on.
use Rattle.std.proofs.Common.{◌≡◌, ℕ, zero, suc, ◌+◌, ◌<◌, List, [], ◌∷◌, ◌++◌, length, map, take, drop, get_or, set, refl, sym, ap, ◌∙◌, add-one, arith}

-- the list with its first i elements mapped
abbrev pub mapped_front : {X : Type 0} → (X → X) → ℕ → List X → List X
mapped_front f i xs = map f (take i xs) ++ drop i xs

pub mapped_front-at : {X : Type 0} (f : X → X) (i : ℕ) (xs : List X) (d : X) → get_or (mapped_front f i xs) i d ≡ get_or xs i d
mapped_front-at f zero xs d = refl
mapped_front-at f (suc i) [] d = refl
mapped_front-at f (suc i) (x ∷ xs) d = mapped_front-at f i xs d

-- the next element is written
pub mapped_front-set : {X : Type 0} (f : X → X) (i : ℕ) (xs : List X) (d y : X) → i < length xs → y ≡ f (get_or xs i d) → set (mapped_front f i xs) i y
    ≡ mapped_front f (suc i) xs
mapped_front-set f i [] d y h e = absurd (omega arith)
mapped_front-set f zero (x ∷ xs) d y h e = ap (λ z. z ∷ xs) e
mapped_front-set f (suc i) (x ∷ xs) d y h e = ap (λ zs. f x ∷ zs) (mapped_front-set f i xs d y (omega arith) e)

-- one step of a loop that maps in place
pub mapped_front-step : {X : Type 0} (f : X → X) (i : ℕ) (xs items : List X) (d y : X) → items ≡ mapped_front f i xs → i < length xs → y ≡ f (get_or items i d)
    → set items i y ≡ mapped_front f (i + 1) xs
mapped_front-step f i xs items d y front within is =
    let read : get_or items i d ≡ get_or xs i d = ap (λ all. get_or all i d) front ∙ mapped_front-at f i xs d in
    ap (λ all. set all i y) front ∙ mapped_front-set f i xs d y within (is ∙ ap f read) ∙ ap (λ n. mapped_front f n xs) (sym (add-one i))
