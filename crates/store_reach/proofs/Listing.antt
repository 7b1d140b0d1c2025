-- The numbers that a window has, mark by mark.
use Rattle.std.proofs.Common.{◌≡◌, ℕ, zero, suc, ◌+◌, ◌<◌, ◌≤◌, Bool, true, false, List, [], ◌∷◌, ◌++◌, length, get_or, take}
use Rattle.std.proofs.Common.{nat_lt, refl, sym, ap, ◌∙◌, arith, append_assoc, append-nil}
use Rattle.std.specs.Prelude.{replicate, slice_index_or}
use Rattle.std.proofs.lemmas.List.{get_or-replicate, length-replicate, length-take-le, take_all, take_more}
use Rattle.std.proofs.lemmas.Bool.Decides.{nat_tests}
use Rattle.blob_registry.specs.Dependents.{listed_if}
use Rattle.store_reach.specs.Windows.{listed}

-- a mark more
listed_append : (number : ℕ) (marks : List Bool) (mark : Bool)
    → listed number (marks ++ mark ∷ []) ≡ listed number marks ++ listed_if mark (number + length marks)
listed_append number [] mark = let here : number + length {A = Bool} [] ≡ number = omega arith in rw here (append-nil (listed_if mark number))
listed_append number (first ∷ marks) mark =
    let next : number + length (first ∷ marks) ≡ (number + 1) + length marks = omega arith in
    rw next (ap (λ (rest : List ℕ). listed_if first number ++ rest) (listed_append (number + 1) marks mark)
    ∙ sym (append_assoc (listed_if first number) (listed (number + 1) marks) (listed_if mark ((number + 1) + length marks))))

pub listed_more : (number : ℕ) (marks : List Bool) (i : ℕ) (mark : Bool) → i < length marks → get_or marks i false ≡ mark
    → listed number (take (i + 1) marks) ≡ listed number (take i marks) ++ listed_if mark (number + i)
listed_more number marks i mark inside is =
    ap (listed number) (take_more marks i false inside ∙ ap (λ (last : Bool). take i marks ++ last ∷ []) is)
    ∙ listed_append number (take i marks) mark
    ∙ ap (λ (n : ℕ). listed number (take i marks) ++ listed_if mark (number + n)) (length-take-le i marks (omega (arith, inside)))

-- all of them
pub listed_all : (number : ℕ) (marks : List Bool) (i : ℕ) → length marks ≤ i → listed number (take i marks) ≡ listed number marks
listed_all number marks i past = ap (listed number) (take_all i marks past)

-- nothing is marked
past_end : (marks : List Bool) (place : ℕ) → length marks ≤ place → slice_index_or marks place false ≡ false
past_end [] place past = refl
past_end (mark ∷ marks) zero past = absurd (omega (arith, past))
past_end (mark ∷ marks) (suc place) past = past_end marks place (omega (arith, past))

pub none_at : (n place : ℕ) → slice_index_or (replicate n false) place false ≡ false
none_at n place = by (nat_lt place n) refl
  where
    by : (b : Bool) → nat_lt place n ≡ b → slice_index_or (replicate n false) place false ≡ false
    by true is = let inside : place < n = grind (arith, nat_tests) in get_or-replicate n place false false inside
    by false is = let past : n ≤ place = grind (arith, nat_tests) in past_end (replicate n false) place (omega (arith, past, length-replicate n false))
