-- Lists of pieces, one by one.
use Rattle.std.proofs.Common.{◌≡◌, ℕ, ◌+◌, ◌<◌, ◌≤◌, Bool, true, false, cond, not, nat_eq, map, subst, List, [], ◌∷◌, ◌++◌, zero, suc, length, get_or, take, refl, sym, ap, ◌∙◌, arith}
use Rattle.std.specs.List.{AllByRecursion, IsDistinct}
use Rattle.blob_words.specs.declared.number.PieceNo.{PieceNo}
use Rattle.std.proofs.lemmas.List.{take_more}
use Rattle.std.proofs.lemmas.List.Sums.{sum_by-append, sum_by-cons, sum_by-take-le}
use Rattle.page_files.specs.declared.held.Held.{Held}
use Rattle.page_files.specs.Pieces.{bytes_of, named, numbers, placed, without, HasBytes}

-- what holds of all holds of each
pub all_at : {X : Type 0} (P : X → Type 0) (xs : List X) (i : ℕ) (d : X) → i < length xs → AllByRecursion P xs → P (get_or xs i d)
all_at P [] i d inside all = absurd (omega arith)
all_at P (x ∷ xs) zero d inside all = all.0
all_at P (x ∷ xs) (suc i) d inside all = all_at P xs i d (omega arith) all.1

-- and what follows from it
pub all_then : {X : Type 0} (P Q : X → Type 0) → ((x : X) → P x → Q x) → (xs : List X) → AllByRecursion P xs → AllByRecursion Q xs
all_then P Q then [] all = all
all_then P Q then (x ∷ xs) all = (then x all.0, all_then P Q then xs all.1)

pub bytes_cons : (held : Held) (pieces : List Held) → bytes_of (held ∷ pieces) ≡ held.len + bytes_of pieces
bytes_cons held pieces = sum_by-cons (λ (held : Held). held.len) held pieces

pub bytes_push : (pieces : List Held) (held : Held) → bytes_of (pieces ++ held ∷ []) ≡ bytes_of pieces + held.len
bytes_push pieces held = omega (arith, sum_by-append (λ (held : Held). held.len) pieces (held ∷ []))

-- one piece more
pub bytes_more : (pieces : List Held) (i : ℕ) (d : Held) → i < length pieces → bytes_of (take (i + 1) pieces) ≡ bytes_of (take i pieces) +
    (get_or pieces i d).len
bytes_more pieces i d inside = ap bytes_of (take_more pieces i d inside) ∙ bytes_push (take i pieces) (get_or pieces i d)

pub bytes_within : (pieces : List Held) (i : ℕ) → bytes_of (take i pieces) ≤ bytes_of pieces
bytes_within pieces i = sum_by-take-le (λ (held : Held). held.len) pieces i

pub placed_push : (off : ℕ) (pieces : List Held) (held : Held) → placed off (pieces ++ held ∷ []) ≡ placed off pieces
    ++ record held { off = off + bytes_of pieces } ∷ []
placed_push off [] held = let none : off ≡ off + 0 = omega arith in ap (λ n. record held { off = n } ∷ []) none
placed_push off (first ∷ pieces) held =
    let more : off + first.len + bytes_of pieces ≡ off + bytes_of (first ∷ pieces) = omega (arith, bytes_cons first pieces) in
    ap (λ rest. record first { off = off } ∷ rest) (placed_push (off + first.len) pieces held ∙ ap
    (λ n. placed (off + first.len) pieces ++ record held { off = n } ∷ []) more)

pub placed_more : (pieces : List Held) (i : ℕ) (d : Held) → i < length pieces → placed 0 (take (i + 1) pieces) ≡ placed 0 (take i pieces)
    ++ record (get_or pieces i d) { off = bytes_of (take i pieces) } ∷ []
placed_more pieces i d inside = ap (placed 0) (take_more pieces i d inside) ∙ placed_push 0 (take i pieces) (get_or pieces i d) ∙
    (let none : 0 + bytes_of (take i pieces) ≡ bytes_of (take i pieces) = omega arith in
    ap (λ n. placed 0 (take i pieces) ++ record (get_or pieces i d) { off = n } ∷ []) none)

-- pieces have the same bytes wherever they are placed
pub placed_bytes : (off : ℕ) (pieces : List Held) → bytes_of (placed off pieces) ≡ bytes_of pieces
placed_bytes off [] = refl
placed_bytes off (held ∷ pieces) = bytes_cons (record held { off = off }) (placed (off + held.len) pieces) ∙ ap (λ n. held.len + n)
    (placed_bytes (off + held.len) pieces) ∙ sym (bytes_cons held pieces)

pub placed_numbers : (off : ℕ) (pieces : List Held) → numbers (placed off pieces) ≡ numbers pieces
placed_numbers off [] = refl
placed_numbers off (held ∷ pieces) = ap (λ rest. held.piece.0 ∷ rest) (placed_numbers (off + held.len) pieces)

pub placed_long : (off : ℕ) (pieces : List Held) → AllByRecursion HasBytes pieces → AllByRecursion HasBytes (placed off pieces)
placed_long off [] all = tt
placed_long off (held ∷ pieces) all = (all.0, placed_long (off + held.len) pieces all.1)

-- pieces are apart wherever they are placed
pub placed_apart : (off : ℕ) (pieces : List Held) → IsDistinct nat_eq (numbers pieces) → IsDistinct nat_eq (numbers (placed off pieces))
placed_apart off pieces apart = subst (IsDistinct nat_eq) (sym (placed_numbers off pieces)) apart

pub named_apart : (given : List (PieceNo × ℕ × ℕ)) → IsDistinct nat_eq (map (λ (piece : PieceNo × ℕ × ℕ). piece.0.0) given)
    → IsDistinct nat_eq (numbers (map named given))
named_apart given apart = subst (IsDistinct nat_eq) (sym (same given)) apart
  where
    same : (given : List (PieceNo × ℕ × ℕ)) → numbers (map named given) ≡ map (λ (piece : PieceNo × ℕ × ℕ). piece.0.0) given
    same [] = refl
    same (piece ∷ given) = ap (λ rest. piece.0.0 ∷ rest) (same given)

pub named_long : (given : List (PieceNo × ℕ × ℕ)) → AllByRecursion (λ (piece : PieceNo × ℕ × ℕ). 0 < piece.2) given → AllByRecursion HasBytes (map named given)
named_long [] all = tt
named_long (piece ∷ given) all = (all.0, named_long given all.1)

without_by : (keeps : Bool) (held : Held) (rest pieces : List Held) → bytes_of rest ≤ bytes_of pieces → bytes_of (cond keeps (held ∷ rest) rest) ≤ bytes_of
    (held ∷ pieces)
without_by true held rest pieces less = omega (arith, bytes_cons held rest, bytes_cons held pieces, less)
without_by false held rest pieces less = omega (arith, bytes_cons held pieces, less)

-- a piece fewer has no more bytes
pub without_bytes : (piece : PieceNo) (pieces : List Held) → bytes_of (without piece pieces) ≤ bytes_of pieces
without_bytes piece [] = omega arith
without_bytes piece (held ∷ pieces) = without_by (not (nat_eq piece.0 held.piece.0)) held (without piece pieces) pieces (without_bytes piece pieces)
