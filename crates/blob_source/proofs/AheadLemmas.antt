-- The part of a buffer that is still to be taken.
use Rattle.std.proofs.Common.{◌≡◌, ℕ, ◌+◌, ◌-◌, ◌≤◌, List, ◌++◌, take-append-drop, length, take, drop, sym, ap, ◌∙◌, arith}
use Rattle.std.proofs.lemmas.List.{drop-take, drop-drop, length-take}

-- letting the front go moves the start
pub drop_front : (items ahead : List ℕ) (from to count : ℕ) → take (to - from) (drop from items) ≡ ahead → from ≤ to → count ≤ length ahead
    → take (to - (from + count)) (drop (from + count) items) ≡ drop count ahead
drop_front items ahead from to count is_ahead ordered within =
    let rest = to - (from + count) in
    let long = ap length is_ahead in
    let whole : count + rest ≡ to - from = omega (arith, length-take (to - from) (drop from items)) in
    ap (take rest) (sym (drop-drop count from items)) ∙ sym (drop-take count rest (drop from items)) ∙ ap (λ k. drop count (take k (drop from items))) whole ∙
    ap (drop count) is_ahead

-- what is left is the front that goes and the rest
pub split_front : (items front : List ℕ) (from count : ℕ) → front ≡ take count (drop from items) → drop from items ≡ front ++ drop (from + count) items
split_front items front from count is_front =
    sym (take-append-drop count (drop from items)) ∙ ap (λ xs. xs ++ drop count (drop from items)) (sym is_front) ∙ ap (λ xs. front ++ xs)
    (drop-drop count from items)
