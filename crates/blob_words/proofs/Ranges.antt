-- The values over a range of places, with others behind them: what is left once some are passed over.
use Rattle.std.proofs.Common.{◌≡◌, ℕ, zero, suc, ◌+◌, ◌-◌, ◌<◌, ◌≤◌, List, ◌++◌, length, map, min, take, drop, refl, sym, ap, ◌∙◌, arith, ⊎_elim}
use Rattle.std.proofs.Common.{append-nil}
use Rattle.std.specs.List.{range_with_len}
use Rattle.std.proofs.lemmas.Bool.{cases_lt}
use Rattle.std.proofs.lemmas.List.{drop-append-le, take-append-le, drop-map}
use Rattle.std.proofs.Math.Seq.{take-append-add}
use Rattle.std.proofs.lemmas.List.FromFn.{length-map-range_with_len, take-map-range_with_len}

drop_range : (k a n : ℕ) → drop k (range_with_len a n) ≡ range_with_len (a + k) (n - k)
drop_range zero a n =
    let place : a + 0 ≡ a = omega arith in
    let count : n - 0 ≡ n = omega arith in
    rw (place, count) refl
drop_range (suc k) a zero =
    let none : zero - suc k ≡ 0 = omega arith in
    rw none refl
drop_range (suc k) a (suc n) =
    let place : a + 1 + k ≡ a + suc k = omega arith in
    let count : n - k ≡ suc n - suc k = omega arith in
    drop_range k (a + 1) n ∙ rw (place, count) refl

module _ {X : Type 0} where
  -- so many of the values that are left, of which the first are of the range behind its place `skip`
  pub range_left : (cell : ℕ → X) (from len : ℕ) (behind : List X) (skip left : ℕ) → skip < len
      → take left (drop skip (map cell (range_with_len from len) ++ behind))
      ≡ map cell (range_with_len (from + skip) (min left (len - skip))) ++ take (left - min left (len - skip)) behind
  range_left cell from len behind skip left within =
      let here = map cell (range_with_len (from + skip) (len - skip)) in
      let whole : length (map cell (range_with_len from len)) ≡ len = length-map-range_with_len cell from len in
      let dropped : drop skip (map cell (range_with_len from len)) ≡ here = drop-map cell skip (range_with_len from len) ∙ ap (map cell) (drop_range skip from len) in
      let front : drop skip (map cell (range_with_len from len) ++ behind) ≡ here ++ behind =
      drop-append-le skip (map cell (range_with_len from len)) behind (omega (arith, within, whole)) ∙ ap (λ (xs : List X). xs ++ behind) dropped in
      let count : length here ≡ len - skip = length-map-range_with_len cell (from + skip) (len - skip) in
      rw front
      (⊎_elim
      (λ (more : len - skip < left).
      let size : min left (len - skip) ≡ len - skip = omega (arith, more) in
      let all : left ≡ length here + (left - (len - skip)) = omega (arith, more, count) in
      rw size (ap (λ (n : ℕ). take n (here ++ behind)) all ∙ take-append-add here behind (left - (len - skip))))
      (λ (few : left ≤ len - skip).
      let size : min left (len - skip) ≡ left = omega (arith, few) in
      let none : left - left ≡ 0 = omega arith in
      rw (size, none)
      (take-append-le left here behind (omega (arith, few, count)) ∙
      (take-map-range_with_len cell (from + skip) (len - skip) left few ∙ sym (append-nil (map cell (range_with_len (from + skip) left))))))
      (cases_lt (len - skip) left))
