-- Pieces are touched view by view as they are cell by cell.
use Rattle.std.proofs.Common.{◌≡◌, ℕ, zero, suc, ◌+◌, ◌-◌, ◌<◌, ◌≤◌, ◌&&◌, Bool, true, false, not, List, [], ◌∷◌, ◌++◌, drop, map, min, take, Option, Some, refl, sym, ap, ◌∙◌, arith, append-nil}
use Rattle.std.specs.Prelude.{cond, filter, nat_eq}
use Rattle.std.specs.List.{range_with_len}
use Rattle.std.proofs.lemmas.List.Concat.{flat_map-append}
use Rattle.std.proofs.lemmas.List.Sums.{fold-append}
use Rattle.item_shares.specs.Shares.{item_at}
use Rattle.item_shares.specs.declared.item.Item.{Item}
use Rattle.item_shares.specs.declared.item.Item.TheVariants.{Memory}
use Rattle.item_shares.specs.declared.shares.Share.{Share}
use Rattle.blob_items.specs.Cells.{cells}
use Rattle.blob_items.specs.declared.view.View.{View}
use Rattle.recent_items.specs.Recent.{touched, without}
use Rattle.store_laws.specs.StepLaws.{memory_number, read_numbers, touched_all}
use Rattle.store_laws.proofs.Letting.{filter_same, filter_twice}

abbrev Order : Type 0
Order = List (ℕ × ℕ)

-- ---- twice is once

filter_more : (test : ℕ × ℕ → Bool) (xs ys : Order) → filter test (xs ++ ys) ≡ filter test xs ++ filter test ys
filter_more test [] ys = refl
filter_more test (x ∷ xs) ys = go (test x) (filter_more test xs ys)
  where
    go : (b : Bool) → filter test (xs ++ ys) ≡ filter test xs ++ filter test ys
        → cond b (x ∷ filter test (xs ++ ys)) (filter test (xs ++ ys)) ≡ cond b (x ∷ filter test xs) (filter test xs) ++ filter test ys
    go true rest = ap (λ (more : Order). x ∷ more) rest
    go false rest = rest

none : (xs : Order) → filter (λ (x : ℕ × ℕ). false) xs ≡ []
none [] = refl
none (x ∷ xs) = none xs

touched_twice : (piece : ℕ) (order : Order) → touched piece (touched piece order) ≡ touched piece order
touched_twice piece order = λ i. outs i ++ ins i
  where
    twice_not : (b : Bool) → (not b && not b) ≡ not b
    twice_not true = refl
    twice_not false = refl

    twice : (b : Bool) → (b && b) ≡ b
    twice true = refl
    twice false = refl

    never : (b : Bool) → (b && not b) ≡ false
    never true = refl
    never false = refl

    never_not : (b : Bool) → (not b && b) ≡ false
    never_not true = refl
    never_not false = refl

    outs : without piece (touched piece order) ≡ without piece order
    outs =
        filter_more (λ (x : ℕ × ℕ). not (nat_eq piece x.0)) (without piece order) (filter (λ (x : ℕ × ℕ). nat_eq piece x.0) order)
        ∙ (λ i. (filter_twice (λ (x : ℕ × ℕ). not (nat_eq piece x.0)) (λ (x : ℕ × ℕ). not (nat_eq piece x.0)) order
        ∙ filter_same (λ (x : ℕ × ℕ). not (nat_eq piece x.0) && not (nat_eq piece x.0)) (λ (x : ℕ × ℕ). not (nat_eq piece x.0)) order
        (λ x. twice_not (nat_eq piece x.0))) i
        ++ (filter_twice (λ (x : ℕ × ℕ). nat_eq piece x.0) (λ (x : ℕ × ℕ). not (nat_eq piece x.0)) order
        ∙ filter_same (λ (x : ℕ × ℕ). nat_eq piece x.0 && not (nat_eq piece x.0)) (λ (x : ℕ × ℕ). false) order (λ x. never (nat_eq piece x.0))
        ∙ none order) i)
        ∙ append-nil (without piece order)

    ins : filter (λ (x : ℕ × ℕ). nat_eq piece x.0) (touched piece order) ≡ filter (λ (x : ℕ × ℕ). nat_eq piece x.0) order
    ins =
        filter_more (λ (x : ℕ × ℕ). nat_eq piece x.0) (without piece order) (filter (λ (x : ℕ × ℕ). nat_eq piece x.0) order)
        ∙ (λ i. (filter_twice (λ (x : ℕ × ℕ). not (nat_eq piece x.0)) (λ (x : ℕ × ℕ). nat_eq piece x.0) order
        ∙ filter_same (λ (x : ℕ × ℕ). not (nat_eq piece x.0) && nat_eq piece x.0) (λ (x : ℕ × ℕ). false) order (λ x. never_not (nat_eq piece x.0))
        ∙ none order) i
        ++ (filter_twice (λ (x : ℕ × ℕ). nat_eq piece x.0) (λ (x : ℕ × ℕ). nat_eq piece x.0) order
        ∙ filter_same (λ (x : ℕ × ℕ). nat_eq piece x.0 && nat_eq piece x.0) (λ (x : ℕ × ℕ). nat_eq piece x.0) order (λ x. twice (nat_eq piece x.0))) i)

item_twice : (held : Option Item) (order : Order)
    → touched_all (touched_all order (memory_number held)) (memory_number held) ≡ touched_all order (memory_number held)
item_twice (Some (Memory piece bytes)) order = touched_twice piece.0 order
item_twice held order = refl

-- ---- the cells of one view

slot_touched : (shares : List (Option Share)) (slot low n : ℕ) (order : Order)
    → touched_all order (read_numbers shares (map (λ (at : ℕ). (slot, at)) (range_with_len low (suc n))))
    ≡ touched_all order (memory_number (item_at shares slot))
slot_touched shares slot low zero order = ap (touched_all order) (append-nil (memory_number (item_at shares slot)))
slot_touched shares slot low (suc n) order =
    fold-append (λ (before : Order) (number : ℕ). touched number before) order (memory_number (item_at shares slot))
    (read_numbers shares (map (λ (at : ℕ). (slot, at)) (range_with_len (low + 1) (suc n))))
    ∙ slot_touched shares slot (low + 1) n (touched_all order (memory_number (item_at shares slot)))
    ∙ item_twice (item_at shares slot) order

module _ (slot : ℕ) (ys : List (ℕ × ℕ)) where
  taken : (low n left : ℕ) → (size : ℕ) × (size ≡ min n left)
      × (take left (map (λ (at : ℕ). (slot, at)) (range_with_len low n) ++ ys)
      ≡ map (λ (at : ℕ). (slot, at)) (range_with_len low size) ++ take (left - size) ys)
  taken low zero left = (zero, omega arith, let same : left ≡ left - zero = omega arith in ap (λ (k : ℕ). take k ys) same)
  taken low (suc n) zero = (zero, omega arith, let same : zero ≡ zero - zero = omega arith in ap (λ (k : ℕ). take k ys) same)
  taken low (suc n) (suc left) =
      let rest = taken (low + 1) n left in
      let size = rest.1 in
      let same : left - rest.0 ≡ suc left - suc (rest.0) = omega arith in (
        suc (rest.0),
        omega (arith, size),
        ap (λ (more : List (ℕ × ℕ)). (slot, low) ∷ more)
            (rest.2 ∙ ap (λ (k : ℕ). map (λ (at : ℕ). (slot, at)) (range_with_len (low + 1) (rest.0)) ++ take k ys) same),
      )

  dropped : (low n skip : ℕ) → skip ≤ n → drop skip (map (λ (at : ℕ). (slot, at)) (range_with_len low n) ++ ys)
      ≡ map (λ (at : ℕ). (slot, at)) (range_with_len (low + skip) (n - skip)) ++ ys
  dropped low n zero within =
      let one : low ≡ low + zero = omega arith in
      let two : n ≡ n - zero = omega arith in
      λ i. map (λ (at : ℕ). (slot, at)) (range_with_len (one i) (two i)) ++ ys
  dropped low zero (suc skip) within = absurd (omega (arith, within))
  dropped low (suc n) (suc skip) within =
      let one : (low + 1) + skip ≡ low + suc skip = omega arith in
      let two : n - skip ≡ suc n - suc skip = omega arith in
      dropped (low + 1) n skip (omega (arith, within)) ∙ (λ i. map (λ (at : ℕ). (slot, at)) (range_with_len (one i) (two i)) ++ ys)

-- ---- one view, and what follows

pub rest_touched : (shares : List (Option Share)) (views later : List View) (view : View) (skip left size : ℕ) (order : Order) → views ≡ view ∷ later
    → skip < view.len → 0 < left → size ≡ min (view.len - skip) left
    → touched_all (touched_all order (memory_number (item_at shares view.slot))) (read_numbers shares (take (left - size) (cells later)))
    ≡ touched_all order (read_numbers shares (take left (drop skip (cells views))))
rest_touched shares views later view skip left size order same within some is =
    let gone = dropped view.slot (cells later) view.off view.len skip (omega (arith, within)) in
    let some_taken = taken view.slot (cells later) (view.off + skip) (view.len - skip) left in
    let at : take left (drop skip (cells views))
    ≡ map (λ (at : ℕ). (view.slot, at)) (range_with_len (view.off + skip) (some_taken.0)) ++ take (left - some_taken.0) (cells later) =
    ap (λ (list : List View). take left (drop skip (cells list))) same ∙ ap (take left) gone ∙ some_taken.2 in
    let long = some_taken.1 in
    let sized : some_taken.0 ≡ size = omega (arith, long, is) in
    sym (ap (λ (list : List (ℕ × ℕ)). touched_all order (read_numbers shares list)) at
    ∙ by (some_taken.0) (omega (arith, long, within, some)) (take (left - some_taken.0) (cells later))
    ∙ ap (λ (k : ℕ). touched_all (touched_all order (memory_number (item_at shares view.slot))) (read_numbers shares (take (left - k) (cells later)))) sized)
  where
    by : (n : ℕ) → 0 < n → (more : List (ℕ × ℕ))
        → touched_all order (read_numbers shares (map (λ (at : ℕ). (view.slot, at)) (range_with_len (view.off + skip) n) ++ more))
        ≡ touched_all (touched_all order (memory_number (item_at shares view.slot))) (read_numbers shares more)
    by zero some more = absurd (omega (arith, some))
    by (suc n) some more =
        ap (touched_all order) (flat_map-append (λ (cell : ℕ × ℕ). memory_number (item_at shares cell.0))
        (map (λ (at : ℕ). (view.slot, at)) (range_with_len (view.off + skip) (suc n))) more)
        ∙ fold-append (λ (before : Order) (number : ℕ). touched number before) order
        (read_numbers shares (map (λ (at : ℕ). (view.slot, at)) (range_with_len (view.off + skip) (suc n)))) (read_numbers shares more)
        ∙ ap (λ (now : Order). touched_all now (read_numbers shares more)) (slot_touched shares view.slot (view.off + skip) n order)
