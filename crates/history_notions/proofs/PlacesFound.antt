-- The places of items that pass a test, item by item.
use Rattle.std.proofs.Common.{◌≡◌, ℕ, zero, suc, ◌+◌, ◌<◌, Bool, true, false, cond, List, [], ◌∷◌, ◌++◌, Option, Some, length, get_or, take, refl, sym, ap, ◌∙◌, arith, append-nil}
use Rattle.std.specs.Prelude.{filter, slice_get}
use Rattle.std.specs.List.{cons_option, range_with_len}
use Rattle.std.proofs.lemmas.List.{take_more, map-id}
use Rattle.std.proofs.lemmas.List.FromFn.{map-range_with_len_more}
use Rattle.std.proofs.lemmas.List.Elements.{filter-append, filter_map-append}
use Rattle.history_notions.specs.Chosen.{items_at}

got : {X : Type 0} (items : List X) (k : ℕ) (x : X) → k < length items → x ≡ get_or items k x → slice_get items k ≡ Some x
got [] k x below is = absurd (omega (arith, below))
got (y ∷ ys) zero x below is = ap Some (sym is)
got (y ∷ ys) (suc k) x below is = got ys k x (omega (arith, below)) is

one_more : {X : Type 0} (items : List X) (test : X → Bool) (k : ℕ) (item : X) → k < length items → item ≡ get_or items k item
    → filter test (take (k + 1) items) ≡ filter test (take k items) ++ cond (test item) (item ∷ []) []
one_more {X} items test k item below is =
    ap (filter test) (take_more items k item below ∙ ap (λ (one : X). take k items ++ one ∷ []) (sym is)) ∙ filter-append test (take k items) (item ∷ [])

pub found_more : {X : Type 0} (items : List X) (test : X → Bool) (k : ℕ) (item : X) (places : List ℕ) → k < length items → item ≡ get_or items k item
    → test item ≡ true → items_at items places ≡ filter test (take k items) → items_at items (places ++ k ∷ []) ≡ filter test (take (k + 1) items)
found_more {X} items test k item places below is passes before =
    filter_map-append (slice_get items) places (k ∷ [])
    ∙ ap (λ (found : Option X). items_at items places ++ cons_option found []) (got items k item below is)
    ∙ ap (λ (front : List X). front ++ item ∷ []) before
    ∙ sym (one_more items test k item below is ∙ ap (λ (b : Bool). filter test (take k items) ++ cond b (item ∷ []) []) passes)

pub found_not : {X : Type 0} (items : List X) (test : X → Bool) (k : ℕ) (item : X) (places : List ℕ) → k < length items → item ≡ get_or items k item
    → test item ≡ false → items_at items places ≡ filter test (take k items) → items_at items places ≡ filter test (take (k + 1) items)
found_not {X} items test k item places below is fails before =
    before
    ∙ sym (append-nil (filter test (take k items)))
    ∙ sym (one_more items test k item below is ∙ ap (λ (b : Bool). filter test (take k items) ++ cond b (item ∷ []) []) fails)

range_more : (n : ℕ) → range_with_len 0 (n + 1) ≡ range_with_len 0 n ++ n ∷ []
range_more n =
    sym (map-id (range_with_len 0 (n + 1)))
    ∙ map-range_with_len_more (λ (k : ℕ). k) 0 n n (omega arith)
    ∙ ap (λ (front : List ℕ). front ++ n ∷ []) (map-id (range_with_len 0 n))

number_more : (test : ℕ → Bool) (k : ℕ) → filter test (range_with_len 0 (k + 1)) ≡ filter test (range_with_len 0 k) ++ cond (test k) (k ∷ []) []
number_more test k = ap (filter test) (range_more k) ∙ filter-append test (range_with_len 0 k) (k ∷ [])

-- the numbers that pass a test, number by number
pub number_found : (test : ℕ → Bool) (k : ℕ) (found : List ℕ) → test k ≡ true → found ≡ filter test (range_with_len 0 k) → found ++ k ∷ []
    ≡ filter test (range_with_len 0 (k + 1))
number_found test k found passes before =
    ap (λ (front : List ℕ). front ++ k ∷ []) before
    ∙ sym (number_more test k ∙ ap (λ (b : Bool). filter test (range_with_len 0 k) ++ cond b (k ∷ []) []) passes)

pub number_not : (test : ℕ → Bool) (k : ℕ) (found : List ℕ) → test k ≡ false → found ≡ filter test (range_with_len 0 k) → found
    ≡ filter test (range_with_len 0 (k + 1))
number_not test k found fails before =
    before
    ∙ sym (append-nil (filter test (range_with_len 0 k)))
    ∙ sym (number_more test k ∙ ap (λ (b : Bool). filter test (range_with_len 0 k) ++ cond b (k ∷ []) []) fails)
