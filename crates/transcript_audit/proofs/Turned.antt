-- What is mapped and chosen, turned round; and what is found at places, place by place.
use Rattle.std.proofs.Common.{◌≡◌, ℕ, ◌+◌, ◌<◌, Bool, true, false, cond, List, [], ◌∷◌, ◌++◌, Option, Some, None, length, get_or, take, drop, map, refl, sym, ap, ◌∙◌, arith, append-nil}
use Rattle.std.specs.Prelude.{filter, reverse, slice_get, find}
use Rattle.std.specs.List.{cons_option}
use Rattle.std.specs.Option.{option_map_or, option_to_list}
use Rattle.std.proofs.lemmas.List.{take_more, reverse-append, drop_all, take_all, length-reverse, drop_more}
use Rattle.std.proofs.lemmas.List.Elements.{filter-append, filter_map-append}
use Rattle.blob_model.proofs.Lists.{false_true}
use Rattle.history_notions.specs.Chosen.{items_at}

map_push : {X Y : Type 0} (f : X → Y) (xs : List X) (x : X) → map f (xs ++ x ∷ []) ≡ map f xs ++ f x ∷ []
map_push f [] x = refl
map_push f (y ∷ xs) x = ap (λ rest. f y ∷ rest) (map_push f xs x)

map_append : {X Y : Type 0} (f : X → Y) (xs ys : List X) → map f (xs ++ ys) ≡ map f xs ++ map f ys
map_append f [] ys = refl
map_append f (x ∷ xs) ys = ap (λ rest. f x ∷ rest) (map_append f xs ys)

reverse_push : {X : Type 0} (x : X) (xs : List X) → reverse (x ∷ xs) ≡ reverse xs ++ x ∷ []
reverse_push x xs = reverse-append (x ∷ []) xs

-- the list, turned, of what is chosen and mapped
pub turned : {X Y : Type 0} (f : X → Y) (test : X → Bool) (xs : List X) → reverse (map f (filter test xs)) ≡ map f (filter test (reverse xs))
turned f test [] = refl
turned {X} {Y} f test (x ∷ xs) = by (test x) refl (turned f test xs)
  where
    behind : map f (filter test (reverse (x ∷ xs))) ≡ map f (filter test (reverse xs)) ++ map f (cond (test x) (x ∷ []) [])
    behind =
        ap (λ (list : List X). map f (filter test list)) (reverse_push x xs)
        ∙ ap (map f) (filter-append test (reverse xs) (x ∷ []))
        ∙ map_append f (filter test (reverse xs)) (cond (test x) (x ∷ []) [])

    by : (b : Bool) → test x ≡ b → reverse (map f (filter test xs)) ≡ map f (filter test (reverse xs))
        → reverse (map f (cond (test x) (x ∷ filter test xs) (filter test xs))) ≡ map f (filter test (reverse (x ∷ xs)))
    by true is rest =
        ap (λ (b : Bool). reverse (map f (cond b (x ∷ filter test xs) (filter test xs)))) is
        ∙ reverse_push (f x) (map f (filter test xs))
        ∙ ap (λ (list : List Y). list ++ f x ∷ []) rest
        ∙ sym (behind ∙ ap (λ (b : Bool). map f (filter test (reverse xs)) ++ map f (cond b (x ∷ []) [])) is)
    by false is rest =
        ap (λ (b : Bool). reverse (map f (cond b (x ∷ filter test xs) (filter test xs)))) is
        ∙ rest
        ∙ sym (append-nil (map f (filter test (reverse xs))))
        ∙ sym (behind ∙ ap (λ (b : Bool). map f (filter test (reverse xs)) ++ map f (cond b (x ∷ []) [])) is)

-- one more that is chosen and mapped, or not
pub chosen_more : {X Y : Type 0} (f : X → Y) (test : X → Bool) (xs : List X) (k : ℕ) (x : X) → k < length xs → x ≡ get_or xs k x
    → map f (filter test (take (k + 1) xs)) ≡ map f (filter test (take k xs)) ++ map f (cond (test x) (x ∷ []) [])
chosen_more {X} f test xs k x below is =
    ap (λ (list : List X). map f (filter test list)) (take_more xs k x below ∙ ap (λ (one : X). take k xs ++ one ∷ []) (sym is))
    ∙ ap (map f) (filter-append test (take k xs) (x ∷ []))
    ∙ map_append f (filter test (take k xs)) (cond (test x) (x ∷ []) [])

-- one place more
pub place_more : {X : Type 0} (items : List X) (places : List ℕ) (k : ℕ) → k < length places
    → items_at items (take (k + 1) places) ≡ items_at items (take k places) ++ option_to_list (slice_get items (get_or places k 0))
place_more {X} items places k below =
    ap (items_at items) (take_more places k 0 below)
    ∙ filter_map-append (slice_get items) (take k places) (get_or places k 0 ∷ [])
    ∙ ap (λ (list : List X). items_at items (take k places) ++ list) (alone (slice_get items (get_or places k 0)))
  where
    alone : (found : Option X) → cons_option found [] ≡ option_to_list found
    alone None = refl
    alone (Some x) = refl

-- a list that is turned in its place
pub turned_whole : {X : Type 0} (list new : List X) → new ≡ reverse list → take (length list) (new ++ drop (length new) list) ≡ reverse list
turned_whole {X} list new same =
    let count : length new ≡ length list = ap (length {A = X}) same ∙ length-reverse list in
    ap (λ (rest : List X). take (length list) (new ++ rest)) (drop_all (length new) list (omega (arith, count)))
    ∙ ap (take (length list)) (append-nil new)
    ∙ take_all (length list) new (omega (arith, count))
    ∙ same

pub chosen_yes : {X Y : Type 0} (f : X → Y) (test : X → Bool) (xs : List X) (k : ℕ) (x : X) → k < length xs → x ≡ get_or xs k x → test x ≡ true
    → map f (filter test (take (k + 1) xs)) ≡ map f (filter test (take k xs)) ++ f x ∷ []
chosen_yes {X} f test xs k x below is passes =
    chosen_more f test xs k x below is ∙ ap (λ (b : Bool). map f (filter test (take k xs)) ++ map f (cond b (x ∷ []) [])) passes

pub chosen_no : {X Y : Type 0} (f : X → Y) (test : X → Bool) (xs : List X) (k : ℕ) (x : X) → k < length xs → x ≡ get_or xs k x → test x ≡ false
    → map f (filter test (take (k + 1) xs)) ≡ map f (filter test (take k xs))
chosen_no {X} f test xs k x below is fails =
    chosen_more f test xs k x below is
    ∙ ap (λ (b : Bool). map f (filter test (take k xs)) ++ map f (cond b (x ∷ []) [])) fails
    ∙ append-nil (map f (filter test (take k xs)))

pub mapped_more : {X Y : Type 0} (f : X → Y) (items : List X) (places : List ℕ) (k : ℕ) → k < length places
    → map f (items_at items (take (k + 1) places)) ≡ map f (items_at items (take k places)) ++ map f (option_to_list (slice_get items (get_or places k 0)))
mapped_more f items places k below =
    ap (map f) (place_more items places k below) ∙ map_append f (items_at items (take k places)) (option_to_list (slice_get items (get_or places k 0)))

-- the first item at places that passes a test: that of the next place, or one behind it
pub found_here : {X : Type 0} (test : X → Bool) (items : List X) (places : List ℕ) (i : ℕ) → i < length places
    → option_map_or test (slice_get items (get_or places i 0)) false ≡ true → find test (items_at items (drop i places)) ≡ slice_get items (get_or places i 0)
found_here {X} test items places i below passes =
    ap (λ (list : List ℕ). find test (items_at items list)) (drop_more places i 0 below) ∙ by (slice_get items (get_or places i 0)) passes
  where
    rest : List X
    rest = items_at items (drop (i + 1) places)

    by : (found : Option X) → option_map_or test found false ≡ true → find test (cons_option found rest) ≡ found
    by None e = absurd (false_true e)
    by (Some x) e = ap (λ (b : Bool). cond b (Some x) (find test rest)) e

pub passed_here : {X : Type 0} (test : X → Bool) (items : List X) (places : List ℕ) (i : ℕ) → i < length places
    → option_map_or test (slice_get items (get_or places i 0)) false ≡ false → find test (items_at items (drop (i + 1) places))
    ≡ find test (items_at items (drop i places))
passed_here {X} test items places i below fails =
    sym (ap (λ (list : List ℕ). find test (items_at items list)) (drop_more places i 0 below) ∙ by (slice_get items (get_or places i 0)) fails)
  where
    rest : List X
    rest = items_at items (drop (i + 1) places)

    by : (found : Option X) → option_map_or test found false ≡ false → find test (cons_option found rest) ≡ find test rest
    by None e = refl
    by (Some x) e = ap (λ (b : Bool). cond b (Some x) (find test rest)) e
