-- A list that is put item by item.
use Rattle.std.proofs.Common.{◌≡◌, ℕ, suc, ◌+◌, ◌<◌, List, [], ◌∷◌, ◌++◌, length, map, take, drop, get_or, Result, Ok, Err, sym, ap, ◌∙◌, subst}
use Rattle.std.proofs.Math.Seq.{split_at}
use Rattle.std.proofs.lemmas.Grind.{flat_map-append}
use Rattle.std.proofs.lemmas.List.{append-nil, map-append, take_more}
use Rattle.blob_words.specs.declared.fault.Failed.{Failed}
use Rattle.text_fields.specs.Fields.{fields}
use Rattle.text_fields.specs.Output.{Output, Puts, Stops, IsPut}
use Rattle.text_fields.proofs.Outputs.{puts_then, stops_early}

-- fields, and more of them
pub fields-append : (separator : ℕ) (xs ys : List (List ℕ)) → fields separator (xs ++ ys) ≡ fields separator xs ++ fields separator ys
fields-append separator xs ys = flat_map-append (λ text. separator ∷ text) xs ys

pub mapped-append : {X : Type 0} (separator : ℕ) (spell : X → List ℕ) (xs ys : List X)
    → fields separator (map spell (xs ++ ys)) ≡ fields separator (map spell xs) ++ fields separator (map spell ys)
mapped-append separator spell xs ys = ap (fields separator) (map-append spell xs ys) ∙ fields-append separator (map spell xs) (map spell ys)

-- a spelling and a line feed
abbrev pub with_feed : {X : Type 0} → (X → List ℕ) → X → List ℕ
with_feed spell x = spell x ++ 10 ∷ []

pub one_field : {X : Type 0} (separator : ℕ) (spell : X → List ℕ) (x : X) → fields separator (map spell (x ∷ [])) ≡ separator ∷ spell x
one_field separator spell x = append-nil (separator ∷ spell x)

-- one item more was put
pub each_more : {X : Type 0} (whole : List X → List ℕ) (i : ℕ) (items : List X) (x : X) (t : List ℕ) (a b c : Output)
    → ((xs ys : List X) → whole (xs ++ ys) ≡ whole xs ++ whole ys) → whole (x ∷ []) ≡ t → i < length items → x ≡ get_or items i x
    → Puts a b (whole (take i items)) → Puts b c t → Puts a c (whole (take (i + 1) items))
each_more whole i items x t a b c parts one within is put more =
    let text : whole (take (i + 1) items) ≡ whole (take i items) ++ t =
    ap whole (take_more items i x within ∙ ap (λ y. take i items ++ y ∷ []) (sym is)) ∙ parts (take i items) (x ∷ []) ∙ ap
    (λ (s : List ℕ). whole (take i items) ++ s) one in
    subst (Puts a c) (sym text) (puts_then a b c _ _ (Ok tt) put more)

-- the sink failed at an item
pub each_stops : {X : Type 0} (whole : List X → List ℕ) (i : ℕ) (items : List X) (x : X) (t : List ℕ) (a b c : Output) (failed : Failed)
    → ((xs ys : List X) → whole (xs ++ ys) ≡ whole xs ++ whole ys) → whole (x ∷ []) ≡ t → i < length items → x ≡ get_or items i x
    → Puts a b (whole (take i items)) → Stops b c t → Stops a c (whole items)
each_stops whole i items x t a b c failed parts one within is put stop =
    let items_are : items ≡ take i items ++ x ∷ drop (suc i) items = split_at items i x within ∙ ap (λ y. take i items ++ y ∷ drop (suc i) items) (sym is) in
    let text : whole items ≡ whole (take i items) ++ (t ++ whole (drop (suc i) items)) =
    ap whole items_are ∙ parts (take i items) (x ∷ drop (suc i) items)
    ∙ ap (λ (s : List ℕ). whole (take i items) ++ s) (parts (x ∷ []) (drop (suc i) items) ∙ ap (λ (s : List ℕ). s ++ whole (drop (suc i) items)) one) in
    subst (Stops a c) (sym text) (puts_then a b c _ _ (Err failed) put (stops_early b c _ _ stop))

-- fields are put, and then further ones
pub heads_then : (a b c : Output) (separator : ℕ) (xs ys : List (List ℕ)) (r : Result (Unit {0}) Failed)
    → Puts a b (fields separator xs) → IsPut b c (fields separator ys) r → IsPut a c (fields separator (xs ++ ys)) r
heads_then a b c separator xs ys r put more =
    subst (λ (t : List ℕ). IsPut a c t r) (sym (fields-append separator xs ys)) (puts_then a b c _ _ r put more)

pub heads_stop : (a b : Output) (separator : ℕ) (xs ys : List (List ℕ)) → Stops a b (fields separator xs) → Stops a b (fields separator (xs ++ ys))
heads_stop a b separator xs ys stop = subst (Stops a b) (sym (fields-append separator xs ys)) (stops_early a b _ _ stop)
