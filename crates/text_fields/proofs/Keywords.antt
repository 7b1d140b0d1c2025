-- Words of a list are found by their texts.
use Rattle.std.proofs.Common.{◌≡◌, ◌≢◌, ℕ, ◌+◌, ◌<◌, ◌≤◌, List, [], ◌∷◌, length, get_or, drop, Option, Some, None, Bool, true, false, if◌then◌else◌, refl, sym, ap, ◌∙◌}
use Rattle.std.specs.Str.{bytes_eq}
use Rattle.std.proofs.lemmas.List.{drop_more}
use Rattle.std.proofs.Math.ListN.{drop_of_length-le}
use Rattle.std.proofs.lemmas.Slice.Eq.{bytes_eq-Decides}
use Rattle.text_fields.specs.Keyword.{look_up, IsWordOf}

some_same : {W : Type 0} (x y : W) → Some x ≡ Some y → x ≡ y
some_same x y e = cc

-- where each word is found by its own text, no two have one text
pub same_by_text : {W : Type 0} (text_of : W → List ℕ) (words : List W) → ((word : W) → look_up text_of words (text_of word) ≡ Some word)
    → (x y : W) → text_of x ≡ text_of y → x ≡ y
same_by_text text_of words found x y same = some_same x y (sym (found x) ∙ ap (look_up text_of words) same ∙ found y)

first_has_text : {W : Type 0} (text_of : W → List ℕ) (first : W) (rest : Option W) (text : List ℕ) (word : W) (b : Bool) → bytes_eq (text_of first) text ≡ b
    → (rest ≡ Some word → text ≡ text_of word) → (if b then Some first else rest) ≡ Some word → text ≡ text_of word
first_has_text text_of first rest text word true same later is = sym ((bytes_eq-Decides (text_of first) text).0 same) ∙ ap text_of (some_same first word is)
first_has_text text_of first rest text word false other later is = later is

-- the word that is found has the text
has_text : {W : Type 0} (text_of : W → List ℕ) (words : List W) (text : List ℕ) (word : W) → look_up text_of words text ≡ Some word → text ≡ text_of word
has_text text_of [] text word is = absurd cc
has_text text_of (first ∷ words) text word is =
    first_has_text text_of first (look_up text_of words text) text word (bytes_eq (text_of first) text) refl (has_text text_of words text word) is

-- where each word is found by its own text, any text finds its word
pub found_is : {W : Type 0} (text_of : W → List ℕ) (words : List W) (text : List ℕ) → ((word : W) → look_up text_of words (text_of word) ≡ Some word)
    → (found : Option W) → found ≡ look_up text_of words text → IsWordOf text_of text found
found_is text_of words text all None is = λ word same. let other : None ≡ Some word = is ∙ ap (look_up text_of words) same ∙ all word in absurd cc
found_is text_of words text all (Some word) is = has_text text_of words text word (sym is)

passed : {W : Type 0} (text_of : W → List ℕ) (first : W) (rest : Option W) (text : List ℕ) (b : Bool) → bytes_eq (text_of first) text ≡ b
    → text ≢ text_of first → (if b then Some first else rest) ≡ rest
passed text_of first rest text true same other = absurd (other (sym ((bytes_eq-Decides (text_of first) text).0 same)))
passed text_of first rest text false same other = refl

-- the word at a place has another text, so it is passed over
pub passes_over : {W : Type 0} (text_of : W → List ℕ) (words : List W) (text its : List ℕ) (i : ℕ) (word : W) → i < length words → word ≡ get_or words i word
    → its ≡ text_of word → bytes_eq text its ≡ false → look_up text_of (drop i words) text ≡ look_up text_of (drop (i + 1) words) text
passes_over text_of words text its i word within is its_is differ =
    let other : text ≢ text_of word = λ same. let equal = (bytes_eq-Decides text its).1 (same ∙ sym its_is) in absurd cc in
    ap (λ ws. look_up text_of ws text) (drop_more words i word within ∙ ap (λ w. w ∷ drop (i + 1) words) (sym is))
    ∙ passed text_of word (look_up text_of (drop (i + 1) words) text) text (bytes_eq (text_of word) text) refl other

-- the word at a place has the text, so it is found
pub finds_at : {W : Type 0} (text_of : W → List ℕ) (words : List W) (text its : List ℕ) (i : ℕ) (word : W) → i < length words → word ≡ get_or words i word
    → its ≡ text_of word → bytes_eq text its ≡ true → look_up text_of (drop i words) text ≡ Some word
finds_at text_of words text its i word within is its_is equal =
    let same : text_of word ≡ text = sym its_is ∙ sym ((bytes_eq-Decides text its).0 equal) in
    ap (λ ws. look_up text_of ws text) (drop_more words i word within ∙ ap (λ w. w ∷ drop (i + 1) words) (sym is))
    ∙ ap (λ b. if b then Some word else look_up text_of (drop (i + 1) words) text) ((bytes_eq-Decides (text_of word) text).1 same)

-- past the last word there is none
pub none_left : {W : Type 0} (text_of : W → List ℕ) (words : List W) (text : List ℕ) (i : ℕ) → length words ≤ i → look_up text_of (drop i words) text ≡ None
none_left text_of words text i past = ap (λ ws. look_up text_of ws text) (drop_of_length-le words past)
