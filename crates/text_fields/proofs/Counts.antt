-- What is counted is found by its word, and has one limit.
use Rattle.std.proofs.Common.{◌≡◌, ◌≢◌, ℕ, true, false, List, [], ◌∷◌, Some, refl, sym, ap, ◌∙◌}
use Rattle.std.specs.Str.{bytes_eq}
use Rattle.std.proofs.lemmas.Slice.Eq.{bytes_eq-Decides}
use Rattle.blob_words.specs.declared.counted.Counted.{Counted}
use Rattle.blob_words.specs.declared.counted.Counted.TheVariants as counts
use Rattle.text_fields.specs.Keyword.{look_up}
use Rattle.text_fields.proofs.Keywords.{same_by_text}
use Rattle.text_fields.specs.Counted.{counted_word, counted_limit, counted_fields}
use Rattle.text_fields.specs.declared.counted.TheConstants.{COUNTED}

first : (a b c d : List ℕ) → a ∷ b ∷ [] ≡ c ∷ d ∷ [] → a ≡ c
first a b c d same = cc

second : (a b c d : List ℕ) → a ∷ b ∷ [] ≡ c ∷ d ∷ [] → b ≡ d
second a b c d same = cc

pub counted_found : (counted : Counted) → look_up counted_word COUNTED (counted_word counted) ≡ Some counted
counted_found counts.Renderers = refl
counted_found counted = refl

pub same_counted : (x y : Counted) → counted_fields x ≡ counted_fields y → x ≡ y
same_counted x y same = same_by_text counted_word COUNTED counted_found x y (first _ _ _ _ same)

pub with_limit : (word limit its : List ℕ) (counted : Counted) → word ≡ counted_word counted → its ≡ counted_limit counted → bytes_eq limit its ≡ true
    → word ∷ limit ∷ [] ≡ counted_fields counted
with_limit word limit its counted word_is its_is equal =
    let limit_is : limit ≡ counted_limit counted = (bytes_eq-Decides limit its).0 equal ∙ its_is in cc

-- no word of what is counted, so no fields of it
pub no_word : (word limit : List ℕ) → ((counted : Counted) → word ≢ counted_word counted) → (counted : Counted) → word ∷ limit ∷ [] ≢ counted_fields counted
no_word word limit none counted same = none counted (first _ _ _ _ same)

-- the word with another limit
pub other_limit : (word limit its : List ℕ) (counted : Counted) → word ≡ counted_word counted → its ≡ counted_limit counted → bytes_eq limit its ≡ false
    → (other : Counted) → word ∷ limit ∷ [] ≢ counted_fields other
other_limit word limit its counted word_is its_is differ other same =
    let counted_is : other ≡ counted = same_by_text counted_word COUNTED counted_found other counted (sym (first _ _ _ _ same) ∙ word_is) in
    let limit_is : limit ≡ its = second _ _ _ _ same ∙ ap counted_limit counted_is ∙ sym its_is in
    let equal : bytes_eq limit its ≡ true = (bytes_eq-Decides limit its).1 limit_is in absurd cc
