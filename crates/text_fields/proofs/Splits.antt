-- A text parted at its separators, and the text of some fields: each is the other's way back.
use Rattle.std.proofs.Common.{◌≡◌, ℕ, ◌+◌, ◌<◌, ◌≤◌, Bool, false, cond, not, List, [], ◌∷◌, ◌++◌, length, take, drop, All, Option, Some, None, position, eqb, ltb, refl, sym, ap, ◌∙◌, inl, inr, arith}
use Rattle.std.specs.List.{AllByRecursion, onto_first, position_or_len}
use Rattle.std.proofs.lemmas.Bool.{cases_Bool, eq-eqb, eqb-true, ltb-true, ltb-false, not-true}
use Rattle.std.proofs.lemmas.List.{append-nil}
use Rattle.std.proofs.lemmas.List.Splits.{length-slice_split, slice_split_at, slice_split_first, slice_split_none, slice_split-cons_yes, slice_split-cons_no}
use Rattle.std.proofs.lemmas.List.Sums.{prefix_len_passes}
use Rattle.text_fields.specs.Fields.{fields, joined}
use Rattle.text_fields.specs.Reading.{split}
use Rattle.text_fields.proofs.Spellings.{below}

abbrev pub is_at : ℕ → ℕ → Bool
is_at c byte = eqb byte c

-- no byte is the separator
abbrev pub HasNone : ℕ → List ℕ → Type 0
HasNone c text = All (λ byte. eqb byte c ≡ false) text

-- texts without the separator are what the text of them is parted into
pub split-joined : (c : ℕ) (word : List ℕ) (texts : List (List ℕ)) → HasNone c word → AllByRecursion (HasNone c) texts
    → split c (joined c (word ∷ texts)) ≡ word ∷ texts
split-joined c word [] free all = ap (split c) (append-nil word) ∙ slice_split_none (is_at c) word free
split-joined c word (text ∷ texts) free all =
    slice_split_at (is_at c) word c (text ++ fields c texts) free (eq-eqb c c refl)
    ∙ ap (λ (rest : List (List ℕ)). word ∷ rest) (split-joined c text texts all.0 all.1)

fields_onto : (c byte : ℕ) (texts : List (List ℕ)) → fields c (onto_first byte texts) ≡ c ∷ joined c (onto_first byte texts)
fields_onto c byte [] = refl
fields_onto c byte (text ∷ texts) = refl

joined_onto : (c byte : ℕ) (texts : List (List ℕ)) → joined c (onto_first byte texts) ≡ byte ∷ joined c texts
joined_onto c byte [] = refl
joined_onto c byte (text ∷ texts) = refl

-- a line has at least one text
fields_split : (c : ℕ) (line : List ℕ) → fields c (split c line) ≡ c ∷ joined c (split c line)
fields_split c [] = refl
fields_split c (byte ∷ line) =
    elim (cases_Bool (is_at c byte)) [
      | inl space ↦ rw (slice_split-cons_yes (is_at c) byte line space) refl
      | inr other ↦ rw (slice_split-cons_no (is_at c) byte line other) (fields_onto c byte (split c line))
    ]

-- a line is the line of the texts that it is parted into
pub joined-split : (c : ℕ) (line : List ℕ) → joined c (split c line) ≡ line
joined-split c [] = refl
joined-split c (byte ∷ line) =
    elim (cases_Bool (is_at c byte)) [
      | inl space ↦
          ap (joined c) (slice_split-cons_yes (is_at c) byte line space) ∙ fields_split c line
          ∙ ap (λ (first : ℕ). first ∷ joined c (split c line)) (sym (eqb-true byte c space))
          ∙ ap (λ (rest : List ℕ). byte ∷ rest) (joined-split c line)
      | inr other ↦
          ap (joined c) (slice_split-cons_no (is_at c) byte line other) ∙ joined_onto c byte (split c line)
          ∙ ap (λ (rest : List ℕ). byte ∷ rest) (joined-split c line)
    ]

at_none : (place end : ℕ) → cond (ltb place end) (Some place) None ≡ None → end ≤ place
at_none place end h =
    let pick : Bool → Option ℕ = λ below. cond below (Some place) None in
    elim (cases_Bool (ltb place end)) [
      | inl below ↦ cc (sym (ap pick below) ∙ h)
      | inr past ↦ ltb-false place end past
    ]

at_some : (place end at : ℕ) → cond (ltb place end) (Some place) None ≡ Some at → (place < end) × (place ≡ at)
at_some place end at h =
    let pick : Bool → Option ℕ = λ below. cond below (Some place) None in
    elim (cases_Bool (ltb place end)) [
      | inl below ↦ (ltb-true place end below, cc (sym (ap pick below) ∙ h))
      | inr past ↦ cc (sym (ap pick past) ∙ h)
    ]

-- a text without the separator is one field
pub split_none : (c : ℕ) (text : List ℕ) → position (is_at c) text ≡ None → split c text ≡ text ∷ []
split_none c text none =
    let end = at_none (position_or_len (is_at c) text) (length text) none in
    slice_split_none (is_at c) text (λ k d within.
    not-true _ (prefix_len_passes (λ byte. not (is_at c byte)) text k d (omega arith)))

-- the first field ends at the first separator
pub split_some : (c : ℕ) (text : List ℕ) (at : ℕ) → position (is_at c) text ≡ Some at
    → split c text ≡ take at text ∷ split c (drop (at + 1) text)
split_some c text at found =
    let h = at_some (position_or_len (is_at c) text) (length text) at found in
    slice_split_first (is_at c) text 0 h.0 ∙ ap (λ (i : ℕ). take i text ∷ split c (drop (i + 1) text)) h.1

-- a line has a text, though it may be empty
pub split_not_empty : (c : ℕ) (text : List ℕ) → split c text ≡ [] → ⊥
split_not_empty c text none = let count = length-slice_split (is_at c) text in omega (arith, count, ap length none)

-- a text of one field is that field
pub split_one : (c : ℕ) (text : List ℕ) → length (split c text) ≡ 1 → split c text ≡ text ∷ []
split_one c text one = go (position (is_at c) text) refl
  where
    go : (found : Option ℕ) → position (is_at c) text ≡ found → split c text ≡ text ∷ []
    go None none = split_none c text none
    go (Some at) found =
        let two = ap length (split_some c text at found) in
        let rest = length-slice_split (is_at c) (drop (at + 1) text) in
        absurd (omega (arith, one, two, rest))

-- one field more was passed over
pub one_passed : (c : ℕ) (text : List ℕ) (at : ℕ) → position (is_at c) text ≡ Some at
    → (length (split c text) ≡ 1 + length (split c (drop (at + 1) text))) × (at < length text)
one_passed c text at found =
    let h = at_some (position_or_len (is_at c) text) (length text) at found in
    (omega (arith, ap length (split_some c text at found)), omega (arith, h.0, h.1))
