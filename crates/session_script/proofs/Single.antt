-- A line has at most one fault.
use Rattle.std.proofs.Common.{◌≡◌, ℕ, ◌⊎◌, ◌<◌, ◌^◌, List, [], ◌∷◌, map, take, drop, decimal, inl, inr, refl, sym, ◌∙◌, subst}
use Rattle.std.specs.List.{AllByRecursion}
use Rattle.session_script.specs.Fault.{IsPartFault, IsFirstPartFault, AreNoLimits, IsBuildCount, IsBuildFault, IsLimitsFault, IsOwnFault, IsWordsFault, IsLineFault, kinds_of, kinds_of_letter}
use Rattle.text_fields.specs.Kind.{AllSpell, IsFirstFault, IsRowFault}
use Rattle.text_fields.specs.Reading.{split}
use Rattle.session_script.specs.declared.letter.Letter.{Letter}
use Rattle.text_fields.specs.declared.line_fault.LineFault.{LineFault}
use Rattle.session_script.specs.declared.word.Word.{Word}
use Rattle.session_script.specs.declared.word.Word.TheVariants as words
use Rattle.text_fields.proofs.Faults.{first_no_fault, row_no_fault}
use Rattle.session_script.proofs.Lines.{part_no_fault}
use Rattle.session_script.proofs.Words.{same_word, same_letter}
use Rattle.text_fields.proofs.Single.{first_once, row_once}

part_once : (texts : List (List ℕ)) (f g : LineFault) → IsPartFault f texts → IsPartFault g texts → f ≡ g
part_once [] f g a b = absurd a
part_once (first ∷ []) f g a b = a ∙ sym b
part_once (first ∷ second ∷ own) f g (inl a) (inl b) = a.1 ∙ sym b.1
part_once (first ∷ second ∷ own) f g (inl a) (inr b) = absurd (a.0 b.0 b.1)
part_once (first ∷ second ∷ own) f g (inr a) (inl b) = absurd (b.0 a.0 a.1)
part_once (first ∷ second ∷ own) f g (inr a) (inr b) =
    let same : a.0 ≡ b.0 = same_letter a.0 b.0 (sym a.1 ∙ b.1) in
    row_once (kinds_of_letter b.0) (second ∷ own) f g (subst (λ (l : Letter). IsRowFault (kinds_of_letter l) f (second ∷ own)) same a.2) b.2

parts_once : (texts : List (List ℕ)) (f g : LineFault) → IsFirstPartFault f texts → IsFirstPartFault g texts → f ≡ g
parts_once [] f g a b = absurd a
parts_once (text ∷ texts) f g (inl a) (inl b) = part_once (split 58 text) f g a b
parts_once (text ∷ texts) f g (inl a) (inr b) = absurd (part_no_fault f (split 58 text) b.0 a)
parts_once (text ∷ texts) f g (inr a) (inl b) = absurd (part_no_fault g (split 58 text) a.0 b)
parts_once (text ∷ texts) f g (inr a) (inr b) = parts_once texts f g a.1 b.1

-- seven numbers spell seven numbers
numbers_spelled : (numbers : List ℕ) → AllByRecursion (λ n. n < 2 ^ 64) numbers → AreNoLimits numbers → AllSpell (kinds_of words.Limits) (map decimal numbers)
numbers_spelled (a ∷ b ∷ c ∷ d ∷ e ∷ f ∷ g ∷ []) small wrong = (
  (a, small.0, refl),
  (
    (b, small.1.0, refl),
    (
      (c, small.1.1.0, refl),
      ((d, small.1.1.1.0, refl), ((e, small.1.1.1.1.0, refl), ((f, small.1.1.1.1.1.0, refl), ((g, small.1.1.1.1.1.1.0, refl), tt)))),
    ),
  ),
)
numbers_spelled numbers small wrong = absurd wrong

limits_once : (texts : List (List ℕ)) (f g : LineFault) → IsLimitsFault f texts → IsLimitsFault g texts → f ≡ g
limits_once texts f g (inl a) (inl b) = row_once (kinds_of words.Limits) texts f g a b
limits_once texts f g (inl a) (inr b) =
    absurd (row_no_fault (kinds_of words.Limits) f texts (subst (AllSpell (kinds_of words.Limits)) (sym b.2) (numbers_spelled b.0 b.1 b.3)) a)
limits_once texts f g (inr a) (inl b) =
    absurd (row_no_fault (kinds_of words.Limits) g texts (subst (AllSpell (kinds_of words.Limits)) (sym a.2) (numbers_spelled a.0 a.1 a.3)) b)
limits_once texts f g (inr a) (inr b) = a.4 ∙ sym b.4

-- the first three fields, and what stands behind them
heads_once : (texts : List (List ℕ)) (f : LineFault) → IsBuildCount texts → IsFirstFault (kinds_of words.Build) f texts → AllSpell (kinds_of words.Build)
    (take 3 texts) → ⊥
heads_once [] f count wrong all = absurd all
heads_once (a ∷ []) f count wrong all = absurd all.1
heads_once (a ∷ b ∷ []) f count wrong all = absurd all.1.1
heads_once (a ∷ b ∷ c ∷ texts) f count wrong all = first_no_fault (kinds_of words.Build) f (a ∷ b ∷ c ∷ []) all wrong

behind_once : (texts : List (List ℕ)) (f g : LineFault) → IsBuildCount texts
    → IsFirstFault (kinds_of words.Build) f texts ⊎ (AllSpell (kinds_of words.Build) (take 3 texts) × IsFirstPartFault f (drop 3 texts))
    → IsFirstFault (kinds_of words.Build) g texts ⊎ (AllSpell (kinds_of words.Build) (take 3 texts) × IsFirstPartFault g (drop 3 texts)) → f ≡ g
behind_once texts f g count (inl a) (inl b) = first_once (kinds_of words.Build) texts f g a b
behind_once texts f g count (inl a) (inr b) = absurd (heads_once texts f count a b.0)
behind_once texts f g count (inr a) (inl b) = absurd (heads_once texts g count b a.0)
behind_once texts f g count (inr a) (inr b) = parts_once (drop 3 texts) f g a.1 b.1

build_once : (texts : List (List ℕ)) (f g : LineFault) → IsBuildFault f texts → IsBuildFault g texts → f ≡ g
build_once texts f g (inl a) (inl b) = a.1 ∙ sym b.1
build_once texts f g (inl a) (inr b) = absurd (a.0 b.0)
build_once texts f g (inr a) (inl b) = absurd (b.0 a.0)
build_once texts f g (inr a) (inr b) = behind_once texts f g a.0 a.1 b.1

own_once : (word : Word) (texts : List (List ℕ)) (f g : LineFault) → IsOwnFault word f texts → IsOwnFault word g texts → f ≡ g
own_once words.Limits texts f g a b = limits_once texts f g a b
own_once words.Limits2 texts f g a b = limits_once texts f g a b
own_once words.Build texts f g a b = build_once texts f g a b
own_once word texts f g a b = row_once (kinds_of word) texts f g a b

words_once : (texts : List (List ℕ)) (f g : LineFault) → IsWordsFault f texts → IsWordsFault g texts → f ≡ g
words_once [] f g a b = absurd a
words_once (first ∷ own) f g (inl a) (inl b) = a.1 ∙ sym b.1
words_once (first ∷ own) f g (inl a) (inr b) = absurd (a.0 b.0 b.1)
words_once (first ∷ own) f g (inr a) (inl b) = absurd (b.0 a.0 a.1)
words_once (first ∷ own) f g (inr a) (inr b) =
    let same : a.0 ≡ b.0 = same_word a.0 b.0 (sym a.1 ∙ b.1) in
    own_once b.0 own f g (subst (λ (w : Word). IsOwnFault w f own) same a.2) b.2

pub one_fault : (line : List ℕ) (f g : LineFault) → IsLineFault f line → IsLineFault g line → f ≡ g
one_fault line f g a b = words_once (split 32 line) f g a b
