-- The numbers of names, as names come.
use Rattle.std.proofs.Common.{◌≡◌, ℕ, ◌+◌, ◌<◌, Bool, true, false, cond, List, [], ◌∷◌, ◌++◌, Option, Some, None, length, get_or, nat_eq, refl, sym, ap}
use Rattle.std.proofs.Common.{arith, suc}
use Rattle.std.specs.Option.{option_map}
use Rattle.std.specs.Ordering.{nat_cmp}
use Rattle.std.specs.BTreeMap.{is_at}
use Rattle.std.proofs.lemmas.Bool.{eqb-true}
use Rattle.std.proofs.lemmas.Bool.Decides.{nat_tests}
use Rattle.blob_entries.specs.Names.{number_of}

abbrev next : Option ℕ → Option ℕ
next number = option_map (λ (n : ℕ). n + 1) number

-- a number is a place in the list
pub number_within : (name : ℕ) (names : List ℕ) (number : ℕ) → number_of name names ≡ Some number → number < length names
number_within name [] number is = absurd (cc)
number_within name (other ∷ names) number is = by (number_within name names) (nat_eq name other) (number_of name names) refl is
  where
    by : ((n : ℕ) → number_of name names ≡ Some n → n < length names) → (b : Bool) (rest : Option ℕ) → number_of name names ≡ rest
        → cond {A = Option ℕ} b (Some 0) (next rest) ≡ Some number → number < length (other ∷ names)
    by on true rest at is = let zero_is : 0 ≡ number = cc in omega arith
    by on false None at is = absurd (cc)
    by on false (Some n) at is = let within : n < length names = on n at in let same : n + 1 ≡ number = cc in omega arith

-- the name is there
pub name_there : (name : ℕ) (names : List ℕ) (number : ℕ) → number_of name names ≡ Some number → get_or names number 0 ≡ name
name_there name [] number is = absurd (cc)
name_there name (other ∷ names) number is = by (name_there name names) (nat_eq name other) (number_of name names) refl refl is
  where
    by : ((n : ℕ) → number_of name names ≡ Some n → get_or names n 0 ≡ name) → (b : Bool) (rest : Option ℕ) → nat_eq name other ≡ b
        → number_of name names ≡ rest → cond {A = Option ℕ} b (Some 0) (next rest) ≡ Some number → get_or (other ∷ names) number 0 ≡ name
    by on true rest same at is = let zero_is : 0 ≡ number = cc in rw (← zero_is) (sym (eqb-true name other same))
    by on false None same at is = absurd (cc)
    by on false (Some n) same at is = let next_is : n + 1 ≡ number = cc in let suc_is : number ≡ suc n = omega arith in rw suc_is (on n at)

-- a name that was there keeps its number
pub number_kept : (name : ℕ) (names more : List ℕ) (number : ℕ) → number_of name names ≡ Some number → number_of name (names ++ more) ≡ Some number
number_kept name [] more number is = absurd (cc)
number_kept name (other ∷ names) more number is = by (number_kept name names more) (nat_eq name other) (number_of name names) refl is
  where
    by : ((n : ℕ) → number_of name names ≡ Some n → number_of name (names ++ more) ≡ Some n) → (b : Bool) (rest : Option ℕ) → number_of name names ≡ rest
        → cond {A = Option ℕ} b (Some 0) (next rest) ≡ Some number → cond {A = Option ℕ} b (Some 0) (next (number_of name (names ++ more))) ≡ Some number
    by on true rest at is = is
    by on false None at is = absurd (cc)
    by on false (Some n) at is = rw (on n at) is

-- a name that was not there has the next number where it is the one that comes
pub number_of_next : (name new : ℕ) (names : List ℕ) → number_of name names ≡ None
    → number_of name (names ++ new ∷ []) ≡ cond {A = Option ℕ} (nat_eq name new) (Some (length names)) None
number_of_next name new [] none = refl
number_of_next name new (other ∷ names) none = by (number_of_next name new names) (nat_eq name other) (number_of name names) refl none
  where
    on : (b : Bool) (n : ℕ) → next (cond {A = Option ℕ} b (Some n) None) ≡ cond {A = Option ℕ} b (Some (suc n)) None
    on true n = ap (λ (m : ℕ). Some m) (omega arith)
    on false n = refl

    by : (number_of name names ≡ None → number_of name (names ++ new ∷ []) ≡ cond {A = Option ℕ} (nat_eq name new) (Some (length names)) None)
        → (b : Bool) (rest : Option ℕ) → number_of name names ≡ rest → cond {A = Option ℕ} b (Some 0) (next rest) ≡ None
        → cond {A = Option ℕ} b (Some 0) (next (number_of name (names ++ new ∷ []))) ≡ cond {A = Option ℕ} (nat_eq name new) (Some (suc (length names))) None
    by step true rest at none = absurd (cc)
    by step false (Some n) at none = absurd (cc)
    by step false None at none = rw (step at) (on (nat_eq name new) (length names))

-- what a map has at a name after the next name was put into it
pub number_registered : (name new : ℕ) (names : List ℕ) → number_of new names ≡ None
    → cond {A = Option ℕ} (is_at (nat_cmp new) name) (Some (length names)) (number_of name names) ≡ number_of name (names ++ new ∷ [])
number_registered name new names fresh = by (number_of name names) refl
  where
    same : is_at (nat_cmp new) name ≡ nat_eq name new
    same = grind (arith, nat_tests)

    other : (number : ℕ) → number_of name names ≡ Some number → nat_eq name new ≡ false
    other number at = tell (nat_eq name new) refl
      where
        tell : (b : Bool) → nat_eq name new ≡ b → b ≡ false
        tell false is = refl
        tell true is = let equal : name ≡ new = eqb-true name new is in let gone : number_of name names ≡ None = rw equal fresh in absurd (cc)

    by : (rest : Option ℕ) → number_of name names ≡ rest
        → cond {A = Option ℕ} (is_at (nat_cmp new) name) (Some (length names)) rest ≡ number_of name (names ++ new ∷ [])
    by None at = rw (same, number_of_next name new names at) refl
    by (Some number) at = rw (same, number_kept name names (new ∷ []) number at, other number at) refl
