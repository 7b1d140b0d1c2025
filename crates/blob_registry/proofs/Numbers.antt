-- Lists of numbers, as numbers come and go.
use Rattle.std.proofs.Common.{◌≡◌, ◌≢◌, ◌⊎◌, inl, inr, ℕ, zero, suc, ◌+◌, ◌-◌, ◌<◌, ◌≤◌, Bool, true, false, cond, ◌||◌, List, [], ◌∷◌, ◌++◌, Option}
use Rattle.std.proofs.Common.{Some, None, length, get_or, take, drop, nat_eq, nat_lt, refl, sym, ap, ◌∙◌, subst, arith}
use Rattle.std.specs.Prelude.{is_some, slice_get}
use Rattle.std.specs.Option.{option_map_or, option_to_list}
use Rattle.std.specs.List.{AllByRecursion, position, position_or_len}
use Rattle.std.proofs.lemmas.Bool.{eqb-true}
use Rattle.std.proofs.lemmas.Bool.Decides.{nat_tests}
use Rattle.std.proofs.lemmas.Option.{slice_get-get_or}
use Rattle.std.proofs.lemmas.List.{get_or_push, length_push}
use Rattle.std.proofs.lemmas.List.Sums.{fails_before_first}
use Rattle.blob_registry.specs.Numbers.{ends_in, is_among, with_last, without, AreBelow, IsRising}

-- cases on a test
pub split_or : (a b : Bool) → (a || b) ≡ false → (a ≡ false) × (b ≡ false)
split_or false b is = (refl, is)
split_or true b is = absurd (cc)

pub either_or : (a b : Bool) → (a || b) ≡ true → (a ≡ true) ⊎ (b ≡ true)
either_or true b is = inl refl
either_or false b is = inr is

pub same_eq : (n : ℕ) → nat_eq n n ≡ true
same_eq n = grind arith

pub apart_eq : (a b : ℕ) → a ≢ b → nat_eq a b ≡ false
apart_eq a b apart = by (nat_eq a b) refl
  where
    by : (r : Bool) → nat_eq a b ≡ r → r ≡ false
    by false is = refl
    by true is = absurd (apart (eqb-true a b is))

-- a list with one number more
pub among_more : (other number : ℕ) (list : List ℕ) → is_among other (list ++ number ∷ []) ≡ (is_among other list || nat_eq number other)
among_more other number [] = by (nat_eq number other)
  where
    by : (b : Bool) → (b || false) ≡ (false || b)
    by true = refl
    by false = refl
among_more other number (first ∷ list) = by (nat_eq first other) (among_more other number list)
  where
    by : (b : Bool) → is_among other (list ++ number ∷ []) ≡ (is_among other list || nat_eq number other)
        → (b || is_among other (list ++ number ∷ [])) ≡ ((b || is_among other list) || nat_eq number other)
    by true on = refl
    by false on = on

pub among_at : (list : List ℕ) (i : ℕ) → i < length list → is_among (get_or list i 0) list ≡ true
among_at [] i inside = absurd (omega arith)
among_at (first ∷ list) zero inside = rw (same_eq first) refl
among_at (first ∷ list) (suc i) inside = by (nat_eq first (get_or list i 0)) (among_at list i (omega arith))
  where
    by : (b : Bool) → is_among (get_or list i 0) list ≡ true → (b || is_among (get_or list i 0) list) ≡ true
    by true rest = refl
    by false rest = rest

-- what is among the first of a list is among all
pub among_take : (other : ℕ) (list : List ℕ) (n : ℕ) → is_among other (take n list) ≡ true → is_among other list ≡ true
among_take other [] zero among = among
among_take other [] (suc n) among = among
among_take other (first ∷ list) zero among = absurd (cc)
among_take other (first ∷ list) (suc n) among = by (nat_eq first other) among (among_take other list n)
  where
    by : (b : Bool) → (b || is_among other (take n list)) ≡ true → (is_among other (take n list) ≡ true → is_among other list ≡ true)
        → (b || is_among other list) ≡ true
    by true is rest = refl
    by false is rest = rest is

-- the first place of a number
pub without_at : (number : ℕ) (list : List ℕ) (i : ℕ) → i < length list → nat_eq (get_or list i 0) number ≡ true
    → ((k : ℕ) → k < i → nat_eq (get_or list k 0) number ≡ false)
    → take i list ++ drop (i + 1) list ≡ without number list
without_at number [] i inside is before = absurd (omega arith)
without_at number (first ∷ list) zero inside is before = rw is refl
without_at number (first ∷ list) (suc i) inside is before =
    let next : suc i + 1 ≡ suc (i + 1) = omega arith in
    let apart : nat_eq first number ≡ false = before 0 (omega arith) in
    rw (next, apart) (ap (λ (rest : List ℕ). first ∷ rest) (without_at number list i (omega arith) is (λ k below. before (suc k) (omega arith))))

pub without_nowhere : (number : ℕ) (list : List ℕ) → ((k : ℕ) → k < length list → nat_eq (get_or list k 0) number ≡ false) → list ≡ without number list
without_nowhere number [] before = refl
without_nowhere number (first ∷ list) before =
    let apart : nat_eq first number ≡ false = before 0 (omega arith) in
    rw apart (ap (λ (rest : List ℕ). first ∷ rest) (without_nowhere number list (λ k below. before (suc k) (omega arith))))

pub nowhere : (p : ℕ → Bool) (list : List ℕ) → position p list ≡ None → (k : ℕ) → k < length list → p (get_or list k 0) ≡ false
nowhere p list is k inside = by (nat_lt (position_or_len p list) (length list)) refl is
  where
    by : (b : Bool) → nat_lt (position_or_len p list) (length list) ≡ b → cond {A = Option ℕ} b (Some (position_or_len p list)) None ≡ None
        → p (get_or list k 0) ≡ false
    by true below none = absurd (cc)
    by false not_below none =
        let past : length list ≤ position_or_len p list = grind (arith, nat_tests) in
        fails_before_first p list k 0 (omega arith)

pub without_absent : (number : ℕ) (list : List ℕ) → is_among number list ≡ false → without number list ≡ list
without_absent number [] absent = refl
without_absent number (first ∷ list) absent =
    let parts = split_or (nat_eq first number) (is_among number list) absent in
    rw parts.0 (ap (λ (rest : List ℕ). first ∷ rest) (without_absent number list parts.1))

pub without_pushed : (number : ℕ) (list : List ℕ) → is_among number list ≡ false → without number (list ++ number ∷ []) ≡ list
without_pushed number [] absent = rw (same_eq number) refl
without_pushed number (first ∷ list) absent =
    let parts = split_or (nat_eq first number) (is_among number list) absent in
    rw parts.0 (ap (λ (rest : List ℕ). first ∷ rest) (without_pushed number list parts.1))

-- the last of a list
pub ends_append : (number last : ℕ) (list : List ℕ) → ends_in number (list ++ last ∷ []) ≡ nat_eq last number
ends_append number last list =
    let place : length (list ++ last ∷ []) - 1 ≡ length list = omega (arith, length_push list last) in
    let here : slice_get (list ++ last ∷ []) (length list) ≡ Some last =
    slice_get-get_or (list ++ last ∷ []) (length list) 0 (omega (arith, length_push list last))
    ∙ ap (λ (n : ℕ). Some n) (get_or_push list last 0 (length list) refl) in
    rw (place, here) refl

pub ends_among : (number : ℕ) (list : List ℕ) → ends_in number list ≡ true → is_among number list ≡ true
ends_among number [] ends = absurd (cc)
ends_among number (first ∷ list) ends =
    let place : length (first ∷ list) - 1 < length (first ∷ list) = omega arith in
    let here = slice_get-get_or (first ∷ list) (length (first ∷ list) - 1) 0 place in
    let is : nat_eq (get_or (first ∷ list) (length (first ∷ list) - 1) 0) number ≡ true = sym
    (ap (λ (last : Option ℕ). option_map_or (λ (n : ℕ). nat_eq n number) last false) here) ∙ ends in
    subst (λ (n : ℕ). is_among n (first ∷ list) ≡ true) (eqb-true (get_or (first ∷ list) (length (first ∷ list) - 1) 0) number is)
    (among_at (first ∷ list) (length (first ∷ list) - 1) place)

pub with_fresh : (number : ℕ) (list : List ℕ) → is_among number list ≡ false → with_last number list ≡ list ++ number ∷ []
with_fresh number list absent = by (ends_in number list) refl
  where
    by : (b : Bool) → ends_in number list ≡ b → cond b list (list ++ number ∷ []) ≡ list ++ number ∷ []
    by false is = refl
    by true is = let among : is_among number list ≡ true = ends_among number list is in absurd (cc)

pub with_twice : (number : ℕ) (list : List ℕ) → with_last number (list ++ number ∷ []) ≡ list ++ number ∷ []
with_twice number list = rw (ends_append number number list, same_eq number) refl

-- rising lists
pub all_weaker : {P Q : ℕ → Type 0} → (list : List ℕ) → ((n : ℕ) → P n → Q n) → AllByRecursion P list → AllByRecursion Q list
all_weaker [] then all = tt
all_weaker (first ∷ list) then all = (then first all.0, all_weaker list then all.1)

all_without : (P : ℕ → Type 0) (number : ℕ) (list : List ℕ) → AllByRecursion P list → AllByRecursion P (without number list)
all_without P number [] all = tt
all_without P number (first ∷ list) all = by (nat_eq first number) (all_without P number list all.1)
  where
    by : (b : Bool) → AllByRecursion P (without number list) → AllByRecursion P (cond b list (first ∷ without number list))
    by true rest = all.1
    by false rest = (all.0, rest)

all_last : (P : ℕ → Type 0) (number : ℕ) (list : List ℕ) → AllByRecursion P (list ++ number ∷ []) → P number
all_last P number [] all = all.0
all_last P number (first ∷ list) all = all_last P number list all.1

pub rising_without : (number : ℕ) (list : List ℕ) → IsRising list → IsRising (without number list)
rising_without number [] rising = tt
rising_without number (first ∷ list) rising = by (nat_eq first number) (rising_without number list rising.1)
  where
    by : (b : Bool) → IsRising (without number list) → IsRising (cond b list (first ∷ without number list))
    by true rest = rising.1
    by false rest = (all_without (λ (other : ℕ). first < other) number list rising.0, rest)

without_above : (number : ℕ) (list : List ℕ) → AllByRecursion (λ (other : ℕ). number < other) list → without number list ≡ list
without_above number [] all = refl
without_above number (first ∷ list) all =
    let above : number < first = all.0 in
    let apart : nat_eq first number ≡ false = apart_eq first number (λ equal. omega (arith, above, equal)) in
    rw apart (ap (λ (rest : List ℕ). first ∷ rest) (without_above number list all.1))

pub without_twice : (number : ℕ) (list : List ℕ) → IsRising list → without number (without number list) ≡ without number list
without_twice number [] rising = refl
without_twice number (first ∷ list) rising = by (nat_eq first number) refl (without_twice number list rising.1)
  where
    by : (b : Bool) → nat_eq first number ≡ b → without number (without number list) ≡ without number list
        → without number (cond b list (first ∷ without number list)) ≡ cond b list (first ∷ without number list)
    by true is rest = without_above number list (subst (λ (n : ℕ). AllByRecursion (λ (other : ℕ). n < other) list) (eqb-true first number is) rising.0)
    by false is rest = rw is (ap (λ (others : List ℕ). first ∷ others) rest)

pub without_last : (number : ℕ) (list : List ℕ) → IsRising (list ++ number ∷ []) → list ≡ without number (list ++ number ∷ [])
without_last number [] rising = rw (same_eq number) refl
without_last number (first ∷ list) rising =
    let below : first < number = all_last (λ (other : ℕ). first < other) number list rising.0 in
    let apart : nat_eq first number ≡ false = apart_eq first number (λ equal. omega (arith, below, equal)) in
    rw apart (ap (λ (rest : List ℕ). first ∷ rest) (without_last number list rising.1))

-- the list whose last was taken
pub without_popped : (number : ℕ) (old now : List ℕ) (last : Option ℕ) → ends_in number old ≡ true → IsRising old → old ≡ now ++ option_to_list last
    → is_some last ≡ true → now ≡ without number old
without_popped number old now None ends rising is some = absurd (cc)
without_popped number old now (Some n) ends rising is some =
    let same : n ≡ number = eqb-true n number (sym (ends_append number n now) ∙ ap (ends_in number) (sym is) ∙ ends) in
    let whole : old ≡ now ++ number ∷ [] = is ∙ ap (λ (m : ℕ). now ++ m ∷ []) same in
    without_last number now (subst IsRising whole rising) ∙ ap (without number) (sym whole)

-- a number above all of them comes to the end
all_pushed : (P : ℕ → Type 0) (number : ℕ) (list : List ℕ) → AllByRecursion P list → P number → AllByRecursion P (list ++ number ∷ [])
all_pushed P number [] all is = (is, tt)
all_pushed P number (first ∷ list) all is = (all.0, all_pushed P number list all.1 is)

pub below_rest : (bound first : ℕ) (list : List ℕ) → AreBelow bound (first ∷ list) → (first < bound) × AreBelow bound list
below_rest bound first list below = (below first (rw (same_eq first) refl), λ n among. below n (by (nat_eq first n) n among))
  where
    by : (b : Bool) (n : ℕ) → is_among n list ≡ true → (b || is_among n list) ≡ true
    by true n among = refl
    by false n among = among

pub rising_pushed : (number : ℕ) (list : List ℕ) → IsRising list → AreBelow number list → IsRising (list ++ number ∷ [])
rising_pushed number [] rising below = (tt, tt)
rising_pushed number (first ∷ list) rising below =
    let parts = below_rest number first list below in
    (all_pushed (λ (other : ℕ). first < other) number list rising.0 parts.0, rising_pushed number list rising.1 parts.1)

pub below_absent : (number : ℕ) (list : List ℕ) → AreBelow number list → is_among number list ≡ false
below_absent number list below = by (is_among number list) refl
  where
    by : (b : Bool) → is_among number list ≡ b → b ≡ false
    by false is = refl
    by true is = absurd (omega (arith, below number is))

-- a list that ends in something isn't empty
pub ends_some : (number : ℕ) (list : List ℕ) → ends_in number list ≡ true → 0 < length list
ends_some number [] ends = absurd (cc)
ends_some number (first ∷ list) ends = omega arith
