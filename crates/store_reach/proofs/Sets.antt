-- Numbers as a set, and the numbers below a bound.
use Rattle.std.proofs.Common.{◌≡◌, ◌⊎◌, inl, inr, ℕ, suc, ◌+◌, ◌<◌, ◌≤◌, Bool, true, false, cond, ◌||◌, List, [], ◌∷◌, ◌++◌}
use Rattle.std.proofs.Common.{length, nat_eq, nat_lt, refl, sym, ap, ◌∙◌, subst, arith, append_assoc, append-nil}
use Rattle.std.specs.Prelude.{slice_index_or}
use Rattle.std.specs.List.{AllByRecursion}
use Rattle.std.proofs.lemmas.Bool.{eqb-true}
use Rattle.std.proofs.lemmas.Bool.Decides.{nat_tests}
use Rattle.blob_registry.specs.Dependents.{listed_if}
use Rattle.blob_registry.specs.Numbers.{is_among, IsRising}
use Rattle.blob_registry.proofs.Numbers.{apart_eq, same_eq}
use Rattle.store_reach.specs.Sets.{as_set, with_number}
use Rattle.store_reach.specs.Windows.{below, listed}

-- ---- who is in a set

or_twice : (a b : Bool) → (a || b) ≡ (a || (a || b))
or_twice true b = refl
or_twice false b = refl

or_swap : (a b c : Bool) → (a || (b || c)) ≡ (b || (a || c))
or_swap true true c = refl
or_swap true false c = refl
or_swap false true c = refl
or_swap false false c = refl

pub among_with : (n m : ℕ) (list : List ℕ) → is_among n (with_number m list) ≡ (nat_eq m n || is_among n list)
among_with n m [] = refl
among_with n m (other ∷ others) = by (among_with n m others) (nat_lt m other) (nat_eq m other) refl
  where
    by : is_among n (with_number m others) ≡ (nat_eq m n || is_among n others) → (less same : Bool) → nat_eq m other ≡ same
        → is_among n (cond less (m ∷ other ∷ others) (cond same (other ∷ others) (other ∷ with_number m others))) ≡ (nat_eq m n || is_among n (other ∷ others))
    by on true same is = refl
    by on false true is = let equal : m ≡ other = eqb-true m other is in rw equal (or_twice (nat_eq other n) (is_among n others))
    by on false false is = ap (λ (rest : Bool). nat_eq other n || rest) on ∙ or_swap (nat_eq other n) (nat_eq m n) (is_among n others)

pub among_set : (n : ℕ) (numbers : List ℕ) → is_among n (as_set numbers) ≡ is_among n numbers
among_set n [] = refl
among_set n (m ∷ numbers) = among_with n m (as_set numbers) ∙ ap (λ (rest : Bool). nat_eq m n || rest) (among_set n numbers)

-- ---- a set rises

all_above : (low high : ℕ) (list : List ℕ) → low < high → AllByRecursion (λ (other : ℕ). high < other) list → AllByRecursion (λ (other : ℕ). low < other) list
all_above low high [] less all = tt
all_above low high (first ∷ list) less all = let here : high < first = all.0 in (omega arith, all_above low high list less all.1)

all_with : (low m : ℕ) (list : List ℕ) → low < m → AllByRecursion (λ (other : ℕ). low < other) list
    → AllByRecursion (λ (other : ℕ). low < other) (with_number m list)
all_with low m [] less all = (less, tt)
all_with low m (other ∷ others) less all = by (all_with low m others less all.1) (nat_lt m other) (nat_eq m other)
  where
    by : AllByRecursion (λ (n : ℕ). low < n) (with_number m others) → (b same : Bool)
        → AllByRecursion (λ (n : ℕ). low < n) (cond b (m ∷ other ∷ others) (cond same (other ∷ others) (other ∷ with_number m others)))
    by on true same = (less, all)
    by on false true = all
    by on false false = (all.0, on)

rising_with : (m : ℕ) (list : List ℕ) → IsRising list → IsRising (with_number m list)
rising_with m [] rising = (tt, tt)
rising_with m (other ∷ others) rising = by (rising_with m others rising.1) (nat_lt m other) (nat_eq m other) refl refl
  where
    by : IsRising (with_number m others) → (less same : Bool) → nat_lt m other ≡ less → nat_eq m other ≡ same
        → IsRising (cond less (m ∷ other ∷ others) (cond same (other ∷ others) (other ∷ with_number m others)))
    by on true same is at = let under : m < other = grind (arith, nat_tests) in ((under, all_above m other others under rising.0), rising)
    by on false true is at = rising
    by on false false is at = let over : other < m = grind (arith, nat_tests) in (all_with other m others over rising.0, on)

pub set_rising : (numbers : List ℕ) → IsRising (as_set numbers)
set_rising [] = tt
set_rising (m ∷ numbers) = rising_with m (as_set numbers) (set_rising numbers)

-- ---- those below a bound

below_none : (bound : ℕ) (list : List ℕ) → AllByRecursion (λ (other : ℕ). bound < other) list → below bound list ≡ []
below_none bound [] all = refl
below_none bound (first ∷ list) all =
    let over : bound < first = all.0 in
    let past : nat_lt first bound ≡ false = grind (arith, nat_tests) in
    rw past (below_none bound list all.1)

below_one : (bound : ℕ) (list : List ℕ) → AllByRecursion (λ (other : ℕ). bound < other) list → below (bound + 1) list ≡ []
below_one bound [] all = refl
below_one bound (first ∷ list) all =
    let over : bound < first = all.0 in
    let past : nat_lt first (bound + 1) ≡ false = grind (arith, nat_tests) in
    rw past (below_one bound list all.1)

not_among : (bound : ℕ) (list : List ℕ) → AllByRecursion (λ (other : ℕ). bound < other) list → is_among bound list ≡ false
not_among bound [] all = refl
not_among bound (first ∷ list) all =
    let over : bound < first = all.0 in
    rw (apart_eq first bound (λ equal. omega (arith, over, equal))) (not_among bound list all.1)

pub below_next : (bound : ℕ) (list : List ℕ) → IsRising list → below (bound + 1) list ≡ below bound list ++ listed_if (is_among bound list) bound
below_next bound [] rising = refl
below_next bound (first ∷ list) rising = by (below_next bound list rising.1) (nat_lt first bound) (nat_eq first bound) refl refl
  where
    by : below (bound + 1) list ≡ below bound list ++ listed_if (is_among bound list) bound → (less same : Bool) → nat_lt first bound ≡ less
        → nat_eq first bound ≡ same
        → below (bound + 1) (first ∷ list) ≡ cond less (first ∷ below bound list) (below bound list) ++ listed_if (same || is_among bound list) bound
    by on true true is at = absurd (let under : first < bound = grind (arith, nat_tests) in let equal : first ≡ bound = eqb-true first bound at in omega arith)
    by on true false is at =
        let under : nat_lt first (bound + 1) ≡ true = grind (arith, nat_tests) in
        rw under (ap (λ (rest : List ℕ). first ∷ rest) on)
    by on false true is at =
        let equal : first ≡ bound = eqb-true first bound at in
        let under : nat_lt first (bound + 1) ≡ true = grind (arith, nat_tests) in
        let above : AllByRecursion (λ (other : ℕ). bound < other) list = subst (λ (n : ℕ). AllByRecursion (λ (other : ℕ). n < other) list) equal rising.0 in
        rw (under, below_one bound list above, below_none bound list above) (ap (λ (n : ℕ). n ∷ []) equal)
    by on false false is at =
        let past : nat_lt first (bound + 1) ≡ false = grind (arith, nat_tests) in
        rw past on

-- marks tell which numbers from a bound on are in the set
pub below_marks : (marks : List Bool) (bound : ℕ) (list : List ℕ) → IsRising list
    → ((place : ℕ) → place < length marks → slice_index_or marks place false ≡ is_among (bound + place) list)
    → below (bound + length marks) list ≡ below bound list ++ listed bound marks
below_marks [] bound list rising each =
    let same : bound + length {A = Bool} [] ≡ bound = omega arith in
    rw same (sym (append-nil (below bound list)))
below_marks (mark ∷ marks) bound list rising each =
    let next : bound + length (mark ∷ marks) ≡ (bound + 1) + length marks = omega arith in
    let start : bound + 0 ≡ bound = omega arith in
    let here : mark ≡ is_among bound list = each 0 (omega arith) ∙ ap (λ (n : ℕ). is_among n list) start in
    ap (λ (n : ℕ). below n list) next
    ∙ below_marks marks (bound + 1) list rising
    (λ place inside. let same : bound + suc place ≡ (bound + 1) + place = omega arith in
    each (suc place) (omega arith) ∙ ap (λ (n : ℕ). is_among n list) same)
    ∙ ap (λ (front : List ℕ). front ++ listed (bound + 1) marks) (below_next bound list rising)
    ∙ append_assoc (below bound list) (listed_if (is_among bound list) bound) (listed (bound + 1) marks)
    ∙ ap (λ (b : Bool). below bound list ++ (listed_if b bound ++ listed (bound + 1) marks)) (sym here)

-- between two bounds are none
pub below_gap : (low high : ℕ) (list : List ℕ) → low ≤ high → ((n : ℕ) → is_among n list ≡ true → (n < low) ⊎ (high ≤ n)) → below high list ≡ below low list
below_gap low high [] le apart = refl
below_gap low high (first ∷ list) le apart =
    rw (by (apart first (rw (same_eq first) refl)))
    (ap (λ (rest : List ℕ). cond (nat_lt first low) (first ∷ rest) rest) (below_gap low high list le (λ n among. apart n (later n among))))
  where
    by : (first < low) ⊎ (high ≤ first) → nat_lt first high ≡ nat_lt first low
    by (inl under) =
        let one : nat_lt first high ≡ true = grind (arith, nat_tests) in
        let other : nat_lt first low ≡ true = grind (arith, nat_tests) in one ∙ sym other
    by (inr over) =
        let one : nat_lt first high ≡ false = grind (arith, nat_tests) in
        let other : nat_lt first low ≡ false = grind (arith, nat_tests) in one ∙ sym other

    later : (n : ℕ) → is_among n list ≡ true → (nat_eq first n || is_among n list) ≡ true
    later n among = or_late (nat_eq first n)
      where
        or_late : (b : Bool) → (b || is_among n list) ≡ true
        or_late true = refl
        or_late false = among

-- all are below
pub below_all : (bound : ℕ) (list : List ℕ) → ((n : ℕ) → is_among n list ≡ true → n < bound) → below bound list ≡ list
below_all bound [] under = refl
below_all bound (first ∷ list) under =
    let here : first < bound = under first (rw (same_eq first) refl) in
    let is : nat_lt first bound ≡ true = grind (arith, nat_tests) in
    rw is (ap (λ (rest : List ℕ). first ∷ rest) (below_all bound list (λ n among. under n (later n among))))
  where
    later : (n : ℕ) → is_among n list ≡ true → (nat_eq first n || is_among n list) ≡ true
    later n among = or_late (nat_eq first n)
      where
        or_late : (b : Bool) → (b || is_among n list) ≡ true
        or_late true = refl
        or_late false = among

-- from 0 on
pub below_zero : (list : List ℕ) → below 0 list ≡ []
below_zero [] = refl
below_zero (first ∷ list) = let past : nat_lt first 0 ≡ false = grind (arith, nat_tests) in rw past (below_zero list)

-- the number of them is at most that of all
pub below_fewer : (bound : ℕ) (list : List ℕ) → length (below bound list) ≤ length list
below_fewer bound [] = omega arith
below_fewer bound (first ∷ list) = by (nat_lt first bound) (below_fewer bound list)
  where
    by : (b : Bool) → length (below bound list) ≤ length list → length (cond b (first ∷ below bound list) (below bound list)) ≤ length (first ∷ list)
    by true le = omega arith
    by false le = omega arith
