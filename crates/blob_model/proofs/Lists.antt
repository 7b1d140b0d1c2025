-- General lemmas on tests, lists and numbers that differ.
use Rattle.std.proofs.Common.{◌≡◌, ◌⊎◌, ℕ, zero, suc, ◌+◌, ◌≤◌, ◌<◌, ◌==◌, Bool, true, false, ◌&&◌, ◌||◌, not, List, [], ◌∷◌, ◌++◌, reverse, length, refl, ap, subst, sym, ◌∙◌, inl, inr, ⊎_elim, arith, Some, length-append}
use Rattle.std.proofs.lemmas.Bool.{eq-eqb, eqb-false, eqb-true, ne_eqb, or_parts}
use Rattle.std.proofs.lemmas.List.{reverse-append}
use Rattle.std.proofs.lemmas.List.Folds.{list_any-append}
use Rattle.std.proofs.lemmas.List.Sums.{sum_by-append, sum_by-cons}
use Rattle.std.proofs.lemmas.Map.Steps.{length-le_from_distinct_below}
use Rattle.std.specs.List.{AllByRecursion, IsDistinct, list_any}
use Rattle.std.specs.Prelude.{cond, filter, find, slice_get, sum_by}

pub all_more : {X : Type 0} (P : X → Type 0) (xs : List X) (x : X) → AllByRecursion P xs → P x → AllByRecursion P (xs ++ x ∷ [])
all_more P [] x all one = (one, tt)
all_more P (first ∷ xs) x all one = (all.0, all_more P xs x all.1 one)

-- what all have, all have in reverse
pub all_reverse : {X : Type 0} (P : X → Type 0) (xs : List X) → AllByRecursion P xs → AllByRecursion P (reverse xs)
all_reverse P [] all = tt
all_reverse P (x ∷ xs) all = subst (AllByRecursion P) (sym (reverse-append (x ∷ []) xs)) (all_more P (reverse xs) x (all_reverse P xs all.1) all.0)

-- what none has, none has that passes a filter
pub none_filtered : {X : Type 0} (test keep : X → Bool) (xs : List X) → list_any test xs ≡ false → list_any test (filter keep xs) ≡ false
none_filtered test keep [] e = refl
none_filtered {X = X} test keep (x ∷ xs) e =
    let parts = or_parts (test x) (list_any test xs) e in
    go (keep x) parts.0 (none_filtered test keep xs parts.1)
  where
    go : (b : Bool) → test x ≡ false → list_any test (filter keep xs) ≡ false → list_any test (cond b (x ∷ filter keep xs) (filter keep xs)) ≡ false
    go true head rest = rw (head, rest) refl
    go false head rest = rest

pub false_true : false ≡ true → ⊥
false_true e = cc

pub or_first : (x y : Bool) → x ≡ true → (x || y) ≡ true
or_first true y e = refl
or_first false y e = absurd (false_true e)

pub or_second : (x y : Bool) → y ≡ true → (x || y) ≡ true
or_second true y e = refl
or_second false y e = e

pub for_each : {X : Type 0} (P Q : X → Type 0) (xs : List X) → ((x : X) → P x → Q x) → AllByRecursion P xs → AllByRecursion Q xs
for_each P Q [] f all = tt
for_each P Q (x ∷ xs) f all = (f x all.0, for_each P Q xs f all.1)

-- each item has its own number among the numbers of all
pub all_numbered : {X : Type 0} (number : X → ℕ) (xs : List X) → AllByRecursion (λ (x : X). list_any (λ (each : X). number each == number x) xs ≡ true) xs
all_numbered number [] = tt
all_numbered {X = X} number (x ∷ xs) = (
  or_first (number x == number x) (list_any (λ (each : X). number each == number x) xs) (eq-eqb (number x) (number x) refl),
  for_each (λ (y : X). list_any (λ (each : X). number each == number y) xs ≡ true) (λ (y : X). list_any (λ (each : X). number each == number y) (x ∷ xs) ≡ true)
      xs
      (λ y e. or_second (number x == number y) (list_any (λ (each : X). number each == number y) xs) e) (all_numbered number xs),
)

pub both : (x y : Bool) → x ≡ true → y ≡ true → (x && y) ≡ true
both x y e f = rw (e, f) refl

-- a choice of two tests
pub or_cases : (x y : Bool) → (x || y) ≡ true → (x ≡ true) ⊎ (y ≡ true)
or_cases true y e = inl refl
or_cases false y e = inr e

pub any_append_first : {X : Type 0} (test : X → Bool) (xs ys : List X) → list_any test xs ≡ true → list_any test (xs ++ ys) ≡ true
any_append_first test [] ys e = absurd (false_true e)
any_append_first test (x ∷ xs) ys e =
    ⊎_elim (λ (here : test x ≡ true). or_first (test x) (list_any test (xs ++ ys)) here)
    (λ (more : list_any test xs ≡ true). or_second (test x) (list_any test (xs ++ ys)) (any_append_first test xs ys more))
    (or_cases (test x) (list_any test xs) e)

pub any_append_second : {X : Type 0} (test : X → Bool) (xs ys : List X) → list_any test ys ≡ true → list_any test (xs ++ ys) ≡ true
any_append_second test [] ys e = e
any_append_second test (x ∷ xs) ys e = or_second (test x) (list_any test (xs ++ ys)) (any_append_second test xs ys e)

pub any_reverse : {X : Type 0} (test : X → Bool) (xs : List X) → list_any test xs ≡ true → list_any test (reverse xs) ≡ true
any_reverse test [] e = absurd (false_true e)
any_reverse {X = X} test (x ∷ xs) e =
    let turned : list_any test (reverse xs ++ x ∷ []) ≡ true =
    ⊎_elim
    (λ (here : test x ≡ true). any_append_second test (reverse xs) (x ∷ []) (or_first (test x) false here))
    (λ (more : list_any test xs ≡ true). any_append_first test (reverse xs) (x ∷ []) (any_reverse test xs more))
    (or_cases (test x) (list_any test xs) e) in
    subst (λ (list : List X). list_any test list ≡ true) (sym (reverse-append (x ∷ []) xs)) turned

pub any_parts : {X : Type 0} (test : X → Bool) (xs ys : List X) → list_any test (xs ++ ys) ≡ true → (list_any test xs ≡ true) ⊎ (list_any test ys ≡ true)
any_parts test xs ys e = or_cases (list_any test xs) (list_any test ys) (sym (list_any-append test xs ys) ∙ e)

pub any_filtered : {X : Type 0} (test keep : X → Bool) (xs : List X) → list_any test (filter keep xs) ≡ true → list_any test xs ≡ true
any_filtered test keep [] e = e
any_filtered {X = X} test keep (x ∷ xs) e = go (keep x) e (any_filtered test keep xs)
  where
    go : (b : Bool) → list_any test (cond b (x ∷ filter keep xs) (filter keep xs)) ≡ true → (list_any test (filter keep xs) ≡ true → list_any test xs ≡ true)
        → (test x || list_any test xs) ≡ true
    go true f rest = ⊎_elim (λ (here : test x ≡ true). or_first (test x) (list_any test xs) here)
        (λ (more : list_any test (filter keep xs) ≡ true). or_second (test x) (list_any test xs) (rest more))
        (or_cases (test x) (list_any test (filter keep xs)) f)
    go false f rest = or_second (test x) (list_any test xs) (rest f)

pub any_up : {X : Type 0} (p q : X → Bool) (xs : List X) → ((x : X) → p x ≡ true → q x ≡ true) → list_any p xs ≡ true → list_any q xs ≡ true
any_up p q [] up e = absurd (false_true e)
any_up p q (x ∷ xs) up e =
    ⊎_elim (λ (here : p x ≡ true). or_first (q x) (list_any q xs) (up x here))
    (λ (more : list_any p xs ≡ true). or_second (q x) (list_any q xs) (any_up p q xs up more)) (or_cases (p x) (list_any p xs) e)

pub some_of : {X : Type 0} (test : X → Bool) (xs : List X) → list_any test xs ≡ true → (x : X) × (test x ≡ true)
some_of test [] e = absurd (false_true e)
some_of test (x ∷ xs) e = ⊎_elim (λ (here : test x ≡ true). (x, here)) (λ (more : list_any test xs ≡ true). some_of test xs more)
    (or_cases (test x) (list_any test xs) e)

pub filter_same : {X : Type 0} (p q : X → Bool) (xs : List X) → ((x : X) → p x ≡ q x) → filter p xs ≡ filter q xs
filter_same p q [] same = refl
filter_same p q (x ∷ xs) same = λ i. cond (same x i) (x ∷ filter_same p q xs same i) (filter_same p q xs same i)

pub any_same : {X : Type 0} (p q : X → Bool) (xs : List X) → ((x : X) → p x ≡ q x) → list_any p xs ≡ list_any q xs
any_same p q [] same = refl
any_same p q (x ∷ xs) same = λ i. same x i || any_same p q xs same i

pub filter_none : {X : Type 0} (p : X → Bool) (xs : List X) → AllByRecursion (λ (x : X). p x ≡ false) xs → filter p xs ≡ []
filter_none p [] all = refl
filter_none {X = X} p (x ∷ xs) all = ap (λ (b : Bool). cond b (x ∷ filter p xs) (filter p xs)) all.0 ∙ filter_none p xs all.1

pub all_each : {X : Type 0} (P : X → Type 0) (xs : List X) → ((x : X) → P x) → AllByRecursion P xs
all_each P [] f = tt
all_each P (x ∷ xs) f = (f x, all_each P xs f)

-- numbers that are not equal
pub not_same : (a b : ℕ) → (a ≡ b → ⊥) → (a == b) ≡ false
not_same a b f = go (a == b) refl
  where
    go : (c : Bool) → (a == b) ≡ c → c ≡ false
    go false at = refl
    go true at = absurd (f (eqb-true a b at))

-- two facts of each item give a third
pub for_both : {X : Type 0} (P Q R : X → Type 0) (xs : List X) → ((x : X) → P x → Q x → R x) → AllByRecursion P xs → AllByRecursion Q xs → AllByRecursion R xs
for_both P Q R [] f p q = tt
for_both P Q R (x ∷ xs) f p q = (f x p.0 q.0, for_both P Q R xs f p.1 q.1)

-- what is found has what all have
pub found_all : {X : Type 0} (P : X → Type 0) (test : X → Bool) (list : List X) (x : X) → AllByRecursion P list → find test list ≡ Some x → P x
found_all P test [] x all e = cc
found_all {X = X} P test (y ∷ list) x all e = go (test y) e (found_all P test list x all.1)
  where
    go : (b : Bool) → cond b (Some y) (find test list) ≡ Some x → (find test list ≡ Some x → P x) → P x
    go true f rest = let same : y ≡ x = cc in subst P same all.0
    go false f rest = rest f

-- an item of a list has what all have
pub member_has : (P : ℕ → Type 0) (list : List ℕ) (n : ℕ) → AllByRecursion P list → list_any (λ (each : ℕ). each == n) list ≡ true → P n
member_has P [] n all e = absurd (false_true e)
member_has P (x ∷ list) n all e =
    ⊎_elim (λ (here : (x == n) ≡ true). subst P (eqb-true x n here) all.0)
    (λ (more : list_any (λ (each : ℕ). each == n) list ≡ true). member_has P list n all.1 more)
    (or_cases (x == n) (list_any (λ (each : ℕ). each == n) list) e)

-- the first list is the second without some items
pub data PartOf : List ℕ → List ℕ → Type 0 where
  over : PartOf [] []
  skips : (x : ℕ) (ys xs : List ℕ) → PartOf ys xs → PartOf ys (x ∷ xs)
  keeps : (x : ℕ) (ys xs : List ℕ) → PartOf ys xs → PartOf (x ∷ ys) (x ∷ xs)

-- what is in the part is in the whole
pub part_any : (test : ℕ → Bool) (ys xs : List ℕ) → PartOf ys xs → list_any test ys ≡ true → list_any test xs ≡ true
part_any test some whole over e = e
part_any test some whole (skips x ys xs part) e = or_second (test x) (list_any test xs) (part_any test ys xs part e)
part_any test some whole (keeps x ys xs part) e =
    ⊎_elim (λ (here : test x ≡ true). or_first (test x) (list_any test xs) here)
    (λ (more : list_any test ys ≡ true). or_second (test x) (list_any test xs) (part_any test ys xs part more)) (or_cases (test x) (list_any test ys) e)

-- and no longer
pub part_length : (ys xs : List ℕ) → PartOf ys xs → length ys ≤ length xs
part_length some whole over = omega arith
part_length some whole (skips x ys xs part) = let rest = part_length ys xs part in omega (arith, rest)
part_length some whole (keeps x ys xs part) = let rest = part_length ys xs part in omega (arith, rest)

-- numbers that differ
abbrev pub AreApart : List ℕ → Type 0
AreApart [] = Unit {0}
AreApart (x ∷ xs) = (list_any (λ (each : ℕ). each == x) xs ≡ false) × AreApart xs

pub part_none : (test : ℕ → Bool) (ys xs : List ℕ) → PartOf ys xs → list_any test xs ≡ false → list_any test ys ≡ false
part_none test ys xs part e = go (list_any test ys) refl
  where
    go : (b : Bool) → list_any test ys ≡ b → b ≡ false
    go false at = refl
    go true at = absurd (false_true (sym e ∙ part_any test ys xs part at))

-- a part of numbers that differ
pub part_apart : (ys xs : List ℕ) → PartOf ys xs → AreApart xs → AreApart ys
part_apart some whole over apart = tt
part_apart some whole (skips x ys xs part) apart = part_apart ys xs part apart.1
part_apart some whole (keeps x ys xs part) apart = (part_none (λ (each : ℕ). each == x) ys xs part apart.0, part_apart ys xs part apart.1)

-- what passes a filter is a part
pub part_filter : (test : ℕ → Bool) (xs : List ℕ) → PartOf (filter test xs) xs
part_filter test [] = over
part_filter test (x ∷ xs) = go (test x) (part_filter test xs)
  where
    go : (b : Bool) → PartOf (filter test xs) xs → PartOf (cond b (x ∷ filter test xs) (filter test xs)) (x ∷ xs)
    go true part = keeps x (filter test xs) xs part
    go false part = skips x (filter test xs) xs part

pub part_nil : (xs : List ℕ) → PartOf [] xs
part_nil [] = over
part_nil (x ∷ xs) = skips x [] xs (part_nil xs)

-- a part of a part
pub part_over : (zs ys xs : List ℕ) → PartOf zs ys → PartOf ys xs → PartOf zs xs
part_over zs ys xs p over = p
part_over zs some whole p (skips x ys xs part) = skips x zs xs (part_over zs ys xs p part)
part_over zs some whole p (keeps x ys xs part) = go zs p (λ list more. part_over list ys xs more part)
  where
    go : (list : List ℕ) → PartOf list (x ∷ ys) → ((some : List ℕ) → PartOf some ys → PartOf some xs) → PartOf list (x ∷ xs)
    go list (skips y bs cs more) rest = skips x list xs (rest list more)
    go list (keeps y bs cs more) rest = keeps x bs xs (rest bs more)

pub not_false : (b : Bool) → not b ≡ false → b ≡ true
not_false true e = refl
not_false false e = absurd (false_true (sym e))

pub not_true : (b : Bool) → not b ≡ true → b ≡ false
not_true true e = absurd (false_true e)
not_true false e = refl

pub all_append : {X : Type 0} (P : X → Type 0) (xs ys : List X) → AllByRecursion P xs → AllByRecursion P ys → AllByRecursion P (xs ++ ys)
all_append P [] ys p q = q
all_append P (x ∷ xs) ys p q = (p.0, all_append P xs ys p.1 q)

-- what stands at a place has what all have
pub get_all : {X : Type 0} (P : X → Type 0) (xs : List X) (k : ℕ) (x : X) → AllByRecursion P xs → slice_get xs k ≡ Some x → P x
get_all P [] k x all e = cc
get_all P (y ∷ xs) zero x all e = let same : y ≡ x = cc in subst P same all.0
get_all P (y ∷ xs) (suc k) x all e = get_all P xs k x all.1 e

-- something stands at each place
pub get_there : {X : Type 0} (xs : List X) (k : ℕ) → k < length xs → (x : X) × (slice_get xs k ≡ Some x)
get_there [] k low = absurd (omega (arith, low))
get_there (x ∷ xs) zero low = (x, refl)
get_there (x ∷ xs) (suc k) low = get_there xs k (omega (arith, low))

-- what passes a filter has what all have, and passes the test
pub filter_has : {X : Type 0} (P : X → Type 0) (test : X → Bool) (xs : List X) → AllByRecursion P xs → AllByRecursion (λ (x : X). P x × (test x ≡ true))
    (filter test xs)
filter_has P test [] all = tt
filter_has {X = X} P test (x ∷ xs) all = go (test x) refl (filter_has P test xs all.1)
  where
    go : (b : Bool) → test x ≡ b → AllByRecursion (λ (y : X). P y × (test y ≡ true)) (filter test xs) → AllByRecursion (λ (y : X). P y × (test y ≡ true))
        (cond b (x ∷ filter test xs) (filter test xs))
    go true at rest = ((all.0, at), rest)
    go false at rest = rest

-- what is found passes the test
pub found_true : {X : Type 0} (test : X → Bool) (xs : List X) (x : X) → find test xs ≡ Some x → test x ≡ true
found_true test [] x e = cc
found_true {X = X} test (y ∷ xs) x e = go (test y) refl e (found_true test xs x)
  where
    go : (b : Bool) → test y ≡ b → cond b (Some y) (find test xs) ≡ Some x → (find test xs ≡ Some x → test x ≡ true) → test x ≡ true
    go true at f rest = let same : y ≡ x = cc in subst (λ (z : X). test z ≡ true) same at
    go false at f rest = rest f

-- what passes a test among the items that pass the filter
pub each_any : {X : Type 0} (test : X → Bool) (xs : List X) → AllByRecursion (λ (x : X). test x ≡ true → list_any test xs ≡ true) xs
each_any test [] = tt
each_any {X = X} test (x ∷ xs) = (
  (λ e. or_first (test x) (list_any test xs) e),
  for_each (λ (y : X). test y ≡ true → list_any test xs ≡ true) (λ (y : X). test y ≡ true → list_any test (x ∷ xs) ≡ true) xs
      (λ y f e. or_second (test x) (list_any test xs) (f e)) (each_any test xs),
)

-- what all have those have that pass a filter
pub filter_all : {X : Type 0} (P : X → Type 0) (test : X → Bool) (xs : List X) → AllByRecursion P xs → AllByRecursion P (filter test xs)
filter_all {X = X} P test xs all = for_each (λ (x : X). P x × (test x ≡ true)) P (filter test xs) (λ x e. e.0) (filter_has P test xs all)

-- each item of a list is in it
pub all_members : (xs : List ℕ) → AllByRecursion (λ (n : ℕ). list_any (λ (each : ℕ). each == n) xs ≡ true) xs
all_members [] = tt
all_members (x ∷ xs) = (
  or_first (x == x) (list_any (λ (each : ℕ). each == x) xs) (eq-eqb x x refl),
  for_each (λ (n : ℕ). list_any (λ (each : ℕ). each == n) xs ≡ true) (λ (n : ℕ). list_any (λ (each : ℕ). each == n) (x ∷ xs) ≡ true) xs
      (λ n e. or_second (x == n) (list_any (λ (each : ℕ). each == n) xs) e) (all_members xs),
)

-- what is found passes a filter that it passes
pub found_filter : {X : Type 0} (p test : X → Bool) (xs : List X) (x : X) → find p xs ≡ Some x → test x ≡ true → find p (filter test xs) ≡ Some x
found_filter p test [] x e f = cc
found_filter {X = X} p test (y ∷ xs) x e f = go (p y) refl e (found_filter p test xs x)
  where
    keep : (c : Bool) → p y ≡ false → find p (filter test xs) ≡ Some x → find p (cond c (y ∷ filter test xs) (filter test xs)) ≡ Some x
    keep true at g = ap (λ (b : Bool). cond b (Some y) (find p (filter test xs))) at ∙ g
    keep false at g = g

    go : (b : Bool) → p y ≡ b → cond b (Some y) (find p xs) ≡ Some x → (find p xs ≡ Some x → test x ≡ true → find p (filter test xs) ≡ Some x)
        → find p (cond (test y) (y ∷ filter test xs) (filter test xs)) ≡ Some x
    go true at g rest =
        let same : y ≡ x = cc in
        let passes : test y ≡ true = ap test same ∙ f in
        (λ i. find p (cond (passes i) (y ∷ filter test xs) (filter test xs))) ∙ (λ i. cond (at i) (Some y) (find p (filter test xs))) ∙ ap (λ (z : X). Some z)
        same
    go false at g rest = keep (test y) at (rest g f)

pub found_some : {X : Type 0} (p : X → Bool) (xs : List X) (x : X) → find p xs ≡ Some x → list_any p xs ≡ true
found_some p [] x e = cc
found_some {X = X} p (y ∷ xs) x e = go (p y) e (found_some p xs x)
  where
    go : (b : Bool) → cond b (Some y) (find p xs) ≡ Some x → (find p xs ≡ Some x → list_any p xs ≡ true) → (b || list_any p xs) ≡ true
    go true f rest = refl
    go false f rest = rest f

abbrev pub is_among : ℕ → List ℕ → Bool
is_among n list = list_any (λ (each : ℕ). each == n) list

-- an item that passes is among those that pass
pub among_filter : (test : ℕ → Bool) (list : List ℕ) (n : ℕ) → is_among n list ≡ true → test n ≡ true → is_among n (filter test list) ≡ true
among_filter test [] n e f = e
among_filter test (x ∷ list) n e f = go (test x) refl (λ more. among_filter test list n more f)
  where
    go : (b : Bool) → test x ≡ b → (is_among n list ≡ true → is_among n (filter test list) ≡ true)
        → is_among n (cond b (x ∷ filter test list) (filter test list)) ≡ true
    go true at rest =
        ⊎_elim (λ (here : (x == n) ≡ true). or_first (x == n) (is_among n (filter test list)) here)
        (λ (more : is_among n list ≡ true). or_second (x == n) (is_among n (filter test list)) (rest more)) (or_cases (x == n) (is_among n list) e)
    go false at rest =
        ⊎_elim (λ (here : (x == n) ≡ true). absurd (false_true (sym (ap test (sym (eqb-true x n here)) ∙ at) ∙ f)))
        (λ (more : is_among n list ≡ true). rest more) (or_cases (x == n) (is_among n list) e)

-- a filter keeps all, or fewer
pub keeps_or_fewer : (test : ℕ → Bool) (list : List ℕ) → (filter test list ≡ list) ⊎ (length (filter test list) < length list)
keeps_or_fewer test [] = inl refl
keeps_or_fewer test (x ∷ list) = go (test x) (keeps_or_fewer test list)
  where
    short : (xs : List ℕ) → length (filter test xs) ≤ length xs
    short [] = omega arith
    short (y ∷ xs) = pick (test y) (short xs)
      where
        pick : (b : Bool) → length (filter test xs) ≤ length xs → length (cond b (y ∷ filter test xs) (filter test xs)) ≤ length (y ∷ xs)
        pick true rest = omega (arith, rest)
        pick false rest = omega (arith, rest)

    go : (b : Bool) → (filter test list ≡ list) ⊎ (length (filter test list) < length list) → (cond b (x ∷ filter test list) (filter test list) ≡ x ∷ list)
        ⊎ (length (cond b (x ∷ filter test list) (filter test list)) < length (x ∷ list))
    go true (inl same) = inl (ap (λ (xs : List ℕ). x ∷ xs) same)
    go true (inr fewer) = inr (omega (arith, fewer))
    go false one = let low = short list in inr (omega (arith, low))

-- the first of some items
pub some_first : {X : Type 0} (P : X → Type 0) (xs : List X) → 0 < length xs → AllByRecursion P xs → (x : X) × P x
some_first P [] some all = absurd (omega (arith, some))
some_first P (x ∷ xs) some all = (x, all.0)

pub append_second : {X : Type 0} (P : X → Type 0) (xs ys : List X) → AllByRecursion P (xs ++ ys) → AllByRecursion P ys
append_second P [] ys all = all
append_second P (x ∷ xs) ys all = append_second P xs ys all.1

pub filter_short : {X : Type 0} (test : X → Bool) (xs : List X) → length (filter test xs) ≤ length xs
filter_short test [] = omega arith
filter_short test (x ∷ xs) = go (test x) (filter_short test xs)
  where
    go : (b : Bool) → length (filter test xs) ≤ length xs → length (cond b (x ∷ filter test xs) (filter test xs)) ≤ length (x ∷ xs)
    go true rest = omega (arith, rest)
    go false rest = omega (arith, rest)

pub one_more : {X : Type 0} (xs : List X) (x : X) → length (xs ++ x ∷ []) ≡ length xs + 1
one_more xs x = let whole = length-append xs (x ∷ []) in omega (arith, whole)

pub sum_more : {X : Type 0} (f : X → ℕ) (xs : List X) (x : X) → sum_by f (xs ++ x ∷ []) ≡ sum_by f xs + f x
sum_more f xs x = let whole = sum_by-append f xs (x ∷ []) in let one = sum_by-cons f x [] in omega (arith, whole, one)

pub get_append : {X : Type 0} (xs ys : List X) (k : ℕ) (x : X) → slice_get xs k ≡ Some x → slice_get (xs ++ ys) k ≡ Some x
get_append [] ys k x e = cc
get_append (y ∷ xs) ys zero x e = e
get_append (y ∷ xs) ys (suc k) x e = get_append xs ys k x e

pub find_append : {X : Type 0} (test : X → Bool) (xs ys : List X) (x : X) → find test xs ≡ Some x → find test (xs ++ ys) ≡ Some x
find_append test [] ys x e = cc
find_append {X = X} test (y ∷ xs) ys x e = go (test y) e (find_append test xs ys x)
  where
    go : (b : Bool) → cond b (Some y) (find test xs) ≡ Some x → (find test xs ≡ Some x → find test (xs ++ ys) ≡ Some x) → cond b (Some y) (find test (xs ++ ys))
        ≡ Some x
    go true f rest = f
    go false f rest = rest f

-- numbers that differ, in std's word
pub apart_distinct : (list : List ℕ) → AreApart list → IsDistinct ◌==◌ list
unfolding IsDistinct
apart_distinct [] apart = tt
apart_distinct (x ∷ list) apart = (others list apart.0, apart_distinct list apart.1)
  where
    others : (xs : List ℕ) → list_any (λ (each : ℕ). each == x) xs ≡ false → AllByRecursion (λ (y : ℕ). (x == y) ≡ false) xs
    others [] e = tt
    others (y ∷ xs) e = let parts = or_parts (y == x) (list_any (λ (each : ℕ). each == x) xs) e in
        (ne_eqb x y (λ same. eqb-false y x parts.0 (sym same)), others xs parts.1)

pub any_turned : (n : ℕ) (list : List ℕ) → list_any (λ (each : ℕ). n == each) list ≡ true → list_any (λ (each : ℕ). each == n) list ≡ true
any_turned n [] e = e
any_turned n (x ∷ list) e =
    ⊎_elim (λ (here : (n == x) ≡ true). or_first (x == n) (list_any (λ (each : ℕ). each == n) list) (eq-eqb x n (sym (eqb-true n x here))))
    (λ (more : list_any (λ (each : ℕ). n == each) list ≡ true). or_second (x == n) (list_any (λ (each : ℕ). each == n) list) (any_turned n list more))
    (or_cases (n == x) (list_any (λ (each : ℕ). n == each) list) e)

-- numbers that differ, each below a bound, are at most so many
pub few_below : (list : List ℕ) (most : ℕ) → AreApart list → ((n : ℕ) → list_any (λ (each : ℕ). each == n) list ≡ true → n < most) → length list ≤ most
few_below list most apart low = length-le_from_distinct_below list most (apart_distinct list apart) (λ n e. low n (any_turned n list e))
