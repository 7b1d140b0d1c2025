-- The lists of those who need an entry, as a number comes and goes.
use Rattle.std.proofs.Common.{◌≡◌, ◌≢◌, ◌⊎◌, inl, inr, ℕ, ◌<◌, ◌≤◌, Bool, true, false, ◌||◌, List, [], ◌∷◌, ◌++◌, length}
use Rattle.std.proofs.Common.{set, take, nat_eq, nat_lt, refl, sym, ap, ◌∙◌, arith, length-set, append-nil, get_or-set_same, get_or-set_other}
use Rattle.std.specs.Prelude.{OnErr, OnOk, Result, Ok, Err, is_err}
use Rattle.std.proofs.lemmas.Bool.Decides.{nat_tests}
use Rattle.std.proofs.lemmas.List.{get_or_append_left, get_or_past, get_or_push, length_push}
use Rattle.blob_entries.proofs.Soundness.{same_or}
use Rattle.blob_registry.specs.Dependents.{listed_if}
use Rattle.blob_registry.specs.Lists.{list_at, AreEntered, LackNumber, MayBeEntered, Strikes}
use Rattle.blob_registry.specs.Numbers.{is_among, with_last, without, without_if, AreBelow, IsRising}
use Rattle.blob_registry.proofs.Numbers.{among_more, among_take, apart_eq, rising_pushed, rising_without, same_eq, with_fresh, with_twice, without_absent}
use Rattle.blob_registry.proofs.Numbers.{without_pushed}
use Rattle.blob_registry.proofs.Numbers.{without_twice}

abbrev Lists : Type 0
Lists = List (List ℕ)

-- nothing was struck yet
pub strikes_none : (lists : Lists) (number : ℕ) → Strikes lists lists number []
strikes_none lists number = record { long = refl; struck = λ other. refl }

pub rising_if : (b : Bool) (number : ℕ) (list : List ℕ) → IsRising list → IsRising (without_if b number list)
rising_if true number list rising = rising_without number list rising
rising_if false number list rising = rising

-- struck from one list more
pub strikes_more : (first now : Lists) (number source : ℕ) (sources : List ℕ) → ((other : ℕ) → IsRising (list_at first other))
    → Strikes first now number sources → source < length now
    → Strikes first (set now source (without number (list_at now source))) number (sources ++ source ∷ [])
strikes_more first now number source sources rising strikes inside = record {
  long = length-set now source (without number (list_at now source)) ∙ strikes.long;
  struck = λ other. same_or other source
      (λ equal. rw equal (here (is_among source sources) (strikes.struck source)))
      (λ apart. get_or-set_other now source other (without number (list_at now source)) [] apart ∙ strikes.struck other
      ∙ ap (λ (b : Bool). without_if b number (list_at first other)) (kept other apart));
}
  where
    kept : (other : ℕ) → other ≢ source → is_among other sources ≡ is_among other (sources ++ source ∷ [])
    kept other apart =
        let not_here : nat_eq source other ≡ false = apart_eq source other (λ equal. apart (sym equal)) in
        sym (among_more other source sources ∙ rw not_here (either (is_among other sources)))
      where
        either : (b : Bool) → (b || false) ≡ b
        either true = refl
        either false = refl

    among : is_among source (sources ++ source ∷ []) ≡ true
    among = among_more source source sources ∙ rw (same_eq source) (either (is_among source sources))
      where
        either : (b : Bool) → (b || true) ≡ true
        either true = refl
        either false = refl

    struck_here : (b : Bool) → list_at now source ≡ without_if b number (list_at first source)
        → without number (list_at now source) ≡ without number (list_at first source)
    struck_here true is = ap (without number) is ∙ without_twice number (list_at first source) (rising source)
    struck_here false is = ap (without number) is

    here : (b : Bool) → list_at now source ≡ without_if b number (list_at first source)
        → list_at (set now source (without number (list_at now source))) source ≡ without_if (is_among source (sources ++ source ∷ [])) number
        (list_at first source)
    here b is = get_or-set_same now source (without number (list_at now source)) [] inside ∙ struck_here b is
        ∙ ap (λ (t : Bool). without_if t number (list_at first source)) (sym among)

-- the number came to one list more
pub entered_more : (first now : Lists) (number source : ℕ) (sources : List ℕ) → LackNumber first number → AreEntered first now number sources
    → source < length now
    → AreEntered first (set now source (with_last number (list_at now source))) number (sources ++ source ∷ [])
entered_more first now number source sources fresh entered inside = λ other. same_or other source
    (λ equal. rw equal (here (is_among source sources) (entered source)))
    (λ apart. get_or-set_other now source other (with_last number (list_at now source)) [] apart ∙ entered other
    ∙ ap (λ (b : Bool). list_at first other ++ listed_if b number) (kept other apart))
  where
    kept : (other : ℕ) → other ≢ source → is_among other sources ≡ is_among other (sources ++ source ∷ [])
    kept other apart =
        let not_here : nat_eq source other ≡ false = apart_eq source other (λ equal. apart (sym equal)) in
        sym (among_more other source sources ∙ rw not_here (either (is_among other sources)))
      where
        either : (b : Bool) → (b || false) ≡ b
        either true = refl
        either false = refl

    among : is_among source (sources ++ source ∷ []) ≡ true
    among = among_more source source sources ∙ rw (same_eq source) (either (is_among source sources))
      where
        either : (b : Bool) → (b || true) ≡ true
        either true = refl
        either false = refl

    last_here : (b : Bool) → list_at now source ≡ list_at first source ++ listed_if b number
        → with_last number (list_at now source) ≡ list_at first source ++ number ∷ []
    last_here true is = ap (with_last number) is ∙ with_twice number (list_at first source)
    last_here false is = ap (with_last number) (is ∙ append-nil (list_at first source)) ∙ with_fresh number (list_at first source) (fresh source)

    here : (b : Bool) → list_at now source ≡ list_at first source ++ listed_if b number
        → list_at (set now source (with_last number (list_at now source))) source ≡ list_at first source ++ listed_if
        (is_among source (sources ++ source ∷ [])) number
    here b is = get_or-set_same now source (with_last number (list_at now source)) [] inside ∙ last_here b is
        ∙ ap (λ (t : Bool). list_at first source ++ listed_if t number) (sym among)

-- it came to some of them
pub entered_some : (first now : Lists) (number : ℕ) (sources : List ℕ) (n : ℕ) → AreEntered first now number (take n sources)
    → MayBeEntered first now number sources
entered_some first now number sources n entered = λ other. by other (is_among other (take n sources)) refl (entered other)
  where
    by : (other : ℕ) (b : Bool) → is_among other (take n sources) ≡ b → list_at now other ≡ list_at first other ++ listed_if b number
        → (list_at now other ≡ list_at first other) ⊎ ((is_among other sources ≡ true) × (list_at now other ≡ list_at first other ++ number ∷ []))
    by other true among is = inr (among_take other sources n among, is)
    by other false among is = inl (is ∙ append-nil (list_at first other))

-- and was struck from all of them again
pub struck_again : (first mid now : Lists) (number : ℕ) (sources : List ℕ) → LackNumber first number → MayBeEntered first mid number sources
    → Strikes mid now number sources → (other : ℕ) → list_at now other ≡ list_at first other
struck_again first mid now number sources fresh may strikes other = strikes.struck other ∙ by (is_among other sources) refl (may other)
  where
    by : (b : Bool) → is_among other sources ≡ b
        → (list_at mid other ≡ list_at first other) ⊎ ((is_among other sources ≡ true) × (list_at mid other ≡ list_at first other ++ number ∷ []))
        → without_if b number (list_at mid other) ≡ list_at first other
    by true among (inl same) = ap (without number) same ∙ without_absent number (list_at first other) (fresh other)
    by true among (inr more) = ap (without number) more.1 ∙ without_pushed number (list_at first other) (fresh other)
    by false among (inl same) = same
    by false among (inr more) = let is = more.0 in absurd (cc)

-- a clause on a failure, from what it says
pub on_err : {T E : Type 0} {P : Type 0} (r : Result T E) → P → OnErr r P
on_err (Ok value) holds = tt
on_err (Err fault) holds = holds

pub on_ok : {T E : Type 0} {P Q : Type 0} (r : Result T E) → OnOk r P → (P → Q) → OnOk r Q
on_ok (Ok value) holds then = then holds
on_ok (Err fault) holds then = tt

-- one list more, of nobody
pub list_grown : (lists : Lists) (other : ℕ) → list_at (lists ++ [] ∷ []) other ≡ list_at lists other
list_grown lists other = pick (nat_lt other (length lists)) refl
  where
    pick : (b : Bool) → nat_lt other (length lists) ≡ b → list_at (lists ++ [] ∷ []) other ≡ list_at lists other
    pick true below = get_or_append_left lists ([] ∷ []) [] other (grind (arith, nat_tests))
    pick false not_below =
        let behind : length lists ≤ other = grind (arith, nat_tests) in
        same_or other (length lists)
        (λ equal. ap (list_at (lists ++ [] ∷ [])) equal ∙ get_or_push lists [] [] (length lists) refl ∙ sym (get_or_past lists other [] behind))
        (λ apart. get_or_past (lists ++ [] ∷ []) other [] (omega (arith, length_push lists [], behind, apart)) ∙ sym (get_or_past lists other [] behind))

-- lists to some of which a number came rise as they did
pub rising_entered : (first now : Lists) (number : ℕ) (sources : List ℕ) → ((other : ℕ) → IsRising (list_at first other))
    → ((other : ℕ) → AreBelow number (list_at first other)) → MayBeEntered first now number sources
    → (other : ℕ) → IsRising (list_at now other)
rising_entered first now number sources rising above may other = by (may other)
  where
    by : (list_at now other ≡ list_at first other) ⊎ ((is_among other sources ≡ true) × (list_at now other ≡ list_at first other ++ number ∷ []))
        → IsRising (list_at now other)
    by (inl same) = rw same (rising other)
    by (inr more) = rw more.1 (rising_pushed number (list_at first other) (rising other) (above other))

-- what a failure or a success says, where a test tells it
pub is_err_then : {T E : Type 0} {P : Type 0} (r : Result T E) → is_err r ≡ true → OnErr r P → P
is_err_then (Ok value) is holds = absurd (cc)
is_err_then (Err fault) is holds = holds

pub is_ok_then : {T E : Type 0} {P : Type 0} (r : Result T E) → is_err r ≡ false → OnOk r P → P
is_ok_then (Ok value) is holds = holds
is_ok_then (Err fault) is holds = absurd (cc)

-- lists to which a number came rise as they did
pub rising_with : (b : Bool) (number : ℕ) (list : List ℕ) → IsRising list → AreBelow number list → IsRising (list ++ listed_if b number)
rising_with true number list rising below = rising_pushed number list rising below
rising_with false number list rising below = rw (append-nil list) rising
