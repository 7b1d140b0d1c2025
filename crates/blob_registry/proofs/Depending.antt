-- The numbers of those who need a source, as entries change.
use Rattle.std.proofs.Common.{◌≡◌, ◌⊎◌, inl, inr, ℕ, zero, suc, ◌+◌, ◌-◌, ◌<◌, ◌≤◌, Bool, true, false, cond, ◌&&◌, ◌||◌, List, [], ◌∷◌, ◌++◌, Option}
use Rattle.std.proofs.Common.{Some, None, length, set, nat_eq, nat_lt, refl, sym, ap, ◌∙◌, subst, arith, append_assoc, append-nil}
use Rattle.std.specs.Option.{option_map_or, option_to_list}
use Rattle.std.specs.List.{AllByRecursion, list_any}
use Rattle.std.proofs.lemmas.Bool.{eqb-true}
use Rattle.std.proofs.lemmas.Bool.Decides.{nat_tests}
use Rattle.blob_entries.specs.declared.entry.Entry.{Entry}
use Rattle.blob_entries.specs.declared.step.Step.{Step}
use Rattle.blob_entries.specs.Book.{entry_at}
use Rattle.blob_entries.specs.Leaving.{is_needed}
use Rattle.blob_entries.specs.Sources.{needs, some_source, sources_at, sources_of, step_source, step_sources}
use Rattle.blob_entries.specs.Statuses.{is_pending}
use Rattle.blob_registry.specs.Dependents.{dependents_from, listed_if}
use Rattle.blob_entries.specs.Sound.{AreSound}
use Rattle.blob_registry.specs.Numbers.{is_among, without, AreBelow, IsRising}
use Rattle.blob_registry.proofs.Sweeping.{needs_none}
use Rattle.blob_registry.proofs.Numbers.{apart_eq, either_or, same_eq, split_or}

abbrev Entries : Type 0
Entries = List (Option Entry)

-- those before a number aren't touched by it
without_before : (names : List ℕ) (source n base : ℕ) (entries : Entries) → n < base
    → without n (dependents_from names source base entries) ≡ dependents_from names source base entries
without_before names source n base [] below = refl
without_before names source n base (held ∷ entries) below = by (needs names source held) (without_before names source n (base + 1) entries (omega arith))
  where
    rest : List ℕ
    rest = dependents_from names source (base + 1) entries

    by : (b : Bool) → without n rest ≡ rest → without n (listed_if b base ++ rest) ≡ listed_if b base ++ rest
    by true on = rw (apart_eq base n (λ equal. omega (arith, below, equal))) (ap (λ (l : List ℕ). base ∷ l) on)
    by false on = on

-- an entry that needs nobody any more
pub depends_struck : (names : List ℕ) (source base k : ℕ) (entries : Entries) (later : Option Entry) → needs names source later ≡ false
    → dependents_from names source base (set entries k later) ≡ without (base + k) (dependents_from names source base entries)
depends_struck names source base k [] later free = refl
depends_struck names source base zero (held ∷ entries) later free =
    let here : base + zero ≡ base = omega arith in
    rw (free, here) (sym (by (needs names source held)))
  where
    rest : List ℕ
    rest = dependents_from names source (base + 1) entries

    by : (b : Bool) → without base (listed_if b base ++ rest) ≡ rest
    by true = rw (same_eq base) refl
    by false = without_before names source base (base + 1) entries (omega arith)
depends_struck names source base (suc k) (held ∷ entries) later free =
    let next : (base + 1) + k ≡ base + suc k = omega arith in
    ap (λ (l : List ℕ). listed_if (needs names source held) base ++ l) (depends_struck names source (base + 1) k entries later free)
    ∙ rw next (sym (by (needs names source held)))
  where
    rest : List ℕ
    rest = dependents_from names source (base + 1) entries

    by : (b : Bool) → without (base + suc k) (listed_if b base ++ rest) ≡ listed_if b base ++ without (base + suc k) rest
    by true = rw (apart_eq base (base + suc k) (λ equal. omega (arith, equal))) refl
    by false = refl

-- an entry that needs whom it needed
pub depends_same : (names : List ℕ) (source base k : ℕ) (entries : Entries) (later : Option Entry)
    → needs names source later ≡ needs names source (entry_at entries k)
    → dependents_from names source base (set entries k later) ≡ dependents_from names source base entries
depends_same names source base k [] later same = refl
depends_same names source base zero (held ∷ entries) later same = ap (λ (b : Bool). listed_if b base ++ dependents_from names source (base + 1) entries) same
depends_same names source base (suc k) (held ∷ entries) later same =
    ap (λ (l : List ℕ). listed_if (needs names source held) base ++ l) (depends_same names source (base + 1) k entries later same)

-- one entry more
pub depends_pushed : (names : List ℕ) (source base : ℕ) (entries : Entries) (held : Option Entry)
    → dependents_from names source base (entries ++ held ∷ []) ≡ dependents_from names source base entries ++ listed_if (needs names source held)
    (base + length entries)
depends_pushed names source base [] held = let here : base + 0 ≡ base = omega arith in rw here (append-nil (listed_if (needs names source held) base))
depends_pushed names source base (first ∷ entries) held =
    let next : (base + 1) + length entries ≡ base + length (first ∷ entries) = omega arith in
    ap (λ (l : List ℕ). listed_if (needs names source first) base ++ l) (depends_pushed names source (base + 1) entries held)
    ∙ ap (λ (n : ℕ). listed_if (needs names source first) base ++
    (dependents_from names source (base + 1) entries ++ listed_if (needs names source held) n)) next
    ∙ sym (append_assoc (listed_if (needs names source first) base) (dependents_from names source (base + 1) entries)
    (listed_if (needs names source held) (base + length (first ∷ entries))))

-- names that change nothing
pub depends_alike : (names more : List ℕ) (source base : ℕ) (entries : Entries)
    → ((k : ℕ) → needs more source (entry_at entries k) ≡ needs names source (entry_at entries k))
    → dependents_from more source base entries ≡ dependents_from names source base entries
depends_alike names more source base [] same = refl
depends_alike names more source base (held ∷ entries) same =
    ap (λ (b : Bool). listed_if b base ++ dependents_from more source (base + 1) entries) (same 0)
    ∙ ap (λ (l : List ℕ). listed_if (needs names source held) base ++ l) (depends_alike names more source (base + 1) entries (λ k. same (suc k)))

-- nobody
pub depends_none : (names : List ℕ) (source base : ℕ) (entries : Entries) → ((k : ℕ) → needs names source (entry_at entries k) ≡ false)
    → dependents_from names source base entries ≡ []
depends_none names source base [] none = refl
depends_none names source base (held ∷ entries) none = rw (none 0) (depends_none names source (base + 1) entries (λ k. none (suc k)))

-- the list is empty exactly where it isn't needed
pub depends_empty : (names : List ℕ) (source base : ℕ) (entries : Entries)
    → nat_lt 0 (length (dependents_from names source base entries)) ≡ is_needed names source entries
depends_empty names source base [] = refl
depends_empty names source base (held ∷ entries) = by (needs names source held) (depends_empty names source (base + 1) entries)
  where
    rest : List ℕ
    rest = dependents_from names source (base + 1) entries

    by : (b : Bool) → nat_lt 0 (length rest) ≡ list_any (needs names source) entries
        → nat_lt 0 (length (listed_if b base ++ rest)) ≡ (b || list_any (needs names source) entries)
    by true on = let above : 0 < length (base ∷ rest) = omega arith in grind (arith, nat_tests)
    by false on = on

-- who is on the list needs it, and the other way round
pub depends_among : (names : List ℕ) (source base n : ℕ) (entries : Entries) → is_among n (dependents_from names source base entries) ≡ true
    → (base ≤ n) × (needs names source (entry_at entries (n - base)) ≡ true)
depends_among names source base n [] among = absurd (cc)
depends_among names source base n (held ∷ entries) among = by (needs names source held) refl among (depends_among names source (base + 1) n entries)
  where
    rest : List ℕ
    rest = dependents_from names source (base + 1) entries

    later : (base + 1 ≤ n) × (needs names source (entry_at entries (n - (base + 1))) ≡ true)
        → (base ≤ n) × (needs names source (entry_at (held ∷ entries) (n - base)) ≡ true)
    later on = let above : base + 1 ≤ n = on.0 in let next : n - base ≡ suc (n - (base + 1)) = omega arith in (omega arith, rw next on.1)

    here : needs names source held ≡ true → base ≡ n → (base ≤ n) × (needs names source (entry_at (held ∷ entries) (n - base)) ≡ true)
    here is equal = let zero_is : n - base ≡ 0 = omega (arith, equal) in (omega (arith, equal), rw zero_is is)

    by : (b : Bool) → needs names source held ≡ b → is_among n (listed_if b base ++ rest) ≡ true
        → (is_among n rest ≡ true → (base + 1 ≤ n) × (needs names source (entry_at entries (n - (base + 1))) ≡ true))
        → (base ≤ n) × (needs names source (entry_at (held ∷ entries) (n - base)) ≡ true)
    by false is among on = later (on among)
    by true is among on = pick (either_or (nat_eq base n) (is_among n rest) among)
      where
        pick : (nat_eq base n ≡ true) ⊎ (is_among n rest ≡ true) → (base ≤ n) × (needs names source (entry_at (held ∷ entries) (n - base)) ≡ true)
        pick (inl equal) = here is (eqb-true base n equal)
        pick (inr among_rest) = later (on among_rest)

pub depends_free : (names : List ℕ) (source base k : ℕ) (entries : Entries) → is_among (base + k) (dependents_from names source base entries) ≡ false
    → needs names source (entry_at entries k) ≡ false
depends_free names source base k [] absent = refl
depends_free names source base zero (held ∷ entries) absent = by (needs names source held) refl absent
  where
    rest : List ℕ
    rest = dependents_from names source (base + 1) entries

    here : nat_eq base (base + zero) ≡ true
    here = let same : base + zero ≡ base = omega arith in rw same (same_eq base)

    by : (b : Bool) → needs names source held ≡ b → is_among (base + zero) (listed_if b base ++ rest) ≡ false → b ≡ false
    by false is gone = refl
    by true is gone = let parts = split_or (nat_eq base (base + zero))
        (is_among (base + zero) rest) gone in let not_here = parts.0 in let is_here = here in absurd (cc)
depends_free names source base (suc k) (held ∷ entries) absent =
    let next : (base + 1) + k ≡ base + suc k = omega arith in
    depends_free names source (base + 1) k entries (rw next (by (needs names source held) absent))
  where
    rest : List ℕ
    rest = dependents_from names source (base + 1) entries

    by : (b : Bool) → is_among (base + suc k) (listed_if b base ++ rest) ≡ false → is_among (base + suc k) rest ≡ false
    by false gone = gone
    by true gone = (split_or (nat_eq base (base + suc k)) (is_among (base + suc k) rest) gone).1

-- the list rises
depends_above : (names : List ℕ) (source bound base : ℕ) (entries : Entries) → bound < base
    → AllByRecursion (λ (other : ℕ). bound < other) (dependents_from names source base entries)
depends_above names source bound base [] above = tt
depends_above names source bound base (held ∷ entries) above = by (needs names source held) (depends_above names source bound (base + 1) entries (omega arith))
  where
    rest : List ℕ
    rest = dependents_from names source (base + 1) entries

    by : (b : Bool) → AllByRecursion (λ (other : ℕ). bound < other) rest → AllByRecursion (λ (other : ℕ). bound < other) (listed_if b base ++ rest)
    by true on = (above, on)
    by false on = on

pub depends_rising : (names : List ℕ) (source base : ℕ) (entries : Entries) → IsRising (dependents_from names source base entries)
depends_rising names source base [] = tt
depends_rising names source base (held ∷ entries) = by (needs names source held) (depends_rising names source (base + 1) entries)
  where
    rest : List ℕ
    rest = dependents_from names source (base + 1) entries

    by : (b : Bool) → IsRising rest → IsRising (listed_if b base ++ rest)
    by true on = (depends_above names source base (base + 1) entries (omega arith), on)
    by false on = on

-- all of them are numbers of entries
pub depends_below : (names : List ℕ) (source base n : ℕ) (entries : Entries) → is_among n (dependents_from names source base entries) ≡ true
    → n < base + length entries
depends_below names source base n [] among = absurd (cc)
depends_below names source base n (held ∷ entries) among = by (needs names source held) among (depends_below names source (base + 1) n entries)
  where
    rest : List ℕ
    rest = dependents_from names source (base + 1) entries

    by : (b : Bool) → is_among n (listed_if b base ++ rest) ≡ true → (is_among n rest ≡ true → n < (base + 1) + length entries)
        → n < base + length (held ∷ entries)
    by false among_rest on = let below : n < (base + 1) + length entries = on among_rest in omega arith
    by true among_here on = pick (either_or (nat_eq base n) (is_among n rest) among_here)
      where
        pick : (nat_eq base n ≡ true) ⊎ (is_among n rest ≡ true) → n < base + length (held ∷ entries)
        pick (inl equal) = let same : base ≡ n = eqb-true base n equal in omega arith
        pick (inr among_rest) = let below : n < (base + 1) + length entries = on among_rest in omega arith

-- the sources of steps are those that they need
among_append : (n : ℕ) (one other : List ℕ) → is_among n (one ++ other) ≡ (is_among n one || is_among n other)
among_append n [] other = refl
among_append n (first ∷ one) other = by (nat_eq first n) (among_append n one other)
  where
    by : (b : Bool) → is_among n (one ++ other) ≡ (is_among n one || is_among n other)
        → (b || is_among n (one ++ other)) ≡ ((b || is_among n one) || is_among n other)
    by true on = refl
    by false on = on

pub sources_are : (names : List ℕ) (n : ℕ) (steps : List Step) → is_among n (sources_of names steps) ≡ some_source names (λ (source : ℕ). nat_eq source n) steps
sources_are names n [] = refl
sources_are names n (step ∷ steps) =
    among_append n (step_sources names step) (sources_of names steps)
    ∙ rw (sources_are names n steps) (ap (λ (b : Bool). b || some_source names (λ (source : ℕ). nat_eq source n) steps) (by (step_source names step)))
  where
    by : (source : Option ℕ) → is_among n (option_to_list source) ≡ option_map_or (λ (s : ℕ). nat_eq s n) source false
    by None = refl
    by (Some s) = or_false (nat_eq s n)
      where
        or_false : (b : Bool) → (b || false) ≡ b
        or_false true = refl
        or_false false = refl

-- whoever is among the sources is needed, and no other
pub sources_needed : (names : List ℕ) (n : ℕ) (held : Option Entry) → is_among n (sources_at names held) ≡ needs names n held
sources_needed names n None = refl
sources_needed names n (Some entry) = by (is_pending entry.status)
  where
    by : (p : Bool) → is_among n (cond p (sources_of names entry.recipe) []) ≡ (p && some_source names (λ (source : ℕ). nat_eq source n) entry.recipe)
    by true = sources_are names n entry.recipe
    by false = refl

pub sources_free : (names : List ℕ) (n : ℕ) (held : Option Entry) → is_among n (sources_at names held) ≡ false → needs names n held ≡ false
sources_free names n held absent = sym (sources_needed names n held) ∙ absent

-- they are before it, and those who need it behind
pub sources_below : (names : List ℕ) (entries : Entries) (number : ℕ) → AreSound names entries → AreBelow number (sources_at names (entry_at entries number))
sources_below names entries number are n among = pick (nat_lt n number) refl
  where
    pick : (b : Bool) → nat_lt n number ≡ b → n < number
    pick true below = grind (arith, nat_tests)
    pick false not_below =
        let none : needs names n (entry_at entries number) ≡ false = needs_none names entries number n (entry_at entries number) (are.each number)
        (grind (arith, nat_tests)) in
        let is : needs names n (entry_at entries number) ≡ true = sym (sources_needed names n (entry_at entries number)) ∙ among in
        absurd (cc)

pub dependents_later : (names : List ℕ) (entries : Entries) (number other : ℕ) → AreSound names entries
    → is_among other (dependents_from names number 0 entries) ≡ true → number < other
dependents_later names entries number other are among = pick (nat_lt number other) refl
  where
    here : other - 0 ≡ other
    here = omega arith

    is : needs names number (entry_at entries other) ≡ true
    is = subst (λ (n : ℕ). needs names number (entry_at entries n) ≡ true) here (depends_among names number 0 other entries among).1

    pick : (b : Bool) → nat_lt number other ≡ b → number < other
    pick true below = grind (arith, nat_tests)
    pick false not_below =
        let none : needs names number (entry_at entries other) ≡ false = needs_none names entries other number (entry_at entries other) (are.each other)
        (grind (arith, nat_tests)) in
        let so = is in absurd (cc)
