-- What the sweep leaves is the least: each set that has the rooted entries, and the sources of its unfinished ones, has every entry that is left.
use Rattle.std.proofs.Common.{◌≡◌, ◌≢◌, ℕ, zero, suc, ◌+◌, ◌-◌, ◌<◌, ◌≤◌, Bool, true, false, cond, ◌||◌, List, [], ◌∷◌, ◌++◌, Option, Some, None, length}
use Rattle.std.proofs.Common.{get_or, set, nat_eq, nat_lt, refl, sym, ap, ◌∙◌, subst, arith}
use Rattle.std.specs.Option.{option_map_or}
use Rattle.std.specs.List.{list_any}
use Rattle.blob_entries.specs.declared.entry.Entry.{Entry}
use Rattle.blob_entries.specs.Book.{entry_at}
use Rattle.blob_entries.specs.Leaving.{is_needed, is_rooted, left}
use Rattle.blob_entries.specs.Sources.{needs}
use Rattle.blob_registry.specs.Sweeps.{swept}
use Rattle.blob_registry.proofs.Sweeping.{left_needs}

abbrev Entries : Type 0
Entries = List (Option Entry)

-- some entry passes
any_some : (p : Option Entry → Bool) → p None ≡ false → (entries : Entries) → list_any p entries ≡ true → (k : ℕ) × (p (entry_at entries k) ≡ true)
any_some p none [] is = absurd (cc)
any_some p none (held ∷ entries) is = by (any_some p none entries) (p held) refl is
  where
    by : (list_any p entries ≡ true → (k : ℕ) × (p (entry_at entries k) ≡ true)) → (b : Bool) → p held ≡ b → (b || list_any p entries) ≡ true
        → (k : ℕ) × (p (entry_at (held ∷ entries) k) ≡ true)
    by rest true here is = (0, here)
    by rest false here is = let more = rest is in (suc more.0, more.1)

-- what is left somewhere was left of what stood there
swept_at : (names : List ℕ) (entries : Entries) (number k : ℕ) → (lives : Bool) × (entry_at (swept names number entries) k ≡ left lives (entry_at entries k))
swept_at names [] number k = (false, refl)
swept_at names (held ∷ entries) number zero = (is_rooted held || is_needed names number (swept names (number + 1) entries), refl)
swept_at names (held ∷ entries) number (suc k) = swept_at names entries (number + 1) k

swept_needs : (names : List ℕ) (entries : Entries) (number n k : ℕ) → needs names n (entry_at (swept names number entries) k) ≡ true
    → needs names n (entry_at entries k) ≡ true
swept_needs names entries number n k need = by (needs names n (entry_at entries k)) refl
  where
    by : (b : Bool) → needs names n (entry_at entries k) ≡ b → b ≡ true
    by true is = refl
    by false is =
        let at = swept_at names entries number k in
        let none : needs names n (entry_at (swept names number entries) k) ≡ false = ap (needs names n) at.1
        ∙ left_needs names n at.0 (entry_at entries k) is in absurd (cc)

needs_some : (names : List ℕ) (n : ℕ) (held : Option Entry) → needs names n held ≡ true → (entry : Entry) × (held ≡ Some entry)
needs_some names n None need = absurd (cc)
needs_some names n (Some entry) need = (entry, refl)

least_here : (names : List ℕ) (P : ℕ → Type 0) (held : Option Entry) (entries : Entries) (number : ℕ) → (is_rooted held ≡ true → P (number + 0))
    → ((j : ℕ) → needs names (number + 0) (entry_at entries j) ≡ true → P (number + suc j) → P (number + 0))
    → ((m : ℕ) (e : Entry) → entry_at (swept names (number + 1) entries) m ≡ Some e → P ((number + 1) + m))
    → (entry : Entry) → left (is_rooted held || is_needed names number (swept names (number + 1) entries)) held ≡ Some entry → P (number + 0)
least_here names P held entries number rooted sources behind entry is = by (is_rooted held)
    (is_needed names number (swept names (number + 1) entries)) refl refl is
  where
    same : number + 0 ≡ number
    same = omega arith

    next : (m : ℕ) → (number + 1) + m ≡ number + suc m
    next m = omega arith

    by : (r n : Bool) → is_rooted held ≡ r → is_needed names number (swept names (number + 1) entries) ≡ n → left (r || n) held ≡ Some entry → P (number + 0)
    by true n root need lives = rooted root
    by false true root need lives =
        let some = any_some (needs names number) refl (swept names (number + 1) entries) need in
        let who = needs_some names number (entry_at (swept names (number + 1) entries) some.0) some.1 in
        sources some.0 (rw same (swept_needs names entries (number + 1) number some.0 some.1)) (subst P (next some.0) (behind some.0 who.0 who.1))
    by false false root need lives = absurd (cc)

pub least : (names : List ℕ) (P : ℕ → Type 0) (entries : Entries) (number : ℕ) → ((k : ℕ) → is_rooted (entry_at entries k) ≡ true → P (number + k))
    → ((k j : ℕ) → needs names (number + k) (entry_at entries j) ≡ true → P (number + j) → P (number + k))
    → (k : ℕ) (entry : Entry) → entry_at (swept names number entries) k ≡ Some entry → P (number + k)
least names P [] number rooted sources k entry is = absurd (cc)
least names P (held ∷ entries) number rooted sources zero entry is =
    least_here names P held entries number (rooted 0) (λ j need stands. sources 0 (suc j) need stands)
    (least names P entries (number + 1) (λ k root. subst P (sym (next number k)) (rooted (suc k) root))
    (λ k j need stands. subst P (sym (next number k)) (sources (suc k) (suc j) (rw (← next number k) need) (subst P (next number j) stands))))
    entry is
  where
    next : (n m : ℕ) → (n + 1) + m ≡ n + suc m
    next n m = omega arith
least names P (held ∷ entries) number rooted sources (suc k) entry is =
    subst P (next number k)
    (least names P entries (number + 1) (λ k root. subst P (sym (next number k)) (rooted (suc k) root))
    (λ k j need stands. subst P (sym (next number k)) (sources (suc k) (suc j) (rw (← next number k) need) (subst P (next number j) stands))) k entry is)
  where
    next : (n m : ℕ) → (n + 1) + m ≡ n + suc m
    next n m = omega arith
