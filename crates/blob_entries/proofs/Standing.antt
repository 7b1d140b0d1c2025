-- A walk over what stands.
use Rattle.std.proofs.Common.{◌≡◌, ℕ, zero, suc, ◌+◌, ◌-◌, ◌<◌, ◌≤◌, true, List, [], ◌∷◌, ◌++◌, Option, Some, None, length, drop, cond, refl, arith}
use Rattle.std.specs.Prelude.{is_some, slice_get, slice_index}
use Rattle.std.proofs.lemmas.List.{drop_all}
use Rattle.blob_entries.specs.declared.entry.Entry.{Entry}
use Rattle.blob_entries.specs.Book.{entry_at}
use Rattle.blob_entries.specs.Standing.{name_if, standing}

abbrev Entries : Type 0
Entries = List (Option Entry)

-- the one at a place, and those behind it
pub standing_more : (names : List ℕ) (entries : Entries) (i : ℕ) → i < length entries → length names ≡ length entries
    → standing (drop i names) (drop i entries) ≡ name_if (entry_at entries i) (slice_index names i) ++ standing (drop (i + 1) names) (drop (i + 1) entries)
standing_more names [] i inside sized = absurd (omega arith)
standing_more [] (held ∷ entries) i inside sized = absurd (omega (arith, sized))
standing_more (name ∷ names) (held ∷ entries) zero inside sized = refl
standing_more (name ∷ names) (held ∷ entries) (suc i) inside sized =
    let next : suc i + 1 ≡ suc (i + 1) = omega arith in
    rw next (standing_more names entries i (omega arith) (omega (arith, sized)))

pub standing_end : (names : List ℕ) (entries : Entries) (i : ℕ) → length entries ≤ i → standing (drop i names) (drop i entries) ≡ []
standing_end names entries i past = rw (drop_all i entries past) refl

-- as many as 1 where something stands
pub counted_if : (held : Option Entry) (name : ℕ) (rest : List ℕ) → length (name_if held name ++ rest) ≡ cond (is_some held) 1 0 + length rest
counted_if None name rest = omega arith
counted_if (Some entry) name rest = omega arith

-- the one that is the next, and one that is a later one
pub next_is : (held : Option Entry) (name : ℕ) (rest : List ℕ) → is_some held ≡ true → slice_get (name_if held name ++ rest) 0 ≡ Some name
next_is None name rest is = absurd (cc)
next_is (Some entry) name rest is = refl

pub later_is : (held : Option Entry) (name left : ℕ) (rest : List ℕ) → (is_some held ≡ true → 0 < left) → slice_get (name_if held name ++ rest) left
    ≡ slice_get rest (left - cond (is_some held) 1 0)
later_is None name left rest above = let same : left - 0 ≡ left = omega arith in rw same refl
later_is (Some entry) name zero rest above = absurd (omega (arith, above refl))
later_is (Some entry) name (suc left) rest above = let same : suc left - 1 ≡ left = omega arith in rw same refl

-- where fewer are left than stand here, one stands here and none is left
pub last_here : (held : Option Entry) (left : ℕ) → left < cond (is_some held) 1 0 → (is_some held ≡ true) × (left ≡ 0)
last_here None left below = absurd (omega (arith, below))
last_here (Some entry) left below = (refl, omega (arith, below))

pub some_left : (held : Option Entry) (left : ℕ) → cond (is_some held) 1 0 ≤ left → is_some held ≡ true → 0 < left
some_left None left le is = absurd (cc)
some_left (Some entry) left le is = omega (arith, le)

pub one_at_most : (held : Option Entry) → cond (is_some held) 1 0 ≤ 1
one_at_most None = omega arith
one_at_most (Some entry) = omega arith
