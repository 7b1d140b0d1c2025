-- How many views entries have on a slot, as one entry changes.
use Rattle.std.proofs.Common.{◌≡◌, ℕ, zero, suc, ◌+◌, ◌<◌, ◌≤◌, List, [], ◌∷◌, ◌++◌, Option, Some, None, length}
use Rattle.std.proofs.Common.{get_or, set, arith}
use Rattle.std.specs.Prelude.{sum, sum_by, option_and_then}
use Rattle.std.specs.Option.{option_map_or}
use Rattle.std.proofs.lemmas.List.Sums.{sum_by-cons}
use Rattle.blob_entries.specs.declared.entry.Entry.{Entry}
use Rattle.blob_entries.proofs.Counting.{on_append}
use Rattle.blob_entries.specs.Book.{entry_at}
use Rattle.blob_entries.specs.Contents.{source_views}
use Rattle.blob_entries.specs.Counts.{views_on}
use Rattle.blob_entries.specs.Holdings.{fixed_views, held_views, own_views, views_in}
use Rattle.blob_entries.specs.Names.{number_of}

abbrev Entries : Type 0
Entries = List (Option Entry)

-- the views of what stands somewhere
abbrev pub on_held : ℕ → Option Entry → ℕ
on_held slot held = option_map_or (λ (entry : Entry). views_on slot (held_views entry)) held 0

pub in_cons : (held : Option Entry) (entries : Entries) (slot : ℕ) → views_in (held ∷ entries) slot ≡ on_held slot held + views_in entries slot
in_cons held entries slot = sum_by-cons (on_held slot) held entries

pub in_set : (entries : Entries) (number : ℕ) (later : Option Entry) (slot : ℕ) → number < length entries
    → views_in (set entries number later) slot + on_held slot (entry_at entries number) ≡ views_in entries slot + on_held slot later
in_set [] number later slot within = absurd (omega arith)
in_set (held ∷ entries) zero later slot within = omega (arith, in_cons held entries slot, in_cons later entries slot)
in_set (held ∷ entries) (suc number) later slot within =
    omega (arith, in_cons held entries slot, in_cons held (set entries number later) slot, in_set entries number later slot (omega arith))

pub in_at : (entries : Entries) (number slot : ℕ) → on_held slot (entry_at entries number) ≤ views_in entries slot
in_at [] number slot = omega arith
in_at (held ∷ entries) zero slot = omega (arith, in_cons held entries slot)
in_at (held ∷ entries) (suc number) slot = omega (arith, in_cons held entries slot, in_at entries number slot)

-- the parts of the views of an entry
pub on_parts : (slot : ℕ) (entry : Entry)
    → views_on slot (held_views entry) ≡ views_on slot (fixed_views entry.recipe) + views_on slot (own_views entry.own) + views_on slot entry.views
on_parts slot entry = omega (
  arith,
  on_append slot (fixed_views entry.recipe ++ own_views entry.own) entry.views,
  on_append slot (fixed_views entry.recipe)
      (own_views entry.own),
)

-- the views of a source are among them
pub source_among : (names : List ℕ) (entries : Entries) (name slot : ℕ) → views_on slot (source_views names entries name) ≤ views_in entries slot
source_among names entries name slot = by (number_of name names)
  where
    on_views : (held : Option Entry) → views_on slot (option_map_or (λ (entry : Entry). entry.views) held []) ≤ on_held slot held
    on_views None = omega arith
    on_views (Some entry) = omega (arith, on_parts slot entry)

    by : (source : Option ℕ) → views_on slot
        (option_map_or (λ (entry : Entry). entry.views) (option_and_then (entry_at entries) source) []) ≤ views_in entries slot
    by None = omega arith
    by (Some number) = omega (arith, on_views (entry_at entries number), in_at entries number slot)

-- sums that weights bound
pub sum_bound : (f : Option Entry → ℕ) (entries : Entries) (weights : List ℕ) → f None ≡ 0
    → ((number : ℕ) → f (entry_at entries number) ≤ get_or weights number 0) → sum_by f entries ≤ sum weights
sum_bound f [] weights none bound = omega arith
sum_bound f (held ∷ entries) [] none bound = omega (arith, sum_by-cons f held entries, bound 0, sum_bound f entries [] none (λ number. bound (suc number)))
sum_bound f (held ∷ entries) (weight ∷ weights) none bound =
    omega (
      arith,
      sum_by-cons f held entries,
      sum_by-cons (λ (n : ℕ). n) weight weights,
      bound 0,
      sum_bound f entries weights none
          (λ number. bound (suc number)),
    )

pub sum_bound_at : (f : Option Entry → ℕ) (entries : Entries) (weights : List ℕ) (number extra : ℕ) → f None ≡ 0
    → ((other : ℕ) → f (entry_at entries other) ≤ get_or weights other 0)
    → f (entry_at entries number) + extra ≤ get_or weights number 0 → sum_by f entries + extra ≤ sum weights
sum_bound_at f [] [] number extra none bound at = omega (arith, at, none)
sum_bound_at f [] (weight ∷ weights) zero extra none bound at = omega (arith, at, none, sum_by-cons (λ (n : ℕ). n) weight weights)
sum_bound_at f [] (weight ∷ weights) (suc number) extra none bound at =
    omega (arith, sum_by-cons (λ (n : ℕ). n) weight weights, sum_bound_at f [] weights number extra none (λ other. omega (arith, none)) at)
sum_bound_at f (held ∷ entries) [] number extra none bound at = omega (arith, sum_bound f (held ∷ entries) [] none bound, at)
sum_bound_at f (held ∷ entries) (weight ∷ weights) zero extra none bound at =
    omega (arith, sum_by-cons f held entries, sum_by-cons (λ (n : ℕ). n) weight weights, at, sum_bound f entries weights none (λ other. bound (suc other)))
sum_bound_at f (held ∷ entries) (weight ∷ weights) (suc number) extra none bound at =
    omega (
      arith,
      sum_by-cons f held entries,
      sum_by-cons (λ (n : ℕ). n) weight weights,
      bound 0,
      sum_bound_at f entries weights number extra none
          (λ other. bound (suc other)) at,
    )
