-- Views lie inside items where each of their places does, and so do those that a recipe gives.
use Rattle.std.proofs.Common.{◌≡◌, ℕ, zero, suc, ◌+◌, ◌<◌, ◌≤◌, true, List, [], ◌∷◌, map, take, drop, refl, subst, sym, Option, Some, None, arith}
use Rattle.std.specs.Prelude.{IsSomeAnd}
use Rattle.std.specs.Option.{option_map_or}
use Rattle.std.specs.List.{AllByRecursion, range_with_len}
use Rattle.std.proofs.lemmas.Bool.{and_parts}
use Rattle.item_shares.specs.Shares.{item_at}
use Rattle.item_shares.specs.declared.item.Item.{Item}
use Rattle.item_shares.specs.declared.shares.Share.{Share}
use Rattle.blob_items.specs.Cells.{cells, view_cells}
use Rattle.blob_items.specs.declared.view.View.{View}
use Rattle.blob_entries.specs.Book.{entry_at, is_done_at}
use Rattle.blob_entries.specs.Contents.{made_cells, source_views}
use Rattle.blob_entries.specs.Holdings.{fixed_views}
use Rattle.blob_entries.specs.Names.{number_of}
use Rattle.blob_entries.specs.Sound.{StepFits}
use Rattle.blob_entries.specs.Sources.{each_source}
use Rattle.blob_entries.specs.declared.entry.Entry.{Entry}
use Rattle.blob_entries.specs.declared.step.Step.{Step}
use Rattle.blob_entries.specs.declared.step.Step.TheVariants.{Own, Fixed, Source}
use Rattle.blob_model.proofs.Lists.{all_append, append_second}
use Rattle.store_laws.specs.Items.{item_length}
use Rattle.store_laws.proofs.ViewHas.{append_first}

take_all : {X : Type 0} (P : X → Type 0) (n : ℕ) (xs : List X) → AllByRecursion P xs → AllByRecursion P (take n xs)
take_all P zero xs all = tt
take_all P (suc n) [] all = tt
take_all P (suc n) (x ∷ xs) all = (all.0, take_all P n xs all.1)

drop_all : {X : Type 0} (P : X → Type 0) (n : ℕ) (xs : List X) → AllByRecursion P xs → AllByRecursion P (drop n xs)
drop_all P zero xs all = all
drop_all P (suc n) [] all = tt
drop_all P (suc n) (x ∷ xs) all = drop_all P n xs all.1

module _ (Q : Item → Type 0) (shares : List (Option Share)) where
  -- a place lies inside the item of its slot, of which this holds, and so does a view
  abbrev pub IsPlace : ℕ × ℕ → Type 0
  IsPlace pair = IsSomeAnd (item_at shares pair.0) (λ (item : Item). (pair.1 < item_length item) × Q item)

  abbrev pub IsWithin : View → Type 0
  IsWithin view = IsSomeAnd (item_at shares view.slot) (λ (item : Item). (view.off + view.len ≤ item_length item) × Q item)

  ranged : (slot from len : ℕ) (held : Option Item) → IsSomeAnd held (λ (item : Item). (from + len ≤ item_length item) × Q item)
      → AllByRecursion (λ (pair : ℕ × ℕ). IsSomeAnd held (λ (item : Item). (pair.1 < item_length item) × Q item))
      (map (λ (place : ℕ). (slot, place)) (range_with_len from len))
  ranged slot from len None is = absurd is
  ranged slot from zero (Some item) is = tt
  ranged slot from (suc len) (Some item) is =
      let fits = is.0 in
      let one : from < item_length item = omega (arith, fits) in
      let rest : from + 1 + len ≤ item_length item = omega (arith, fits) in
      ((one, is.1), ranged slot (from + 1) len (Some item) (rest, is.1))

  sloted : (slot : ℕ) (places : List ℕ)
      → AllByRecursion (λ (pair : ℕ × ℕ). IsSomeAnd (item_at shares slot) (λ (item : Item). (pair.1 < item_length item) × Q item))
      (map (λ (place : ℕ). (slot, place)) places)
      → AllByRecursion IsPlace (map (λ (place : ℕ). (slot, place)) places)
  sloted slot [] is = tt
  sloted slot (place ∷ places) is = (is.0, sloted slot places is.1)

  pub places_of : (view : View) → IsWithin view → AllByRecursion IsPlace (view_cells view)
  places_of view is = sloted view.slot (range_with_len view.off view.len) (ranged view.slot view.off view.len (item_at shares view.slot) is)

  pub places_in : (views : List View) → AllByRecursion IsWithin views → AllByRecursion IsPlace (cells views)
  places_in [] is = tt
  places_in (view ∷ views) is = all_append IsPlace (view_cells view) (cells views) (places_of view is.0) (places_in views is.1)

  last_in : (slot from len : ℕ) → AllByRecursion IsPlace (map (λ (place : ℕ). (slot, place)) (range_with_len from (suc len)))
      → IsSomeAnd (item_at shares slot) (λ (item : Item). (from + suc len ≤ item_length item) × Q item)
  last_in slot from zero is = by (item_at shares slot) is.0
    where
      by : (held : Option Item) → IsSomeAnd held (λ (item : Item). (from < item_length item) × Q item)
          → IsSomeAnd held (λ (item : Item). (from + 1 ≤ item_length item) × Q item)
      by None is = absurd is
      by (Some item) is = (let below = is.0 in omega (arith, below), is.1)
  last_in slot from (suc len) is = by (item_at shares slot) (last_in slot (from + 1) len is.1)
    where
      by : (held : Option Item) → IsSomeAnd held (λ (item : Item). (from + 1 + suc len ≤ item_length item) × Q item)
          → IsSomeAnd held (λ (item : Item). (from + suc (suc len) ≤ item_length item) × Q item)
      by None is = absurd is
      by (Some item) is = (let below = is.0 in omega (arith, below), is.1)

  within_by : (view : View) (len : ℕ) → view.len ≡ len → 0 < len → AllByRecursion IsPlace (view_cells view) → IsWithin view
  within_by view zero same some is = absurd (omega (arith, some))
  within_by view (suc len) same some is =
      subst (λ (n : ℕ). IsSomeAnd (item_at shares view.slot) (λ (item : Item). (view.off + n ≤ item_length item) × Q item)) (sym same)
      (last_in view.slot view.off len
      (subst (λ (n : ℕ). AllByRecursion IsPlace (map (λ (place : ℕ). (view.slot, place)) (range_with_len view.off n))) same is))

  -- views, none of them empty, lie inside where each of their places does
  pub within_places : (views : List View) → AllByRecursion IsPlace (cells views) → AllByRecursion IsWithin views
  within_places [] is = tt
  within_places (view ∷ views) is = (
    within_by view view.len refl view.some (append_first IsPlace (view_cells view) (cells views) is),
    within_places views (append_second IsPlace (view_cells view) (cells views) is),
  )

  -- ---- what a recipe gives

  module _ (names : List ℕ) (whole after : List (Option Entry)) (number : ℕ) where
    -- the views of each source that was built before and is done lie inside items
    abbrev pub AreWithin : Type 0
    AreWithin = (name k : ℕ) → k < number → number_of name names ≡ Some k → is_done_at after k ≡ true → AllByRecursion IsWithin (source_views names after name)

    of_source : AreWithin → (name off len : ℕ) → StepFits names whole number (Source name off len)
        → (o : Option ℕ) → number_of name names ≡ o → option_map_or (is_done_at after) o true ≡ true
        → AllByRecursion IsWithin (source_views names after name)
    of_source within name off len fits None at done = absurd (subst (λ (o : Option ℕ). IsSomeAnd o (λ (source : ℕ). (source < number)
        × IsSomeAnd (entry_at whole source) (λ (entry : Entry). off + len ≤ entry.size))) at fits)
    of_source within name off len fits (Some k) at done =
        within name k
        (subst (λ (o : Option ℕ). IsSomeAnd o (λ (source : ℕ). (source < number)
        × IsSomeAnd (entry_at whole source) (λ (entry : Entry). off + len ≤ entry.size))) at fits).0 at done

    pub places_made : AreWithin → (steps : List Step) (own : List View) → AllByRecursion (StepFits names whole number) steps
        → each_source names (is_done_at after) steps ≡ true → AllByRecursion IsWithin own → AllByRecursion IsWithin (fixed_views steps)
        → AllByRecursion IsPlace (made_cells names after steps own)
    places_made within [] own fits done inside fixed = tt
    places_made within (Own piece len ∷ steps) [] fits done inside fixed = places_made within steps [] fits.1 done inside fixed
    places_made within (Own piece len ∷ steps) (view ∷ own) fits done inside fixed =
        all_append IsPlace (view_cells view) (made_cells names after steps own) (places_of view inside.0)
        (places_made within steps own fits.1 done inside.1 fixed)
    places_made within (Fixed view ∷ steps) own fits done inside fixed =
        all_append IsPlace (view_cells view) (made_cells names after steps own) (places_of view fixed.0)
        (places_made within steps own fits.1 done inside fixed.1)
    places_made within (Source name off len ∷ steps) own fits done inside fixed =
        let two = and_parts (option_map_or (is_done_at after) (number_of name names) true) (each_source names (is_done_at after) steps) done in
        let of = cells (source_views names after name) in
        all_append IsPlace (take len (drop off of)) (made_cells names after steps own)
        (take_all IsPlace len (drop off of)
        (drop_all IsPlace off of (places_in (source_views names after name) (of_source within name off len fits.0 (number_of name names) refl two.0))))
        (places_made within steps own fits.1 two.1 inside fixed)
