-- The recipe of the parts of a line: its views, its own pieces, its sources, and the views that it may need.
use Rattle.std.proofs.Common.{◌≡◌, ℕ, zero, suc, ◌+◌, ◌≤◌, false, List, [], ◌∷◌, ◌++◌, length, refl, sym, ap, ◌∙◌, Option, Some, None, arith}
use Rattle.std.specs.Prelude.{filter, is_none, option_and_then, slice_get, slice_index, IsSome, IsSomeAnd}
use Rattle.std.specs.Int.{div_ceil}
use Rattle.std.specs.List.{AllByRecursion}
use Rattle.std.specs.Option.{option_map_or}
use Rattle.std.proofs.lemmas.List.Sums.{sum_by-cons}
use Rattle.session_script.specs.declared.event.Part.{Part}
use Rattle.session_script.specs.declared.event.Part.TheVariants.{Embedded, Asked, FileRange, BlobRange, HandleRange}
use Rattle.blob_items.specs.declared.view.View.{View}
use Rattle.blob_entries.specs.Book.{Book, entry_at, entry_of}
use Rattle.blob_entries.specs.Contents.{is_own}
use Rattle.blob_entries.specs.Holdings.{fixed_views}
use Rattle.blob_entries.specs.Names.{number_of}
use Rattle.blob_entries.specs.Weights.{cut_weight, step_weight}
use Rattle.blob_entries.specs.declared.entry.Entry.{Entry}
use Rattle.blob_entries.specs.declared.step.Step.{Step}
use Rattle.blob_entries.specs.declared.step.Step.TheVariants.{Own, Fixed, Source}
use Rattle.blob_model.specs.Parts.{own_lengths}
use Rattle.transport_plan.specs.Spans.{piece_count}
use Rattle.store_laws.specs.Deciding.{line_weight_in, part_weight_in, weight_in}
use Rattle.store_laws.specs.EntryLaws.{all_lengths}
use Rattle.store_laws.specs.PartLaws.{own_steps, piece_lengths, piece_no, recipe_of}
use Rattle.store_laws.specs.Stands.{Parts as PartsSaid}
use Rattle.blob_store.specs.Adding.{IsThere}
use Rattle.blob_store.specs.Blobs.{IsKnown}
use Rattle.store_laws.specs.NewItems.{range_items}
use Rattle.blob_store.specs.Seen.{parts_of}
use Rattle.blob_store.specs.Stored.{row_weights}
use Rattle.blob_store.specs.declared.parts.Parts.{Parts}
use Rattle.blob_store.specs.declared.row.Row.{Row}
use Rattle.blob_store.proofs.Putting.{steps_join}
use Rattle.blob_store.proofs.Weighing.{kept_weight}

-- ---- its views are those of the ranges

none_fixed : (number : ℕ) (lengths : List ℕ) (rest : List Step) → fixed_views (own_steps number lengths ++ rest) ≡ fixed_views rest
none_fixed number [] rest = refl
none_fixed number (len ∷ lengths) rest = none_fixed (number + 1) lengths rest

pub fixed_made : (page number : ℕ) (views : List View) (parts : List Part) → length views ≡ length (range_items parts)
    → fixed_views (recipe_of page number views parts) ≡ views
fixed_made page number [] [] many = refl
fixed_made page number (view ∷ views) [] many = absurd (omega (arith, many))
fixed_made page number views (Embedded bytes ∷ parts) many =
    none_fixed number (piece_lengths page (length bytes)) (recipe_of page (number + length (piece_lengths page (length bytes))) views parts)
    ∙ fixed_made page (number + length (piece_lengths page (length bytes))) views parts many
fixed_made page number views (Asked len ∷ parts) many =
    none_fixed number (piece_lengths page len) (recipe_of page (number + length (piece_lengths page len)) views parts)
    ∙ fixed_made page (number + length (piece_lengths page len)) views parts many
fixed_made page number views (FileRange name off zero stamp ∷ parts) many = fixed_made page number views parts many
fixed_made page number [] (FileRange name off (suc len) stamp ∷ parts) many = absurd (omega (arith, many))
fixed_made page number (view ∷ views) (FileRange name off (suc len) stamp ∷ parts) many =
    ap (λ (list : List View). view ∷ list) (fixed_made page number views parts (omega (arith, many)))
fixed_made page number views (BlobRange b off len ∷ parts) many = fixed_made page number views parts many
fixed_made page number views (HandleRange k off zero ∷ parts) many = fixed_made page number views parts many
fixed_made page number [] (HandleRange k off (suc len) ∷ parts) many = absurd (omega (arith, many))
fixed_made page number (view ∷ views) (HandleRange k off (suc len) ∷ parts) many =
    ap (λ (list : List View). view ∷ list) (fixed_made page number views parts (omega (arith, many)))

-- ---- it has a step for each own piece

own_kept : (number : ℕ) (lengths : List ℕ) (rest : List Step)
    → filter is_own (own_steps number lengths ++ rest) ≡ own_steps number lengths ++ filter is_own rest
own_kept number [] rest = refl
own_kept number (len ∷ lengths) rest = ap (λ (list : List Step). Own (piece_no number) len ∷ list) (own_kept (number + 1) lengths rest)

pub own_found : (page number : ℕ) (views : List View) (parts : List Part)
    → filter is_own (recipe_of page number views parts) ≡ own_steps number (all_lengths page parts)
own_found page number views [] = refl
own_found page number views (Embedded bytes ∷ parts) =
    own_kept number (piece_lengths page (length bytes)) (recipe_of page (number + length (piece_lengths page (length bytes))) views parts)
    ∙ ap (λ (list : List Step). own_steps number (piece_lengths page (length bytes)) ++ list)
    (own_found page (number + length (piece_lengths page (length bytes))) views parts)
    ∙ sym (steps_join number (piece_lengths page (length bytes)) (all_lengths page parts))
own_found page number views (Asked len ∷ parts) =
    own_kept number (piece_lengths page len) (recipe_of page (number + length (piece_lengths page len)) views parts)
    ∙ ap (λ (list : List Step). own_steps number (piece_lengths page len) ++ list) (own_found page (number + length (piece_lengths page len)) views parts)
    ∙ sym (steps_join number (piece_lengths page len) (all_lengths page parts))
own_found page number views (FileRange name off zero stamp ∷ parts) = own_found page number views parts
own_found page number [] (FileRange name off (suc len) stamp ∷ parts) = own_found page number [] parts
own_found page number (view ∷ views) (FileRange name off (suc len) stamp ∷ parts) = own_found page number views parts
own_found page number views (BlobRange b off len ∷ parts) = own_found page number views parts
own_found page number views (HandleRange k off zero ∷ parts) = own_found page number views parts
own_found page number [] (HandleRange k off (suc len) ∷ parts) = own_found page number [] parts
own_found page number (view ∷ views) (HandleRange k off (suc len) ∷ parts) = own_found page number views parts

-- ---- its sources were built

own_known : (names : List ℕ) (number : ℕ) (lengths : List ℕ) (rest : List Step) → AllByRecursion (IsKnown names) rest
    → AllByRecursion (IsKnown names) (own_steps number lengths ++ rest)
own_known names number [] rest known = known
own_known names number (len ∷ lengths) rest known = (tt, own_known names (number + 1) lengths rest known)

module _ (book : Book) where
  -- what stands under a name has a build number
  pub there_numbered : (P : Entry → Type 0) (name : ℕ) → IsSomeAnd (entry_of book name) P → IsSome (number_of name book.names)
  there_numbered P name there = by (number_of name book.names) there
    where
      by : (found : Option ℕ) → IsSomeAnd (option_and_then (entry_at book.entries) found) P → IsSome found
      by None is = absurd is
      by (Some number) is = refl

  pub steps_known : (page number : ℕ) (views : List View) (parts : List Part) → AllByRecursion (IsThere book) parts
      → AllByRecursion (IsKnown book.names) (recipe_of page number views parts)
  steps_known page number views [] there = tt
  steps_known page number views (Embedded bytes ∷ parts) there =
      own_known book.names number (piece_lengths page (length bytes)) (recipe_of page (number + length (piece_lengths page (length bytes))) views parts)
      (steps_known page (number + length (piece_lengths page (length bytes))) views parts there.1)
  steps_known page number views (Asked len ∷ parts) there =
      own_known book.names number (piece_lengths page len) (recipe_of page (number + length (piece_lengths page len)) views parts)
      (steps_known page (number + length (piece_lengths page len)) views parts there.1)
  steps_known page number views (FileRange name off zero stamp ∷ parts) there = steps_known page number views parts there.1
  steps_known page number [] (FileRange name off (suc len) stamp ∷ parts) there = steps_known page number [] parts there.1
  steps_known page number (view ∷ views) (FileRange name off (suc len) stamp ∷ parts) there = (tt, steps_known page number views parts there.1)
  steps_known page number views (BlobRange b off len ∷ parts) there =
      (there_numbered (λ (entry : Entry). off + len ≤ entry.size) b there.0, steps_known page number views parts there.1)
  steps_known page number views (HandleRange k off zero ∷ parts) there = steps_known page number views parts there.1
  steps_known page number [] (HandleRange k off (suc len) ∷ parts) there = steps_known page number [] parts there.1
  steps_known page number (view ∷ views) (HandleRange k off (suc len) ∷ parts) there = (tt, steps_known page number views parts there.1)

-- ---- the views that it may need

own_weightless : (names weights : List ℕ) (number : ℕ) (lengths : List ℕ) (rest : List Step)
    → cut_weight names weights (own_steps number lengths ++ rest) ≡ cut_weight names weights rest
own_weightless names weights number [] rest = refl
own_weightless names weights number (len ∷ lengths) rest =
    let sums = sum_by-cons (step_weight names weights) (Own (piece_no number) len) (own_steps (number + 1) lengths ++ rest) in
    omega (arith, sums, own_weightless names weights (number + 1) lengths rest)

module _ (book : Book) (weights : List ℕ) (said : PartsSaid)
    (light : (P : Entry → Type 0) (b : ℕ) → IsSomeAnd (entry_of book b) P
    → option_map_or (slice_index weights) (number_of b book.names) 0 ≤ weight_in said b) where
  abbrev needs : ℕ → List View → List Part → ℕ
  needs number views parts =
      (length views + piece_count said.limits.page (own_lengths parts)) + cut_weight book.names weights (recipe_of said.limits.page number views parts)

  own_more : (number len : ℕ) (views : List View) (parts : List Part)
      → needs (number + length (piece_lengths said.limits.page len)) views parts ≤ line_weight_in said parts
      → (length views + piece_count said.limits.page (len ∷ own_lengths parts))
      + cut_weight book.names weights (own_steps number (piece_lengths said.limits.page len)
      ++ recipe_of said.limits.page (number + length (piece_lengths said.limits.page len)) views parts)
      ≤ div_ceil len said.limits.page + line_weight_in said parts
  own_more number len views parts rest =
      let count = sum_by-cons (λ (one : ℕ). div_ceil one said.limits.page) len (own_lengths parts) in
      let none = own_weightless book.names weights number (piece_lengths said.limits.page len)
      (recipe_of said.limits.page (number + length (piece_lengths said.limits.page len)) views parts) in
      omega (arith, count, none, rest)

  pub recipe_light : (number : ℕ) (views : List View) (parts : List Part) → length views ≡ length (range_items parts) → AllByRecursion (IsThere book) parts
      → needs number views parts ≤ line_weight_in said parts
  recipe_light number [] [] many there = omega arith
  recipe_light number (view ∷ views) [] many there = absurd (omega (arith, many))
  recipe_light number views (Embedded bytes ∷ parts) many there =
      let sums = sum_by-cons (part_weight_in said) (Embedded bytes) parts in
      let rest = own_more number (length bytes) views parts
      (recipe_light (number + length (piece_lengths said.limits.page (length bytes))) views parts many there.1) in
      omega (arith, sums, rest)
  recipe_light number views (Asked len ∷ parts) many there =
      let sums = sum_by-cons (part_weight_in said) (Asked len) parts in
      let rest = own_more number len views parts (recipe_light (number + length (piece_lengths said.limits.page len)) views parts many there.1) in
      omega (arith, sums, rest)
  recipe_light number views (FileRange name off zero stamp ∷ parts) many there =
      let sums = sum_by-cons (part_weight_in said) (FileRange name off zero stamp) parts in
      let rest = recipe_light number views parts many there.1 in
      omega (arith, sums, rest)
  recipe_light number [] (FileRange name off (suc len) stamp ∷ parts) many there = absurd (omega (arith, many))
  recipe_light number (view ∷ views) (FileRange name off (suc len) stamp ∷ parts) many there =
      let sums = sum_by-cons (part_weight_in said) (FileRange name off (suc len) stamp) parts in
      let step = sum_by-cons (step_weight book.names weights) (Fixed view) (recipe_of said.limits.page number views parts) in
      let rest = recipe_light number views parts (omega (arith, many)) there.1 in
      omega (arith, sums, step, rest)
  recipe_light number views (BlobRange b off len ∷ parts) many there =
      let sums = sum_by-cons (part_weight_in said) (BlobRange b off len) parts in
      let step = sum_by-cons (step_weight book.names weights) (Source b off len) (recipe_of said.limits.page number views parts) in
      let rest = recipe_light number views parts many there.1 in
      let less = light (λ (entry : Entry). off + len ≤ entry.size) b there.0 in
      omega (arith, sums, step, rest, less)
  recipe_light number views (HandleRange k off zero ∷ parts) many there =
      let sums = sum_by-cons (part_weight_in said) (HandleRange k off zero) parts in
      let rest = recipe_light number views parts many there.1 in
      omega (arith, sums, rest)
  recipe_light number [] (HandleRange k off (suc len) ∷ parts) many there = absurd (omega (arith, many))
  recipe_light number (view ∷ views) (HandleRange k off (suc len) ∷ parts) many there =
      let sums = sum_by-cons (part_weight_in said) (HandleRange k off (suc len)) parts in
      let step = sum_by-cons (step_weight book.names weights) (Fixed view) (recipe_of said.limits.page number views parts) in
      let rest = recipe_light number views parts (omega (arith, many)) there.1 in
      omega (arith, sums, step, rest)

-- ---- the weights of blobs that stand are those of their rows

row_weight : (rows : List Row) (number : ℕ) → slice_index (row_weights rows) number ≡ option_map_or (λ (row : Row). row.weight) (slice_get rows number) 0
row_weight [] number = refl
row_weight (row ∷ rows) zero = refl
row_weight (row ∷ rows) (suc number) = row_weight rows number

pub weights_said : (old : Parts) (P : Entry → Type 0) (b : ℕ) → IsSomeAnd (entry_of old.registry b) P
    → option_map_or (slice_index (row_weights old.rows)) (number_of b old.registry.names) 0 ≤ weight_in (parts_of old) b
weights_said old P b there = by (number_of b old.registry.names) refl there
  where
    some : (held : Option Entry) → IsSomeAnd held P → is_none held ≡ false
    some None is = absurd is
    some (Some entry) is = refl

    by : (found : Option ℕ) → number_of b old.registry.names ≡ found → IsSomeAnd (option_and_then (entry_at old.registry.entries) found) P
        → option_map_or (slice_index (row_weights old.rows)) found 0 ≤ weight_in (parts_of old) b
    by None at is = absurd is
    by (Some number) at is =
        let here = row_weight old.rows number in
        let kept = kept_weight old b number at (some (entry_at old.registry.entries number) is) in
        omega (arith, here, kept)
