-- The views that entries hold. Own.
use Rattle.std.specs.Option.{option_map_or}
use Rattle.std.specs.Prelude.{List, Option, [], flat_map, sum_by, unwrap_or, ℕ, ◌++◌, ◌∷◌}
use Rattle.blob_entries.specs.Counts.{views_on}
use Rattle.blob_entries.specs.declared.entry.Entry.{Entry}
use Rattle.blob_entries.specs.declared.step.Step.{Step}
use Rattle.blob_entries.specs.declared.step.Step.TheVariants.{Fixed, Own, Source}
use Rattle.blob_items.specs.declared.view.View.{View}

-- the views that are there already
abbrev pub step_views : Step → List View
step_views (Own piece len) = []
step_views (Fixed view) = view ∷ []
step_views (Source name off len) = []

abbrev pub fixed_views : List Step → List View
fixed_views steps = flat_map step_views steps

-- the views that were brought
abbrev pub own_views : Option (List View) → List View
own_views own = unwrap_or own []

-- the views that an entry has
abbrev pub held_views : Entry → List View
held_views entry = (fixed_views entry.recipe ++ own_views entry.own) ++ entry.views

-- how many views entries have on a slot
abbrev pub views_in : List (Option Entry) → ℕ → ℕ
views_in entries slot = sum_by (λ (held : Option Entry). option_map_or (λ (entry : Entry). views_on slot (held_views entry)) held 0) entries
