-- The sources of a recipe, and who needs whom. Own.
use Rattle.std.specs.List.{list_all, list_any}
use Rattle.std.specs.Option.{option_map_or, option_to_list}
use Rattle.std.specs.Prelude.{Bool, List, None, Option, [], false, flat_map, if◌then◌else◌, true, ℕ, ◌&&◌, ◌==◌}
use Rattle.blob_entries.specs.Names.{number_of}
use Rattle.blob_entries.specs.Statuses.{is_pending}
use Rattle.blob_entries.specs.declared.entry.Entry.{Entry}
use Rattle.blob_entries.specs.declared.step.Step.{Step}
use Rattle.blob_entries.specs.declared.step.Step.TheVariants.{Fixed, Own, Source}

-- the build number of the source of a step
abbrev pub step_source : List ℕ → Step → Option ℕ
step_source names (Own piece len) = None
step_source names (Fixed view) = None
step_source names (Source name off len) = number_of name names

-- whether a source passes the test, and whether each does
abbrev pub source_passes : List ℕ → (ℕ → Bool) → Bool → Step → Bool
source_passes names test default step = option_map_or test (step_source names step) default

abbrev pub some_source : List ℕ → (ℕ → Bool) → List Step → Bool
some_source names test steps = list_any (source_passes names test false) steps

abbrev pub each_source : List ℕ → (ℕ → Bool) → List Step → Bool
each_source names test steps = list_all (source_passes names test true) steps

-- whether what stands there is unfinished and has the source
abbrev pub needs : List ℕ → ℕ → Option Entry → Bool
needs names number held = option_map_or (λ (entry : Entry). is_pending entry.status && some_source names
    (λ (source : ℕ). source == number) entry.recipe) held false

-- the build numbers of the sources of steps, in order, as often as steps name them
abbrev pub step_sources : List ℕ → Step → List ℕ
step_sources names step = option_to_list (step_source names step)

abbrev pub sources_of : List ℕ → List Step → List ℕ
sources_of names steps = flat_map (step_sources names) steps

-- those of what stands there, where it is unfinished
abbrev pub sources_at : List ℕ → Option Entry → List ℕ
sources_at names held = option_map_or (λ (entry : Entry). if is_pending entry.status then sources_of names entry.recipe else []) held []
