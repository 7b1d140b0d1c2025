-- The bytes that a recipe gives, as cells. Own.
use Rattle.std.specs.Option.{option_map_or}
use Rattle.std.specs.Prelude.{Bool, List, Option, [], drop, false, option_and_then, take, true, ℕ, ◌++◌, ◌∷◌}
use Rattle.blob_entries.specs.Book.{entry_at}
use Rattle.blob_entries.specs.Names.{number_of}
use Rattle.blob_entries.specs.declared.entry.Entry.{Entry}
use Rattle.blob_entries.specs.declared.step.Step.{Step}
use Rattle.blob_entries.specs.declared.step.Step.TheVariants.{Fixed, Own, Source}
use Rattle.blob_items.specs.Cells.{cells, view_cells}
use Rattle.blob_items.specs.declared.view.View.{View}

-- the lengths of the steps
abbrev pub step_len : Step → ℕ
step_len (Own piece len) = len
step_len (Fixed view) = view.len
step_len (Source name off len) = len

abbrev pub is_own : Step → Bool
is_own (Own piece len) = true
is_own step = false

-- the entry of a source, and its views
abbrev pub source_at : List ℕ → List (Option Entry) → ℕ → Option Entry
source_at names entries name = option_and_then (entry_at entries) (number_of name names)

abbrev pub source_views : List ℕ → List (Option Entry) → ℕ → List View
source_views names entries name = option_map_or (λ (entry : Entry). entry.views) (source_at names entries name) []

-- the cells that the steps give, the views of own pieces being these
abbrev pub made_cells : List ℕ → List (Option Entry) → List Step → List View → List (ℕ × ℕ)
made_cells names entries [] own = []
made_cells names entries (Own piece len ∷ steps) [] = made_cells names entries steps []
made_cells names entries (Own piece len ∷ steps) (view ∷ own) = view_cells view ++ made_cells names entries steps own
made_cells names entries (Fixed view ∷ steps) own = view_cells view ++ made_cells names entries steps own
made_cells names entries (Source name off len ∷ steps) own = take len (drop off (cells (source_views names entries name))) ++ made_cells names entries steps own
