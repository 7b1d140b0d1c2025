-- Spans of bytes, and what a range takes of views. Own.
use Rattle.std.specs.Prelude.{ℕ, zero, suc, ◌+◌, ◌<◌, ◌≤◌, List, [], ◌∷◌}
use Rattle.blob_entries.specs.declared.step.Step.{Step}
use Rattle.blob_entries.specs.declared.step.Step.TheVariants.{Fixed}
use Rattle.blob_items.specs.declared.view.View.{View}

-- a span lies inside so many bytes, and isn't empty
abbrev pub IsSpanIn : ℕ → ℕ × ℕ → Type 0
IsSpanIn count span = (0 < span.1) × (span.0 + span.1 ≤ count)

-- the step of a range of so many bytes, which is the next view, and the views behind it
abbrev pub range_step : ℕ → List View → List Step
range_step zero views = []
range_step (suc len) [] = []
range_step (suc len) (view ∷ views) = Fixed view ∷ []

abbrev pub range_rest : ℕ → List View → List View
range_rest zero views = views
range_rest (suc len) [] = []
range_rest (suc len) (view ∷ views) = views

-- the number of bytes of a span
abbrev pub span_length : ℕ × ℕ → ℕ
span_length span = span.1
