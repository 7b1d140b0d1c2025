-- Where views begin, for a search.
use Rattle.std.specs.Prelude.{ℕ, ◌+◌, List, [], ◌∷◌}
use Rattle.blob_items.specs.declared.view.View.{View}

-- the starts of views that stand one after the other from a place on
abbrev pub starts_from : ℕ → List View → List ℕ
starts_from place [] = []
starts_from place (view ∷ views) = place ∷ starts_from (place + view.len) views
