-- Blobs at places, and what they want. Own.
use Rattle.std.specs.Prelude.{ℕ, ◌==◌, ◌++◌, ◌∷◌, ◌||◌, Bool, List, [], filter_map, slice_get, reverse, if◌then◌else◌}
use Rattle.std.specs.List.{list_any}
use Rattle.blob_model.specs.History.{History}
use Rattle.blob_model.specs.Parts.{sources}
use Rattle.blob_model.specs.Builds.{Build}
use Rattle.blob_model.specs.Standing.{is_unfinished}
use Rattle.blob_model.specs.Live.{is_rooted}

-- the items at these places
abbrev pub items_at : {X : Type 0} → List X → List ℕ → List X
items_at items places = filter_map (slice_get items) places

-- the blobs that an unfinished blob takes bytes from
abbrev pub wants : History → Build → List ℕ
wants h build = if is_unfinished h build.name then sources build.parts else []

-- whether the blob is rooted or one of those that are wanted
abbrev pub is_kept_alive : ℕ → History → List ℕ → ℕ → Bool
is_kept_alive page h wanted name = is_rooted page h name || list_any (λ (each : ℕ). each == name) wanted

-- the places of live blobs, from the last on, and what is wanted, after a look at one blob more
abbrev pub places_after : ℕ → History → Build → ℕ → List ℕ → List ℕ → List ℕ
places_after page h build place wanted places = if is_kept_alive page h wanted build.name then places ++ place ∷ [] else places

abbrev pub wanted_after : ℕ → History → Build → List ℕ → List ℕ
wanted_after page h build wanted = if is_kept_alive page h wanted build.name then wanted ++ wants h build else wanted
