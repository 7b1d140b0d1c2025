-- The renderers, with their origins. Own; an origin is the File API's.
use Rattle.std.specs.Prelude.{ℕ, ◌==◌, ◌&&◌, ◌||◌, Bool, true, false, not, List, [], ◌∷◌, ◌++◌, find}
use Rattle.std.specs.Option.{option_map_or}
use Rattle.std.specs.List.{list_any}
use Rattle.session_script.specs.declared.event.Event.{Event}
use Rattle.session_script.specs.declared.event.Event.TheVariants as events
use Rattle.blob_model.specs.History.{History, start, heard, refused, said}

-- a renderer: its number and its origin
pub record Renderer : Type 0 where
  pub number : ℕ
  pub origin : List ℕ

-- an accepted `spawn` line makes a renderer
abbrev pub spawned_after : Event → List Renderer → List Renderer
spawned_after (events.Spawn renderer origin) before = before ++ record { number = renderer.0; origin = origin } ∷ []
spawned_after event before = before

-- the renderers that were spawned, dead ones among them
abbrev pub spawned : History → List Renderer
spawned start = []
spawned (heard h event answer) = spawned_after event (spawned h)
spawned (refused h event why) = spawned h
spawned (said h answer) = spawned h

-- a renderer dies by its `die` line or by the `end` line
abbrev pub dead_after : Event → ℕ → Bool → Bool
dead_after (events.Die renderer) number before = (renderer.0 == number) || before
dead_after events.Finish number before = true
dead_after event number before = before

-- whether the renderer is dead
abbrev pub is_dead : History → ℕ → Bool
is_dead start number = false
is_dead (heard h event answer) number = dead_after event number (is_dead h number)
is_dead (refused h event why) number = is_dead h number
is_dead (said h answer) number = is_dead h number

-- whether a renderer of this number was spawned
abbrev pub is_spawned : History → ℕ → Bool
is_spawned h number = list_any (λ (renderer : Renderer). renderer.number == number) (spawned h)

-- whether it was spawned and is not dead
abbrev pub is_alive : History → ℕ → Bool
is_alive h number = is_spawned h number && not (is_dead h number)

-- the origin of the renderer
abbrev pub origin_of : History → ℕ → List ℕ
origin_of h number = option_map_or (λ (renderer : Renderer). renderer.origin) (find (λ (renderer : Renderer). renderer.number == number) (spawned h)) []
