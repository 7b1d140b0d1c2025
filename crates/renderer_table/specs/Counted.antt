-- What a call makes of the renderers, read number by number: who lives with which origin, how many handles each has on each blob, and which numbers were
-- spawned. Own.
use Rattle.std.specs.Prelude.{ℕ, ◌≡◌, ◌+◌, ◌==◌, ◌&&◌, ◌||◌, List, if◌then◌else◌, length, Option, Some, None}
use Rattle.std.specs.Option.{option_map}
use Rattle.renderer_table.specs.Counts.{count_on}
use Rattle.renderer_table.specs.Table.{Table, count_of, living_of, was_spawned}

-- the origin of a renderer, where it is alive
abbrev pub origin_at : ℕ → Table → Option (List ℕ)
origin_at id table = option_map (λ one. one.origin) (living_of id table)

-- counts of which the one on this blob changes
abbrev pub Recounts : (ℕ → ℕ) → ℕ → List (ℕ × ℕ) → List (ℕ × ℕ) → Type 0
Recounts change blob old new = (name : ℕ) → count_on name new ≡ (if blob == name then change (count_on name old) else count_on name old)

-- the count of this renderer on this blob changes; all others stay, and who lives and who was spawned
pub record ChangesCount (change : ℕ → ℕ) (id blob : ℕ) (old new : Table) : Type 0 where
  pub counts : (other name : ℕ) → count_of other name new ≡ (if (id == other) && (blob == name) then change (count_of other name old) else count_of other name
      old)
  pub origins : (other : ℕ) → origin_at other new ≡ origin_at other old
  pub spawned : new.spawned ≡ old.spawned

-- this renderer comes, with this origin and no handle; its number is one more of those spawned, and no other renderer changes
pub record Spawns (id : ℕ) (origin : List ℕ) (old new : Table) : Type 0 where
  pub counts : (other name : ℕ) → count_of other name new ≡ (if id == other then 0 else count_of other name old)
  pub origins : (other : ℕ) → origin_at other new ≡ (if id == other then Some origin else origin_at other old)
  pub known : (other : ℕ) → was_spawned other new ≡ ((id == other) || was_spawned other old)
  pub many : length new.spawned ≡ length old.spawned + 1

-- this renderer, which has no handle left, is dead; no other renderer changes, nor who was spawned
pub record Dies (id : ℕ) (old new : Table) : Type 0 where
  pub empty : (name : ℕ) → count_of id name old ≡ 0
  pub counts : (other name : ℕ) → count_of other name new ≡ count_of other name old
  pub origins : (other : ℕ) → origin_at other new ≡ (if id == other then None else origin_at other old)
  pub spawned : new.spawned ≡ old.spawned
