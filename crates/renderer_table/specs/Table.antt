-- The renderers of a session. Own.
use Rattle.std.specs.Prelude.{ℕ, ◌≡◌, ◌==◌, Bool, List, [], if◌then◌else◌, is_none, length, nat_le, Option, Some, None}
use Rattle.std.specs.Option.{option_map_or}
use Rattle.std.specs.List.{list_any}
use Rattle.std.specs.Ordering.{nat_cmp}
use Rattle.std.specs.Map.{lookup, set_value}
use Rattle.std.specs.BTreeMap.{insert_entry, is_at}
use Rattle.std.specs.BTreeSet.{insert_key}
use Rattle.blob_words.specs.declared.bounds.TheConstants.{MOST_RENDERERS}
use Rattle.renderer_table.specs.declared.living.Living.{Living}
use Rattle.renderer_table.specs.declared.fault.SpawnFault.{SpawnFault}
use Rattle.renderer_table.specs.declared.fault.SpawnFault.TheVariants as spawns
use Rattle.renderer_table.specs.declared.fault.PassFault.{PassFault}
use Rattle.renderer_table.specs.declared.fault.PassFault.TheVariants as passes
use Rattle.renderer_table.specs.declared.fault.DropFault.{DropFault}
use Rattle.renderer_table.specs.declared.fault.DropFault.TheVariants as drops
use Rattle.blob_words.specs.declared.number.RendererId.{RendererId}
use Rattle.renderer_table.specs.Counts.{count_on}

-- the numbers ever spawned and the living renderers by their numbers, both in rising order
pub record Table : Type 0 where
  pub spawned : List ℕ
  pub living : List (ℕ × Living)

-- the renderer of a number, where it is alive
abbrev pub living_of : ℕ → Table → Option Living
living_of id table = lookup (is_at (nat_cmp id)) table.living

-- the counts of a renderer, none where it isn't among the living ones
abbrev pub counts_in : ℕ → List (ℕ × Living) → List (ℕ × ℕ)
counts_in id living = option_map_or (λ one. one.counts) (lookup (is_at (nat_cmp id)) living) []

-- the counts of a renderer of the table
abbrev pub counts_of : ℕ → Table → List (ℕ × ℕ)
counts_of id table = counts_in id table.living

-- its count on a blob
abbrev pub count_of : ℕ → ℕ → Table → ℕ
count_of id blob table = count_on blob (counts_of id table)

-- whether a number was spawned, alive or dead
abbrev pub was_spawned : ℕ → Table → Bool
was_spawned id table = list_any (is_at (nat_cmp id)) table.spawned

-- the table with one more renderer, which has no handle yet
abbrev pub spawned_in : ℕ → List ℕ → Table → Table
spawned_in id origin table = record {
  spawned = insert_key nat_cmp table.spawned id;
  living = insert_entry nat_cmp table.living id (record { origin = origin; counts = [] });
}

-- the living ones, among which the one of this number has these counts
abbrev pub counted_in : ℕ → List (ℕ × ℕ) → List (ℕ × Living) → List (ℕ × Living)
counted_in id counts living =
    option_map_or (λ one. set_value (is_at (nat_cmp id)) living (record one { counts = counts })) (lookup (is_at (nat_cmp id)) living) living

-- the table in which a renderer has these counts; nothing else changes
abbrev pub with_counts : ℕ → List (ℕ × ℕ) → Table → Table
with_counts id counts table = record table { living = counted_in id counts table.living }

-- why a number can't be spawned: a number serves once, and only so many serve
abbrev pub spawn_fault : ℕ → Table → Option SpawnFault
spawn_fault id table =
    if was_spawned id table then Some spawns.Used else if nat_le MOST_RENDERERS (length table.spawned) then Some spawns.Full else None

-- a fault is the one that is due; want of memory comes only where none is
abbrev pub IsCause : SpawnFault → Option SpawnFault → Type 0
IsCause spawns.Used due = due ≡ Some spawns.Used
IsCause spawns.Full due = due ≡ Some spawns.Full
IsCause spawns.NoMemory due = due ≡ None

-- why a handle can't be passed on: the giver is looked at before the taker
abbrev pub pass_fault : RendererId → RendererId → ℕ → Table → Option PassFault
pass_fault from to blob table =
    if is_none (living_of from.0 table) then Some (passes.NoRenderer from)
    else if is_none (living_of to.0 table) then Some (passes.NoRenderer to)
    else if count_of from.0 blob table == 0 then Some passes.NoHandle else None

-- a fault is the one that is due; want of memory comes only where none is
abbrev pub IsPassCause : PassFault → Option PassFault → Type 0
IsPassCause (passes.NoRenderer id) due = due ≡ Some (passes.NoRenderer id)
IsPassCause passes.NoHandle due = due ≡ Some passes.NoHandle
IsPassCause passes.NoMemory due = due ≡ None

-- why a handle can't be dropped
abbrev pub drop_fault : RendererId → ℕ → Table → Option DropFault
drop_fault id blob table =
    if is_none (living_of id.0 table) then Some (drops.NoRenderer id)
    else if count_of id.0 blob table == 0 then Some drops.NoHandle else None
