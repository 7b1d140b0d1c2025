-- What follows where no fault of the renderers is due.
use Rattle.std.proofs.Common.{◌≡◌, ℕ, zero, suc, ◌<◌, ◌==◌, Bool, true, false, Option, Some, None, refl, arith}
use Rattle.std.specs.Prelude.{is_none, length, nat_le, if◌then◌else◌}
use Rattle.blob_words.specs.declared.number.RendererId.{RendererId}
use Rattle.renderer_table.specs.Table.{Table, count_of, drop_fault, living_of, spawn_fault, was_spawned}
use Rattle.renderer_table.specs.declared.fault.DropFault.TheVariants as drops
use Rattle.renderer_table.specs.declared.fault.SpawnFault.TheVariants as spawns
use Rattle.renderer_table.specs.declared.living.Living.{Living}

-- where a handle can be dropped the renderer is alive and has one
pub none_due : (id : RendererId) (name : ℕ) (table : Table) → drop_fault id name table ≡ None
    → ((one : Living) × (living_of id.0 table ≡ Some one)) × (0 < count_of id.0 name table)
none_due id name table due = by (living_of id.0 table) refl (count_of id.0 name table == 0) refl due
  where
    above : (n : ℕ) → (n == 0) ≡ false → 0 < n
    above zero e = cc e
    above (suc n) e = omega arith

    by : (held : Option Living) → living_of id.0 table ≡ held → (b : Bool) → (count_of id.0 name table == 0) ≡ b
        → (if is_none held then Some (drops.NoRenderer id) else if b then Some drops.NoHandle else None) ≡ None
        → ((one : Living) × (living_of id.0 table ≡ Some one)) × (0 < count_of id.0 name table)
    by None at b is due = cc due
    by (Some one) at true is due = cc due
    by (Some one) at false is due = ((one, at), above (count_of id.0 name table) is)

-- who can be spawned wasn't
pub none_used : (id : ℕ) (table : Table) → spawn_fault id table ≡ None → was_spawned id table ≡ false
none_used id table due = by (was_spawned id table) (nat_le 1024 (length table.spawned)) due
  where
    by : (used full : Bool) → (if used then Some spawns.Used else if full then Some spawns.Full else None) ≡ None → used ≡ false
    by true full due = absurd (cc due)
    by false full due = refl
