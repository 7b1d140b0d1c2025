use Rattle.std.proofs.Common.{rules, ℕ, ◌-◌, ◌<◌, List, ap, sym, subst}
use Rattle.std.specs.Prelude.{IsSome}
use Rattle.renderer_table.specs.declared.living.Living.{Living}
use Rattle.renderer_table.specs.Counts.{one_fewer}
use Rattle.renderer_table.specs.Table.{Table, count_of, counts_of, living_of}
use Rattle.renderer_table.specs.Counted.{ChangesCount}
use Rattle.renderer_table.proofs.Counting.{counts_written, fewer}
use Rattle.renderer_table.proofs.table.Renderers.drop_one.Goals as goal

pub returns-clause-changes : goal.returns-clause-changes
returns-clause-changes c =
    let id = c.args.id.0 in
    let blob = c.args.blob in
    let table : List (ℕ × Living) → Table = λ living. record { spawned = c.self.inside.spawned.keys; living = living } in
    let old : Table = table c.self.inside.living.entries in
    let new : Table = table c.drop_at.new.living.entries in
    let lives : IsSome (living_of id c.args.self.now) = search rules in
    let some : 0 < count_of id blob c.args.self.now = search rules in
    let alive : IsSome (living_of id old) = subst (λ (table : Table). IsSome (living_of id table)) (sym c.self.view_is) lives in
    let held : 0 < count_of id blob old = subst (λ (table : Table). 0 < count_of id blob table) (sym c.self.view_is) some in
    subst (λ (old : Table). ChangesCount (λ count. count - 1) id blob old new) c.self.view_is
    (counts_written (λ count. count - 1) id blob (one_fewer blob (counts_of id old)) old new alive
    (fewer blob (counts_of id old) c.drop_at.ensures.ordered held) (ap table c.drop_at.ensures.fewer))
