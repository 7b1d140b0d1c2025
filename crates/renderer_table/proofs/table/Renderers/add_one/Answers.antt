use Rattle.std.proofs.Common.{ℕ, ◌+◌, List, ap, sym, subst}
use Rattle.std.specs.Prelude.{IsSome, OnOk}
use Rattle.renderer_table.specs.declared.living.Living.{Living}
use Rattle.renderer_table.specs.Counts.{one_more}
use Rattle.renderer_table.specs.Table.{Table, counts_of, living_of}
use Rattle.renderer_table.specs.Counted.{ChangesCount}
use Rattle.renderer_table.proofs.Changes.{on_ok}
use Rattle.renderer_table.proofs.Counting.{counts_written, more}
use Rattle.renderer_table.proofs.table.Renderers.add_one.Goals as goal

pub returns-clause-changes : goal.returns-clause-changes
returns-clause-changes c =
    let id = c.args.id.0 in
    let blob = c.args.blob in
    let table : List (ℕ × Living) → Table = λ living. record { spawned = c.self.inside.spawned.keys; living = living } in
    let old : Table = table c.self.inside.living.entries in
    let new : Table = table c.add_at.new.living.entries in
    let alive : IsSome (living_of id old) = subst (λ (table : Table). IsSome (living_of id table)) (sym c.self.view_is) c.requires.alive in
    subst (λ (old : Table). OnOk c.add_at.result (ChangesCount (λ count. count + 1) id blob old new)) c.self.view_is
    (on_ok c.add_at.result (λ is. counts_written (λ count. count + 1) id blob (one_more blob (counts_of id old)) old new alive (more blob (counts_of id old))
    (ap table is)) c.add_at.ensures.ok)
