use Rattle.std.proofs.Common.{◌≡◌, ℕ, List, Some, None, drop, ap, ◌∙◌, sym, subst}
use Rattle.std.specs.Prelude.{slice_get, IsSome}
use Rattle.std.specs.Ordering.{nat_cmp}
use Rattle.std.specs.Map.{remove_entry}
use Rattle.std.specs.BTreeMap.{is_at}
use Rattle.renderer_table.specs.declared.living.Living.{Living}
use Rattle.renderer_table.specs.Table.{Table, count_of, counts_of, living_of}
use Rattle.renderer_table.specs.Counted.{ChangesCount, Dies}
use Rattle.renderer_table.proofs.Changes.{removed_counted}
use Rattle.renderer_table.proofs.Counting.{counts_written, first_count, goes, without_first}
use Rattle.renderer_table.proofs.table.Renderers.die.Goals as goal

pub returns-clause-none : goal.returns-clause-none
returns-clause-none c =
    let id = c.args.id.0 in
    let others : List (ℕ × Living) → List (ℕ × Living) = remove_entry (is_at (nat_cmp id)) in
    let gone : c.remove.new.self.entries ≡ others c.self.inside.living.entries = c.remove.ensures.entries ∙ ap others c.pop_at.ensures.rest ∙ removed_counted id
    _ c.self.inside.living.entries in
    let table : List (ℕ × Living) → Table = λ living. record { spawned = c.self.inside.spawned.keys; living = living } in
    ap table gone ∙ ap (λ (table : Table). record table { living = others table.living }) c.self.view_is

pub returns-in-Some-clause-taken : goal.returns-in-Some-clause-taken
returns-in-Some-clause-taken c =
    let id = c.args.id.0 in
    let blob = c.in-Some.taken.0 in
    let table : List (ℕ × Living) → Table = λ living. record { spawned = c.self.inside.spawned.keys; living = living } in
    let old : Table = table c.self.inside.living.entries in
    let new : Table = table c.pop_at.new.living.entries in
    let alive : IsSome (living_of id old) = subst (λ (table : Table). IsSome (living_of id table)) (sym c.self.view_is) c.requires in
    let first : slice_get (counts_of id old) 0 ≡ Some c.in-Some.taken = sym c.pop_at.ensures.first ∙ c.in-Some.is in
    subst (λ (old : Table). (count_of id blob old ≡ c.in-Some.taken.1) × ChangesCount (λ _. 0) id blob old new) c.self.view_is (
      first_count blob c.in-Some.taken.1 (counts_of id old) first,
      counts_written (λ _. 0) id blob (drop 1 (counts_of id old)) old new alive
          (without_first blob c.in-Some.taken.1 (counts_of id old) c.pop_at.ensures.ordered first) (ap table c.pop_at.ensures.rest),
    )

pub returns-clause-dead : goal.returns-clause-dead
returns-clause-dead c =
    let id = c.args.id.0 in
    let table : List (ℕ × Living) → Table = λ living. record { spawned = c.self.inside.spawned.keys; living = living } in
    let old : Table = table c.self.inside.living.entries in
    let new : Table = table c.remove.new.self.entries in
    let others : List (ℕ × Living) → List (ℕ × Living) = remove_entry (is_at (nat_cmp id)) in
    let gone : c.remove.new.self.entries ≡ others c.self.inside.living.entries = c.remove.ensures.entries ∙ ap others c.pop_at.ensures.rest ∙ removed_counted id
    _ c.self.inside.living.entries in
    let none : slice_get (counts_of id old) 0 ≡ None = sym c.pop_at.ensures.first ∙ c.in_default.is in
    subst (λ (old : Table). Dies id old new) c.self.view_is (goes id old new c.pop_at.ensures.living_ordered none (ap table gone))
