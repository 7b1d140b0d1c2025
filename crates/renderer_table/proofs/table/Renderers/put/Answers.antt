use Rattle.std.proofs.Common.{◌≡◌, ℕ, false, List, ap, ◌∙◌, sym, subst, rules}
use Rattle.std.specs.Ordering.{nat_cmp}
use Rattle.std.specs.BTreeMap.{is_at}
use Rattle.std.specs.Set.{remove_key}
use Rattle.renderer_table.specs.declared.living.Living.{Living}
use Rattle.renderer_table.specs.Table.{Table, was_spawned}
use Rattle.renderer_table.proofs.Numbers.{removed_inserted}
use Rattle.renderer_table.proofs.table.Renderers.put.Goals as goal

pub returns-then-is_err-clause-err : goal.returns-then-is_err-clause-err
returns-then-is_err-clause-err c =
    let id = c.args.id.0 in
    let absent : was_spawned id (record { spawned = c.self.inside.spawned.keys; living = c.self.inside.living.entries }) ≡ false =
    subst (λ (table : Table). was_spawned id table ≡ false) (sym c.self.view_is) c.requires in
    let spawned : c.remove.new.self.keys ≡ c.self.inside.spawned.keys = c.remove.ensures.keys ∙ ap (remove_key (is_at (nat_cmp id))) c.in_ok-insert.ensures.keys
    ∙ removed_inserted id c.self.inside.spawned.keys absent in
    let living : c.insert-2.new.self.entries ≡ c.self.inside.living.entries = search rules in
    let table : List ℕ → List (ℕ × Living) → Table = λ spawned living. record { spawned = spawned; living = living } in
    (λ i. table (spawned i) (living i)) ∙ c.self.view_is
