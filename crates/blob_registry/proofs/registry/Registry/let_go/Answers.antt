use Rattle.std.proofs.Common.{◌<◌, ◌-◌, sym, subst, arith}
use Rattle.std.specs.Prelude.{IsSomeAnd}
use Rattle.blob_entries.specs.declared.entry.Entry.{Entry}
use Rattle.blob_entries.specs.Book.{Book, entry_of}
use Rattle.blob_registry.proofs.Changing.{kept_held, kept_let_go, kept_within}
use Rattle.blob_registry.proofs.registry.Registry.let_go.Goals as goal

pub invariant_of-self : goal.invariant_of-self
invariant_of-self c =
    let some = subst (λ (b : Book). IsSomeAnd (entry_of b c.args.name) (λ (entry : Entry). 0 < entry.roots)) (sym c.self.view_is) c.requires in
    let there = rw (← c.in-Some.ensures) at some in
    rw (c.weigh.ensures, c.set_roots.ensures)
    (kept_let_go c.self.inside.table c.self.inside.work c.in-Some.number (c.roots_at-roots.result - 1)
    (λ (entry : Entry). 0 < entry.roots) there c.self.invariant)

pub invariant_of-self-else-roots-eq0 : goal.invariant_of-self-else-roots-eq0
invariant_of-self-else-roots-eq0 c =
    let some = subst (λ (b : Book). IsSomeAnd (entry_of b c.args.name) (λ (entry : Entry). 0 < entry.roots)) (sym c.self.view_is) c.requires in
    let there = rw (← c.in-Some.ensures) at some in
    rw c.set_roots.ensures (kept_held c.self.inside.table c.self.inside.work c.in-Some.number (c.roots_at-roots.result - 1)
    (λ (entry : Entry). 0 < entry.roots) there c.self.invariant (omega (arith, c.if-roots-eq0.false)))

pub weigh-requires-clause-within : goal.weigh-requires-clause-within
weigh-requires-clause-within c =
    let some = subst (λ (b : Book). IsSomeAnd (entry_of b c.args.name) (λ (entry : Entry). 0 < entry.roots)) (sym c.self.view_is) c.requires in
    let there = rw (← c.in-Some.ensures) at some in
    kept_within c.self.inside.table c.self.inside.work c.in-Some.number (λ (entry : Entry). 0 < entry.roots) there c.self.invariant
