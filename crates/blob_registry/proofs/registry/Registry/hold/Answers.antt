use Rattle.std.proofs.Common.{◌<◌, ◌+◌, ◌^◌, sym, subst, arith}
use Rattle.std.specs.Prelude.{IsSomeAnd}
use Rattle.blob_entries.specs.declared.entry.Entry.{Entry}
use Rattle.blob_entries.specs.Book.{Book, entry_of}
use Rattle.blob_registry.proofs.Changing.{kept_held}
use Rattle.blob_registry.proofs.registry.Registry.hold.Goals as goal

pub invariant_of-self : goal.invariant_of-self
invariant_of-self c =
    let some = subst (λ (b : Book). IsSomeAnd (entry_of b c.args.name) (λ (entry : Entry). entry.roots < 2 ^ 63)) (sym c.self.view_is) c.requires in
    let there = rw (← c.in-Some.ensures) at some in
    rw c.set_roots.ensures (kept_held c.self.inside.table c.self.inside.work c.in-Some.number (c.roots_at-roots.result + 1)
    (λ (entry : Entry). entry.roots < 2 ^ 63) there c.self.invariant (omega arith))
