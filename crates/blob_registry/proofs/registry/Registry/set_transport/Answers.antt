use Rattle.std.proofs.Common.{◌≡◌, sym, subst, arith}
use Rattle.std.specs.Prelude.{IsSomeAnd}
use Rattle.blob_entries.specs.declared.entry.Entry.{Entry}
use Rattle.blob_entries.specs.Book.{Book, entry_at, entry_of}
use Rattle.blob_words.specs.declared.status.Status.TheVariants.{PendingQuota}
use Rattle.blob_registry.proofs.Changing.{kept_transport, kept_within, waits_pending}
use Rattle.blob_registry.proofs.registry.Registry.set_transport.Goals as goal

pub set_transport-requires : goal.set_transport-requires
set_transport-requires c =
    let some = subst (λ (b : Book). IsSomeAnd (entry_of b c.args.name) (λ (entry : Entry). entry.status ≡ PendingQuota)) (sym c.self.view_is) c.requires in
    let there = rw (← c.in-Some.ensures) at some in
    waits_pending (entry_at c.self.inside.table.entries c.in-Some.number) there

pub invariant_of-self : goal.invariant_of-self
invariant_of-self c =
    let some = subst (λ (b : Book). IsSomeAnd (entry_of b c.args.name) (λ (entry : Entry). entry.status ≡ PendingQuota)) (sym c.self.view_is) c.requires in
    let there = rw (← c.in-Some.ensures) at some in
    rw (c.look_at.ensures, c.set_transport.ensures)
    (kept_transport c.self.inside.table c.self.inside.work c.in-Some.number
    (waits_pending (entry_at c.self.inside.table.entries c.in-Some.number) there) c.self.invariant)

pub look_at-requires : goal.look_at-requires
look_at-requires c =
    let some = subst (λ (b : Book). IsSomeAnd (entry_of b c.args.name) (λ (entry : Entry). entry.status ≡ PendingQuota)) (sym c.self.view_is) c.requires in
    let there = rw (← c.in-Some.ensures) at some in
    let within = kept_within c.self.inside.table c.self.inside.work c.in-Some.number (λ (entry : Entry). entry.status ≡ PendingQuota) there c.self.invariant in
    omega (arith, within, c.self.invariant.looks)
