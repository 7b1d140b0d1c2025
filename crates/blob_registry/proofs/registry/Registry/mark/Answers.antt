use Rattle.std.proofs.Common.{◌≡◌, true, sym, subst, arith}
use Rattle.std.specs.Prelude.{IsSomeAnd}
use Rattle.blob_entries.specs.declared.entry.Entry.{Entry}
use Rattle.blob_entries.specs.Book.{Book, entry_of}
use Rattle.blob_entries.specs.Statuses.{is_pending}
use Rattle.blob_registry.proofs.Changing.{kept_marked, kept_within}
use Rattle.blob_registry.proofs.registry.Registry.mark.Goals as goal

pub invariant_of-self : goal.invariant_of-self
invariant_of-self c =
    let some = subst (λ (b : Book). IsSomeAnd (entry_of b c.args.name) (λ (entry : Entry). is_pending entry.status ≡ true))
    (sym c.self.view_is) c.requires.pending in
    let there = rw (← c.in-Some.ensures) at some in
    rw (c.look_at.ensures, c.set_mark.ensures) (kept_marked c.self.inside.table c.self.inside.work c.in-Some.number c.args.why there c.self.invariant)

pub look_at-requires : goal.look_at-requires
look_at-requires c =
    let some = subst (λ (b : Book). IsSomeAnd (entry_of b c.args.name) (λ (entry : Entry). is_pending entry.status ≡ true))
    (sym c.self.view_is) c.requires.pending in
    let there = rw (← c.in-Some.ensures) at some in
    let within = kept_within c.self.inside.table c.self.inside.work c.in-Some.number
    (λ (entry : Entry). is_pending entry.status ≡ true) there c.self.invariant in
    omega (arith, within, c.self.invariant.looks)
