use Rattle.std.proofs.Common.{◌≡◌, true, sym, subst, arith}
use Rattle.std.specs.Prelude.{IsSomeAnd}
use Rattle.blob_entries.specs.declared.entry.Entry.{Entry}
use Rattle.blob_entries.specs.Book.{Book, entry_at, entry_of}
use Rattle.blob_entries.specs.Sound.{AreOwn}
use Rattle.blob_entries.specs.Statuses.{is_pending}
use Rattle.blob_entries.proofs.Soundness.{some_then}
use Rattle.blob_registry.specs.Registering.{CanBring}
use Rattle.blob_registry.proofs.Changing.{kept_brought, kept_within}
use Rattle.blob_registry.proofs.registry.Registry.bring.Goals as goal

pub bring-requires : goal.bring-requires
bring-requires c =
    let some = subst (λ (b : Book). IsSomeAnd (entry_of b c.args.name) (CanBring c.args.own)) (sym c.self.view_is) c.requires in
    let there = rw (← c.in-Some.ensures) at some in
    some_then (entry_at c.self.inside.table.entries c.in-Some.number) (CanBring c.args.own)
    (λ (entry : Entry). (is_pending entry.status ≡ true) × AreOwn entry.recipe c.args.own) (λ entry can. (can.pending, can.fits)) there

pub invariant_of-self : goal.invariant_of-self
invariant_of-self c =
    let some = subst (λ (b : Book). IsSomeAnd (entry_of b c.args.name) (CanBring c.args.own)) (sym c.self.view_is) c.requires in
    let there = rw (← c.in-Some.ensures) at some in
    let pending = some_then (entry_at c.self.inside.table.entries c.in-Some.number) (CanBring c.args.own)
    (λ (entry : Entry). is_pending entry.status ≡ true) (λ entry can. can.pending) there in
    rw (c.look_at.ensures, c.bring.ensures) (kept_brought c.self.inside.table c.self.inside.work c.in-Some.number c.args.own pending c.self.invariant)

pub look_at-requires : goal.look_at-requires
look_at-requires c =
    let some = subst (λ (b : Book). IsSomeAnd (entry_of b c.args.name) (CanBring c.args.own)) (sym c.self.view_is) c.requires in
    let there = rw (← c.in-Some.ensures) at some in
    let within = kept_within c.self.inside.table c.self.inside.work c.in-Some.number (CanBring c.args.own) there c.self.invariant in
    omega (arith, within, c.self.invariant.looks)
