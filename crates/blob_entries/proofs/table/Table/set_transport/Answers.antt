use Rattle.std.proofs.Common.{◌≡◌, true, refl, sym, subst}
use Rattle.std.specs.Prelude.{IsSomeAnd}
use Rattle.blob_words.specs.declared.status.Status.TheVariants.{PendingTransport}
use Rattle.blob_entries.specs.declared.entry.Entry.{Entry}
use Rattle.blob_entries.specs.Book.{Book, entry_at}
use Rattle.blob_entries.specs.Changes.{with_status}
use Rattle.blob_entries.specs.Statuses.{is_pending}
use Rattle.blob_entries.proofs.Soundness.{sound_stayed, some_then, Stays}
use Rattle.blob_entries.proofs.table.Table.set_transport.Goals as goal

pub invariant_of-self : goal.invariant_of-self
invariant_of-self c =
    let pending = subst (λ (b : Book). IsSomeAnd (entry_at b.entries c.args.number) (λ (entry : Entry). is_pending entry.status ≡ true))
    (sym c.self.view_is) c.requires in
    rw c.set_status.ensures (sound_stayed c.self.inside.names c.self.inside.entries.items c.args.number (with_status PendingTransport)
    (some_then (entry_at c.self.inside.entries.items c.args.number) (λ (entry : Entry). is_pending entry.status ≡ true)
    (λ (entry : Entry). Stays entry (with_status PendingTransport entry))
    (λ entry so. record { was = so; is = refl; size = refl; recipe = refl; views = refl; mark = refl; own = λ fit. fit }) pending)
    c.self.invariant)
