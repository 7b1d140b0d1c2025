use Rattle.std.proofs.Common.{◌≡◌, true, refl, sym, subst}
use Rattle.std.specs.Prelude.{IsSomeAnd}
use Rattle.blob_entries.specs.declared.entry.Entry.{Entry}
use Rattle.blob_entries.specs.Book.{Book, entry_at}
use Rattle.blob_entries.specs.Changes.{with_bytes}
use Rattle.blob_entries.specs.Sound.{AreOwn}
use Rattle.blob_entries.specs.Statuses.{is_pending}
use Rattle.blob_entries.proofs.Soundness.{sound_stayed, some_then, Stays}
use Rattle.blob_entries.proofs.table.Table.bring.Goals as goal

pub invariant_of-self : goal.invariant_of-self
invariant_of-self c =
    let fits = subst (λ (b : Book). IsSomeAnd (entry_at b.entries c.args.number)
    (λ (entry : Entry). (is_pending entry.status ≡ true) × AreOwn entry.recipe c.args.own)) (sym c.self.view_is) c.requires in
    rw c.set_bytes.ensures (sound_stayed c.self.inside.names c.self.inside.entries.items c.args.number (with_bytes c.args.own)
    (some_then (entry_at c.self.inside.entries.items c.args.number) (λ (entry : Entry). (is_pending entry.status ≡ true) × AreOwn entry.recipe c.args.own)
    (λ (entry : Entry). Stays entry (with_bytes c.args.own entry))
    (λ entry so. record { was = so.0; is = refl; size = refl; recipe = refl; views = refl; mark = refl; own = λ fit. so.1 }) fits)
    c.self.invariant)
