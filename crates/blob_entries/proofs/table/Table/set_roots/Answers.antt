use Rattle.std.proofs.Common.{refl}
use Rattle.blob_entries.proofs.Soundness.{sound_changed}
use Rattle.blob_entries.specs.Changes.{with_roots}
use Rattle.blob_entries.proofs.table.Table.set_roots.Goals as goal

pub invariant_of-self : goal.invariant_of-self
invariant_of-self c =
    rw c.set_roots.ensures (sound_changed c.self.inside.names c.self.inside.entries.items c.args.number (with_roots c.args.roots)
    (λ entry. record { size = refl; status = refl; recipe = refl; own = refl; views = refl; mark = λ mark. mark }) c.self.invariant)
