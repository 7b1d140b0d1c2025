use Rattle.std.proofs.Common.{refl}
use Rattle.blob_entries.proofs.Soundness.{first_breaks, sound_changed}
use Rattle.blob_entries.specs.Changes.{with_mark}
use Rattle.blob_entries.proofs.table.Table.set_mark.Goals as goal

pub invariant_of-self : goal.invariant_of-self
invariant_of-self c =
    rw c.set_mark.ensures (sound_changed c.self.inside.names c.self.inside.entries.items c.args.number (with_mark c.args.why)
    (λ entry. record {
      size = refl;
      status = refl;
      recipe = refl;
      own = refl;
      views = refl;
      mark = λ was. first_breaks entry.mark c.args.why
          c.requires.breaking;
    }) c.self.invariant)
