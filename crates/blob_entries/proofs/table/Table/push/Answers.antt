use Rattle.std.proofs.Common.{length, sym, subst}
use Rattle.blob_entries.proofs.Soundness.{sound_pushed}
use Rattle.blob_entries.specs.Book.{Book}
use Rattle.blob_entries.specs.Sound.{IsSound}
use Rattle.blob_entries.proofs.table.Table.push.Goals as goal

pub invariant_of-self-2 : goal.invariant_of-self-2
invariant_of-self-2 c =
    let pushed = rw c.unwrap.ensures at c.push-2.ensures.items in
    let sound = subst (λ (b : Book). IsSound b.names b.entries (length b.entries) c.args.entry) (sym c.self.view_is) c.requires.sound in
    rw (pushed, c.in_ok-reserve.ensures.items, c.in_ok-push.ensures.ok)
    (sound_pushed c.self.inside.names c.args.name c.self.inside.entries.items c.args.entry c.self.invariant sound)
