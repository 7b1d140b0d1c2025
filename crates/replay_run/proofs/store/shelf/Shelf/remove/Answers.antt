-- Fewer blobs have fewer bytes and pieces.
use Rattle.replay_run.proofs.ShelfLemmas.{IsWithin-without}
use Rattle.replay_run.proofs.store.shelf.Shelf.remove.Goals as goal

pub invariant_of-self : goal.invariant_of-self
invariant_of-self c = rw c.remove_from.ensures (IsWithin-without c.args.name _ _ c.self.invariant)
