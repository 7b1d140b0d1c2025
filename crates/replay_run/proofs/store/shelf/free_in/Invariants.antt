use Rattle.std.proofs.Common.{◌≡◌, ◌++◌, map, take, drop}
use Rattle.replay_run.specs.Shelf.{freed}
use Rattle.replay_run.proofs.store.shelf.free_in.Given as goal

abbrev pub invariant-loop-blob : goal.invariant-loop-blob
invariant-loop-blob l = l.blob-items ≡ map (freed l.name) (take l.blob-index l.fn.blobs.items) ++ drop l.blob-index l.fn.blobs.items
