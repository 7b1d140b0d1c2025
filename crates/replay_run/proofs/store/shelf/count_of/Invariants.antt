use Rattle.std.proofs.Common.{◌≡◌, take}
use Rattle.replay_run.specs.Shelf.{byte_count, piece_count}
use Rattle.replay_run.proofs.store.shelf.count_of.Given as goal

abbrev pub invariant-loop-blob : goal.invariant-loop-blob
invariant-loop-blob l =
    record {
      pieces : l.pieces ≡ piece_count (take l.blob-index l.blobs);
      memory : l.memory ≡ byte_count (take l.blob-index l.blobs);
    }
