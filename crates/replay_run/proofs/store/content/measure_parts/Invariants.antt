use Rattle.std.proofs.Common.{◌≡◌, ◌≤◌, take}
use Rattle.replay_run.specs.Measure.{byte_total, piece_total}
use Rattle.replay_run.proofs.store.content.measure_parts.Given as goal

abbrev pub invariant-loop-part : goal.invariant-loop-part
invariant-loop-part l =
    record {
      size : l.size ≡ byte_total (take l.part-index l.parts);
      pieces : l.pieces ≡ piece_total l.page (take l.part-index l.parts);
      most : l.size ≤ l.most;
      fewer : l.pieces ≤ l.size;
    }
