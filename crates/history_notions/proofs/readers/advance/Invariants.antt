use Rattle.std.proofs.Common.{◌≡◌, ℕ, ◌+◌, ◌*◌, ◌≤◌, ◌^◌, ◌++◌, map, length, sum, sum_by, take, drop, fold, filter_map}
use Rattle.blob_model.specs.Readers.{advanced}
use Rattle.history_notions.proofs.readers.advance.Given as goal

abbrev pub invariant-loop-reader : goal.invariant-loop-reader
invariant-loop-reader l = l.reader-items ≡ map (advanced l.number l.count) (take l.reader-index l.fn.readers) ++ drop l.reader-index l.fn.readers
