use Rattle.std.proofs.Common.{◌≡◌, ◌++◌, map, take, drop}
use Rattle.replay_run.specs.Open.{placed}
use Rattle.replay_run.proofs.store.readers.place_in.Given as goal

abbrev pub invariant-loop-reader : goal.invariant-loop-reader
invariant-loop-reader l = l.reader-items ≡ map (placed l.number l.place) (take l.reader-index l.fn.open.items) ++ drop l.reader-index l.fn.open.items
