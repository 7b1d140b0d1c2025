use Rattle.std.proofs.Common.{◌≡◌, ◌++◌, replicate}
use Rattle.blob_store.proofs.building.homes.push_homeless.Given as goal

abbrev pub invariant-loop-done : goal.invariant-loop-done
invariant-loop-done l = l.homes ≡ l.fn.homes ++ replicate l.done 0
