use Rattle.std.proofs.Common.{◌≡◌, ℕ, ◌+◌, ◌*◌, ◌≤◌, ◌^◌, ◌++◌, map, length, sum, sum_by, take, drop, fold, filter_map}
use Rattle.blob_model.specs.Victims.{with_length}
use Rattle.history_notions.proofs.victims.recency.Given as goal

abbrev pub invariant-loop-number : goal.invariant-loop-number
invariant-loop-number l = l.found ≡ filter_map (with_length l.pageable) (take l.number-index l.uses)
