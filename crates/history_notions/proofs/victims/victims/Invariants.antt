use Rattle.std.proofs.Common.{◌≡◌, ℕ, ◌+◌, ◌*◌, ◌≤◌, ◌^◌, ◌++◌, map, length, sum, sum_by, take, drop, fold, filter_map}
use Rattle.recent_items.specs.Recent.{victims}
use Rattle.history_notions.proofs.victims.victims.Given as goal

abbrev pub invariant-loop-number : goal.invariant-loop-number
invariant-loop-number l = l.found ++ victims l.missing l.free (drop l.number-index l.recency) ≡ victims l.need l.most l.recency
