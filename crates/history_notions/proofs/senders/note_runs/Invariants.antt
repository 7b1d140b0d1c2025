use Rattle.std.proofs.Common.{◌≡◌, ℕ, ◌||◌, take}
use Rattle.std.specs.Prelude.{is_some}
use Rattle.std.specs.List.{list_any}
use Rattle.std.specs.Ordering.{nat_cmp}
use Rattle.std.specs.BTreeMap as tree
use Rattle.history_notions.specs.Reach.{is_sent}
use Rattle.history_notions.proofs.senders.note_runs.Given as goal

abbrev pub invariant-loop-run : goal.invariant-loop-run
invariant-loop-run l = (name : ℕ) → is_some (tree.get nat_cmp l.names name) ≡ (is_some (tree.get nat_cmp l.initial.names name) || list_any (is_sent name) (take l.run-index l.runs))
