use Rattle.std.proofs.Common.{◌≡◌, ◌≤◌, length, take}
use Rattle.store_reach.specs.Windows.{listed}
use Rattle.store_reach.proofs.window.Window.count.Given as goal

abbrev pub invariant-loop-mark : goal.invariant-loop-mark
invariant-loop-mark l = record {
  same : l.mark-items ≡ l.self.marks;
  few : l.count ≤ l.mark-index;
  counted : l.count ≡ length (listed l.self.start (take l.mark-index l.self.marks));
}
