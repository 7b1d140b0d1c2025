use Rattle.std.proofs.Common.{◌≡◌, ◌++◌, map, take}
use Rattle.store_reach.specs.Reach.{piece_no}
use Rattle.store_reach.specs.Windows.{listed}
use Rattle.store_reach.proofs.window.Window.list.Given as goal

abbrev pub invariant-loop-place : goal.invariant-loop-place
invariant-loop-place l = record {
  same : l.mark-items ≡ l.self.marks;
  listed : l.list ≡ l.fn.list ++ map piece_no (listed l.self.start (take l.place l.self.marks));
}
