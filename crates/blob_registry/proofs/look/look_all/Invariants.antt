use Rattle.std.proofs.Common.{◌≡◌, ◌≢◌, ℕ, ◌<◌, ◌≤◌, length}
use Rattle.std.specs.Prelude.{slice_index}
use Rattle.blob_entries.specs.Counted.{AreCounted, SameItems}
use Rattle.blob_entries.specs.Sound.{AreSound}
use Rattle.blob_entries.specs.Weights.{HasRoom, KeepsBounds}
use Rattle.blob_registry.specs.Work.{AreKept}
use Rattle.blob_registry.proofs.Passing.{Passes}
use Rattle.blob_registry.proofs.look.look_all.Given as goal

abbrev pub invariant-loop-round : goal.invariant-loop-round
invariant-loop-round l = record {
  bound : ℕ;
  enough : l.round ≤ bound;
  passes : Passes l.fn.table l.table bound l.endings;
  below : (k : ℕ) → k < bound → slice_index l.work.looks k ≢ 0;
  kept : AreKept l.table l.work;
  were : AreSound l.fn.table.names l.fn.table.entries;
  sound : AreSound l.table.names l.table.entries;
  counted : AreCounted l.table.entries l.shares;
  room : HasRoom l.table.names l.table.entries;
  bounds : KeepsBounds l.fn.table l.table;
  same : SameItems l.fn.table.entries l.table.entries l.fn.shares l.shares;
  size : l.count ≡ length l.table.names;
}
