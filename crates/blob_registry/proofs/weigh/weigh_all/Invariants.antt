use Rattle.std.proofs.Common.{◌≡◌, ◌≢◌, ◌+◌, ◌≤◌, ◌<◌, [], length, ℕ, List}
use Rattle.std.specs.Prelude.{slice_index}
use Rattle.blob_words.specs.declared.bounds.TheConstants.{MOST_BLOBS}
use Rattle.blob_items.specs.declared.view.View.{View}
use Rattle.blob_entries.specs.Counted.{AreCounted}
use Rattle.blob_entries.specs.Leaving.{LetsGo}
use Rattle.blob_entries.specs.Sound.{AreSound}
use Rattle.blob_registry.specs.Lists.{turned}
use Rattle.blob_registry.specs.Work.{AreKept}
use Rattle.blob_registry.proofs.Sweeping.{Sweeps}
use Rattle.blob_registry.proofs.weigh.weigh_all.Given as goal

abbrev pub invariant-loop-round : goal.invariant-loop-round
invariant-loop-round l = record {
  bound : ℕ;
  views : List View;
  enough : bound + l._round ≤ l.count;
  sweeps : Sweeps l.fn.table l.table bound l.names views;
  lets_go : LetsGo views l.fn.shares l.shares [] l.freed;
  above : (k : ℕ) → bound ≤ k → k < MOST_BLOBS → slice_index l.work.weighs (turned k) ≢ 0;
  kept : AreKept l.table l.work;
  sound : AreSound l.table.names l.table.entries;
  counted : AreCounted l.table.entries l.shares;
  size : l.count ≡ length l.table.names;
}
