use Rattle.std.proofs.Common.{◌≡◌, ℕ, ◌+◌, take}
use Rattle.item_shares.specs.Shares.{item_at}
use Rattle.blob_entries.specs.Counts.{count_at, views_on}
use Rattle.blob_entries.proofs.counts.share_all.Given as goal

abbrev pub invariant-loop-view : goal.invariant-loop-view
invariant-loop-view l = record {
  counts : (slot : ℕ) → count_at l.shares slot ≡ count_at l.fn.shares slot + views_on slot (take l.view-index l.views);
  items : (slot : ℕ) → item_at l.shares slot ≡ item_at l.fn.shares slot;
}
