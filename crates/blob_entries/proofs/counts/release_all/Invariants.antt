use Rattle.std.proofs.Common.{◌≡◌, ℕ, ◌+◌, ◌<◌, ◌++◌, [], take}
use Rattle.std.specs.Prelude.{sum_by}
use Rattle.item_shares.specs.Shares.{item_at}
use Rattle.item_shares.specs.Weights.{weights}
use Rattle.item_shares.specs.declared.item.Item.{Item}
use Rattle.blob_entries.specs.Counts.{count_at, freed_by, views_on}
use Rattle.blob_entries.proofs.counts.release_all.Given as goal

abbrev pub invariant-loop-view : goal.invariant-loop-view
invariant-loop-view l = record {
  counts : (slot : ℕ) → count_at l.shares slot + views_on slot (take l.view-index l.views) ≡ count_at l.fn.shares slot;
  items : (slot : ℕ) → 0 < count_at l.shares slot → item_at l.shares slot ≡ item_at l.fn.shares slot;
  freed : l.freed ≡ l.fn.freed ++ freed_by l.fn.shares [] (take l.view-index l.views);
  weighs : (weight : Item → ℕ) → sum_by weight l.freed + weights weight l.shares ≡ sum_by weight l.fn.freed + weights weight l.fn.shares;
}
