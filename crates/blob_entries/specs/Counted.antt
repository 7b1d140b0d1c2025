-- Views of entries and the counts of the slots. Own.
use Rattle.std.specs.Prelude.{List, Option, ℕ, ◌<◌, ◌≡◌}
use Rattle.blob_entries.specs.Counts.{count_at}
use Rattle.blob_entries.specs.Holdings.{views_in}
use Rattle.blob_entries.specs.declared.entry.Entry.{Entry}
use Rattle.item_shares.specs.Shares.{item_at}
use Rattle.item_shares.specs.declared.shares.Share.{Share}

-- each slot on which entries have views is held, and counts them
abbrev pub AreCounted : List (Option Entry) → List (Option Share) → Type 0
AreCounted entries shares = (slot : ℕ) → 0 < views_in entries slot → count_at shares slot ≡ views_in entries slot

-- no item went, and a slot on which no entry had views counts what it counted, and none has views there now
pub record SameItems (before after : List (Option Entry)) (shares later : List (Option Share)) : Type 0 where
  pub items : (slot : ℕ) → item_at later slot ≡ item_at shares slot
  pub others : (slot : ℕ) → views_in before slot ≡ 0 → (count_at later slot ≡ count_at shares slot) × (views_in after slot ≡ 0)
