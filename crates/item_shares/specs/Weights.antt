-- What the items weigh together, by any weight of an item. Own.
use Rattle.std.specs.Prelude.{ℕ, List, Option, sum_by}
use Rattle.std.specs.Option.{option_map_or}
use Rattle.item_shares.specs.declared.item.Item.{Item}
use Rattle.item_shares.specs.declared.shares.Share.{Share}

-- what the item of a slot weighs, nothing where it holds none
abbrev pub held_weight : (Item → ℕ) → Option Share → ℕ
held_weight weight held = option_map_or (λ share. weight share.item) held 0

-- what all items weigh, each once, however many views are on it
abbrev pub weights : (Item → ℕ) → List (Option Share) → ℕ
weights weight shares = sum_by (held_weight weight) shares
