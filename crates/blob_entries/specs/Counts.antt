-- Views on slots, and how many views each slot counts. Own.
use Rattle.std.specs.Option.{option_map_or, option_to_list}
use Rattle.std.specs.Prelude.{List, Option, [], count_by, if◌then◌else◌, ℕ, ◌++◌, ◌+◌, ◌==◌, ◌∷◌}
use Rattle.blob_items.specs.declared.view.View.{View}
use Rattle.item_shares.specs.Shares.{item_at, share_at}
use Rattle.item_shares.specs.declared.item.Item.{Item}
use Rattle.item_shares.specs.declared.shares.Share.{Share}

-- how many of the views are on a slot
abbrev pub views_on : ℕ → List View → ℕ
views_on slot views = count_by (λ (view : View). view.slot == slot) views

-- 1 for the slot itself, else 0
abbrev pub one_at : ℕ → ℕ → ℕ
one_at slot other = if slot == other then 1 else 0

-- how many views a slot counts, 0 where it holds nothing
abbrev pub count_at : List (Option Share) → ℕ → ℕ
count_at shares slot = option_map_or (λ (share : Share). share.count) (share_at shares slot) 0

-- the item of a slot, where one view more goes after so many and it is the last
abbrev pub freed_at : List (Option Share) → ℕ → ℕ → List Item
freed_at shares slot gone = if count_at shares slot == gone + 1 then option_to_list (item_at shares slot) else []

-- the items whose last view goes, where these views go one after the other and those of `gone` went before
abbrev pub freed_by : List (Option Share) → List View → List View → List Item
freed_by shares gone [] = []
freed_by shares gone (view ∷ views) = freed_at shares view.slot (views_on view.slot gone) ++ freed_by shares (gone ++ view ∷ []) views
