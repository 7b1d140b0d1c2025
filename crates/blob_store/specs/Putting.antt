-- Items that are put into the store, each under a slot that was free, with one view of all its bytes. Own.
use Rattle.std.specs.Prelude.{ℕ, ◌≡◌, ◌+◌, ◌≤◌, ◌==◌, Bool, false, List, [], ◌∷◌, ◌++◌, map, sum_by, Option, None, Some}
use Rattle.std.specs.List.{AllByRecursion, list_any}
use Rattle.item_shares.specs.Shares.{share_at, share_of}
use Rattle.item_shares.specs.Weights.{weights}
use Rattle.item_shares.specs.declared.item.Item.{Item}
use Rattle.item_shares.specs.declared.shares.Share.{Share}
use Rattle.blob_items.specs.declared.view.View.{View}
use Rattle.blob_entries.specs.Counts.{views_on}
use Rattle.store_laws.specs.Items.{item_length}

-- whether a slot is one of those of the views
abbrev pub is_seen : ℕ → List View → Bool
is_seen slot views = list_any (λ (view : View). view.slot == slot) views

-- a view of so many bytes from the first one on
abbrev pub span : View → ℕ × ℕ
span view = (view.off, view.len)

pub record ArePut (old : List (Option Share)) (items : List Item) (views : List View) (new : List (Option Share)) : Type 0 where
  pub held : map (λ (view : View). share_at new view.slot) views ≡ map (λ (item : Item). Some (share_of item 1)) items
  pub whole : map span views ≡ map (λ (item : Item). (0, item_length item)) items
  pub vacant : AllByRecursion (λ (view : View). share_at old view.slot ≡ None) views
  pub others : (slot : ℕ) → is_seen slot views ≡ false → share_at new slot ≡ share_at old slot
  pub once : (slot : ℕ) → views_on slot views ≤ 1
  pub weighs : (weight : Item → ℕ) → weights weight new ≡ weights weight old + sum_by weight items

-- whatever came before, these items come next
abbrev pub PutAll : List Item → List (Option Share) → List View → List (Option Share) → List View → Type 0
PutAll items shares views now seen =
    (old : List (Option Share)) (before : List Item) → ArePut old before views shares → ArePut old (before ++ items) seen now

abbrev pub Puts : Item → List (Option Share) → List View → List (Option Share) → List View → Type 0
Puts item shares views now seen = PutAll (item ∷ []) shares views now seen
