-- What becomes of data handles when items go. Own.
use Rattle.std.specs.Prelude.{List, [], ◌∷◌, IsSome, fold, ℕ, ◌≡◌, ◌≤◌, Bool, true, Option}
use Rattle.item_shares.specs.Weights.{weights}
use Rattle.item_shares.specs.declared.item.Item.{Item}
use Rattle.item_shares.specs.declared.item.Item.TheVariants.{Range}
use Rattle.item_shares.specs.declared.shares.Share.{Share}
use Rattle.data_handles.specs.Table.{Table, is_claimed_at, object_at, released_at as emptied_at}
use Rattle.blob_model.specs.Session.{Slot}
use Rattle.store_laws.specs.Items.{holds_slot}
use Rattle.store_laws.specs.LetGo.{AreFreed}
use Rattle.store_laws.specs.Tables.{AreClaimed, HandlesStand}
use Rattle.store_laws.specs.Weights.{range_weight}

-- data handles without the object of an item
abbrev pub released_by : Table → Item → Table
released_by table (Range slot off len) = emptied_at table slot
released_by table item = table

-- the object of an item is claimed and there
abbrev pub CanRelease : Table → Item → Type 0
CanRelease table (Range slot off len) = (is_claimed_at table slot ≡ true) × IsSome (object_at table slot)
CanRelease table item = Unit {0}

-- one after the other, so that no two are of one object
abbrev pub AreReleasable : Table → List Item → Type 0
AreReleasable table [] = Unit {0}
AreReleasable table (item ∷ items) = CanRelease table item × AreReleasable (released_by table item) items

-- the objects of these items can be dropped, and then the data handles stand for the items that are left
pub record AreReleased (slots : List Slot) (claimed : ℕ → Bool) (later : List (Option Share)) (freed : List Item) (table : Table) : Type 0 where
  pub releasable : AreReleasable table freed
  pub handles : HandlesStand slots claimed (holds_slot later) (fold released_by table freed)
  pub claims : AreClaimed slots claimed (holds_slot later)

-- so where items go, no two of them of one handle
abbrev pub HandlesLetGo : Type 0
HandlesLetGo =
    (slots : List Slot) (claimed : ℕ → Bool) (shares later : List (Option Share)) (freed : List Item) (table : Table)
    → HandlesStand slots claimed (holds_slot shares) table → AreClaimed slots claimed (holds_slot shares) → AreFreed shares later freed
    → ((k : ℕ) → weights (range_weight k) shares ≤ 1) → AreReleased slots claimed later freed table
