-- Items that came under slots are added, and hold ranges and pieces. Own.
use Rattle.std.specs.Prelude.{ℕ, List, Option, length, map}
use Rattle.std.specs.List.{AllByRecursion}
use Rattle.session_script.specs.declared.event.Part.{Part}
use Rattle.item_shares.specs.declared.item.Item.{Item}
use Rattle.item_shares.specs.declared.shares.Share.{Share}
use Rattle.blob_items.specs.declared.view.View.{View}
use Rattle.blob_model.specs.Pieces.{Piece}
use Rattle.store_laws.specs.BuildLaws.{AreAdded, IsNew}
use Rattle.store_laws.specs.EntryLaws.{AreBrought}
use Rattle.store_laws.specs.Items.{AreOnePerPiece, Facts}
use Rattle.store_laws.specs.PartLaws.{AreRanges}
use Rattle.store_laws.specs.NewItems.{memory_items, range_items}
use Rattle.blob_store.specs.Putting.{ArePut}

pub record Arrive : Type 0 where
  pub ranges : (old new : List (Option Share)) (parts : List Part) (views : List View) → ArePut old (range_items parts) views new → AreRanges new views parts
  pub pieces : (old new : List (Option Share)) (number : ℕ) (pieces : List (List ℕ)) (views : List View) → ArePut old (memory_items number pieces) views new
      → AreBrought new number (map (λ (bytes : List ℕ). length bytes) pieces) views
  pub added : (all : List Piece) (facts : Facts) (count : ℕ) (old new : List (Option Share)) (items : List Item) (views : List View)
      → ArePut old items views new → AllByRecursion (IsNew all facts count) items → AreOnePerPiece new → AreAdded all facts count old new
