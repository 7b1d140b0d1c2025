-- What the read of a part of one item comes to. Own.
use Rattle.std.specs.Prelude.{ℕ, ◌≡◌, ◌+◌, ◌-◌, ◌^◌, true, false, List, drop, if◌then◌else◌, length, min, take, IfSome}
use Rattle.item_shares.specs.declared.item.Item.{Item}
use Rattle.range_reader.specs.declared.item.ItemFault.{ItemFault}
use Rattle.range_reader.specs.declared.item.ItemFault.TheVariants.{Changed, Page, Handle}
use Rattle.range_reader.specs.Bytes.{item_bytes, item_fails, is_paged}
use Rattle.range_reader.specs.Steps.{Asked, AreUncounted, DiskFailed, HandleFailed, IsInPage, IsOfHandle}

-- the bytes of an item from a place on were read, and its file doesn't fail at the last of them
pub record ItemRead (old new : Asked) (item : Item) (place : ℕ) (bytes : List ℕ) : Type 0 where
  pub passes : item_fails old.from.files (place + length bytes - 1) item ≡ false
  pub bytes_are : IfSome (item_bytes old.from item) (λ all. bytes ≡ take (length bytes) (drop place all))
  pub calm : AreUncounted old new
  pub meter : min new.meter (2 ^ 64 - 1) ≡ min (old.meter + (if is_paged item then length bytes else 0)) (2 ^ 64 - 1)

-- why so many bytes of an item from a place on were not read
abbrev pub ItemFails : Asked → Asked → Item → ℕ → ℕ → ItemFault → Type 0
ItemFails old new item place count Changed = (item_fails old.from.files (place + count - 1) item ≡ true) × AreUncounted old new
ItemFails old new item place count (Page page) = IsInPage page item × DiskFailed old new
ItemFails old new item place count (Handle slot) = IsOfHandle slot item × HandleFailed slot old new
