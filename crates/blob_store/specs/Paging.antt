-- What becomes of the parts when a page job starts: list 6 of settling. Own.
use Rattle.std.specs.Prelude.{ℕ, ◌≡◌, ◌+◌, ◌-◌, ◌&&◌, ◌<◌, true, List, [], length, min, nat_lt, slice_get, is_none, map, Option, None, Some, IfSome}
use Rattle.std.specs.Prelude.{IsSomeAnd, if◌then◌else◌}
use Rattle.std.specs.List.{AllByRecursion}
use Rattle.blob_words.specs.declared.number.PieceNo.{PieceNo}
use Rattle.item_shares.specs.Shares.{item_at}
use Rattle.item_shares.specs.declared.item.Item.{Item}
use Rattle.item_shares.specs.declared.item.Item.TheVariants.{Memory}
use Rattle.item_shares.specs.declared.shares.Share.{Share}
use Rattle.page_files.specs.Files.{room, with_job}
use Rattle.page_files.specs.Items.{IsMemoryIn}
use Rattle.page_files.specs.Pieces.{named}
use Rattle.page_files.specs.declared.held.Held.{Held}
use Rattle.recent_items.specs.Recent.{victims}
use Rattle.model_bridges.specs.Bridges.{held_numbers}
use Rattle.store_laws.specs.LateJobs.{without_all}
use Rattle.store_laws.specs.LateLists.{head_weight}
use Rattle.blob_store.specs.Stored.{IsInMemory}
use Rattle.blob_store.specs.declared.parts.Parts.{Parts}

-- the bytes that the head of the queue lacks
abbrev pub lacking : Parts → ℕ
lacking parts = parts.quota.used + head_weight parts.quota.waiting - parts.quota.limit

-- enough of the pieces used earliest, as far as a page file and the disk have room
abbrev pub earliest : Parts → List ℕ
earliest parts = victims (lacking parts) (min parts.limits.page (room parts.pages)) parts.recent

-- the pieces to page now: none where no job may start or nobody waits
abbrev pub to_page : Parts → List ℕ
to_page parts = if (parts.pages.paging && is_none parts.pages.job) && nat_lt 0 (length parts.quota.waiting) then earliest parts else []

-- an item in memory isn't empty
abbrev pub IsLong : Item → Type 0
IsLong (Memory piece bytes) = 0 < length bytes
IsLong item = Unit {0}

abbrev pub AreLong : List (Option Share) → Type 0
AreLong shares = (slot : ℕ) → IfSome (item_at shares slot) IsLong

-- the item in the home of a piece has it in memory
abbrev pub IsPiece : ℕ → Item → Type 0
IsPiece number (Memory piece bytes) = piece.0 ≡ number
IsPiece number item = ⊥

abbrev pub IsHere : List (Option Share) → List ℕ → ℕ → Type 0
IsHere shares homes number = IsSomeAnd (slice_get homes number) (λ (slot : ℕ). IsSomeAnd (item_at shares slot) (IsPiece number))

-- a piece with its home, in which it is in memory, and its length
pub record IsAtHome (homes : List ℕ) (shares : List (Option Share)) (given : PieceNo × ℕ × ℕ) : Type 0 where
  pub home : slice_get homes given.0.0 ≡ Some given.1
  pub memory : IsMemoryIn shares (named given)

-- these pieces, each so
pub record AreAtHome (homes : List ℕ) (shares : List (Option Share)) (pieces : List PieceNo) (given : List (PieceNo × ℕ × ℕ)) : Type 0 where
  pub pieces_so : map (λ (one : PieceNo × ℕ × ℕ). one.0) given ≡ pieces
  pub each : AllByRecursion (IsAtHome homes shares) given

-- no job is in flight, paging is on, and what is in the order of use is in memory, where no item is empty
pub record CanStart (parts : Parts) : Type 0 where
  pub idle : parts.pages.job ≡ None
  pub paging : parts.pages.paging ≡ true
  pub order : AllByRecursion (IsInMemory parts.shares parts.homes) parts.recent
  pub long : AreLong parts.shares

-- a job with the pieces of these numbers is in flight, each in memory in its slot, and they are in the order of use no more
pub record JobStarts (numbers : List ℕ) (old new : Parts) : Type 0 where
  pub list : List Held
  pub numbers_so : held_numbers list ≡ numbers
  pub memory : AllByRecursion (IsMemoryIn old.shares) list
  pub rest : new ≡ record old { pages = with_job None list old.pages; recent = without_all numbers old.recent }
