-- Where a view may lie, and what a reader is seen as. Own.
use Rattle.std.specs.Prelude.{ℕ, ◌+◌, ◌-◌, ◌^◌, ◌≤◌, List, length, Option, IfSome, IsSomeAnd}
use Rattle.page_disk.specs.Changes.{HasRange}
use Rattle.data_handles.specs.Table.{object_at}
use Rattle.item_shares.specs.declared.item.Item.{Item}
use Rattle.item_shares.specs.declared.item.Item.TheVariants.{Memory, Paged, Reserved, File, Range}
use Rattle.item_shares.specs.declared.shares.Share.{Share}
use Rattle.item_shares.specs.Shares.{item_at}
use Rattle.blob_items.specs.declared.view.View.{View}
use Rattle.range_reader.specs.Bytes.{Origins}

-- a reader: the size of its blob, the place of the next byte, and where the range stops
pub record Course : Type 0 where
  pub size : ℕ
  pub place : ℕ
  pub stop : ℕ

-- so many bytes from a place on lie inside an item whose bytes can be asked for: not one that only has room, a page that stands and has them all where the
-- disk tells, and a slot that holds its object
abbrev pub Lies : Origins → ℕ → ℕ → Item → Type 0
Lies from place count (Memory piece bytes) = place + count ≤ length bytes
Lies from place count (Paged piece page off len) = (place + count ≤ len) × (off + len ≤ 2 ^ 64 - 1) × IfSome from.changes (HasRange page.0 off len)
Lies from place count (Reserved piece len) = ⊥
Lies from place count (File name stamp off len) = place + count ≤ len
Lies from place count (Range slot off len) = (place + count ≤ len) × (off + len ≤ 2 ^ 64 - 1) × IsSomeAnd (object_at from.handles slot)
    (λ handle. off + len ≤ handle.size)

-- a view lies inside the item of its slot
abbrev pub ViewLies : Origins → List (Option Share) → View → Type 0
ViewLies from shares view = IsSomeAnd (item_at shares view.slot) (Lies from view.off view.len)
