-- The pieces that entries have a byte of. Own.
use Rattle.std.specs.Option.{option_map_or, option_to_list}
use Rattle.std.specs.Prelude.{Bool, List, None, Option, Some, [], flat_map, if◌then◌else◌, map, option_and_then, ℕ}
use Rattle.blob_entries.specs.Book.{Book}
use Rattle.blob_entries.specs.Endings.{is_granted_status}
use Rattle.blob_entries.specs.Statuses.{is_done, is_pending}
use Rattle.blob_entries.specs.declared.entry.Entry.{Entry}
use Rattle.blob_entries.specs.declared.step.Step.{Step}
use Rattle.blob_entries.specs.declared.step.Step.TheVariants.{Fixed, Own, Source}
use Rattle.blob_items.specs.declared.view.View.{View}
use Rattle.blob_words.specs.declared.number.PieceNo.{PieceNo}
use Rattle.item_shares.specs.Shares.{item_at}
use Rattle.item_shares.specs.declared.item.Item.{Item}
use Rattle.item_shares.specs.declared.item.Item.TheVariants.{File, Memory, Paged, Range, Reserved}
use Rattle.item_shares.specs.declared.shares.Share.{Share}
use Rattle.store_reach.specs.Sets.{as_set}

-- the piece whose bytes an item stands for; a file or a handle has none
abbrev pub item_piece : Item → Option PieceNo
item_piece (Memory piece bytes) = Some piece
item_piece (Paged piece page off len) = Some piece
item_piece (Reserved piece len) = Some piece
item_piece (File name stamp off len) = None
item_piece (Range slot off len) = None

-- the piece that a view has a byte of
abbrev pub view_piece : List (Option Share) → View → Option PieceNo
view_piece shares view = option_and_then item_piece (item_at shares view.slot)

-- the piece of a step: its own where the blob was granted, or that of its view. A source is an entry itself
abbrev pub step_piece : List (Option Share) → Bool → Step → Option PieceNo
step_piece shares granted (Own piece len) = if granted then Some piece else None
step_piece shares granted (Fixed view) = view_piece shares view
step_piece shares granted (Source name off len) = None

abbrev pub views_pieces : List (Option Share) → List View → List PieceNo
views_pieces shares views = flat_map (λ (view : View). option_to_list (view_piece shares view)) views

abbrev pub steps_pieces : List (Option Share) → Bool → List Step → List PieceNo
steps_pieces shares granted steps = flat_map (λ (step : Step). option_to_list (step_piece shares granted step)) steps

-- the pieces of an entry: of the views of a done one, of the steps of one that is still to end; a broken one has none
abbrev pub entry_pieces : List (Option Share) → Entry → List PieceNo
entry_pieces shares entry =
    if is_done entry.status then views_pieces shares entry.views else if is_pending entry.status then steps_pieces shares
    (is_granted_status entry.status) entry.recipe else []

abbrev pub held_pieces : List (Option Share) → Option Entry → List PieceNo
held_pieces shares held = option_map_or (entry_pieces shares) held []

-- the pieces of entries, as often as they have them
abbrev pub all_pieces : List (Option Share) → List (Option Entry) → List PieceNo
all_pieces shares entries = flat_map (held_pieces shares) entries

abbrev pub numbers : List PieceNo → List ℕ
numbers pieces = map (λ (piece : PieceNo). piece.0) pieces

abbrev pub piece_no : ℕ → PieceNo
piece_no number = record { 0 = number }

-- the pieces that an entry which stands and isn't broken has a byte of, rising, each once
abbrev pub reached : Book → List (Option Share) → List PieceNo
reached book shares = map piece_no (as_set (numbers (all_pieces shares book.entries)))
