-- The items of a blob that comes: of its pieces, and of its ranges. Own.
use Rattle.std.specs.Prelude.{ℕ, zero, suc, ◌+◌, List, [], ◌∷◌, flat_map, map}
use Rattle.blob_words.specs.declared.plan.Plan.{Plan}
use Rattle.blob_words.specs.declared.plan.Plan.TheVariants as plans
use Rattle.session_script.specs.declared.event.Part.{Part}
use Rattle.session_script.specs.declared.event.Part.TheVariants.{Embedded, Asked, FileRange, BlobRange, HandleRange}
use Rattle.item_shares.specs.declared.item.Item.{Item}
use Rattle.item_shares.specs.declared.item.Item.TheVariants.{Memory, Reserved, File, Range}
use Rattle.blob_model.specs.Parts.{embedded, own_lengths}
use Rattle.segment_assembly.specs.Assembly.{bytes_at}
use Rattle.store_laws.specs.EntryLaws.{all_lengths}
use Rattle.store_laws.specs.PartLaws.{piece_no}
use Rattle.transport_plan.specs.Spans.{piece_spans}

-- pieces with these bytes in memory, numbered from `number`
abbrev pub memory_items : ℕ → List (List ℕ) → List Item
memory_items number [] = []
memory_items number (bytes ∷ pieces) = Memory (piece_no number) bytes ∷ memory_items (number + 1) pieces

-- pieces of these lengths, for which room is reserved
abbrev pub reserved_items : ℕ → List ℕ → List Item
reserved_items number [] = []
reserved_items number (len ∷ lengths) = Reserved (piece_no number) len ∷ reserved_items (number + 1) lengths

-- the range of a file or of a data handle, where it isn't empty
abbrev pub part_items : Part → List Item
part_items (Embedded bytes) = []
part_items (Asked len) = []
part_items (FileRange name off zero stamp) = []
part_items (FileRange name off (suc len) stamp) = File name stamp off (suc len) ∷ []
part_items (BlobRange b off len) = []
part_items (HandleRange k off zero) = []
part_items (HandleRange k off (suc len)) = Range k off (suc len) ∷ []

abbrev pub range_items : List Part → List Item
range_items parts = flat_map part_items parts

-- the own pieces of parts all of whose bytes are in the line
abbrev pub inline_items : ℕ → ℕ → List Part → List Item
inline_items page number parts = memory_items number (map (bytes_at (embedded parts)) (piece_spans page 0 (own_lengths parts)))

-- the items of the own pieces that come at once: in memory, reserved in page files, or none while they wait
abbrev pub own_items : ℕ → ℕ → Plan → List Part → List Item
own_items page first (plans.Shared n) parts = []
own_items page first (plans.File n) parts = reserved_items first (all_lengths page parts)
own_items page first plan parts = inline_items page first parts
