-- How a build line is decided, read off the parts of a store and its data handles. Own.
use Rattle.std.specs.Prelude.{ℕ, ◌+◌, ◌-◌, ◌^◌, ◌==◌, ◌&&◌, ◌||◌, Bool, false, not, List, [], ◌∷◌, ◌++◌, length, min, nat_le, nat_lt, Option, is_none, is_some, option_and_then, slice_index_or, None, if◌then◌else◌}
use Rattle.std.specs.Prelude.{sum_by, ℤ}
use Rattle.std.specs.Option.{option_map_or}
use Rattle.std.specs.List.{list_any}
use Rattle.std.specs.Int.{div_ceil}
use Rattle.blob_words.specs.declared.bounds.TheConstants.{MOST_BLOBS, MOST_PIECES, MOST_WEIGHT}
use Rattle.blob_words.specs.declared.counted.Counted.TheVariants as counted
use Rattle.blob_words.specs.declared.number.RendererId.{RendererId}
use Rattle.blob_words.specs.declared.plan.Plan.{Plan}
use Rattle.blob_words.specs.declared.status.Status.{Status}
use Rattle.blob_words.specs.declared.status.Status.TheVariants as statuses
use Rattle.session_script.specs.declared.event.Part.{Part}
use Rattle.session_script.specs.declared.event.Part.TheVariants.{Embedded, Asked, FileRange, BlobRange, HandleRange}
use Rattle.answer_text.specs.declared.refusal.Refusal.{Refusal}
use Rattle.answer_text.specs.declared.refusal.Refusal.TheVariants as refusals
use Rattle.transport_plan.specs.declared.input.PlanInput.{PlanInput}
use Rattle.transport_plan.specs.Plan.{plan_of}
use Rattle.transport_plan.specs.Spans.{piece_count}
use Rattle.blob_entries.specs.Book.{Book, entry_of}
use Rattle.blob_entries.specs.Names.{number_of}
use Rattle.blob_entries.specs.Statuses.{is_broken}
use Rattle.blob_entries.specs.declared.entry.Entry.{Entry}
use Rattle.data_handles.specs.Handles.{Handle}
use Rattle.data_handles.specs.Table.{Table as HandleTable, is_claimed_at, object_at}
use Rattle.file_table.specs.Files.{state_of}
use Rattle.page_files.specs.Files.{charge}
use Rattle.renderer_table.specs.Table.{count_of, living_of}
use Rattle.slice_rule.specs.Range.{slice_of}
use Rattle.blob_model.specs.Choice.{first_that}
use Rattle.blob_model.specs.Construct.{is_out_of_memory}
use Rattle.blob_model.specs.Parts.{claims, embedded, own_bytes, own_lengths, parts_length}
use Rattle.blob_model.specs.Refusals.{is_many_segments}
use Rattle.store_laws.specs.Rows.{Row}
use Rattle.store_laws.specs.Stands.{Parts}

-- ---- the status at the line

-- the size of the object in a slot that can be claimed
abbrev pub free_size : HandleTable → ℕ → ℕ
free_size table k = if is_claimed_at table k then 0 else option_map_or (λ (handle : Handle). handle.size) (object_at table k) 0

-- whether the renderer has a handle on the blob
abbrev pub holds : Parts → ℕ → ℕ → Bool
holds parts renderer b = nat_lt 0 (count_of renderer b parts.renderers)

-- whether what stands under the name is broken, and whether it isn't and has fewer bytes than these
abbrev pub is_broken_under : Book → ℕ → Bool
is_broken_under book b = option_map_or (λ (entry : Entry). is_broken entry.status) (entry_of book b) false

abbrev pub is_passed : Book → ℕ → ℕ → Bool
is_passed book b end = option_map_or (λ (entry : Entry). not (is_broken entry.status) && nat_lt entry.size end) (entry_of book b) false

-- a part is invalid where it names the blob itself, or a range that passes a blob or an object
abbrev pub is_invalid_in : Parts → HandleTable → ℕ → ℕ → Part → Bool
is_invalid_in parts table renderer name (BlobRange b off len) = (b == name) || (holds parts renderer b && is_passed parts.book b (off + len))
is_invalid_in parts table renderer name (HandleRange k off len) = nat_lt (free_size table k) (off + len)
is_invalid_in parts table renderer name part = false

-- a part of a blob that the renderer doesn't hold, or that is broken
abbrev pub is_lost_in : Parts → ℕ → Part → Bool
is_lost_in parts renderer (BlobRange b off len) = not (holds parts renderer b) || is_broken_under parts.book b
is_lost_in parts renderer part = false

-- a range of a file of which nothing is recorded now
abbrev pub is_unrecorded_in : Parts → Part → Bool
is_unrecorded_in parts (FileRange name off len stamp) = is_none (state_of name parts.files)
is_unrecorded_in parts part = false

-- what the table of plans looks at
abbrev pub input_in : Parts → List Part → PlanInput
input_in parts line = record {
  embedded = length (embedded line);
  asked = own_bytes line - length (embedded line);
  pieces = piece_count parts.limits.page (own_lengths line);
  waiting = nat_lt 0 (length parts.quota.waiting);
  paging = parts.pages.paging;
  memory_used = parts.quota.used;
  disk_used = charge parts.pages;
  limits = parts.limits;
}

-- the plan of the own bytes
abbrev pub plan_in : Parts → List Part → Plan
plan_in parts line = plan_of (input_in parts line)

-- the first of the four reasons for which a blob breaks at its own line
abbrev pub line_status_in : Parts → HandleTable → ℕ → ℕ → List Part → Option Status
line_status_in parts table renderer name line =
    first_that (
    (list_any (is_invalid_in parts table renderer name) line || nat_lt (2 ^ 62) (parts_length line), statuses.InvalidArguments)
    ∷ (list_any (is_lost_in parts renderer) line, statuses.ReferencedBlobBroken)
    ∷ (list_any (is_unrecorded_in parts) line, statuses.ReferencedFileUnavailable)
    ∷ (is_out_of_memory (plan_in parts line), statuses.OutOfMemory)
    ∷ []
    )

-- ---- refusals

-- nobody lives under this number, a blob of this name was built, or the renderer has no handle on the blob
abbrev pub no_renderer_in : Parts → RendererId → Bool × Refusal
no_renderer_in parts renderer = (is_none (living_of renderer.0 parts.renderers), refusals.NoRenderer renderer)

abbrev pub name_used_in : Parts → ℕ → Bool × Refusal
name_used_in parts name = (is_some (number_of name parts.book.names), refusals.NameUsed name)

abbrev pub no_handle_in : Parts → RendererId → ℕ → Bool × Refusal
no_handle_in parts renderer b = (not (holds parts renderer.0 b), refusals.NoHandle renderer b)

-- of several slots the first to which a refusal applies names it: there is no such slot, or it is taken, by an earlier part among others
abbrev pub slot_tests : ℕ → (ℕ → Bool) → List ℕ → List (Bool × Refusal)
slot_tests count taken [] = []
slot_tests count taken (slot ∷ slots) =
    (nat_le count slot, refusals.NoSuchHandle slot) ∷ (taken slot, refusals.HandleTaken slot) ∷ slot_tests count (λ (k : ℕ). (slot == k) || taken k) slots

abbrev pub slot_tests_in : HandleTable → List ℕ → List (Bool × Refusal)
slot_tests_in table slots = slot_tests (length table.slots) (is_claimed_at table) slots

-- the weight of the blob that stands under the name
abbrev pub row_in : Parts → ℕ → Option Row
row_in parts b = option_and_then (λ (number : ℕ). slice_index_or parts.rows number None) (number_of b parts.book.names)

abbrev pub weight_in : Parts → ℕ → ℕ
weight_in parts b = option_map_or (λ (row : Row). row.weight) (row_in parts b) 0

-- the most views that a part may need, and all parts
abbrev pub part_weight_in : Parts → Part → ℕ
part_weight_in parts (Embedded bytes) = div_ceil (length bytes) parts.limits.page
part_weight_in parts (Asked len) = div_ceil len parts.limits.page
part_weight_in parts (FileRange name off len stamp) = min 1 len
part_weight_in parts (BlobRange b off len) = min len (weight_in parts b)
part_weight_in parts (HandleRange k off len) = min 1 len

abbrev pub line_weight_in : Parts → List Part → ℕ
line_weight_in parts line = sum_by (part_weight_in parts) line

-- with one blob more there would be too many
abbrev pub many_blobs_in : Parts → Bool × Refusal
many_blobs_in parts = (nat_le MOST_BLOBS (length parts.book.names), refusals.TooMany counted.Blobs)

-- with a blob that doesn't break at its line there would be too many segments of it, pieces or views
abbrev pub many_segments_in : Parts → Bool → List Part → Bool × Refusal
many_segments_in parts stands line = (stands && is_many_segments (plan_in parts line), refusals.TooMany counted.Segments)

abbrev pub many_pieces_in : Parts → Bool → List Part → Bool × Refusal
many_pieces_in parts stands line =
    (stands && nat_lt MOST_PIECES (parts.pieces + piece_count parts.limits.page (own_lengths line)), refusals.TooMany counted.Pieces)

abbrev pub many_views_in : Parts → Bool → List Part → Bool × Refusal
many_views_in parts stands line = (stands && nat_lt MOST_WEIGHT (parts.weight + line_weight_in parts line), refusals.TooMany counted.Views)

abbrev pub stands_in : Parts → HandleTable → RendererId → ℕ → List Part → Bool
stands_in parts table renderer name line = is_none (line_status_in parts table renderer.0 name line)

-- the tests of a blob that may have too much
abbrev pub many_in : Parts → Bool → List Part → List (Bool × Refusal)
many_in parts stands line = many_segments_in parts stands line ∷ many_pieces_in parts stands line ∷ many_views_in parts stands line ∷ []

-- why a `build` line is refused
abbrev pub build_refusal_in : Parts → HandleTable → RendererId → ℕ → List Part → Option Refusal
build_refusal_in parts table renderer name line =
    first_that (no_renderer_in parts renderer
    ∷ name_used_in parts name
    ∷ slot_tests_in table (claims line)
    ++ (many_blobs_in parts ∷ many_in parts (stands_in parts table renderer name line) line))

-- the one part of a slice
abbrev pub size_under : Book → ℕ → ℕ
size_under book b = option_map_or (λ (entry : Entry). entry.size) (entry_of book b) 0

abbrev pub slice_line : Book → ℕ → Option ℤ → Option ℤ → List Part
slice_line book source from to = BlobRange source (slice_of (size_under book source) from to).0 (slice_of (size_under book source) from to).1 ∷ []

-- why a `slice` line is refused
abbrev pub slice_refusal_in : Parts → HandleTable → RendererId → ℕ → ℕ → List Part → Option Refusal
slice_refusal_in parts table renderer name source line =
    first_that (no_renderer_in parts renderer
    ∷ name_used_in parts name
    ∷ no_handle_in parts renderer source
    ∷ many_blobs_in parts
    ∷ many_views_in parts (stands_in parts table renderer name line) line
    ∷ [])
