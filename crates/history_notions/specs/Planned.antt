-- How a build line is decided, read off contents. Own.
use Rattle.std.specs.Prelude.{ℕ, ◌+◌, ◌==◌, ◌&&◌, ◌||◌, Bool, false, not, nat_lt, List, is_none, unwrap_or, slice_get}
use Rattle.session_script.specs.declared.event.Part.{Part}
use Rattle.session_script.specs.declared.event.Part.TheVariants.{Embedded, Asked, FileRange, BlobRange, HandleRange}
use Rattle.blob_words.specs.declared.limits.Limits.{Limits}
use Rattle.transport_plan.specs.declared.input.PlanInput.{PlanInput}
use Rattle.blob_model.specs.Builds.{size_in}
use Rattle.history_notions.specs.Kept.{count_in, recorded_in}
use Rattle.history_notions.specs.Reach.{is_broken_in}
use Rattle.history_notions.specs.declared.contents.Contents.{Contents}
use Rattle.history_notions.specs.declared.construct.Room.{Room}

-- whether the renderer has a handle on the blob
abbrev pub has_handle_in : Contents → ℕ → ℕ → Bool
has_handle_in contents renderer b = nat_lt 0 (count_in contents.kept.holds renderer b)

-- a part is invalid where it names the blob itself, or a range that passes a blob or an object
abbrev pub is_invalid_in : Contents → ℕ → ℕ → Part → Bool
is_invalid_in contents renderer name (BlobRange b off len) =
    (b == name) || (has_handle_in contents renderer b && not (is_broken_in contents.kept.endings b) && nat_lt (size_in contents.builds b) (off + len))
is_invalid_in contents renderer name (HandleRange k off len) = nat_lt (unwrap_or (slice_get contents.sizes k) 0) (off + len)
is_invalid_in contents renderer name part = false

-- a source that the renderer doesn't hold, or that is broken
abbrev pub is_lost_in : Contents → ℕ → ℕ → Bool
is_lost_in contents renderer b = not (has_handle_in contents renderer b) || is_broken_in contents.kept.endings b

-- a range of a file of which nothing is recorded now
abbrev pub is_unrecorded_in : Contents → Part → Bool
is_unrecorded_in contents (FileRange name off len stamp) = is_none (recorded_in contents.kept.notes name)
is_unrecorded_in contents part = false

-- what the table of plans looks at
abbrev pub input_of : Limits → Room → PlanInput
input_of limits room = record {
  embedded = room.embedded;
  asked = room.asked;
  pieces = room.pieces;
  waiting = room.waiting;
  paging = room.paging;
  memory_used = room.memory;
  disk_used = room.disk;
  limits = limits;
}
