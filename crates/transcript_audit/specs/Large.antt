-- When a line builds more than is judged. Own.
use Rattle.std.specs.Prelude.{ℕ, ◌+◌, ◌&&◌, Bool, false, List, sum_by, nat_lt, is_none}
use Rattle.blob_words.specs.declared.number.RendererId.{RendererId}
use Rattle.session_script.specs.declared.event.Event.{Event}
use Rattle.session_script.specs.declared.event.Event.TheVariants as events
use Rattle.session_script.specs.declared.event.Part.{Part}
use Rattle.blob_model.specs.Session.{Session, page_limit}
use Rattle.blob_model.specs.History.{History}
use Rattle.blob_model.specs.Parts.{parts_length}
use Rattle.blob_model.specs.Builds.{size, builds, slice_parts}
use Rattle.blob_model.specs.Refusals.{refusal, stands_at_line}
use Rattle.transcript_audit.specs.declared.large.TheConstants.{MOST_CELLS}

-- a blob of these parts doesn't break at its line, and with it the sizes of all blobs sum to more than is judged
abbrev pub has_too_many : Session → History → RendererId → ℕ → List Part → Bool
has_too_many s h renderer name parts =
    stands_at_line s h renderer name parts && nat_lt MOST_CELLS (sum_by size (builds (page_limit s) h) + parts_length parts)

-- the line is an accepted `build` or `slice` line with such a blob
abbrev pub is_large : Session → History → Event → Bool
is_large s h (events.Build renderer name kind parts) = is_none (refusal s h (events.Build renderer name kind parts)) && has_too_many s h renderer name parts
is_large s h (events.Slice renderer name source from to kind) =
    is_none (refusal s h (events.Slice renderer name source from to kind))
    && has_too_many s h renderer name (slice_parts (builds (page_limit s) h) source from to)
is_large s h event = false
