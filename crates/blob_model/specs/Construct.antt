-- How a build line is decided: the status of a blob that breaks at its line, or its plan. Own; the parts are those of the File API's constructor.
use Rattle.std.specs.Prelude.{ℕ, ◌+◌, ◌-◌, ◌^◌, ◌==◌, ◌&&◌, ◌||◌, Bool, true, false, not, List, [], ◌∷◌, length, nat_lt, Option, None, Some, is_none, slice_get}
use Rattle.std.specs.Option.{option_map_or}
use Rattle.std.specs.List.{list_any}
use Rattle.blob_words.specs.declared.plan.Plan.{Plan}
use Rattle.blob_words.specs.declared.plan.Plan.TheVariants as plans
use Rattle.blob_words.specs.declared.status.Status.{Status}
use Rattle.blob_words.specs.declared.status.Status.TheVariants as statuses
use Rattle.session_script.specs.declared.event.Part.{Part}
use Rattle.session_script.specs.declared.event.Part.TheVariants.{FileRange, BlobRange, HandleRange}
use Rattle.answer_text.specs.declared.answer.Answer.{Answer}
use Rattle.answer_text.specs.declared.answer.Answer.TheVariants as answers
use Rattle.transport_plan.specs.declared.input.PlanInput.{PlanInput}
use Rattle.transport_plan.specs.Plan.{plan_of}
use Rattle.transport_plan.specs.Spans.{piece_count}
use Rattle.blob_model.specs.Session.{Slot, Outside, Session, page_limit}
use Rattle.blob_model.specs.History.{History}
use Rattle.blob_model.specs.Recorded.{recorded}
use Rattle.blob_model.specs.Parts.{parts_length, own_lengths, embedded, own_bytes, sources}
use Rattle.blob_model.specs.Builds.{builds, size_in}
use Rattle.blob_model.specs.Standing.{is_broken}
use Rattle.blob_model.specs.Handles.{has_handle}
use Rattle.blob_model.specs.Jobs.{paging}
use Rattle.blob_model.specs.Tally.{memory, disk}
use Rattle.blob_model.specs.Waits.{waits}
use Rattle.blob_model.specs.Choice.{first_that}

-- the size of the object in a slot
abbrev pub slot_size : Outside → ℕ → ℕ
slot_size outside slot = option_map_or (λ (object : Slot). object.size) (slice_get outside.slots slot) 0

-- a part is invalid where it names the blob itself, or a range that passes a blob or an object
abbrev pub is_invalid : Session → History → ℕ → ℕ → Part → Bool
is_invalid s h renderer name (BlobRange b off len) = (b == name)
    || (has_handle h renderer b && not (is_broken h b) && nat_lt (size_in (builds (page_limit s) h) b) (off + len))
is_invalid s h renderer name (HandleRange k off len) = nat_lt (slot_size s.outside k) (off + len)
is_invalid s h renderer name part = false

-- a source that the renderer doesn't hold, or that is broken
abbrev pub is_lost_source : History → ℕ → ℕ → Bool
is_lost_source h renderer b = not (has_handle h renderer b) || is_broken h b

-- a range of a file of which nothing is recorded now
abbrev pub is_unrecorded : History → Part → Bool
is_unrecorded h (FileRange name off len stamp) = is_none (recorded h name)
is_unrecorded h part = false

-- what the table of plans looks at
abbrev pub plan_input : Session → History → List Part → PlanInput
plan_input s h parts = record {
  embedded = length (embedded parts);
  asked = own_bytes parts - length (embedded parts);
  pieces = piece_count (page_limit s) (own_lengths parts);
  waiting = nat_lt 0 (length (waits (page_limit s) h));
  paging = paging h;
  memory_used = memory (page_limit s) h;
  disk_used = disk (page_limit s) h;
  limits = s.limits;
}

-- the plan of the own bytes
abbrev pub plan_for : Session → History → List Part → Plan
plan_for s h parts = plan_of (plan_input s h parts)

abbrev pub is_out_of_memory : Plan → Bool
is_out_of_memory plans.OutOfMemory = true
is_out_of_memory plan = false

-- the four reasons for which a blob breaks at its own line
abbrev pub line_tests : Session → History → ℕ → ℕ → List Part → List (Bool × Status)
line_tests s h renderer name parts =
    (list_any (is_invalid s h renderer name) parts || nat_lt (2 ^ 62) (parts_length parts), statuses.InvalidArguments)
    ∷ (list_any (is_lost_source h renderer) (sources parts), statuses.ReferencedBlobBroken)
    ∷ (list_any (is_unrecorded h) parts, statuses.ReferencedFileUnavailable)
    ∷ (is_out_of_memory (plan_for s h parts), statuses.OutOfMemory)
    ∷ []

-- the first of them that applies
abbrev pub line_status : Session → History → ℕ → ℕ → List Part → Option Status
line_status s h renderer name parts = first_that (line_tests s h renderer name parts)

-- a blob breaks at its line, or has a plan
abbrev pub build_answer_by : Session → History → ℕ → List Part → Option Status → Answer
build_answer_by s h name parts (Some status) = answers.Broken name status
build_answer_by s h name parts None = answers.Planned (plan_for s h parts)

abbrev pub build_answer : Session → History → ℕ → ℕ → List Part → Answer
build_answer s h renderer name parts = build_answer_by s h name parts (line_status s h renderer name parts)
