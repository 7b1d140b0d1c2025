-- How each blob stands, read off the answers. Own.
use Rattle.std.specs.Prelude.{ℕ, ◌==◌, Bool, true, false, ◌||◌, Option, None, Some, is_none, if◌then◌else◌}
use Rattle.std.specs.Option.{option_map_or}
use Rattle.blob_words.specs.declared.status.Status.{Status}
use Rattle.blob_words.specs.declared.status.Status.TheVariants as statuses
use Rattle.blob_words.specs.declared.plan.Plan.{Plan}
use Rattle.blob_words.specs.declared.plan.Plan.TheVariants as plans
use Rattle.answer_text.specs.declared.answer.Answer.{Answer}
use Rattle.answer_text.specs.declared.answer.Answer.TheVariants as answers
use Rattle.blob_model.specs.History.{History, start, heard, refused, said}
use Rattle.blob_model.specs.Builds.{Build}

-- `done`, `broken` and `dropped` end a blob
abbrev pub ended_after : Answer → ℕ → Option Status → Option Status
ended_after (answers.Done b) name before = if b == name then Some statuses.Done else before
ended_after (answers.Broken b status) name before = if b == name then Some status else before
ended_after (answers.Dropped b) name before = if b == name then Some statuses.Dereferenced else before
ended_after answer name before = before

-- the status with which the blob ended, or nothing while it is unfinished
abbrev pub ended : History → ℕ → Option Status
ended start name = None
ended (heard h event answer) name = ended_after answer name (ended h name)
ended (refused h event why) name = ended h name
ended (said h answer) name = ended_after answer name (ended h name)

abbrev pub is_unfinished : History → ℕ → Bool
is_unfinished h name = is_none (ended h name)

abbrev pub is_done_status : Status → Bool
is_done_status statuses.Done = true
is_done_status status = false

abbrev pub is_done : History → ℕ → Bool
is_done h name = option_map_or is_done_status (ended h name) false

abbrev pub is_broken_status : Status → Bool
is_broken_status statuses.InvalidArguments = true
is_broken_status statuses.OutOfMemory = true
is_broken_status statuses.FileWriteFailed = true
is_broken_status statuses.SourceDied = true
is_broken_status statuses.ReferencedBlobBroken = true
is_broken_status statuses.ReferencedFileUnavailable = true
is_broken_status status = false

abbrev pub is_broken : History → ℕ → Bool
is_broken h name = option_map_or is_broken_status (ended h name) false

-- a blob whose bytes wait for room in memory is granted by an answer
abbrev pub was_granted_after : Answer → ℕ → Bool → Bool
was_granted_after (answers.Granted b) name before = (b == name) || before
was_granted_after answer name before = before

abbrev pub was_granted : History → ℕ → Bool
was_granted start name = false
was_granted (heard h event answer) name = was_granted_after answer name (was_granted h name)
was_granted (refused h event why) name = was_granted h name
was_granted (said h answer) name = was_granted_after answer name (was_granted h name)

-- any other plan grants the blob at its own line
abbrev pub grants_at_once : Plan → Bool
grants_at_once plans.None = true
grants_at_once plans.Inline = true
grants_at_once (plans.File n) = true
grants_at_once plan = false

-- whether the blob's own bytes have their room
abbrev pub is_granted : History → Build → Bool
is_granted h build = option_map_or grants_at_once build.plan false || was_granted h build.name
