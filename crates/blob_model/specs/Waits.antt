-- Who waits for room in memory, and which blobs are complete. Own.
use Rattle.std.specs.Prelude.{ℕ, ◌&&◌, Bool, true, false, not, List, filter, Option, Some}
use Rattle.std.specs.List.{list_all}
use Rattle.blob_words.specs.declared.limits.Limits.{Limits}
use Rattle.blob_words.specs.declared.plan.Plan.{Plan}
use Rattle.blob_words.specs.declared.plan.Plan.TheVariants as plans
use Rattle.blob_model.specs.History.{History}
use Rattle.blob_model.specs.Parts.{sources}
use Rattle.blob_model.specs.Builds.{Build, builds}
use Rattle.blob_model.specs.Standing.{is_unfinished, is_done, was_granted, is_granted}
use Rattle.blob_model.specs.Transport.{has_all}

abbrev pub is_shared : Option Plan → Bool
is_shared (Some (plans.Shared n)) = true
is_shared plan = false

-- a blob waits while it is unfinished, its plan is shared and it wasn't granted
abbrev pub is_waiting : History → Build → Bool
is_waiting h build = is_unfinished h build.name && is_shared build.plan && not (was_granted h build.name)

-- the blobs that wait, in order of build; the first is the head
abbrev pub waits : ℕ → History → List Build
waits page h = filter (is_waiting h) (builds page h)

-- whether all its sources are done
abbrev pub has_sources : History → Build → Bool
has_sources h build = list_all (is_done h) (sources build.parts)

-- a blob is complete where it is granted, misses no segment and every source is done
abbrev pub is_complete : Limits → History → Build → Bool
is_complete l h build = is_granted h build && has_all l h build && has_sources h build
