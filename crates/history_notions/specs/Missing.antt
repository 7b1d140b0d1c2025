-- The segments that did not come, and who waits, read off what is kept. Own.
use Rattle.std.specs.Prelude.{ℕ, ◌==◌, ◌&&◌, Bool, not, List, filter, length, is_none}
use Rattle.std.specs.List.{range_with_len}
use Rattle.blob_words.specs.declared.limits.Limits.{Limits}
use Rattle.blob_words.specs.declared.status.Status.{Status}
use Rattle.blob_model.specs.Builds.{Build}
use Rattle.blob_model.specs.Transport.{spans, has_come}
use Rattle.blob_model.specs.Waits.{is_shared}
use Rattle.history_notions.specs.Kept.{Brought, arrivals_in, ended_in, was_granted_in}

-- the segments of the blob that did not come
abbrev pub missing_in : Limits → List Brought → Build → List ℕ
missing_in l brought build = filter (λ (segment : ℕ). not (has_come (arrivals_in brought build.name) segment)) (range_with_len 0 (length (spans l build)))

-- whether the blob is unfinished, its plan is shared and it wasn't granted
abbrev pub is_waiting_in : List (ℕ × Status) → List ℕ → Build → Bool
is_waiting_in endings granted build = is_none (ended_in endings build.name) && is_shared build.plan && not (was_granted_in granted build.name)
