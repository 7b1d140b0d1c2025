-- Wrong transcripts of worked sessions: what waits when paging is turned off. Each has another answer, another tally, or an answer of settling less or more.
-- Own.
use Rattle.std.specs.Prelude.{List, [], ◌∷◌, codes}
use Rattle.session_script.specs.declared.event.Event.TheVariants as events
use Rattle.session_script.specs.declared.event.Part.TheVariants as parts
use Rattle.blob_words.specs.declared.plan.Plan.TheVariants as plans
use Rattle.blob_words.specs.declared.status.Status.TheVariants as statuses
use Rattle.answer_text.specs.declared.answer.Answer.TheVariants as answers
use Rattle.blob_model.specs.Settle.{page_no, job_no}
use Rattle.blob_model.specs.Worked.{Worked, group, renderer, replaced}
use Rattle.blob_model.specs.RowsVersions.{waiting_lost, waiting_failed, waiting_on}

-- waiting_lost: another plan
abbrev pub waiting_lost_other_plan : Worked
waiting_lost_other_plan = replaced 1 (group (events.Build (renderer 1) 1 [] (parts.Embedded (codes "abcd") ∷ []))
    (answers.Planned (plans.Shared 1) ∷ answers.Done 1 ∷ []) 1 4 0 0) waiting_lost

-- waiting_lost: another tally
abbrev pub waiting_lost_other_tally : Worked
waiting_lost_other_tally = replaced 1 (group (events.Build (renderer 1) 1 [] (parts.Embedded (codes "abcd") ∷ []))
    (answers.Planned plans.Inline ∷ answers.Done 1 ∷ []) 1 5 0 0) waiting_lost

-- waiting_lost: an answer of settling is missing
abbrev pub waiting_lost_less : Worked
waiting_lost_less = replaced 9 (group events.Finish (answers.Good ∷ []) 0 0 0 0) waiting_lost

-- waiting_lost: a further answer of settling
abbrev pub waiting_lost_more : Worked
waiting_lost_more = replaced 1 (group (events.Build (renderer 1) 1 [] (parts.Embedded (codes "abcd") ∷ []))
    (answers.Planned plans.Inline ∷ answers.Done 1 ∷ answers.Dropped 1 ∷ []) 1 4 0 0) waiting_lost

-- waiting_failed: another plan
abbrev pub waiting_failed_other_plan : Worked
waiting_failed_other_plan = replaced 1 (group (events.Build (renderer 1) 1 [] (parts.Embedded (codes "abcd") ∷ []))
    (answers.Planned (plans.Shared 1) ∷ answers.Done 1 ∷ []) 1 4 0 0) waiting_failed

-- waiting_failed: another tally
abbrev pub waiting_failed_other_tally : Worked
waiting_failed_other_tally = replaced 1 (group (events.Build (renderer 1) 1 [] (parts.Embedded (codes "abcd") ∷ []))
    (answers.Planned plans.Inline ∷ answers.Done 1 ∷ []) 1 5 0 0) waiting_failed

-- waiting_failed: an answer of settling is missing
abbrev pub waiting_failed_less : Worked
waiting_failed_less = replaced 5 (group (events.Disk (job_no 0)) (answers.PageFailed (job_no 0) (page_no 0) ∷ answers.Broken 3 statuses.FileWriteFailed ∷ []) 2
    8 0 0) waiting_failed

-- waiting_failed: a further answer of settling
abbrev pub waiting_failed_more : Worked
waiting_failed_more = replaced 1 (group (events.Build (renderer 1) 1 [] (parts.Embedded (codes "abcd") ∷ []))
    (answers.Planned plans.Inline ∷ answers.Done 1 ∷ answers.Dropped 1 ∷ []) 1 4 0 0) waiting_failed

-- waiting_on: another plan
abbrev pub waiting_on_other_plan : Worked
waiting_on_other_plan = replaced 1 (group (events.Build (renderer 1) 1 [] (parts.Embedded (codes "abcd") ∷ []))
    (answers.Planned (plans.Shared 1) ∷ answers.Done 1 ∷ []) 1 4 0 0) waiting_on

-- waiting_on: another tally
abbrev pub waiting_on_other_tally : Worked
waiting_on_other_tally = replaced 1 (group (events.Build (renderer 1) 1 [] (parts.Embedded (codes "abcd") ∷ []))
    (answers.Planned plans.Inline ∷ answers.Done 1 ∷ []) 1 5 0 0) waiting_on

-- waiting_on: an answer of settling is missing
abbrev pub waiting_on_less : Worked
waiting_on_less = replaced 6 (group events.Finish (answers.Good ∷ answers.Dropped 4 ∷ []) 0 0 0 0) waiting_on

-- waiting_on: a further answer of settling
abbrev pub waiting_on_more : Worked
waiting_on_more = replaced 1 (group (events.Build (renderer 1) 1 [] (parts.Embedded (codes "abcd") ∷ []))
    (answers.Planned plans.Inline ∷ answers.Done 1 ∷ answers.Dropped 1 ∷ []) 1 4 0 0) waiting_on

-- all of these
abbrev pub wrong_versions : List Worked
wrong_versions =
    waiting_lost_other_plan
    ∷ waiting_lost_other_tally
    ∷ waiting_lost_less
    ∷ waiting_lost_more
    ∷ waiting_failed_other_plan
    ∷ waiting_failed_other_tally
    ∷ waiting_failed_less
    ∷ waiting_failed_more
    ∷ waiting_on_other_plan
    ∷ waiting_on_other_tally
    ∷ waiting_on_less
    ∷ waiting_on_more
    ∷ []
