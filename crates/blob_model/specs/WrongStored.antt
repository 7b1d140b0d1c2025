-- Wrong transcripts of worked sessions: blobs go to page files as they come. Each has another answer, another tally, or an answer of settling less or more.
-- Own.
use Rattle.std.specs.Prelude.{List, [], ◌∷◌, codes}
use Rattle.session_script.specs.declared.event.Event.TheVariants as events
use Rattle.session_script.specs.declared.event.Part.TheVariants as parts
use Rattle.blob_words.specs.declared.plan.Plan.TheVariants as plans
use Rattle.blob_words.specs.declared.status.Status.TheVariants as statuses
use Rattle.answer_text.specs.declared.answer.Answer.TheVariants as answers
use Rattle.blob_model.specs.Settle.{page_no}
use Rattle.blob_model.specs.Worked.{Worked, group, renderer, replaced}
use Rattle.blob_model.specs.RowsStored.{past_memory, stored_left, disk_full, memory_full, store_failed, long_page, long_page_failed}

-- past_memory: another plan
abbrev pub past_memory_other_plan : Worked
past_memory_other_plan = replaced 1 (group (events.Build (renderer 1) 1 [] (parts.Asked 9 ∷ [])) (answers.Planned (plans.Shared 3) ∷ []) 2 0 0 9) past_memory

-- past_memory: another tally
abbrev pub past_memory_other_tally : Worked
past_memory_other_tally = replaced 1 (group (events.Build (renderer 1) 1 [] (parts.Asked 9 ∷ [])) (answers.Planned (plans.File 2) ∷ []) 2 1 0 9) past_memory

-- past_memory: an answer of settling is missing
abbrev pub past_memory_less : Worked
past_memory_less = replaced 4 (group (events.Drop (renderer 1) 1) (answers.Good ∷ answers.Removed (page_no 0) ∷ []) 0 0 0 0) past_memory

-- past_memory: a further answer of settling
abbrev pub past_memory_more : Worked
past_memory_more = replaced 1 (group (events.Build (renderer 1) 1 [] (parts.Asked 9 ∷ [])) (answers.Planned (plans.File 2) ∷ answers.Done 1 ∷ []) 2 0 0 9)
    past_memory

-- stored_left: another plan
abbrev pub stored_left_other_plan : Worked
stored_left_other_plan = replaced 1 (group (events.Build (renderer 1) 1 [] (parts.Asked 9 ∷ [])) (answers.Planned (plans.Shared 3) ∷ []) 2 0 0 9) stored_left

-- stored_left: another tally
abbrev pub stored_left_other_tally : Worked
stored_left_other_tally = replaced 1 (group (events.Build (renderer 1) 1 [] (parts.Asked 9 ∷ [])) (answers.Planned (plans.File 2) ∷ []) 2 1 0 9) stored_left

-- stored_left: an answer of settling is missing
abbrev pub stored_left_less : Worked
stored_left_less = replaced 4 (group (events.Drop (renderer 1) 1) (answers.Good ∷ answers.Left (page_no 0) ∷ []) 0 0 0 0) stored_left

-- stored_left: a further answer of settling
abbrev pub stored_left_more : Worked
stored_left_more = replaced 1 (group (events.Build (renderer 1) 1 [] (parts.Asked 9 ∷ [])) (answers.Planned (plans.File 2) ∷ answers.Done 1 ∷ []) 2 0 0 9)
    stored_left

-- disk_full: another answer
abbrev pub disk_full_other_answer : Worked
disk_full_other_answer = replaced 0 (group (events.Spawn (renderer 1) (codes "https://a.test")) (answers.Nothing ∷ []) 0 0 0 0) disk_full

-- disk_full: another tally
abbrev pub disk_full_other_tally : Worked
disk_full_other_tally = replaced 1 (group (events.Build (renderer 1) 1 [] (parts.Asked 9 ∷ [])) (answers.Broken 1 statuses.OutOfMemory ∷ []) 0 1 0 0) disk_full

-- disk_full: a further answer of settling
abbrev pub disk_full_more : Worked
disk_full_more = replaced 1 (group (events.Build (renderer 1) 1 [] (parts.Asked 9 ∷ [])) (answers.Broken 1 statuses.OutOfMemory ∷ answers.Done 1 ∷ []) 0 0 0 0)
    disk_full

-- memory_full: another plan
abbrev pub memory_full_other_plan : Worked
memory_full_other_plan = replaced 1 (group (events.Build (renderer 1) 1 [] (parts.Asked 8 ∷ [])) (answers.Planned plans.Inline ∷ answers.Granted 1 ∷ []) 1 8 0
    0) memory_full

-- memory_full: another tally
abbrev pub memory_full_other_tally : Worked
memory_full_other_tally = replaced 1 (group (events.Build (renderer 1) 1 [] (parts.Asked 8 ∷ [])) (answers.Planned (plans.Shared 2) ∷ answers.Granted 1 ∷ []) 1
    9 0 0) memory_full

-- memory_full: an answer of settling is missing
abbrev pub memory_full_less : Worked
memory_full_less = replaced 2 (group events.Finish (answers.Good ∷ []) 0 0 0 0) memory_full

-- memory_full: a further answer of settling
abbrev pub memory_full_more : Worked
memory_full_more = replaced 1 (group (events.Build (renderer 1) 1 [] (parts.Asked 8 ∷ []))
    (answers.Planned (plans.Shared 2) ∷ answers.Granted 1 ∷ answers.Done 1 ∷ []) 1 8 0 0) memory_full

-- store_failed: another plan
abbrev pub store_failed_other_plan : Worked
store_failed_other_plan = replaced 1 (group (events.Build (renderer 1) 1 [] (parts.Asked 9 ∷ [])) (answers.Planned (plans.Shared 3) ∷ []) 2 0 0 9) store_failed

-- store_failed: another tally
abbrev pub store_failed_other_tally : Worked
store_failed_other_tally = replaced 1 (group (events.Build (renderer 1) 1 [] (parts.Asked 9 ∷ [])) (answers.Planned (plans.File 2) ∷ []) 2 1 0 9) store_failed

-- store_failed: an answer of settling is missing
abbrev pub store_failed_less : Worked
store_failed_less = replaced 3 (group (events.Segment (renderer 1) 1 1 (codes "i"))
    (answers.Taken 1 ∷ answers.StoreFailed (page_no 1) ∷ answers.Broken 1 statuses.FileWriteFailed ∷ []) 0 0 0 0) store_failed

-- store_failed: a further answer of settling
abbrev pub store_failed_more : Worked
store_failed_more = replaced 1 (group (events.Build (renderer 1) 1 [] (parts.Asked 9 ∷ [])) (answers.Planned (plans.File 2) ∷ answers.Done 1 ∷ []) 2 0 0 9)
    store_failed

-- long_page: another plan
abbrev pub long_page_other_plan : Worked
long_page_other_plan = replaced 1 (group (events.Build (renderer 1) 1 [] (parts.Asked 5 ∷ [])) (answers.Planned (plans.Shared 3) ∷ []) 1 0 0 5) long_page

-- long_page: another tally
abbrev pub long_page_other_tally : Worked
long_page_other_tally = replaced 1 (group (events.Build (renderer 1) 1 [] (parts.Asked 5 ∷ [])) (answers.Planned (plans.File 1) ∷ []) 1 1 0 5) long_page

-- long_page: an answer of settling is missing
abbrev pub long_page_less : Worked
long_page_less = replaced 3 (group events.Finish (answers.Good ∷ []) 0 0 0 0) long_page

-- long_page: a further answer of settling
abbrev pub long_page_more : Worked
long_page_more = replaced 1 (group (events.Build (renderer 1) 1 [] (parts.Asked 5 ∷ [])) (answers.Planned (plans.File 1) ∷ answers.Done 1 ∷ []) 1 0 0 5)
    long_page

-- long_page_failed: another plan
abbrev pub long_page_failed_other_plan : Worked
long_page_failed_other_plan = replaced 1 (group (events.Build (renderer 1) 1 [] (parts.Asked 5 ∷ [])) (answers.Planned (plans.Shared 3) ∷ []) 1 0 0 5)
    long_page_failed

-- long_page_failed: another tally
abbrev pub long_page_failed_other_tally : Worked
long_page_failed_other_tally = replaced 1 (group (events.Build (renderer 1) 1 [] (parts.Asked 5 ∷ [])) (answers.Planned (plans.File 1) ∷ []) 1 1 0 5)
    long_page_failed

-- long_page_failed: an answer of settling is missing
abbrev pub long_page_failed_less : Worked
long_page_failed_less = replaced 2 (group (events.Segment (renderer 1) 1 0 (codes "abcde")) (answers.Taken 0 ∷ answers.StoreFailed (page_no 0) ∷ []) 0 0 0 0)
    long_page_failed

-- long_page_failed: a further answer of settling
abbrev pub long_page_failed_more : Worked
long_page_failed_more = replaced 1 (group (events.Build (renderer 1) 1 [] (parts.Asked 5 ∷ [])) (answers.Planned (plans.File 1) ∷ answers.Done 1 ∷ []) 1 0 0 5)
    long_page_failed

-- all of these
abbrev pub wrong_stored : List Worked
wrong_stored =
    past_memory_other_plan
    ∷ past_memory_other_tally
    ∷ past_memory_less
    ∷ past_memory_more
    ∷ stored_left_other_plan
    ∷ stored_left_other_tally
    ∷ stored_left_less
    ∷ stored_left_more
    ∷ disk_full_other_answer
    ∷ disk_full_other_tally
    ∷ disk_full_more
    ∷ memory_full_other_plan
    ∷ memory_full_other_tally
    ∷ memory_full_less
    ∷ memory_full_more
    ∷ store_failed_other_plan
    ∷ store_failed_other_tally
    ∷ store_failed_less
    ∷ store_failed_more
    ∷ long_page_other_plan
    ∷ long_page_other_tally
    ∷ long_page_less
    ∷ long_page_more
    ∷ long_page_failed_other_plan
    ∷ long_page_failed_other_tally
    ∷ long_page_failed_less
    ∷ long_page_failed_more
    ∷ []
