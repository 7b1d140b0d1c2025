-- Wrong transcripts of worked sessions: pieces go to page files. Each has another answer, another tally, or an answer of settling less or more. Own.
use Rattle.std.specs.Prelude.{List, [], ◌∷◌, codes}
use Rattle.session_script.specs.declared.event.Event.TheVariants as events
use Rattle.session_script.specs.declared.event.Part.TheVariants as parts
use Rattle.blob_words.specs.declared.plan.Plan.TheVariants as plans
use Rattle.answer_text.specs.declared.answer.Answer.TheVariants as answers
use Rattle.blob_model.specs.Settle.{page_no, job_no, piece_list}
use Rattle.blob_model.specs.Worked.{Worked, group, renderer, reader, replaced}
use Rattle.blob_model.specs.RowsPaging.{page_job, page_unread, page_failed, page_left, job_lost}

-- page_job: another byte
abbrev pub page_job_other_byte : Worked
page_job_other_byte = replaced 9 (group (events.Step (reader 2)) (answers.Given (reader 2) (codes "abce") ∷ []) 2 5 1 4) page_job

-- page_job: another tally
abbrev pub page_job_other_tally : Worked
page_job_other_tally = replaced 1 (group (events.Build (renderer 1) 1 [] (parts.Embedded (codes "abcd") ∷ []))
    (answers.Planned plans.Inline ∷ answers.Done 1 ∷ []) 1 5 0 0) page_job

-- page_job: an answer of settling is missing
abbrev pub page_job_less : Worked
page_job_less = replaced 14 (group events.Finish (answers.Good ∷ []) 0 0 0 0) page_job

-- page_job: a further answer of settling
abbrev pub page_job_more : Worked
page_job_more = replaced 1 (group (events.Build (renderer 1) 1 [] (parts.Embedded (codes "abcd") ∷ []))
    (answers.Planned plans.Inline ∷ answers.Done 1 ∷ answers.Dropped 1 ∷ []) 1 4 0 0) page_job

-- page_job: the latest use is paged first
abbrev pub page_job_latest_first : Worked
page_job_latest_first = replaced 4 (group (events.Build (renderer 1) 3 [] (parts.Asked 5 ∷ []))
    (answers.Planned (plans.Shared 2) ∷ answers.Job (job_no 0) (piece_list (1 ∷ 0 ∷ [])) ∷ []) 2 8 0 8) page_job

-- page_job: pieces are paged when the job starts
abbrev pub page_job_paged_too_early : Worked
page_job_paged_too_early = replaced 4 (group (events.Build (renderer 1) 3 [] (parts.Asked 5 ∷ []))
    (answers.Planned (plans.Shared 2) ∷ answers.Job (job_no 0) (piece_list (0 ∷ 1 ∷ [])) ∷ []) 2 0 0 8) page_job

-- page_job: a paged piece is kept in memory too
abbrev pub page_job_copy_kept : Worked
page_job_copy_kept = replaced 7 (group (events.Disk (job_no 0)) (answers.Paged (job_no 0) (page_no 0) (piece_list (0 ∷ [])) ∷ []) 1 4 1 4) page_job

-- page_unread: another byte
abbrev pub page_unread_other_byte : Worked
page_unread_other_byte = replaced 5 (group (events.Step (reader 1)) (answers.Given (reader 1) (codes "abce") ∷ []) 2 8 0 8) page_unread

-- page_unread: another tally
abbrev pub page_unread_other_tally : Worked
page_unread_other_tally = replaced 1 (group (events.Build (renderer 1) 1 [] (parts.Embedded (codes "abcd") ∷ []))
    (answers.Planned plans.Inline ∷ answers.Done 1 ∷ []) 1 5 0 0) page_unread

-- page_unread: an answer of settling is missing
abbrev pub page_unread_less : Worked
page_unread_less = replaced 14 (group events.Finish (answers.Good ∷ []) 0 0 0 0) page_unread

-- page_unread: a further answer of settling
abbrev pub page_unread_more : Worked
page_unread_more = replaced 1 (group (events.Build (renderer 1) 1 [] (parts.Embedded (codes "abcd") ∷ []))
    (answers.Planned plans.Inline ∷ answers.Done 1 ∷ answers.Dropped 1 ∷ []) 1 4 0 0) page_unread

-- page_failed: another byte
abbrev pub page_failed_other_byte : Worked
page_failed_other_byte = replaced 9 (group (events.Step (reader 2)) (answers.Given (reader 2) (codes "abce") ∷ []) 1 4 0 0) page_failed

-- page_failed: another tally
abbrev pub page_failed_other_tally : Worked
page_failed_other_tally = replaced 1 (group (events.Build (renderer 1) 1 [] (parts.Embedded (codes "abcd") ∷ []))
    (answers.Planned plans.Inline ∷ answers.Done 1 ∷ []) 1 5 0 0) page_failed

-- page_failed: an answer of settling is missing
abbrev pub page_failed_less : Worked
page_failed_less = replaced 11 (group events.Finish (answers.Good ∷ []) 0 0 0 0) page_failed

-- page_failed: a further answer of settling
abbrev pub page_failed_more : Worked
page_failed_more = replaced 1 (group (events.Build (renderer 1) 1 [] (parts.Embedded (codes "abcd") ∷ []))
    (answers.Planned plans.Inline ∷ answers.Done 1 ∷ answers.Dropped 1 ∷ []) 1 4 0 0) page_failed

-- page_failed: a failed write drops the pieces
abbrev pub page_failed_pieces_dropped : Worked
page_failed_pieces_dropped = replaced 7 (group (events.Disk (job_no 0)) (answers.PageFailed (job_no 0) (page_no 0) ∷ answers.Granted 3 ∷ []) 1 5 0 0)
    page_failed

-- page_failed: and their bytes are gone
abbrev pub page_failed_bytes_gone : Worked
page_failed_bytes_gone = replaced 9 (group (events.Step (reader 2)) (answers.PageFault (reader 2) (page_no 0) ∷ []) 1 4 0 0) page_failed

-- page_left: another byte
abbrev pub page_left_other_byte : Worked
page_left_other_byte = replaced 9 (group (events.Step (reader 2)) (answers.Given (reader 2) (codes "abce") ∷ []) 2 5 1 4) page_left

-- page_left: another tally
abbrev pub page_left_other_tally : Worked
page_left_other_tally = replaced 1 (group (events.Build (renderer 1) 1 [] (parts.Embedded (codes "abcd") ∷ []))
    (answers.Planned plans.Inline ∷ answers.Done 1 ∷ []) 1 5 0 0) page_left

-- page_left: an answer of settling is missing
abbrev pub page_left_less : Worked
page_left_less = replaced 14 (group events.Finish (answers.Good ∷ []) 0 0 0 0) page_left

-- page_left: a further answer of settling
abbrev pub page_left_more : Worked
page_left_more = replaced 1 (group (events.Build (renderer 1) 1 [] (parts.Embedded (codes "abcd") ∷ []))
    (answers.Planned plans.Inline ∷ answers.Done 1 ∷ answers.Dropped 1 ∷ []) 1 4 0 0) page_left

-- job_lost: another plan
abbrev pub job_lost_other_plan : Worked
job_lost_other_plan = replaced 1 (group (events.Build (renderer 1) 1 [] (parts.Embedded (codes "abcd") ∷ []))
    (answers.Planned (plans.Shared 1) ∷ answers.Done 1 ∷ []) 1 4 0 0) job_lost

-- job_lost: another tally
abbrev pub job_lost_other_tally : Worked
job_lost_other_tally = replaced 1 (group (events.Build (renderer 1) 1 [] (parts.Embedded (codes "abcd") ∷ []))
    (answers.Planned plans.Inline ∷ answers.Done 1 ∷ []) 1 5 0 0) job_lost

-- job_lost: an answer of settling is missing
abbrev pub job_lost_less : Worked
job_lost_less = replaced 10 (group events.Finish (answers.Good ∷ []) 0 0 0 0) job_lost

-- job_lost: a further answer of settling
abbrev pub job_lost_more : Worked
job_lost_more = replaced 1 (group (events.Build (renderer 1) 1 [] (parts.Embedded (codes "abcd") ∷ []))
    (answers.Planned plans.Inline ∷ answers.Done 1 ∷ answers.Dropped 1 ∷ []) 1 4 0 0) job_lost

-- all of these
abbrev pub wrong_paging : List Worked
wrong_paging =
    page_job_other_byte
    ∷ page_job_other_tally
    ∷ page_job_less
    ∷ page_job_more
    ∷ page_job_latest_first
    ∷ page_job_paged_too_early
    ∷ page_job_copy_kept
    ∷ page_unread_other_byte
    ∷ page_unread_other_tally
    ∷ page_unread_less
    ∷ page_unread_more
    ∷ page_failed_other_byte
    ∷ page_failed_other_tally
    ∷ page_failed_less
    ∷ page_failed_more
    ∷ page_failed_pieces_dropped
    ∷ page_failed_bytes_gone
    ∷ page_left_other_byte
    ∷ page_left_other_tally
    ∷ page_left_less
    ∷ page_left_more
    ∷ job_lost_other_plan
    ∷ job_lost_other_tally
    ∷ job_lost_less
    ∷ job_lost_more
    ∷ []
