-- Wrong transcripts of worked sessions: thin page files. Each has another answer, another tally, or an answer of settling less or more. Own.
use Rattle.std.specs.Prelude.{List, [], ◌∷◌}
use Rattle.session_script.specs.declared.event.Event.TheVariants as events
use Rattle.session_script.specs.declared.event.Part.TheVariants as parts
use Rattle.blob_words.specs.declared.plan.Plan.TheVariants as plans
use Rattle.answer_text.specs.declared.answer.Answer.TheVariants as answers
use Rattle.blob_model.specs.Settle.{page_no, job_no, piece_list}
use Rattle.blob_model.specs.Worked.{Worked, group, renderer, reader, replaced}
use Rattle.blob_model.specs.RowsCompaction.{moved, move_unread, move_failed, no_room, nothing_left}

-- moved: another byte
abbrev pub moved_other_byte : Worked
moved_other_byte = replaced 8 (group (events.Step (reader 1)) (answers.Given (reader 1) (2 ∷ []) ∷ []) 2 8 1 1) moved

-- moved: another tally
abbrev pub moved_other_tally : Worked
moved_other_tally = replaced 1 (group (events.Build (renderer 1) 1 [] (parts.Embedded (1 ∷ []) ∷ [])) (answers.Planned plans.Inline ∷ answers.Done 1 ∷ []) 1 2 0
    0) moved

-- moved: an answer of settling is missing
abbrev pub moved_less : Worked
moved_less = replaced 9 (group events.Finish (answers.Good ∷ answers.Dropped 3 ∷ []) 0 0 0 0) moved

-- moved: a further answer of settling
abbrev pub moved_more : Worked
moved_more = replaced 1 (group (events.Build (renderer 1) 1 [] (parts.Embedded (1 ∷ []) ∷ []))
    (answers.Planned plans.Inline ∷ answers.Done 1 ∷ answers.Dropped 1 ∷ []) 1 1 0 0) moved

-- moved: the whole page file is copied
abbrev pub moved_whole_copied : Worked
moved_whole_copied = replaced 6 (group (events.Disk (job_no 1)) (answers.Moved (job_no 1) (page_no 1) (piece_list (0 ∷ 1 ∷ [])) ∷ answers.Removed (page_no 0)
    ∷ []) 2 8 1 7) moved

-- move_unread: another plan
abbrev pub move_unread_other_plan : Worked
move_unread_other_plan = replaced 1 (group (events.Build (renderer 1) 1 [] (parts.Embedded (1 ∷ []) ∷ []))
    (answers.Planned (plans.Shared 1) ∷ answers.Done 1 ∷ []) 1 1 0 0) move_unread

-- move_unread: another tally
abbrev pub move_unread_other_tally : Worked
move_unread_other_tally = replaced 1 (group (events.Build (renderer 1) 1 [] (parts.Embedded (1 ∷ []) ∷ [])) (answers.Planned plans.Inline ∷ answers.Done 1 ∷ [])
    1 2 0 0) move_unread

-- move_unread: an answer of settling is missing
abbrev pub move_unread_less : Worked
move_unread_less = replaced 7 (group events.Finish (answers.Good ∷ answers.Dropped 3 ∷ []) 0 0 0 0) move_unread

-- move_unread: a further answer of settling
abbrev pub move_unread_more : Worked
move_unread_more = replaced 1 (group (events.Build (renderer 1) 1 [] (parts.Embedded (1 ∷ []) ∷ []))
    (answers.Planned plans.Inline ∷ answers.Done 1 ∷ answers.Dropped 1 ∷ []) 1 1 0 0) move_unread

-- move_failed: another plan
abbrev pub move_failed_other_plan : Worked
move_failed_other_plan = replaced 1 (group (events.Build (renderer 1) 1 [] (parts.Embedded (1 ∷ []) ∷ []))
    (answers.Planned (plans.Shared 1) ∷ answers.Done 1 ∷ []) 1 1 0 0) move_failed

-- move_failed: another tally
abbrev pub move_failed_other_tally : Worked
move_failed_other_tally = replaced 1 (group (events.Build (renderer 1) 1 [] (parts.Embedded (1 ∷ []) ∷ [])) (answers.Planned plans.Inline ∷ answers.Done 1 ∷ [])
    1 2 0 0) move_failed

-- move_failed: an answer of settling is missing
abbrev pub move_failed_less : Worked
move_failed_less = replaced 7 (group events.Finish (answers.Good ∷ answers.Dropped 3 ∷ []) 0 0 0 0) move_failed

-- move_failed: a further answer of settling
abbrev pub move_failed_more : Worked
move_failed_more = replaced 1 (group (events.Build (renderer 1) 1 [] (parts.Embedded (1 ∷ []) ∷ []))
    (answers.Planned plans.Inline ∷ answers.Done 1 ∷ answers.Dropped 1 ∷ []) 1 1 0 0) move_failed

-- no_room: another plan
abbrev pub no_room_other_plan : Worked
no_room_other_plan = replaced 1 (group (events.Build (renderer 1) 1 [] (parts.Embedded (1 ∷ []) ∷ [])) (answers.Planned (plans.Shared 1) ∷ answers.Done 1 ∷ [])
    1 1 0 0) no_room

-- no_room: another tally
abbrev pub no_room_other_tally : Worked
no_room_other_tally = replaced 1 (group (events.Build (renderer 1) 1 [] (parts.Embedded (1 ∷ []) ∷ [])) (answers.Planned plans.Inline ∷ answers.Done 1 ∷ []) 1 2
    0 0) no_room

-- no_room: an answer of settling is missing
abbrev pub no_room_less : Worked
no_room_less = replaced 6 (group events.Finish (answers.Good ∷ answers.Dropped 3 ∷ []) 0 0 0 0) no_room

-- no_room: a further answer of settling
abbrev pub no_room_more : Worked
no_room_more = replaced 1 (group (events.Build (renderer 1) 1 [] (parts.Embedded (1 ∷ []) ∷ []))
    (answers.Planned plans.Inline ∷ answers.Done 1 ∷ answers.Dropped 1 ∷ []) 1 1 0 0) no_room

-- nothing_left: another plan
abbrev pub nothing_left_other_plan : Worked
nothing_left_other_plan = replaced 1 (group (events.Build (renderer 1) 1 [] (parts.Embedded (1 ∷ []) ∷ []))
    (answers.Planned (plans.Shared 1) ∷ answers.Done 1 ∷ []) 1 1 0 0) nothing_left

-- nothing_left: another tally
abbrev pub nothing_left_other_tally : Worked
nothing_left_other_tally = replaced 1 (group (events.Build (renderer 1) 1 [] (parts.Embedded (1 ∷ []) ∷ []))
    (answers.Planned plans.Inline ∷ answers.Done 1 ∷ []) 1 2 0 0) nothing_left

-- nothing_left: an answer of settling is missing
abbrev pub nothing_left_less : Worked
nothing_left_less = replaced 8 (group events.Finish (answers.Good ∷ []) 0 0 0 0) nothing_left

-- nothing_left: a further answer of settling
abbrev pub nothing_left_more : Worked
nothing_left_more = replaced 1 (group (events.Build (renderer 1) 1 [] (parts.Embedded (1 ∷ []) ∷ []))
    (answers.Planned plans.Inline ∷ answers.Done 1 ∷ answers.Dropped 1 ∷ []) 1 1 0 0) nothing_left

-- all of these
abbrev pub wrong_compaction : List Worked
wrong_compaction =
    moved_other_byte
    ∷ moved_other_tally
    ∷ moved_less
    ∷ moved_more
    ∷ moved_whole_copied
    ∷ move_unread_other_plan
    ∷ move_unread_other_tally
    ∷ move_unread_less
    ∷ move_unread_more
    ∷ move_failed_other_plan
    ∷ move_failed_other_tally
    ∷ move_failed_less
    ∷ move_failed_more
    ∷ no_room_other_plan
    ∷ no_room_other_tally
    ∷ no_room_less
    ∷ no_room_more
    ∷ nothing_left_other_plan
    ∷ nothing_left_other_tally
    ∷ nothing_left_less
    ∷ nothing_left_more
    ∷ []
