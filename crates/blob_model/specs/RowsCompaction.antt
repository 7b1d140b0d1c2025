-- Worked sessions: thin page files. Own.
use Rattle.std.specs.Prelude.{[], ◌∷◌, codes, None}
use Rattle.session_script.specs.declared.event.Event.TheVariants as events
use Rattle.session_script.specs.declared.event.Part.TheVariants as parts
use Rattle.blob_words.specs.declared.plan.Plan.TheVariants as plans
use Rattle.answer_text.specs.declared.answer.Answer.TheVariants as answers
use Rattle.blob_words.specs.declared.version.Version.TheVariants.{One}
use Rattle.blob_model.specs.Settle.{page_no, job_no, piece_list}
use Rattle.blob_model.specs.Worked.{Worked, group, renderer, reader, no_handles, small_memory, seven_on_disk}

-- a thin page file is rewritten
abbrev pub moved : Worked
moved = record {
  outside = no_handles;
  version = One;
  limits = small_memory;
  groups =
      group (events.Spawn (renderer 1) (codes "https://a.test")) (answers.Good ∷ []) 0 0 0 0
      ∷ group (events.Build (renderer 1) 1 [] (parts.Embedded (1 ∷ []) ∷ [])) (answers.Planned plans.Inline ∷ answers.Done 1 ∷ []) 1 1 0 0
      ∷ group (events.Build (renderer 1) 2 [] (parts.Embedded (2 ∷ 3 ∷ 4 ∷ 5 ∷ 6 ∷ 7 ∷ []) ∷ [])) (answers.Planned plans.Inline ∷ answers.Done 2 ∷ []) 2 7 0 0
      ∷ group (events.Build (renderer 1) 3 [] (parts.Asked 8 ∷ [])) (answers.Planned (plans.Shared 2) ∷ answers.Job (job_no 0) (piece_list (0 ∷ 1 ∷ [])) ∷ []) 2
      7 0 7
      ∷ group (events.Disk (job_no 0)) (answers.Paged (job_no 0) (page_no 0) (piece_list (0 ∷ 1 ∷ [])) ∷ answers.Granted 3 ∷ []) 3 8 1 7
      ∷ group (events.Drop (renderer 1) 2) (answers.Good ∷ answers.Compacting (job_no 1) (page_no 0) (piece_list (0 ∷ [])) ∷ []) 2 8 1 8
      ∷ group (events.Disk (job_no 1)) (answers.Moved (job_no 1) (page_no 1) (piece_list (0 ∷ [])) ∷ answers.Removed (page_no 0) ∷ []) 2 8 1 1
      ∷ group (events.Read (renderer 1) (reader 1) 1 0 None) (answers.Opened (reader 1) 1 [] ∷ []) 2 8 1 1
      ∷ group (events.Step (reader 1)) (answers.Given (reader 1) (1 ∷ []) ∷ []) 2 8 1 1
      ∷ group events.Finish (answers.Good ∷ answers.Dropped 3 ∷ answers.Removed (page_no 1) ∷ []) 0 0 0 0
      ∷ [];
}

-- the old page file cannot be read
abbrev pub move_unread : Worked
move_unread = record {
  outside = no_handles;
  version = One;
  limits = small_memory;
  groups =
      group (events.Spawn (renderer 1) (codes "https://a.test")) (answers.Good ∷ []) 0 0 0 0
      ∷ group (events.Build (renderer 1) 1 [] (parts.Embedded (1 ∷ []) ∷ [])) (answers.Planned plans.Inline ∷ answers.Done 1 ∷ []) 1 1 0 0
      ∷ group (events.Build (renderer 1) 2 [] (parts.Embedded (2 ∷ 3 ∷ 4 ∷ 5 ∷ 6 ∷ 7 ∷ []) ∷ [])) (answers.Planned plans.Inline ∷ answers.Done 2 ∷ []) 2 7 0 0
      ∷ group (events.Build (renderer 1) 3 [] (parts.Asked 8 ∷ [])) (answers.Planned (plans.Shared 2) ∷ answers.Job (job_no 0) (piece_list (0 ∷ 1 ∷ [])) ∷ []) 2
      7 0 7
      ∷ group (events.Disk (job_no 0)) (answers.Paged (job_no 0) (page_no 0) (piece_list (0 ∷ 1 ∷ [])) ∷ answers.Granted 3 ∷ []) 3 8 1 7
      ∷ group (events.Drop (renderer 1) 2) (answers.Good ∷ answers.Compacting (job_no 1) (page_no 0) (piece_list (0 ∷ [])) ∷ []) 2 8 1 8
      ∷ group (events.Disk (job_no 1)) (answers.MoveUnread (job_no 1) (page_no 0) ∷ []) 2 8 1 7
      ∷ group events.Finish (answers.Good ∷ answers.Dropped 3 ∷ answers.Removed (page_no 0) ∷ []) 0 0 0 0
      ∷ [];
}

-- the new page file cannot be written
abbrev pub move_failed : Worked
move_failed = record {
  outside = no_handles;
  version = One;
  limits = small_memory;
  groups =
      group (events.Spawn (renderer 1) (codes "https://a.test")) (answers.Good ∷ []) 0 0 0 0
      ∷ group (events.Build (renderer 1) 1 [] (parts.Embedded (1 ∷ []) ∷ [])) (answers.Planned plans.Inline ∷ answers.Done 1 ∷ []) 1 1 0 0
      ∷ group (events.Build (renderer 1) 2 [] (parts.Embedded (2 ∷ 3 ∷ 4 ∷ 5 ∷ 6 ∷ 7 ∷ []) ∷ [])) (answers.Planned plans.Inline ∷ answers.Done 2 ∷ []) 2 7 0 0
      ∷ group (events.Build (renderer 1) 3 [] (parts.Asked 8 ∷ [])) (answers.Planned (plans.Shared 2) ∷ answers.Job (job_no 0) (piece_list (0 ∷ 1 ∷ [])) ∷ []) 2
      7 0 7
      ∷ group (events.Disk (job_no 0)) (answers.Paged (job_no 0) (page_no 0) (piece_list (0 ∷ 1 ∷ [])) ∷ answers.Granted 3 ∷ []) 3 8 1 7
      ∷ group (events.Drop (renderer 1) 2) (answers.Good ∷ answers.Compacting (job_no 1) (page_no 0) (piece_list (0 ∷ [])) ∷ []) 2 8 1 8
      ∷ group (events.Disk (job_no 1)) (answers.MoveFailed (job_no 1) (page_no 1) ∷ []) 2 8 1 7
      ∷ group events.Finish (answers.Good ∷ answers.Dropped 3 ∷ answers.Removed (page_no 0) ∷ []) 0 0 0 0
      ∷ [];
}

-- the disk has no room for it
abbrev pub no_room : Worked
no_room = record {
  outside = no_handles;
  version = One;
  limits = seven_on_disk;
  groups =
      group (events.Spawn (renderer 1) (codes "https://a.test")) (answers.Good ∷ []) 0 0 0 0
      ∷ group (events.Build (renderer 1) 1 [] (parts.Embedded (1 ∷ []) ∷ [])) (answers.Planned plans.Inline ∷ answers.Done 1 ∷ []) 1 1 0 0
      ∷ group (events.Build (renderer 1) 2 [] (parts.Embedded (2 ∷ 3 ∷ 4 ∷ 5 ∷ 6 ∷ 7 ∷ []) ∷ [])) (answers.Planned plans.Inline ∷ answers.Done 2 ∷ []) 2 7 0 0
      ∷ group (events.Build (renderer 1) 3 [] (parts.Asked 8 ∷ [])) (answers.Planned (plans.Shared 2) ∷ answers.Job (job_no 0) (piece_list (0 ∷ 1 ∷ [])) ∷ []) 2
      7 0 7
      ∷ group (events.Disk (job_no 0)) (answers.Paged (job_no 0) (page_no 0) (piece_list (0 ∷ 1 ∷ [])) ∷ answers.Granted 3 ∷ []) 3 8 1 7
      ∷ group (events.Drop (renderer 1) 2) (answers.Good ∷ []) 2 8 1 7
      ∷ group events.Finish (answers.Good ∷ answers.Dropped 3 ∷ answers.Removed (page_no 0) ∷ []) 0 0 0 0
      ∷ [];
}

-- its pieces go before it is done
abbrev pub nothing_left : Worked
nothing_left = record {
  outside = no_handles;
  version = One;
  limits = small_memory;
  groups =
      group (events.Spawn (renderer 1) (codes "https://a.test")) (answers.Good ∷ []) 0 0 0 0
      ∷ group (events.Build (renderer 1) 1 [] (parts.Embedded (1 ∷ []) ∷ [])) (answers.Planned plans.Inline ∷ answers.Done 1 ∷ []) 1 1 0 0
      ∷ group (events.Build (renderer 1) 2 [] (parts.Embedded (2 ∷ 3 ∷ 4 ∷ 5 ∷ 6 ∷ 7 ∷ []) ∷ [])) (answers.Planned plans.Inline ∷ answers.Done 2 ∷ []) 2 7 0 0
      ∷ group (events.Build (renderer 1) 3 [] (parts.Asked 8 ∷ [])) (answers.Planned (plans.Shared 2) ∷ answers.Job (job_no 0) (piece_list (0 ∷ 1 ∷ [])) ∷ []) 2
      7 0 7
      ∷ group (events.Disk (job_no 0)) (answers.Paged (job_no 0) (page_no 0) (piece_list (0 ∷ 1 ∷ [])) ∷ answers.Granted 3 ∷ []) 3 8 1 7
      ∷ group (events.Drop (renderer 1) 2) (answers.Good ∷ answers.Compacting (job_no 1) (page_no 0) (piece_list (0 ∷ [])) ∷ []) 2 8 1 8
      ∷ group (events.Drop (renderer 1) 1) (answers.Good ∷ answers.Removed (page_no 0) ∷ []) 1 8 0 0
      ∷ group (events.Disk (job_no 1)) (answers.Empty (job_no 1) ∷ []) 1 8 0 0
      ∷ group events.Finish (answers.Good ∷ answers.Dropped 3 ∷ []) 0 0 0 0
      ∷ [];
}
