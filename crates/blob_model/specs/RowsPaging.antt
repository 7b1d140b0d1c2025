-- Worked sessions: pieces go to page files. Own.
use Rattle.std.specs.Prelude.{[], ◌∷◌, codes, Some}
use Rattle.session_script.specs.declared.event.Event.TheVariants as events
use Rattle.session_script.specs.declared.event.Part.TheVariants as parts
use Rattle.blob_words.specs.declared.plan.Plan.TheVariants as plans
use Rattle.blob_words.specs.declared.status.Status.TheVariants as statuses
use Rattle.answer_text.specs.declared.answer.Answer.TheVariants as answers
use Rattle.answer_text.specs.declared.refusal.Refusal.TheVariants as refusals
use Rattle.blob_words.specs.declared.version.Version.TheVariants.{One}
use Rattle.blob_model.specs.Settle.{page_no, job_no, piece_list}
use Rattle.blob_model.specs.Worked.{Worked, group, renderer, reader, no_handles, small_memory}

-- a page job
abbrev pub page_job : Worked
page_job = record {
  outside = no_handles;
  version = One;
  limits = small_memory;
  groups =
      group (events.Spawn (renderer 1) (codes "https://a.test")) (answers.Good ∷ []) 0 0 0 0
      ∷ group (events.Build (renderer 1) 1 [] (parts.Embedded (codes "abcd") ∷ [])) (answers.Planned plans.Inline ∷ answers.Done 1 ∷ []) 1 4 0 0
      ∷ group (events.Build (renderer 1) 2 [] (parts.Embedded (codes "efgh") ∷ [])) (answers.Planned plans.Inline ∷ answers.Done 2 ∷ []) 2 8 0 0
      ∷ group (events.Read (renderer 1) (reader 1) 1 0 (Some 4)) (answers.Opened (reader 1) 4 [] ∷ []) 2 8 0 0
      ∷ group (events.Build (renderer 1) 3 [] (parts.Asked 5 ∷ [])) (answers.Planned (plans.Shared 2) ∷ answers.Job (job_no 0) (piece_list (0 ∷ 1 ∷ [])) ∷ []) 2
      8 0 8
      ∷ group (events.Step (reader 1)) (answers.Given (reader 1) (codes "abcd") ∷ []) 2 8 0 8
      ∷ group (events.Drop (renderer 1) 2) (answers.Good ∷ []) 1 4 0 4
      ∷ group (events.Disk (job_no 0)) (answers.Paged (job_no 0) (page_no 0) (piece_list (0 ∷ [])) ∷ answers.Granted 3 ∷ []) 2 5 1 4
      ∷ group (events.Read (renderer 1) (reader 2) 1 0 (Some 4)) (answers.Opened (reader 2) 4 [] ∷ []) 2 5 1 4
      ∷ group (events.Step (reader 2)) (answers.Given (reader 2) (codes "abcd") ∷ []) 2 5 1 4
      ∷ group (events.Step (reader 1)) (answers.Ended (reader 1) statuses.Done ∷ []) 2 5 1 4
      ∷ group (events.Step (reader 2)) (answers.Ended (reader 2) statuses.Done ∷ []) 2 5 1 4
      ∷ group (events.Drop (renderer 1) 1) (answers.Good ∷ answers.Removed (page_no 0) ∷ []) 1 5 0 0
      ∷ group (events.Disk (job_no 0)) (answers.Refused (refusals.NoJob (job_no 0)) ∷ []) 1 5 0 0
      ∷ group events.Finish (answers.Good ∷ answers.Dropped 3 ∷ []) 0 0 0 0
      ∷ [];
}

-- the page file cannot be read
abbrev pub page_unread : Worked
page_unread = record {
  outside = no_handles;
  version = One;
  limits = small_memory;
  groups =
      group (events.Spawn (renderer 1) (codes "https://a.test")) (answers.Good ∷ []) 0 0 0 0
      ∷ group (events.Build (renderer 1) 1 [] (parts.Embedded (codes "abcd") ∷ [])) (answers.Planned plans.Inline ∷ answers.Done 1 ∷ []) 1 4 0 0
      ∷ group (events.Build (renderer 1) 2 [] (parts.Embedded (codes "efgh") ∷ [])) (answers.Planned plans.Inline ∷ answers.Done 2 ∷ []) 2 8 0 0
      ∷ group (events.Read (renderer 1) (reader 1) 1 0 (Some 4)) (answers.Opened (reader 1) 4 [] ∷ []) 2 8 0 0
      ∷ group (events.Build (renderer 1) 3 [] (parts.Asked 5 ∷ [])) (answers.Planned (plans.Shared 2) ∷ answers.Job (job_no 0) (piece_list (0 ∷ 1 ∷ [])) ∷ []) 2
      8 0 8
      ∷ group (events.Step (reader 1)) (answers.Given (reader 1) (codes "abcd") ∷ []) 2 8 0 8
      ∷ group (events.Drop (renderer 1) 2) (answers.Good ∷ []) 1 4 0 4
      ∷ group (events.Disk (job_no 0)) (answers.Paged (job_no 0) (page_no 0) (piece_list (0 ∷ [])) ∷ answers.Granted 3 ∷ []) 2 5 1 4
      ∷ group (events.Read (renderer 1) (reader 2) 1 0 (Some 4)) (answers.Opened (reader 2) 4 [] ∷ []) 2 5 1 4
      ∷ group (events.Step (reader 2)) (answers.PageFault (reader 2) (page_no 0) ∷ []) 2 5 1 4
      ∷ group (events.Step (reader 1)) (answers.Ended (reader 1) statuses.Done ∷ []) 2 5 1 4
      ∷ group (events.Step (reader 2)) (answers.Refused (refusals.NoReader (reader 2)) ∷ []) 2 5 1 4
      ∷ group (events.Drop (renderer 1) 1) (answers.Good ∷ answers.Removed (page_no 0) ∷ []) 1 5 0 0
      ∷ group (events.Disk (job_no 0)) (answers.Refused (refusals.NoJob (job_no 0)) ∷ []) 1 5 0 0
      ∷ group events.Finish (answers.Good ∷ answers.Dropped 3 ∷ []) 0 0 0 0
      ∷ [];
}

-- the page file cannot be written
abbrev pub page_failed : Worked
page_failed = record {
  outside = no_handles;
  version = One;
  limits = small_memory;
  groups =
      group (events.Spawn (renderer 1) (codes "https://a.test")) (answers.Good ∷ []) 0 0 0 0
      ∷ group (events.Build (renderer 1) 1 [] (parts.Embedded (codes "abcd") ∷ [])) (answers.Planned plans.Inline ∷ answers.Done 1 ∷ []) 1 4 0 0
      ∷ group (events.Build (renderer 1) 2 [] (parts.Embedded (codes "efgh") ∷ [])) (answers.Planned plans.Inline ∷ answers.Done 2 ∷ []) 2 8 0 0
      ∷ group (events.Read (renderer 1) (reader 1) 1 0 (Some 4)) (answers.Opened (reader 1) 4 [] ∷ []) 2 8 0 0
      ∷ group (events.Build (renderer 1) 3 [] (parts.Asked 5 ∷ [])) (answers.Planned (plans.Shared 2) ∷ answers.Job (job_no 0) (piece_list (0 ∷ 1 ∷ [])) ∷ []) 2
      8 0 8
      ∷ group (events.Step (reader 1)) (answers.Given (reader 1) (codes "abcd") ∷ []) 2 8 0 8
      ∷ group (events.Drop (renderer 1) 2) (answers.Good ∷ []) 1 4 0 4
      ∷ group (events.Disk (job_no 0)) (answers.PageFailed (job_no 0) (page_no 0) ∷ []) 1 4 0 0
      ∷ group (events.Read (renderer 1) (reader 2) 1 0 (Some 4)) (answers.Opened (reader 2) 4 [] ∷ []) 1 4 0 0
      ∷ group (events.Step (reader 2)) (answers.Given (reader 2) (codes "abcd") ∷ []) 1 4 0 0
      ∷ group (events.Stat (renderer 1) 3) (answers.Told 3 5 [] statuses.PendingQuota ∷ []) 1 4 0 0
      ∷ group events.Finish (answers.Good ∷ answers.Dropped 3 ∷ []) 0 0 0 0
      ∷ [];
}

-- the page file cannot be removed
abbrev pub page_left : Worked
page_left = record {
  outside = no_handles;
  version = One;
  limits = small_memory;
  groups =
      group (events.Spawn (renderer 1) (codes "https://a.test")) (answers.Good ∷ []) 0 0 0 0
      ∷ group (events.Build (renderer 1) 1 [] (parts.Embedded (codes "abcd") ∷ [])) (answers.Planned plans.Inline ∷ answers.Done 1 ∷ []) 1 4 0 0
      ∷ group (events.Build (renderer 1) 2 [] (parts.Embedded (codes "efgh") ∷ [])) (answers.Planned plans.Inline ∷ answers.Done 2 ∷ []) 2 8 0 0
      ∷ group (events.Read (renderer 1) (reader 1) 1 0 (Some 4)) (answers.Opened (reader 1) 4 [] ∷ []) 2 8 0 0
      ∷ group (events.Build (renderer 1) 3 [] (parts.Asked 5 ∷ [])) (answers.Planned (plans.Shared 2) ∷ answers.Job (job_no 0) (piece_list (0 ∷ 1 ∷ [])) ∷ []) 2
      8 0 8
      ∷ group (events.Step (reader 1)) (answers.Given (reader 1) (codes "abcd") ∷ []) 2 8 0 8
      ∷ group (events.Drop (renderer 1) 2) (answers.Good ∷ []) 1 4 0 4
      ∷ group (events.Disk (job_no 0)) (answers.Paged (job_no 0) (page_no 0) (piece_list (0 ∷ [])) ∷ answers.Granted 3 ∷ []) 2 5 1 4
      ∷ group (events.Read (renderer 1) (reader 2) 1 0 (Some 4)) (answers.Opened (reader 2) 4 [] ∷ []) 2 5 1 4
      ∷ group (events.Step (reader 2)) (answers.Given (reader 2) (codes "abcd") ∷ []) 2 5 1 4
      ∷ group (events.Step (reader 1)) (answers.Ended (reader 1) statuses.Done ∷ []) 2 5 1 4
      ∷ group (events.Step (reader 2)) (answers.Ended (reader 2) statuses.Done ∷ []) 2 5 1 4
      ∷ group (events.Drop (renderer 1) 1) (answers.Good ∷ answers.Left (page_no 0) ∷ []) 1 5 0 0
      ∷ group (events.Disk (job_no 0)) (answers.Refused (refusals.NoJob (job_no 0)) ∷ []) 1 5 0 0
      ∷ group events.Finish (answers.Good ∷ answers.Dropped 3 ∷ []) 0 0 0 0
      ∷ [];
}

-- a page job is lost
abbrev pub job_lost : Worked
job_lost = record {
  outside = no_handles;
  version = One;
  limits = small_memory;
  groups =
      group (events.Spawn (renderer 1) (codes "https://a.test")) (answers.Good ∷ []) 0 0 0 0
      ∷ group (events.Build (renderer 1) 1 [] (parts.Embedded (codes "abcd") ∷ [])) (answers.Planned plans.Inline ∷ answers.Done 1 ∷ []) 1 4 0 0
      ∷ group (events.Build (renderer 1) 2 [] (parts.Embedded (codes "efgh") ∷ [])) (answers.Planned plans.Inline ∷ answers.Done 2 ∷ []) 2 8 0 0
      ∷ group (events.Read (renderer 1) (reader 1) 1 0 (Some 4)) (answers.Opened (reader 1) 4 [] ∷ []) 2 8 0 0
      ∷ group (events.Build (renderer 1) 3 [] (parts.Asked 5 ∷ [])) (answers.Planned (plans.Shared 2) ∷ answers.Job (job_no 0) (piece_list (0 ∷ 1 ∷ [])) ∷ []) 2
      8 0 8
      ∷ group (events.Lost (job_no 0)) (answers.LostJob (job_no 0) ∷ []) 2 8 0 0
      ∷ group (events.Build (renderer 1) 4 [] (parts.Asked 9 ∷ [])) (answers.Broken 4 statuses.OutOfMemory ∷ []) 2 8 0 0
      ∷ group (events.Cancel (renderer 1) (reader 1)) (answers.Good ∷ []) 2 8 0 0
      ∷ group (events.Drop (renderer 1) 1) (answers.Good ∷ []) 1 4 0 0
      ∷ group (events.Drop (renderer 1) 2) (answers.Good ∷ answers.Granted 3 ∷ []) 1 5 0 0
      ∷ group events.Finish (answers.Good ∷ answers.Dropped 3 ∷ []) 0 0 0 0
      ∷ [];
}
