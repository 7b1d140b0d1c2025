-- Worked sessions: what waits when paging is turned off. Own.
use Rattle.std.specs.Prelude.{[], ◌∷◌, codes}
use Rattle.session_script.specs.declared.event.Event.TheVariants as events
use Rattle.session_script.specs.declared.event.Part.TheVariants as parts
use Rattle.blob_words.specs.declared.plan.Plan.TheVariants as plans
use Rattle.blob_words.specs.declared.status.Status.TheVariants as statuses
use Rattle.answer_text.specs.declared.answer.Answer.TheVariants as answers
use Rattle.answer_text.specs.declared.refusal.Refusal.TheVariants as refusals
use Rattle.blob_words.specs.declared.version.Version.TheVariants.{One, Two}
use Rattle.blob_model.specs.Settle.{page_no, job_no, piece_list}
use Rattle.blob_model.specs.Worked.{Worked, group, renderer, no_handles, small_memory}

-- in version 2 a lost job breaks what waits
abbrev pub waiting_lost : Worked
waiting_lost = record {
  outside = no_handles;
  version = Two;
  limits = small_memory;
  groups =
      group (events.Spawn (renderer 1) (codes "https://a.test")) (answers.Good ∷ []) 0 0 0 0
      ∷ group (events.Build (renderer 1) 1 [] (parts.Embedded (codes "abcd") ∷ [])) (answers.Planned plans.Inline ∷ answers.Done 1 ∷ []) 1 4 0 0
      ∷ group (events.Build (renderer 1) 2 [] (parts.Embedded (codes "efgh") ∷ [])) (answers.Planned plans.Inline ∷ answers.Done 2 ∷ []) 2 8 0 0
      ∷ group (events.Build (renderer 1) 3 [] (parts.Asked 5 ∷ [])) (answers.Planned (plans.Shared 2) ∷ answers.Job (job_no 0) (piece_list (0 ∷ 1 ∷ [])) ∷ []) 2
      8 0 8
      ∷ group (events.Build (renderer 1) 4 [] (parts.BlobRange 3 0 5 ∷ [])) (answers.Planned plans.None ∷ []) 2 8 0 8
      ∷ group (events.Lost (job_no 0)) (answers.LostJob (job_no 0) ∷ answers.Broken 3 statuses.FileWriteFailed ∷ answers.Broken 4 statuses.ReferencedBlobBroken
      ∷ []) 2 8 0 0
      ∷ group (events.Build (renderer 1) 5 [] (parts.Asked 2 ∷ [])) (answers.Planned (plans.Shared 1) ∷ []) 2 8 0 0
      ∷ group (events.Drop (renderer 1) 2) (answers.Good ∷ answers.Granted 5 ∷ []) 2 6 0 0
      ∷ group (events.Limits2 small_memory) (answers.Refused refusals.LimitsAgain ∷ []) 2 6 0 0
      ∷ group events.Finish (answers.Good ∷ answers.Dropped 5 ∷ []) 0 0 0 0
      ∷ [];
}

-- and so does a page job that fails
abbrev pub waiting_failed : Worked
waiting_failed = record {
  outside = no_handles;
  version = Two;
  limits = small_memory;
  groups =
      group (events.Spawn (renderer 1) (codes "https://a.test")) (answers.Good ∷ []) 0 0 0 0
      ∷ group (events.Build (renderer 1) 1 [] (parts.Embedded (codes "abcd") ∷ [])) (answers.Planned plans.Inline ∷ answers.Done 1 ∷ []) 1 4 0 0
      ∷ group (events.Build (renderer 1) 2 [] (parts.Embedded (codes "efgh") ∷ [])) (answers.Planned plans.Inline ∷ answers.Done 2 ∷ []) 2 8 0 0
      ∷ group (events.Build (renderer 1) 3 [] (parts.Asked 5 ∷ [])) (answers.Planned (plans.Shared 2) ∷ answers.Job (job_no 0) (piece_list (0 ∷ 1 ∷ [])) ∷ []) 2
      8 0 8
      ∷ group (events.Build (renderer 1) 4 [] (parts.BlobRange 3 0 5 ∷ [])) (answers.Planned plans.None ∷ []) 2 8 0 8
      ∷ group (events.Disk (job_no 0)) (answers.PageFailed (job_no 0) (page_no 0) ∷ answers.Broken 3 statuses.FileWriteFailed
      ∷ answers.Broken 4 statuses.ReferencedBlobBroken ∷ []) 2 8 0 0
      ∷ group events.Finish (answers.Good ∷ []) 0 0 0 0
      ∷ [];
}

-- in version 1 they wait on
abbrev pub waiting_on : Worked
waiting_on = record {
  outside = no_handles;
  version = One;
  limits = small_memory;
  groups =
      group (events.Spawn (renderer 1) (codes "https://a.test")) (answers.Good ∷ []) 0 0 0 0
      ∷ group (events.Build (renderer 1) 1 [] (parts.Embedded (codes "abcd") ∷ [])) (answers.Planned plans.Inline ∷ answers.Done 1 ∷ []) 1 4 0 0
      ∷ group (events.Build (renderer 1) 2 [] (parts.Embedded (codes "efgh") ∷ [])) (answers.Planned plans.Inline ∷ answers.Done 2 ∷ []) 2 8 0 0
      ∷ group (events.Build (renderer 1) 3 [] (parts.Asked 5 ∷ [])) (answers.Planned (plans.Shared 2) ∷ answers.Job (job_no 0) (piece_list (0 ∷ 1 ∷ [])) ∷ []) 2
      8 0 8
      ∷ group (events.Build (renderer 1) 4 [] (parts.BlobRange 3 0 5 ∷ [])) (answers.Planned plans.None ∷ []) 2 8 0 8
      ∷ group (events.Lost (job_no 0)) (answers.LostJob (job_no 0) ∷ []) 2 8 0 0
      ∷ group events.Finish (answers.Good ∷ answers.Dropped 4 ∷ answers.Dropped 3 ∷ []) 0 0 0 0
      ∷ [];
}
