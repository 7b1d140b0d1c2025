-- Worked sessions: blobs wait for room in memory. Own.
use Rattle.std.specs.Prelude.{[], ◌∷◌, codes, None}
use Rattle.session_script.specs.declared.event.Event.TheVariants as events
use Rattle.session_script.specs.declared.event.Part.TheVariants as parts
use Rattle.blob_words.specs.declared.plan.Plan.TheVariants as plans
use Rattle.blob_words.specs.declared.status.Status.TheVariants as statuses
use Rattle.answer_text.specs.declared.answer.Answer.TheVariants as answers
use Rattle.blob_words.specs.declared.version.Version.TheVariants.{One}
use Rattle.blob_model.specs.Worked.{Worked, group, renderer, reader, no_handles, no_disk}

-- embedded bytes without room are sent again
abbrev pub sent_again : Worked
sent_again = record {
  outside = no_handles;
  version = One;
  limits = no_disk;
  groups =
      group (events.Spawn (renderer 1) (codes "https://a.test")) (answers.Good ∷ []) 0 0 0 0
      ∷ group (events.Build (renderer 1) 1 [] (parts.Embedded (1 ∷ 2 ∷ 3 ∷ 4 ∷ 5 ∷ 6 ∷ []) ∷ [])) (answers.Planned plans.Inline ∷ answers.Done 1 ∷ []) 1 6 0 0
      ∷ group (events.Build (renderer 1) 2 [] (parts.Embedded (codes "abc") ∷ [])) (answers.Planned (plans.Shared 1) ∷ []) 1 6 0 0
      ∷ group (events.Drop (renderer 1) 1) (answers.Good ∷ answers.Granted 2 ∷ []) 1 3 0 0
      ∷ group (events.Segment (renderer 1) 2 0 (codes "xyz")) (answers.Taken 0 ∷ answers.Done 2 ∷ []) 1 3 0 0
      ∷ group (events.Read (renderer 1) (reader 1) 2 0 None) (answers.Opened (reader 1) 3 [] ∷ []) 1 3 0 0
      ∷ group (events.Step (reader 1)) (answers.Given (reader 1) (codes "xyz") ∷ []) 1 3 0 0
      ∷ group events.Finish (answers.Good ∷ []) 0 0 0 0
      ∷ [];
}

-- nobody passes the head
abbrev pub head_first : Worked
head_first = record {
  outside = no_handles;
  version = One;
  limits = no_disk;
  groups =
      group (events.Spawn (renderer 1) (codes "https://a.test")) (answers.Good ∷ []) 0 0 0 0
      ∷ group (events.Build (renderer 1) 1 [] (parts.Asked 4 ∷ [])) (answers.Planned (plans.Shared 1) ∷ answers.Granted 1 ∷ []) 1 4 0 0
      ∷ group (events.Build (renderer 1) 2 [] (parts.Asked 6 ∷ [])) (answers.Planned (plans.Shared 2) ∷ []) 1 4 0 0
      ∷ group (events.Build (renderer 1) 3 [] (parts.Embedded (codes "ab") ∷ [])) (answers.Planned (plans.Shared 1) ∷ []) 1 4 0 0
      ∷ group (events.Stat (renderer 1) 3) (answers.Told 3 2 [] statuses.PendingQuota ∷ []) 1 4 0 0
      ∷ group (events.Drop (renderer 1) 1) (answers.Good ∷ answers.Dropped 1 ∷ answers.Granted 2 ∷ answers.Granted 3 ∷ []) 2 8 0 0
      ∷ group events.Finish (answers.Good ∷ answers.Dropped 3 ∷ answers.Dropped 2 ∷ []) 0 0 0 0
      ∷ [];
}
