-- Worked sessions: lines that are refused or break their blob. Own.
use Rattle.std.specs.Prelude.{[], ◌∷◌, codes, Some, None, pos}
use Rattle.session_script.specs.declared.event.Event.TheVariants as events
use Rattle.session_script.specs.declared.event.Part.TheVariants as parts
use Rattle.blob_words.specs.declared.plan.Plan.TheVariants as plans
use Rattle.blob_words.specs.declared.status.Status.TheVariants as statuses
use Rattle.answer_text.specs.declared.answer.Answer.TheVariants as answers
use Rattle.answer_text.specs.declared.refusal.Refusal.TheVariants as refusals
use Rattle.blob_words.specs.declared.version.Version.TheVariants.{One}
use Rattle.blob_model.specs.Worked.{Worked, group, renderer, reader, no_handles, plain}

-- the groups before a line that is no event
abbrev pub before_a_fault : Worked
before_a_fault = record {
  outside = no_handles;
  version = One;
  limits = plain;
  groups =
      group (events.Spawn (renderer 1) (codes "https://a.test")) (answers.Good ∷ []) 0 0 0 0
      ∷ [];
}

-- blobs broken at their own line
abbrev pub broken_at_line : Worked
broken_at_line = record {
  outside = no_handles;
  version = One;
  limits = plain;
  groups =
      group (events.Spawn (renderer 1) (codes "https://a.test")) (answers.Good ∷ []) 0 0 0 0
      ∷ group (events.Limits plain) (answers.Refused refusals.LimitsAgain ∷ []) 0 0 0 0
      ∷ group (events.Build (renderer 1) 1 [] (parts.BlobRange 1 0 0 ∷ [])) (answers.Broken 1 statuses.InvalidArguments ∷ []) 0 0 0 0
      ∷ group (events.Build (renderer 1) 1 [] []) (answers.Refused (refusals.NameUsed 1) ∷ []) 0 0 0 0
      ∷ group (events.Build (renderer 1) 2 [] (parts.BlobRange 7 0 1 ∷ [])) (answers.Broken 2 statuses.ReferencedBlobBroken ∷ []) 0 0 0 0
      ∷ group (events.Slice (renderer 1) 3 7 (Some (pos 0)) (Some (pos 1)) []) (answers.Refused (refusals.NoHandle (renderer 1) 7) ∷ []) 0 0 0 0
      ∷ group (events.Build (renderer 1) 3 [] (parts.Asked 4611686018427387905 ∷ [])) (answers.Broken 3 statuses.InvalidArguments ∷ []) 0 0 0 0
      ∷ group (events.Build (renderer 1) 4 [] (parts.Asked 4611686018427387904 ∷ [])) (answers.Broken 4 statuses.OutOfMemory ∷ []) 0 0 0 0
      ∷ group (events.Build (renderer 1) 5 [] []) (answers.Planned plans.None ∷ answers.Done 5 ∷ []) 0 0 0 0
      ∷ group (events.Read (renderer 1) (reader 1) 2 0 (Some 9)) (answers.Opened (reader 1) 0 [] ∷ []) 0 0 0 0
      ∷ group (events.Read (renderer 1) (reader 1) 5 0 None) (answers.Refused (refusals.ReaderUsed (reader 1)) ∷ []) 0 0 0 0
      ∷ group (events.Step (reader 1)) (answers.Ended (reader 1) statuses.ReferencedBlobBroken ∷ []) 0 0 0 0
      ∷ group events.Finish (answers.Good ∷ []) 0 0 0 0
      ∷ [];
}
