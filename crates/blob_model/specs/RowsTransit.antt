-- Worked sessions: bytes come in segments. Own.
use Rattle.std.specs.Prelude.{[], ◌∷◌, codes, Some, None}
use Rattle.session_script.specs.declared.event.Event.TheVariants as events
use Rattle.session_script.specs.declared.event.Part.TheVariants as parts
use Rattle.blob_words.specs.declared.plan.Plan.TheVariants as plans
use Rattle.blob_words.specs.declared.status.Status.TheVariants as statuses
use Rattle.answer_text.specs.declared.answer.Answer.TheVariants as answers
use Rattle.answer_text.specs.declared.refusal.Refusal.TheVariants as refusals
use Rattle.blob_words.specs.declared.version.Version.TheVariants.{One}
use Rattle.blob_model.specs.Worked.{Worked, group, renderer, reader, no_handles, plain}

-- an unfinished source
abbrev pub unfinished_source : Worked
unfinished_source = record {
  outside = no_handles;
  version = One;
  limits = plain;
  groups =
      group (events.Spawn (renderer 1) (codes "https://a.test")) (answers.Good ∷ []) 0 0 0 0
      ∷ group (events.Build (renderer 1) 1 [] (parts.Asked 6 ∷ [])) (answers.Planned (plans.Shared 2) ∷ answers.Granted 1 ∷ []) 1 6 0 0
      ∷ group (events.Build (renderer 1) 2 [] (parts.BlobRange 1 4 2 ∷ parts.Embedded (codes "!") ∷ [])) (answers.Planned plans.Inline ∷ []) 2 7 0 0
      ∷ group (events.Stat (renderer 1) 2) (answers.Told 2 3 [] statuses.PendingReferencedBlobs ∷ []) 2 7 0 0
      ∷ group (events.Drop (renderer 1) 1) (answers.Good ∷ []) 2 7 0 0
      ∷ group (events.Segment (renderer 1) 1 1 (codes "ef")) (answers.Taken 1 ∷ []) 2 7 0 0
      ∷ group (events.Segment (renderer 1) 1 0 (codes "abcd")) (answers.Taken 0 ∷ answers.Done 1 ∷ answers.Done 2 ∷ []) 2 7 0 0
      ∷ group (events.Read (renderer 1) (reader 1) 2 0 None) (answers.Opened (reader 1) 3 [] ∷ []) 2 7 0 0
      ∷ group (events.Step (reader 1)) (answers.Given (reader 1) (codes "ef!") ∷ []) 2 7 0 0
      ∷ group events.Finish (answers.Good ∷ []) 0 0 0 0
      ∷ [];
}

-- the builder dies in transit
abbrev pub builder_dies : Worked
builder_dies = record {
  outside = no_handles;
  version = One;
  limits = plain;
  groups =
      group (events.Spawn (renderer 1) (codes "https://a.test")) (answers.Good ∷ []) 0 0 0 0
      ∷ group (events.Spawn (renderer 2) (codes "https://a.test")) (answers.Good ∷ []) 0 0 0 0
      ∷ group (events.Spawn (renderer 3) (codes "https://a.test")) (answers.Good ∷ []) 0 0 0 0
      ∷ group (events.Build (renderer 1) 1 [] (parts.Asked 6 ∷ [])) (answers.Planned (plans.Shared 2) ∷ answers.Granted 1 ∷ []) 1 6 0 0
      ∷ group (events.Pass (renderer 1) (renderer 2) 1) (answers.Good ∷ []) 1 6 0 0
      ∷ group (events.Pass (renderer 1) (renderer 3) 1) (answers.Good ∷ []) 1 6 0 0
      ∷ group (events.Read (renderer 2) (reader 5) 1 0 (Some 6)) (answers.Opened (reader 5) 6 [] ∷ []) 1 6 0 0
      ∷ group (events.Build (renderer 3) 2 [] (parts.BlobRange 1 0 6 ∷ [])) (answers.Planned plans.None ∷ []) 1 6 0 0
      ∷ group (events.Step (reader 5)) (answers.Wait (reader 5) ∷ []) 1 6 0 0
      ∷ group (events.Die (renderer 1)) (answers.Good ∷ answers.Broken 1 statuses.SourceDied ∷ answers.Broken 2 statuses.ReferencedBlobBroken ∷ []) 0 0 0 0
      ∷ group (events.Step (reader 5)) (answers.Ended (reader 5) statuses.SourceDied ∷ []) 0 0 0 0
      ∷ group (events.Stat (renderer 3) 2) (answers.Told 2 6 [] statuses.ReferencedBlobBroken ∷ []) 0 0 0 0
      ∷ group events.Finish (answers.Good ∷ []) 0 0 0 0
      ∷ [];
}

-- nobody else holds a blob in transit
abbrev pub nobody_holds : Worked
nobody_holds = record {
  outside = no_handles;
  version = One;
  limits = plain;
  groups =
      group (events.Spawn (renderer 1) (codes "https://a.test")) (answers.Good ∷ []) 0 0 0 0
      ∷ group (events.Build (renderer 1) 1 [] (parts.Asked 6 ∷ [])) (answers.Planned (plans.Shared 2) ∷ answers.Granted 1 ∷ []) 1 6 0 0
      ∷ group (events.Die (renderer 1)) (answers.Good ∷ answers.Dropped 1 ∷ []) 0 0 0 0
      ∷ group (events.Stat (renderer 1) 1) (answers.Refused (refusals.NoRenderer (renderer 1)) ∷ []) 0 0 0 0
      ∷ group (events.Spawn (renderer 1) (codes "https://a.test")) (answers.Refused (refusals.RendererUsed (renderer 1)) ∷ []) 0 0 0 0
      ∷ group events.Finish (answers.Good ∷ []) 0 0 0 0
      ∷ [];
}

-- segments come out of order
abbrev pub out_of_order : Worked
out_of_order = record {
  outside = no_handles;
  version = One;
  limits = plain;
  groups =
      group (events.Spawn (renderer 1) (codes "https://a.test")) (answers.Good ∷ []) 0 0 0 0
      ∷ group (events.Build (renderer 1) 1 [] (parts.Asked 10 ∷ [])) (answers.Planned (plans.Shared 3) ∷ answers.Granted 1 ∷ []) 2 10 0 0
      ∷ group (events.Segment (renderer 1) 1 2 (codes "ij")) (answers.Taken 2 ∷ []) 2 10 0 0
      ∷ group (events.Segment (renderer 1) 1 0 (codes "abcd")) (answers.Taken 0 ∷ []) 2 10 0 0
      ∷ group (events.Segment (renderer 1) 1 0 (codes "abcd")) (answers.Refused (refusals.SegmentTaken 0) ∷ []) 2 10 0 0
      ∷ group (events.Segment (renderer 1) 1 1 (codes "efg")) (answers.Refused (refusals.SegmentLength 4) ∷ []) 2 10 0 0
      ∷ group (events.Segment (renderer 1) 1 3 (codes "a")) (answers.Refused (refusals.BadSegment 3) ∷ []) 2 10 0 0
      ∷ group (events.Segment (renderer 1) 1 1 (codes "efgh")) (answers.Taken 1 ∷ answers.Done 1 ∷ []) 2 10 0 0
      ∷ group (events.Segment (renderer 1) 1 1 (codes "efgh")) (answers.Refused (refusals.NoTransport 1) ∷ []) 2 10 0 0
      ∷ group (events.Read (renderer 1) (reader 1) 1 0 None) (answers.Opened (reader 1) 10 [] ∷ []) 2 10 0 0
      ∷ group (events.Step (reader 1)) (answers.Given (reader 1) (codes "abcdefgh") ∷ []) 2 10 0 0
      ∷ group (events.Step (reader 1)) (answers.Given (reader 1) (codes "ij") ∷ []) 2 10 0 0
      ∷ group events.Finish (answers.Good ∷ []) 0 0 0 0
      ∷ [];
}
