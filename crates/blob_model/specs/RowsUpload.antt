-- Worked sessions: an upload, an image and a worker. Own.
use Rattle.std.specs.Prelude.{[], ◌∷◌, codes, Some, None, pos, true}
use Rattle.session_script.specs.declared.event.Event.TheVariants as events
use Rattle.session_script.specs.declared.event.Part.TheVariants as parts
use Rattle.blob_words.specs.declared.plan.Plan.TheVariants as plans
use Rattle.blob_words.specs.declared.status.Status.TheVariants as statuses
use Rattle.answer_text.specs.declared.answer.Answer.TheVariants as answers
use Rattle.blob_words.specs.declared.version.Version.TheVariants.{One}
use Rattle.blob_model.specs.Worked.{Worked, group, renderer, reader, no_handles, wide}

-- an upload, an image and a worker
abbrev pub upload : Worked
upload = record {
  outside = no_handles;
  version = One;
  limits = wide;
  groups =
      group (events.Spawn (renderer 1) (codes "https://shop.test")) (answers.Good ∷ []) 0 0 0 0
      ∷ group (events.Spawn (renderer 2) (codes "https://shop.test")) (answers.Good ∷ []) 0 0 0 0
      ∷ group (events.File (codes "photo.jpg") 1700000000 (255 ∷ 216 ∷ 255 ∷ 224 ∷ 0 ∷ 16 ∷ 74 ∷ 70 ∷ 73 ∷ 70 ∷ 255 ∷ 217 ∷ [])) (answers.Good ∷ []) 0 0 0 0
      ∷ group (events.Build (renderer 1) 1 (codes "image/jpeg") (parts.FileRange (codes "photo.jpg") 0 12 1700000000 ∷ []))
      (answers.Planned plans.None ∷ answers.Done 1 ∷ []) 0 0 0 0
      ∷ group (events.Slice (renderer 1) 2 1 (Some (pos 0)) (Some (pos 4)) []) (answers.Planned plans.None ∷ answers.Done 2 ∷ []) 0 0 0 0
      ∷ group (events.Build (renderer 1) 3 [] (parts.Embedded (codes "--x") ∷ parts.BlobRange 2 0 4 ∷ parts.Embedded (codes "--x--") ∷ []))
      (answers.Planned plans.Inline ∷ answers.Done 3 ∷ []) 2 8 0 0
      ∷ group (events.Url (renderer 1) 1 (codes "blob:https://shop.test/00000000-0000-0000-0000-000000000008")) (answers.Good ∷ []) 2 8 0 0
      ∷ group (events.Fetch (renderer 2) (reader 1) (codes "blob:https://shop.test/00000000-0000-0000-0000-000000000008") 0 None)
      (answers.Opened (reader 1) 12 (codes "image/jpeg") ∷ []) 2 8 0 0
      ∷ group (events.Step (reader 1)) (answers.Given (reader 1) (255 ∷ 216 ∷ 255 ∷ 224 ∷ 0 ∷ 16 ∷ 74 ∷ 70 ∷ 73 ∷ 70 ∷ 255 ∷ 217 ∷ []) ∷ []) 2 8 0 0
      ∷ group (events.Step (reader 1)) (answers.Ended (reader 1) statuses.Done ∷ []) 2 8 0 0
      ∷ group (events.Read (renderer 1) (reader 2) 3 0 None) (answers.Opened (reader 2) 12 [] ∷ []) 2 8 0 0
      ∷ group (events.Step (reader 2)) (answers.Given (reader 2) (45 ∷ 45 ∷ 120 ∷ 255 ∷ 216 ∷ 255 ∷ 224 ∷ 45 ∷ 45 ∷ 120 ∷ 45 ∷ 45 ∷ []) ∷ []) 2 8 0 0
      ∷ group (events.Step (reader 2)) (answers.Ended (reader 2) statuses.Done ∷ []) 2 8 0 0
      ∷ group (events.Pass (renderer 1) (renderer 2) 3) (answers.Good ∷ []) 2 8 0 0
      ∷ group (events.Drop (renderer 1) 3) (answers.Good ∷ []) 2 8 0 0
      ∷ group (events.Build (renderer 2) 4 (codes "text/csv") (parts.Asked 70000 ∷ [])) (answers.Planned (plans.Shared 2) ∷ answers.Granted 4 ∷ []) 4 70008 0 0
      ∷ group (events.Die (renderer 1)) (answers.Good ∷ []) 4 70008 0 0
      ∷ group events.Count (answers.Held 2 0 0 0 true ∷ []) 4 70008 0 0
      ∷ group (events.Stat (renderer 2) 4) (answers.Told 4 70000 (codes "text/csv") statuses.PendingTransport ∷ []) 4 70008 0 0
      ∷ group events.Finish (answers.Good ∷ answers.Dropped 4 ∷ []) 0 0 0 0
      ∷ [];
}
