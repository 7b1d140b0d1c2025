-- Worked sessions: files, URLs and data handles. Own.
use Rattle.std.specs.Prelude.{[], ◌∷◌, codes, Some, None, pos}
use Rattle.session_script.specs.declared.event.Event.TheVariants as events
use Rattle.session_script.specs.declared.event.Part.TheVariants as parts
use Rattle.blob_words.specs.declared.plan.Plan.TheVariants as plans
use Rattle.blob_words.specs.declared.status.Status.TheVariants as statuses
use Rattle.answer_text.specs.declared.answer.Answer.TheVariants as answers
use Rattle.answer_text.specs.declared.refusal.Refusal.TheVariants as refusals
use Rattle.blob_words.specs.declared.version.Version.TheVariants.{One}
use Rattle.blob_model.specs.Worked.{Worked, group, renderer, reader, no_handles, with_handle, short_chunks, plain}

-- a file changes
abbrev pub file_changes : Worked
file_changes = record {
  outside = no_handles;
  version = One;
  limits = short_chunks;
  groups =
      group (events.Spawn (renderer 1) (codes "https://a.test")) (answers.Good ∷ []) 0 0 0 0
      ∷ group (events.File (codes "a.txt") 5 (codes "hello")) (answers.Good ∷ []) 0 0 0 0
      ∷ group (events.Build (renderer 1) 1 [] (parts.FileRange (codes "a.txt") 1 4 5 ∷ [])) (answers.Planned plans.None ∷ answers.Done 1 ∷ []) 0 0 0 0
      ∷ group (events.Read (renderer 1) (reader 1) 1 0 None) (answers.Opened (reader 1) 4 [] ∷ []) 0 0 0 0
      ∷ group (events.Step (reader 1)) (answers.Given (reader 1) (codes "el") ∷ []) 0 0 0 0
      ∷ group (events.File (codes "a.txt") 5 (codes "aa")) (answers.Refused (refusals.StaleStamp 5) ∷ []) 0 0 0 0
      ∷ group (events.File (codes "a.txt") 6 (codes "hello")) (answers.Good ∷ []) 0 0 0 0
      ∷ group (events.Step (reader 1)) (answers.FileChanged (reader 1) (codes "a.txt") ∷ []) 0 0 0 0
      ∷ group (events.Step (reader 1)) (answers.Refused (refusals.NoReader (reader 1)) ∷ []) 0 0 0 0
      ∷ group (events.Gone (codes "a.txt")) (answers.Good ∷ []) 0 0 0 0
      ∷ group (events.Gone (codes "a.txt")) (answers.Refused refusals.NoFile ∷ []) 0 0 0 0
      ∷ group (events.File (codes "a.txt") 6 (0 ∷ [])) (answers.Refused (refusals.StaleStamp 6) ∷ []) 0 0 0 0
      ∷ group (events.Build (renderer 1) 2 [] (parts.FileRange (codes "a.txt") 0 1 6 ∷ [])) (answers.Broken 2 statuses.ReferencedFileUnavailable ∷ []) 0 0 0 0
      ∷ group events.Finish (answers.Good ∷ []) 0 0 0 0
      ∷ [];
}

-- blob URLs of two origins
abbrev pub blob_urls : Worked
blob_urls = record {
  outside = no_handles;
  version = One;
  limits = short_chunks;
  groups =
      group (events.Spawn (renderer 1) (codes "https://a.test")) (answers.Good ∷ []) 0 0 0 0
      ∷ group (events.Spawn (renderer 2) (codes "https://b.test")) (answers.Good ∷ []) 0 0 0 0
      ∷ group (events.Spawn (renderer 3) (codes "https://a.test")) (answers.Good ∷ []) 0 0 0 0
      ∷ group (events.Build (renderer 1) 1 [] (parts.Embedded (codes "abc") ∷ [])) (answers.Planned plans.Inline ∷ answers.Done 1 ∷ []) 1 3 0 0
      ∷ group (events.Url (renderer 1) 1 (codes "blob:https://a.test/00000000-0000-0000-0000-000000000009")) (answers.Good ∷ []) 1 3 0 0
      ∷ group (events.Url (renderer 1) 1 (codes "blob:https://a.test/00000000-0000-0000-0000-000000000009")) (answers.Refused refusals.UrlTaken ∷ []) 1 3 0 0
      ∷ group (events.Url (renderer 1) 1 (codes "blob:https://a.test/00000000-0000-0000-0000-000000000009#x")) (answers.Refused refusals.UrlForm ∷ []) 1 3 0 0
      ∷ group (events.Fetch (renderer 3) (reader 1) (codes "blob:https://a.test/00000000-0000-0000-0000-000000000009#x") 0 None)
      (answers.Opened (reader 1) 3 [] ∷ []) 1 3 0 0
      ∷ group (events.Fetch (renderer 2) (reader 2) (codes "blob:https://a.test/00000000-0000-0000-0000-000000000009") 0 None)
      (answers.Refused refusals.NoUrl ∷ []) 1 3 0 0
      ∷ group (events.Drop (renderer 1) 1) (answers.Good ∷ []) 1 3 0 0
      ∷ group (events.Revoke (renderer 3) (codes "blob:https://a.test/00000000-0000-0000-0000-000000000009")) (answers.Nothing ∷ []) 1 3 0 0
      ∷ group (events.Revoke (renderer 1) (codes "blob:https://a.test/00000000-0000-0000-0000-000000000009")) (answers.Revoked ∷ []) 1 3 0 0
      ∷ group (events.Fetch (renderer 3) (reader 2) (codes "blob:https://a.test/00000000-0000-0000-0000-000000000009") 0 None)
      (answers.Refused refusals.NoUrl ∷ []) 1 3 0 0
      ∷ group (events.Step (reader 1)) (answers.Given (reader 1) (codes "ab") ∷ []) 1 3 0 0
      ∷ group (events.Step (reader 1)) (answers.Given (reader 1) (codes "c") ∷ []) 1 3 0 0
      ∷ group (events.Step (reader 1)) (answers.Ended (reader 1) statuses.Done ∷ []) 0 0 0 0
      ∷ group (events.Build (renderer 1) 2 [] (parts.Embedded (codes "d") ∷ [])) (answers.Planned plans.Inline ∷ answers.Done 2 ∷ []) 1 1 0 0
      ∷ group (events.Url (renderer 1) 2 (codes "blob:https://a.test/00000000-0000-0000-0000-000000000009")) (answers.Good ∷ []) 1 1 0 0
      ∷ group (events.Die (renderer 1)) (answers.Good ∷ []) 0 0 0 0
      ∷ group (events.Fetch (renderer 3) (reader 2) (codes "blob:https://a.test/00000000-0000-0000-0000-000000000009") 0 None)
      (answers.Refused refusals.NoUrl ∷ []) 0 0 0 0
      ∷ group events.Finish (answers.Good ∷ []) 0 0 0 0
      ∷ [];
}

-- a data handle, of which a read fails
abbrev pub data_handle : Worked
data_handle = record {
  outside = with_handle (codes "xyz");
  version = One;
  limits = plain;
  groups =
      group (events.Spawn (renderer 1) (codes "https://a.test")) (answers.Good ∷ []) 0 0 0 0
      ∷ group (events.Build (renderer 1) 1 [] (parts.HandleRange 0 0 3 ∷ [])) (answers.Planned plans.None ∷ answers.Done 1 ∷ []) 0 0 0 0
      ∷ group (events.Slice (renderer 1) 2 1 (Some (pos 1)) None []) (answers.Planned plans.None ∷ answers.Done 2 ∷ []) 0 0 0 0
      ∷ group (events.Read (renderer 1) (reader 1) 1 0 None) (answers.Opened (reader 1) 3 [] ∷ []) 0 0 0 0
      ∷ group (events.Step (reader 1)) (answers.HandleFailed (reader 1) 0 ∷ []) 0 0 0 0
      ∷ group (events.Read (renderer 1) (reader 2) 2 0 None) (answers.Opened (reader 2) 2 [] ∷ []) 0 0 0 0
      ∷ group (events.Step (reader 2)) (answers.Given (reader 2) (codes "yz") ∷ []) 0 0 0 0
      ∷ group (events.Drop (renderer 1) 1) (answers.Good ∷ []) 0 0 0 0
      ∷ group (events.Build (renderer 1) 3 [] (parts.HandleRange 0 0 1 ∷ [])) (answers.Refused (refusals.HandleTaken 0) ∷ []) 0 0 0 0
      ∷ group (events.Build (renderer 1) 3 [] (parts.HandleRange 1 0 1 ∷ [])) (answers.Refused (refusals.NoSuchHandle 1) ∷ []) 0 0 0 0
      ∷ group (events.Cancel (renderer 1) (reader 2)) (answers.Good ∷ []) 0 0 0 0
      ∷ group (events.Drop (renderer 1) 2) (answers.Good ∷ []) 0 0 0 0
      ∷ group events.Finish (answers.Good ∷ []) 0 0 0 0
      ∷ [];
}
