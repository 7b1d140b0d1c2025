-- Worked sessions: blobs go to page files as they come. Own.
use Rattle.std.specs.Prelude.{[], ◌∷◌, codes}
use Rattle.session_script.specs.declared.event.Event.TheVariants as events
use Rattle.session_script.specs.declared.event.Part.TheVariants as parts
use Rattle.blob_words.specs.declared.plan.Plan.TheVariants as plans
use Rattle.blob_words.specs.declared.status.Status.TheVariants as statuses
use Rattle.answer_text.specs.declared.answer.Answer.TheVariants as answers
use Rattle.blob_words.specs.declared.version.Version.TheVariants.{One}
use Rattle.blob_model.specs.Settle.{page_no}
use Rattle.blob_model.specs.Own.{piece_no}
use Rattle.blob_model.specs.Worked.{Worked, group, renderer, no_handles, nine_on_disk, eight_on_disk, long_pages}

-- a blob past the memory limit
abbrev pub past_memory : Worked
past_memory = record {
  outside = no_handles;
  version = One;
  limits = nine_on_disk;
  groups =
      group (events.Spawn (renderer 1) (codes "https://a.test")) (answers.Good ∷ []) 0 0 0 0
      ∷ group (events.Build (renderer 1) 1 [] (parts.Asked 9 ∷ [])) (answers.Planned (plans.File 2) ∷ []) 2 0 0 9
      ∷ group (events.Segment (renderer 1) 1 0 (codes "abcdefgh")) (answers.Taken 0 ∷ answers.Stored (page_no 0) (piece_no 0) ∷ []) 2 0 1 9
      ∷ group (events.Segment (renderer 1) 1 1 (codes "i")) (answers.Taken 1 ∷ answers.Stored (page_no 1) (piece_no 1) ∷ answers.Done 1 ∷ []) 2 0 2 9
      ∷ group (events.Drop (renderer 1) 1) (answers.Good ∷ answers.Removed (page_no 0) ∷ answers.Removed (page_no 1) ∷ []) 0 0 0 0
      ∷ group events.Finish (answers.Good ∷ []) 0 0 0 0
      ∷ [];
}

-- a page file cannot be removed
abbrev pub stored_left : Worked
stored_left = record {
  outside = no_handles;
  version = One;
  limits = nine_on_disk;
  groups =
      group (events.Spawn (renderer 1) (codes "https://a.test")) (answers.Good ∷ []) 0 0 0 0
      ∷ group (events.Build (renderer 1) 1 [] (parts.Asked 9 ∷ [])) (answers.Planned (plans.File 2) ∷ []) 2 0 0 9
      ∷ group (events.Segment (renderer 1) 1 0 (codes "abcdefgh")) (answers.Taken 0 ∷ answers.Stored (page_no 0) (piece_no 0) ∷ []) 2 0 1 9
      ∷ group (events.Segment (renderer 1) 1 1 (codes "i")) (answers.Taken 1 ∷ answers.Stored (page_no 1) (piece_no 1) ∷ answers.Done 1 ∷ []) 2 0 2 9
      ∷ group (events.Drop (renderer 1) 1) (answers.Good ∷ answers.Left (page_no 0) ∷ answers.Removed (page_no 1) ∷ []) 0 0 0 0
      ∷ group events.Finish (answers.Good ∷ []) 0 0 0 0
      ∷ [];
}

-- the disk has no room
abbrev pub disk_full : Worked
disk_full = record {
  outside = no_handles;
  version = One;
  limits = eight_on_disk;
  groups =
      group (events.Spawn (renderer 1) (codes "https://a.test")) (answers.Good ∷ []) 0 0 0 0
      ∷ group (events.Build (renderer 1) 1 [] (parts.Asked 9 ∷ [])) (answers.Broken 1 statuses.OutOfMemory ∷ []) 0 0 0 0
      ∷ group events.Finish (answers.Good ∷ []) 0 0 0 0
      ∷ [];
}

-- a blob as long as the memory limit
abbrev pub memory_full : Worked
memory_full = record {
  outside = no_handles;
  version = One;
  limits = nine_on_disk;
  groups =
      group (events.Spawn (renderer 1) (codes "https://a.test")) (answers.Good ∷ []) 0 0 0 0
      ∷ group (events.Build (renderer 1) 1 [] (parts.Asked 8 ∷ [])) (answers.Planned (plans.Shared 2) ∷ answers.Granted 1 ∷ []) 1 8 0 0
      ∷ group events.Finish (answers.Good ∷ answers.Dropped 1 ∷ []) 0 0 0 0
      ∷ [];
}

-- a write of a piece fails
abbrev pub store_failed : Worked
store_failed = record {
  outside = no_handles;
  version = One;
  limits = nine_on_disk;
  groups =
      group (events.Spawn (renderer 1) (codes "https://a.test")) (answers.Good ∷ []) 0 0 0 0
      ∷ group (events.Build (renderer 1) 1 [] (parts.Asked 9 ∷ [])) (answers.Planned (plans.File 2) ∷ []) 2 0 0 9
      ∷ group (events.Segment (renderer 1) 1 0 (codes "abcdefgh")) (answers.Taken 0 ∷ answers.Stored (page_no 0) (piece_no 0) ∷ []) 2 0 1 9
      ∷ group (events.Segment (renderer 1) 1 1 (codes "i")) (answers.Taken 1 ∷ answers.StoreFailed (page_no 1) ∷ answers.Broken 1 statuses.FileWriteFailed
      ∷ answers.Removed (page_no 0) ∷ []) 0 0 0 0
      ∷ group events.Finish (answers.Good ∷ []) 0 0 0 0
      ∷ [];
}

-- a piece as long as a page file
abbrev pub long_page : Worked
long_page = record {
  outside = no_handles;
  version = One;
  limits = long_pages;
  groups =
      group (events.Spawn (renderer 1) (codes "https://a.test")) (answers.Good ∷ []) 0 0 0 0
      ∷ group (events.Build (renderer 1) 1 [] (parts.Asked 5 ∷ [])) (answers.Planned (plans.File 1) ∷ []) 1 0 0 5
      ∷ group (events.Segment (renderer 1) 1 0 (codes "abcde")) (answers.Taken 0 ∷ answers.Stored (page_no 0) (piece_no 0) ∷ answers.Done 1 ∷ []) 1 0 1 5
      ∷ group events.Finish (answers.Good ∷ answers.Removed (page_no 0) ∷ []) 0 0 0 0
      ∷ [];
}

-- and its write fails
abbrev pub long_page_failed : Worked
long_page_failed = record {
  outside = no_handles;
  version = One;
  limits = long_pages;
  groups =
      group (events.Spawn (renderer 1) (codes "https://a.test")) (answers.Good ∷ []) 0 0 0 0
      ∷ group (events.Build (renderer 1) 1 [] (parts.Asked 5 ∷ [])) (answers.Planned (plans.File 1) ∷ []) 1 0 0 5
      ∷ group (events.Segment (renderer 1) 1 0 (codes "abcde")) (answers.Taken 0 ∷ answers.StoreFailed (page_no 0) ∷ answers.Broken 1 statuses.FileWriteFailed
      ∷ []) 0 0 0 0
      ∷ group events.Finish (answers.Good ∷ []) 0 0 0 0
      ∷ [];
}
