-- Worked sessions: blobs are built, sliced and read. Own.
use Rattle.std.specs.Prelude.{[], ◌∷◌, codes, Some, None, pos, negsuc}
use Rattle.session_script.specs.declared.event.Event.TheVariants as events
use Rattle.session_script.specs.declared.event.Part.TheVariants as parts
use Rattle.blob_words.specs.declared.plan.Plan.TheVariants as plans
use Rattle.blob_words.specs.declared.status.Status.TheVariants as statuses
use Rattle.answer_text.specs.declared.answer.Answer.TheVariants as answers
use Rattle.answer_text.specs.declared.refusal.Refusal.TheVariants as refusals
use Rattle.blob_words.specs.declared.version.Version.TheVariants.{One}
use Rattle.blob_model.specs.Worked.{Worked, group, renderer, reader, no_handles, short_chunks, plain, short_pages}

-- three bytes are built and read in steps of two
abbrev pub short_reads : Worked
short_reads = record {
  outside = no_handles;
  version = One;
  limits = short_chunks;
  groups =
      group (events.Spawn (renderer 1) (codes "https://a.test")) (answers.Good ∷ []) 0 0 0 0
      ∷ group (events.Build (renderer 1) 1 [] (parts.Embedded (codes "abc") ∷ [])) (answers.Planned plans.Inline ∷ answers.Done 1 ∷ []) 1 3 0 0
      ∷ group (events.Read (renderer 1) (reader 7) 1 0 (Some 3)) (answers.Opened (reader 7) 3 [] ∷ []) 1 3 0 0
      ∷ group (events.Step (reader 7)) (answers.Given (reader 7) (codes "ab") ∷ []) 1 3 0 0
      ∷ group (events.Step (reader 7)) (answers.Given (reader 7) (codes "c") ∷ []) 1 3 0 0
      ∷ group events.Finish (answers.Good ∷ []) 0 0 0 0
      ∷ [];
}

-- slices from the end and past each other, and a type
abbrev pub slices : Worked
slices = record {
  outside = no_handles;
  version = One;
  limits = plain;
  groups =
      group (events.Spawn (renderer 1) (codes "https://a.test")) (answers.Good ∷ []) 0 0 0 0
      ∷ group (events.Build (renderer 1) 1 [] (parts.Embedded (codes "hello") ∷ [])) (answers.Planned plans.Inline ∷ answers.Done 1 ∷ []) 1 5 0 0
      ∷ group (events.Slice (renderer 1) 2 1 (Some (negsuc 1)) None []) (answers.Planned plans.None ∷ answers.Done 2 ∷ []) 1 5 0 0
      ∷ group (events.Slice (renderer 1) 3 1 (Some (pos 4)) (Some (pos 1)) (codes "Text/Plain")) (answers.Planned plans.None ∷ answers.Done 3 ∷ []) 1 5 0 0
      ∷ group (events.Stat (renderer 1) 3) (answers.Told 3 0 (codes "text/plain") statuses.Done ∷ []) 1 5 0 0
      ∷ group (events.Read (renderer 1) (reader 1) 2 0 None) (answers.Opened (reader 1) 2 [] ∷ []) 1 5 0 0
      ∷ group (events.Step (reader 1)) (answers.Given (reader 1) (codes "lo") ∷ []) 1 5 0 0
      ∷ group (events.Step (reader 1)) (answers.Ended (reader 1) statuses.Done ∷ []) 1 5 0 0
      ∷ group (events.Read (renderer 1) (reader 1) 1 4 (Some 2)) (answers.Refused (refusals.Range 5) ∷ []) 1 5 0 0
      ∷ group events.Finish (answers.Good ∷ []) 0 0 0 0
      ∷ [];
}

-- cuts in the middle of two pieces
abbrev pub cuts : Worked
cuts = record {
  outside = no_handles;
  version = One;
  limits = short_pages;
  groups =
      group (events.Spawn (renderer 1) (codes "https://a.test")) (answers.Good ∷ []) 0 0 0 0
      ∷ group (events.Build (renderer 1) 1 [] (parts.Embedded (1 ∷ 2 ∷ 3 ∷ 4 ∷ 5 ∷ 6 ∷ 7 ∷ 8 ∷ []) ∷ [])) (answers.Planned plans.Inline ∷ answers.Done 1 ∷ []) 2
      8 0 0
      ∷ group (events.Slice (renderer 1) 2 1 (Some (pos 2)) (Some (pos 7)) []) (answers.Planned plans.None ∷ answers.Done 2 ∷ []) 2 8 0 0
      ∷ group (events.Slice (renderer 1) 3 2 (Some (pos 1)) (Some (pos 4)) []) (answers.Planned plans.None ∷ answers.Done 3 ∷ []) 2 8 0 0
      ∷ group (events.Drop (renderer 1) 1) (answers.Good ∷ []) 2 8 0 0
      ∷ group (events.Drop (renderer 1) 2) (answers.Good ∷ []) 2 8 0 0
      ∷ group (events.Read (renderer 1) (reader 1) 3 0 None) (answers.Opened (reader 1) 3 [] ∷ []) 2 8 0 0
      ∷ group (events.Step (reader 1)) (answers.Given (reader 1) (4 ∷ 5 ∷ 6 ∷ []) ∷ []) 2 8 0 0
      ∷ group events.Finish (answers.Good ∷ []) 0 0 0 0
      ∷ [];
}

-- only the piece that is viewed stays
abbrev pub one_piece_stays : Worked
one_piece_stays = record {
  outside = no_handles;
  version = One;
  limits = short_pages;
  groups =
      group (events.Spawn (renderer 1) (codes "https://a.test")) (answers.Good ∷ []) 0 0 0 0
      ∷ group (events.Build (renderer 1) 1 [] (parts.Embedded (1 ∷ 2 ∷ 3 ∷ 4 ∷ 5 ∷ 6 ∷ 7 ∷ 8 ∷ []) ∷ [])) (answers.Planned plans.Inline ∷ answers.Done 1 ∷ []) 2
      8 0 0
      ∷ group (events.Slice (renderer 1) 2 1 (Some (pos 5)) (Some (pos 7)) []) (answers.Planned plans.None ∷ answers.Done 2 ∷ []) 2 8 0 0
      ∷ group (events.Drop (renderer 1) 1) (answers.Good ∷ []) 1 4 0 0
      ∷ group (events.Drop (renderer 1) 2) (answers.Good ∷ []) 0 0 0 0
      ∷ group events.Finish (answers.Good ∷ []) 0 0 0 0
      ∷ [];
}

-- one piece is viewed twice
abbrev pub viewed_twice : Worked
viewed_twice = record {
  outside = no_handles;
  version = One;
  limits = plain;
  groups =
      group (events.Spawn (renderer 1) (codes "https://a.test")) (answers.Good ∷ []) 0 0 0 0
      ∷ group (events.Build (renderer 1) 1 [] (parts.Embedded (codes "abc") ∷ [])) (answers.Planned plans.Inline ∷ answers.Done 1 ∷ []) 1 3 0 0
      ∷ group (events.Build (renderer 1) 2 [] (parts.BlobRange 1 0 2 ∷ parts.BlobRange 1 1 2 ∷ [])) (answers.Planned plans.None ∷ answers.Done 2 ∷ []) 1 3 0 0
      ∷ group (events.Drop (renderer 1) 1) (answers.Good ∷ []) 1 3 0 0
      ∷ group (events.Read (renderer 1) (reader 1) 2 0 None) (answers.Opened (reader 1) 4 [] ∷ []) 1 3 0 0
      ∷ group (events.Step (reader 1)) (answers.Given (reader 1) (codes "abbc") ∷ []) 1 3 0 0
      ∷ group events.Finish (answers.Good ∷ []) 0 0 0 0
      ∷ [];
}
