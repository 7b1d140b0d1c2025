-- Worked sessions: blobs that are built from one another. Own.
use Rattle.std.specs.Prelude.{[], ◌∷◌, codes, Some, pos}
use Rattle.session_script.specs.declared.event.Event.TheVariants as events
use Rattle.session_script.specs.declared.event.Part.TheVariants as parts
use Rattle.blob_words.specs.declared.plan.Plan.TheVariants as plans
use Rattle.answer_text.specs.declared.answer.Answer.TheVariants as answers
use Rattle.blob_words.specs.declared.version.Version.TheVariants.{One}
use Rattle.blob_model.specs.Worked.{Worked, group, renderer, no_handles, plain}

-- a chain of twelve slices whose last handle goes
abbrev pub chain_dropped : Worked
chain_dropped = record {
  outside = no_handles;
  version = One;
  limits = plain;
  groups =
      group (events.Spawn (renderer 1) (codes "https://a.test")) (answers.Good ∷ []) 0 0 0 0
      ∷ group (events.Build (renderer 1) 1 [] (parts.Asked 1 ∷ [])) (answers.Planned (plans.Shared 1) ∷ answers.Granted 1 ∷ []) 1 1 0 0
      ∷ group (events.Slice (renderer 1) 2 1 (Some (pos 0)) (Some (pos 1)) []) (answers.Planned plans.None ∷ []) 1 1 0 0
      ∷ group (events.Slice (renderer 1) 3 2 (Some (pos 0)) (Some (pos 1)) []) (answers.Planned plans.None ∷ []) 1 1 0 0
      ∷ group (events.Slice (renderer 1) 4 3 (Some (pos 0)) (Some (pos 1)) []) (answers.Planned plans.None ∷ []) 1 1 0 0
      ∷ group (events.Slice (renderer 1) 5 4 (Some (pos 0)) (Some (pos 1)) []) (answers.Planned plans.None ∷ []) 1 1 0 0
      ∷ group (events.Slice (renderer 1) 6 5 (Some (pos 0)) (Some (pos 1)) []) (answers.Planned plans.None ∷ []) 1 1 0 0
      ∷ group (events.Slice (renderer 1) 7 6 (Some (pos 0)) (Some (pos 1)) []) (answers.Planned plans.None ∷ []) 1 1 0 0
      ∷ group (events.Slice (renderer 1) 8 7 (Some (pos 0)) (Some (pos 1)) []) (answers.Planned plans.None ∷ []) 1 1 0 0
      ∷ group (events.Slice (renderer 1) 9 8 (Some (pos 0)) (Some (pos 1)) []) (answers.Planned plans.None ∷ []) 1 1 0 0
      ∷ group (events.Slice (renderer 1) 10 9 (Some (pos 0)) (Some (pos 1)) []) (answers.Planned plans.None ∷ []) 1 1 0 0
      ∷ group (events.Slice (renderer 1) 11 10 (Some (pos 0)) (Some (pos 1)) []) (answers.Planned plans.None ∷ []) 1 1 0 0
      ∷ group (events.Slice (renderer 1) 12 11 (Some (pos 0)) (Some (pos 1)) []) (answers.Planned plans.None ∷ []) 1 1 0 0
      ∷ group (events.Drop (renderer 1) 1) (answers.Good ∷ []) 1 1 0 0
      ∷ group (events.Drop (renderer 1) 2) (answers.Good ∷ []) 1 1 0 0
      ∷ group (events.Drop (renderer 1) 3) (answers.Good ∷ []) 1 1 0 0
      ∷ group (events.Drop (renderer 1) 4) (answers.Good ∷ []) 1 1 0 0
      ∷ group (events.Drop (renderer 1) 5) (answers.Good ∷ []) 1 1 0 0
      ∷ group (events.Drop (renderer 1) 6) (answers.Good ∷ []) 1 1 0 0
      ∷ group (events.Drop (renderer 1) 7) (answers.Good ∷ []) 1 1 0 0
      ∷ group (events.Drop (renderer 1) 8) (answers.Good ∷ []) 1 1 0 0
      ∷ group (events.Drop (renderer 1) 9) (answers.Good ∷ []) 1 1 0 0
      ∷ group (events.Drop (renderer 1) 10) (answers.Good ∷ []) 1 1 0 0
      ∷ group (events.Drop (renderer 1) 11) (answers.Good ∷ []) 1 1 0 0
      ∷ group (events.Drop (renderer 1) 12) (answers.Good ∷ answers.Dropped 12 ∷ answers.Dropped 11 ∷ answers.Dropped 10 ∷ answers.Dropped 9 ∷ answers.Dropped 8
      ∷ answers.Dropped 7 ∷ answers.Dropped 6 ∷ answers.Dropped 5 ∷ answers.Dropped 4 ∷ answers.Dropped 3 ∷ answers.Dropped 2 ∷ answers.Dropped 1 ∷ []) 0 0
      0 0
      ∷ group events.Finish (answers.Good ∷ []) 0 0 0 0
      ∷ [];
}

-- the same chain gets done
abbrev pub chain_done : Worked
chain_done = record {
  outside = no_handles;
  version = One;
  limits = plain;
  groups =
      group (events.Spawn (renderer 1) (codes "https://a.test")) (answers.Good ∷ []) 0 0 0 0
      ∷ group (events.Build (renderer 1) 1 [] (parts.Asked 1 ∷ [])) (answers.Planned (plans.Shared 1) ∷ answers.Granted 1 ∷ []) 1 1 0 0
      ∷ group (events.Slice (renderer 1) 2 1 (Some (pos 0)) (Some (pos 1)) []) (answers.Planned plans.None ∷ []) 1 1 0 0
      ∷ group (events.Slice (renderer 1) 3 2 (Some (pos 0)) (Some (pos 1)) []) (answers.Planned plans.None ∷ []) 1 1 0 0
      ∷ group (events.Slice (renderer 1) 4 3 (Some (pos 0)) (Some (pos 1)) []) (answers.Planned plans.None ∷ []) 1 1 0 0
      ∷ group (events.Slice (renderer 1) 5 4 (Some (pos 0)) (Some (pos 1)) []) (answers.Planned plans.None ∷ []) 1 1 0 0
      ∷ group (events.Slice (renderer 1) 6 5 (Some (pos 0)) (Some (pos 1)) []) (answers.Planned plans.None ∷ []) 1 1 0 0
      ∷ group (events.Slice (renderer 1) 7 6 (Some (pos 0)) (Some (pos 1)) []) (answers.Planned plans.None ∷ []) 1 1 0 0
      ∷ group (events.Slice (renderer 1) 8 7 (Some (pos 0)) (Some (pos 1)) []) (answers.Planned plans.None ∷ []) 1 1 0 0
      ∷ group (events.Slice (renderer 1) 9 8 (Some (pos 0)) (Some (pos 1)) []) (answers.Planned plans.None ∷ []) 1 1 0 0
      ∷ group (events.Slice (renderer 1) 10 9 (Some (pos 0)) (Some (pos 1)) []) (answers.Planned plans.None ∷ []) 1 1 0 0
      ∷ group (events.Slice (renderer 1) 11 10 (Some (pos 0)) (Some (pos 1)) []) (answers.Planned plans.None ∷ []) 1 1 0 0
      ∷ group (events.Slice (renderer 1) 12 11 (Some (pos 0)) (Some (pos 1)) []) (answers.Planned plans.None ∷ []) 1 1 0 0
      ∷ group (events.Segment (renderer 1) 1 0 (codes "a")) (answers.Taken 0 ∷ answers.Done 1 ∷ answers.Done 2 ∷ answers.Done 3 ∷ answers.Done 4
      ∷ answers.Done 5 ∷ answers.Done 6 ∷ answers.Done 7 ∷ answers.Done 8 ∷ answers.Done 9 ∷ answers.Done 10 ∷ answers.Done 11 ∷ answers.Done 12 ∷ []) 1 1 0
      0
      ∷ group events.Finish (answers.Good ∷ []) 0 0 0 0
      ∷ [];
}
