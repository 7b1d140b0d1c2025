-- Wrong transcripts of worked sessions: blobs that are built from one another. Each has another answer, another tally, or an answer of settling less or more.
-- Own.
use Rattle.std.specs.Prelude.{List, [], ◌∷◌, codes}
use Rattle.session_script.specs.declared.event.Event.TheVariants as events
use Rattle.session_script.specs.declared.event.Part.TheVariants as parts
use Rattle.blob_words.specs.declared.plan.Plan.TheVariants as plans
use Rattle.answer_text.specs.declared.answer.Answer.TheVariants as answers
use Rattle.blob_model.specs.Worked.{Worked, group, renderer, replaced}
use Rattle.blob_model.specs.RowsChains.{chain_dropped, chain_done}

-- chain_dropped: another plan
abbrev pub chain_dropped_other_plan : Worked
chain_dropped_other_plan = replaced 1 (group (events.Build (renderer 1) 1 [] (parts.Asked 1 ∷ [])) (answers.Planned plans.Inline ∷ answers.Granted 1 ∷ []) 1 1 0
    0) chain_dropped

-- chain_dropped: another tally
abbrev pub chain_dropped_other_tally : Worked
chain_dropped_other_tally = replaced 1 (group (events.Build (renderer 1) 1 [] (parts.Asked 1 ∷ [])) (answers.Planned (plans.Shared 1) ∷ answers.Granted 1 ∷ [])
    1 2 0 0) chain_dropped

-- chain_dropped: an answer of settling is missing
abbrev pub chain_dropped_less : Worked
chain_dropped_less = replaced 24 (group (events.Drop (renderer 1) 12) (answers.Good ∷ answers.Dropped 12 ∷ answers.Dropped 11 ∷ answers.Dropped 10
    ∷ answers.Dropped 9 ∷ answers.Dropped 8 ∷ answers.Dropped 7 ∷ answers.Dropped 6 ∷ answers.Dropped 5 ∷ answers.Dropped 4 ∷ answers.Dropped 3
    ∷ answers.Dropped 2 ∷ []) 0 0 0 0) chain_dropped

-- chain_dropped: a further answer of settling
abbrev pub chain_dropped_more : Worked
chain_dropped_more = replaced 1 (group (events.Build (renderer 1) 1 [] (parts.Asked 1 ∷ []))
    (answers.Planned (plans.Shared 1) ∷ answers.Granted 1 ∷ answers.Done 1 ∷ []) 1 1 0 0) chain_dropped

-- chain_done: another plan
abbrev pub chain_done_other_plan : Worked
chain_done_other_plan = replaced 1 (group (events.Build (renderer 1) 1 [] (parts.Asked 1 ∷ [])) (answers.Planned plans.Inline ∷ answers.Granted 1 ∷ []) 1 1 0 0)
    chain_done

-- chain_done: another tally
abbrev pub chain_done_other_tally : Worked
chain_done_other_tally = replaced 1 (group (events.Build (renderer 1) 1 [] (parts.Asked 1 ∷ [])) (answers.Planned (plans.Shared 1) ∷ answers.Granted 1 ∷ []) 1 2
    0 0) chain_done

-- chain_done: an answer of settling is missing
abbrev pub chain_done_less : Worked
chain_done_less = replaced 13 (group (events.Segment (renderer 1) 1 0 (codes "a")) (answers.Taken 0 ∷ answers.Done 1 ∷ answers.Done 2 ∷ answers.Done 3
    ∷ answers.Done 4 ∷ answers.Done 5 ∷ answers.Done 6 ∷ answers.Done 7 ∷ answers.Done 8 ∷ answers.Done 9 ∷ answers.Done 10 ∷ answers.Done 11 ∷ []) 1 1 0 0)
    chain_done

-- chain_done: a further answer of settling
abbrev pub chain_done_more : Worked
chain_done_more = replaced 1 (group (events.Build (renderer 1) 1 [] (parts.Asked 1 ∷ [])) (answers.Planned (plans.Shared 1) ∷ answers.Granted 1 ∷ answers.Done 1
    ∷ []) 1 1 0 0) chain_done

-- all of these
abbrev pub wrong_chains : List Worked
wrong_chains =
    chain_dropped_other_plan
    ∷ chain_dropped_other_tally
    ∷ chain_dropped_less
    ∷ chain_dropped_more
    ∷ chain_done_other_plan
    ∷ chain_done_other_tally
    ∷ chain_done_less
    ∷ chain_done_more
    ∷ []
