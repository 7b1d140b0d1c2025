-- Wrong transcripts of worked sessions: blobs wait for room in memory. Each has another answer, another tally, or an answer of settling less or more. Own.
use Rattle.std.specs.Prelude.{List, [], ◌∷◌, codes}
use Rattle.session_script.specs.declared.event.Event.TheVariants as events
use Rattle.session_script.specs.declared.event.Part.TheVariants as parts
use Rattle.blob_words.specs.declared.plan.Plan.TheVariants as plans
use Rattle.answer_text.specs.declared.answer.Answer.TheVariants as answers
use Rattle.blob_model.specs.Worked.{Worked, group, renderer, reader, replaced}
use Rattle.blob_model.specs.RowsQuota.{sent_again, head_first}

-- sent_again: another byte
abbrev pub sent_again_other_byte : Worked
sent_again_other_byte = replaced 6 (group (events.Step (reader 1)) (answers.Given (reader 1) (codes "xy{") ∷ []) 1 3 0 0) sent_again

-- sent_again: another tally
abbrev pub sent_again_other_tally : Worked
sent_again_other_tally = replaced 1 (group (events.Build (renderer 1) 1 [] (parts.Embedded (1 ∷ 2 ∷ 3 ∷ 4 ∷ 5 ∷ 6 ∷ []) ∷ []))
    (answers.Planned plans.Inline ∷ answers.Done 1 ∷ []) 1 7 0 0) sent_again

-- sent_again: an answer of settling is missing
abbrev pub sent_again_less : Worked
sent_again_less = replaced 4 (group (events.Segment (renderer 1) 2 0 (codes "xyz")) (answers.Taken 0 ∷ []) 1 3 0 0) sent_again

-- sent_again: a further answer of settling
abbrev pub sent_again_more : Worked
sent_again_more = replaced 1 (group (events.Build (renderer 1) 1 [] (parts.Embedded (1 ∷ 2 ∷ 3 ∷ 4 ∷ 5 ∷ 6 ∷ []) ∷ []))
    (answers.Planned plans.Inline ∷ answers.Done 1 ∷ answers.Dropped 1 ∷ []) 1 6 0 0) sent_again

-- head_first: another plan
abbrev pub head_first_other_plan : Worked
head_first_other_plan = replaced 1 (group (events.Build (renderer 1) 1 [] (parts.Asked 4 ∷ [])) (answers.Planned plans.Inline ∷ answers.Granted 1 ∷ []) 1 4 0 0)
    head_first

-- head_first: another tally
abbrev pub head_first_other_tally : Worked
head_first_other_tally = replaced 1 (group (events.Build (renderer 1) 1 [] (parts.Asked 4 ∷ [])) (answers.Planned (plans.Shared 1) ∷ answers.Granted 1 ∷ []) 1 5
    0 0) head_first

-- head_first: an answer of settling is missing
abbrev pub head_first_less : Worked
head_first_less = replaced 6 (group events.Finish (answers.Good ∷ answers.Dropped 3 ∷ []) 0 0 0 0) head_first

-- head_first: a further answer of settling
abbrev pub head_first_more : Worked
head_first_more = replaced 1 (group (events.Build (renderer 1) 1 [] (parts.Asked 4 ∷ [])) (answers.Planned (plans.Shared 1) ∷ answers.Granted 1 ∷ answers.Done 1
    ∷ []) 1 4 0 0) head_first

-- head_first: a later blob that fits is granted before the head
abbrev pub head_first_head_overtaken : Worked
head_first_head_overtaken = replaced 3 (group (events.Build (renderer 1) 3 [] (parts.Embedded (codes "ab") ∷ []))
    (answers.Planned (plans.Shared 1) ∷ answers.Granted 3 ∷ []) 2 6 0 0) head_first

-- all of these
abbrev pub wrong_quota : List Worked
wrong_quota =
    sent_again_other_byte
    ∷ sent_again_other_tally
    ∷ sent_again_less
    ∷ sent_again_more
    ∷ head_first_other_plan
    ∷ head_first_other_tally
    ∷ head_first_less
    ∷ head_first_more
    ∷ head_first_head_overtaken
    ∷ []
