-- Wrong transcripts of worked sessions: bytes come in segments. Each has another answer, another tally, or an answer of settling less or more. Own.
use Rattle.std.specs.Prelude.{List, [], ◌∷◌, codes}
use Rattle.session_script.specs.declared.event.Event.TheVariants as events
use Rattle.session_script.specs.declared.event.Part.TheVariants as parts
use Rattle.blob_words.specs.declared.plan.Plan.TheVariants as plans
use Rattle.blob_words.specs.declared.status.Status.TheVariants as statuses
use Rattle.answer_text.specs.declared.answer.Answer.TheVariants as answers
use Rattle.blob_model.specs.Worked.{Worked, group, renderer, reader, replaced}
use Rattle.blob_model.specs.RowsTransit.{unfinished_source, builder_dies, nobody_holds, out_of_order}

-- unfinished_source: another byte
abbrev pub unfinished_source_other_byte : Worked
unfinished_source_other_byte = replaced 8 (group (events.Step (reader 1)) (answers.Given (reader 1) (101 ∷ 102 ∷ 34 ∷ []) ∷ []) 2 7 0 0) unfinished_source

-- unfinished_source: another tally
abbrev pub unfinished_source_other_tally : Worked
unfinished_source_other_tally = replaced 1 (group (events.Build (renderer 1) 1 [] (parts.Asked 6 ∷ []))
    (answers.Planned (plans.Shared 2) ∷ answers.Granted 1 ∷ []) 1 7 0 0) unfinished_source

-- unfinished_source: an answer of settling is missing
abbrev pub unfinished_source_less : Worked
unfinished_source_less = replaced 6 (group (events.Segment (renderer 1) 1 0 (codes "abcd")) (answers.Taken 0 ∷ answers.Done 1 ∷ []) 2 7 0 0) unfinished_source

-- unfinished_source: a further answer of settling
abbrev pub unfinished_source_more : Worked
unfinished_source_more = replaced 1 (group (events.Build (renderer 1) 1 [] (parts.Asked 6 ∷ []))
    (answers.Planned (plans.Shared 2) ∷ answers.Granted 1 ∷ answers.Done 1 ∷ []) 1 6 0 0) unfinished_source

-- builder_dies: another plan
abbrev pub builder_dies_other_plan : Worked
builder_dies_other_plan = replaced 3 (group (events.Build (renderer 1) 1 [] (parts.Asked 6 ∷ [])) (answers.Planned plans.Inline ∷ answers.Granted 1 ∷ []) 1 6 0
    0) builder_dies

-- builder_dies: another tally
abbrev pub builder_dies_other_tally : Worked
builder_dies_other_tally = replaced 3 (group (events.Build (renderer 1) 1 [] (parts.Asked 6 ∷ [])) (answers.Planned (plans.Shared 2) ∷ answers.Granted 1 ∷ []) 1
    7 0 0) builder_dies

-- builder_dies: an answer of settling is missing
abbrev pub builder_dies_less : Worked
builder_dies_less = replaced 9 (group (events.Die (renderer 1)) (answers.Good ∷ answers.Broken 1 statuses.SourceDied ∷ []) 0 0 0 0) builder_dies

-- builder_dies: a further answer of settling
abbrev pub builder_dies_more : Worked
builder_dies_more = replaced 3 (group (events.Build (renderer 1) 1 [] (parts.Asked 6 ∷ []))
    (answers.Planned (plans.Shared 2) ∷ answers.Granted 1 ∷ answers.Done 1 ∷ []) 1 6 0 0) builder_dies

-- nobody_holds: another plan
abbrev pub nobody_holds_other_plan : Worked
nobody_holds_other_plan = replaced 1 (group (events.Build (renderer 1) 1 [] (parts.Asked 6 ∷ [])) (answers.Planned plans.Inline ∷ answers.Granted 1 ∷ []) 1 6 0
    0) nobody_holds

-- nobody_holds: another tally
abbrev pub nobody_holds_other_tally : Worked
nobody_holds_other_tally = replaced 1 (group (events.Build (renderer 1) 1 [] (parts.Asked 6 ∷ [])) (answers.Planned (plans.Shared 2) ∷ answers.Granted 1 ∷ []) 1
    7 0 0) nobody_holds

-- nobody_holds: an answer of settling is missing
abbrev pub nobody_holds_less : Worked
nobody_holds_less = replaced 2 (group (events.Die (renderer 1)) (answers.Good ∷ []) 0 0 0 0) nobody_holds

-- nobody_holds: a further answer of settling
abbrev pub nobody_holds_more : Worked
nobody_holds_more = replaced 1 (group (events.Build (renderer 1) 1 [] (parts.Asked 6 ∷ []))
    (answers.Planned (plans.Shared 2) ∷ answers.Granted 1 ∷ answers.Done 1 ∷ []) 1 6 0 0) nobody_holds

-- out_of_order: another byte
abbrev pub out_of_order_other_byte : Worked
out_of_order_other_byte = replaced 11 (group (events.Step (reader 1)) (answers.Given (reader 1) (codes "ik") ∷ []) 2 10 0 0) out_of_order

-- out_of_order: another tally
abbrev pub out_of_order_other_tally : Worked
out_of_order_other_tally = replaced 1 (group (events.Build (renderer 1) 1 [] (parts.Asked 10 ∷ [])) (answers.Planned (plans.Shared 3) ∷ answers.Granted 1 ∷ [])
    2 11 0 0) out_of_order

-- out_of_order: an answer of settling is missing
abbrev pub out_of_order_less : Worked
out_of_order_less = replaced 7 (group (events.Segment (renderer 1) 1 1 (codes "efgh")) (answers.Taken 1 ∷ []) 2 10 0 0) out_of_order

-- out_of_order: a further answer of settling
abbrev pub out_of_order_more : Worked
out_of_order_more = replaced 1 (group (events.Build (renderer 1) 1 [] (parts.Asked 10 ∷ []))
    (answers.Planned (plans.Shared 3) ∷ answers.Granted 1 ∷ answers.Done 1 ∷ []) 2 10 0 0) out_of_order

-- out_of_order: segments are put together as they come
abbrev pub out_of_order_by_arrival : Worked
out_of_order_by_arrival = replaced 10 (group (events.Step (reader 1)) (answers.Given (reader 1) (codes "ijabcdef") ∷ []) 2 10 0 0) out_of_order

-- all of these
abbrev pub wrong_transit : List Worked
wrong_transit =
    unfinished_source_other_byte
    ∷ unfinished_source_other_tally
    ∷ unfinished_source_less
    ∷ unfinished_source_more
    ∷ builder_dies_other_plan
    ∷ builder_dies_other_tally
    ∷ builder_dies_less
    ∷ builder_dies_more
    ∷ nobody_holds_other_plan
    ∷ nobody_holds_other_tally
    ∷ nobody_holds_less
    ∷ nobody_holds_more
    ∷ out_of_order_other_byte
    ∷ out_of_order_other_tally
    ∷ out_of_order_less
    ∷ out_of_order_more
    ∷ out_of_order_by_arrival
    ∷ []
