-- Wrong transcripts of worked sessions: lines that are refused or break their blob. Each has another answer, another tally, or an answer of settling less or
-- more. Own.
use Rattle.std.specs.Prelude.{List, [], ◌∷◌, codes}
use Rattle.session_script.specs.declared.event.Event.TheVariants as events
use Rattle.session_script.specs.declared.event.Part.TheVariants as parts
use Rattle.blob_words.specs.declared.plan.Plan.TheVariants as plans
use Rattle.blob_words.specs.declared.status.Status.TheVariants as statuses
use Rattle.answer_text.specs.declared.answer.Answer.TheVariants as answers
use Rattle.blob_model.specs.Worked.{Worked, group, renderer, replaced}
use Rattle.blob_model.specs.RowsBroken.{before_a_fault, broken_at_line}

-- before_a_fault: another answer
abbrev pub before_a_fault_other_answer : Worked
before_a_fault_other_answer = replaced 0 (group (events.Spawn (renderer 1) (codes "https://a.test")) (answers.Nothing ∷ []) 0 0 0 0) before_a_fault

-- before_a_fault: another tally
abbrev pub before_a_fault_other_tally : Worked
before_a_fault_other_tally = replaced 0 (group (events.Spawn (renderer 1) (codes "https://a.test")) (answers.Good ∷ []) 0 1 0 0) before_a_fault

-- before_a_fault: a further answer of settling
abbrev pub before_a_fault_more : Worked
before_a_fault_more = replaced 0 (group (events.Spawn (renderer 1) (codes "https://a.test")) (answers.Good ∷ answers.Done 1 ∷ []) 0 0 0 0) before_a_fault

-- broken_at_line: another plan
abbrev pub broken_at_line_other_plan : Worked
broken_at_line_other_plan = replaced 8 (group (events.Build (renderer 1) 5 [] []) (answers.Planned plans.Inline ∷ answers.Done 5 ∷ []) 0 0 0 0) broken_at_line

-- broken_at_line: another tally
abbrev pub broken_at_line_other_tally : Worked
broken_at_line_other_tally = replaced 2 (group (events.Build (renderer 1) 1 [] (parts.BlobRange 1 0 0 ∷ [])) (answers.Broken 1 statuses.InvalidArguments ∷ []) 0
    1 0 0) broken_at_line

-- broken_at_line: an answer of settling is missing
abbrev pub broken_at_line_less : Worked
broken_at_line_less = replaced 8 (group (events.Build (renderer 1) 5 [] []) (answers.Planned plans.None ∷ []) 0 0 0 0) broken_at_line

-- broken_at_line: a further answer of settling
abbrev pub broken_at_line_more : Worked
broken_at_line_more = replaced 2 (group (events.Build (renderer 1) 1 [] (parts.BlobRange 1 0 0 ∷ []))
    (answers.Broken 1 statuses.InvalidArguments ∷ answers.Done 1 ∷ []) 0 0 0 0) broken_at_line

-- all of these
abbrev pub wrong_broken : List Worked
wrong_broken =
    before_a_fault_other_answer
    ∷ before_a_fault_other_tally
    ∷ before_a_fault_more
    ∷ broken_at_line_other_plan
    ∷ broken_at_line_other_tally
    ∷ broken_at_line_less
    ∷ broken_at_line_more
    ∷ []
