-- Wrong transcripts of worked sessions: files, URLs and data handles. Each has another answer, another tally, or an answer of settling less or more. Own.
use Rattle.std.specs.Prelude.{List, [], ◌∷◌, codes, Some, None, pos}
use Rattle.session_script.specs.declared.event.Event.TheVariants as events
use Rattle.session_script.specs.declared.event.Part.TheVariants as parts
use Rattle.blob_words.specs.declared.plan.Plan.TheVariants as plans
use Rattle.answer_text.specs.declared.answer.Answer.TheVariants as answers
use Rattle.blob_model.specs.Worked.{Worked, group, renderer, reader, replaced}
use Rattle.blob_model.specs.RowsSources.{file_changes, blob_urls, data_handle}

-- file_changes: another byte
abbrev pub file_changes_other_byte : Worked
file_changes_other_byte = replaced 4 (group (events.Step (reader 1)) (answers.Given (reader 1) (codes "em") ∷ []) 0 0 0 0) file_changes

-- file_changes: another tally
abbrev pub file_changes_other_tally : Worked
file_changes_other_tally = replaced 2 (group (events.Build (renderer 1) 1 [] (parts.FileRange (codes "a.txt") 1 4 5 ∷ []))
    (answers.Planned plans.None ∷ answers.Done 1 ∷ []) 0 1 0 0) file_changes

-- file_changes: an answer of settling is missing
abbrev pub file_changes_less : Worked
file_changes_less = replaced 2 (group (events.Build (renderer 1) 1 [] (parts.FileRange (codes "a.txt") 1 4 5 ∷ [])) (answers.Planned plans.None ∷ []) 0 0 0 0)
    file_changes

-- file_changes: a further answer of settling
abbrev pub file_changes_more : Worked
file_changes_more = replaced 2 (group (events.Build (renderer 1) 1 [] (parts.FileRange (codes "a.txt") 1 4 5 ∷ []))
    (answers.Planned plans.None ∷ answers.Done 1 ∷ answers.Dropped 1 ∷ []) 0 0 0 0) file_changes

-- file_changes: a file is looked at when its reader opens alone
abbrev pub file_changes_checked_at_open : Worked
file_changes_checked_at_open = replaced 7 (group (events.Step (reader 1)) (answers.Given (reader 1) (codes "lo") ∷ []) 0 0 0 0) file_changes

-- blob_urls: another byte
abbrev pub blob_urls_other_byte : Worked
blob_urls_other_byte = replaced 14 (group (events.Step (reader 1)) (answers.Given (reader 1) (codes "d") ∷ []) 1 3 0 0) blob_urls

-- blob_urls: another tally
abbrev pub blob_urls_other_tally : Worked
blob_urls_other_tally = replaced 3 (group (events.Build (renderer 1) 1 [] (parts.Embedded (codes "abc") ∷ []))
    (answers.Planned plans.Inline ∷ answers.Done 1 ∷ []) 1 4 0 0) blob_urls

-- blob_urls: an answer of settling is missing
abbrev pub blob_urls_less : Worked
blob_urls_less = replaced 16 (group (events.Build (renderer 1) 2 [] (parts.Embedded (codes "d") ∷ [])) (answers.Planned plans.Inline ∷ []) 1 1 0 0) blob_urls

-- blob_urls: a further answer of settling
abbrev pub blob_urls_more : Worked
blob_urls_more = replaced 3 (group (events.Build (renderer 1) 1 [] (parts.Embedded (codes "abc") ∷ []))
    (answers.Planned plans.Inline ∷ answers.Done 1 ∷ answers.Dropped 1 ∷ []) 1 3 0 0) blob_urls

-- blob_urls: the URL of a dead renderer resolves
abbrev pub blob_urls_dead_url_held : Worked
blob_urls_dead_url_held = replaced 20 (group (events.Fetch (renderer 3) (reader 2) (codes "blob:https://a.test/00000000-0000-0000-0000-000000000009") 0 None)
    (answers.Opened (reader 2) 1 [] ∷ []) 1 1 0 0) (replaced 19 (group (events.Die (renderer 1)) (answers.Good ∷ []) 1 1 0 0) blob_urls)

-- blob_urls: and is resolved after its end
abbrev pub blob_urls_dead_url_resolved : Worked
blob_urls_dead_url_resolved =
    replaced 20 (group (events.Fetch (renderer 3) (reader 2) (codes "blob:https://a.test/00000000-0000-0000-0000-000000000009") 0 None)
    (answers.Opened (reader 2) 1 [] ∷ []) 0 0 0 0) blob_urls

-- data_handle: another byte
abbrev pub data_handle_other_byte : Worked
data_handle_other_byte = replaced 6 (group (events.Step (reader 2)) (answers.Given (reader 2) (codes "y{") ∷ []) 0 0 0 0) data_handle

-- data_handle: another tally
abbrev pub data_handle_other_tally : Worked
data_handle_other_tally = replaced 1 (group (events.Build (renderer 1) 1 [] (parts.HandleRange 0 0 3 ∷ [])) (answers.Planned plans.None ∷ answers.Done 1 ∷ []) 0
    1 0 0) data_handle

-- data_handle: an answer of settling is missing
abbrev pub data_handle_less : Worked
data_handle_less = replaced 2 (group (events.Slice (renderer 1) 2 1 (Some (pos 1)) None []) (answers.Planned plans.None ∷ []) 0 0 0 0) data_handle

-- data_handle: a further answer of settling
abbrev pub data_handle_more : Worked
data_handle_more = replaced 1 (group (events.Build (renderer 1) 1 [] (parts.HandleRange 0 0 3 ∷ []))
    (answers.Planned plans.None ∷ answers.Done 1 ∷ answers.Dropped 1 ∷ []) 0 0 0 0) data_handle

-- all of these
abbrev pub wrong_sources : List Worked
wrong_sources =
    file_changes_other_byte
    ∷ file_changes_other_tally
    ∷ file_changes_less
    ∷ file_changes_more
    ∷ file_changes_checked_at_open
    ∷ blob_urls_other_byte
    ∷ blob_urls_other_tally
    ∷ blob_urls_less
    ∷ blob_urls_more
    ∷ blob_urls_dead_url_held
    ∷ blob_urls_dead_url_resolved
    ∷ data_handle_other_byte
    ∷ data_handle_other_tally
    ∷ data_handle_less
    ∷ data_handle_more
    ∷ []
