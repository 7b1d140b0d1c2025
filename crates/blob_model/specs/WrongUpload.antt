-- Wrong transcripts of worked sessions: an upload, an image and a worker. Each has another answer, another tally, or an answer of settling less or more. Own.
use Rattle.std.specs.Prelude.{List, [], ◌∷◌, codes}
use Rattle.session_script.specs.declared.event.Event.TheVariants as events
use Rattle.session_script.specs.declared.event.Part.TheVariants as parts
use Rattle.blob_words.specs.declared.plan.Plan.TheVariants as plans
use Rattle.answer_text.specs.declared.answer.Answer.TheVariants as answers
use Rattle.blob_model.specs.Worked.{Worked, group, renderer, reader, replaced}
use Rattle.blob_model.specs.RowsUpload.{upload}

-- upload: another byte
abbrev pub upload_other_byte : Worked
upload_other_byte = replaced 11 (group (events.Step (reader 2)) (answers.Given (reader 2) (45 ∷ 45 ∷ 120 ∷ 255 ∷ 216 ∷ 255 ∷ 224 ∷ 45 ∷ 45 ∷ 120 ∷ 45 ∷ 46 ∷ [])
    ∷ []) 2 8 0 0) upload

-- upload: another tally
abbrev pub upload_other_tally : Worked
upload_other_tally = replaced 3 (group (events.Build (renderer 1) 1 (codes "image/jpeg") (parts.FileRange (codes "photo.jpg") 0 12 1700000000 ∷ []))
    (answers.Planned plans.None ∷ answers.Done 1 ∷ []) 0 1 0 0) upload

-- upload: an answer of settling is missing
abbrev pub upload_less : Worked
upload_less = replaced 19 (group events.Finish (answers.Good ∷ []) 0 0 0 0) upload

-- upload: a further answer of settling
abbrev pub upload_more : Worked
upload_more = replaced 3 (group (events.Build (renderer 1) 1 (codes "image/jpeg") (parts.FileRange (codes "photo.jpg") 0 12 1700000000 ∷ []))
    (answers.Planned plans.None ∷ answers.Done 1 ∷ answers.Dropped 1 ∷ []) 0 0 0 0) upload

-- all of these
abbrev pub wrong_upload : List Worked
wrong_upload =
    upload_other_byte
    ∷ upload_other_tally
    ∷ upload_less
    ∷ upload_more
    ∷ []
