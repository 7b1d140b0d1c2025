-- Wrong transcripts of worked sessions: blobs are built, sliced and read. Each has another answer, another tally, or an answer of settling less or more. Own.
use Rattle.std.specs.Prelude.{List, [], ◌∷◌, codes, Some, None, pos}
use Rattle.session_script.specs.declared.event.Event.TheVariants as events
use Rattle.session_script.specs.declared.event.Part.TheVariants as parts
use Rattle.blob_words.specs.declared.plan.Plan.TheVariants as plans
use Rattle.blob_words.specs.declared.status.Status.TheVariants as statuses
use Rattle.answer_text.specs.declared.answer.Answer.TheVariants as answers
use Rattle.blob_model.specs.Worked.{Worked, group, renderer, reader, replaced}
use Rattle.blob_model.specs.RowsReads.{short_reads, slices, cuts, one_piece_stays, viewed_twice}

-- short_reads: another byte
abbrev pub short_reads_other_byte : Worked
short_reads_other_byte = replaced 4 (group (events.Step (reader 7)) (answers.Given (reader 7) (codes "d") ∷ []) 1 3 0 0) short_reads

-- short_reads: another tally
abbrev pub short_reads_other_tally : Worked
short_reads_other_tally = replaced 1 (group (events.Build (renderer 1) 1 [] (parts.Embedded (codes "abc") ∷ []))
    (answers.Planned plans.Inline ∷ answers.Done 1 ∷ []) 1 4 0 0) short_reads

-- short_reads: an answer of settling is missing
abbrev pub short_reads_less : Worked
short_reads_less = replaced 1 (group (events.Build (renderer 1) 1 [] (parts.Embedded (codes "abc") ∷ [])) (answers.Planned plans.Inline ∷ []) 1 3 0 0)
    short_reads

-- short_reads: a further answer of settling
abbrev pub short_reads_more : Worked
short_reads_more = replaced 1 (group (events.Build (renderer 1) 1 [] (parts.Embedded (codes "abc") ∷ []))
    (answers.Planned plans.Inline ∷ answers.Done 1 ∷ answers.Dropped 1 ∷ []) 1 3 0 0) short_reads

-- short_reads: every step waits
abbrev pub short_reads_always_waiting : Worked
short_reads_always_waiting = replaced 3 (group (events.Step (reader 7)) (answers.Wait (reader 7) ∷ []) 1 3 0 0) short_reads

-- short_reads: every build breaks
abbrev pub short_reads_always_breaking : Worked
short_reads_always_breaking = replaced 1 (group (events.Build (renderer 1) 1 [] (parts.Embedded (codes "abc") ∷ []))
    (answers.Broken 1 statuses.OutOfMemory ∷ []) 0 0 0 0) short_reads

-- slices: another byte
abbrev pub slices_other_byte : Worked
slices_other_byte = replaced 6 (group (events.Step (reader 1)) (answers.Given (reader 1) (codes "lp") ∷ []) 1 5 0 0) slices

-- slices: another tally
abbrev pub slices_other_tally : Worked
slices_other_tally = replaced 1 (group (events.Build (renderer 1) 1 [] (parts.Embedded (codes "hello") ∷ []))
    (answers.Planned plans.Inline ∷ answers.Done 1 ∷ []) 1 6 0 0) slices

-- slices: an answer of settling is missing
abbrev pub slices_less : Worked
slices_less = replaced 3 (group (events.Slice (renderer 1) 3 1 (Some (pos 4)) (Some (pos 1)) (codes "Text/Plain")) (answers.Planned plans.None ∷ []) 1 5 0 0)
    slices

-- slices: a further answer of settling
abbrev pub slices_more : Worked
slices_more = replaced 1 (group (events.Build (renderer 1) 1 [] (parts.Embedded (codes "hello") ∷ []))
    (answers.Planned plans.Inline ∷ answers.Done 1 ∷ answers.Dropped 1 ∷ []) 1 5 0 0) slices

-- slices: the start is raised to 0 before the size is added
abbrev pub slices_start_raised_first : Worked
slices_start_raised_first = replaced 6 (group (events.Step (reader 1)) (answers.Ended (reader 1) statuses.Done ∷ []) 1 5 0 0)
    (replaced 5 (group (events.Read (renderer 1) (reader 1) 2 0 None) (answers.Opened (reader 1) 0 [] ∷ []) 1 5 0 0) slices)

-- cuts: another byte
abbrev pub cuts_other_byte : Worked
cuts_other_byte = replaced 7 (group (events.Step (reader 1)) (answers.Given (reader 1) (4 ∷ 5 ∷ 7 ∷ []) ∷ []) 2 8 0 0) cuts

-- cuts: another tally
abbrev pub cuts_other_tally : Worked
cuts_other_tally = replaced 1 (group (events.Build (renderer 1) 1 [] (parts.Embedded (1 ∷ 2 ∷ 3 ∷ 4 ∷ 5 ∷ 6 ∷ 7 ∷ 8 ∷ []) ∷ []))
    (answers.Planned plans.Inline ∷ answers.Done 1 ∷ []) 2 9 0 0) cuts

-- cuts: an answer of settling is missing
abbrev pub cuts_less : Worked
cuts_less = replaced 3 (group (events.Slice (renderer 1) 3 2 (Some (pos 1)) (Some (pos 4)) []) (answers.Planned plans.None ∷ []) 2 8 0 0) cuts

-- cuts: a further answer of settling
abbrev pub cuts_more : Worked
cuts_more = replaced 1 (group (events.Build (renderer 1) 1 [] (parts.Embedded (1 ∷ 2 ∷ 3 ∷ 4 ∷ 5 ∷ 6 ∷ 7 ∷ 8 ∷ []) ∷ []))
    (answers.Planned plans.Inline ∷ answers.Done 1 ∷ answers.Dropped 1 ∷ []) 2 8 0 0) cuts

-- cuts: the pieces are freed with their builder's blob
abbrev pub cuts_freed_with_builder : Worked
cuts_freed_with_builder = replaced 4 (group (events.Drop (renderer 1) 1) (answers.Good ∷ []) 0 0 0 0) cuts

-- one_piece_stays: another plan
abbrev pub one_piece_stays_other_plan : Worked
one_piece_stays_other_plan = replaced 1 (group (events.Build (renderer 1) 1 [] (parts.Embedded (1 ∷ 2 ∷ 3 ∷ 4 ∷ 5 ∷ 6 ∷ 7 ∷ 8 ∷ []) ∷ []))
    (answers.Planned (plans.Shared 1) ∷ answers.Done 1 ∷ []) 2 8 0 0) one_piece_stays

-- one_piece_stays: another tally
abbrev pub one_piece_stays_other_tally : Worked
one_piece_stays_other_tally = replaced 1 (group (events.Build (renderer 1) 1 [] (parts.Embedded (1 ∷ 2 ∷ 3 ∷ 4 ∷ 5 ∷ 6 ∷ 7 ∷ 8 ∷ []) ∷ []))
    (answers.Planned plans.Inline ∷ answers.Done 1 ∷ []) 2 9 0 0) one_piece_stays

-- one_piece_stays: an answer of settling is missing
abbrev pub one_piece_stays_less : Worked
one_piece_stays_less = replaced 2 (group (events.Slice (renderer 1) 2 1 (Some (pos 5)) (Some (pos 7)) []) (answers.Planned plans.None ∷ []) 2 8 0 0)
    one_piece_stays

-- one_piece_stays: a further answer of settling
abbrev pub one_piece_stays_more : Worked
one_piece_stays_more = replaced 1 (group (events.Build (renderer 1) 1 [] (parts.Embedded (1 ∷ 2 ∷ 3 ∷ 4 ∷ 5 ∷ 6 ∷ 7 ∷ 8 ∷ []) ∷ []))
    (answers.Planned plans.Inline ∷ answers.Done 1 ∷ answers.Dropped 1 ∷ []) 2 8 0 0) one_piece_stays

-- one_piece_stays: a slice keeps all of its source
abbrev pub one_piece_stays_all_kept : Worked
one_piece_stays_all_kept = replaced 3 (group (events.Drop (renderer 1) 1) (answers.Good ∷ []) 2 8 0 0) one_piece_stays

-- viewed_twice: another byte
abbrev pub viewed_twice_other_byte : Worked
viewed_twice_other_byte = replaced 5 (group (events.Step (reader 1)) (answers.Given (reader 1) (codes "abbd") ∷ []) 1 3 0 0) viewed_twice

-- viewed_twice: another tally
abbrev pub viewed_twice_other_tally : Worked
viewed_twice_other_tally = replaced 1 (group (events.Build (renderer 1) 1 [] (parts.Embedded (codes "abc") ∷ []))
    (answers.Planned plans.Inline ∷ answers.Done 1 ∷ []) 1 4 0 0) viewed_twice

-- viewed_twice: an answer of settling is missing
abbrev pub viewed_twice_less : Worked
viewed_twice_less = replaced 2 (group (events.Build (renderer 1) 2 [] (parts.BlobRange 1 0 2 ∷ parts.BlobRange 1 1 2 ∷ [])) (answers.Planned plans.None ∷ []) 1
    3 0 0) viewed_twice

-- viewed_twice: a further answer of settling
abbrev pub viewed_twice_more : Worked
viewed_twice_more = replaced 1 (group (events.Build (renderer 1) 1 [] (parts.Embedded (codes "abc") ∷ []))
    (answers.Planned plans.Inline ∷ answers.Done 1 ∷ answers.Dropped 1 ∷ []) 1 3 0 0) viewed_twice

-- all of these
abbrev pub wrong_reads : List Worked
wrong_reads =
    short_reads_other_byte
    ∷ short_reads_other_tally
    ∷ short_reads_less
    ∷ short_reads_more
    ∷ short_reads_always_waiting
    ∷ short_reads_always_breaking
    ∷ slices_other_byte
    ∷ slices_other_tally
    ∷ slices_less
    ∷ slices_more
    ∷ slices_start_raised_first
    ∷ cuts_other_byte
    ∷ cuts_other_tally
    ∷ cuts_less
    ∷ cuts_more
    ∷ cuts_freed_with_builder
    ∷ one_piece_stays_other_plan
    ∷ one_piece_stays_other_tally
    ∷ one_piece_stays_less
    ∷ one_piece_stays_more
    ∷ one_piece_stays_all_kept
    ∷ viewed_twice_other_byte
    ∷ viewed_twice_other_tally
    ∷ viewed_twice_less
    ∷ viewed_twice_more
    ∷ []
