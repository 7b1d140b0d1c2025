-- Each answer of a legal history whose lines have a spelling has a text.
use Rattle.std.proofs.Common.{◌≡◌, ◌⊎◌, ℕ, zero, suc, ◌≤◌, ◌<◌, ◌==◌, ◌^◌, Bool, true, false, ◌||◌, List, [], ◌∷◌, ◌++◌, drop, reverse, length, refl, ap, subst, sym, ◌∙◌, inl, inr, ⊎_elim, arith, Option, Some, None, length-take, length-drop}
use Rattle.std.specs.Prelude.{min, IfSome, if◌then◌else◌}
use Rattle.std.specs.Option.{option_map_or, unwrap_or}
use Rattle.std.specs.List.{AllByRecursion, list_any}
use Rattle.std.proofs.lemmas.Bool.{and_parts}
use Rattle.blob_words.specs.FileName.{is_file_name}
use Rattle.blob_words.specs.declared.number.PieceNo.{PieceNo}
use Rattle.blob_words.specs.declared.number.JobNo.{JobNo}
use Rattle.blob_words.specs.declared.number.ReaderId.{ReaderId}
use Rattle.blob_words.specs.declared.plan.Plan.{Plan}
use Rattle.blob_words.specs.declared.plan.Plan.TheVariants as plans
use Rattle.blob_words.specs.declared.status.Status.{Status}
use Rattle.blob_words.specs.declared.status.Status.TheVariants as statuses
use Rattle.session_script.specs.Line.{HasSpelling}
use Rattle.text_fields.specs.Kind.{IsContentType}
use Rattle.text_fields.specs.Status.{is_told, is_end}
use Rattle.text_fields.specs.Status.{is_broken as has_broken_word}
use Rattle.session_script.specs.declared.event.Event.{Event}
use Rattle.session_script.specs.declared.event.Event.TheVariants as events
use Rattle.session_script.specs.declared.event.Part.{Part}
use Rattle.answer_text.specs.Text.{HasText, PlanHasText, PiecesHaveText}
use Rattle.answer_text.specs.declared.answer.Answer.{Answer}
use Rattle.answer_text.specs.declared.answer.Answer.TheVariants as answers
use Rattle.blob_model.specs.Session.{Session, page_limit}
use Rattle.blob_model.specs.History.{History, heard}
use Rattle.blob_model.specs.Parts.{parts_length}
use Rattle.blob_model.specs.Builds.{Cell, sent, filed, lent, Build, builds, build_in, size, cells_in, plan_told, slice_parts}
use Rattle.blob_model.specs.Standing.{ended, is_broken_status}
use Rattle.blob_model.specs.Transport.{has_all}
use Rattle.blob_model.specs.Handles.{has_handle, is_held}
use Rattle.blob_model.specs.Entries.{is_named, owns_entry}
use Rattle.blob_model.specs.Readers.{OpenReader, readers, reader_at, is_read}
use Rattle.blob_model.specs.Live.{is_rooted, live, is_live}
use Rattle.blob_model.specs.Pieces.{Piece, pieces, piece_with}
use Rattle.blob_model.specs.Pages.{Page, Place, in_page, in_memory, reserved, place, place_by, pages, next_page, page_with, lists, unlisted_place, planned_place}
use Rattle.blob_model.specs.Jobs.{Job, in_flight, next_job}
use Rattle.blob_model.specs.Tally.{job_left}
use Rattle.blob_model.specs.Waits.{is_waiting}
use Rattle.blob_model.specs.Victims.{chosen}
use Rattle.blob_model.specs.Chunk.{left, chunk, fails, file_of, first_failing, before_failing}
use Rattle.blob_model.specs.Value.{agrees, agree}
use Rattle.blob_model.specs.Choice.{IsOneOf}
use Rattle.blob_model.specs.Construct.{line_tests, line_status, plan_for, build_answer, build_answer_by}
use Rattle.blob_model.specs.Settle.{piece_list, page_no, kept}
use Rattle.blob_model.specs.Own.{pending_status, status_of, kind_in, stored_answers, unstored_answers, plan_in, job_done, job_failed, source_of, page_fault, sent_fault, cell_fault, read_faults, IsRead, IsNext, IsStepBy, IsStep}
use Rattle.blob_model.specs.TextLaws.{GivesBytes}
use Rattle.blob_model.proofs.Lists.{false_true, is_among, all_numbered, or_first, or_second, for_each, all_reverse, all_members, found_all, found_true, filter_short, not_false, all_append, append_second}
use Rattle.blob_model.proofs.kept.NewBlobs.{tests_fail, new_build}
use Rattle.blob_model.proofs.live.Roots.{held_by}
use Rattle.blob_model.proofs.live.Names.{live_named}
use Rattle.blob_model.proofs.live.Unreached.{holders_caused}
use Rattle.blob_model.proofs.builds.Cells.{Fit}
use Rattle.blob_model.proofs.builds.Plans.{FitsParts, IsPlanned, all_planned}
use Rattle.blob_model.proofs.settled.Endings.{some_that}
use Rattle.blob_model.proofs.disk.Stock.{flying}
use Rattle.blob_model.proofs.legal.PageNumbers.{same_first, pages_rise}
use Rattle.blob_model.proofs.legal.Steps.{kept_caused, distinct_of}
use Rattle.blob_model.proofs.legal.Totals.{totals_hold}
use Rattle.blob_model.proofs.legal.Causes.{was_written, IsFurther, by_store, by_unstore, by_drop, by_break, by_done, by_removal, by_grant, by_page_job, by_compaction, IsHeard, IsCaused}
use Rattle.blob_model.proofs.bytes.Written.{HasPiece, listed_there, left_flying, kept_listed, chosen_there, stored_there}
use Rattle.blob_model.proofs.counts.Counts.{is_paged, piece_low, FliesFrom, FliesWell}
use Rattle.blob_model.proofs.counts.Steps.{written_low}
use Rattle.blob_model.proofs.counts.Groups.{counts_caused, kept_some, file_written}
use Rattle.blob_model.proofs.counts.Numbers.{jobs_low, pages_low}
use Rattle.blob_model.proofs.texts.Ranges.{IsSpelt, no_text, CellHasText, CellsHaveText, all_taken, all_dropped, BuildHasText, cells_found, builds_text, IsEnd, ends_well, dropped_over}
use Rattle.blob_model.proofs.texts.Readers.{InBlob, readers_in}
use Rattle.blob_model.proofs.texts.Refusals.{sizes_low}

-- ---- statuses

broken_end : (status : Status) → is_broken_status status ≡ true → (is_end status ≡ true) × (is_told status ≡ true) × (has_broken_word status ≡ true)
broken_end statuses.InvalidArguments e = (refl, refl, refl)
broken_end statuses.OutOfMemory e = (refl, refl, refl)
broken_end statuses.FileWriteFailed e = (refl, refl, refl)
broken_end statuses.SourceDied e = (refl, refl, refl)
broken_end statuses.ReferencedBlobBroken e = (refl, refl, refl)
broken_end statuses.ReferencedFileUnavailable e = (refl, refl, refl)
broken_end status e = absurd (false_true e)

end_told : (status : Status) → IsEnd status → (status ≡ statuses.Dereferenced → ⊥) → (is_end status ≡ true) × (is_told status ≡ true)
end_told status (inl done) other = subst (λ (each : Status). (is_end each ≡ true) × (is_told each ≡ true)) (sym done) (refl, refl)
end_told status (inr (inl broken)) other = let all = broken_end status broken in (all.0, all.1)
end_told status (inr (inr dropped)) other = absurd (other dropped)

-- ---- pieces and page files

there_low : (s : Session) (h : History) (n : ℕ) → IsCaused s h → HasPiece s h n → n < 2 ^ 32
there_low s h n caused one =
    let low = piece_low s h n one.piece one.found in
    let totals = totals_hold s h caused in
    let most = totals.all_pieces in
    omega (arith, low, most)

listed_low : (list : List ℕ) → 0 < length list → AllByRecursion (λ (n : ℕ). n < 2 ^ 32) list → PiecesHaveText (piece_list list)
listed_low list some all = (some_mapped list some, each list all)
  where
    some_mapped : (xs : List ℕ) → 0 < length xs → 0 < length (piece_list xs)
    some_mapped [] low = low
    some_mapped (x ∷ xs) low = omega arith

    each : (xs : List ℕ) → AllByRecursion (λ (n : ℕ). n < 2 ^ 32) xs → AllByRecursion (λ (piece : PieceNo). piece.0 < 2 ^ 32) (piece_list xs)
    each [] p = tt
    each (x ∷ xs) p = (p.0, each xs p.1)

page_low : (s : Session) (h : History) (file : ℕ) → IsCaused s h → was_written h file ≡ true → file < 2 ^ 32
page_low s h file caused e =
    let low = written_low 0 (next_page h) file (pages h) (pages_rise s h caused) e in
    let few = pages_low s h caused in
    omega (arith, low, few)

next_low : (s : Session) (h : History) → IsCaused s h → next_page h < 2 ^ 32
next_low s h caused = let few = pages_low s h caused in omega (arith, few)

job_low : (s : Session) (h : History) → IsCaused s h → next_job h < 2 ^ 32
job_low s h caused = let few = jobs_low s h caused in omega (arith, few)

-- what a job still has
left_low : (s : Session) (h : History) → IsCaused s h → AllByRecursion (λ (n : ℕ). n < 2 ^ 32) (job_left (page_limit s) h)
left_low s h caused =
    for_each (λ (n : ℕ). is_among n (job_left (page_limit s) h) ≡ true) (λ (n : ℕ). n < 2 ^ 32) (job_left (page_limit s) h)
    (λ n member. there_low s h n caused (listed_there s h caused n
    (or_second (is_paged (pages h) n) (list_any (λ (each : ℕ). each == n) (flying h)) (left_flying (page_limit s) h n member))))
    (all_members (job_left (page_limit s) h))

-- the page file that a job moves out of
source_low : (s : Session) (h : History) (file : ℕ) → IsCaused s h → source_of (in_flight h) ≡ Some file → file < 2 ^ 32
source_low s h file caused e = page_low s h file caused (go (in_flight h) e (counts_caused s h caused).flies)
  where
    by_source : (list : List ℕ) (source : Option ℕ) → source ≡ Some file → FliesFrom s h list source → was_written h file ≡ true
    by_source list None f well = cc
    by_source list (Some one) f well = let same : one ≡ file = cc in subst (λ (n : ℕ). was_written h n ≡ true) same well.0

    go : (job : Option Job) → source_of job ≡ Some file → FliesWell s h job → was_written h file ≡ true
    go None f well = cc
    go (Some job) f well = by_source job.pieces job.source f well

reply_text : (s : Session) (h : History) (job : JobNo) (source : Option ℕ) (list : List ℕ) (answer : Answer) (rest : List Answer) → IsCaused s h
    → job.0 < 2 ^ 32 → source_of (in_flight h) ≡ source → AllByRecursion (λ (n : ℕ). n < 2 ^ 32) list
    → IsOneOf (answer ∷ rest) ((job_done h job source list ∷ []) ∷ job_failed h job source list) → HasText answer
reply_text s h job source [] answer rest caused low from all (inl e) = subst HasText (sym (same_first answer (answers.Empty job) rest [] e)) low
reply_text s h job source [] answer rest caused low from all (inr never) = absurd never
reply_text s h job None (n ∷ more) answer rest caused low from all (inl e) = subst HasText (sym (same_first answer _ rest [] e))
    (low, next_low s h caused, listed_low (n ∷ more) (omega arith) all)
reply_text s h job None (n ∷ more) answer rest caused low from all (inr (inl e)) = subst HasText (sym (same_first answer _ rest [] e))
    (low, next_low s h caused)
reply_text s h job None (n ∷ more) answer rest caused low from all (inr (inr never)) = absurd never
reply_text s h job (Some file) (n ∷ more) answer rest caused low from all (inl e) = subst HasText (sym (same_first answer _ rest [] e))
    (low, next_low s h caused, listed_low (n ∷ more) (omega arith) all)
reply_text s h job (Some file) (n ∷ more) answer rest caused low from all (inr (inl e)) = subst HasText (sym (same_first answer _ rest [] e))
    (low, next_low s h caused)
reply_text s h job (Some file) (n ∷ more) answer rest caused low from all (inr (inr (inl e))) = subst HasText (sym (same_first answer _ rest [] e))
    (low, source_low s h file caused from)
reply_text s h job (Some file) (n ∷ more) answer rest caused low from all (inr (inr (inr never))) = absurd never

-- ---- reads

-- an answer alone, with a text
abbrev HasOwnText : List Answer → Type 0
HasOwnText own = (answer : Answer) × (own ≡ answer ∷ []) × HasText answer

one_text : (own : List Answer) (lists : List (List Answer)) → AllByRecursion HasOwnText lists → IsOneOf own lists → HasOwnText own
one_text own [] all one = absurd one
one_text own (list ∷ lists) all (inl same) = subst HasOwnText (sym same) all.0
one_text own (list ∷ lists) all (inr later) = one_text own lists all.1 later

-- the page file in which a piece is
placed_low : (s : Session) (h : History) (piece : Piece) (file : ℕ) → IsCaused s h → place (page_limit s) h piece ≡ in_page file → file < 2 ^ 32
placed_low s h piece file caused e = go (page_with (pages h) piece.number) refl e
  where
    plain : (plan : Option Plan) → planned_place plan ≡ in_page file → ⊥
    plain None f = cc
    plain (Some (plans.File n)) f = cc
    plain (Some plans.None) f = cc
    plain (Some plans.Inline) f = cc
    plain (Some (plans.Shared n)) f = cc
    plain (Some plans.OutOfMemory) f = cc
    plain (Some (plans.TooMany what)) f = cc

    unlisted : (found : Option Build) → unlisted_place found ≡ in_page file → ⊥
    unlisted None f = cc
    unlisted (Some build) f = plain build.plan f

    all_low : AllByRecursion (λ (page : Page). page.number < 2 ^ 32) (pages h)
    all_low =
        for_each (λ (page : Page). list_any (λ (each : Page). each.number == page.number) (pages h) ≡ true) (λ (page : Page). page.number < 2 ^ 32) (pages h)
        (λ page there. page_low s h page.number caused there)
        (all_numbered (λ (page : Page). page.number) (pages h))

    go : (found : Option Page) → page_with (pages h) piece.number ≡ found → place_by found (build_in (builds (page_limit s) h) piece.blob) ≡ in_page file
        → file < 2 ^ 32
    go None at f = absurd (unlisted (build_in (builds (page_limit s) h) piece.blob) f)
    go (Some page) at f =
        let same : page.number ≡ file = (let g : in_page page.number ≡ in_page file = f in cc) in
        let low = found_all (λ (each : Page). each.number < 2 ^ 32) (λ (each : Page). lists each piece.number) (reverse (pages h)) page
        (all_reverse (λ (each : Page). each.number < 2 ^ 32) (pages h) all_low) at in
        subst (λ (n : ℕ). n < 2 ^ 32) same low

page_text : (s : Session) (h : History) (reader : ReaderId) (at : Place) → reader.0 < 2 ^ 32 → ((file : ℕ) → at ≡ in_page file → file < 2 ^ 32)
    → AllByRecursion HasOwnText (page_fault reader at)
page_text s h reader (in_page number) low file = ((answers.PageFault reader (page_no number), refl, (low, file number refl)), tt)
page_text s h reader in_memory low file = tt
page_text s h reader reserved low file = tt

sent_text : (s : Session) (h : History) (reader : ReaderId) (piece : Option Piece) → IsCaused s h → reader.0 < 2 ^ 32 → AllByRecursion HasOwnText
    (sent_fault s h reader piece)
sent_text s h reader None caused low = tt
sent_text s h reader (Some piece) caused low = page_text s h reader (place (page_limit s) h piece) low (λ file e. placed_low s h piece file caused e)

cell_text : (s : Session) (h : History) (reader : ReaderId) (cell : Cell) → IsCaused s h → reader.0 < 2 ^ 32 → CellHasText cell → AllByRecursion HasOwnText
    (cell_fault s h reader cell)
cell_text s h reader (sent blob index) caused low text = sent_text s h reader (piece_with (pieces (page_limit s) h) (sent blob index)) caused low
cell_text s h reader (filed name stamp index) caused low text = tt
cell_text s h reader (lent slot index) caused low text = ((answers.HandleFailed reader slot, refl, (low, text)), tt)

faults_text : (s : Session) (h : History) (reader : ReaderId) (cells : List Cell) → IsCaused s h → reader.0 < 2 ^ 32 → CellsHaveText cells
    → AllByRecursion HasOwnText (read_faults s h reader cells)
faults_text s h reader [] caused low text = tt
faults_text s h reader (cell ∷ cells) caused low text =
    all_append HasOwnText (cell_fault s h reader cell) (read_faults s h reader cells) (cell_text s h reader cell caused low text.0)
    (faults_text s h reader cells caused low text.1)

before_text : (h : History) (cells : List Cell) → CellsHaveText cells → CellsHaveText (before_failing h cells)
before_text h cells text = all_taken CellHasText _ cells text

-- only a cell of a file fails
failing_file : (h : History) (cell : Cell) → fails h cell ≡ true → CellHasText cell → is_file_name (file_of cell) ≡ true
failing_file h (filed name stamp index) e text = text
failing_file h (sent blob index) e text = absurd (false_true e)
failing_file h (lent slot index) e text = absurd (false_true e)

agree_length : (s : Session) (h : History) (cells : List Cell) (bytes : List ℕ) → agree s h cells bytes ≡ true → length bytes ≡ length cells
agree_length s h [] [] e = refl
agree_length s h [] (byte ∷ bytes) e = absurd (false_true e)
agree_length s h (cell ∷ cells) [] e = absurd (false_true e)
agree_length s h (cell ∷ cells) (byte ∷ bytes) e = ap suc (agree_length s h cells bytes (and_parts (agrees s h cell byte) (agree s h cells bytes) e).1)

read_text : (s : Session) (h : History) (reader : ReaderId) (cells : List Cell) (first : Option Cell) (answer : Answer) (rest : List Answer) → IsCaused s h
    → reader.0 < 2 ^ 32 → CellsHaveText cells → 0 < length cells → first_failing h cells ≡ first
    → GivesBytes answer → IsRead s h reader cells first (answer ∷ rest) → HasText answer
read_text s h reader cells None answer rest caused low text some at gives (inl given) =
    let same = same_first answer (answers.Given reader given.0) rest [] given.1 in
    let size = agree_length s h cells (given.0) given.2 in
    subst HasText (sym same) (low, (subst GivesBytes same gives, omega (arith, size, some)))
read_text s h reader cells None answer rest caused low text some at gives (inr fault) =
    let one = one_text (answer ∷ rest) (read_faults s h reader cells) (faults_text s h reader cells caused low text) fault in
    subst HasText (sym (same_first answer (one.0) rest [] one.1)) one.2
read_text s h reader cells (Some cell) answer rest caused low text some at gives one_of =
    let here = found_all CellHasText (fails h) cells cell text at in
    let file = failing_file h cell (found_true (fails h) cells cell at) here in
    let one = one_text (answer ∷ rest) ((answers.FileChanged reader (file_of cell) ∷ []) ∷ read_faults s h reader (before_failing h cells))
    ((answers.FileChanged reader (file_of cell), refl, (low, file)), faults_text s h reader (before_failing h cells) caused low (before_text h cells text))
    one_of in
    subst HasText (sym (same_first answer (one.0) rest [] one.1)) one.2

-- where something is left of the range the chunk has a cell
chunk_some : (s : Session) (h : History) (reader : OpenReader) (more : ℕ) → IsCaused s h → Fit (builds (page_limit s) h) → InBlob s h reader → left reader
    ≡ suc more → 0 < length (chunk s.limits h reader)
chunk_some s h reader more caused fit one some =
    let cells : cells_in (builds (page_limit s) h) reader.blob ≡ one.build.cells =
    ap (λ (o : Option Build). option_map_or (λ (build : Build). build.cells) o []) one.found in
    let whole = found_all (λ (build : Build). length build.cells ≡ size build) (λ (build : Build). build.name == reader.blob) (builds (page_limit s) h)
    one.build fit one.found in
    let size_is : length (cells_in (builds (page_limit s) h) reader.blob) ≡ size one.build = ap length cells ∙ whole in
    let taken = length-take (min (left reader) s.limits.chunk) (drop reader.place (cells_in (builds (page_limit s) h) reader.blob)) in
    let dropped = length-drop reader.place (cells_in (builds (page_limit s) h) reader.blob) in
    let positive = s.limits.some_chunk in
    ⊎_elim (λ (within : reader.end ≤ size one.build). omega (arith, size_is, taken, dropped, positive, within, some))
    (λ (empty : reader.end ≤ reader.place). absurd (omega (arith, empty, some))) one.within

next_text : (s : Session) (h : History) (reader : ReaderId) (open_reader : OpenReader) (more : ℕ) (answer : Answer) (rest : List Answer) → IsCaused s h
    → IsSpelt h → Fit (builds (page_limit s) h) → InBlob s h open_reader → reader.0 < 2 ^ 32
    → left open_reader ≡ more → GivesBytes answer → IsNext s h reader open_reader more (answer ∷ rest) → HasText answer
next_text s h reader open_reader zero answer rest caused spelt fit one low at gives e =
    subst HasText (sym (same_first answer (answers.Ended reader statuses.Done) rest [] e)) (low, refl)
next_text s h reader open_reader (suc more) answer rest caused spelt fit one low at gives is_read_of =
    read_text s h reader (chunk s.limits h open_reader) (first_failing h (chunk s.limits h open_reader)) answer rest caused low
    (all_taken CellHasText (min (left open_reader) s.limits.chunk) (drop open_reader.place (cells_in (builds (page_limit s) h) open_reader.blob))
    (all_dropped CellHasText open_reader.place (cells_in (builds (page_limit s) h) open_reader.blob)
    (cells_found (builds (page_limit s) h) open_reader.blob (builds_text s h spelt))))
    (chunk_some s h open_reader more caused fit one at) refl gives is_read_of

step_text : (s : Session) (h : History) (reader : ReaderId) (open_reader : OpenReader) (found : Option Status) (answer : Answer) (rest : List Answer)
    → IsCaused s h → IsSpelt h → Fit (builds (page_limit s) h) → InBlob s h open_reader → reader.0 < 2 ^ 32
    → ((status : Status) → found ≡ Some status → is_end status ≡ true) → GivesBytes answer → IsStepBy s h reader open_reader found (answer ∷ rest)
    → HasText answer
step_text s h reader open_reader None answer rest caused spelt fit one low ends gives e =
    subst HasText (sym (same_first answer (answers.Wait reader) rest [] e)) low
step_text s h reader open_reader (Some statuses.Done) answer rest caused spelt fit one low ends gives next = next_text s h reader open_reader (left open_reader)
    answer rest caused spelt fit one low refl gives next
step_text s h reader open_reader (Some status) answer rest caused spelt fit one low ends gives e =
    subst HasText (sym (same_first answer (answers.Ended reader status) rest [] e)) (low, ends status refl)

-- ---- a line's first answer

-- the status of a rooted blob is told
rooted_end : (s : Session) (h : History) (name : ℕ) (status : Status) → IsCaused s h → is_rooted (page_limit s) h name ≡ true → ended h name ≡ Some status
    → (is_end status ≡ true) × (is_told status ≡ true)
rooted_end s h name status caused rooted e =
    end_told status (subst (λ (o : Option Status). IfSome o IsEnd) e (ends_well s h name caused))
    (λ dropped. false_true (sym (dropped_over s h name caused (e ∙ ap (λ (each : Status). Some each) dropped)).unrooted ∙ rooted))

handle_roots : (s : Session) (h : History) (renderer b : ℕ) → IsCaused s h → has_handle h renderer b ≡ true → is_rooted (page_limit s) h b ≡ true
handle_roots s h renderer b caused has =
    or_first (is_held h b || is_named h b) (is_read (page_limit s) h b)
    (or_first (is_held h b) (is_named h b) (held_by h renderer b (holders_caused s h caused) has))

pending_told : (s : Session) (h : History) (build : Build) → is_told (pending_status s h build) ≡ true
pending_told s h build = go (is_waiting h build) (has_all s.limits h build)
  where
    go : (a b : Bool) → is_told (if a then statuses.PendingQuota else (if b then statuses.PendingReferencedBlobs else statuses.PendingTransport)) ≡ true
    go true b = refl
    go false true = refl
    go false false = refl

status_told : (s : Session) (h : History) (b : ℕ) → IsCaused s h → is_rooted (page_limit s) h b ≡ true → is_told (status_of s h b) ≡ true
status_told s h b caused rooted = go (ended h b) refl (build_in (builds (page_limit s) h) b)
  where
    go : (found : Option Status) → ended h b ≡ found → (build : Option Build)
        → is_told (unwrap_or found (option_map_or (pending_status s h) build statuses.PendingTransport)) ≡ true
    go (Some status) at build = (rooted_end s h b status caused rooted at).1
    go None at None = refl
    go None at (Some build) = pending_told s h build

kind_text : (s : Session) (h : History) (b : ℕ) → IsSpelt h → IsContentType (kind_in (builds (page_limit s) h) b)
kind_text s h b spelt = go (build_in (builds (page_limit s) h) b) refl
  where
    go : (found : Option Build) → build_in (builds (page_limit s) h) b ≡ found → IsContentType (option_map_or (λ (build : Build). build.kind) found [])
    go None at = no_text
    go (Some build) at = (found_all BuildHasText (λ (each : Build). each.name == b) (builds (page_limit s) h) build (builds_text s h spelt) at).kind

-- a plan that is told
plan_text : (s : Session) (parts : List Part) (plan : Plan) → FitsParts s parts plan → PlanHasText plan
plan_text s parts plans.None fits = tt
plan_text s parts plans.Inline fits = tt
plan_text s parts (plans.Shared n) fits = let few = fits.1 in omega (arith, few)
plan_text s parts (plans.File n) fits = let few = fits.1 in omega (arith, few)
plan_text s parts plans.OutOfMemory fits = absurd fits
plan_text s parts (plans.TooMany what) fits = absurd fits

last_has : {X : Type 0} (P : X → Type 0) (xs : List X) (x : X) → AllByRecursion P (xs ++ x ∷ []) → P x
last_has P xs x all = (append_second P xs (x ∷ []) all).0

build_text : (s : Session) (h : History) (event : Event) (renderer name : ℕ) (kind : List ℕ) (parts : List Part) (answer : Answer) (rest : List Answer)
    → IsCaused s (heard h event answer) → name < 2 ^ 128
    → ((other : Answer) → other ≡ build_answer s h renderer name parts → builds (page_limit s) (heard h event other) ≡ builds (page_limit s) h
    ++ new_build s h renderer name kind parts ∷ [])
    → (answer ∷ rest) ≡ build_answer s h renderer name parts ∷ [] → HasText answer
build_text s h event renderer name kind parts answer rest caused low blobs e =
    let same = same_first answer (build_answer s h renderer name parts) rest [] e in
    let planned = last_has (IsPlanned s) (builds (page_limit s) h) (new_build s h renderer name kind parts)
    (subst (AllByRecursion (IsPlanned s)) (blobs answer same) (all_planned s (heard h event answer) caused)) in
    subst HasText (sym same) (go (line_status s h renderer name parts) refl planned)
  where
    go : (status : Option Status) → line_status s h renderer name parts ≡ status → IfSome (plan_told (build_answer_by s h name parts status))
        (λ (plan : Plan). FitsParts s parts plan × (parts_length parts ≤ 2 ^ 62)) → HasText (build_answer_by s h name parts status)
    go None at planned = plan_text s parts (plan_for s h parts) planned.0
    go (Some status) at planned = (
      low,
      (broken_end status (some_that (λ (each : Status). is_broken_status each ≡ true) (line_tests s h renderer name parts) status
          (refl, (refl, (refl, (refl, tt)))) at)).2,
    )

live_few : (s : Session) (h : History) → IsCaused s h → length (live (page_limit s) h) ≤ length (builds (page_limit s) h)
live_few s h caused =
    let same = ap length (live_named (page_limit s) h (distinct_of s h (kept_caused s h caused))) in
    let short = filter_short (λ (build : Build). is_live (page_limit s) h build.name) (builds (page_limit s) h) in
    omega (arith, same, short)

-- one of the answers that a line has where nothing fails, and has alone
only_text : (answer other : Answer) (rest more : List Answer) → HasText other → ((answer ∷ rest) ≡ (other ∷ more)) ⊎ ⊥ → HasText answer
only_text answer other rest more text (inl e) = subst HasText (sym (same_first answer other rest more e)) text
only_text answer other rest more text (inr never) = absurd never

segment_text : (s : Session) (h : History) (b segment : ℕ) (plan : Option Plan) (answer : Answer) (rest : List Answer) → segment < 2 ^ 32
    → IsOneOf (answer ∷ rest) ((answers.Taken segment ∷ stored_answers s h b segment plan) ∷ unstored_answers s h segment plan) → HasText answer
segment_text s h b segment plan answer rest low (inl e) = subst HasText
    (sym (same_first answer (answers.Taken segment) rest (stored_answers s h b segment plan) e)) low
segment_text s h b segment (Some (plans.File n)) answer rest low (inr (inl e)) = subst HasText (sym (same_first answer (answers.Taken segment) rest _ e)) low
segment_text s h b segment (Some (plans.File n)) answer rest low (inr (inr never)) = absurd never
segment_text s h b segment None answer rest low (inr never) = absurd never
segment_text s h b segment (Some plans.None) answer rest low (inr never) = absurd never
segment_text s h b segment (Some plans.Inline) answer rest low (inr never) = absurd never
segment_text s h b segment (Some (plans.Shared n)) answer rest low (inr never) = absurd never
segment_text s h b segment (Some plans.OutOfMemory) answer rest low (inr never) = absurd never
segment_text s h b segment (Some (plans.TooMany what)) answer rest low (inr never) = absurd never

revoked_text : (b : Bool) → HasText (if b then answers.Revoked else answers.Nothing)
revoked_text true = tt
revoked_text false = tt

reader_text : (s : Session) (h : History) (reader : ReaderId) (found : Option OpenReader) (answer : Answer) (rest : List Answer) → IsCaused s h → IsSpelt h
    → Fit (builds (page_limit s) h) → reader.0 < 2 ^ 32 → reader_at (page_limit s) h reader.0 ≡ found
    → GivesBytes answer → IsStep s h reader found (answer ∷ rest) → HasText answer
reader_text s h reader None answer rest caused spelt fit low at gives one = absurd one
reader_text s h reader (Some open_reader) answer rest caused spelt fit low at gives one =
    let inside = found_all (InBlob s h) (λ (each : OpenReader). each.number == reader.0) (readers (page_limit s) h) open_reader (readers_in s h caused) at in
    step_text s h reader open_reader (ended h open_reader.blob) answer rest caused spelt fit inside low
    (λ status e. (rooted_end s h open_reader.blob status caused rooted e).0) gives one
  where
    all_read : (list : List OpenReader) → AllByRecursion (λ (each : OpenReader). list_any (λ (other : OpenReader). other.blob == each.blob) list ≡ true) list
    all_read list = all_numbered (λ (each : OpenReader). each.blob) list

    rooted : is_rooted (page_limit s) h open_reader.blob ≡ true
    rooted =
        or_second (is_held h open_reader.blob || is_named h open_reader.blob) (is_read (page_limit s) h open_reader.blob)
        (found_all (λ (each : OpenReader). list_any (λ (other : OpenReader). other.blob == each.blob) (readers (page_limit s) h) ≡ true)
        (λ (each : OpenReader). each.number == reader.0) (readers (page_limit s) h) open_reader (all_read (readers (page_limit s) h)) at)

pub heard_text : (s : Session) (h : History) (event : Event) (answer : Answer) → (line : IsHeard s h event answer) → IsCaused s h → IsSpelt h
    → Fit (builds (page_limit s) h) → HasSpelling event → GivesBytes answer → HasText answer
heard_text s h (events.Build renderer name kind parts) answer line caused spelt fit spelling gives = go line.own
  where
    go : ((answer ∷ line.rest) ≡ build_answer s h renderer.0 name parts ∷ []) ⊎ ⊥ → HasText answer
    go (inr never) = absurd never
    go (inl e) =
        build_text s h (events.Build renderer name kind parts) renderer.0 name kind parts answer line.rest (line, caused) spelling.1
        (λ other same. ap (λ (a : Answer). builds (page_limit s) (heard h (events.Build renderer name kind parts) a)) same) e
heard_text s h (events.Slice renderer name source from to kind) answer line caused spelt fit spelling gives = go line.own
  where
    go : ((answer ∷ line.rest) ≡ build_answer s h renderer.0 name (slice_parts (builds (page_limit s) h) source from to) ∷ []) ⊎ ⊥ → HasText answer
    go (inr never) = absurd never
    go (inl e) =
        build_text s h (events.Slice renderer name source from to kind) renderer.0 name kind (slice_parts (builds (page_limit s) h) source from to) answer
        line.rest (line, caused) spelling.1
        (λ other same. ap (λ (a : Answer). builds (page_limit s) (heard h (events.Slice renderer name source from to kind) a)) same) e
heard_text s h (events.Segment renderer b segment bytes) answer line caused spelt fit spelling gives = segment_text s h b segment (plan_in s h b) answer
    line.rest spelling.2 line.own
heard_text s h (events.Stat renderer b) answer line caused spelt fit spelling gives =
    let has : has_handle h renderer.0 b ≡ true = not_false (has_handle h renderer.0 b) (tests_fail s h (events.Stat renderer b) line.passes).1.0 in
    only_text answer _ line.rest [] (
      spelling.1,
      sizes_low s h b caused,
      kind_text s h b spelt,
      status_told s h b caused
          (handle_roots s h renderer.0 b caused has),
    ) line.own
heard_text s h (events.Revoke renderer text) answer line caused spelt fit spelling gives =
    only_text answer _ line.rest [] (revoked_text (owns_entry h renderer.0 text)) line.own
heard_text s h (events.Read renderer reader b off len) answer line caused spelt fit spelling gives =
    only_text answer _ line.rest [] (spelling.1, sizes_low s h b caused, kind_text s h b spelt) line.own
heard_text s h (events.Fetch renderer reader text off len) answer line caused spelt fit spelling gives =
    only_text answer _ line.rest [] (spelling.1, sizes_low s h _ caused, kind_text s h _ spelt) line.own
heard_text s h (events.Step reader) answer line caused spelt fit spelling gives = reader_text s h reader (reader_at (page_limit s) h reader.0) answer line.rest
    caused spelt fit spelling refl gives line.own
heard_text s h (events.Disk job) answer line caused spelt fit spelling gives = reply_text s h job (source_of (in_flight h)) (job_left (page_limit s) h) answer
    line.rest caused spelling refl (left_low s h caused) line.own
heard_text s h (events.Lost job) answer line caused spelt fit spelling gives = only_text answer (answers.LostJob job) line.rest [] spelling line.own
heard_text s h events.Count answer line caused spelt fit spelling gives =
    let totals = totals_hold s h caused in
    let blobs = totals.blobs in
    let urls = totals.urls in
    let open_readers = totals.open_readers in
    let few = live_few s h caused in
    let waiting = filter_short (is_waiting h) (builds (page_limit s) h) in
    only_text answer _ line.rest [] (omega (arith, few, blobs), omega (arith, urls), omega (arith, open_readers), omega (arith, waiting, blobs)) line.own
heard_text s h event answer line caused spelt fit spelling gives = only_text answer answers.Good line.rest [] tt line.own

-- ---- further answers

name_low : (s : Session) (h : History) (build : Build) → IsSpelt h → build_in (builds (page_limit s) h) build.name ≡ Some build → build.name < 2 ^ 128
name_low s h build spelt found = (found_all BuildHasText (λ (each : Build). each.name == build.name) (builds (page_limit s) h) build (builds_text s h spelt)
    found).name

pub said_text : (s : Session) (h : History) (answer : Answer) → IsFurther s h answer → IsCaused s h → IsSpelt h → HasText answer
said_text s h answer (by_store g renderer b segment bytes n same passes at e) caused spelt =
    let here : IsCaused s (heard g (events.Segment renderer b segment bytes) (answers.Taken segment)) = subst (IsCaused s) same caused in
    subst HasText (sym e) (
      next_low s g here.1,
      there_low s (heard g (events.Segment renderer b segment bytes) (answers.Taken segment)) _ here
          (stored_there s g renderer b segment bytes n here passes at),
    )
said_text s h answer (by_unstore g renderer b segment bytes n same passes at e) caused spelt =
    let here : IsCaused s (heard g (events.Segment renderer b segment bytes) (answers.Taken segment)) = subst (IsCaused s) same caused in
    subst HasText (sym e) (next_low s g here.1)
said_text s h answer (by_drop build found begun unrooted e) caused spelt = subst HasText (sym e) (name_low s h build spelt found)
said_text s h answer (by_break build found begun status broken e) caused spelt =
    subst HasText (sym e) (name_low s h build spelt found, (broken_end status broken).2)
said_text s h answer (by_done build found begun complete e) caused spelt = subst HasText (sym e) (name_low s h build spelt found)
said_text s h answer (by_removal number written left (inl e)) caused spelt = subst HasText (sym e) (page_low s h number caused written)
said_text s h answer (by_removal number written left (inr e)) caused spelt = subst HasText (sym e) (page_low s h number caused written)
said_text s h answer (by_grant build found e) caused spelt = subst HasText (sym e) (name_low s h build spelt found)
said_text s h answer (by_page_job number more may at e) caused spelt =
    let low = for_each (HasPiece s h) (λ (n : ℕ). n < 2 ^ 32) (chosen s.limits h) (λ n one. there_low s h n caused one) (chosen_there s h caused) in
    subst HasText (sym e) (job_low s h caused, listed_low (number ∷ more) (omega arith) (subst (AllByRecursion (λ (n : ℕ). n < 2 ^ 32)) at low))
said_text s h answer (by_compaction file may found e) caused spelt =
    let low =
    for_each (λ (n : ℕ). is_among n (kept s h file) ≡ true) (λ (n : ℕ). n < 2 ^ 32) (kept s h file)
    (λ n member. there_low s h n caused (listed_there s h caused n (kept_listed s h file n found member))) (all_members (kept s h file)) in
    let some = kept_some s h file answer (by_compaction file may found e) caused (counts_caused s h caused) may found e in
    subst HasText (sym e) (job_low s h caused, page_low s h file.number caused (file_written s h file found), listed_low (kept s h file) some low)
