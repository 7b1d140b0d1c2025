-- The answers that a line has of itself. Own.
use Rattle.std.specs.Prelude.{◌≡◌, ◌⊎◌, ℕ, zero, suc, true, List, [], ◌∷◌, length, flat_map, Option, None, Some, slice_get, if◌then◌else◌}
use Rattle.std.specs.Option.{option_map_or, unwrap_or}
use Rattle.blob_words.specs.declared.number.ReaderId.{ReaderId}
use Rattle.blob_words.specs.declared.number.JobNo.{JobNo}
use Rattle.blob_words.specs.declared.number.PieceNo.{PieceNo}
use Rattle.blob_words.specs.declared.plan.Plan.{Plan}
use Rattle.blob_words.specs.declared.plan.Plan.TheVariants as plans
use Rattle.blob_words.specs.declared.status.Status.{Status}
use Rattle.blob_words.specs.declared.status.Status.TheVariants as statuses
use Rattle.session_script.specs.declared.event.Event.{Event}
use Rattle.session_script.specs.declared.event.Event.TheVariants as events
use Rattle.answer_text.specs.declared.answer.Answer.{Answer}
use Rattle.answer_text.specs.declared.answer.Answer.TheVariants as answers
use Rattle.answer_text.specs.declared.refusal.Refusal.{Refusal}
use Rattle.blob_model.specs.Session.{Session, page_limit}
use Rattle.blob_model.specs.History.{History}
use Rattle.blob_model.specs.Builds.{Cell, sent, filed, lent, Build, builds, build_in, size_in, slice_parts}
use Rattle.blob_model.specs.Standing.{ended}
use Rattle.blob_model.specs.Transport.{has_all}
use Rattle.blob_model.specs.Entries.{Entry, entries, resolved, owns_entry}
use Rattle.blob_model.specs.Readers.{OpenReader, readers, reader_at}
use Rattle.blob_model.specs.Live.{live}
use Rattle.blob_model.specs.Pieces.{Piece, pieces, pieces_of, piece_with}
use Rattle.blob_model.specs.Pages.{Place, in_page, place, next_page}
use Rattle.blob_model.specs.Jobs.{Job, in_flight, paging}
use Rattle.blob_model.specs.Tally.{job_left}
use Rattle.blob_model.specs.Waits.{waits, is_waiting}
use Rattle.blob_model.specs.Chunk.{left, chunk, file_of, first_failing, before_failing}
use Rattle.blob_model.specs.Value.{agree}
use Rattle.blob_model.specs.Settle.{piece_list, page_no}
use Rattle.blob_model.specs.Construct.{build_answer}
use Rattle.blob_model.specs.Refusals.{refusal}
use Rattle.blob_model.specs.Choice.{IsOneOf}

-- what an unfinished blob still waits for
abbrev pub pending_status : Session → History → Build → Status
pending_status s h build = if is_waiting h build then statuses.PendingQuota
    else (if has_all s.limits h build then statuses.PendingReferencedBlobs else statuses.PendingTransport)

-- the status that `stat` tells: how the blob ended, or what it waits for
abbrev pub status_of : Session → History → ℕ → Status
status_of s h b = unwrap_or (ended h b) (option_map_or (pending_status s h) (build_in (builds (page_limit s) h) b) statuses.PendingTransport)

-- the content type of the blob of this name
abbrev pub kind_in : List Build → ℕ → List ℕ
kind_in builds name = option_map_or (λ (build : Build). build.kind) (build_in builds name) []

-- the blob of the URL entry that a text resolves to
abbrev pub blob_at : History → ℕ → List ℕ → ℕ
blob_at h renderer text = option_map_or (λ (entry : Entry). entry.blob) (resolved h renderer text) 0

-- opening a reader tells the size and the content type of its blob
abbrev pub opened_answer : Session → History → ReaderId → ℕ → Answer
opened_answer s h reader b = answers.Opened reader (size_in (builds (page_limit s) h) b) (kind_in (builds (page_limit s) h) b)

-- the piece that a segment of a file plan brings: the one at its place among the blob's pieces
abbrev pub piece_at : Session → History → ℕ → ℕ → ℕ
piece_at s h b segment = option_map_or (λ (piece : Piece). piece.number) (slice_get (pieces_of (page_limit s) h b) segment) 0

abbrev pub piece_no : ℕ → PieceNo
piece_no number = record { 0 = number }

-- a segment is taken; where the plan is file its piece is then written to the next page file, or the write fails
abbrev pub stored_answers : Session → History → ℕ → ℕ → Option Plan → List Answer
stored_answers s h b segment (Some (plans.File n)) = answers.Stored (page_no (next_page h)) (piece_no (piece_at s h b segment)) ∷ []
stored_answers s h b segment plan = []

abbrev pub unstored_answers : Session → History → ℕ → Option Plan → List (List Answer)
unstored_answers s h segment (Some (plans.File n)) = (answers.Taken segment ∷ answers.StoreFailed (page_no (next_page h)) ∷ []) ∷ []
unstored_answers s h segment plan = []

abbrev pub plan_in : Session → History → ℕ → Option Plan
plan_in s h b = option_map_or (λ (build : Build). build.plan) (build_in (builds (page_limit s) h) b) None

-- a job of which no piece is left is empty; else its pieces are written to the next page file
abbrev pub job_done : History → JobNo → Option ℕ → List ℕ → Answer
job_done h job source [] = answers.Empty job
job_done h job None (number ∷ numbers) = answers.Paged job (page_no (next_page h)) (piece_list (number ∷ numbers))
job_done h job (Some file) (number ∷ numbers) = answers.Moved job (page_no (next_page h)) (piece_list (number ∷ numbers))

-- or the write fails, or first a read of the page file that they move out of
abbrev pub job_failed : History → JobNo → Option ℕ → List ℕ → List (List Answer)
job_failed h job source [] = []
job_failed h job None (number ∷ numbers) = (answers.PageFailed job (page_no (next_page h)) ∷ []) ∷ []
job_failed h job (Some file) (number ∷ numbers) = (answers.MoveFailed job (page_no (next_page h)) ∷ []) ∷ (answers.MoveUnread job (page_no file) ∷ []) ∷ []

abbrev pub source_of : Option Job → Option ℕ
source_of None = None
source_of (Some job) = job.source

-- the answers of an accepted line where nothing of the outside fails; `step` has its own
abbrev pub accepted : Session → History → Event → List Answer
accepted s h (events.Build renderer name kind parts) = build_answer s h renderer.0 name parts ∷ []
accepted s h (events.Slice renderer name source from to kind) = build_answer s h renderer.0 name (slice_parts (builds (page_limit s) h) source from to) ∷ []
accepted s h (events.Segment renderer b segment bytes) = answers.Taken segment ∷ stored_answers s h b segment (plan_in s h b)
accepted s h (events.Stat renderer b) = answers.Told b (size_in (builds (page_limit s) h) b) (kind_in (builds (page_limit s) h) b) (status_of s h b) ∷ []
accepted s h (events.Revoke renderer text) = (if owns_entry h renderer.0 text then answers.Revoked else answers.Nothing) ∷ []
accepted s h (events.Read renderer reader b off len) = opened_answer s h reader b ∷ []
accepted s h (events.Fetch renderer reader text off len) = opened_answer s h reader (blob_at h renderer.0 text) ∷ []
accepted s h (events.Disk job) = job_done h job (source_of (in_flight h)) (job_left (page_limit s) h) ∷ []
accepted s h (events.Lost job) = answers.LostJob job ∷ []
accepted s h events.Count =
    answers.Held (length (live (page_limit s) h)) (length (entries h)) (length (readers (page_limit s) h)) (length (waits (page_limit s) h)) (paging h) ∷ []
accepted s h event = answers.Good ∷ []

-- the answers where the disk fails
abbrev pub failing : Session → History → Event → List (List Answer)
failing s h (events.Segment renderer b segment bytes) = unstored_answers s h segment (plan_in s h b)
failing s h (events.Disk job) = job_failed h job (source_of (in_flight h)) (job_left (page_limit s) h)
failing s h event = []

-- a cell in a page file or in a slot may fail when it is read
abbrev pub page_fault : ReaderId → Place → List (List Answer)
page_fault reader (in_page number) = (answers.PageFault reader (page_no number) ∷ []) ∷ []
page_fault reader at = []

abbrev pub sent_fault : Session → History → ReaderId → Option Piece → List (List Answer)
sent_fault s h reader None = []
sent_fault s h reader (Some piece) = page_fault reader (place (page_limit s) h piece)

abbrev pub cell_fault : Session → History → ReaderId → Cell → List (List Answer)
cell_fault s h reader (sent blob index) = sent_fault s h reader (piece_with (pieces (page_limit s) h) (sent blob index))
cell_fault s h reader (filed name stamp index) = []
cell_fault s h reader (lent slot index) = (answers.HandleFailed reader slot ∷ []) ∷ []

abbrev pub read_faults : Session → History → ReaderId → List Cell → List (List Answer)
read_faults s h reader cells = flat_map (cell_fault s h reader) cells

-- the bytes given agree with the cells, one for each
abbrev pub IsGiven : Session → History → ReaderId → List Cell → List Answer → Type 0
IsGiven s h reader cells own = (bytes : List ℕ) × (own ≡ answers.Given reader bytes ∷ []) × (agree s h cells bytes ≡ true)

-- a chunk gives its bytes, or its first failing file is named; a page file or a handle before that may fail instead
abbrev pub IsRead : Session → History → ReaderId → List Cell → Option Cell → List Answer → Type 0
IsRead s h reader cells None own = IsGiven s h reader cells own ⊎ IsOneOf own (read_faults s h reader cells)
IsRead s h reader cells (Some cell) own = IsOneOf own ((answers.FileChanged reader (file_of cell) ∷ []) ∷ read_faults s h reader (before_failing h cells))

abbrev pub IsReadOf : Session → History → ReaderId → List Cell → List Answer → Type 0
IsReadOf s h reader cells own = IsRead s h reader cells (first_failing h cells) own

-- where nothing is left of the range the reader is at its end
abbrev pub IsNext : Session → History → ReaderId → OpenReader → ℕ → List Answer → Type 0
IsNext s h reader open_reader zero own = own ≡ answers.Ended reader statuses.Done ∷ []
IsNext s h reader open_reader (suc more) own = IsReadOf s h reader (chunk s.limits h open_reader) own

-- a step waits for an unfinished blob, ends at a broken one, and reads a done one
abbrev pub IsStepBy : Session → History → ReaderId → OpenReader → Option Status → List Answer → Type 0
IsStepBy s h reader open_reader None own = own ≡ answers.Wait reader ∷ []
IsStepBy s h reader open_reader (Some statuses.Done) own = IsNext s h reader open_reader (left open_reader) own
IsStepBy s h reader open_reader (Some status) own = own ≡ answers.Ended reader status ∷ []

abbrev pub IsStep : Session → History → ReaderId → Option OpenReader → List Answer → Type 0
IsStep s h reader None own = ⊥
IsStep s h reader (Some open_reader) own = IsStepBy s h reader open_reader (ended h open_reader.blob) own

-- the own answers of an accepted line
abbrev pub IsAccepted : Session → History → Event → List Answer → Type 0
IsAccepted s h (events.Step reader) own = IsStep s h reader (reader_at (page_limit s) h reader.0) own
IsAccepted s h event own = IsOneOf own (accepted s h event ∷ failing s h event)

-- the own answers of a line: the first refusal that applies alone, else those of an accepted line
abbrev pub IsOwnBy : Session → History → Event → Option Refusal → List Answer → Type 0
IsOwnBy s h event (Some why) own = own ≡ answers.Refused why ∷ []
IsOwnBy s h event None own = IsAccepted s h event own

abbrev pub IsOwn : Session → History → Event → List Answer → Type 0
IsOwn s h event own = IsOwnBy s h event (refusal s h event) own
