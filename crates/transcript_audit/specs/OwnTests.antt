-- Tests on the own answers of a line: the one answer, or the two of a segment that goes to a page file. Own.
use Rattle.std.specs.Prelude.{◌≡◌, ◌≤◌, ℕ, zero, suc, ◌==◌, ◌&&◌, ◌||◌, Bool, false, List, ◌∷◌, length, take, Option, None, Some}
use Rattle.blob_words.specs.declared.number.ReaderId.{ReaderId}
use Rattle.blob_words.specs.declared.plan.Plan.{Plan}
use Rattle.blob_words.specs.declared.plan.Plan.TheVariants as plans
use Rattle.blob_words.specs.declared.status.Status.{Status}
use Rattle.blob_words.specs.declared.status.Status.TheVariants as statuses
use Rattle.session_script.specs.declared.event.Event.{Event}
use Rattle.session_script.specs.declared.event.Event.TheVariants as events
use Rattle.answer_text.specs.declared.answer.Answer.{Answer}
use Rattle.answer_text.specs.declared.answer.Answer.TheVariants as answers
use Rattle.answer_text.specs.declared.refusal.Refusal.{Refusal}
use Rattle.blob_model.specs.Session.{Session, page_limit}
use Rattle.blob_model.specs.History.{History}
use Rattle.blob_model.specs.Builds.{Cell}
use Rattle.blob_model.specs.Standing.{ended}
use Rattle.blob_model.specs.Readers.{OpenReader, reader_at}
use Rattle.blob_model.specs.Chunk.{left, chunk, file_of, first_failing, before_failing}
use Rattle.blob_model.specs.Value.{agree}
use Rattle.blob_model.specs.Refusals.{refusal}
use Rattle.blob_model.specs.Own.{accepted, failing, read_faults, plan_in, IsOwn}
use Rattle.transcript_audit.specs.Tests.{same_answer, is_among}

-- bytes that agree with the cells are given
abbrev pub is_given : Session → History → ReaderId → List Cell → Answer → Bool
is_given s h reader cells (answers.Given number bytes) = (number.0 == reader.0) && agree s h cells bytes
is_given s h reader cells answer = false

-- a chunk gives its bytes, or its first failing file is named; a page file or a handle before that may fail instead
abbrev pub is_read : Session → History → ReaderId → List Cell → Option Cell → Answer → Bool
is_read s h reader cells None answer = is_given s h reader cells answer || is_among answer (read_faults s h reader cells)
is_read s h reader cells (Some cell) answer =
    same_answer answer (answers.FileChanged reader (file_of cell)) || is_among answer (read_faults s h reader (before_failing h cells))

-- where nothing is left of the range the reader is at its end
abbrev pub is_next : Session → History → ReaderId → OpenReader → ℕ → Answer → Bool
is_next s h reader open_reader zero answer = same_answer answer (answers.Ended reader statuses.Done)
is_next s h reader open_reader (suc more) answer = is_read s h reader (chunk s.limits h open_reader) (first_failing h (chunk s.limits h open_reader)) answer

-- a step waits for an unfinished blob, ends at a broken one, and reads a done one
abbrev pub is_step_by : Session → History → ReaderId → OpenReader → Option Status → Answer → Bool
is_step_by s h reader open_reader None answer = same_answer answer (answers.Wait reader)
is_step_by s h reader open_reader (Some statuses.Done) answer = is_next s h reader open_reader (left open_reader) answer
is_step_by s h reader open_reader (Some status) answer = same_answer answer (answers.Ended reader status)

abbrev pub is_step : Session → History → ReaderId → Option OpenReader → Answer → Bool
is_step s h reader None answer = false
is_step s h reader (Some open_reader) answer = is_step_by s h reader open_reader (ended h open_reader.blob) answer

-- the one own answer of an accepted line
abbrev pub is_single : Session → History → Event → Answer → Bool
is_single s h (events.Step reader) answer = is_step s h reader (reader_at (page_limit s) h reader.0) answer
is_single s h event answer = is_among answer (accepted s h event ∷ failing s h event)

-- how many own answers a line has
abbrev pub plan_count : Option Plan → ℕ
plan_count (Some (plans.File n)) = 2
plan_count plan = 1

abbrev pub event_count : Session → History → Event → ℕ
event_count s h (events.Segment renderer b segment bytes) = plan_count (plan_in s h b)
event_count s h event = 1

abbrev pub own_count_by : Session → History → Event → Option Refusal → ℕ
own_count_by s h event (Some why) = 1
own_count_by s h event None = event_count s h event

abbrev pub own_count : Session → History → Event → ℕ
own_count s h event = own_count_by s h event (refusal s h event)

-- the own answers that these begin with are so many; or they begin with none
abbrev pub OwnFound : Session → History → Event → List Answer → Option ℕ → Type 0
OwnFound s h event list (Some n) = (n ≤ length list) × (n ≡ own_count s h event) × IsOwn s h event (take n list)
OwnFound s h event list None = (m : ℕ) → IsOwn s h event (take m list) → ⊥
