-- The open readers: ranges of blobs, each with its place. Own.
use Rattle.std.specs.Prelude.{ℕ, ◌+◌, ◌==◌, not, List, [], ◌∷◌, ◌++◌, length, map, filter, Option, None, Some, if◌then◌else◌}
use Rattle.blob_words.specs.declared.number.ReaderId.{ReaderId}
use Rattle.session_script.specs.declared.event.Event.{Event}
use Rattle.session_script.specs.declared.event.Event.TheVariants as events
use Rattle.answer_text.specs.declared.answer.Answer.{Answer}
use Rattle.answer_text.specs.declared.answer.Answer.TheVariants as answers
use Rattle.replay_run.specs.History.{History, start, heard, said}

-- a reader: its number, its blob, the place in the blob of the next byte to give, and the end of its range
pub record OpenReader : Type 0 where
  pub number : ReaderId
  pub blob : ℕ
  pub place : ℕ
  pub end : ℕ

-- the end of a range in a blob of this size; a range without a length goes on to the end of the blob
abbrev pub range_end : ℕ → ℕ → Option ℕ → ℕ
range_end size off None = size
range_end size off (Some len) = off + len

-- the reader of this number goes on by so many bytes
abbrev pub advanced : ReaderId → ℕ → OpenReader → OpenReader
advanced number count reader = if number.0 == reader.number.0 then record reader { place = reader.place + count } else reader

-- a `read` line answered `opened` opens a reader, a step that gave bytes moves it on, one answered `end` closes it; the `end` line closes all
abbrev pub readers_after : Event → Answer → List OpenReader → List OpenReader
readers_after (events.Read renderer reader name off len) (answers.Opened number size kind) readers =
    readers ++ record { number = reader; blob = name; place = off; end = range_end size off len } ∷ []
readers_after (events.Step reader) (answers.Given number bytes) readers = map (advanced reader (length bytes)) readers
readers_after (events.Step reader) (answers.Ended number status) readers = filter (λ (each : OpenReader). not (reader.0 == each.number.0)) readers
readers_after events.Finish answer readers = []
readers_after event answer readers = readers

-- the open readers, in the order in which they were opened
abbrev pub readers : History → List OpenReader
readers start = []
readers (heard h event answer) = readers_after event answer (readers h)
readers (said h answer) = readers h
