-- The open readers: ranges of blobs, each with its place. Own.
use Rattle.std.specs.Prelude.{ℕ, ◌+◌, ◌==◌, Bool, not, List, [], ◌∷◌, ◌++◌, length, map, filter, find, Option, None, Some, if◌then◌else◌}
use Rattle.std.specs.List.{list_any}
use Rattle.session_script.specs.declared.event.Event.{Event}
use Rattle.session_script.specs.declared.event.Event.TheVariants as events
use Rattle.answer_text.specs.declared.answer.Answer.{Answer}
use Rattle.answer_text.specs.declared.answer.Answer.TheVariants as answers
use Rattle.blob_model.specs.History.{History, start, heard, refused, said}
use Rattle.blob_model.specs.Builds.{builds, size_in}
use Rattle.blob_model.specs.Standing.{is_broken}
use Rattle.blob_model.specs.Entries.{Entry, resolved}

-- a reader: its number, its renderer, its blob, the place in the blob of the next byte to give, and the end of its range
pub record OpenReader : Type 0 where
  pub number : ℕ
  pub owner : ℕ
  pub blob : ℕ
  pub place : ℕ
  pub end : ℕ

-- the end of a range in a blob of this size; a range without a length goes on to the end of the blob
abbrev pub range_end : ℕ → ℕ → Option ℕ → ℕ
range_end size off None = size
range_end size off (Some len) = off + len

-- the reader that is opened; on a broken blob its range is empty
abbrev pub opened : ℕ → History → ℕ → ℕ → ℕ → ℕ → Option ℕ → OpenReader
opened page h owner number name off len = record {
  number = number;
  owner = owner;
  blob = name;
  place = off;
  end = (if is_broken h name then off else range_end (size_in (builds page h) name) off len);
}

-- a `fetch` line opens a reader on the blob of the entry
abbrev pub fetched : ℕ → History → ℕ → ℕ → Option Entry → ℕ → Option ℕ → List OpenReader
fetched page h owner number None off len = []
fetched page h owner number (Some entry) off len = opened page h owner number entry.blob off len ∷ []

-- the reader of this number goes on by so many bytes
abbrev pub advanced : ℕ → ℕ → OpenReader → OpenReader
advanced number count reader = if reader.number == number then record reader { place = reader.place + count } else reader

-- the readers but that of this number
abbrev pub closed : ℕ → List OpenReader → List OpenReader
closed number readers = filter (λ (reader : OpenReader). not (reader.number == number)) readers

-- a step that gave bytes moves its reader on, one whose answer is an end or a fault closes it; `cancel` closes one, and a renderer's readers go when it dies
abbrev pub readers_after : ℕ → History → Event → Answer → List OpenReader → List OpenReader
readers_after page h (events.Read renderer reader name off len) answer before = before ++ opened page h renderer.0 reader.0 name off len ∷ []
readers_after page h (events.Fetch renderer reader text off len) answer before = before ++ fetched page h renderer.0 reader.0 (resolved h renderer.0 text) off
    len
readers_after page h (events.Step reader) (answers.Given number bytes) before = map (advanced reader.0 (length bytes)) before
readers_after page h (events.Step reader) (answers.Ended number status) before = closed reader.0 before
readers_after page h (events.Step reader) (answers.FileChanged number name) before = closed reader.0 before
readers_after page h (events.Step reader) (answers.PageFault number file) before = closed reader.0 before
readers_after page h (events.Step reader) (answers.HandleFailed number slot) before = closed reader.0 before
readers_after page h (events.Cancel renderer reader) answer before = closed reader.0 before
readers_after page h (events.Die renderer) answer before = filter (λ (reader : OpenReader). not (reader.owner == renderer.0)) before
readers_after page h events.Finish answer before = []
readers_after page h event answer before = before

-- the open readers, in the order in which they were opened
abbrev pub readers : ℕ → History → List OpenReader
readers page start = []
readers page (heard h event answer) = readers_after page h event answer (readers page h)
readers page (refused h event why) = readers page h
readers page (said h answer) = readers page h

-- the open reader of this number
abbrev pub reader_at : ℕ → History → ℕ → Option OpenReader
reader_at page h number = find (λ (reader : OpenReader). reader.number == number) (readers page h)

-- whether an open reader reads the blob
abbrev pub is_read : ℕ → History → ℕ → Bool
is_read page h name = list_any (λ (reader : OpenReader). reader.blob == name) (readers page h)
