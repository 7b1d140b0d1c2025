-- What one step of a reader gives. Own; the bytes are those of the File API's Blob.
use Rattle.std.specs.Prelude.{ℕ, ◌-◌, ◌==◌, List, take, drop, min, map, if◌then◌else◌}
use Rattle.blob_words.specs.declared.limits.Limits.{Limits}
use Rattle.blob_words.specs.declared.number.ReaderId.{ReaderId}
use Rattle.blob_words.specs.declared.status.Status.TheVariants as statuses
use Rattle.answer_text.specs.declared.answer.Answer.{Answer}
use Rattle.answer_text.specs.declared.answer.Answer.TheVariants as answers
use Rattle.replay_run.specs.History.{History}
use Rattle.replay_run.specs.Builds.{Cell, cells_of, value}
use Rattle.replay_run.specs.Readers.{OpenReader}

-- how many bytes of its range the reader has not given
abbrev pub left : OpenReader → ℕ
left reader = reader.end - reader.place

-- the next cells of the range, at most `chunk` of them
abbrev pub chunk : Limits → History → OpenReader → List Cell
chunk l h reader = take (min (left reader) l.chunk) (drop reader.place (cells_of h reader.blob))

-- a step of an open reader: `end done` where nothing is left, else the bytes of the chunk
abbrev pub step_answer : Limits → History → ReaderId → OpenReader → Answer
step_answer l h number reader =
    if left reader == 0 then answers.Ended number statuses.Done else answers.Given number (map (value h) (chunk l h reader))
