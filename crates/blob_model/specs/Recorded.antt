-- What is recorded of files. File API: a File keeps a snapshot state; the change stamps are own.
use Rattle.std.specs.Prelude.{ℕ, ◌==◌, ◌&&◌, List, [], ◌∷◌, ◌++◌, Option, None, Some, bytes_eq, if◌then◌else◌}
use Rattle.std.specs.List.{list_any}
use Rattle.session_script.specs.declared.event.Event.{Event}
use Rattle.session_script.specs.declared.event.Event.TheVariants as events
use Rattle.blob_model.specs.History.{History, start, heard, refused, said}

-- the state of a file: its change stamp and its bytes
pub record FileState : Type 0 where
  pub stamp : ℕ
  pub bytes : List ℕ

-- an accepted `file` line records a state, a `gone` line takes it away
abbrev pub recorded_after : Event → List ℕ → Option FileState → Option FileState
recorded_after (events.File file stamp bytes) name before = if bytes_eq file name then Some (record { stamp = stamp; bytes = bytes }) else before
recorded_after (events.Gone file) name before = if bytes_eq file name then None else before
recorded_after event name before = before

-- what is recorded now of the file
abbrev pub recorded : History → List ℕ → Option FileState
recorded start name = None
recorded (heard h event answer) name = recorded_after event name (recorded h name)
recorded (refused h event why) name = recorded h name
recorded (said h answer) name = recorded h name

-- a `gone` line leaves the last stamp
abbrev pub last_stamp_after : Event → List ℕ → Option ℕ → Option ℕ
last_stamp_after (events.File file stamp bytes) name before = if bytes_eq file name then Some stamp else before
last_stamp_after event name before = before

-- the last stamp ever recorded of the file
abbrev pub last_stamp : History → List ℕ → Option ℕ
last_stamp start name = None
last_stamp (heard h event answer) name = last_stamp_after event name (last_stamp h name)
last_stamp (refused h event why) name = last_stamp h name
last_stamp (said h answer) name = last_stamp h name

-- a file is named once, at its first `file` line
abbrev pub file_names_after : Event → List (List ℕ) → List (List ℕ)
file_names_after (events.File file stamp bytes) before = if list_any (bytes_eq file) before then before else before ++ file ∷ []
file_names_after event before = before

-- the files ever recorded
abbrev pub file_names : History → List (List ℕ)
file_names start = []
file_names (heard h event answer) = file_names_after event (file_names h)
file_names (refused h event why) = file_names h
file_names (said h answer) = file_names h

-- stamps rise, so one line at most has this name and this stamp
abbrev pub content_after : Event → List ℕ → ℕ → Option (List ℕ) → Option (List ℕ)
content_after (events.File file at bytes) name stamp before = if bytes_eq file name && at == stamp then Some bytes else before
content_after event name stamp before = before

-- the bytes that the file had at this stamp
abbrev pub content : History → List ℕ → ℕ → Option (List ℕ)
content start name stamp = None
content (heard h event answer) name stamp = content_after event name stamp (content h name stamp)
content (refused h event why) name stamp = content h name stamp
content (said h answer) name stamp = content h name stamp
