-- The first answer of each line. Own.
use Rattle.std.specs.Prelude.{ℕ, ◌+◌, ◌==◌, ◌||◌, ◌&&◌, Bool, true, false, not, List, [], length, find, Option, None, Some, unwrap_or, nat_lt, nat_le, if◌then◌else◌, flat_map}
use Rattle.std.specs.Option.{option_map, option_map_or}
use Rattle.std.specs.List.{list_any, list_all}
use Rattle.session_script.specs.declared.event.Event.{Event}
use Rattle.session_script.specs.declared.event.Event.TheVariants as events
use Rattle.session_script.specs.declared.event.Part.{Part}
use Rattle.session_script.specs.declared.event.Part.TheVariants as parts
use Rattle.blob_words.specs.declared.limits.Limits.{Limits}
use Rattle.blob_words.specs.declared.number.RendererId.{RendererId}
use Rattle.blob_words.specs.declared.number.ReaderId.{ReaderId}
use Rattle.answer_text.specs.declared.answer.Answer.{Answer}
use Rattle.answer_text.specs.declared.answer.Answer.TheVariants as answers
use Rattle.answer_text.specs.declared.refusal.Refusal.TheVariants as refusals
use Rattle.replay_run.specs.History.{History}
use Rattle.replay_run.specs.Builds.{builds, is_built, part_bytes, size_of}
use Rattle.replay_run.specs.Readers.{OpenReader, readers}
use Rattle.replay_run.specs.Live.{renderers, is_spawned, has_handle}
use Rattle.replay_run.specs.Pieces.{pieces, build_pieces, memory}
use Rattle.replay_run.specs.Plan.{plan_for}
use Rattle.replay_run.specs.Chunk.{step_answer}

-- a session has at most 1,024 renderers, 65,536 blobs, 65,536 pieces, and 4,096 open readers at a time
abbrev pub own_spawn : History → RendererId → Option Answer
own_spawn h renderer = if is_spawned h renderer.0 || nat_le 1024 (length (renderers h)) then None else Some answers.Good

-- whether the bytes of the part stand in the line
abbrev pub is_embedded : Part → Bool
is_embedded (parts.Embedded bytes) = true
is_embedded part = false

-- whether a build is one of no content type and of bytes that stand in the line
abbrev pub is_plain : List ℕ → List Part → Bool
is_plain kind parts = (length kind == 0) && list_all is_embedded parts

-- such a build answers its plan
abbrev pub own_build : Limits → History → RendererId → ℕ → List Part → Option Answer
own_build l h renderer name parts =
    if not (is_spawned h renderer.0) then Some (answers.Refused (refusals.NoRenderer renderer)) else (
    if is_built h name || nat_le 65536 (length (builds h)) then None else (
    if nat_lt 65536 (length (pieces l h) + length (build_pieces l.page (record { name = name; parts = parts }))) then None
    else option_map answers.Planned (plan_for l (memory l h) (length (flat_map part_bytes parts)))))

-- a drop wants a handle
abbrev pub own_drop : History → RendererId → ℕ → Option Answer
own_drop h renderer name =
    if not (is_spawned h renderer.0) then Some (answers.Refused (refusals.NoRenderer renderer)) else (
    if not (has_handle h renderer name) then Some (answers.Refused (refusals.NoHandle renderer name)) else Some answers.Good)

-- whether a reader of this number is open
abbrev pub is_open : History → ReaderId → Bool
is_open h reader = list_any (λ (each : OpenReader). reader.0 == each.number.0) (readers h)

-- whether a read of a blob on which there is a handle is one that isn't built: its number is used, its range passes the blob, or too many readers are open
abbrev pub is_unbuilt_read : History → ReaderId → ℕ → ℕ → Option ℕ → Bool
is_unbuilt_read h reader name off len = is_open h reader || nat_lt (size_of h name) (off + unwrap_or len 0) || nat_le 4096 (length (readers h))

-- a read wants a handle, a number that is free and a range inside the blob; it answers the size
abbrev pub own_read : History → RendererId → ReaderId → ℕ → ℕ → Option ℕ → Option Answer
own_read h renderer reader name off len =
    if not (is_spawned h renderer.0) then Some (answers.Refused (refusals.NoRenderer renderer)) else (
    if not (has_handle h renderer name) then Some (answers.Refused (refusals.NoHandle renderer name)) else (
    if is_unbuilt_read h reader name off len then None
    else Some (answers.Opened reader (size_of h name) [])))

-- a step wants an open reader
abbrev pub own_step : Limits → History → ReaderId → Option Answer
own_step l h reader =
    Some (option_map_or (step_answer l h reader) (find (λ (each : OpenReader). reader.0 == each.number.0) (readers h))
    (answers.Refused (refusals.NoReader reader)))

-- the first answer of a line, or nothing where the line is not built yet
abbrev pub own : Limits → History → Event → Option Answer
own l h (events.Spawn renderer origin) = own_spawn h renderer
own l h (events.Build renderer name kind parts) = if is_plain kind parts then own_build l h renderer name parts else None
own l h (events.Drop renderer name) = own_drop h renderer name
own l h (events.Read renderer reader name off len) = own_read h renderer reader name off len
own l h (events.Step reader) = own_step l h reader
own l h events.Finish = Some answers.Good
own l h event = None
