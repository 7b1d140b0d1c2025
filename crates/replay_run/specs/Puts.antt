-- What is written for the opening and for a refusal.
use Rattle.std.specs.Prelude.{◌≡◌, ℕ, List, [], Option, None, Some}
use Rattle.std.specs.Io.KnownBytes.{Appends}
use Rattle.replay_run.specs.declared.session_end.SessionEnd.{SessionEnd}
use Rattle.replay_run.specs.declared.session_end.SessionEnd.TheVariants.{Finished, Refused, NoMemory, SourceFailed, SinkFailed, Stopped}
use Rattle.replay_run.specs.declared.reason.Reason.{Reason}
use Rattle.replay_run.specs.Text.{refusal_line, IsProperPrefix}

-- a part of the text was written that lacks some byte
abbrev pub AppendsPart : Option (List ℕ) → Option (List ℕ) → List ℕ → Type 0
AppendsPart held held' text = (part : List ℕ) × Appends held held' part × IsProperPrefix part text

-- why a text was not written, or not whole: nothing was written for want of memory, a part where the sink failed
abbrev pub IsUnwritten : List ℕ → Option (List ℕ) → Option (List ℕ) → SessionEnd → Type 0
IsUnwritten text held held' Finished = ⊥
IsUnwritten text held held' (Refused number reason) = ⊥
IsUnwritten text held held' NoMemory = Appends held held' []
IsUnwritten text held held' SourceFailed = ⊥
IsUnwritten text held held' SinkFailed = AppendsPart held held' text
IsUnwritten text held held' Stopped = ⊥

-- a refusal of the line of this number was written, or a part of it
abbrev pub IsRefusal : ℕ → Reason → Option (List ℕ) → Option (List ℕ) → SessionEnd → Type 0
IsRefusal number reason held held' Finished = ⊥
IsRefusal number reason held held' (Refused n why) = (n ≡ number) × (why ≡ reason) × Appends held held' (refusal_line number reason)
IsRefusal number reason held held' NoMemory = ⊥
IsRefusal number reason held held' SourceFailed = ⊥
IsRefusal number reason held held' SinkFailed = AppendsPart held held' (refusal_line number reason)
IsRefusal number reason held held' Stopped = ⊥

-- the same for a line with this word; where it has none there was no memory to read it, and nothing was written
abbrev pub IsFaultRefusal : ℕ → Option Reason → Option (List ℕ) → Option (List ℕ) → SessionEnd → Type 0
IsFaultRefusal number None held held' ending = (ending ≡ NoMemory) × Appends held held' []
IsFaultRefusal number (Some reason) held held' ending = IsRefusal number reason held held' ending
