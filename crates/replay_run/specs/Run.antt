-- What a replay reads and writes, by how it ended: the table of statuses. Own.
use Rattle.std.specs.Prelude.{◌≡◌, ◌⊎◌, ◌+◌, ◌^◌, ◌<◌, ◌≤◌, ℕ, Bool, true, false, List, [], ◌∷◌, ◌++◌, length, Option, IfSome, codes}
use Rattle.std.specs.List.{AllByRecursion}
use Rattle.std.specs.Io.KnownBytes.{Appends, Consumes, IsAtEnd}
use Rattle.blob_words.specs.declared.bounds.TheConstants.{MOST_LINES}
use Rattle.blob_source.specs.Faults.{Rose}
use Rattle.blob_source.specs.declared.sink.Sink.{Ghosts as Sink}
use Rattle.blob_source.specs.declared.source.Source.{Ghosts as Source}
use Rattle.session_script.specs.Line.{line_of}
use Rattle.answer_text.specs.Text.{group_text, groups_text}
use Rattle.answer_text.specs.declared.group.Group.{Group}
use Rattle.replay_run.specs.declared.session_end.SessionEnd.{SessionEnd}
use Rattle.replay_run.specs.declared.session_end.SessionEnd.TheVariants.{Finished, Refused, NoMemory, SourceFailed, SinkFailed, Stopped}
use Rattle.replay_run.specs.declared.reason.Reason.{Reason}
use Rattle.replay_run.specs.History.{start, history_from, has_ended}
use Rattle.replay_run.specs.Legal.{IsLegal}
use Rattle.replay_run.specs.Text.{refusal_line, IsProperPrefix}
use Rattle.replay_run.specs.Reads.{IsLineOf, BeginsWith, events_of, spelled, IsRefused}
use Rattle.replay_run.specs.SessionEnd.{code_of}

-- the words ask for a replay: `replay` and nothing else
abbrev pub AskReplay : List (List ℕ) → Type 0
AskReplay words = words ≡ codes "replay" ∷ []

-- whether the last of the groups is that of the `end` line
abbrev pub have_ended : List Group → Bool
have_ended [] = false
have_ended (group ∷ groups) = has_ended (history_from start groups)

-- what is unread of the session behind the lines of the groups: at 0 anything, but the last line was `end`; at 2 a line that is refused, of the next number; at
-- 5 anything, and the last line was not `end`; at 6 nothing
abbrev pub IsLeft : SessionEnd → List Group → Option (List ℕ) → Type 0
IsLeft Finished groups unread = have_ended groups ≡ true
IsLeft (Refused number reason) groups unread = (have_ended groups ≡ false) × (number ≡ length groups + 1) × IfSome unread (IsRefused groups reason)
IsLeft NoMemory groups unread = Unit {0}
IsLeft SourceFailed groups unread = Unit {0}
IsLeft SinkFailed groups unread = have_ended groups ≡ false
IsLeft Stopped groups unread = (have_ended groups ≡ false) × IsAtEnd unread

-- the group may come behind these ones
abbrev pub IsNext : List Group → Group → Type 0
IsNext groups group = IsLegal (groups ++ group ∷ []) × (length groups < MOST_LINES)

-- a part, which lacks some byte, of what was to be written for the next line: of a group's text, where the line is that of its event, or of the `!` line, where
-- the line is refused
abbrev pub IsCut : (Group → Type 0) → (Reason → List ℕ → Type 0) → ℕ → Option (List ℕ) → List ℕ → Type 0
IsCut Next IsOut number unread part =
    ((group : Group) × Next group × IsLineOf group.event × IfSome unread (λ bytes. BeginsWith bytes (line_of group.event))
    × IsProperPrefix part (group_text group))
    ⊎ ((reason : Reason) × IfSome unread (IsOut reason) × IsProperPrefix part (refusal_line number reason))

-- what was written behind the texts of the groups: at 2 the `!` line, at 5 a part of what was to come, else nothing
abbrev pub IsLast : SessionEnd → List Group → Option (List ℕ) → List ℕ → Type 0
IsLast Finished groups unread text = text ≡ []
IsLast (Refused number reason) groups unread text = text ≡ refusal_line number reason
IsLast NoMemory groups unread text = text ≡ []
IsLast SourceFailed groups unread text = text ≡ []
IsLast SinkFailed groups unread text = IsCut (IsNext groups) (IsRefused groups) (length groups + 1) unread text
IsLast Stopped groups unread text = text ≡ []

-- at 4 the source's count of faults rose, at 5 the sink's
abbrev pub HasCause : SessionEnd → ℕ → ℕ → ℕ → ℕ → Type 0
HasCause SourceFailed source source' sink sink' = Rose source source'
HasCause SinkFailed source source' sink sink' = Rose sink sink'
HasCause ending source source' sink sink' = Unit {0}

-- a replay: the transcript is legal, its events are the lines that were read, its text is what was written, and the status says how it ended
pub record IsReplay (told held held' : Option (List ℕ)) (source source' sink sink' status : ℕ) : Type 0 where
  pub transcript : List Group
  pub ending : SessionEnd
  pub code : status ≡ code_of ending
  pub legal : IsLegal transcript
  pub lines : AllByRecursion IsLineOf (events_of transcript)
  pub few : length transcript ≤ MOST_LINES
  pub unread : Option (List ℕ)
  pub read : Consumes told unread (spelled (events_of transcript))
  pub left : IsLeft ending transcript unread
  pub last : List ℕ
  pub written : Appends held held' (groups_text transcript ++ last)
  pub is_last : IsLast ending transcript unread last
  pub cause : HasCause ending source source' sink sink'

-- the same of a source and a sink, as a call found them and as it left them
abbrev pub Replays : {S K : Type 0} → Source S → Sink K → S → S → K → K → ℕ → Type 0
Replays source sink session session' out out' status =
    IsReplay (source.left session) (sink.held out) (sink.held out') (source.faults session) (source.faults session') (sink.faults out) (sink.faults out') status
