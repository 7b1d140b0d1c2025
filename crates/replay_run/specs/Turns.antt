-- What one line, and all lines behind the first, do to what is left and what was written.
use Rattle.std.specs.Prelude.{◌≡◌, ◌≢◌, ◌+◌, ◌^◌, ◌<◌, ℕ, true, false, List, [], ◌∷◌, ◌++◌, length, Option, None, IfSome}
use Rattle.std.specs.List.{AllByRecursion}
use Rattle.std.specs.Io.KnownBytes.{Appends, Consumes, IsAtEnd}
use Rattle.blob_words.specs.declared.bounds.TheConstants.{MOST_LINES}
use Rattle.session_script.specs.Line.{line_of}
use Rattle.blob_words.specs.declared.limits.Limits.{Limits}
use Rattle.answer_text.specs.Text.{group_text, groups_text}
use Rattle.answer_text.specs.declared.group.Group.{Group}
use Rattle.replay_run.specs.declared.session_end.SessionEnd.{SessionEnd}
use Rattle.replay_run.specs.declared.session_end.SessionEnd.TheVariants.{Finished, Refused, NoMemory, SourceFailed, SinkFailed, Stopped}
use Rattle.replay_run.specs.declared.reason.Reason.{Reason}
use Rattle.replay_run.specs.declared.reason.Reason.TheVariants as reasons
use Rattle.replay_run.specs.declared.turn.Turn.{Turn}
use Rattle.replay_run.specs.declared.turn.Turn.TheVariants.{More, Over}
use Rattle.replay_run.specs.declared.store.Store.{Store}
use Rattle.replay_run.specs.History.{History, start, after, history_from, has_ended}
use Rattle.replay_run.specs.Own.{own}
use Rattle.replay_run.specs.Legal.{opening, IsLegalGroup, IsLegalFrom}
use Rattle.replay_run.specs.Settle.{unfinished}
use Rattle.replay_run.specs.Text.{refusal_line}
use Rattle.replay_run.specs.Reads.{IsLineOf, IsBad, events_of, spelled, limits_of, states_limits}
use Rattle.replay_run.specs.Run.{IsLeft, IsLast, IsCut, HasCause}
use Rattle.replay_run.specs.Stands.{Stands, Rests}

-- the line of a group was taken, and its text written
pub record IsTaken (l : Limits) (h : History) (unread unread' held held' : Option (List ℕ)) (store : Store) : Type 0 where
  pub group : Group
  pub legal : IsLegalGroup l h group
  pub line : IsLineOf group.event
  pub consumed : Consumes unread unread' (line_of group.event ++ 10 ∷ [])
  pub appended : Appends held held' (group_text group)
  pub stands : Stands l store (after h group.event group.answers)
  pub nothing_owed : unfinished (after h group.event group.answers) ≡ []

-- how the session ended at a line of this number, where no group was taken; two predicates say which groups may come next, and which words apply
abbrev pub EndsAt : (Group → Type 0) → (Reason → List ℕ → Type 0) → ℕ → Option (List ℕ) → Option (List ℕ) → Option (List ℕ) → SessionEnd → Type 0
EndsAt Next IsOut number unread held held' Finished = ⊥
EndsAt Next IsOut number unread held held' (Refused n reason) = (n ≡ number) × IfSome unread (IsOut reason) × Appends held held' (refusal_line number reason)
EndsAt Next IsOut number unread held held' NoMemory = Appends held held' []
EndsAt Next IsOut number unread held held' SourceFailed = Appends held held' []
EndsAt Next IsOut number unread held held' SinkFailed = (part : List ℕ) × Appends held held' part × IsCut Next IsOut number unread part
EndsAt Next IsOut number unread held held' Stopped = IsAtEnd unread × Appends held held' []

-- the words that apply to a line behind the first
abbrev pub IsOutAt : Limits → History → Reason → List ℕ → Type 0
IsOutAt l h reason bytes = IsBad (λ event. ⊥) (λ event. own l h event ≡ None) reason bytes

-- the groups that come first, and the words that apply to a first line
abbrev pub IsOpening : Group → Type 0
IsOpening group = (l : Limits) × (group ≡ opening l)

abbrev pub IsOutFirst : Reason → List ℕ → Type 0
IsOutFirst reason bytes = IsBad (λ event. states_limits event ≡ false) (λ event. (states_limits event ≡ true) × (limits_of event ≡ None)) reason bytes

-- behind the greatest number of lines no group comes, and any byte is refused
abbrev pub IsNone : Group → Type 0
IsNone group = ⊥

abbrev pub IsOutPast : Reason → List ℕ → Type 0
IsOutPast reason bytes = (reason ≡ reasons.Lines) × (bytes ≢ [])

-- what one line led to
abbrev pub Turned : Limits → History → ℕ → Option (List ℕ) → Option (List ℕ) → Option (List ℕ) → Option (List ℕ) → Store → Turn → Type 0
Turned l h number unread unread' held held' store More = (taken : IsTaken l h unread unread' held held' store)
    × (has_ended (after h taken.group.event taken.group.answers) ≡ false)
Turned l h number unread unread' held held' store (Over Finished) = (taken : IsTaken l h unread unread' held held' store)
    × (has_ended (after h taken.group.event taken.group.answers) ≡ true)
Turned l h number unread unread' held held' store (Over ending) = EndsAt (IsLegalGroup l h) (IsOutAt l h) number unread held held' ending

-- the lines behind the first, all of them
pub record AreTaken (l : Limits) (unread held held' : Option (List ℕ)) (source source' sink sink' : ℕ) (ending : SessionEnd) : Type 0 where
  pub groups : List Group
  pub legal : IsLegalFrom l start groups
  pub lines : AllByRecursion IsLineOf (events_of groups)
  pub few : length groups < MOST_LINES
  pub unread' : Option (List ℕ)
  pub read : Consumes unread unread' (spelled (events_of groups))
  pub left : IsLeft ending (opening l ∷ groups) unread'
  pub last : List ℕ
  pub written : Appends held held' (groups_text groups ++ last)
  pub is_last : IsLast ending (opening l ∷ groups) unread' last
  pub cause : HasCause ending source source' sink sink'

-- the causes of a turn
abbrev pub TurnCause : Turn → ℕ → ℕ → ℕ → ℕ → Type 0
TurnCause More source source' sink sink' = Unit {0}
TurnCause (Over ending) source source' sink sink' = HasCause ending source source' sink sink'

-- the lines so far behind the first: the line to come has this number
pub record Going (l : Limits) (unread0 unread held0 held : Option (List ℕ)) (store : Store) (number : ℕ) : Type 0 where
  pub groups : List Group
  pub legal : IsLegalFrom l start groups
  pub lines : AllByRecursion IsLineOf (events_of groups)
  pub count : number ≡ length groups + 2
  pub rests : Rests l store (history_from start groups)
  pub read : Consumes unread0 unread (spelled (events_of groups))
  pub written : Appends held0 held (groups_text groups)
