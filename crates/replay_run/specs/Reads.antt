-- What a session tells, line by line. Own.
use Rattle.std.specs.Prelude.{◌≡◌, ◌≢◌, ◌⊎◌, ◌+◌, ◌^◌, ◌<◌, ◌≤◌, ℕ, Bool, true, false, List, [], ◌∷◌, ◌++◌, length, map, flat_map, Option, None, Some, IfSome}
use Rattle.blob_words.specs.declared.bounds.TheConstants.{LONGEST_LINE, MOST_LINES}
use Rattle.blob_source.specs.Lines.{has_line_feed}
use Rattle.session_script.specs.declared.event.Event.{Event}
use Rattle.session_script.specs.declared.event.Event.TheVariants as events
use Rattle.text_fields.specs.declared.line_fault.LineFault.{LineFault}
use Rattle.text_fields.specs.declared.line_fault.LineFault.TheVariants as faults
use Rattle.session_script.specs.Fault.{IsLineFault}
use Rattle.session_script.specs.Line.{line_of, HasSpelling}
use Rattle.blob_words.specs.declared.limits.Limits.{Limits}
use Rattle.answer_text.specs.declared.group.Group.{Group}
use Rattle.replay_run.specs.declared.reason.Reason.{Reason}
use Rattle.replay_run.specs.declared.reason.Reason.TheVariants as reasons
use Rattle.replay_run.specs.History.{start, history_from}
use Rattle.replay_run.specs.Own.{own}

-- an event that a line of a session may spell: at most 2^20 bytes before its line feed
abbrev pub IsLineOf : Event → Type 0
IsLineOf event = HasSpelling event × (length (line_of event) ≤ LONGEST_LINE)

-- the events of some groups
abbrev pub events_of : List Group → List Event
events_of groups = map (λ (group : Group). group.event) groups

-- the lines of some events, each with its line feed
abbrev pub spelled : List Event → List ℕ
spelled list = flat_map (λ (event : Event). line_of event ++ 10 ∷ []) list

-- the bytes begin with this line and its line feed
abbrev pub BeginsWith : List ℕ → List ℕ → Type 0
BeginsWith bytes line = (more : List ℕ) × (bytes ≡ line ++ 10 ∷ more)

-- the bytes begin with the line of an event of which P is said
abbrev pub BeginsWithEvent : (Event → Type 0) → List ℕ → Type 0
BeginsWithEvent P bytes = (event : Event) × IsLineOf event × BeginsWith bytes (line_of event) × P event

-- the bytes begin with a line, not too long, that has this fault
abbrev pub BeginsWithFault : LineFault → List ℕ → Type 0
BeginsWithFault fault bytes = (line : List ℕ) × (length line ≤ LONGEST_LINE) × (has_line_feed line ≡ false) × BeginsWith bytes line × IsLineFault fault line

-- the bytes begin with more than 2^20 of which none is a line feed
abbrev pub IsLong : List ℕ → Type 0
IsLong bytes = (line : List ℕ) × (more : List ℕ) × (bytes ≡ line ++ more) × (length line ≡ LONGEST_LINE + 1) × (has_line_feed line ≡ false)

-- the bytes are the last of the session, not too many, and no line feed is among them
abbrev pub IsUnended : List ℕ → Type 0
IsUnended bytes = (0 < length bytes) × (length bytes ≤ LONGEST_LINE) × (has_line_feed bytes ≡ false)

-- the word applies to the line that the bytes begin with, but `lines`; of which events `first` and `unbuilt` are said, two predicates tell
abbrev pub IsBad : (Event → Type 0) → (Event → Type 0) → Reason → List ℕ → Type 0
IsBad IsFirst IsUnbuilt reasons.Lines bytes = ⊥
IsBad IsFirst IsUnbuilt reasons.Long bytes = IsLong bytes
IsBad IsFirst IsUnbuilt reasons.Unended bytes = IsUnended bytes
IsBad IsFirst IsUnbuilt reasons.Word bytes = BeginsWithFault faults.Word bytes
IsBad IsFirst IsUnbuilt reasons.Fields bytes = BeginsWithFault faults.Fields bytes
IsBad IsFirst IsUnbuilt reasons.Number bytes = BeginsWithFault faults.Number bytes
IsBad IsFirst IsUnbuilt reasons.Hex bytes = BeginsWithFault faults.Hex bytes
IsBad IsFirst IsUnbuilt reasons.Name bytes = BeginsWithFault faults.Name bytes
IsBad IsFirst IsUnbuilt reasons.«Type» bytes = BeginsWithFault faults.«Type» bytes
IsBad IsFirst IsUnbuilt reasons.Limits bytes = BeginsWithFault faults.Limits bytes
IsBad IsFirst IsUnbuilt reasons.First bytes = BeginsWithEvent IsFirst bytes
IsBad IsFirst IsUnbuilt reasons.Unbuilt bytes = BeginsWithEvent IsUnbuilt bytes

-- whether the event is limits, of either version
abbrev pub states_limits : Event → Bool
states_limits (events.Limits limits) = true
states_limits (events.Limits2 limits) = true
states_limits event = false

-- the limits of a session of version 1, where the event is their line
abbrev pub limits_of : Event → Option Limits
limits_of (events.Limits limits) = Some limits
limits_of event = None

-- a first line states limits
abbrev pub IsFirst : List Group → Event → Type 0
IsFirst [] event = states_limits event ≡ false
IsFirst (group ∷ groups) event = ⊥

-- the event isn't built yet behind these groups: limits of version 2, or a line that has no first answer
abbrev pub IsUnbuilt : List Group → Event → Type 0
IsUnbuilt [] event = (states_limits event ≡ true) × (limits_of event ≡ None)
IsUnbuilt (group ∷ groups) event = IfSome (limits_of group.event) (λ (l : Limits). own l (history_from start groups) event ≡ None)

-- the word applies to the line that comes behind these groups: `lines` alone behind the greatest number of them, and any other before it
abbrev pub IsRefused : List Group → Reason → List ℕ → Type 0
IsRefused groups reason bytes =
    ((length groups ≡ MOST_LINES) × (reason ≡ reasons.Lines) × (bytes ≢ []))
    ⊎ ((length groups < MOST_LINES) × IsBad (λ event. IsFirst groups event) (λ event. IsUnbuilt groups event) reason bytes)
