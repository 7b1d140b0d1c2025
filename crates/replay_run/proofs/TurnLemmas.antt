-- What a line that is read, or is not, says of the session.
use Rattle.std.proofs.Common.{◌≡◌, ◌⊎◌, ℕ, ◌+◌, ◌^◌, ◌<◌, ◌≤◌, false, List, [], ◌∷◌, ◌++◌, length, Option, None, Some, IfSome, inl, inr, refl, sym, ◌∙◌, ap, subst, arith, append_assoc, length-append}
use Rattle.std.specs.Io.KnownBytes.{Appends, Consumes}
use Rattle.answer_text.specs.declared.group.Group.{Group}
use Rattle.session_script.specs.declared.event.Event.{Event}
use Rattle.session_script.specs.declared.event.Event.TheVariants as events
use Rattle.text_fields.specs.declared.line_fault.LineFault.{LineFault}
use Rattle.text_fields.specs.declared.line_fault.LineFault.TheVariants as faults
use Rattle.session_script.specs.Fault.{IsLineFault}
use Rattle.session_script.specs.Line.{line_of}
use Rattle.blob_words.specs.declared.limits.Limits.{Limits}
use Rattle.blob_source.specs.Lines.{has_line_feed}
use Rattle.replay_run.specs.declared.session_end.SessionEnd.{SessionEnd}
use Rattle.replay_run.specs.declared.session_end.SessionEnd.TheVariants.{Finished, Refused, NoMemory, SourceFailed, SinkFailed, Stopped}
use Rattle.replay_run.specs.declared.reason.Reason.{Reason}
use Rattle.replay_run.specs.declared.reason.Reason.TheVariants as reasons
use Rattle.replay_run.specs.declared.turn.Turn.TheVariants.{Over}
use Rattle.replay_run.specs.declared.store.Store.{Store}
use Rattle.replay_run.specs.History.{History}
use Rattle.replay_run.specs.Legal.{IsLegalGroup}
use Rattle.replay_run.specs.Puts.{IsFaultRefusal, IsRefusal}
use Rattle.replay_run.specs.Reads.{IsLineOf, BeginsWith, BeginsWithFault, IsBad, limits_of}
use Rattle.replay_run.specs.Reason.{reason_of}
use Rattle.replay_run.specs.Text.{refusal_line}
use Rattle.replay_run.specs.Turns.{EndsAt, IsOutAt, IsOutPast, Turned}

-- ---- what begins a session

pub begins : (unread unread' : Option (List ℕ)) (line : List ℕ) → Consumes unread unread' (line ++ 10 ∷ []) → IfSome unread (λ bytes. BeginsWith bytes line)
begins None unread' line taken = tt
begins (Some bytes) None line taken = absurd taken
begins (Some bytes) (Some rest) line taken = (rest, taken ∙ append_assoc line (10 ∷ []) rest)

-- a line that is too long
pub bad-long : (F U : Event → Type 0) (unread unread' : Option (List ℕ)) (line : List ℕ) → Consumes unread unread' line → length line ≡ 2 ^ 20 + 1
    → has_line_feed line ≡ false
    → IfSome unread (IsBad F U reasons.Long)
bad-long F U None unread' line taken long clear = tt
bad-long F U (Some bytes) None line taken long clear = absurd taken
bad-long F U (Some bytes) (Some rest) line taken long clear = (line, rest, taken, long, clear)

-- a line without its feed
pub bad-unended : (F U : Event → Type 0) (unread : Option (List ℕ)) (line : List ℕ) → IfSome unread (λ bytes. bytes ≡ line) → 0 < length line
    → length line ≤ 2 ^ 20 → has_line_feed line ≡ false
    → IfSome unread (IsBad F U reasons.Unended)
bad-unended F U None line taken some short clear = tt
bad-unended F U (Some bytes) line taken some short clear = subst (λ (text : List ℕ). IsBad F U reasons.Unended text) (sym taken) (some, short, clear)

-- a line with a fault has the fault's word
some_is : {X : Type 0} {x y : X} → Some x ≡ Some y → x ≡ y
some_is same = cc

pub fault_word : (F U : Event → Type 0) (bytes : List ℕ) (fault : LineFault) (reason : Reason) → reason_of fault ≡ Some reason → BeginsWithFault fault bytes
    → IsBad F U reason bytes
fault_word F U bytes faults.Word reason is begins = subst (λ (word : Reason). IsBad F U word bytes) (some_is is) begins
fault_word F U bytes faults.Fields reason is begins = subst (λ (word : Reason). IsBad F U word bytes) (some_is is) begins
fault_word F U bytes faults.Number reason is begins = subst (λ (word : Reason). IsBad F U word bytes) (some_is is) begins
fault_word F U bytes faults.Hex reason is begins = subst (λ (word : Reason). IsBad F U word bytes) (some_is is) begins
fault_word F U bytes faults.Name reason is begins = subst (λ (word : Reason). IsBad F U word bytes) (some_is is) begins
fault_word F U bytes faults.«Type» reason is begins = subst (λ (word : Reason). IsBad F U word bytes) (some_is is) begins
fault_word F U bytes faults.Limits reason is begins = subst (λ (word : Reason). IsBad F U word bytes) (some_is is) begins
fault_word F U bytes faults.Memory reason is begins = cc

-- what a faulty line says of the session
faulty : (fault : LineFault) (reason : Reason) (line : List ℕ) → reason_of fault ≡ Some reason → (fault ≡ faults.Memory) ⊎ IsLineFault fault line
    → IsLineFault fault line
faulty fault reason line is (inl memory) = let none : None ≡ Some reason = sym (ap reason_of memory) ∙ is in cc
faulty fault reason line is (inr fails) = fails

pub bad-fault : (F U : Event → Type 0) (unread unread' : Option (List ℕ)) (line : List ℕ) (fault : LineFault) (reason : Reason) → reason_of fault ≡ Some reason
    → Consumes unread unread' (line ++ 10 ∷ [])
    → length line ≤ 2 ^ 20 → has_line_feed line ≡ false → (fault ≡ faults.Memory) ⊎ IsLineFault fault line → IfSome unread (IsBad F U reason)
bad-fault F U None unread' line fault reason is taken short clear fails = tt
bad-fault F U (Some bytes) None line fault reason is taken short clear fails = absurd taken
bad-fault F U (Some bytes) (Some rest) line fault reason is taken short clear fails =
    fault_word F U bytes fault reason is (line, short, clear, begins (Some bytes) (Some rest) line taken, faulty fault reason line is fails)

-- a line that spells an event of which P is said
pub with_event : (P : Event → Type 0) (unread unread' : Option (List ℕ)) (line : List ℕ) (event : Event) → Consumes unread unread' (line ++ 10 ∷ [])
    → IsLineOf event → line ≡ line_of event → P event
    → IfSome unread (λ bytes. (one : Event) × IsLineOf one × BeginsWith bytes (line_of one) × P one)
with_event P None unread' line event taken is spelled out = tt
with_event P (Some bytes) None line event taken is spelled out = absurd taken
with_event P (Some bytes) (Some rest) line event taken is spelled out =
    (event, is, (rest, taken ∙ append_assoc line (10 ∷ []) rest ∙ ap (λ text. text ++ 10 ∷ rest) spelled), out)

-- ---- how a session ends at a line

module _ (Next : Group → Type 0) (IsOut : Reason → List ℕ → Type 0) (number : ℕ) (unread held held' : Option (List ℕ)) where
  pub ends-refused : (reason : Reason) (ending : SessionEnd) → IfSome unread (IsOut reason) → IsRefusal number reason held held' ending
      → EndsAt Next IsOut number unread held held' ending
  ends-refused reason Finished out written = absurd written
  ends-refused reason (Refused n why) out written = (
    written.0,
    subst (λ (word : Reason). IfSome unread (IsOut word)) (sym written.1) out,
    subst
        (λ (word : Reason). Appends held held' (refusal_line number word)) (sym written.1) written.2,
  )
  ends-refused reason NoMemory out written = absurd written
  ends-refused reason SourceFailed out written = absurd written
  ends-refused reason SinkFailed out written = (written.0, written.1, inr (reason, out, written.2))
  ends-refused reason Stopped out written = absurd written

  pub ends-fault : (why : Option Reason) (ending : SessionEnd) → ((reason : Reason) → why ≡ Some reason → IfSome unread (IsOut reason))
      → IsFaultRefusal number why held held' ending → EndsAt Next IsOut number unread held held' ending
  ends-fault None ending out written = subst (λ (e : SessionEnd). EndsAt Next IsOut number unread held held' e) (sym written.0) written.1
  ends-fault (Some reason) ending out written = ends-refused reason ending (out reason refl) written

-- the same behind the first line
pub turned-ends : (l : Limits) (h : History) (number : ℕ) (unread unread' held held' : Option (List ℕ)) (s : Store) (ending : SessionEnd)
    → EndsAt (IsLegalGroup l h) (IsOutAt l h) number unread held held' ending → Turned l h number unread unread' held held' s (Over ending)
turned-ends l h number unread unread' held held' s Finished ends = absurd ends
turned-ends l h number unread unread' held held' s (Refused n reason) ends = ends
turned-ends l h number unread unread' held held' s NoMemory ends = ends
turned-ends l h number unread unread' held held' s SourceFailed ends = ends
turned-ends l h number unread unread' held held' s SinkFailed ends = ends
turned-ends l h number unread unread' held held' s Stopped ends = ends

-- an event with limits is their line
pub is_limits : (event : Event) (l : Limits) → limits_of event ≡ Some l → event ≡ events.Limits l
is_limits (events.Limits limits) l is = cc
is_limits event l is = cc

-- ---- behind the greatest number of lines

pub past-some : (unread unread' : Option (List ℕ)) (line : List ℕ) → Consumes unread unread' line → 0 < length line → IfSome unread (IsOutPast reasons.Lines)
past-some None unread' line taken some = tt
past-some (Some bytes) None line taken some = absurd taken
past-some (Some bytes) (Some rest) line taken some = (
  refl,
  λ none. let size = ap length (sym taken ∙ none) in
      absurd (omega (arith, size, length-append line rest, some)),
)

pub past-unended : (unread : Option (List ℕ)) (line : List ℕ) → IfSome unread (λ bytes. bytes ≡ line) → 0 < length line
    → IfSome unread (IsOutPast reasons.Lines)
past-unended None line taken some = tt
past-unended (Some bytes) line taken some = (refl, λ none. let size = ap length (sym taken ∙ none) in absurd (omega (arith, size, some)))
