-- The first line of a session, and what a whole replay is.
use Rattle.std.proofs.Common.{◌≡◌, ℕ, List, [], ◌∷◌, ◌++◌, Option, None, Some, inl, inr, refl, sym, subst, arith, append_assoc}
use Rattle.std.specs.Io.KnownBytes.{Appends, Consumes}
use Rattle.std.proofs.KnownBytes.{Appends-trans, Consumes-trans}
use Rattle.session_script.specs.declared.event.Event.TheVariants as events
use Rattle.session_script.specs.Line.{line_of}
use Rattle.blob_words.specs.declared.limits.Limits.{Limits}
use Rattle.blob_source.specs.Faults.{Rose}
use Rattle.replay_run.specs.declared.session_end.SessionEnd.{SessionEnd}
use Rattle.replay_run.specs.declared.session_end.SessionEnd.TheVariants.{Finished, Refused, NoMemory, SourceFailed, SinkFailed, Stopped}
use Rattle.answer_text.specs.declared.group.Group.{Group}
use Rattle.replay_run.specs.SessionEnd.{code_of}
use Rattle.replay_run.specs.Legal.{opening}
use Rattle.answer_text.specs.Text.{group_text, groups_text}
use Rattle.replay_run.specs.declared.reason.Reason.{Reason}
use Rattle.replay_run.specs.Puts.{IsUnwritten}
use Rattle.replay_run.specs.Text.{refusal_line}
use Rattle.replay_run.specs.Reads.{IsLineOf, IsRefused, events_of, spelled}
use Rattle.replay_run.specs.Run.{IsLeft, IsNext, IsLast, HasCause, IsReplay}
use Rattle.replay_run.specs.Turns.{EndsAt, IsOpening, IsOutFirst, AreTaken}
use Rattle.replay_run.proofs.GoingLemmas.{if_some_by, cut_as}
use Rattle.replay_run.proofs.TurnLemmas.{begins}

-- nothing taken of a session leaves it whole
Consumes-none : (told : Option (List ℕ)) → Consumes told told []
Consumes-none None = tt
Consumes-none (Some bytes) = refl

next_first : (group : Group) → IsOpening group → IsNext [] group
next_first group is = ((is.0, is.1, tt), omega arith)

out_first : (reason : Reason) (bytes : List ℕ) → IsOutFirst reason bytes → IsRefused [] reason bytes
out_first reason bytes out = inr (omega arith, out)

module _ (told held held' : Option (List ℕ)) (source source' sink sink' : ℕ) where
  -- a session of which no line is in the transcript
  nothing : (ending : SessionEnd) → HasCause ending source source' sink sink' → IsLeft ending [] told → (last : List ℕ) → Appends held held' last
      → IsLast ending [] told last
      → IsReplay told held held' source source' sink sink' (code_of ending)
  nothing ending cause left last written is_last = record {
    transcript = [];
    ending = ending;
    code = refl;
    legal = tt;
    lines = tt;
    few = omega arith;
    unread = told;
    read = Consumes-none told;
    left = left;
    last = last;
    written = written;
    is_last = is_last;
    cause = cause;
  }

  -- the first line ended the session
  pub ended-first : (ending : SessionEnd) → HasCause ending source source' sink sink' → EndsAt IsOpening IsOutFirst 1 told held held' ending
      → IsReplay told held held' source source' sink sink' (code_of ending)
  ended-first Finished cause ends = absurd ends
  ended-first (Refused n reason) cause ends =
      nothing (Refused n reason) cause (refl, ends.0, if_some_by told ends.1 (out_first reason)) (refusal_line n reason)
      (subst (λ (k : ℕ). Appends held held' (refusal_line k reason)) (sym ends.0) ends.2) refl
  ended-first NoMemory cause ends = nothing NoMemory cause tt [] ends refl
  ended-first SourceFailed cause ends = nothing SourceFailed cause tt [] ends refl
  ended-first SinkFailed cause ends = nothing SinkFailed cause refl ends.0 ends.1
      (cut_as IsOpening (IsNext []) IsOutFirst (IsRefused []) 1 1 told ends.0 refl next_first out_first ends.2)
  ended-first Stopped cause ends = nothing Stopped cause (refl, ends.0) [] ends.1 refl

  module _ (l : Limits) (unread held1 : Option (List ℕ)) (is_line : IsLineOf (events.Limits l))
      (consumed : Consumes told unread (line_of (events.Limits l) ++ 10 ∷ [])) where
    -- the group of the first line was not written, or not whole
    pub ended-cut : (ending : SessionEnd) → (ending ≡ SinkFailed → Rose sink sink') → IsUnwritten (group_text (opening l)) held held' ending
        → IsReplay told held held' source source' sink sink' (code_of ending)
    ended-cut Finished cause cut = absurd cut
    ended-cut (Refused n reason) cause cut = absurd cut
    ended-cut NoMemory cause cut = nothing NoMemory tt tt [] cut refl
    ended-cut SourceFailed cause cut = absurd cut
    ended-cut SinkFailed cause cut =
        nothing SinkFailed (cause refl) refl cut.0 cut.1
        (inl (opening l, next_first (opening l) (l, refl), is_line, begins told unread (line_of (events.Limits l)) consumed, cut.2))
    ended-cut Stopped cause cut = absurd cut

    -- the lines behind the first were taken
    pub replayed : Appends held held1 (group_text (opening l)) → (ending : SessionEnd) (source1 sink1 : ℕ) → HasCause ending source source' sink sink'
        → AreTaken l unread held1 held' source1 source' sink1 sink' ending
        → IsReplay told held held' source source' sink sink' (code_of ending)
    replayed appended ending source1 sink1 cause taken = record {
      transcript = opening l ∷ taken.groups;
      ending = ending;
      code = refl;
      legal = (l, refl, taken.legal);
      lines = (is_line, taken.lines);
      few = omega (arith, taken.few);
      unread = taken.unread';
      read = Consumes-trans told unread taken.unread' (line_of (events.Limits l) ++ 10 ∷ []) (spelled (events_of taken.groups)) consumed taken.read;
      left = taken.left;
      last = taken.last;
      written = subst (Appends held held') (sym (append_assoc (group_text (opening l)) (groups_text taken.groups) taken.last))
          (Appends-trans held held1 held' (group_text (opening l)) (groups_text taken.groups ++ taken.last) appended taken.written);
      is_last = taken.is_last;
      cause = cause;
    }
