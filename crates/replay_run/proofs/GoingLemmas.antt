-- The lines of a session, one after the other.
use Rattle.std.proofs.Common.{◌≡◌, ℕ, ◌+◌, ◌^◌, ◌-◌, ◌<◌, ◌≤◌, false, List, [], ◌∷◌, ◌++◌, length, Option, None, Some, IfSome, Result, Ok, Err, IfErr, inl, inr, ⊎_elim, refl, sym, ◌∙◌, ap, subst, arith, append-nil, length-append}
use Rattle.std.specs.List.{AllByRecursion}
use Rattle.std.specs.Io.KnownBytes.{Appends, Consumes}
use Rattle.std.proofs.KnownBytes.{Appends-trans, Consumes-trans}
use Rattle.std.proofs.lemmas.List.{map-append}
use Rattle.std.proofs.lemmas.List.Concat.{flat_map-append}
use Rattle.session_script.specs.declared.event.Event.{Event}
use Rattle.session_script.specs.Line.{line_of}
use Rattle.blob_words.specs.declared.limits.Limits.{Limits}
use Rattle.blob_source.specs.Faults.{Rose}
use Rattle.replay_run.specs.declared.session_end.SessionEnd.{SessionEnd}
use Rattle.replay_run.specs.declared.session_end.SessionEnd.TheVariants.{Finished, Refused, NoMemory, SourceFailed, SinkFailed, Stopped}
use Rattle.replay_run.specs.declared.turn.Turn.TheVariants.{Over}
use Rattle.answer_text.specs.declared.group.Group.{Group}
use Rattle.replay_run.specs.declared.store.Store.{Store}
use Rattle.replay_run.specs.History.{History, start, after, history_from, has_ended}
use Rattle.replay_run.specs.Legal.{opening, IsLegalGroup, IsLegalFrom}
use Rattle.answer_text.specs.Text.{group_text, groups_text}
use Rattle.replay_run.specs.declared.reason.Reason.{Reason}
use Rattle.replay_run.specs.Text.{refusal_line, IsProperPrefix}
use Rattle.replay_run.specs.Reads.{IsLineOf, IsRefused, events_of, spelled}
use Rattle.replay_run.specs.Run.{IsLeft, IsNext, IsCut, IsLast, HasCause}
use Rattle.replay_run.specs.Stands.{Rests}
use Rattle.replay_run.specs.Turns.{IsTaken, Turned, EndsAt, IsNone, IsOutAt, IsOutPast, Going, AreTaken}

-- ---- one more group

legal-more : (l : Limits) (h : History) (groups : List Group) (group : Group) → IsLegalFrom l h groups → IsLegalGroup l (history_from h groups) group
    → IsLegalFrom l h (groups ++ group ∷ [])
legal-more l h [] group legal one = (one, tt)
legal-more l h (first ∷ groups) group legal one = (legal.0, legal-more l (after h first.event first.answers) groups group legal.1 one)

history-more : (h : History) (groups : List Group) (group : Group) → history_from h (groups ++ group ∷ []) ≡ after (history_from h groups) group.event
    group.answers
history-more h [] group = refl
history-more h (first ∷ groups) group = history-more (after h first.event first.answers) groups group

lines-more : (groups : List Group) (group : Group) → AllByRecursion IsLineOf (events_of groups) → IsLineOf group.event → AllByRecursion IsLineOf
    (events_of (groups ++ group ∷ []))
lines-more [] group lines one = (one, tt)
lines-more (first ∷ groups) group lines one = (lines.0, lines-more groups group lines.1 one)

spelled-more : (groups : List Group) (group : Group) → spelled (events_of (groups ++ group ∷ [])) ≡ spelled (events_of groups)
    ++ (line_of group.event ++ 10 ∷ [])
spelled-more groups group =
    ap spelled (map-append (λ (each : Group). each.event) groups (group ∷ []))
    ∙ flat_map-append (λ (event : Event). line_of event ++ 10 ∷ []) (events_of groups) (group.event ∷ [])
    ∙ ap (λ rest. spelled (events_of groups) ++ rest) (append-nil (line_of group.event ++ 10 ∷ []))

text-more : (groups : List Group) (group : Group) → groups_text (groups ++ group ∷ []) ≡ groups_text groups ++ group_text group
text-more groups group = flat_map-append group_text groups (group ∷ []) ∙ ap (λ rest. groups_text groups ++ rest) (append-nil (group_text group))

pub if_some : {X : Type 0} {P : X → Type 0} (o : Option X) → ((x : X) → P x) → IfSome o P
if_some None each = tt
if_some (Some x) each = each x

pub if_some_by : {X : Type 0} {P Q : X → Type 0} (o : Option X) → IfSome o P → ((x : X) → P x → Q x) → IfSome o Q
if_some_by None is each = tt
if_some_by (Some x) is each = each x is

-- what is cut off, said of other groups and words
pub cut_as : (Next Next' : Group → Type 0) (Out Out' : Reason → List ℕ → Type 0) (number number' : ℕ) (unread : Option (List ℕ)) (part : List ℕ) → number
    ≡ number' → ((group : Group) → Next group → Next' group)
    → ((reason : Reason) (bytes : List ℕ) → Out reason bytes → Out' reason bytes) → IsCut Next Out number unread part → IsCut Next' Out' number' unread part
cut_as Next Next' Out Out' number number' unread part same next out (inl (group, is, line, begins, prefix)) = inl (group, next group is, line, begins, prefix)
cut_as Next Next' Out Out' number number' unread part same next out (inr (reason, is, prefix)) =
    inr (reason, if_some_by unread is (out reason), subst (λ (n : ℕ). IsProperPrefix part (refusal_line n reason)) same prefix)

module _ (l : Limits) (unread0 unread unread' held0 held held' : Option (List ℕ)) (s s' : Store) (number : ℕ)
    (going : Going l unread0 unread held0 held s number) where
  abbrev so_far : History
  so_far = history_from start going.groups

  module _ (taken : IsTaken l so_far unread unread' held held' s') where
    abbrev groups' : List Group
    groups' = going.groups ++ taken.group ∷ []

    read' : Consumes unread0 unread' (spelled (events_of groups'))
    read' =
        subst (Consumes unread0 unread') (sym (spelled-more going.groups taken.group))
        (Consumes-trans unread0 unread unread' (spelled (events_of going.groups)) (line_of taken.group.event ++ 10 ∷ []) going.read taken.consumed)

    written' : Appends held0 held' (groups_text groups')
    written' = subst (Appends held0 held') (sym (text-more going.groups taken.group))
        (Appends-trans held0 held held' (groups_text going.groups) (group_text taken.group) going.written taken.appended)

    now : history_from start groups' ≡ after so_far taken.group.event taken.group.answers
    now = history-more start going.groups taken.group

    count' : length groups' ≡ length going.groups + 1
    count' = length-append going.groups (taken.group ∷ [])

    pub going-more : has_ended (after so_far taken.group.event taken.group.answers) ≡ false → Going l unread0 unread' held0 held' s' (number + 1)
    going-more still = record {
      groups = groups';
      legal = legal-more l start going.groups taken.group going.legal taken.legal;
      lines = lines-more going.groups taken.group going.lines taken.line;
      count = omega (arith, going.count, count');
      rests = subst (λ (h : History). Rests l s' h) (sym now) (record { stands = taken.stands; nothing_owed = taken.nothing_owed; open_still = still });
      read = read';
      written = written';
    }

  module _ (source source' sink sink' : ℕ) where
    -- no group was taken
    stopped : (ending : SessionEnd) → HasCause ending source source' sink sink' → IsLeft ending (opening l ∷ going.groups) unread → (last : List ℕ)
        → Appends held held' last → IsLast ending (opening l ∷ going.groups) unread last
        → number ≤ 2 ^ 20 + 1 → AreTaken l unread0 held0 held' source source' sink sink' ending
    stopped ending cause left last appended is_last few = record {
      groups = going.groups;
      legal = going.legal;
      lines = going.lines;
      few = omega (arith, going.count);
      unread' = unread;
      read = going.read;
      left = left;
      last = last;
      written = Appends-trans held0 held held' (groups_text going.groups) last going.written appended;
      is_last = is_last;
      cause = cause;
    }

    ended : (Next : Group → Type 0) (IsOut : Reason → List ℕ → Type 0) → ((group : Group) → Next group → IsNext (opening l ∷ going.groups) group)
        → ((reason : Reason) (bytes : List ℕ) → IsOut reason bytes → IsRefused (opening l ∷ going.groups) reason bytes) → number ≤ 2 ^ 20 + 1
        → (ending : SessionEnd) → HasCause ending source source' sink sink' → EndsAt Next IsOut number unread held held' ending → AreTaken l unread0 held0 held'
        source source' sink sink' ending
    ended Next IsOut next out few Finished cause ends = absurd ends
    ended Next IsOut next out few (Refused n reason) cause ends =
        stopped (Refused n reason) cause (going.rests.open_still, ends.0 ∙ omega (arith, going.count), if_some_by unread ends.1 (out reason))
        (refusal_line n reason)
        (subst (λ (k : ℕ). Appends held held' (refusal_line k reason)) (sym ends.0) ends.2) refl few
    ended Next IsOut next out few NoMemory cause ends = stopped NoMemory cause tt [] ends refl few
    ended Next IsOut next out few SourceFailed cause ends = stopped SourceFailed cause tt [] ends refl few
    ended Next IsOut next out few SinkFailed cause ends =
        stopped SinkFailed cause going.rests.open_still ends.0 ends.1
        (cut_as Next (IsNext (opening l ∷ going.groups)) IsOut (IsRefused (opening l ∷ going.groups)) number (length (opening l ∷ going.groups) + 1) unread
        ends.0 (omega (arith, going.count)) next out ends.2) few
    ended Next IsOut next out few Stopped cause ends = stopped Stopped cause (going.rests.open_still, ends.0) [] ends.1 refl few

    next_legal : number ≤ 2 ^ 20 → (group : Group) → IsLegalGroup l so_far group → IsNext (opening l ∷ going.groups) group
    next_legal few group legal = ((l, refl, legal-more l start going.groups group going.legal legal), omega (arith, going.count))

    out_behind : number ≤ 2 ^ 20 → (reason : Reason) (bytes : List ℕ) → IsOutAt l so_far reason bytes → IsRefused (opening l ∷ going.groups) reason bytes
    out_behind few reason bytes out = inr (omega (arith, going.count), out)

    -- a line ended the session
    pub going-over : number ≤ 2 ^ 20 → (ending : SessionEnd) → HasCause ending source source' sink sink' → Turned l so_far number unread unread' held held' s'
        (Over ending)
        → AreTaken l unread0 held0 held' source source' sink sink' ending
    going-over few Finished cause turned =
        let taken = turned.0 in
        let groups = going.groups ++ taken.group ∷ [] in
        record {
          groups = groups;
          legal = legal-more l start going.groups taken.group going.legal taken.legal;
          lines = lines-more going.groups taken.group going.lines taken.line;
          few = omega (arith, going.count, count' taken);
          unread' = unread';
          read = read' taken;
          left = ap has_ended (now taken) ∙ turned.1;
          last = [];
          written = subst (Appends held0 held') (sym (append-nil (groups_text groups))) (written' taken);
          is_last = refl;
          cause = cause;
        }
    going-over few (Refused n reason) cause turned = ended (IsLegalGroup l so_far) (IsOutAt l so_far) (next_legal few) (out_behind few) (omega arith)
        (Refused n reason) cause turned
    going-over few NoMemory cause turned = ended (IsLegalGroup l so_far) (IsOutAt l so_far) (next_legal few) (out_behind few) (omega arith) NoMemory cause
        turned
    going-over few SourceFailed cause turned = ended (IsLegalGroup l so_far) (IsOutAt l so_far) (next_legal few) (out_behind few) (omega arith) SourceFailed
        cause turned
    going-over few SinkFailed cause turned = ended (IsLegalGroup l so_far) (IsOutAt l so_far) (next_legal few) (out_behind few) (omega arith) SinkFailed cause
        turned
    going-over few Stopped cause turned = ended (IsLegalGroup l so_far) (IsOutAt l so_far) (next_legal few) (out_behind few) (omega arith) Stopped cause turned

    -- the session ended behind the greatest number of lines
    pub going-past : number ≡ 2 ^ 20 + 1 → (ending : SessionEnd) → HasCause ending source source' sink sink' → EndsAt IsNone IsOutPast (2 ^ 20 + 1) unread held
        held' ending
        → AreTaken l unread0 held0 held' source source' sink sink' ending
    going-past last_number ending cause ends =
        ended IsNone IsOutPast (λ group none. absurd none) (λ reason bytes out. inl (omega (arith, going.count, last_number), out.0, out.1))
        (omega (arith, last_number)) ending cause
        (subst (λ (n : ℕ). EndsAt IsNone IsOutPast n unread held held' ending) (sym last_number) ends)

-- a later rise is a rise since before
pub Rose-earlier : (a b c : ℕ) → a ≤ b → Rose b c → Rose a c
Rose-earlier a b c later rose = ⊎_elim (λ (more : b < c). inl (omega arith)) (λ (most : c ≡ 2 ^ 64 - 1). inr most) rose

pub HasCause-earlier : (ending : SessionEnd) (a b c d e f : ℕ) → a ≤ b → d ≤ e → HasCause ending b c e f → HasCause ending a c d f
HasCause-earlier Finished a b c d e f source sink cause = tt
HasCause-earlier (Refused n reason) a b c d e f source sink cause = tt
HasCause-earlier NoMemory a b c d e f source sink cause = tt
HasCause-earlier SourceFailed a b c d e f source sink cause = Rose-earlier a b c source cause
HasCause-earlier SinkFailed a b c d e f source sink cause = Rose-earlier d e f sink cause
HasCause-earlier Stopped a b c d e f source sink cause = tt

-- a fault at the end of a step is one since before it
pub caused-late : {A : Type 0} (result : Result A SessionEnd) (a b d e : ℕ) → a ≤ b → IfErr result (λ (ending : SessionEnd). HasCause ending b b d e)
    → IfErr result (λ (ending : SessionEnd). HasCause ending a b d e)
caused-late (Ok x) a b d e later is = tt
caused-late (Err ending) a b d e later is = HasCause-earlier ending a b b d d e later (omega arith) is
