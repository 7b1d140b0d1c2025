-- What a verdict says of the next group, of groups that a run keeps.
use Rattle.std.proofs.Common.{◌≡◌, true, false, List, [], ◌∷◌, ◌++◌, Option, None, Some, refl, sym, ap, subst, ◌∙◌}
use Rattle.std.specs.Option.{option_map_or}
use Rattle.std.proofs.lemmas.Bool.{and_parts}
use Rattle.blob_words.specs.declared.limits.Limits.{Limits}
use Rattle.blob_words.specs.declared.tally.Tally.{Tally}
use Rattle.blob_words.specs.declared.version.Version.{Version}
use Rattle.blob_words.specs.declared.version.Version.TheVariants.{One, Two}
use Rattle.session_script.specs.declared.event.Event.{Event}
use Rattle.answer_text.specs.declared.answer.Answer.{Answer}
use Rattle.answer_text.specs.declared.answer.Answer.TheVariants as answers
use Rattle.answer_text.specs.declared.group.Group.{Group}
use Rattle.blob_model.specs.Session.{Outside, Session}
use Rattle.blob_model.specs.History.{History, start, after, history_from}
use Rattle.blob_model.specs.Legal.{IsLegalGroup, IsLegalFrom, IsLegal, first_line, opening, session}
use Rattle.blob_model.proofs.Lists.{false_true}
use Rattle.blob_model.proofs.legal.Fronts.{more_legal}
use Rattle.blob_model.proofs.tested.Answers.{same_answer-sound}
use Rattle.transcript_audit.specs.declared.run.Run.{Run}
use Rattle.transcript_audit.specs.declared.verdict.Verdict.{Verdict}
use Rattle.transcript_audit.specs.declared.verdict.Verdict.TheVariants.{Legal, Illegal, Large}
use Rattle.transcript_audit.specs.Tests.{same_tally}
use Rattle.transcript_audit.specs.Large.{is_large}
use Rattle.transcript_audit.specs.Runs.{session_by, is_good_alone, is_quiet, FollowsRun, Begins, Keeps}
use Rattle.transcript_audit.specs.Says.{is_large_after, Says, SaysNext}
use Rattle.transcript_audit.proofs.Judging.{tally-sound}

last_legal : (s : Session) (h : History) (groups : List Group) (group : Group) → IsLegalFrom s h (groups ++ group ∷ [])
    → IsLegalGroup s (history_from h groups) group
last_legal s h [] group legal = legal.0
last_legal s h (first ∷ groups) group legal = last_legal s (after h first.event first.answers) groups group legal.1

pub history_more : (h : History) (groups : List Group) (group : Group)
    → history_from h (groups ++ group ∷ []) ≡ after (history_from h groups) group.event group.answers
history_more h [] group = refl
history_more h (first ∷ groups) group = history_more (after h first.event first.answers) groups group

opening_session : (outside : Outside) (version : Version) (l : Limits) → session_by outside (first_line version l) ≡ Some (session outside version l)
opening_session outside One l = refl
opening_session outside Two l = refl

pub begun_session : (outside : Outside) (first : Group) (version : Version) (l : Limits) → first ≡ opening version l
    → session_by outside first.event ≡ Some (session outside version l)
begun_session outside first version l is = ap (λ (group : Group). session_by outside group.event) is ∙ opening_session outside version l

-- the session of a legal transcript is the one that its run keeps
session_same : (outside : Outside) (first : Group) (s : Session) (version : Version) (l : Limits) → session_by outside first.event ≡ Some s
    → first ≡ opening version l
    → session outside version l ≡ s
session_same outside first s version l by is =
    let e : Some (session outside version l) ≡ Some s = sym (begun_session outside first version l is) ∙ by in
    let same : session outside version l ≡ s = cc in
    same

longer : (outside : Outside) (first : Group) (more : List Group) (s : Session) (group : Group) → session_by outside first.event ≡ Some s
    → IsLegal outside (first ∷ more) → IsLegalGroup s (history_from start more) group → IsLegal outside (first ∷ (more ++ group ∷ []))
longer outside first more s group by legal one =
    let same : session outside legal.0 legal.1 ≡ s = session_same outside first s legal.0 legal.1 by legal.2 in (
      legal.0,
      legal.1,
      legal.2,
      more_legal (session outside legal.0 legal.1) start more group legal.3
          (subst (λ (t : Session). IsLegalGroup t (history_from start more) group) (sym same) one),
    )

shorter : (outside : Outside) (first : Group) (more : List Group) (s : Session) (group : Group) → session_by outside first.event ≡ Some s
    → IsLegal outside (first ∷ (more ++ group ∷ [])) → IsLegalGroup s (history_from start more) group
shorter outside first more s group by legal =
    subst (λ (t : Session). IsLegalGroup t (history_from start more) group) (session_same outside first s legal.0 legal.1 by legal.2)
    (last_legal (session outside legal.0 legal.1) start more group legal.3)

large_by : (outside : Outside) (first : Group) (more : List Group) (s : Session) (event : Event) → session_by outside first.event ≡ Some s
    → is_large_after outside (first ∷ more) event ≡ is_large s (history_from start more) event
large_by outside first more s event by = ap (λ (found : Option Session). option_map_or (λ (t : Session). is_large t
    (history_from start more) event) found false) by

-- whatever the history is that the run keeps
abbrev pub Next : Run → Group → Run → Verdict → Type 0
Next run group new verdict = (s : Session) (h : History) → FollowsRun s h run → SaysNext s h group new verdict

pub later_legal : (outside : Outside) (old list : List Group) (run new : Run) (group : Group) → IsLegal outside old → Keeps outside old run
    → Next run group new Legal
    → list ≡ old ++ group ∷ [] → Says outside old group list Legal
later_legal outside [] list run new group legal keeps next is = absurd keeps
later_legal outside (first ∷ more) list run new group legal keeps next is =
    let said = next keeps.0 (history_from start more) keeps.2 in
    (large_by outside first more keeps.0 group.event keeps.1 ∙ said.0, longer outside first more keeps.0 group keeps.1 legal said.1, is)

pub later_keeps : (outside : Outside) (old : List Group) (run new : Run) (group : Group) → Keeps outside old run → Next run group new Legal
    → Keeps outside (old ++ group ∷ []) new
later_keeps outside [] run new group keeps next = absurd keeps
later_keeps outside (first ∷ more) run new group keeps next =
    let said = next keeps.0 (history_from start more) keeps.2 in
    (keeps.0, keeps.1, subst (λ (h : History). FollowsRun keeps.0 h new) (sym (history_more start more group)) said.2)

pub later_illegal : (outside : Outside) (old list : List Group) (run new : Run) (group : Group) → Keeps outside old run → Next run group new Illegal
    → list ≡ old → Says outside old group list Illegal
later_illegal outside [] list run new group keeps next is = absurd keeps
later_illegal outside (first ∷ more) list run new group keeps next is =
    let said = next keeps.0 (history_from start more) keeps.2 in (
      large_by outside first more keeps.0 group.event keeps.1 ∙ said.0,
      λ legal. said.1 (shorter outside first more keeps.0 group keeps.1 legal),
      is,
    )

pub later_large : (outside : Outside) (old list : List Group) (run new : Run) (group : Group) → Keeps outside old run → Next run group new Large
    → list ≡ old → Says outside old group list Large
later_large outside [] list run new group keeps next is = absurd keeps
later_large outside (first ∷ more) list run new group keeps next is =
    let said = next keeps.0 (history_from start more) keeps.2 in
    (large_by outside first more keeps.0 group.event keeps.1 ∙ said, is)

-- the first group
pub first_legal : (outside : Outside) (old list : List Group) (run : Run) (group : Group) → old ≡ [] → Begins outside group (Some run)
    → list ≡ old ++ group ∷ []
    → Says outside old group list Legal
first_legal outside [] list run group none begins is = (refl, (begins.0, begins.1, begins.2, tt), is)
first_legal outside (first ∷ more) list run group none begins is = cc

pub first_keeps : (outside : Outside) (run : Run) (group : Group) → Begins outside group (Some run) → Keeps outside (group ∷ []) run
first_keeps outside run group begins =
    (session outside begins.0 begins.1, begun_session outside group begins.0 begins.1 begins.2, begins.3)

pub first_illegal : (outside : Outside) (old list : List Group) (group : Group) → old ≡ [] → Begins outside group None → list ≡ old
    → Says outside old group list Illegal
first_illegal outside [] list group none begins is = (refl, λ legal. begins legal.0 legal.1 legal.2, is)
first_illegal outside (first ∷ more) list group none begins is = cc

-- a run that was begun keeps the groups behind the first
pub begun_keeps : (outside : Outside) (first : Group) (more : List Group) (run new : Run) → Begins outside first (Some run)
    → ((s : Session) (h : History) → FollowsRun s h run → FollowsRun s (history_from h more) new) → Keeps outside (first ∷ more) new
begun_keeps outside first more run new begins taken =
    (session outside begins.0 begins.1, begun_session outside first begins.0 begins.1 begins.2, taken (session outside begins.0 begins.1) start begins.3)

-- whether a group begins a session
good_alone : (list : List Answer) → is_good_alone list ≡ true → list ≡ answers.Good ∷ []
good_alone [] e = absurd (false_true e)
good_alone (a ∷ []) e = ap (λ (one : Answer). one ∷ []) (same_answer-sound a answers.Good e)
good_alone (a ∷ b ∷ more) e = absurd (false_true e)

abbrev nothing : Tally
nothing = record { pieces = 0; memory = 0; files = 0; disk = 0 }

pub quiet_opening : (group : Group) (version : Version) (l : Limits) → is_quiet group ≡ true → group.event ≡ first_line version l → group ≡ opening version l
quiet_opening group version l quiet line =
    let parts = and_parts (is_good_alone group.answers) (same_tally group.tally nothing) quiet in
    let told : group.answers ≡ answers.Good ∷ [] = good_alone group.answers parts.0 in
    let counted : group.tally ≡ nothing = tally-sound group.tally nothing parts.1 in
    λ i. record { event = line i; answers = told i; tally = counted i }

opening_quiet : (version : Version) (l : Limits) → is_quiet (opening version l) ≡ true
opening_quiet version l = refl

pub loud_begins : (outside : Outside) (group : Group) → is_quiet group ≡ false → Begins outside group None
loud_begins outside group loud = λ version l is. false_true (sym loud ∙ ap is_quiet is ∙ opening_quiet version l)

pub other_begins : (outside : Outside) (group : Group) → session_by outside group.event ≡ None → Begins outside group None
other_begins outside group none = λ version l is.
    let e : Some (session outside version l) ≡ None = sym (begun_session outside group version l is) ∙ none in
    cc
