-- After a pass over the blobs in order of build no blob is owed an ending.
use Rattle.std.proofs.Common.{◌≡◌, ℕ, ◌==◌, Bool, true, false, ◌&&◌, ◌||◌, not, List, [], ◌∷◌, refl, ap, subst, sym, ◌∙◌, ⊎_elim, Option, Some, None}
use Rattle.std.specs.Prelude.{cond, is_none, if◌then◌else◌}
use Rattle.std.specs.Option.{option_map_or, option_to_list}
use Rattle.std.specs.List.{AllByRecursion, list_any, list_all}
use Rattle.std.proofs.lemmas.Bool.{and_parts, or_parts, eq-eqb}
use Rattle.answer_text.specs.declared.answer.Answer.{Answer}
use Rattle.answer_text.specs.declared.answer.Answer.TheVariants as answers
use Rattle.blob_words.specs.declared.version.Version.{Version}
use Rattle.blob_words.specs.declared.version.Version.TheVariants.{One, Two}
use Rattle.blob_words.specs.declared.status.Status.{Status}
use Rattle.blob_words.specs.declared.status.Status.TheVariants as statuses
use Rattle.blob_model.specs.Session.{Session}
use Rattle.blob_model.specs.History.{History, said, said_all}
use Rattle.blob_model.specs.Renderers.{is_alive}
use Rattle.blob_model.specs.Parts.{sources}
use Rattle.blob_model.specs.Builds.{Build}
use Rattle.blob_model.specs.Standing.{ended, is_unfinished, is_broken, is_done, was_granted, is_granted}
use Rattle.blob_model.specs.Transport.{has_all}
use Rattle.blob_model.specs.Live.{has_source}
use Rattle.blob_model.specs.Jobs.{unstored, breaks_waiting}
use Rattle.blob_model.specs.Waits.{is_waiting, has_sources, is_complete}
use Rattle.blob_model.specs.Settle.{is_deserted, ending_tests, ending, ending_answers}
use Rattle.blob_model.specs.Choice.{first_that}
use Rattle.blob_model.proofs.Lists.{both, false_true, or_cases, or_first, or_second}
use Rattle.blob_model.proofs.builds.Cells.{none_applies}
use Rattle.blob_model.proofs.kept.Kept.{waiting_said, still_granted}
use Rattle.blob_model.proofs.live.Agreement.{kept_by_kind, kept_by_all}

-- ---- tests

pub none_that : {X : Type 0} (cases : List (Bool × X)) → AllByRecursion (λ (case : Bool × X). case.0 ≡ false) cases → first_that cases ≡ None
none_that [] all = refl
none_that (case ∷ cases) all = rw (all.0, first_that) (none_that cases all.1)

pub some_that : {X : Type 0} (P : X → Type 0) (cases : List (Bool × X)) (x : X) → AllByRecursion (λ (case : Bool × X). P (case.1)) cases → first_that cases
    ≡ Some x → P x
some_that P [] x all e = cc
some_that {X = X} P (case ∷ cases) x all e = go (case.0) (some_that P cases x all.1) e
  where
    go : (b : Bool) → (first_that cases ≡ Some x → P x) → (elim b as (λ (c : Bool). Option X) [ true ↦ Some (case.1) | false ↦ first_that cases ]) ≡ Some x
        → P x
    go true rest f = let same : case.1 ≡ x = cc in subst P same all.0
    go false rest f = rest f

-- answers that are no failed write and open no blob's bytes anew
abbrev pub is_quiet : Answer → Bool
is_quiet (answers.StoreFailed file) = false
is_quiet answer = true

abbrev pub AllQuiet : List Answer → Type 0
AllQuiet list = AllByRecursion (λ (answer : Answer). is_quiet answer ≡ true) list

unstored_quiet : (h : History) (answer : Answer) → is_quiet answer ≡ true → unstored (said h answer) ≡ unstored h
unstored_quiet h (answers.StoreFailed file) e = absurd (false_true e)
unstored_quiet h answer e = refl

pub waiting_all : (h : History) (list : List Answer) (build : Build) → is_waiting (said_all h list) build ≡ true → is_waiting h build ≡ true
waiting_all h [] build e = e
waiting_all h (answer ∷ list) build e = waiting_said h answer build (waiting_all (said h answer) list build e)

granted_all : (h : History) (list : List Answer) (name : ℕ) → was_granted h name ≡ true → was_granted (said_all h list) name ≡ true
granted_all h [] name e = e
granted_all h (answer ∷ list) name e = granted_all (said h answer) list name (still_granted answer name (was_granted h name) e)

pub has_all_said : (s : Session) (h : History) (list : List Answer) (build : Build) → has_all s.limits (said_all h list) build ≡ has_all s.limits h build
has_all_said s h list build = kept_by_all (λ (g : History). has_all s.limits g build) (λ g answer. refl) h list

pub is_granted_all : (h : History) (list : List Answer) (build : Build) → is_granted h build ≡ true → is_granted (said_all h list) build ≡ true
is_granted_all h list build e =
    ⊎_elim
    (λ (once : option_map_or _ build.plan false ≡ true). or_first (option_map_or _ build.plan false) (was_granted (said_all h list) build.name) once)
    (λ (was : was_granted h build.name ≡ true). or_second (option_map_or _ build.plan false) (was_granted (said_all h list) build.name)
    (granted_all h list build.name was))
    (or_cases (option_map_or _ build.plan false) (was_granted h build.name) e)

false_if : (b c : Bool) → c ≡ false → (b ≡ true → c ≡ true) → b ≡ false
false_if true c e f = absurd (false_true (sym e ∙ f refl))
false_if false c e f = refl

deserted_later : (a h g g' : Bool) → (g ≡ true → g' ≡ true) → (not a && (not h || not g)) ≡ false → (not a && (not h || not g')) ≡ false
deserted_later true h g g' up e = refl
deserted_later false false g g' up e = absurd (false_true (sym e))
deserted_later false true false g' up e = absurd (false_true (sym e))
deserted_later false true true g' up e = rw (up refl) refl

-- tests that agree on the names of a list
any_same_on : (p q : ℕ → Bool) (list : List ℕ) → ((name : ℕ) → list_any (λ (each : ℕ). each == name) list ≡ true → p name ≡ q name) → list_any p list
    ≡ list_any q list
any_same_on p q [] same = refl
any_same_on p q (x ∷ list) same =
    let head : p x ≡ q x = same x (or_first (x == x) (list_any (λ (each : ℕ). each == x) list) (eq-eqb x x refl)) in
    let tail : list_any p list ≡ list_any q list = any_same_on p q list
    (λ name member. same name (or_second (x == name) (list_any (λ (each : ℕ). each == name) list) member)) in
    λ i. head i || tail i

all_same_on : (p q : ℕ → Bool) (list : List ℕ) → ((name : ℕ) → list_any (λ (each : ℕ). each == name) list ≡ true → p name ≡ q name) → list_all p list
    ≡ list_all q list
all_same_on p q [] same = refl
all_same_on p q (x ∷ list) same =
    let head : p x ≡ q x = same x (or_first (x == x) (list_any (λ (each : ℕ). each == x) list) (eq-eqb x x refl)) in
    let tail : list_all p list ≡ list_all q list = all_same_on p q list
    (λ name member. same name (or_second (x == name) (list_any (λ (each : ℕ). each == name) list) member)) in
    λ i. head i && tail i

complete_later : (g g' a d : Bool) → (g' ≡ true → g ≡ false → a ≡ false) → (g && a && d) ≡ false → (g' && a && d) ≡ false
complete_later g false a d room e = refl
complete_later true true a d room e = e
complete_later false true a d room e = rw (room refl refl) refl

breaks_said : (version : Version) (h : History) (answer : Answer) → breaks_waiting version (said h answer) ≡ breaks_waiting version h
breaks_said One h answer = refl
breaks_said Two h answer = refl

-- a blob that is owed no ending is owed none later, where its sources stand as they did, and room that came since finds a segment missing
pub ending_later : (s : Session) (g : History) (list : List Answer) (build : Build) → AllQuiet list → ending s g build ≡ None
    → ((source : ℕ) → has_source build source ≡ true → (is_broken (said_all g list) source ≡ is_broken g source)
    × (is_done (said_all g list) source ≡ is_done g source))
    → (is_granted (said_all g list) build ≡ true → is_granted g build ≡ false → has_all s.limits g build ≡ false) → ending s (said_all g list) build ≡ None
ending_later s g list build quiet none same granted =
    let tests = none_applies (ending_tests s g build) none in
    let written = or_parts (option_map_or (λ (name : ℕ). name == build.name) (unstored g) false) (breaks_waiting s.version g && is_waiting g build) tests.0 in
    let stored : option_map_or (λ (name : ℕ). name == build.name) (unstored (said_all g list)) false ≡ false =
    ap (λ (o : Option ℕ). option_map_or (λ (name : ℕ). name == build.name) o false) (kept_by_kind unstored is_quiet unstored_quiet g list quiet) ∙ written.0 in
    let breaks : breaks_waiting s.version (said_all g list) ≡ breaks_waiting s.version g = kept_by_all (breaks_waiting s.version) (breaks_said s.version) g list
    in
    let waits : (breaks_waiting s.version (said_all g list) && is_waiting (said_all g list) build) ≡ false =
    false_if (breaks_waiting s.version (said_all g list) && is_waiting (said_all g list) build) (breaks_waiting s.version g && is_waiting g build) written.1
    (λ e.
    let parts = and_parts (breaks_waiting s.version (said_all g list)) (is_waiting (said_all g list) build) e in
    both (breaks_waiting s.version g) (is_waiting g build) (sym breaks ∙ parts.0) (waiting_all g list build parts.1)) in
    let alive : is_alive (said_all g list) build.builder ≡ is_alive g build.builder = kept_by_all (λ (h : History). is_alive h build.builder) (λ h answer. refl)
    g list in
    let segments : has_all s.limits (said_all g list) build ≡ has_all s.limits g build = has_all_said s g list build in
    let deserted : is_deserted s (said_all g list) build ≡ false =
    (λ i. not (alive i) && (not (segments i) || not (is_granted (said_all g list) build)))
    ∙ deserted_later (is_alive g build.builder) (has_all s.limits g build) (is_granted g build) (is_granted (said_all g list) build)
    (is_granted_all g list build) tests.1.0 in
    let broken : list_any (is_broken (said_all g list)) (sources build.parts) ≡ false =
    any_same_on (is_broken (said_all g list)) (is_broken g) (sources build.parts) (λ source has. (same source has).0) ∙ tests.1.1.0 in
    let done : has_sources (said_all g list) build ≡ has_sources g build = all_same_on (is_done (said_all g list)) (is_done g) (sources build.parts)
    (λ source has. (same source has).1) in
    let complete : is_complete s.limits (said_all g list) build ≡ false =
    (λ i. is_granted (said_all g list) build && segments i && done i)
    ∙ complete_later (is_granted g build) (is_granted (said_all g list) build) (has_all s.limits g build) (has_sources g build) granted tests.1.1.1.0 in
    none_that (ending_tests s (said_all g list) build) (rw (stored, waits) refl, (deserted, (broken, (complete, tt))))

-- ---- the pass

-- an ending ends its blob
pub ending_ends : (s : Session) (h : History) (build : Build) (answer : Answer) → ending s h build ≡ Some answer → is_unfinished (said h answer) build.name
    ≡ false
ending_ends s h build answer e =
    some_that (λ (each : Answer). is_unfinished (said h each) build.name ≡ false) (ending_tests s h build) answer
    (ended_by statuses.FileWriteFailed, (ended_by statuses.SourceDied, (ended_by statuses.ReferencedBlobBroken, (ended_by statuses.Done, tt)))) e
  where
    ended_by : (status : Status) → is_none (cond (build.name == build.name) (Some status) (ended h build.name)) ≡ false
    ended_by status = rw (eq-eqb build.name build.name refl) refl

-- and no other
pub ending_only : (s : Session) (h : History) (build : Build) (answer : Answer) (name : ℕ) → ending s h build ≡ Some answer → (build.name == name) ≡ false
    → ended (said h answer) name ≡ ended h name
ending_only s h build answer name e other =
    some_that (λ (each : Answer). ended (said h each) name ≡ ended h name) (ending_tests s h build) answer
    (skip statuses.FileWriteFailed, (skip statuses.SourceDied, (skip statuses.ReferencedBlobBroken, (skip statuses.Done, tt)))) e
  where
    skip : (status : Status) → cond (build.name == name) (Some status) (ended h name) ≡ ended h name
    skip status = rw other refl

pub ending_quiet : (s : Session) (h : History) (build : Build) (answer : Answer) → ending s h build ≡ Some answer → is_quiet answer ≡ true
ending_quiet s h build answer e = some_that (λ (each : Answer). is_quiet each ≡ true) (ending_tests s h build) answer (refl, (refl, (refl, (refl, tt)))) e

pub ending_grants : (s : Session) (h : History) (build : Build) (answer : Answer) (name : ℕ) → ending s h build ≡ Some answer → was_granted (said h answer) name
    ≡ was_granted h name
ending_grants s h build answer name e = some_that (λ (each : Answer). was_granted (said h each) name ≡ was_granted h name) (ending_tests s h build) answer
    (refl, (refl, (refl, (refl, tt)))) e

-- the same for the answers of one blob, of which there is at most one
pub one_by : (s : Session) (h : History) (build : Build) (P : List Answer → Type 0) → P []
    → ((answer : Answer) → ending s h build ≡ Some answer → P (answer ∷ [])) → P (ending_answers s h build)
one_by s h build P none some = go (is_unfinished h build.name) (ending s h build) refl
  where
    go : (b : Bool) (found : Option Answer) → ending s h build ≡ found → P (if b then option_to_list found else [])
    go false found e = none
    go true None e = none
    go true (Some answer) e = some answer e
