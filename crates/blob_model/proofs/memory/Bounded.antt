-- The bytes in memory after each legal group.
use Rattle.std.proofs.Common.{◌≡◌, ◌⊎◌, ℕ, ◌≤◌, ◌==◌, Bool, true, false, ◌&&◌, ◌||◌, not, List, [], ◌∷◌, reverse, refl, ap, subst, sym, ◌∙◌, inl, inr, ⊎_elim, arith, Option, Some, None, append-nil, ℤ}
use Rattle.std.specs.Prelude.{filter}
use Rattle.std.proofs.lemmas.Bool.{and_parts, eqb-true, eq-eqb}
use Rattle.blob_words.specs.declared.number.RendererId.{RendererId}
use Rattle.blob_words.specs.declared.status.Status.{Status}
use Rattle.session_script.specs.declared.event.Event.{Event}
use Rattle.session_script.specs.declared.event.Event.TheVariants as events
use Rattle.session_script.specs.declared.event.Part.{Part}
use Rattle.answer_text.specs.declared.answer.Answer.{Answer}
use Rattle.answer_text.specs.declared.answer.Answer.TheVariants as answers
use Rattle.answer_text.specs.declared.refusal.Refusal.{Refusal}
use Rattle.answer_text.specs.declared.group.Group.{Group}
use Rattle.blob_model.specs.Session.{Session, page_limit}
use Rattle.blob_model.specs.History.{History, start, heard, refused, said, heard_first, said_all, after, history_from}
use Rattle.blob_model.specs.Builds.{Build, builds, slice_parts}
use Rattle.blob_model.specs.Standing.{was_granted}
use Rattle.blob_model.specs.Handles.{has_handle, count, is_held}
use Rattle.blob_model.specs.Entries.{is_named}
use Rattle.blob_model.specs.Readers.{is_read}
use Rattle.blob_model.specs.Live.{is_rooted}
use Rattle.blob_model.specs.Tally.{memory}
use Rattle.blob_model.specs.Waits.{is_waiting, waits}
use Rattle.blob_model.specs.Construct.{line_status, build_answer, build_answer_by}
use Rattle.blob_model.specs.Refusals.{refusal}
use Rattle.blob_model.specs.Settle.{drops, endings, removals, grants, page_jobs, compactions, settle}
use Rattle.blob_model.specs.Own.{IsAccepted, IsOwnBy}
use Rattle.blob_model.specs.Legal.{left_files, IsLegalGroup, IsLegalFrom}
use Rattle.blob_model.specs.Laws.{is_build, is_ending, is_grant}
use Rattle.blob_model.proofs.Lists.{any_append_first, false_true, not_true, or_cases, or_first, or_second}
use Rattle.blob_model.proofs.changes.Notions.{change_laws}
use Rattle.blob_model.proofs.live.Least.{named}
use Rattle.blob_model.proofs.builds.Order.{named_filter}
use Rattle.blob_model.proofs.builds.Growth.{only_one, planned_first, Grows, by_none, by_one, grows}
use Rattle.blob_model.proofs.kept.Kept.{Kept}
use Rattle.blob_model.proofs.kept.NewBlobs.{tests_fail, found_named}
use Rattle.blob_model.proofs.kept.Groups.{kept_own, kept_start, kept_group}
use Rattle.blob_model.proofs.live.Agreement.{drops_test, builds_all}
use Rattle.blob_model.proofs.settled.Pass.{pass_grants}
use Rattle.blob_model.proofs.settled.LateAnswers.{granted_still}
use Rattle.blob_model.proofs.settled.GrantsAndJobs.{granted_waited, page_jobs_still, compactions_still}
use Rattle.blob_model.proofs.settled.Settling.{settle_run, removals_still, drops_grant}
use Rattle.blob_model.proofs.settled.Groups.{own_first, after_own}
use Rattle.blob_model.proofs.settled.Refused.{memory_over}
use Rattle.blob_model.proofs.live.Roots.{HoldersSpawned, holders_heard, held_by, holder_of, one_case}
use Rattle.blob_model.proofs.memory.Grants.{settle_fits}
use Rattle.blob_model.proofs.memory.Plans.{build_fits}
use Rattle.blob_model.proofs.memory.PlainAnswers.{is_plain, AllPlain, line_plain, plain_line}

-- ---- what every legal transcript keeps

-- only blobs that were built were granted
abbrev pub GrantedBuilt : Session → History → Type 0
GrantedBuilt s h = (name : ℕ) → was_granted h name ≡ true → named name (builds (page_limit s) h) ≡ true

pub record Bounded (s : Session) (h : History) : Type 0 where
  pub kept : Kept s h
  pub holders : HoldersSpawned h
  pub granted : GrantedBuilt s h
  pub fits : memory (page_limit s) h ≤ s.limits.memory

-- ---- own answers

-- roots of a line that builds
pub build_roots : (s : Session) (h g : History) (renderer name : ℕ) → HoldersSpawned h
    → ((holder n : ℕ) → has_handle g holder n ≡ true → (((renderer == holder) && (name == n)) ≡ true) ⊎ (has_handle h holder n ≡ true))
    → (n : ℕ) → (is_held g n ≡ true → (holder : ℕ) × (has_handle g holder n ≡ true)) → ((is_held g n || is_named h n) || is_read (page_limit s) h n) ≡ true
    → (is_rooted (page_limit s) h n ≡ true) ⊎ ((n == name) ≡ true)
build_roots s h g renderer name holders handles n holder e =
    ⊎_elim
    (λ (two : (is_held g n || is_named h n) ≡ true).
    ⊎_elim
    (λ (held : is_held g n ≡ true).
    let who = holder held in
    ⊎_elim (λ (new : ((renderer == who.0) && (name == n)) ≡ true). inr
    (eq-eqb n name (sym (eqb-true name n (and_parts (renderer == who.0) (name == n) new).1))))
    (λ (old : has_handle h who.0 n ≡ true). inl (or_first (is_held h n || is_named h n) (is_read (page_limit s) h n)
    (or_first (is_held h n) (is_named h n) (held_by h who.0 n holders old))))
    (handles who.0 n who.1))
    (λ (names : is_named h n ≡ true). inl (or_first (is_held h n || is_named h n) (is_read (page_limit s) h n) (or_second (is_held h n) (is_named h n) names)))
    (or_cases (is_held g n) (is_named h n) two))
    (λ (reads : is_read (page_limit s) h n ≡ true). inl (or_second (is_held h n || is_named h n) (is_read (page_limit s) h n) reads))
    (or_cases (is_held g n || is_named h n) (is_read (page_limit s) h n) e)

not_granted : (s : Session) (h : History) (name : ℕ) → GrantedBuilt s h → named name (builds (page_limit s) h) ≡ false → was_granted h name ≡ false
not_granted s h name granted fresh = go (was_granted h name) (granted name)
  where
    go : (b : Bool) → (b ≡ true → named name (builds (page_limit s) h) ≡ true) → b ≡ false
    go false f = refl
    go true f = absurd (false_true (sym fresh ∙ f refl))

own_build : (s : Session) (h : History) (renderer : RendererId) (name : ℕ) (kind : List ℕ) (parts : List Part) → Bounded s h
    → refusal s h (events.Build renderer name kind parts) ≡ None
    → memory (page_limit s) (heard h (events.Build renderer name kind parts) (build_answer s h renderer.0 name parts)) ≤ s.limits.memory
own_build s h renderer name kind parts bounded accepted =
    let fresh : named name (builds (page_limit s) h) ≡ false = sym (found_named (builds (page_limit s) h) name) ∙
    (tests_fail s h (events.Build renderer name kind parts) accepted).1.0 in
    build_fits s h (events.Build renderer name kind parts) renderer.0 name kind parts bounded.kept bounded.holders fresh
    (λ plan e. ap (λ (a : Answer). builds (page_limit s) (heard h (events.Build renderer name kind parts) a)) e)
    (λ plan n e. build_roots s h (heard h (events.Build renderer name kind parts) plan) renderer.0 name bounded.holders
    (λ holder m has. one_case ((renderer.0 == holder) && (name == m)) (count h holder m) has) n
    (λ held. let who = holder_of (heard h (events.Build renderer name kind parts) plan) n held in (who.0.number, who.1)) e)
    (not_granted s h name bounded.granted fresh) bounded.fits

own_slice : (s : Session) (h : History) (renderer : RendererId) (name source : ℕ) (from to : Option ℤ) (kind : List ℕ) → Bounded s h
    → refusal s h (events.Slice renderer name source from to kind) ≡ None
    → memory (page_limit s) (heard h (events.Slice renderer name source from to kind)
    (build_answer s h renderer.0 name (slice_parts (builds (page_limit s) h) source from to))) ≤ s.limits.memory
own_slice s h renderer name source from to kind bounded accepted =
    let fresh : named name (builds (page_limit s) h) ≡ false = sym (found_named (builds (page_limit s) h) name) ∙
    (tests_fail s h (events.Slice renderer name source from to kind) accepted).1.0 in
    build_fits s h (events.Slice renderer name source from to kind) renderer.0 name kind (slice_parts (builds (page_limit s) h) source from to) bounded.kept
    bounded.holders fresh
    (λ plan e. ap (λ (a : Answer). builds (page_limit s) (heard h (events.Slice renderer name source from to kind) a)) e)
    (λ plan n e. build_roots s h (heard h (events.Slice renderer name source from to kind) plan) renderer.0 name bounded.holders
    (λ holder m has. one_case ((renderer.0 == holder) && (name == m)) (count h holder m) has) n
    (λ held. let who = holder_of (heard h (events.Slice renderer name source from to kind) plan) n held in (who.0.number, who.1)) e)
    (not_granted s h name bounded.granted fresh) bounded.fits

-- the history after the own answers: within the limit, and with no grant
abbrev OwnFits : Session → History → History → Type 0
OwnFits s h g = (memory (page_limit s) g ≤ s.limits.memory) × ((name : ℕ) → was_granted g name ≡ true → was_granted h name ≡ true) × HoldersSpawned g

planned_grants : (s : Session) (h : History) (event : Event) (renderer name : ℕ) (parts : List Part) (status : Option Status) (n : ℕ)
    → was_granted (heard h event (build_answer_by s h name parts status)) n ≡ true → was_granted h n ≡ true
planned_grants s h event renderer name parts (Some status) n e = e
planned_grants s h event renderer name parts None n e = e

plain_grants_said : (h : History) (list : List Answer) (name : ℕ) → AllPlain list → was_granted (said_all h list) name ≡ true → was_granted h name ≡ true
plain_grants_said h [] name all e = e
plain_grants_said h (answer ∷ list) name all e =
    let before = plain_grants_said (said h answer) list name all.1 e in
    sym ((change_laws.grants name).by_answer h answer (not_true (is_grant answer) (and_parts (not (is_ending answer)) (not (is_grant answer)) all.0).1)) ∙
    before

plain_grants_first : (h : History) (event : Event) (answer : Answer) (name : ℕ) → is_plain answer ≡ true → was_granted (heard_first h event answer) name ≡ true
    → was_granted h name ≡ true
plain_grants_first h event (answers.Refused why) name plain e = e
plain_grants_first h event answer name plain e = sym ((change_laws.grants name).by_line h event answer
    (not_true (is_grant answer) (and_parts (not (is_ending answer)) (not (is_grant answer)) plain).1)) ∙ e

holders_all : (h : History) (list : List Answer) → HoldersSpawned h → HoldersSpawned (said_all h list)
holders_all h [] holders = holders
holders_all h (answer ∷ list) holders = holders_all (said h answer) list holders

holders_first : (s : Session) (h : History) (event : Event) (answer : Answer) → HoldersSpawned h → refusal s h event ≡ None
    → HoldersSpawned (heard_first h event answer)
holders_first s h event (answers.Refused why) holders accepted = holders
holders_first s h event answer holders accepted = holders_heard s h event answer holders accepted

other_line : (s : Session) (h : History) (event : Event) (own : List Answer) → Bounded s h → refusal s h event ≡ None → is_build event ≡ false → AllPlain own
    → OwnFits s h (after h event own)
other_line s h event [] bounded accepted other all = (bounded.fits, (λ name e. e), bounded.holders)
other_line s h event (answer ∷ more) bounded accepted other all = (
  plain_line s h event (answer ∷ more) bounded.holders accepted other all bounded.fits,
  (λ name e. plain_grants_first h event answer name all.0 (plain_grants_said (heard_first h event answer) more name all.1 e)),
  holders_all (heard_first h event answer) more (holders_first s h event answer bounded.holders accepted),
)

build_line : (s : Session) (h : History) (event : Event) (renderer name : ℕ) (parts : List Part) (own : List Answer) → Bounded s h → refusal s h event ≡ None
    → own ≡ build_answer s h renderer name parts ∷ []
    → memory (page_limit s) (heard h event (build_answer s h renderer name parts)) ≤ s.limits.memory → OwnFits s h (after h event own)
build_line s h event renderer name parts own bounded accepted e fits =
    let path : after h event own ≡ heard h event (build_answer s h renderer name parts) = ap (after h event) e ∙ planned_first s h renderer name event parts
    (line_status s h renderer name parts) in
    subst (λ (g : History). OwnFits s h g) (sym path) (
      fits,
      (λ n g. planned_grants s h event renderer name parts (line_status s h renderer name parts) n g),
      holders_heard s h event
          (build_answer s h renderer name parts) bounded.holders accepted,
    )

accepted_fits : (s : Session) (h : History) (event : Event) (own : List Answer) → Bounded s h → refusal s h event ≡ None → IsAccepted s h event own
    → OwnFits s h (after h event own)
accepted_fits s h (events.Build renderer name kind parts) own bounded accepted one =
    build_line s h (events.Build renderer name kind parts) renderer.0 name parts own bounded accepted
    (only_one own (build_answer s h renderer.0 name parts ∷ []) one) (own_build s h renderer name kind parts bounded accepted)
accepted_fits s h (events.Slice renderer name source from to kind) own bounded accepted one =
    build_line s h (events.Slice renderer name source from to kind) renderer.0 name (slice_parts (builds (page_limit s) h) source from to) own bounded accepted
    (only_one own (build_answer s h renderer.0 name (slice_parts (builds (page_limit s) h) source from to) ∷ []) one)
    (own_slice s h renderer name source from to kind bounded accepted)
accepted_fits s h event own bounded accepted one = other_line s h event own bounded accepted refl (line_plain s h event own refl one)

own_by_fits : (s : Session) (h : History) (event : Event) (why : Option Refusal) (own : List Answer) → refusal s h event ≡ why → Bounded s h
    → IsOwnBy s h event why own → OwnFits s h (after h event own)
own_by_fits s h event (Some why) own at bounded e =
    let same = memory_over s h event why in
    let fits = bounded.fits in
    let low : memory (page_limit s) (refused h event why) ≤ s.limits.memory = omega (arith, same, fits) in
    subst (λ (list : List Answer). OwnFits s h (after h event list)) (sym e) (low, (λ name g. g), bounded.holders)
own_by_fits s h event None own at bounded one = accepted_fits s h event own bounded at one

-- ---- settling grants built blobs alone

settle_grants : (s : Session) (unremoved : List ℕ) (h : History) (name : ℕ) → was_granted (said_all h (settle s unremoved h)) name ≡ true
    → (was_granted h name ≡ true) ⊎ (named name (builds (page_limit s) h) ≡ true)
settle_grants s unremoved h name e =
    let h1 = said_all h (drops s h) in
    let h2 = said_all h1 (endings s h1) in
    let h3 = said_all h2 (drops s h2) in
    let h4 = said_all h3 (removals s unremoved h3) in
    let h5 = said_all h4 (grants s h4) in
    let h6 = said_all h5 (page_jobs s h5) in
    let h7 = said_all h6 (compactions s h6) in
    let last : said_all h (settle s unremoved h) ≡ h7 = settle_run (drops s ∷ endings s ∷ drops s ∷ removals s unremoved ∷ grants s ∷ page_jobs s
    ∷ compactions s ∷ []) h in
    let at5 : was_granted h5 name ≡ true =
    sym (granted_still h5 (page_jobs s h5) name (page_jobs_still s h5)) ∙ sym (granted_still h6 (compactions s h6) name (compactions_still s h6)) ∙ sym
    (ap (λ (g : History). was_granted g name) last) ∙ e in
    ⊎_elim
    (λ (was : was_granted h4 name ≡ true).
    inl (sym (drops_grant h (filter (drops_test s h) (reverse (builds (page_limit s) h))) name) ∙ sym (pass_grants s h1 (builds (page_limit s) h1) name)
    ∙ sym (drops_grant h2 (filter (drops_test s h2) (reverse (builds (page_limit s) h2))) name) ∙ sym (removals_still s unremoved h3 name) ∙ was))
    (λ (waited : named name (waits (page_limit s) h4) ≡ true).
    let blobs : builds (page_limit s) h4 ≡ builds (page_limit s) h =
    builds_all (page_limit s) h3 (removals s unremoved h3) ∙ builds_all (page_limit s) h2 (drops s h2) ∙ builds_all (page_limit s) h1 (endings s h1) ∙
    builds_all (page_limit s) h (drops s h) in
    inr (subst (λ (xs : List Build). named name xs ≡ true) blobs (among (builds (page_limit s) h4) (is_waiting h4) waited)))
    (granted_waited s h4 (waits (page_limit s) h4) name at5)
  where
    among : (list : List Build) (test : Build → Bool) → named name (filter test list) ≡ true → named name list ≡ true
    among list test f = pick (named name list) refl
      where
        pick : (b : Bool) → named name list ≡ b → b ≡ true
        pick true at = refl
        pick false at = absurd (false_true (sym (named_filter name test list at) ∙ f))

-- ---- each group

-- blobs stay built
built_after : (s : Session) (h : History) (group : Group) (name : ℕ) → IsLegalGroup s h group → named name (builds (page_limit s) h) ≡ true
    → named name (builds (page_limit s) (after h group.event group.answers)) ≡ true
built_after s h group name legal e = go (builds (page_limit s) (after h group.event group.answers)) (grows s h group legal)
  where
    go : (later : List Build) → Grows s h (builds (page_limit s) h) later → named name later ≡ true
    go later by_none = e
    go later (by_one renderer other kind parts) = any_append_first (λ (build : Build). build.name == name) (builds (page_limit s) h) (_ ∷ []) e

pub group_bounded : (s : Session) (h : History) (group : Group) → Bounded s h → IsLegalGroup s h group → Bounded s (after h group.event group.answers)
group_bounded s h group bounded legal =
    let own = legal.own in
    let owed = settle s (left_files group.answers) (after h group.event legal.own) in
    let fits = own_by_fits s h group.event (refusal s h group.event) legal.own refl bounded legal.is_own in
    let kept_here : Kept s (after h group.event legal.own) = kept_own s h group.event legal.own legal.own [] bounded.kept legal.is_own
    (sym (append-nil legal.own)) in
    let path : after h group.event group.answers ≡ said_all (after h group.event legal.own) owed = ap (after h group.event) legal.settles ∙ after_own h
    group.event legal.own owed (own_first s h group.event legal.own legal.is_own) in
    let blobs : builds (page_limit s) (said_all (after h group.event legal.own) owed) ≡ builds (page_limit s) (after h group.event legal.own) =
    builds_all (page_limit s) (after h group.event legal.own) owed in
    record {
      kept = kept_group s h group bounded.kept legal;
      holders = subst (λ (g : History). HoldersSpawned g) (sym path) (holders_all (after h group.event legal.own) owed fits.2);
      granted =
          λ name e.
          ⊎_elim
          (λ (before : was_granted (after h group.event legal.own) name ≡ true). built_after s h group name legal (bounded.granted name (fits.1 name before)))
          (λ (built : named name (builds (page_limit s) (after h group.event legal.own)) ≡ true). subst (λ (xs : List Build). named name xs ≡ true)
          (sym (ap (builds (page_limit s)) path ∙ blobs)) built)
          (settle_grants s (left_files group.answers) (after h group.event legal.own) name (subst (λ (g : History). was_granted g name ≡ true) path e));
      fits = subst (λ (g : History). memory (page_limit s) g ≤ s.limits.memory) (sym path)
          (settle_fits s (left_files group.answers) (after h group.event legal.own) kept_here fits.0);
    }

pub bounded_from : (s : Session) (h : History) (groups : List Group) → Bounded s h → IsLegalFrom s h groups → Bounded s (history_from h groups)
bounded_from s h [] bounded legal = bounded
bounded_from s h (group ∷ groups) bounded legal = bounded_from s (after h group.event group.answers) groups (group_bounded s h group bounded legal.0) legal.1

pub bounded_start : (s : Session) → Bounded s start
bounded_start s =
    let none : memory (page_limit s) start ≡ 0 = refl in
    record { kept = kept_start s; holders = λ holder name e. absurd (false_true e); granted = λ name e. absurd (false_true e); fits = omega (arith, none) }

pub memory_fits : (s : Session) (groups : List Group) → IsLegalFrom s start groups → memory (page_limit s) (history_from start groups) ≤ s.limits.memory
memory_fits s groups legal = (bounded_from s start groups (bounded_start s) legal).fits
