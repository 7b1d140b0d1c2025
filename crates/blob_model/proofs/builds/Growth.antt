-- How the blobs go on from one legal group to the next.
use Rattle.std.proofs.Common.{◌≡◌, ◌⊎◌, ℕ, false, List, [], ◌∷◌, ◌++◌, refl, ap, subst, sym, ◌∙◌, inl, inr, ⊎_elim, Option, Some, None}
use Rattle.session_script.specs.declared.event.Event.{Event}
use Rattle.session_script.specs.declared.event.Event.TheVariants as events
use Rattle.session_script.specs.declared.event.Part.{Part}
use Rattle.answer_text.specs.declared.answer.Answer.{Answer}
use Rattle.answer_text.specs.declared.answer.Answer.TheVariants as answers
use Rattle.answer_text.specs.declared.refusal.Refusal.{Refusal}
use Rattle.answer_text.specs.declared.group.Group.{Group}
use Rattle.blob_words.specs.declared.status.Status.{Status}
use Rattle.blob_model.specs.Session.{Session, page_limit}
use Rattle.blob_model.specs.History.{History, heard, said, heard_first, said_all, after}
use Rattle.blob_model.specs.Builds.{Build, builds, built, builds_after, plan_told, slice_parts}
use Rattle.blob_model.specs.Settle.{settle}
use Rattle.blob_model.specs.Construct.{line_status, build_answer, build_answer_by}
use Rattle.blob_model.specs.Refusals.{refusal}
use Rattle.blob_model.specs.Own.{IsOwn, IsOwnBy, IsAccepted}
use Rattle.blob_model.specs.Legal.{left_files, IsLegalGroup}
use Rattle.blob_model.specs.Laws.{is_build}

-- further answers build nothing
pub builds-said : (page : ℕ) (h : History) (more : List Answer) → builds page (said_all h more) ≡ builds page h
builds-said page h [] = refl
builds-said page h (answer ∷ more) = builds-said page (said h answer) more

-- nor does a line of another kind
builds-line : (page : ℕ) (h : History) (event : Event) (answer : Answer) → is_build event ≡ false → builds page (heard h event answer) ≡ builds page h
builds-line page h (events.Build renderer name kind parts) answer e = cc
builds-line page h (events.Slice renderer name source from to kind) answer e = cc
builds-line page h event answer e = refl

builds-first : (page : ℕ) (h : History) (event : Event) (answer : Answer) → is_build event ≡ false → builds page (heard_first h event answer) ≡ builds page h
builds-first page h event (answers.Refused why) e = refl
builds-first page h event answer e = builds-line page h event answer e

pub builds-other : (page : ℕ) (h : History) (event : Event) (list : List Answer) → is_build event ≡ false → builds page (after h event list) ≡ builds page h
builds-other page h event [] e = refl
builds-other page h event (answer ∷ more) e = builds-said page (heard_first h event answer) more ∙ builds-first page h event answer e

-- the own answers of a line: one answer, or a refusal
first_by : (s : Session) (h : History) (event : Event) (own : List Answer) (one : Answer) (status : Option Refusal)
    → (IsAccepted s h event own → own ≡ one ∷ []) → IsOwnBy s h event status own → (own ≡ one ∷ []) ⊎ ((why : Refusal) × (own ≡ answers.Refused why ∷ []))
first_by s h event own one (Some why) accept is_own = inr (why, is_own)
first_by s h event own one None accept is_own = inl (accept is_own)

pub only_one : (own list : List Answer) → (own ≡ list) ⊎ ⊥ → own ≡ list
only_one own list (inl e) = e
only_one own list (inr never) = absurd never

-- what a legal group does to the blobs: nothing, or one more
pub data Grows (s : Session) (h : History) (before : List Build) : List Build → Type 0 where
  by_none : Grows s h before before
  by_one : (renderer name : ℕ) (kind : List ℕ) (parts : List Part)
      → Grows s h before (before ++ built (page_limit s) before renderer name kind parts (plan_told (build_answer s h renderer name parts)) ∷ [])

-- the blobs after answers of which the first is known
built_by : (s : Session) (h : History) (event : Event) (list own rest : List Answer) (one : Answer) → list ≡ own ++ rest → own ≡ one ∷ []
    → builds (page_limit s) (after h event list) ≡ builds (page_limit s) (heard_first h event one)
built_by s h event list own rest one e f =
    let whole : list ≡ one ∷ rest = e ∙ ap (λ (xs : List Answer). xs ++ rest) f in
    ap (λ (xs : List Answer). builds (page_limit s) (after h event xs)) whole ∙ builds-said (page_limit s) (heard_first h event one) rest

refused_first : (s : Session) (h : History) (event : Event) (why : Refusal) → builds (page_limit s) (heard_first h event (answers.Refused why))
    ≡ builds (page_limit s) h
refused_first s h event why = refl

pub planned_first : (s : Session) (h : History) (renderer name : ℕ) (event : Event) (parts : List Part) (status : Option Status)
    → heard_first h event (build_answer_by s h name parts status) ≡ heard h event (build_answer_by s h name parts status)
planned_first s h renderer name event parts (Some status) = refl
planned_first s h renderer name event parts None = refl

grown : (s : Session) (h : History) (event : Event) (list own rest : List Answer) (renderer name : ℕ) (kind : List ℕ) (parts : List Part)
    → IsOwn s h event own → list ≡ own ++ rest → (IsAccepted s h event own → own ≡ build_answer s h renderer name parts ∷ [])
    → builds_after (page_limit s) event (build_answer s h renderer name parts) (builds (page_limit s) h)
    ≡ builds (page_limit s) h ++ built (page_limit s) (builds (page_limit s) h) renderer name kind parts (plan_told (build_answer s h renderer name parts)) ∷ []
    → Grows s h (builds (page_limit s) h) (builds (page_limit s) (after h event list))
grown s h event list own rest renderer name kind parts is_own whole accept adds =
    ⊎_elim
    (λ (e : own ≡ build_answer s h renderer name parts ∷ []).
    let path = built_by s h event list own rest (build_answer s h renderer name parts) whole e in
    let first = planned_first s h renderer name event parts (line_status s h renderer name parts) in
    subst (λ (later : List Build). Grows s h (builds (page_limit s) h) later) (sym (path ∙ ap (builds (page_limit s)) first ∙ adds))
    (by_one renderer name kind parts))
    (λ (r : (why : Refusal) × (own ≡ answers.Refused why ∷ [])).
    let path = built_by s h event list own rest (answers.Refused r.0) whole r.1 in
    subst (λ (later : List Build). Grows s h (builds (page_limit s) h) later) (sym path) by_none)
    (first_by s h event own (build_answer s h renderer name parts) (refusal s h event) accept is_own)

grows_by : (s : Session) (h : History) (event : Event) (list own rest : List Answer) → IsOwn s h event own → list ≡ own ++ rest
    → Grows s h (builds (page_limit s) h) (builds (page_limit s) (after h event list))
grows_by s h (events.Build renderer name kind parts) list own rest is_own whole =
    grown s h (events.Build renderer name kind parts) list own rest renderer.0 name kind parts is_own whole
    (only_one own (build_answer s h renderer.0 name parts ∷ [])) refl
grows_by s h (events.Slice renderer name source from to kind) list own rest is_own whole =
    let parts = slice_parts (builds (page_limit s) h) source from to in
    grown s h (events.Slice renderer name source from to kind) list own rest renderer.0 name kind parts is_own whole
    (only_one own (build_answer s h renderer.0 name parts ∷ [])) refl
grows_by s h event list own rest is_own whole =
    subst (λ (later : List Build). Grows s h (builds (page_limit s) h) later) (sym (builds-other (page_limit s) h event list refl)) by_none

pub grows : (s : Session) (h : History) (group : Group) → IsLegalGroup s h group → Grows s h (builds (page_limit s) h)
    (builds (page_limit s) (after h group.event group.answers))
grows s h group legal = grows_by s h group.event group.answers legal.own (settle s (left_files group.answers) (after h group.event legal.own)) legal.is_own
    legal.settles
