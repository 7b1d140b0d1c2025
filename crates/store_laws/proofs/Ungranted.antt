-- In a legal transcript a blob that was granted was built.
use Rattle.std.proofs.Common.{◌≡◌, inl, inr, ⊎_elim, ℕ, ◌==◌, Bool, true, false, List, [], ◌∷◌, refl, ap, subst, sym, ◌∙◌}
use Rattle.std.proofs.lemmas.Bool.{eqb-true}
use Rattle.session_script.specs.declared.event.Event.{Event}
use Rattle.answer_text.specs.declared.answer.Answer.{Answer}
use Rattle.answer_text.specs.declared.answer.Answer.TheVariants as answers
use Rattle.blob_model.specs.Builds.{Build, builds}
use Rattle.blob_model.specs.History.{History, heard, refused, said, start}
use Rattle.blob_model.specs.Laws.{is_grant}
use Rattle.blob_model.specs.Order.{named}
use Rattle.blob_model.specs.Session.{Session, page_limit}
use Rattle.blob_model.specs.Standing.{was_granted, was_granted_after}
use Rattle.blob_model.proofs.Lists.{any_append_first, false_true, or_cases}
use Rattle.blob_model.proofs.bytes.Arrivals.{grown_heard}
use Rattle.blob_model.proofs.kept.NewBlobs.{found_named}
use Rattle.blob_model.proofs.legal.Causes.{IsCaused, IsFurther, OwnCase, breaks, by_break, by_compaction, by_done, by_drop, by_grant, by_page_job, by_removal, by_store, by_unstore, idle, is_idle, is_reply, loses, own_case, replies, stores, unstores}
use Rattle.blob_model.proofs.legal.PageNumbers.{same_first}
use Rattle.std.specs.Prelude.{is_some}

idle_grant : (answer : Answer) → is_idle answer ≡ true → is_grant answer ≡ false
idle_grant (answers.Granted b) is = absurd (false_true is)
idle_grant answer is = refl

reply_grant : (answer : Answer) → is_reply answer ≡ true → is_grant answer ≡ false
reply_grant (answers.Granted b) is = absurd (false_true is)
reply_grant answer is = refl

-- the first answer of a line grants nobody
own_grant : (s : Session) (h : History) (event : Event) (answer : Answer) (rest : List Answer) → OwnCase s h event (answer ∷ rest) → is_grant answer ≡ false
own_grant s h event answer rest (idle one e free) = ap is_grant (same_first answer one rest [] e) ∙ idle_grant one free
own_grant s h event answer rest (breaks b status broken building e) = ap is_grant (same_first answer _ rest _ e)
own_grant s h event answer rest (stores renderer b segment bytes n same at e) = ap is_grant (same_first answer _ rest _ e)
own_grant s h event answer rest (unstores renderer b segment bytes n same at e) = ap is_grant (same_first answer _ rest _ e)
own_grant s h event answer rest (replies job one same e reply done) = ap is_grant (same_first answer one rest [] e) ∙ reply_grant one reply
own_grant s h event answer rest (loses job same e) = ap is_grant (same_first answer _ rest _ e)

no_grant : (answer : Answer) (name : ℕ) (before : Bool) → is_grant answer ≡ false → was_granted_after answer name before ≡ before
no_grant (answers.Granted b) name before none = absurd (false_true (sym none))
no_grant answer name before none = refl

module _ (s : Session) where
  abbrev WasBuilt : History → ℕ → Type 0
  WasBuilt h name = named name (builds (page_limit s) h) ≡ true

  still_built : (h : History) (event : Event) (answer : Answer) (name : ℕ) → WasBuilt h name → WasBuilt (heard h event answer) name
  still_built h event answer name is =
      subst (λ (list : List Build). named name list ≡ true) (sym (grown_heard s h event answer).blobs)
      (any_append_first (λ (build : Build). build.name == name) (builds (page_limit s) h) (grown_heard s h event answer).more is)

  -- a further answer grants a blob that was built, or nobody
  by_further : (h : History) (answer : Answer) (name : ℕ) → IsFurther s h answer → was_granted_after answer name (was_granted h name) ≡ true
      → (was_granted h name ≡ true → WasBuilt h name) → WasBuilt h name
  by_further h answer name (by_grant build found e) is before =
      ⊎_elim
      (λ (same : (build.name == name) ≡ true).
      subst (λ (n : ℕ). WasBuilt h n) (eqb-true build.name name same) (sym (found_named (builds (page_limit s) h) build.name) ∙ ap is_some found))
      before
      (or_cases (build.name == name) (was_granted h name)
      (subst (λ (a : Answer). was_granted_after a name (was_granted h name) ≡ true) e is))
  by_further h answer name (by_drop build found begun unrooted e) is before =
      before (subst (λ (a : Answer). was_granted_after a name (was_granted h name) ≡ true) e is)
  by_further h answer name (by_break build found begun status broken e) is before =
      before (subst (λ (a : Answer). was_granted_after a name (was_granted h name) ≡ true) e is)
  by_further h answer name (by_done build found begun complete e) is before =
      before (subst (λ (a : Answer). was_granted_after a name (was_granted h name) ≡ true) e is)
  by_further h answer name (by_store g renderer b segment bytes n same passes at e) is before =
      before (subst (λ (a : Answer). was_granted_after a name (was_granted h name) ≡ true) e is)
  by_further h answer name (by_unstore g renderer b segment bytes n same passes at e) is before =
      before (subst (λ (a : Answer). was_granted_after a name (was_granted h name) ≡ true) e is)
  by_further h answer name (by_removal number written left (inl e)) is before =
      before (subst (λ (a : Answer). was_granted_after a name (was_granted h name) ≡ true) e is)
  by_further h answer name (by_removal number written left (inr e)) is before =
      before (subst (λ (a : Answer). was_granted_after a name (was_granted h name) ≡ true) e is)
  by_further h answer name (by_page_job number more may chosen e) is before =
      before (subst (λ (a : Answer). was_granted_after a name (was_granted h name) ≡ true) e is)
  by_further h answer name (by_compaction file may found e) is before =
      before (subst (λ (a : Answer). was_granted_after a name (was_granted h name) ≡ true) e is)

  granted_built : (h : History) → IsCaused s h → (name : ℕ) → was_granted h name ≡ true → WasBuilt h name
  granted_built start caused name is = absurd (false_true is)
  granted_built (heard h event answer) caused name is =
      still_built h event answer name
      (granted_built h caused.1 name
      (sym (no_grant answer name (was_granted h name)
      (own_grant s h event answer caused.0.rest (own_case s h event (answer ∷ caused.0.rest) caused.0.own))) ∙ is))
  granted_built (refused h event why) caused name is = granted_built h caused.2 name is
  granted_built (said h answer) caused name is = by_further h answer name caused.0 is (granted_built h caused.1 name)

  -- a blob that wasn't built wasn't granted
  pub unbuilt_ungranted : (h : History) → IsCaused s h → (name : ℕ) → named name (builds (page_limit s) h) ≡ false → was_granted h name ≡ false
  unbuilt_ungranted h caused name fresh = go (was_granted h name) refl
    where
      go : (b : Bool) → was_granted h name ≡ b → b ≡ false
      go false at = refl
      go true at = absurd (false_true (sym fresh ∙ granted_built h caused name at))
