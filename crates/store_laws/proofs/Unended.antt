-- In a legal transcript a blob that ended was built.
use Rattle.std.proofs.Common.{◌≡◌, ◌⊎◌, inl, inr, ⊎_elim, ℕ, ◌==◌, Bool, true, false, List, [], ◌∷◌, refl, ap, subst, sym, ◌∙◌, Option, Some, None, cond}
use Rattle.std.specs.Prelude.{is_some}
use Rattle.std.proofs.lemmas.Bool.{eqb-true}
use Rattle.blob_words.specs.declared.status.Status.{Status}
use Rattle.blob_words.specs.declared.status.Status.TheVariants as statuses
use Rattle.session_script.specs.declared.event.Event.{Event}
use Rattle.session_script.specs.declared.event.Event.TheVariants as events
use Rattle.session_script.specs.declared.event.Part.{Part}
use Rattle.answer_text.specs.declared.answer.Answer.{Answer}
use Rattle.blob_model.specs.Builds.{Build, builds, slice_parts}
use Rattle.blob_model.specs.Construct.{build_answer, build_answer_by, line_status}
use Rattle.blob_model.specs.History.{History, heard, refused, said, start}
use Rattle.blob_model.specs.Laws.{is_build}
use Rattle.blob_model.specs.Order.{named}
use Rattle.blob_model.specs.Own.{IsAccepted}
use Rattle.blob_model.specs.Session.{Session, page_limit}
use Rattle.blob_model.specs.Standing.{ended, ended_after}
use Rattle.blob_model.proofs.Lists.{any_append_first, any_append_second, false_true, or_first}
use Rattle.blob_model.proofs.builds.Growth.{only_one}
use Rattle.blob_model.proofs.bytes.Arrivals.{grown_heard, idle_ends, reply_ends}
use Rattle.blob_model.proofs.kept.NewBlobs.{found_named}
use Rattle.blob_model.proofs.legal.Causes.{IsBuilt, IsCaused, IsFurther, OwnCase, breaks, by_break, by_compaction, by_done, by_drop, by_grant, by_page_job, by_removal, by_store, by_unstore, idle, loses, own_case, replies, stores, unstores}
use Rattle.blob_model.proofs.legal.PageNumbers.{same_first}

-- the first answer of a line that builds nothing ends nobody
plain_ends : (s : Session) (h : History) (event : Event) (answer : Answer) (rest : List Answer) (name : ℕ) → OwnCase s h event (answer ∷ rest)
    → is_build event ≡ false → ended_after answer name (ended h name) ≡ ended h name
plain_ends s h event answer rest name (idle one e free) plain =
    ap (λ (a : Answer). ended_after a name (ended h name)) (same_first answer one rest [] e) ∙ idle_ends one name (ended h name) free
plain_ends s h event answer rest name (breaks b status broken building e) plain = absurd (false_true (sym plain ∙ building))
plain_ends s h event answer rest name (stores renderer b segment bytes n same at e) plain =
    ap (λ (a : Answer). ended_after a name (ended h name)) (same_first answer _ rest _ e)
plain_ends s h event answer rest name (unstores renderer b segment bytes n same at e) plain =
    ap (λ (a : Answer). ended_after a name (ended h name)) (same_first answer _ rest _ e)
plain_ends s h event answer rest name (replies job one same e reply done) plain =
    ap (λ (a : Answer). ended_after a name (ended h name)) (same_first answer one rest [] e) ∙ reply_ends one name (ended h name) reply
plain_ends s h event answer rest name (loses job same e) plain =
    ap (λ (a : Answer). ended_after a name (ended h name)) (same_first answer _ rest [] e)

-- who ended after such an answer ended before, or is the one
ended_or : (b : Bool) (status : Status) (before : Option Status) → is_some (cond b (Some status) before) ≡ true → (is_some before ≡ true) ⊎ (b ≡ true)
ended_or true status before is = inr refl
ended_or false status before is = inl is

module _ (s : Session) where
  abbrev WasBuilt : History → ℕ → Type 0
  WasBuilt h name = named name (builds (page_limit s) h) ≡ true

  built_ends : (h : History) (own : ℕ) (parts : List Part) (name : ℕ) (status : Option Status)
      → is_some (ended_after (build_answer_by s h own parts status) name (ended h name)) ≡ true → (is_some (ended h name) ≡ true) ⊎ ((own == name) ≡ true)
  built_ends h own parts name None is = inl is
  built_ends h own parts name (Some why) is = ended_or (own == name) why (ended h name) is

  still_built : (h : History) (event : Event) (answer : Answer) (name : ℕ) → WasBuilt h name → WasBuilt (heard h event answer) name
  still_built h event answer name is =
      subst (λ (list : List Build). named name list ≡ true) (sym (grown_heard s h event answer).blobs)
      (any_append_first (λ (build : Build). build.name == name) (builds (page_limit s) h) (grown_heard s h event answer).more is)

  by_build : (h : History) (event : Event) (answer : Answer) (rest : List Answer) (own name renderer : ℕ) (parts : List Part)
      → (IsAccepted s h event (answer ∷ rest) → (answer ∷ rest) ≡ build_answer s h renderer own parts ∷ [])
      → ((own == name) ≡ true → WasBuilt (heard h event answer) name) → IsAccepted s h event (answer ∷ rest)
      → is_some (ended_after answer name (ended h name)) ≡ true → (is_some (ended h name) ≡ true → WasBuilt h name)
      → WasBuilt (heard h event answer) name
  by_build h event answer rest own name renderer parts only last accepted is before =
      let first = same_first answer (build_answer s h renderer own parts) rest [] (only accepted) in
      ⊎_elim (λ (old : is_some (ended h name) ≡ true). still_built h event answer name (before old)) last
      (built_ends h own parts name (line_status s h renderer own parts)
      (subst (λ (a : Answer). is_some (ended_after a name (ended h name)) ≡ true) first is))

  by_line : (h : History) (event : Event) (answer : Answer) (rest : List Answer) (name : ℕ) → IsAccepted s h event (answer ∷ rest)
      → is_some (ended_after answer name (ended h name)) ≡ true → (is_some (ended h name) ≡ true → WasBuilt h name)
      → WasBuilt (heard h event answer) name
  by_line h (events.Build renderer own kind parts) answer rest name accepted is before =
      by_build h (events.Build renderer own kind parts) answer rest own name renderer.0 parts
      (only_one (answer ∷ rest) (build_answer s h renderer.0 own parts ∷ []))
      (λ same. any_append_second (λ (build : Build). build.name == name) (builds (page_limit s) h) _ (or_first (own == name) false same)) accepted is before
  by_line h (events.Slice renderer own source from to kind) answer rest name accepted is before =
      by_build h (events.Slice renderer own source from to kind) answer rest own name renderer.0 (slice_parts (builds (page_limit s) h) source from to)
      (only_one (answer ∷ rest) (build_answer s h renderer.0 own (slice_parts (builds (page_limit s) h) source from to) ∷ []))
      (λ same. any_append_second (λ (build : Build). build.name == name) (builds (page_limit s) h) _ (or_first (own == name) false same)) accepted is before
  by_line h event answer rest name accepted is before =
      still_built h event answer name
      (before (ap is_some (sym (plain_ends s h event answer rest name (own_case s h event (answer ∷ rest) accepted) refl)) ∙ is))

  found_built : (h : History) (build : Build) (name : ℕ) → IsBuilt s h build → (build.name == name) ≡ true → WasBuilt h name
  found_built h build name found same =
      subst (λ (n : ℕ). WasBuilt h n) (eqb-true build.name name same) (sym (found_named (builds (page_limit s) h) build.name) ∙ ap is_some found)

  -- a further answer ends a blob that was built, or nobody
  by_further : (h : History) (answer : Answer) (name : ℕ) → IsFurther s h answer → is_some (ended_after answer name (ended h name)) ≡ true
      → (is_some (ended h name) ≡ true → WasBuilt h name) → WasBuilt h name
  by_further h answer name (by_drop build found begun unrooted e) is before =
      ⊎_elim before (found_built h build name found) (ended_or (build.name == name) statuses.Dereferenced (ended h name)
      (subst (λ (a : Answer). is_some (ended_after a name (ended h name)) ≡ true) e is))
  by_further h answer name (by_break build found begun status broken e) is before =
      ⊎_elim before (found_built h build name found) (ended_or (build.name == name) status (ended h name)
      (subst (λ (a : Answer). is_some (ended_after a name (ended h name)) ≡ true) e is))
  by_further h answer name (by_done build found begun complete e) is before =
      ⊎_elim before (found_built h build name found) (ended_or (build.name == name) statuses.Done (ended h name)
      (subst (λ (a : Answer). is_some (ended_after a name (ended h name)) ≡ true) e is))
  by_further h answer name (by_store g renderer b segment bytes n same passes at e) is before =
      before (subst (λ (a : Answer). is_some (ended_after a name (ended h name)) ≡ true) e is)
  by_further h answer name (by_unstore g renderer b segment bytes n same passes at e) is before =
      before (subst (λ (a : Answer). is_some (ended_after a name (ended h name)) ≡ true) e is)
  by_further h answer name (by_removal number written left (inl e)) is before =
      before (subst (λ (a : Answer). is_some (ended_after a name (ended h name)) ≡ true) e is)
  by_further h answer name (by_removal number written left (inr e)) is before =
      before (subst (λ (a : Answer). is_some (ended_after a name (ended h name)) ≡ true) e is)
  by_further h answer name (by_grant build found e) is before =
      before (subst (λ (a : Answer). is_some (ended_after a name (ended h name)) ≡ true) e is)
  by_further h answer name (by_page_job number more may chosen e) is before =
      before (subst (λ (a : Answer). is_some (ended_after a name (ended h name)) ≡ true) e is)
  by_further h answer name (by_compaction file may found e) is before =
      before (subst (λ (a : Answer). is_some (ended_after a name (ended h name)) ≡ true) e is)

  pub ended_built : (h : History) → IsCaused s h → (name : ℕ) → is_some (ended h name) ≡ true → WasBuilt h name
  ended_built start caused name is = absurd (false_true is)
  ended_built (heard h event answer) caused name is =
      by_line h event answer caused.0.rest name caused.0.own is (ended_built h caused.1 name)
  ended_built (refused h event why) caused name is = ended_built h caused.2 name is
  ended_built (said h answer) caused name is = by_further h answer name caused.0 is (ended_built h caused.1 name)

  -- a blob that wasn't built hasn't ended
  pub unbuilt_unended : (h : History) → IsCaused s h → (name : ℕ) → named name (builds (page_limit s) h) ≡ false → ended h name ≡ None
  unbuilt_unended h caused name fresh = go (ended h name) refl
    where
      go : (o : Option Status) → ended h name ≡ o → o ≡ None
      go None at = refl
      go (Some status) at = absurd (false_true (sym fresh ∙ ended_built h caused name (ap is_some at)))
