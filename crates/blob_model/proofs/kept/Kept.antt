-- What every line of a legal transcript keeps: order of blobs, handles on built blobs alone, and that a blob that waits misses a segment.
use Rattle.std.proofs.Common.{◌≡◌, ℕ, ◌==◌, Bool, true, false, ◌&&◌, not, [], refl, subst, sym, ◌∙◌, Option, Some}
use Rattle.std.specs.Prelude.{cond, is_some, is_none}
use Rattle.std.specs.List.{AllByRecursion}
use Rattle.std.proofs.lemmas.Bool.{and_parts}
use Rattle.blob_words.specs.declared.plan.Plan.{Plan}
use Rattle.blob_words.specs.declared.status.Status.{Status}
use Rattle.blob_words.specs.declared.status.Status.TheVariants as statuses
use Rattle.session_script.specs.declared.event.Event.{Event}
use Rattle.answer_text.specs.declared.answer.Answer.{Answer}
use Rattle.answer_text.specs.declared.answer.Answer.TheVariants as answers
use Rattle.answer_text.specs.declared.refusal.Refusal.{Refusal}
use Rattle.blob_model.specs.Session.{Session, page_limit}
use Rattle.blob_model.specs.History.{History, heard, refused, said}
use Rattle.blob_model.specs.Builds.{Build, builds}
use Rattle.blob_model.specs.Standing.{ended_after, ended, is_unfinished, was_granted_after, was_granted}
use Rattle.blob_model.specs.Transport.{arrivals, has_all}
use Rattle.blob_model.specs.Handles.{has_handle}
use Rattle.blob_model.specs.Waits.{is_shared, is_waiting}
use Rattle.blob_model.proofs.Lists.{false_true, for_each, or_second}
use Rattle.blob_model.proofs.live.Least.{named}
use Rattle.blob_model.proofs.builds.Order.{AreOrdered}

pub record Kept (s : Session) (h : History) : Type 0 where
  pub ordered : AreOrdered [] (builds (page_limit s) h)
  pub held : (holder name : ℕ) → has_handle h holder name ≡ true → named name (builds (page_limit s) h) ≡ true
  pub broke : AllByRecursion (λ (build : Build). is_some build.plan ≡ false → is_unfinished h build.name ≡ false) (builds (page_limit s) h)
  pub quiet : (name : ℕ) → named name (builds (page_limit s) h) ≡ false → arrivals h name ≡ []
  pub lacking : AllByRecursion (λ (build : Build). is_waiting h build ≡ true → has_all s.limits h build ≡ false) (builds (page_limit s) h)

-- ---- what never comes back

pub still_ended : (answer : Answer) (name : ℕ) (before : Option Status) → is_none (ended_after answer name before) ≡ true → is_none before ≡ true
still_ended (answers.Done b) name before e = go (b == name) e
  where
    go : (c : Bool) → is_none (cond c (Some statuses.Done) before) ≡ true → is_none before ≡ true
    go true f = absurd (false_true f)
    go false f = f
still_ended (answers.Broken b status) name before e = go (b == name) e
  where
    go : (c : Bool) → is_none (cond c (Some status) before) ≡ true → is_none before ≡ true
    go true f = absurd (false_true f)
    go false f = f
still_ended (answers.Dropped b) name before e = go (b == name) e
  where
    go : (c : Bool) → is_none (cond c (Some statuses.Dereferenced) before) ≡ true → is_none before ≡ true
    go true f = absurd (false_true f)
    go false f = f
still_ended answer name before e = e

pub still_granted : (answer : Answer) (name : ℕ) (before : Bool) → before ≡ true → was_granted_after answer name before ≡ true
still_granted (answers.Granted b) name before e = or_second (b == name) before e
still_granted answer name before e = e

pub unfinished_said : (h : History) (answer : Answer) (name : ℕ) → is_unfinished (said h answer) name ≡ true → is_unfinished h name ≡ true
unfinished_said h answer name e = still_ended answer name (ended h name) e

pub unfinished_heard : (h : History) (event : Event) (answer : Answer) (name : ℕ) → is_unfinished (heard h event answer) name ≡ true → is_unfinished h name
    ≡ true
unfinished_heard h event answer name e = still_ended answer name (ended h name) e

-- a blob that waits waited before
waits_before : (u' u g' g : Bool) (plan : Option Plan) → (u' ≡ true → u ≡ true) → (g ≡ true → g' ≡ true) → (u' && is_shared plan && not g') ≡ true
    → (u && is_shared plan && not g) ≡ true
waits_before u' u g' true plan up gp e =
    let parts = and_parts (u' && is_shared plan) (not g') e in
    let granted : g' ≡ true = gp refl in
    absurd (false_true (subst (λ (b : Bool). not b ≡ true) granted parts.1))
waits_before u' u g' false plan up gp e =
    let parts = and_parts (u' && is_shared plan) (not g') e in
    let inner = and_parts u' (is_shared plan) parts.0 in
    rw (up inner.0, inner.1) refl

pub waiting_said : (h : History) (answer : Answer) (build : Build) → is_waiting (said h answer) build ≡ true → is_waiting h build ≡ true
waiting_said h answer build e =
    waits_before (is_unfinished (said h answer) build.name) (is_unfinished h build.name) (was_granted (said h answer) build.name) (was_granted h build.name)
    build.plan
    (unfinished_said h answer build.name) (still_granted answer build.name (was_granted h build.name)) e

pub waiting_heard : (h : History) (event : Event) (answer : Answer) (build : Build) → is_waiting (heard h event answer) build ≡ true → is_waiting h build ≡ true
waiting_heard h event answer build e =
    waits_before (is_unfinished (heard h event answer) build.name) (is_unfinished h build.name) (was_granted (heard h event answer) build.name)
    (was_granted h build.name) build.plan
    (unfinished_heard h event answer build.name) (still_granted answer build.name (was_granted h build.name)) e

-- a further answer keeps all of it
pub kept_said : (s : Session) (h : History) (answer : Answer) → Kept s h → Kept s (said h answer)
kept_said s h answer kept = record {
  ordered = kept.ordered;
  held = kept.held;
  broke =
      for_each (λ (build : Build). is_some build.plan ≡ false → is_unfinished h build.name ≡ false)
      (λ (build : Build). is_some build.plan ≡ false → is_unfinished (said h answer) build.name ≡ false)
      (builds (page_limit s) h) (λ build was none. go (is_unfinished (said h answer) build.name) (was none) (unfinished_said h answer build.name)) kept.broke;
  quiet = kept.quiet;
  lacking =
      for_each (λ (build : Build). is_waiting h build ≡ true → has_all s.limits h build ≡ false)
      (λ (build : Build). is_waiting (said h answer) build ≡ true → has_all s.limits (said h answer) build ≡ false)
      (builds (page_limit s) h) (λ build was waiting. was (waiting_said h answer build waiting)) kept.lacking;
}
  where
    go : (b : Bool) {c : Bool} → c ≡ false → (b ≡ true → c ≡ true) → b ≡ false
    go true e f = absurd (false_true (sym e ∙ f refl))
    go false e f = refl

-- and so does a refused line
pub kept_refused : (s : Session) (h : History) (event : Event) (why : Refusal) → Kept s h → Kept s (refused h event why)
kept_refused s h event why kept = record { ordered = kept.ordered; held = kept.held; broke = kept.broke; quiet = kept.quiet; lacking = kept.lacking }
