-- How the bytes of an unfinished blob come, and the status that says it.
use Rattle.std.proofs.Common.{◌≡◌, ℕ, ◌⊎◌, Bool, true, false, ◌&&◌, not, [], refl, ap, sym, ◌∙◌, Option, Some, None, inl, inr, cond}
use Rattle.std.specs.Prelude.{is_none, unwrap_or, IfSome}
use Rattle.blob_words.specs.declared.plan.Plan.{Plan}
use Rattle.blob_words.specs.declared.plan.Plan.TheVariants as plans
use Rattle.blob_words.specs.declared.status.Status.{Status}
use Rattle.blob_words.specs.declared.status.Status.TheVariants as statuses
use Rattle.blob_entries.specs.Statuses.{is_pending}
use Rattle.blob_model.specs.Session.{Session}
use Rattle.blob_model.specs.History.{History}
use Rattle.blob_model.specs.Builds.{Build}
use Rattle.blob_model.specs.Own.{pending_status}
use Rattle.blob_model.specs.Standing.{ended, is_granted, is_unfinished, was_granted}
use Rattle.blob_model.specs.Transport.{has_all}
use Rattle.blob_model.specs.Waits.{is_shared, is_waiting}
use Rattle.blob_model.proofs.Lists.{false_true}
use Rattle.store_laws.specs.Outlines.{status_now}
use Rattle.store_laws.specs.Rows.{Coming, settled, waiting, gathering, writing, coming_by, coming_of, came_of, gathered_of, gathers}

-- whether segments go to page files
abbrev pub is_writing : Coming → Bool
is_writing settled = false
is_writing waiting = false
is_writing (gathering segments) = false
is_writing (writing slots came) = true

-- a blob that is to get bytes: it doesn't wait for room, and misses a segment
pub record IsSent (s : Session) (h : History) (build : Build) : Type 0 where
  pub begun : is_unfinished h build.name ≡ true
  pub roomy : is_waiting h build ≡ false
  pub lacks : has_all s.limits h build ≡ false

-- that is what the status says
status_of_sent : (s : Session) (h : History) (build : Build) → IsSent s h build → status_now s h build ≡ statuses.PendingTransport
status_of_sent s h build sent = go (ended h build.name) sent.begun ∙ by (is_waiting h build) (has_all s.limits h build) sent.roomy sent.lacks
  where
    go : (o : Option Status) → is_none o ≡ true → unwrap_or o (pending_status s h build) ≡ pending_status s h build
    go None e = refl
    go (Some status) e = absurd (false_true e)

    by : (a b : Bool) → a ≡ false → b ≡ false → cond a statuses.PendingQuota
        (cond b statuses.PendingReferencedBlobs statuses.PendingTransport) ≡ statuses.PendingTransport
    by true b e f = absurd (false_true (sym e))
    by false true e f = absurd (false_true (sym f))
    by false false e f = refl

pub sent_by_status : (s : Session) (h : History) (build : Build) → IfSome (ended h build.name) (λ (status : Status). is_pending status ≡ false)
    → status_now s h build ≡ statuses.PendingTransport → IsSent s h build
sent_by_status s h build apart e = go (ended h build.name) refl apart e
  where
    parts : (a b : Bool) → is_waiting h build ≡ a → has_all s.limits h build ≡ b → is_unfinished h build.name ≡ true
        → cond a statuses.PendingQuota (cond b statuses.PendingReferencedBlobs statuses.PendingTransport) ≡ statuses.PendingTransport → IsSent s h build
    parts true b w l begun f = absurd (cc f)
    parts false true w l begun f = absurd (cc f)
    parts false false w l begun f = record { begun = begun; roomy = w; lacks = l }

    go : (o : Option Status) → ended h build.name ≡ o → IfSome o (λ (status : Status). is_pending status ≡ false)
        → unwrap_or o (pending_status s h build) ≡ statuses.PendingTransport
        → IsSent s h build
    go None at apart f = parts (is_waiting h build) (has_all s.limits h build) refl refl (ap is_none at) f
    go (Some status) at apart f = absurd (false_true (sym apart ∙ ap is_pending f))

-- a blob that waits for room has none
pub waiting_by_status : (s : Session) (h : History) (build : Build) → IfSome (ended h build.name) (λ (status : Status). is_pending status ≡ false)
    → status_now s h build ≡ statuses.PendingQuota → is_waiting h build ≡ true
waiting_by_status s h build apart e = go (ended h build.name) apart e
  where
    parts : (a b : Bool) → is_waiting h build ≡ a → cond a statuses.PendingQuota
        (cond b statuses.PendingReferencedBlobs statuses.PendingTransport) ≡ statuses.PendingQuota
        → is_waiting h build ≡ true
    parts true b w f = w
    parts false true w f = absurd (cc f)
    parts false false w f = absurd (cc f)

    go : (o : Option Status) → IfSome o (λ (status : Status). is_pending status ≡ false) → unwrap_or o (pending_status s h build) ≡ statuses.PendingQuota
        → is_waiting h build ≡ true
    go None apart f = parts (is_waiting h build) (has_all s.limits h build) refl f
    go (Some status) apart f = absurd (false_true (sym apart ∙ ap is_pending f))

module _ (s : Session) (h : History) (build : Build) where
  -- a shared plan grants nothing at its line
  pub granted_shared : (n : ℕ) → build.plan ≡ Some (plans.Shared n) → is_granted h build ≡ was_granted h build.name
  granted_shared n at = ap (λ (p : Option Plan). is_granted h (record build { plan = p })) at

  pub waits_shared : (n : ℕ) → build.plan ≡ Some (plans.Shared n) → is_waiting h build ≡ (is_unfinished h build.name && not (was_granted h build.name))
  waits_shared n at = ap (λ (p : Option Plan). is_waiting h (record build { plan = p })) at ∙ go (is_unfinished h build.name)
    where
      go : (b : Bool) → (b && true && not (was_granted h build.name)) ≡ (b && not (was_granted h build.name))
      go true = refl
      go false = refl

  waits_other : (plan : Option Plan) → is_shared plan ≡ false → build.plan ≡ plan → is_waiting h build ≡ false
  waits_other plan other at =
      ap (λ (p : Option Plan). is_waiting h (record build { plan = p })) at ∙ go (is_unfinished h build.name) (is_shared plan) other
    where
      go : (b c : Bool) → c ≡ false → (b && c && not (was_granted h build.name)) ≡ false
      go true true e = absurd (false_true (sym e))
      go true false e = refl
      go false c e = refl

  -- who waits has no room
  pub waits_ungranted : (plan : Option Plan) → build.plan ≡ plan → is_waiting h build ≡ true → is_granted h build ≡ false
  waits_ungranted (Some (plans.Shared n)) at waits =
      granted_shared n at ∙ go (is_unfinished h build.name) (was_granted h build.name) (sym (waits_shared n at) ∙ waits)
    where
      go : (b c : Bool) → (b && not c) ≡ true → c ≡ false
      go true true e = absurd (false_true e)
      go true false e = refl
      go false c e = absurd (false_true e)
  waits_ungranted None at waits = absurd (false_true (sym (waits_other None refl at) ∙ waits))
  waits_ungranted (Some plans.None) at waits = absurd (false_true (sym (waits_other (Some plans.None) refl at) ∙ waits))
  waits_ungranted (Some plans.Inline) at waits = absurd (false_true (sym (waits_other (Some plans.Inline) refl at) ∙ waits))
  waits_ungranted (Some (plans.File n)) at waits = absurd (false_true (sym (waits_other (Some (plans.File n)) refl at) ∙ waits))
  waits_ungranted (Some plans.OutOfMemory) at waits = absurd (false_true (sym (waits_other (Some plans.OutOfMemory) refl at) ∙ waits))
  waits_ungranted (Some (plans.TooMany what)) at waits = absurd (false_true (sym (waits_other (Some (plans.TooMany what)) refl at) ∙ waits))

  -- a plan without segments misses none
  has_none : (plan : Option Plan) → build.plan ≡ plan → has_all s.limits h (record build { plan = plan }) ≡ true → has_all s.limits h build ≡ true
  has_none plan at e = ap (λ (p : Option Plan). has_all s.limits h (record build { plan = p })) at ∙ e

  -- a blob that is to get bytes gathers them or has them written
  sent_by : (plan : Option Plan) → build.plan ≡ plan → IsSent s h build → (gathers (coming_by s h build plan) ≡ true) ⊎ (is_writing
      (coming_by s h build plan) ≡ true)
  sent_by (Some (plans.Shared n)) at sent =
      inl (both (is_granted h build) (has_all s.limits h build) (granted_shared n at ∙ go (was_granted h build.name) (sym (by_unfinished sent.begun)
      ∙ sym (waits_shared n at) ∙ sent.roomy)) sent.lacks)
    where
      by_unfinished : is_unfinished h build.name ≡ true → (is_unfinished h build.name && not (was_granted h build.name)) ≡ not (was_granted h build.name)
      by_unfinished e = ap (λ (b : Bool). b && not (was_granted h build.name)) e

      go : (c : Bool) → not c ≡ false → c ≡ true
      go true e = refl
      go false e = absurd (false_true (sym e))

      both : (a b : Bool) → a ≡ true → b ≡ false → gathers (cond a (cond b settled (gathering (gathered_of s h build))) waiting) ≡ true
      both true false e f = refl
      both true true e f = absurd (false_true (sym f))
      both false b e f = absurd (false_true e)
  sent_by (Some (plans.File n)) at sent = inr (go (has_all s.limits h build) sent.lacks)
    where
      go : (b : Bool) → b ≡ false → is_writing (cond b settled (writing [] (came_of s h build))) ≡ true
      go true e = absurd (false_true (sym e))
      go false e = refl
  sent_by None at sent = absurd (false_true (sym sent.lacks ∙ has_none None at refl))
  sent_by (Some plans.None) at sent = absurd (false_true (sym sent.lacks ∙ has_none (Some plans.None) at refl))
  sent_by (Some plans.Inline) at sent = absurd (false_true (sym sent.lacks ∙ has_none (Some plans.Inline) at refl))
  sent_by (Some plans.OutOfMemory) at sent = absurd (false_true (sym sent.lacks ∙ has_none (Some plans.OutOfMemory) at refl))
  sent_by (Some (plans.TooMany what)) at sent = absurd (false_true (sym sent.lacks ∙ has_none (Some (plans.TooMany what)) at refl))

  pub sent_comes : IsSent s h build → (gathers (coming_of s h build) ≡ true) ⊎ (is_writing (coming_of s h build) ≡ true)
  sent_comes sent = go (is_unfinished h build.name) sent.begun (sent_by build.plan refl sent)
    where
      go : (b : Bool) → b ≡ true → (gathers (coming_by s h build build.plan) ≡ true) ⊎ (is_writing (coming_by s h build build.plan) ≡ true)
          → (gathers (cond b (coming_by s h build build.plan) settled) ≡ true) ⊎ (is_writing (cond b (coming_by s h build build.plan) settled) ≡ true)
      go true e f = f
      go false e f = absurd (false_true e)

  -- whose bytes are gathered or written is to get bytes
  pub record IsGathering : Type 0 where
    pub sent : IsSent s h build
    pub granted : is_granted h build ≡ true
    pub status : status_now s h build ≡ statuses.PendingTransport

  gathering_by : (plan : Option Plan) → build.plan ≡ plan → is_unfinished h build.name ≡ true → gathers (coming_by s h build plan) ≡ true → IsGathering
  gathering_by (Some (plans.Shared n)) at begun e = go (is_granted h build) (has_all s.limits h build) refl refl e
    where
      roomy : is_granted h build ≡ true → is_waiting h build ≡ false
      roomy granted =
          waits_shared n at ∙ by (is_unfinished h build.name) (was_granted h build.name) (sym (granted_shared n at) ∙ granted)
        where
          by : (b c : Bool) → c ≡ true → (b && not c) ≡ false
          by true true e = refl
          by true false e = absurd (false_true e)
          by false c e = refl

      go : (a b : Bool) → is_granted h build ≡ a → has_all s.limits h build ≡ b → gathers (cond a (cond b settled (gathering
          (gathered_of s h build))) waiting) ≡ true → IsGathering
      go true false g l f =
          let sent : IsSent s h build = record { begun = begun; roomy = roomy g; lacks = l } in
          record { sent = sent; granted = g; status = status_of_sent s h build sent }
      go true true g l f = absurd (false_true f)
      go false b g l f = absurd (false_true f)
  gathering_by (Some (plans.File n)) at begun e = absurd (go (has_all s.limits h build) e)
    where
      go : (b : Bool) → gathers (cond b settled (writing [] (came_of s h build))) ≡ true → ⊥
      go true f = false_true f
      go false f = false_true f
  gathering_by None at begun e = absurd (false_true e)
  gathering_by (Some plans.None) at begun e = absurd (false_true e)
  gathering_by (Some plans.Inline) at begun e = absurd (false_true e)
  gathering_by (Some plans.OutOfMemory) at begun e = absurd (false_true e)
  gathering_by (Some (plans.TooMany what)) at begun e = absurd (false_true e)

  pub gathering_now : gathers (coming_of s h build) ≡ true → IsGathering
  gathering_now e = go (is_unfinished h build.name) refl e
    where
      go : (b : Bool) → is_unfinished h build.name ≡ b → gathers (cond b (coming_by s h build build.plan) settled) ≡ true → IsGathering
      go true at f = gathering_by build.plan refl at f
      go false at f = absurd (false_true f)

  writing_by : (plan : Option Plan) → build.plan ≡ plan → is_unfinished h build.name ≡ true → is_writing (coming_by s h build plan) ≡ true
      → status_now s h build ≡ statuses.PendingTransport
  writing_by (Some (plans.File n)) at begun e = go (has_all s.limits h build) refl e
    where
      go : (b : Bool) → has_all s.limits h build ≡ b → is_writing (cond b settled (writing [] (came_of s h build))) ≡ true
          → status_now s h build ≡ statuses.PendingTransport
      go true l f = absurd (false_true f)
      go false l f = status_of_sent s h build (record { begun = begun; roomy = waits_other (Some (plans.File n)) refl at; lacks = l })
  writing_by (Some (plans.Shared n)) at begun e = absurd (go (is_granted h build) (has_all s.limits h build) e)
    where
      go : (a b : Bool) → is_writing (cond a (cond b settled (gathering (gathered_of s h build))) waiting) ≡ true → ⊥
      go true true f = false_true f
      go true false f = false_true f
      go false b f = false_true f
  writing_by None at begun e = absurd (false_true e)
  writing_by (Some plans.None) at begun e = absurd (false_true e)
  writing_by (Some plans.Inline) at begun e = absurd (false_true e)
  writing_by (Some plans.OutOfMemory) at begun e = absurd (false_true e)
  writing_by (Some (plans.TooMany what)) at begun e = absurd (false_true e)

  pub writing_now : is_writing (coming_of s h build) ≡ true → status_now s h build ≡ statuses.PendingTransport
  writing_now e = go (is_unfinished h build.name) refl e
    where
      go : (b : Bool) → is_unfinished h build.name ≡ b → is_writing (cond b (coming_by s h build build.plan) settled) ≡ true
          → status_now s h build ≡ statuses.PendingTransport
      go true at f = writing_by build.plan refl at f
      go false at f = absurd (false_true f)

  -- what is gathered is what the history says, and its plan is shared
  gathering_as : (plan : Option Plan) → build.plan ≡ plan → gathers (coming_by s h build plan) ≡ true
      → (coming_by s h build plan ≡ gathering (gathered_of s h build)) × ((n : ℕ) × (build.plan ≡ Some (plans.Shared n)))
  gathering_as (Some (plans.Shared n)) at e = (go (is_granted h build) (has_all s.limits h build) e, (n, at))
    where
      go : (a b : Bool) → gathers (cond a (cond b settled (gathering (gathered_of s h build))) waiting) ≡ true
          → cond a (cond b settled (gathering (gathered_of s h build))) waiting ≡ gathering (gathered_of s h build)
      go true false f = refl
      go true true f = absurd (false_true f)
      go false b f = absurd (false_true f)
  gathering_as (Some (plans.File n)) at e = absurd (go (has_all s.limits h build) e)
    where
      go : (b : Bool) → gathers (cond b settled (writing [] (came_of s h build))) ≡ true → ⊥
      go true f = false_true f
      go false f = false_true f
  gathering_as None at e = absurd (false_true e)
  gathering_as (Some plans.None) at e = absurd (false_true e)
  gathering_as (Some plans.Inline) at e = absurd (false_true e)
  gathering_as (Some plans.OutOfMemory) at e = absurd (false_true e)
  gathering_as (Some (plans.TooMany what)) at e = absurd (false_true e)

  pub gathering_is : gathers (coming_of s h build) ≡ true → (coming_of s h build ≡ gathering (gathered_of s h build)) × ((n : ℕ) × (build.plan ≡ Some
      (plans.Shared n)))
  gathering_is e = go (is_unfinished h build.name) e
    where
      go : (b : Bool) → gathers (cond b (coming_by s h build build.plan) settled) ≡ true
          → (cond b (coming_by s h build build.plan) settled ≡ gathering (gathered_of s h build)) × ((n : ℕ) × (build.plan ≡ Some (plans.Shared n)))
      go true f = gathering_as build.plan refl f
      go false f = absurd (false_true f)
