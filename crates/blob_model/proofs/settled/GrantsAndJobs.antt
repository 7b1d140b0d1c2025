-- Grants end where the head doesn't fit, and jobs start one at a time.
use Rattle.std.proofs.Common.{◌≡◌, ◌⊎◌, ℕ, ◌==◌, ◌+◌, Bool, true, false, ◌&&◌, ◌||◌, not, List, [], ◌∷◌, length, refl, ap, subst, sym, ◌∙◌, inl, inr, ⊎_elim, Option, Some, None}
use Rattle.std.specs.Prelude.{cond, filter, is_none, nat_lt, nat_le, if◌then◌else◌}
use Rattle.std.specs.Option.{option_map, option_to_list}
use Rattle.std.proofs.lemmas.Bool.{or_parts, eqb-true, eq-eqb}
use Rattle.answer_text.specs.declared.answer.Answer.{Answer}
use Rattle.answer_text.specs.declared.answer.Answer.TheVariants as answers
use Rattle.blob_model.specs.Session.{Session, page_limit}
use Rattle.blob_model.specs.History.{History, said, said_all}
use Rattle.blob_model.specs.Parts.{own_bytes}
use Rattle.blob_model.specs.Builds.{Build, builds}
use Rattle.blob_model.specs.Standing.{is_unfinished, was_granted}
use Rattle.blob_model.specs.Pages.{Page}
use Rattle.blob_model.specs.Jobs.{in_flight, paging}
use Rattle.blob_model.specs.Tally.{memory}
use Rattle.blob_model.specs.Waits.{is_waiting, is_shared, waits}
use Rattle.blob_model.specs.Settle.{grants_of, grants, page_job_of, page_jobs, may_start, compaction, compactions, movable}
use Rattle.blob_model.specs.Victims.{chosen}
use Rattle.blob_model.proofs.Lists.{false_true, filter_same, or_cases, or_first, or_second}
use Rattle.blob_model.proofs.live.Least.{named}
use Rattle.blob_model.proofs.builds.Order.{Distinct, distinct_filter}
use Rattle.blob_model.proofs.settled.LateAnswers.{AllLate, AllStill, memory_still, waits_still}

eqb_turned : (a b : ℕ) → (a == b) ≡ (b == a)
eqb_turned a b = go (a == b) refl (b == a) refl
  where
    go : (x : Bool) → (a == b) ≡ x → (y : Bool) → (b == a) ≡ y → x ≡ y
    go true e true f = refl
    go false e false f = refl
    go true e false f = let same : a ≡ b = eqb-true a b e in absurd (false_true (sym f ∙ eq-eqb b a (sym same)))
    go false e true f = let same : b ≡ a = eqb-true b a f in absurd (false_true (sym e ∙ eq-eqb a b (sym same)))

waits_but : (u s a g : Bool) → (u && s && not (a || g)) ≡ (not a && (u && s && not g))
waits_but true true true g = refl
waits_but true false true g = refl
waits_but false s true g = refl
waits_but u s false g = refl

filter_both : (p q : Build → Bool) (list : List Build) → filter (λ (x : Build). p x && q x) list ≡ filter p (filter q list)
filter_both p q [] = refl
filter_both p q (x ∷ list) = go (p x) (q x) refl (filter_both p q list)
  where
    go : (a b : Bool) → p x ≡ a → filter (λ (y : Build). p y && q y) list ≡ filter p (filter q list)
        → cond (a && b) (x ∷ filter (λ (y : Build). p y && q y) list) (filter (λ (y : Build). p y && q y) list)
        ≡ filter p (cond b (x ∷ filter q list) (filter q list))
    go true true e rest = ap (λ xs. x ∷ xs) rest ∙ (λ i. cond (sym e i) (x ∷ filter p (filter q list)) (filter p (filter q list)))
    go true false e rest = rest
    go false true e rest = rest ∙ (λ i. cond (sym e i) (x ∷ filter p (filter q list)) (filter p (filter q list)))
    go false false e rest = rest

filter_others : (name : ℕ) (list : List Build) → named name list ≡ false → filter (λ (x : Build). not (name == x.name)) list ≡ list
filter_others name [] e = refl
filter_others name (x ∷ list) e =
    let parts = or_parts (x.name == name) (named name list) e in
    let other : (name == x.name) ≡ false = eqb_turned name x.name ∙ parts.0 in
    (λ i. cond (not (other i)) (x ∷ filter (λ (y : Build). not (name == y.name)) list) (filter (λ (y : Build). not (name == y.name)) list)) ∙ ap (λ xs. x ∷ xs)
    (filter_others name list parts.1)

-- after the head is granted the others wait
pub waits_next : (page : ℕ) (h : History) (build : Build) (more : List Build) → Distinct (builds page h) → waits page h ≡ build ∷ more
    → waits page (said h (answers.Granted build.name)) ≡ more
waits_next page h build more distinct e =
    let d : Distinct (build ∷ more) = subst Distinct e (distinct_filter (is_waiting h) (builds page h) distinct) in
    filter_same (is_waiting (said h (answers.Granted build.name))) (λ (x : Build). not (build.name == x.name) && is_waiting h x) (builds page h)
    (λ x. waits_but (is_unfinished h x.name) (is_shared x.plan) (build.name == x.name) (was_granted h x.name))
    ∙ filter_both (λ (x : Build). not (build.name == x.name)) (is_waiting h) (builds page h)
    ∙ ap (λ (xs : List Build). filter (λ (x : Build). not (build.name == x.name)) xs) e
    ∙ (λ i. cond (not (eq-eqb build.name build.name refl i)) (build ∷ filter (λ (x : Build). not (build.name == x.name)) more)
    (filter (λ (x : Build). not (build.name == x.name)) more))
    ∙ filter_others build.name more d.0

pub grants_done : (s : Session) (h : History) (list : List Build) → Distinct (builds (page_limit s) h) → waits (page_limit s) h ≡ list
    → grants s (said_all h (grants_of s h list)) ≡ []
grants_done s h [] distinct e = ap (λ (xs : List Build). grants_of s h xs) e
grants_done s h (build ∷ more) distinct e =
    go (nat_le (memory (page_limit s) h + own_bytes build.parts) s.limits.memory) refl
    (grants_done s (said h (answers.Granted build.name)) more distinct (waits_next (page_limit s) h build more distinct e))
  where
    go : (b : Bool) → nat_le (memory (page_limit s) h + own_bytes build.parts) s.limits.memory ≡ b
        → grants s (said_all (said h (answers.Granted build.name)) (grants_of s (said h (answers.Granted build.name)) more)) ≡ []
        → grants s (said_all h (if b then answers.Granted build.name ∷ grants_of s (said h (answers.Granted build.name)) more else [])) ≡ []
    go true at rest = rest
    go false at rest = ap (λ (xs : List Build). grants_of s h xs) e ∙
        (λ i. if at i then answers.Granted build.name ∷ grants_of s (said h (answers.Granted build.name)) more else [])

-- nothing is granted later either, while nothing but jobs came
pub head_waits : (s : Session) (h g : History) (list : List Build) → memory (page_limit s) g ≡ memory (page_limit s) h → grants_of s h list ≡ []
    → grants_of s g list ≡ []
head_waits s h g [] same e = refl
head_waits s h g (build ∷ more) same e = go (nat_le (memory (page_limit s) h + own_bytes build.parts) s.limits.memory) refl e
  where
    go : (b : Bool) → nat_le (memory (page_limit s) h + own_bytes build.parts) s.limits.memory ≡ b
        → (if b then answers.Granted build.name ∷ grants_of s (said h (answers.Granted build.name)) more else []) ≡ []
        → (if nat_le (memory (page_limit s) g + own_bytes build.parts) s.limits.memory then answers.Granted build.name
        ∷ grants_of s (said g (answers.Granted build.name)) more else []) ≡ []
    go true at f = cc
    go false at f =
        (λ i. if nat_le (same i + own_bytes build.parts) s.limits.memory then answers.Granted build.name ∷ grants_of s (said g (answers.Granted build.name))
        more else [])
        ∙ (λ i. if at i then answers.Granted build.name ∷ grants_of s (said g (answers.Granted build.name)) more else [])

pub grants_still : (s : Session) (h : History) (list : List Answer) → AllStill list → grants s h ≡ [] → grants s (said_all h list) ≡ []
grants_still s h list all e =
    ap (λ (xs : List Build). grants_of s (said_all h list) xs) (waits_still (page_limit s) h list all)
    ∙ head_waits s h (said_all h list) (waits (page_limit s) h) (memory_still (page_limit s) h list all) e

pub grants_late : (s : Session) (h : History) (list : List Build) → AllLate (grants_of s h list)
grants_late s h [] = tt
grants_late s h (build ∷ more) = go (nat_le (memory (page_limit s) h + own_bytes build.parts) s.limits.memory)
    (grants_late s (said h (answers.Granted build.name)) more)
  where
    go : (b : Bool) → AllLate (grants_of s (said h (answers.Granted build.name)) more)
        → AllLate (if b then answers.Granted build.name ∷ grants_of s (said h (answers.Granted build.name)) more else [])
    go true rest = (refl, rest)
    go false rest = tt

-- who was granted waited
pub granted_waited : (s : Session) (h : History) (list : List Build) (name : ℕ) → was_granted (said_all h (grants_of s h list)) name ≡ true
    → (was_granted h name ≡ true) ⊎ (named name list ≡ true)
granted_waited s h [] name e = inl e
granted_waited s h (build ∷ more) name e = go (nat_le (memory (page_limit s) h + own_bytes build.parts) s.limits.memory)
    (granted_waited s (said h (answers.Granted build.name)) more name) e
  where
    next : (was_granted (said h (answers.Granted build.name)) name ≡ true) ⊎ (named name more ≡ true) → (was_granted h name ≡ true)
        ⊎ (named name (build ∷ more) ≡ true)
    next (inl was) = ⊎_elim (λ (here : (build.name == name) ≡ true). inr (or_first (build.name == name) (named name more) here))
        (λ (before : was_granted h name ≡ true). inl before) (or_cases (build.name == name) (was_granted h name) was)
    next (inr later) = inr (or_second (build.name == name) (named name more) later)

    go : (b : Bool) → (was_granted (said_all (said h (answers.Granted build.name)) (grants_of s (said h (answers.Granted build.name)) more)) name ≡ true
        → (was_granted (said h (answers.Granted build.name)) name ≡ true) ⊎ (named name more ≡ true))
        → was_granted (said_all h (if b then answers.Granted build.name ∷ grants_of s (said h (answers.Granted build.name)) more else [])) name ≡ true
        → (was_granted h name ≡ true) ⊎ (named name (build ∷ more) ≡ true)
    go true rest f = next (rest f)
    go false rest f = inl f

-- ---- jobs

pub page_job_still : (h : History) (list : List ℕ) → AllStill (page_job_of h list)
page_job_still h [] = tt
page_job_still h (number ∷ numbers) = (refl, tt)

pub page_jobs_still : (s : Session) (h : History) → AllStill (page_jobs s h)
page_jobs_still s h = go (may_start h && nat_lt 0 (length (waits (page_limit s) h))) (page_job_still h (chosen s.limits h))
  where
    go : (b : Bool) → AllStill (page_job_of h (chosen s.limits h)) → AllStill (if b then page_job_of h (chosen s.limits h) else [])
    go true all = all
    go false all = tt

pub compactions_still : (s : Session) (h : History) → AllStill (compactions s h)
compactions_still s h = go (may_start h) (movable s h)
  where
    go : (b : Bool) (found : Option Page) → AllStill (if b then option_to_list (option_map (compaction s h) found) else [])
    go false found = tt
    go true None = tt
    go true (Some page) = (refl, tt)

-- after a job started none may start
cannot_start : (h : History) → is_none (in_flight h) ≡ false → may_start h ≡ false
cannot_start h e = go (paging h)
  where
    go : (b : Bool) → (b && is_none (in_flight h)) ≡ false
    go true = e
    go false = refl

pub jobs_none : (s : Session) (h : History) → is_none (in_flight h) ≡ false → (page_jobs s h ≡ []) × (compactions s h ≡ [])
jobs_none s h e =
    let no_start = cannot_start h e in (
      (λ i. if no_start i && nat_lt 0 (length (waits (page_limit s) h)) then page_job_of h (chosen s.limits h) else []),
      (λ i. if no_start i then option_to_list (option_map (compaction s h) (movable s h)) else []),
    )

page_job_flies : (h : History) (list : List ℕ) → (page_job_of h list ≡ []) ⊎ (is_none (in_flight (said_all h (page_job_of h list))) ≡ false)
page_job_flies h [] = inl refl
page_job_flies h (number ∷ numbers) = inr refl

pub page_jobs_fly : (s : Session) (h : History) → (page_jobs s h ≡ []) ⊎ (is_none (in_flight (said_all h (page_jobs s h))) ≡ false)
page_jobs_fly s h = go (may_start h && nat_lt 0 (length (waits (page_limit s) h))) (page_job_flies h (chosen s.limits h))
  where
    go : (b : Bool) → (page_job_of h (chosen s.limits h) ≡ []) ⊎ (is_none (in_flight (said_all h (page_job_of h (chosen s.limits h)))) ≡ false)
        → ((if b then page_job_of h (chosen s.limits h) else []) ≡ [])
        ⊎ (is_none (in_flight (said_all h (if b then page_job_of h (chosen s.limits h) else []))) ≡ false)
    go true one = one
    go false one = inl refl

pub compactions_fly : (s : Session) (h : History) → (compactions s h ≡ []) ⊎ (is_none (in_flight (said_all h (compactions s h))) ≡ false)
compactions_fly s h = go (may_start h) (movable s h)
  where
    go : (b : Bool) (found : Option Page) → ((if b then option_to_list (option_map (compaction s h) found) else []) ≡ [])
        ⊎ (is_none (in_flight (said_all h (if b then option_to_list (option_map (compaction s h) found) else []))) ≡ false)
    go false found = inl refl
    go true None = inl refl
    go true (Some page) = inr refl

-- after both steps no job is owed
pub jobs_done : (s : Session) (h : History)
    → (page_jobs s (said_all (said_all h (page_jobs s h)) (compactions s (said_all h (page_jobs s h)))) ≡ [])
    × (compactions s (said_all (said_all h (page_jobs s h)) (compactions s (said_all h (page_jobs s h)))) ≡ [])
jobs_done s h = ⊎_elim idle started (page_jobs_fly s h)
  where
    started : is_none (in_flight (said_all h (page_jobs s h))) ≡ false
        → (page_jobs s (said_all (said_all h (page_jobs s h)) (compactions s (said_all h (page_jobs s h)))) ≡ [])
        × (compactions s (said_all (said_all h (page_jobs s h)) (compactions s (said_all h (page_jobs s h)))) ≡ [])
    started flies =
        let none = jobs_none s (said_all h (page_jobs s h)) flies in
        subst (λ (xs : List Answer). (page_jobs s (said_all (said_all h (page_jobs s h)) xs) ≡ [])
        × (compactions s (said_all (said_all h (page_jobs s h)) xs) ≡ [])) (sym none.1) none

    idle : page_jobs s h ≡ []
        → (page_jobs s (said_all (said_all h (page_jobs s h)) (compactions s (said_all h (page_jobs s h)))) ≡ [])
        × (compactions s (said_all (said_all h (page_jobs s h)) (compactions s (said_all h (page_jobs s h)))) ≡ [])
    idle none =
        subst (λ (xs : List Answer). (page_jobs s (said_all (said_all h xs) (compactions s (said_all h xs))) ≡ [])
        × (compactions s (said_all (said_all h xs) (compactions s (said_all h xs))) ≡ [])) (sym none)
        (⊎_elim
        (λ (e : compactions s h ≡ []). subst (λ (xs : List Answer). (page_jobs s (said_all h xs) ≡ []) × (compactions s (said_all h xs) ≡ [])) (sym e)
        (none, e))
        (λ (flies : is_none (in_flight (said_all h (compactions s h))) ≡ false). jobs_none s (said_all h (compactions s h)) flies)
        (compactions_fly s h))
