-- The pass over the blobs leaves no ending owed, also after what is settled behind it.
use Rattle.std.proofs.Common.{◌≡◌, ◌⊎◌, ℕ, ◌==◌, Bool, true, false, ◌||◌, List, [], ◌∷◌, ◌++◌, map, refl, ap, subst, sym, ◌∙◌, inl, inr, Option, Some, None}
use Rattle.std.specs.Prelude.{cond, filter, is_none, is_some, if◌then◌else◌}
use Rattle.std.specs.Option.{option_map_or, option_to_list}
use Rattle.std.specs.List.{AllByRecursion}
use Rattle.std.proofs.lemmas.Bool.{and_parts, or_parts, eqb-true}
use Rattle.answer_text.specs.declared.answer.Answer.{Answer}
use Rattle.blob_words.specs.declared.status.Status.{Status}
use Rattle.blob_words.specs.declared.status.Status.TheVariants as statuses
use Rattle.blob_model.specs.Session.{Session}
use Rattle.blob_model.specs.History.{History, said, said_all}
use Rattle.blob_model.specs.Builds.{Build}
use Rattle.blob_model.specs.Standing.{ended, is_unfinished, is_broken, is_broken_status, is_done, is_done_status, was_granted, is_granted, grants_at_once}
use Rattle.blob_model.specs.Transport.{has_all}
use Rattle.blob_model.specs.Live.{has_source}
use Rattle.blob_model.specs.Settle.{ending, ending_answers, endings_of}
use Rattle.blob_model.proofs.Lists.{false_true, for_each}
use Rattle.blob_model.proofs.live.Least.{named}
use Rattle.blob_model.proofs.builds.Order.{AreOrdered, not_later}
use Rattle.blob_model.proofs.live.Agreement.{said_append, unfinished_all, drops_test, dropping}
use Rattle.blob_model.proofs.settled.Endings.{AllQuiet, has_all_said, ending_later, ending_ends, ending_only, ending_quiet, ending_grants, one_by}

-- ---- what the pass leaves alone

pub quiet_append : (xs ys : List Answer) → AllQuiet xs → AllQuiet ys → AllQuiet (xs ++ ys)
quiet_append [] ys p q = q
quiet_append (x ∷ xs) ys p q = (p.0, quiet_append xs ys p.1 q)

pass_other : (s : Session) (g : History) (list : List Build) (name : ℕ) → named name list ≡ false → ended (said_all g (endings_of s g list)) name ≡ ended g name
pass_other s g [] name other = refl
pass_other s g (build ∷ list) name other =
    let parts = or_parts (build.name == name) (named name list) other in
    let here : ended (said_all g (ending_answers s g build)) name ≡ ended g name =
    one_by s g build (λ (xs : List Answer). ended (said_all g xs) name ≡ ended g name) refl (λ answer e. ending_only s g build answer name e parts.0) in
    ap (λ (h : History). ended h name) (said_append g (ending_answers s g build) (endings_of s (said_all g (ending_answers s g build)) list))
    ∙ pass_other s (said_all g (ending_answers s g build)) list name parts.1 ∙ here

pass_quiet : (s : Session) (g : History) (list : List Build) → AllQuiet (endings_of s g list)
pass_quiet s g [] = tt
pass_quiet s g (build ∷ list) =
    quiet_append (ending_answers s g build) (endings_of s (said_all g (ending_answers s g build)) list)
    (one_by s g build AllQuiet tt (λ answer e. (ending_quiet s g build answer e, tt))) (pass_quiet s (said_all g (ending_answers s g build)) list)

pub pass_grants : (s : Session) (g : History) (list : List Build) (name : ℕ) → was_granted (said_all g (endings_of s g list)) name ≡ was_granted g name
pass_grants s g [] name = refl
pass_grants s g (build ∷ list) name =
    let here : was_granted (said_all g (ending_answers s g build)) name ≡ was_granted g name =
    one_by s g build (λ (xs : List Answer). was_granted (said_all g xs) name ≡ was_granted g name) refl (λ answer e. ending_grants s g build answer name e) in
    ap (λ (h : History). was_granted h name) (said_append g (ending_answers s g build) (endings_of s (said_all g (ending_answers s g build)) list))
    ∙ pass_grants s (said_all g (ending_answers s g build)) list name ∙ here

-- ---- the pass itself

-- what came behind the pass: nothing that stores, no blob that breaks or gets done, and room only for blobs that miss a segment
pub record Behind (s : Session) (e : History) (more : List Answer) (list : List Build) : Type 0 where
  pub quiet : AllQuiet more
  pub broken : (name : ℕ) → is_broken (said_all e more) name ≡ is_broken e name
  pub done : (name : ℕ) → is_done (said_all e more) name ≡ is_done e name
  pub room : AllByRecursion (λ (build : Build). is_unfinished e build.name ≡ true → is_granted (said_all e more) build ≡ true → is_granted e build ≡ false
      → has_all s.limits e build ≡ false) list

pass_one : (s : Session) (g : History) (earlier : List Build) (build : Build) (list : List Build) (more : List Answer) → AreOrdered earlier (build ∷ list)
    → (is_some build.plan ≡ false → is_unfinished g build.name ≡ false) → Behind s (said_all g (endings_of s g (build ∷ list))) more (build ∷ list)
    → ending_answers s (said_all (said_all g (endings_of s g (build ∷ list))) more) build ≡ []
pass_one s g earlier build list more ordered broke behind =
    go (is_unfinished (said_all (said_all g (endings_of s g (build ∷ list))) more) build.name) refl
  where
    whole : said_all g (endings_of s g (build ∷ list) ++ more) ≡ said_all (said_all g (endings_of s g (build ∷ list))) more
    whole = said_append g (endings_of s g (build ∷ list)) more

    planned : is_unfinished g build.name ≡ true → is_some build.plan ≡ true
    planned e = pick (is_some build.plan) refl
      where
        pick : (b : Bool) → is_some build.plan ≡ b → b ≡ true
        pick true at = refl
        pick false at = absurd (false_true (sym (broke at) ∙ e))

    none : is_unfinished (said_all (said_all g (endings_of s g (build ∷ list))) more) build.name ≡ true → ending s g build ≡ None
    none still = look (ending s g build) refl
      where
        begun : is_unfinished g build.name ≡ true
        begun = unfinished_all g (endings_of s g (build ∷ list)) build.name (unfinished_all (said_all g (endings_of s g (build ∷ list))) more build.name still)

        look : (found : Option Answer) → ending s g build ≡ found → found ≡ None
        look None e = refl
        look (Some answer) e =
            let list_is : ending_answers s g build ≡ answer ∷ [] = (λ i. cond (begun i) (option_to_list (e i)) []) in
            let next : said_all g (endings_of s g (build ∷ list)) ≡ said_all (said_all g (ending_answers s g build))
            (endings_of s (said_all g (ending_answers s g build)) list) =
            said_append g (ending_answers s g build) (endings_of s (said_all g (ending_answers s g build)) list) in
            let later : is_unfinished (said_all (said_all g (ending_answers s g build)) (endings_of s (said_all g (ending_answers s g build)) list)) build.name
            ≡ true =
            subst (λ (h : History). is_unfinished h build.name ≡ true) next (unfinished_all (said_all g (endings_of s g (build ∷ list))) more build.name still)
            in
            let here : is_unfinished (said_all g (ending_answers s g build)) build.name ≡ true =
            unfinished_all (said_all g (ending_answers s g build)) (endings_of s (said_all g (ending_answers s g build)) list) build.name later in
            let first : is_unfinished (said g answer) build.name ≡ true = subst (λ (xs : List Answer). is_unfinished (said_all g xs) build.name ≡ true) list_is
            here in
            absurd (false_true (sym (ending_ends s g build answer e) ∙ first))

    go : (b : Bool) → is_unfinished (said_all (said_all g (endings_of s g (build ∷ list))) more) build.name ≡ b
        → (if b then option_to_list (ending s (said_all (said_all g (endings_of s g (build ∷ list))) more) build) else []) ≡ []
    go false e = refl
    go true e =
        let begun : is_unfinished g build.name ≡ true = unfinished_all g (endings_of s g (build ∷ list)) build.name
        (unfinished_all (said_all g (endings_of s g (build ∷ list))) more build.name e) in
        let passed : is_unfinished (said_all g (endings_of s g (build ∷ list))) build.name ≡ true = unfinished_all (said_all g (endings_of s g (build ∷ list)))
        more build.name e in
        let alone : (source : ℕ) → has_source build source ≡ true → ended (said_all g (endings_of s g (build ∷ list))) source ≡ ended g source =
        λ source has. pass_other s g (build ∷ list) source (not_later source earlier (build ∷ list) ordered (ordered.1 source (planned begun) has)) in
        let later : ending s (said_all g (endings_of s g (build ∷ list) ++ more)) build ≡ None =
        ending_later s g (endings_of s g (build ∷ list) ++ more) build
        (quiet_append (endings_of s g (build ∷ list)) more (pass_quiet s g (build ∷ list)) behind.quiet) (none e)
        (λ source has. (
          ap (λ (h : History). is_broken h source) whole ∙ behind.broken source ∙ ap (λ (o : Option Status). option_map_or is_broken_status o false)
              (alone source has),
          ap (λ (h : History). is_done h source) whole ∙ behind.done source ∙ ap (λ (o : Option Status). option_map_or is_done_status o false)
              (alone source has),
        ))
        (λ granted not_yet.
        let now : is_granted (said_all (said_all g (endings_of s g (build ∷ list))) more) build ≡ true = subst (λ (h : History). is_granted h build ≡ true)
        whole granted in
        let before : is_granted (said_all g (endings_of s g (build ∷ list))) build ≡ false =
        ap (λ (b : Bool). option_map_or grants_at_once build.plan false || b) (pass_grants s g (build ∷ list) build.name) ∙ not_yet in
        sym (has_all_said s g (endings_of s g (build ∷ list)) build) ∙ behind.room.0 passed now before) in
        ap (λ (o : Option Answer). option_to_list o) (subst (λ (h : History). ending s h build ≡ None) whole later)

pub pass_over : (s : Session) (g : History) (earlier list : List Build) (more : List Answer) → AreOrdered earlier list
    → AllByRecursion (λ (build : Build). is_some build.plan ≡ false → is_unfinished g build.name ≡ false) list
    → Behind s (said_all g (endings_of s g list)) more list → AllByRecursion
    (λ (build : Build). ending_answers s (said_all (said_all g (endings_of s g list)) more) build ≡ []) list
pass_over s g earlier [] more ordered broke behind = tt
pass_over s g earlier (build ∷ list) more ordered broke behind =
    let next : said_all g (endings_of s g (build ∷ list)) ≡ said_all (said_all g (ending_answers s g build))
    (endings_of s (said_all g (ending_answers s g build)) list) =
    said_append g (ending_answers s g build) (endings_of s (said_all g (ending_answers s g build)) list) in
    let rest : Behind s (said_all (said_all g (ending_answers s g build)) (endings_of s (said_all g (ending_answers s g build)) list)) more list =
    subst (λ (h : History). Behind s h more list) next (record { quiet = behind.quiet; broken = behind.broken; done = behind.done; room = behind.room.1 }) in
    let still : AllByRecursion (λ (each : Build). is_some each.plan ≡ false → is_unfinished (said_all g (ending_answers s g build)) each.name ≡ false) list =
    for_each (λ (each : Build). is_some each.plan ≡ false → is_unfinished g each.name ≡ false)
    (λ (each : Build). is_some each.plan ≡ false → is_unfinished (said_all g (ending_answers s g build)) each.name ≡ false)
    list (λ each was none. over (is_unfinished (said_all g (ending_answers s g build)) each.name) (is_unfinished g each.name) (was none)
    (unfinished_all g (ending_answers s g build) each.name)) broke.1 in
    let tail = pass_over s (said_all g (ending_answers s g build)) (earlier ++ build ∷ []) list more ordered.2 still rest in (
      pass_one s g earlier build list more ordered broke.0 behind,
      subst (λ (h : History). AllByRecursion (λ (each : Build). ending_answers s (said_all h more) each ≡ []) list) (sym next) tail,
    )
  where
    over : (b c : Bool) → c ≡ false → (b ≡ true → c ≡ true) → b ≡ false
    over true c e f = absurd (false_true (sym e ∙ f refl))
    over false c e f = refl

-- where no blob is owed an ending the pass says nothing
pub pass_empty : (s : Session) (h : History) (list : List Build) → AllByRecursion (λ (build : Build). ending_answers s h build ≡ []) list → endings_of s h list
    ≡ []
pass_empty s h [] all = refl
pass_empty s h (build ∷ list) all =
    ap (λ (xs : List Answer). xs ++ endings_of s (said_all h xs) list) all.0 ∙ pass_empty s h list all.1

-- ---- drops break nothing and get nothing done

-- how a blob stands after drops of blobs that were unfinished at first: as at first, or dropped
abbrev AsDropped : History → History → ℕ → Type 0
AsDropped h g name = (ended g name ≡ ended h name) ⊎ ((ended h name ≡ None) × (ended g name ≡ Some statuses.Dereferenced))

is_none_none : {X : Type 0} (o : Option X) → is_none o ≡ true → o ≡ None
is_none_none None e = refl
is_none_none (Some x) e = absurd (false_true e)

dropped_as : (s : Session) (h g : History) (list : List Build) (name : ℕ) → AsDropped h g name
    → AsDropped h (said_all g (map dropping (filter (drops_test s h) list))) name
dropped_as s h g [] name as' = as'
dropped_as s h g (build ∷ list) name as' = go (drops_test s h build) refl (λ next. dropped_as s h next list name)
  where
    one : (c : Bool) → (build.name == name) ≡ c → is_unfinished h build.name ≡ true → (cond c (Some statuses.Dereferenced) (ended g name) ≡ ended h name)
        ⊎ ((ended h name ≡ None) × (cond c (Some statuses.Dereferenced) (ended g name) ≡ Some statuses.Dereferenced))
    one false at begun = as'
    one true at begun =
        let same : build.name ≡ name = eqb-true build.name name at in
        let none : is_unfinished h name ≡ true = subst (λ (n : ℕ). is_unfinished h n ≡ true) same begun in
        inr (is_none_none (ended h name) none, refl)

    go : (b : Bool) → drops_test s h build ≡ b → ((next : History) → AsDropped h next name
        → AsDropped h (said_all next (map dropping (filter (drops_test s h) list))) name)
        → AsDropped h (said_all g (map dropping (cond b (build ∷ filter (drops_test s h) list) (filter (drops_test s h) list)))) name
    go false e rest = rest g as'
    go true e rest = rest (said g (dropping build)) (one (build.name == name) refl (and_parts (is_unfinished h build.name) _ e).0)

as_broken : (h g : History) (name : ℕ) → AsDropped h g name → is_broken g name ≡ is_broken h name
as_broken h g name (inl same) = ap (λ (o : Option Status). option_map_or is_broken_status o false) same
as_broken h g name (inr (none, dropped)) = rw (none, dropped) refl

as_done : (h g : History) (name : ℕ) → AsDropped h g name → is_done g name ≡ is_done h name
as_done h g name (inl same) = ap (λ (o : Option Status). option_map_or is_done_status o false) same
as_done h g name (inr (none, dropped)) = rw (none, dropped) refl

pub drops_break : (s : Session) (h : History) (list : List Build) (name : ℕ) → is_broken (said_all h (map dropping (filter (drops_test s h) list))) name
    ≡ is_broken h name
drops_break s h list name = as_broken h (said_all h (map dropping (filter (drops_test s h) list))) name (dropped_as s h h list name (inl refl))

pub drops_do : (s : Session) (h : History) (list : List Build) (name : ℕ) → is_done (said_all h (map dropping (filter (drops_test s h) list))) name
    ≡ is_done h name
drops_do s h list name = as_done h (said_all h (map dropping (filter (drops_test s h) list))) name (dropped_as s h h list name (inl refl))
