-- Histories that agree on some notions agree on what is made of them.
use Rattle.std.proofs.Common.{◌≡◌, ℕ, ◌==◌, Bool, true, false, ◌&&◌, ◌||◌, not, List, [], ◌∷◌, ◌++◌, map, reverse, refl, ap, subst, sym, ◌∙◌, Option, Some}
use Rattle.std.specs.Prelude.{cond, filter, is_none}
use Rattle.std.specs.List.{AllByRecursion}
use Rattle.std.proofs.lemmas.Bool.{and_parts, eqb-true, eq-eqb}
use Rattle.answer_text.specs.declared.answer.Answer.{Answer}
use Rattle.answer_text.specs.declared.answer.Answer.TheVariants as answers
use Rattle.blob_words.specs.declared.status.Status.{Status}
use Rattle.blob_words.specs.declared.status.Status.TheVariants as statuses
use Rattle.blob_model.specs.Session.{Session, page_limit}
use Rattle.blob_model.specs.History.{History, said, said_all}
use Rattle.blob_model.specs.Builds.{Build, builds}
use Rattle.blob_model.specs.Standing.{ended, is_unfinished}
use Rattle.blob_model.specs.Live.{is_rooted, has_source, is_needed, live_from, live, is_live}
use Rattle.blob_model.specs.Settle.{drops}
use Rattle.blob_model.proofs.Lists.{false_true, filter_none, or_first, or_second}
use Rattle.blob_model.proofs.live.Least.{named, later_live}
use Rattle.blob_model.proofs.kept.Kept.{unfinished_said}

-- ---- further answers

pub said_append : (h : History) (xs ys : List Answer) → said_all h (xs ++ ys) ≡ said_all (said_all h xs) ys
said_append h [] ys = refl
said_append h (x ∷ xs) ys = said_append (said h x) xs ys

-- a notion that no further answer of a kind changes
pub kept_by_kind : {X : Type 0} (notion : History → X) (kind : Answer → Bool)
    → ((h : History) (answer : Answer) → kind answer ≡ true → notion (said h answer) ≡ notion h)
    → (h : History) (list : List Answer) → AllByRecursion (λ (answer : Answer). kind answer ≡ true) list → notion (said_all h list) ≡ notion h
kept_by_kind notion kind keeps h [] all = refl
kept_by_kind notion kind keeps h (answer ∷ list) all = kept_by_kind notion kind keeps (said h answer) list all.1 ∙ keeps h answer all.0

pub kept_by_all : {X : Type 0} (notion : History → X) → ((h : History) (answer : Answer) → notion (said h answer) ≡ notion h)
    → (h : History) (list : List Answer) → notion (said_all h list) ≡ notion h
kept_by_all notion keeps h [] = refl
kept_by_all notion keeps h (answer ∷ list) = kept_by_all notion keeps (said h answer) list ∙ keeps h answer

pub rooted_said : (page : ℕ) (h : History) (list : List Answer) (name : ℕ) → is_rooted page (said_all h list) name ≡ is_rooted page h name
rooted_said page h list name = kept_by_all (λ (g : History). is_rooted page g name) (λ g answer. refl) h list

pub unfinished_all : (h : History) (list : List Answer) (name : ℕ) → is_unfinished (said_all h list) name ≡ true → is_unfinished h name ≡ true
unfinished_all h [] name e = e
unfinished_all h (answer ∷ list) name e = unfinished_said h answer name (unfinished_all (said h answer) list name e)

-- ---- liveness

needed_same : (h g : History) (list : List Build) (name : ℕ) → ((other : ℕ) → named other list ≡ true → is_unfinished g other ≡ is_unfinished h other)
    → is_needed g list name ≡ is_needed h list name
needed_same h g [] name same = refl
needed_same h g (build ∷ list) name same =
    let head : is_unfinished g build.name ≡ is_unfinished h build.name =
    same build.name (or_first (build.name == build.name) (named build.name list) (self build.name)) in
    let tail : is_needed g list name ≡ is_needed h list name = needed_same h g list name
    (λ other member. same other (or_second (build.name == other) (named other list) member)) in
    λ i. (head i && has_source build name) || tail i
  where
    self : (n : ℕ) → (n == n) ≡ true
    self n = eq-eqb n n refl

pub live_same : (page : ℕ) (h g : History) (earlier later : List Build) → ((name : ℕ) → is_rooted page g name ≡ is_rooted page h name)
    → ((name : ℕ) → named name (live_from page h earlier later) ≡ true → is_unfinished g name ≡ is_unfinished h name) → live_from page g earlier later
    ≡ live_from page h earlier later
live_same page h g [] later roots same = refl
live_same page h g (build ∷ earlier) later roots same =
    let needed : is_needed g later build.name ≡ is_needed h later build.name =
    needed_same h g later build.name (λ name member. same name (later_live page h name (build ∷ earlier) later member)) in
    let test : (is_rooted page g build.name || is_needed g later build.name) ≡ (is_rooted page h build.name || is_needed h later build.name) =
    λ i. roots build.name i || needed i in
    ap (λ (b : Bool). live_from page g earlier (cond b (build ∷ later) later)) test
    ∙ live_same page h g earlier (cond (is_rooted page h build.name || is_needed h later build.name) (build ∷ later) later) roots same

-- two histories with the same blobs and roots, where live blobs are unfinished in both or in none
pub live_alike : (page : ℕ) (h g : History) → builds page g ≡ builds page h → ((name : ℕ) → is_rooted page g name ≡ is_rooted page h name)
    → ((name : ℕ) → is_live page h name ≡ true → is_unfinished g name ≡ is_unfinished h name) → live page g ≡ live page h
live_alike page h g blobs roots same =
    ap (λ (list : List Build). live_from page g (reverse list) []) blobs ∙ live_same page h g (reverse (builds page h)) [] roots same

-- ---- drops are done once

abbrev pub drops_test : Session → History → Build → Bool
drops_test s h build = is_unfinished h build.name && not (is_live (page_limit s) h build.name)

abbrev pub dropping : Build → Answer
dropping build = answers.Dropped build.name

dropped_live : (s : Session) (h g : History) (list : List Build) (name : ℕ) → is_live (page_limit s) h name ≡ true
    → ended (said_all g (map dropping (filter (drops_test s h) list))) name ≡ ended g name
dropped_live s h g [] name lives = refl
dropped_live s h g (build ∷ list) name lives = go (drops_test s h build) refl (λ next. dropped_live s h next list name lives)
  where
    other : drops_test s h build ≡ true → (build.name == name) ≡ false
    other drops = pick (build.name == name) refl
      where
        pick : (b : Bool) → (build.name == name) ≡ b → b ≡ false
        pick false e = refl
        pick true e =
            let same : build.name ≡ name = eqb-true build.name name e in
            let dead : not (is_live (page_limit s) h build.name) ≡ true =
            (and_parts (is_unfinished h build.name) (not (is_live (page_limit s) h build.name)) drops).1 in
            let alive : is_live (page_limit s) h build.name ≡ true = subst (λ (n : ℕ). is_live (page_limit s) h n ≡ true) (sym same) lives in
            absurd (false_true (subst (λ (b : Bool). not b ≡ true) alive dead))

    go : (b : Bool) → drops_test s h build ≡ b → ((next : History) → ended (said_all next (map dropping (filter (drops_test s h) list))) name ≡ ended next name)
        → ended (said_all g (map dropping (cond b (build ∷ filter (drops_test s h) list) (filter (drops_test s h) list)))) name ≡ ended g name
    go false e rest = rest g
    go true e rest = rest (said g (dropping build)) ∙ ap (λ (b : Bool). cond b (Some statuses.Dereferenced) (ended g name)) (other e)

-- each of them has ended
dropped_ended : (s : Session) (h g : History) (list : List Build)
    → AllByRecursion (λ (build : Build). drops_test s h build ≡ true → is_unfinished (said_all g (map dropping (filter (drops_test s h) list))) build.name
    ≡ false) list
dropped_ended s h g [] = tt
dropped_ended s h g (build ∷ list) = go (drops_test s h build) refl (λ next. dropped_ended s h next list)
  where
    over : (b : Bool) → (b ≡ true → false ≡ true) → b ≡ false
    over true f = absurd (false_true (f refl))
    over false f = refl

    go : (b : Bool) → drops_test s h build ≡ b
        → ((next : History) → AllByRecursion (λ (each : Build). drops_test s h each ≡ true
        → is_unfinished (said_all next (map dropping (filter (drops_test s h) list))) each.name ≡ false) list)
        → (b ≡ true → is_unfinished (said_all g (map dropping (cond b (build ∷ filter (drops_test s h) list) (filter (drops_test s h) list)))) build.name
        ≡ false)
        × AllByRecursion (λ (each : Build). drops_test s h each ≡ true
        → is_unfinished (said_all g (map dropping (cond b (build ∷ filter (drops_test s h) list) (filter (drops_test s h) list)))) each.name ≡ false) list
    go false e rest = ((λ f. absurd (false_true f)), rest g)
    go true e rest = (
      (λ f.
          let first : is_unfinished (said g (dropping build)) build.name ≡ false = rw (eq-eqb build.name build.name refl) refl in
          over (is_unfinished (said_all (said g (dropping build)) (map dropping (filter (drops_test s h) list))) build.name)
          (λ still. sym first ∙ unfinished_all (said g (dropping build)) (map dropping (filter (drops_test s h) list)) build.name still)),
      rest (said g (dropping build)),
    )

pub builds_all : (page : ℕ) (h : History) (list : List Answer) → builds page (said_all h list) ≡ builds page h
builds_all page h list = kept_by_all (builds page) (λ g answer. refl) h list

pub drops_done : (s : Session) (h : History) → drops s (said_all h (drops s h)) ≡ []
drops_done s h =
    let after = said_all h (drops s h) in
    let blobs : builds (page_limit s) (said_all h (drops s h)) ≡ builds (page_limit s) h = builds_all (page_limit s) h (drops s h) in
    let lives : live (page_limit s) (said_all h (drops s h)) ≡ live (page_limit s) h =
    live_alike (page_limit s) h (said_all h (drops s h)) blobs (rooted_said (page_limit s) h (drops s h))
    (λ name alive. ap (λ (o : Option Status). is_none o) (dropped_live s h h (reverse (builds (page_limit s) h)) name alive)) in
    let none : filter (drops_test s (said_all h (drops s h))) (reverse (builds (page_limit s) h)) ≡ [] =
    filter_none (drops_test s (said_all h (drops s h))) (reverse (builds (page_limit s) h))
    (each (reverse (builds (page_limit s) h)) (λ name. ap (λ (list : List Build). named name list) lives)
    (dropped_ended s h h (reverse (builds (page_limit s) h)))) in
    ap (λ (list : List Build). map dropping (filter (drops_test s (said_all h (drops s h))) (reverse list))) blobs ∙ ap
    (λ (list : List Build). map dropping list) none
  where
    one : (build : Build) → is_live (page_limit s) (said_all h (drops s h)) build.name ≡ is_live (page_limit s) h build.name
        → (drops_test s h build ≡ true → is_unfinished (said_all h (drops s h)) build.name ≡ false) → drops_test s (said_all h (drops s h)) build ≡ false
    one build lives gone = go (is_live (page_limit s) h build.name) refl (is_unfinished (said_all h (drops s h)) build.name) refl
      where
        go : (a : Bool) → is_live (page_limit s) h build.name ≡ a → (u : Bool) → is_unfinished (said_all h (drops s h)) build.name ≡ u
            → (u && not (is_live (page_limit s) (said_all h (drops s h)) build.name)) ≡ false
        go a e false f = refl
        go true e true f = rw (lives, e) refl
        go false e true f =
            let before : is_unfinished h build.name ≡ true = unfinished_all h (drops s h) build.name f in
            let drops : drops_test s h build ≡ true = rw (before, e) refl in
            absurd (false_true (sym (gone drops) ∙ f))

    each : (list : List Build) → ((name : ℕ) → is_live (page_limit s) (said_all h (drops s h)) name ≡ is_live (page_limit s) h name)
        → AllByRecursion (λ (build : Build). drops_test s h build ≡ true → is_unfinished (said_all h (drops s h)) build.name ≡ false) list
        → AllByRecursion (λ (build : Build). drops_test s (said_all h (drops s h)) build ≡ false) list
    each [] lives all = tt
    each (build ∷ list) lives all = (one build (lives build.name) all.0, each list lives all.1)
