-- The live blobs are the blobs of live names, in order of build.
use Rattle.std.proofs.Common.{◌≡◌, ℕ, ◌==◌, Bool, true, false, ◌||◌, List, [], ◌∷◌, ◌++◌, reverse, refl, ap, subst, sym, ◌∙◌, append_assoc, append-nil}
use Rattle.std.specs.Prelude.{cond, filter}
use Rattle.std.specs.List.{AllByRecursion}
use Rattle.std.proofs.lemmas.Bool.{or_parts, or_from, eq-eqb, eqb-false, ne_eqb}
use Rattle.std.proofs.lemmas.List.{reverse-append, reverse-reverse}
use Rattle.std.proofs.lemmas.List.Folds.{list_any-append}
use Rattle.blob_model.specs.History.{History}
use Rattle.blob_model.specs.Builds.{Build, builds}
use Rattle.blob_model.specs.Live.{is_rooted, is_needed, live_from, live, is_live}
use Rattle.blob_model.specs.Order.{named, Distinct}
use Rattle.blob_model.proofs.Lists.{any_reverse, false_true, or_first}
use Rattle.blob_model.proofs.live.Least.{later_live}

-- ---- names

-- each of these blobs has a name that none of the others has
abbrev AreFresh : List Build → List Build → Type 0
AreFresh list others = AllByRecursion (λ (build : Build). named build.name others ≡ false) list

not_turned : (a b : ℕ) → (a == b) ≡ false → (b == a) ≡ false
not_turned a b e = ne_eqb b a (λ same. eqb-false a b e (sym same))

fresh_more : (list others : List Build) (build : Build) → named build.name list ≡ false → AreFresh list others → AreFresh list (build ∷ others)
fresh_more [] others build e fresh = tt
fresh_more (x ∷ list) others build e fresh =
    let parts = or_parts (x.name == build.name) (named build.name list) e in
    (or_from (build.name == x.name) (named x.name others) (not_turned x.name build.name parts.0) fresh.0, fresh_more list others build parts.1 fresh.1)

fresh_nil : (list : List Build) → AreFresh list []
fresh_nil [] = tt
fresh_nil (build ∷ list) = (refl, fresh_nil list)

distinct_more : (list : List Build) (build : Build) → Distinct list → named build.name list ≡ false → Distinct (list ++ build ∷ [])
distinct_more [] build distinct e = (refl, tt)
distinct_more (x ∷ list) build distinct e =
    let parts = or_parts (x.name == build.name) (named build.name list) e in (
      list_any-append (λ (each : Build). each.name == x.name) list (build ∷ []) ∙ or_from (named x.name list) ((build.name == x.name) || false) distinct.0
          (or_from (build.name == x.name) false (not_turned x.name build.name parts.0) refl),
      distinct_more list build distinct.1 parts.1,
    )

not_in_reverse : (name : ℕ) (list : List Build) → named name list ≡ false → named name (reverse list) ≡ false
not_in_reverse name list e = go (named name (reverse list)) refl
  where
    go : (b : Bool) → named name (reverse list) ≡ b → b ≡ false
    go false at = refl
    go true at =
        absurd
        (false_true (sym e ∙ subst (λ (xs : List Build). named name xs ≡ true) (reverse-reverse list)
        (any_reverse (λ (each : Build). each.name == name) (reverse list) at)))

pub distinct_reverse : (list : List Build) → Distinct list → Distinct (reverse list)
distinct_reverse [] distinct = tt
distinct_reverse (build ∷ list) distinct =
    subst Distinct (sym (reverse-append (build ∷ []) list)) (distinct_more (reverse list) build (distinct_reverse list distinct.1)
    (not_in_reverse build.name list distinct.0))

-- ---- the live ones

-- a live name is an earlier one or a later one
live_names : (page : ℕ) (h : History) (name : ℕ) (list later : List Build) → named name list ≡ false → named name later ≡ false
    → named name (live_from page h list later) ≡ false
live_names page h name [] later e f = f
live_names page h name (build ∷ list) later e f =
    let parts = or_parts (build.name == name) (named name list) e in
    go (is_rooted page h build.name || is_needed h later build.name) parts.0 (λ next. live_names page h name list next parts.1)
  where
    go : (b : Bool) → (build.name == name) ≡ false → ((next : List Build) → named name next ≡ false → named name (live_from page h list next) ≡ false)
        → named name (live_from page h list (cond b (build ∷ later) later)) ≡ false
    go true head rest = rest (build ∷ later) (or_from (build.name == name) (named name later) head f)
    go false head rest = rest later f

filter_last : (test : Build → Bool) (list : List Build) (build : Build) → filter test (list ++ build ∷ []) ≡ filter test list ++ cond (test build) (build ∷ [])
    []
filter_last test [] build = refl
filter_last test (x ∷ list) build = go (test x) (filter_last test list build)
  where
    go : (b : Bool) → filter test (list ++ build ∷ []) ≡ filter test list ++ cond (test build) (build ∷ []) []
        → cond b (x ∷ filter test (list ++ build ∷ [])) (filter test (list ++ build ∷ [])) ≡ cond b (x ∷ filter test list) (filter test list)
        ++ cond (test build) (build ∷ []) []
    go true rest = ap (λ (xs : List Build). x ∷ xs) rest
    go false rest = rest

-- whether a blob of this name is among those that live in the end
abbrev ends_live : ℕ → History → List Build → List Build → Build → Bool
ends_live page h list later build = named build.name (live_from page h list later)

live_parts : (page : ℕ) (h : History) (list later : List Build) → Distinct list → AreFresh list later → live_from page h list later
    ≡ filter (ends_live page h list later) (reverse list) ++ later
live_parts page h [] later distinct fresh = refl
live_parts page h (build ∷ list) later distinct fresh =
    go (is_rooted page h build.name || is_needed h later build.name) (λ next f. live_parts page h list next distinct.1 f)
  where
    last : (test : Build → Bool) → filter test (reverse (build ∷ list)) ≡ filter test (reverse list) ++ cond (test build) (build ∷ []) []
    last test = ap (filter test) (reverse-append (build ∷ []) list) ∙ filter_last test (reverse list) build

    go : (b : Bool) → ((next : List Build) → AreFresh list next → live_from page h list next ≡ filter (ends_live page h list next) (reverse list) ++ next)
        → live_from page h list (cond b (build ∷ later) later) ≡ filter (ends_live page h list (cond b (build ∷ later) later)) (reverse (build ∷ list)) ++ later
    go true rest =
        let lives : ends_live page h list (build ∷ later) build ≡ true =
        later_live page h build.name list (build ∷ later) (or_first (build.name == build.name) (named build.name later) (eq-eqb build.name build.name refl)) in
        rest (build ∷ later) (fresh_more list later build distinct.0 fresh.1)
        ∙ sym (append_assoc (filter (ends_live page h list (build ∷ later)) (reverse list)) (build ∷ []) later)
        ∙ ap (λ (b : Bool). (filter (ends_live page h list (build ∷ later)) (reverse list) ++ cond b (build ∷ []) []) ++ later) (sym lives)
        ∙ ap (λ (xs : List Build). xs ++ later) (sym (last (ends_live page h list (build ∷ later))))
    go false rest =
        let dies : ends_live page h list later build ≡ false = live_names page h build.name list later distinct.0 fresh.0 in
        rest later fresh.1
        ∙ ap (λ (xs : List Build). xs ++ later) (sym (append-nil (filter (ends_live page h list later) (reverse list))))
        ∙ ap (λ (b : Bool). (filter (ends_live page h list later) (reverse list) ++ cond b (build ∷ []) []) ++ later) (sym dies)
        ∙ ap (λ (xs : List Build). xs ++ later) (sym (last (ends_live page h list later)))

pub live_named : (page : ℕ) (h : History) → Distinct (builds page h) → live page h ≡ filter (λ (build : Build). is_live page h build.name) (builds page h)
live_named page h distinct =
    live_parts page h (reverse (builds page h)) [] (distinct_reverse (builds page h) distinct) (fresh_nil (reverse (builds page h)))
    ∙ append-nil (filter (λ (build : Build). is_live page h build.name) (reverse (reverse (builds page h))))
    ∙ ap (filter (λ (build : Build). is_live page h build.name)) (reverse-reverse (builds page h))
