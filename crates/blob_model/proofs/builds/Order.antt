-- Blobs in order of build: names differ, and sources are older.
use Rattle.std.proofs.Common.{◌≡◌, ℕ, ◌==◌, Bool, true, false, ◌||◌, List, [], ◌∷◌, ◌++◌, refl, subst, sym, ◌∙◌, Some, append_assoc, append-nil}
use Rattle.std.specs.Prelude.{cond, filter, is_some}
use Rattle.std.specs.List.{AllByRecursion}
use Rattle.std.proofs.lemmas.Bool.{or_parts, eqb-true, eq-eqb}
use Rattle.blob_model.specs.Builds.{Build, build_in}
use Rattle.blob_model.specs.Live.{has_source}
pub use Rattle.blob_model.specs.Order.{AreOrdered, Distinct}
use Rattle.blob_model.proofs.Lists.{any_append_first, any_append_second, false_true, or_first, or_second}
use Rattle.blob_model.proofs.live.Least.{named}

pub ordered_more : (earlier rest : List Build) (build : Build) → AreOrdered earlier rest → named build.name (earlier ++ rest) ≡ false
    → ((source : ℕ) → is_some build.plan ≡ true → has_source build source ≡ true → named source (earlier ++ rest) ≡ true)
    → AreOrdered earlier (rest ++ build ∷ [])
ordered_more earlier [] build ordered fresh older = (
  subst (λ (list : List Build). named build.name list ≡ false) (append-nil earlier) fresh,
  (λ source planned has. subst (λ (list : List Build). named source list ≡ true) (append-nil earlier) (older source planned has)),
  tt,
)
ordered_more earlier (first ∷ rest) build ordered fresh older =
    let moved : (earlier ++ first ∷ []) ++ rest ≡ earlier ++ (first ∷ rest) = append_assoc earlier (first ∷ []) rest in (
      ordered.0,
      ordered.1,
      ordered_more (earlier ++ first ∷ []) rest build ordered.2 (subst (λ (list : List Build). named build.name list ≡ false) (sym moved) fresh)
          (λ source planned has. subst (λ (list : List Build). named source list ≡ true) (sym moved) (older source planned has)),
    )

-- a name that an older blob has no later one has
pub not_later : (name : ℕ) (earlier rest : List Build) → AreOrdered earlier rest → named name earlier ≡ true → named name rest ≡ false
not_later name earlier [] ordered old = refl
not_later name earlier (build ∷ rest) ordered old =
    let later : named name rest ≡ false = not_later name (earlier ++ build ∷ []) rest ordered.2
    (any_append_first (λ (each : Build). each.name == name) earlier (build ∷ []) old) in
    go (build.name == name) refl later
  where
    go : (b : Bool) → (build.name == name) ≡ b → named name rest ≡ false → (b || named name rest) ≡ false
    go false e later = later
    go true e later =
        let same : build.name ≡ name = eqb-true build.name name e in
        let fresh : named name earlier ≡ false = subst (λ (n : ℕ). named n earlier ≡ false) same ordered.0 in
        absurd (false_true (sym fresh ∙ old))

-- a blob itself is not among the later ones
pub self_not_later : (build : Build) (earlier rest : List Build) → AreOrdered earlier (build ∷ rest) → named build.name rest ≡ false
self_not_later build earlier rest ordered =
    not_later build.name (earlier ++ build ∷ []) rest ordered.2
    (any_append_second (λ (each : Build). each.name == build.name) earlier (build ∷ [])
    (or_first (build.name == build.name) false (eq-eqb build.name build.name refl)))

pub ordered_distinct : (earlier rest : List Build) → AreOrdered earlier rest → Distinct rest
ordered_distinct earlier [] ordered = tt
ordered_distinct earlier (build ∷ rest) ordered = (self_not_later build earlier rest ordered, ordered_distinct (earlier ++ build ∷ []) rest ordered.2)

pub named_filter : (name : ℕ) (test : Build → Bool) (list : List Build) → named name list ≡ false → named name (filter test list) ≡ false
named_filter name test [] e = refl
named_filter name test (build ∷ list) e =
    let parts = or_parts (build.name == name) (named name list) e in
    go (test build) (named_filter name test list parts.1) parts.0
  where
    go : (b : Bool) → named name (filter test list) ≡ false → (build.name == name) ≡ false → named name (cond b (build ∷ filter test list) (filter test list))
        ≡ false
    go true rest head = rw (head, rest) refl
    go false rest head = rest

pub distinct_filter : (test : Build → Bool) (list : List Build) → Distinct list → Distinct (filter test list)
distinct_filter test [] d = tt
distinct_filter test (build ∷ list) d = go (test build) (distinct_filter test list d.1)
  where
    go : (b : Bool) → Distinct (filter test list) → Distinct (cond b (build ∷ filter test list) (filter test list))
    go true rest = (named_filter build.name test list d.0, rest)
    go false rest = rest

-- each of distinct blobs is found by its name
found_head : (build : Build) (rest : List Build) → build_in (build ∷ rest) build.name ≡ Some build
found_head build rest = rw (eq-eqb build.name build.name refl) refl

pub all_found : (whole rest : List Build) → Distinct rest → ((build : Build) → named build.name rest ≡ true → build_in whole build.name
    ≡ build_in rest build.name)
    → AllByRecursion (λ (build : Build). build_in whole build.name ≡ Some build) rest
all_found whole [] d same = tt
all_found whole (build ∷ rest) d same = (
  same build (or_first (build.name == build.name) (named build.name rest) (eq-eqb build.name build.name refl)) ∙ found_head build rest,
  all_found whole rest d.1 (λ other member. same other (or_second (build.name == other.name) (named other.name rest) member) ∙ skip other member),
)
  where
    skip : (other : Build) → named other.name rest ≡ true → build_in (build ∷ rest) other.name ≡ build_in rest other.name
    skip other member = go (build.name == other.name) refl
      where
        go : (b : Bool) → (build.name == other.name) ≡ b → cond b (Some build) (build_in rest other.name) ≡ build_in rest other.name
        go false e = refl
        go true e =
            let same_name : build.name ≡ other.name = eqb-true build.name other.name e in
            absurd (false_true (sym d.0 ∙ subst (λ (n : ℕ). named n rest ≡ true) (sym same_name) member))
