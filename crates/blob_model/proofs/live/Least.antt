-- Liveness is the least closed set, and has the roots.
use Rattle.std.proofs.Common.{◌≡◌, ℕ, ◌==◌, Bool, true, false, ◌&&◌, ◌||◌, List, [], ◌∷◌, reverse, refl, subst, sym, ⊎_elim}
use Rattle.std.specs.Prelude.{cond}
use Rattle.std.specs.List.{AllByRecursion}
use Rattle.std.proofs.lemmas.Bool.{and_parts, eqb-true}
use Rattle.blob_model.specs.History.{History}
use Rattle.blob_model.specs.Builds.{Build, builds}
use Rattle.blob_model.specs.Standing.{is_unfinished}
use Rattle.blob_model.specs.Live.{is_rooted, has_source, is_needed, live_from, live, is_live}
use Rattle.blob_model.specs.BuildLaws.{IsClosed}
pub use Rattle.blob_model.specs.Order.{named}
use Rattle.blob_model.proofs.Lists.{any_reverse, false_true, or_cases, or_first, or_second}

-- of blobs that are all among the names one needs the blob
needed_among : (page : ℕ) (h : History) (among : ℕ → Bool) (name : ℕ) (later : List Build) → IsClosed page h among
    → AllByRecursion (λ (build : Build). among build.name ≡ true) later
    → is_needed h later name ≡ true → among name ≡ true
needed_among page h among name [] closed all e = absurd (false_true e)
needed_among page h among name (build ∷ later) closed all e =
    ⊎_elim
    (λ (here : (is_unfinished h build.name && has_source build name) ≡ true).
    let parts = and_parts (is_unfinished h build.name) (has_source build name) here in
    closed.needed build name all.0 parts.0 parts.1)
    (λ (more : is_needed h later name ≡ true). needed_among page h among name later closed all.1 more)
    (or_cases (is_unfinished h build.name && has_source build name) (is_needed h later name) e)

least_from : (page : ℕ) (h : History) (among : ℕ → Bool) (earlier later : List Build) → IsClosed page h among
    → AllByRecursion (λ (build : Build). among build.name ≡ true) later
    → AllByRecursion (λ (build : Build). among build.name ≡ true) (live_from page h earlier later)
least_from page h among [] later closed all = all
least_from page h among (build ∷ earlier) later closed all =
    go (is_rooted page h build.name || is_needed h later build.name) refl (λ more. least_from page h among earlier more closed)
  where
    go : (b : Bool) → (is_rooted page h build.name || is_needed h later build.name) ≡ b
        → ((more : List Build) → AllByRecursion (λ (x : Build). among x.name ≡ true) more → AllByRecursion (λ (x : Build). among x.name ≡ true)
        (live_from page h earlier more))
        → AllByRecursion (λ (x : Build). among x.name ≡ true) (live_from page h earlier (cond b (build ∷ later) later))
    go false e rest = rest later all
    go true e rest =
        let here : among build.name ≡ true =
        ⊎_elim (λ (rooted : is_rooted page h build.name ≡ true). closed.roots build.name rooted)
        (λ (needed : is_needed h later build.name ≡ true). needed_among page h among build.name later closed all needed)
        (or_cases (is_rooted page h build.name) (is_needed h later build.name) e) in
        rest (build ∷ later) (here, all)

pub live_is_least : (page : ℕ) (h : History) (among : ℕ → Bool) → IsClosed page h among → AllByRecursion (λ (build : Build). among build.name ≡ true)
    (live page h)
live_is_least page h among closed = least_from page h among (reverse (builds page h)) [] closed tt

-- ---- membership by name

-- what lives already goes on living
pub later_live : (page : ℕ) (h : History) (name : ℕ) (earlier later : List Build) → named name later ≡ true → named name (live_from page h earlier later) ≡ true
later_live page h name [] later e = e
later_live page h name (build ∷ earlier) later e =
    go (is_rooted page h build.name || is_needed h later build.name) (λ more. later_live page h name earlier more)
  where
    go : (b : Bool) → ((more : List Build) → named name more ≡ true → named name (live_from page h earlier more) ≡ true)
        → named name (live_from page h earlier (cond b (build ∷ later) later)) ≡ true
    go false rest = rest later e
    go true rest = rest (build ∷ later) (or_second (build.name == name) (named name later) e)

rooted_from : (page : ℕ) (h : History) (name : ℕ) (earlier later : List Build) → is_rooted page h name ≡ true → named name earlier ≡ true
    → named name (live_from page h earlier later) ≡ true
rooted_from page h name [] later rooted e = absurd (false_true e)
rooted_from page h name (build ∷ earlier) later rooted e =
    ⊎_elim
    (λ (here : (build.name == name) ≡ true).
    let same : build.name ≡ name = eqb-true build.name name here in
    let root : (is_rooted page h build.name || is_needed h later build.name) ≡ true =
    or_first (is_rooted page h build.name) (is_needed h later build.name) (subst (λ (n : ℕ). is_rooted page h n ≡ true) (sym same) rooted) in
    let next : named name (live_from page h earlier (build ∷ later)) ≡ true = later_live page h name earlier (build ∷ later)
    (or_first (build.name == name) (named name later) here) in
    subst (λ (b : Bool). named name (live_from page h earlier (cond b (build ∷ later) later)) ≡ true) (sym root) next)
    (λ (more : named name earlier ≡ true). rooted_from page h name earlier
    (cond (is_rooted page h build.name || is_needed h later build.name) (build ∷ later) later) rooted more)
    (or_cases (build.name == name) (named name earlier) e)

pub rooted_live : (page : ℕ) (h : History) (name : ℕ) → named name (builds page h) ≡ true → is_rooted page h name ≡ true → is_live page h name ≡ true
rooted_live page h name built rooted = rooted_from page h name (reverse (builds page h)) [] rooted
    (any_reverse (λ (build : Build). build.name == name) (builds page h) built)
