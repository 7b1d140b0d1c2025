-- The first places of names, as blobs come.
use Rattle.std.proofs.Common.{◌≡◌, ℕ, zero, suc, ◌+◌, ◌==◌, Bool, true, false, cond, List, [], ◌∷◌, ◌++◌, Option, Some, None, Bor, ◌<◌, ◌≤◌, length, get_or, refl, sym, ap, ◌∙◌, arith}
use Rattle.std.specs.Prelude.{slice_get}
use Rattle.std.specs.Option.{option_map, option_copied, IfSome, MatchOption}
use Rattle.std.specs.List.{HoldsAt}
use Rattle.std.proofs.lemmas.Option.{slice_get_past, slice_get_read}
use Rattle.blob_model.specs.Builds.{Build, build_in}
use Rattle.history_notions.specs.Firsts.{first_of, first_after}

-- what a slice gives at a place
pub got_at : {X : Type 0} (found : Option (Bor X)) (xs : List X) (place : ℕ) → IfSome found (λ x. x.now ≡ get_or xs place x.now)
    → MatchOption found (length xs ≤ place) (λ x. (place < length xs) × HoldsAt (λ y. x.now ≡ y) xs place) → option_copied found ≡ slice_get xs place
got_at None xs place is within = sym (slice_get_past xs place within)
got_at (Some x) xs place is within = sym (slice_get_read xs (length xs) place x.now refl within.0 is)

-- the blob at a place, where there is one
abbrev pub at_place : List Build → Option ℕ → Option Build
at_place builds None = None
at_place builds (Some place) = slice_get builds place

next_place : (build : Build) (builds : List Build) (place : Option ℕ)
    → at_place (build ∷ builds) (option_map (λ (n : ℕ). n + 1) place) ≡ at_place builds place
next_place build builds None = refl
next_place build builds (Some place) = let next : place + 1 ≡ suc place = omega arith in ap (slice_get (build ∷ builds)) next

-- the blob at the first place of a name is the blob of that name
pub first_found : (builds : List Build) (name : ℕ) → at_place builds (first_of builds name) ≡ build_in builds name
first_found [] name = refl
first_found (build ∷ builds) name = by (build.name == name) (first_found builds name)
  where
    by : (b : Bool) → at_place builds (first_of builds name) ≡ build_in builds name
        → at_place (build ∷ builds) (cond {A = Option ℕ} b (Some 0) (option_map (λ (n : ℕ). n + 1) (first_of builds name)))
        ≡ cond {A = Option Build} b (Some build) (build_in builds name)
    by true same = refl
    by false same = next_place build builds (first_of builds name) ∙ same

-- one blob more
pub first_more : (builds : List Build) (build : Build) (name : ℕ)
    → first_of (builds ++ build ∷ []) name ≡ first_after build.name (length builds) name (first_of builds name)
first_more [] build name = refl
first_more (one ∷ builds) build name = by (one.name == name) (first_of builds name) (first_more builds build name)
  where
    next : (b : Bool) → option_map (λ (n : ℕ). n + 1) (cond {A = Option ℕ} b (Some (length builds)) None)
        ≡ cond {A = Option ℕ} b (Some (suc (length builds))) None
    next true = ap (λ (n : ℕ). Some n) (omega arith)
    next false = refl

    by : (b : Bool) (before : Option ℕ) → first_of (builds ++ build ∷ []) name ≡ first_after build.name (length builds) name before
        → cond {A = Option ℕ} b (Some 0) (option_map (λ (n : ℕ). n + 1) (first_of (builds ++ build ∷ []) name))
        ≡ first_after build.name (suc (length builds)) name (cond {A = Option ℕ} b (Some 0) (option_map (λ (n : ℕ). n + 1) before))
    by true before same = refl
    by false None same = ap (option_map (λ (n : ℕ). n + 1)) same ∙ next (build.name == name)
    by false (Some place) same = ap (option_map (λ (n : ℕ). n + 1)) same
