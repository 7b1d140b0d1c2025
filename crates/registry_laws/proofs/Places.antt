-- Blobs stand at the numbers of their names.
use Rattle.std.proofs.Common.{◌≡◌, ℕ, ◌+◌, ◌==◌, Bool, true, false, cond, List, [], ◌∷◌, map, refl, ap, subst, sym, ◌∙◌, Option, Some}
use Rattle.std.specs.Option.{option_map}
use Rattle.std.proofs.lemmas.Bool.{eq-eqb, eqb-true, eqb-false, ne_eqb, or_parts}
use Rattle.blob_entries.specs.Names.{number_of}
use Rattle.blob_entries.proofs.Numbers.{name_there}
use Rattle.blob_model.specs.Builds.{Build}
use Rattle.blob_model.specs.Order.{named, Distinct}
use Rattle.blob_model.proofs.Lists.{false_true}

abbrev pub names_of : List Build → List ℕ
names_of builds = map (λ (build : Build). build.name) builds

-- blobs stand one after the other, the first at the number given
abbrev pub ArePlaced : List ℕ → ℕ → List Build → Type 0
ArePlaced names number [] = Unit {0}
ArePlaced names number (build ∷ builds) = (number_of build.name names ≡ Some number) × ArePlaced names (number + 1) builds

pub turned : (a b : ℕ) → (a == b) ≡ false → (b == a) ≡ false
turned a b e = ne_eqb b a (λ same. eqb-false a b e (sym same))

placed_more : (names : List ℕ) (name number : ℕ) (builds : List Build) → named name builds ≡ false → ArePlaced names number builds
    → ArePlaced (name ∷ names) (number + 1) builds
placed_more names name number [] other are = tt
placed_more names name number (build ∷ builds) other are =
    let parts = or_parts (build.name == name) (named name builds) other in (
      ap (λ (b : Bool). cond {A = Option ℕ} b (Some 0) (option_map (λ (n : ℕ). n + 1) (number_of build.name names))) parts.0
          ∙ ap (λ (o : Option ℕ). option_map (λ (n : ℕ). n + 1) o) are.0,
      placed_more names name (number + 1) builds parts.1 are.1,
    )

-- blobs whose names differ stand at the numbers of their names
pub placed : (builds : List Build) → Distinct builds → ArePlaced (names_of builds) 0 builds
placed [] distinct = tt
placed (build ∷ builds) distinct = (
  ap (λ (b : Bool). cond {A = Option ℕ} b (Some 0) (option_map (λ (n : ℕ). n + 1) (number_of build.name (names_of builds))))
      (eq-eqb build.name build.name refl),
  placed_more (names_of builds) build.name 0 builds distinct.0 (placed builds distinct.1),
)

-- two names of one number are one name
pub same_name : (names : List ℕ) (one other number : ℕ) → number_of one names ≡ Some number → number_of other names ≡ Some number → one ≡ other
same_name names one other number is too = sym (name_there one names number is) ∙ name_there other names number too

-- who is named among later blobs isn't the blob before them
pub other_name : (build : Build) (builds : List Build) (name : ℕ) → named build.name builds ≡ false → named name builds ≡ true → (build.name == name) ≡ false
other_name build builds name fresh there = go (build.name == name) refl
  where
    go : (b : Bool) → (build.name == name) ≡ b → b ≡ false
    go false at = refl
    go true at = absurd (false_true (sym fresh ∙ subst (λ (n : ℕ). named n builds ≡ true) (sym (eqb-true build.name name at)) there))
