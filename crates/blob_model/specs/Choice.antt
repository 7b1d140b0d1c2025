-- The first case that applies, and one of several. Own.
use Rattle.std.specs.Prelude.{◌≡◌, ◌⊎◌, Bool, true, false, List, [], ◌∷◌, Option, None, Some}

-- what belongs to the first test that is true
abbrev pub first_that : {X : Type 0} → List (Bool × X) → Option X
first_that [] = None
first_that (case ∷ cases) = elim (case.0) [ true ↦ Some (case.1) | false ↦ first_that cases ]

-- the item is one of these
abbrev pub IsOneOf : {X : Type 0} → X → List X → Type 0
IsOneOf x [] = ⊥
IsOneOf x (y ∷ ys) = (x ≡ y) ⊎ IsOneOf x ys
