-- Blobs in order of build: each name is new, and a blob takes bytes from older ones. Own.
use Rattle.std.specs.Prelude.{◌≡◌, ℕ, ◌==◌, Bool, true, false, List, [], ◌∷◌, ◌++◌, is_some}
use Rattle.std.specs.List.{list_any}
use Rattle.blob_model.specs.Builds.{Build}
use Rattle.blob_model.specs.Live.{has_source}

-- whether a blob of this name is among these
abbrev pub named : ℕ → List Build → Bool
named name list = list_any (λ (build : Build). build.name == name) list

-- names that differ
abbrev pub Distinct : List Build → Type 0
Distinct [] = Unit {0}
Distinct (build ∷ rest) = (named build.name rest ≡ false) × Distinct rest

-- each blob's name is new, and it takes bytes from older ones, where it has a plan
abbrev pub AreOrdered : List Build → List Build → Type 0
AreOrdered earlier [] = Unit {0}
AreOrdered earlier (build ∷ rest) =
    (named build.name earlier ≡ false) × ((source : ℕ) → is_some build.plan ≡ true → has_source build source ≡ true → named source earlier ≡ true)
    × AreOrdered (earlier ++ build ∷ []) rest
