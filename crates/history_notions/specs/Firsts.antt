-- Where the first blob of a name stands. Own.
use Rattle.std.specs.Prelude.{ℕ, ◌+◌, ◌==◌, List, [], ◌∷◌, Option, None, Some, if◌then◌else◌}
use Rattle.std.specs.Option.{option_map}
use Rattle.blob_model.specs.Builds.{Build}

-- the place of the first blob of this name
abbrev pub first_of : List Build → ℕ → Option ℕ
first_of [] name = None
first_of (build ∷ builds) name = if build.name == name then Some 0 else option_map (λ (place : ℕ). place + 1) (first_of builds name)

-- the first place of another name, where it was this, once a name has come at a place
abbrev pub first_after : ℕ → ℕ → ℕ → Option ℕ → Option ℕ
first_after name place other (Some before) = Some before
first_after name place other None = if name == other then Some place else None
