-- How much the parts of a build bring.
use Rattle.std.specs.Prelude.{ℕ, List, length, sum_by, flat_map}
use Rattle.std.specs.Int.{div_ceil}
use Rattle.session_script.specs.declared.event.Part.{Part}
use Rattle.replay_run.specs.Builds.{part_bytes}

-- their bytes
abbrev pub byte_total : List Part → ℕ
byte_total parts = length (flat_map part_bytes parts)

-- their pieces
abbrev pub piece_total : ℕ → List Part → ℕ
piece_total page parts = sum_by (λ (part : Part). div_ceil (length (part_bytes part)) page) parts
