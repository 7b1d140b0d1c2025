-- How a table keeps pieces. Own.
use Rattle.std.specs.Prelude.{ℕ, ◌<◌, List, [], ◌∷◌, if◌then◌else◌}
use Rattle.page_files.specs.declared.held.Held.{Held}
use Rattle.page_files.specs.declared.piece_table.Place.{Place}

-- a piece from its entry
abbrev pub held_of : ℕ × Place → Held
held_of entry = record { piece = record { 0 = entry.0 }; slot = entry.1.slot; off = entry.1.off; len = entry.1.len }

-- the pieces that are in, in the order of their entries
abbrev pub pieces_in : List (ℕ × Place) → List Held
pieces_in [] = []
pieces_in (entry ∷ entries) = if entry.1.is_in then held_of entry ∷ pieces_in entries else pieces_in entries

-- an entry of a piece that isn't empty
abbrev pub IsLong : ℕ × Place → Type 0
IsLong entry = 0 < entry.1.len
