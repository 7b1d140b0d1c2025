-- The outside of a judge: data handles of which the sizes alone are told, and a disk that tells. Own.
use Rattle.std.specs.Prelude.{ℕ, List, map, true, None}
use Rattle.blob_model.specs.Session.{Slot, Outside}

-- a data handle of this size that tells nothing
abbrev pub silent : ℕ → Slot
silent size = record { size = size; bytes = None; told_whole = tt }

-- data handles of these sizes, and a disk that tells
abbrev pub outside_of : List ℕ → Outside
outside_of sizes = record { slots = map silent sizes; disk_tells = true }
