-- What becomes of the data handles that the parts of a blob name. Own.
use Rattle.std.specs.Prelude.{ℕ, ◌≡◌, ◌<◌, ◌==◌, ◌&&◌, ◌||◌, Bool, false, not, List, [], ◌∷◌, length, if◌then◌else◌}
use Rattle.session_script.specs.declared.event.Part.{Part}
use Rattle.session_script.specs.declared.event.Part.TheVariants.{HandleRange}
use Rattle.data_handles.specs.Table.{Table, claimed_at, is_claimed_at, released_at}

-- the handle of a part is claimed, and its object is dropped where the blob broke or the range has no byte
abbrev pub claimed_by : Bool → Table → Part → Table
claimed_by is_broken table (HandleRange k off len) =
    if is_broken || (len == 0) then released_at (claimed_at table k) k else claimed_at table k
claimed_by is_broken table part = table

-- the handle of a part is there and not claimed
abbrev pub IsFree : Table → Part → Type 0
IsFree table (HandleRange k off len) = (k < length table.slots) × (is_claimed_at table k ≡ false)
IsFree table part = Unit {0}

-- one after the other, so that no two parts name one handle
abbrev pub AreFree : Bool → Table → List Part → Type 0
AreFree is_broken table [] = Unit {0}
AreFree is_broken table (part ∷ parts) = IsFree table part × AreFree is_broken (claimed_by is_broken table part) parts

-- whether the part is a range of the handle with a byte or more
abbrev pub is_ranged : ℕ → Part → Bool
is_ranged k (HandleRange slot off len) = (slot == k) && not (len == 0)
is_ranged k part = false
