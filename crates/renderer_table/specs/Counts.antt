-- How many handles a renderer has on each blob, by the number of the blob's name, in the order of the names. Own.
use Rattle.std.specs.Prelude.{ℕ, ◌+◌, ◌-◌, ◌==◌, List, if◌then◌else◌, unwrap_or}
use Rattle.std.specs.Ordering.{nat_cmp}
use Rattle.std.specs.Map.{lookup, remove_entry, set_value}
use Rattle.std.specs.BTreeMap.{insert_entry, is_at}

-- the count on a blob, 0 where there is none
abbrev pub count_on : ℕ → List (ℕ × ℕ) → ℕ
count_on blob counts = unwrap_or (lookup (is_at (nat_cmp blob)) counts) 0

-- one more on the blob
abbrev pub one_more : ℕ → List (ℕ × ℕ) → List (ℕ × ℕ)
one_more blob counts = insert_entry nat_cmp counts blob (count_on blob counts + 1)

-- one fewer on the blob, which goes with its last one
abbrev pub one_fewer : ℕ → List (ℕ × ℕ) → List (ℕ × ℕ)
one_fewer blob counts =
    if count_on blob counts == 1 then remove_entry (is_at (nat_cmp blob)) counts else set_value (is_at (nat_cmp blob)) counts (count_on blob counts - 1)
