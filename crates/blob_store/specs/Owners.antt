-- The numbers of the open readers by their owners: an index beside the readers, so that those of one owner are found without the others. Own.
use Rattle.std.specs.Prelude.{ℕ, ◌≡◌, List, [], nat_eq, unwrap_or}
use Rattle.std.specs.List.{filter}
use Rattle.std.specs.Ordering.{nat_cmp}
use Rattle.std.specs.BTreeMap.{is_at}
use Rattle.std.specs.Map.{keys_of, lookup}
use Rattle.blob_store.specs.declared.readers.OpenReader.{OpenReader}

-- the readers of an owner, in rising order of their numbers
abbrev pub owned_by : ℕ → List (ℕ × OpenReader) → List (ℕ × OpenReader)
owned_by owner readers = filter (λ entry. nat_eq owner entry.1.owner.0) readers

-- the numbers that the index has of an owner
abbrev pub numbers_at : ℕ → List (ℕ × List ℕ) → List ℕ
numbers_at owner owners = unwrap_or (lookup (is_at (nat_cmp owner)) owners) []

-- each owner's numbers are those of its readers
abbrev pub Agree : List (ℕ × OpenReader) → List (ℕ × List ℕ) → Type 0
Agree readers owners = (owner : ℕ) → numbers_at owner owners ≡ keys_of (owned_by owner readers)
