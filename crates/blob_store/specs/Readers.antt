-- The open readers by their numbers. Own.
use Rattle.std.specs.Prelude.{ℕ, ◌≡◌, ◌+◌, ◌==◌, Bool, false, List, Option, None, Some, length, is_some, sum_by, if◌then◌else◌}
use Rattle.std.specs.Option.{option_map_or}
use Rattle.std.specs.Map.{lookup, values_of}
use Rattle.std.specs.Ordering.{nat_cmp}
use Rattle.std.specs.BTreeMap.{is_at}
use Rattle.blob_store.specs.declared.readers.OpenReader.{OpenReader}

-- the open reader of a number
abbrev pub reader_at : ℕ → List (ℕ × OpenReader) → Option OpenReader
reader_at number readers = lookup (is_at (nat_cmp number)) readers

-- 1 for a reader of the blob of this name, and how many open ones there are
abbrev pub reads : ℕ → OpenReader → ℕ
reads name reader = if reader.blob == name then 1 else 0

abbrev pub readers_of : ℕ → List (ℕ × OpenReader) → ℕ
readers_of name readers = sum_by (reads name) (values_of readers)

-- the same of a reader that may be open
abbrev pub reads_if : ℕ → Option OpenReader → ℕ
reads_if name reader = option_map_or (reads name) reader 0

-- this reader comes under this number, and every other number has what it had
pub record Opens (number : ℕ) (reader : OpenReader) (old new : List (ℕ × OpenReader)) : Type 0 where
  pub each : (other : ℕ) → reader_at other new ≡ (if number == other then Some reader else reader_at other old)
  pub many : length new ≡ length old + 1
  pub reading : (name : ℕ) → readers_of name new ≡ readers_of name old + reads name reader

-- the reader of this number goes, where one is open, and every other number has what it had
pub record Closes (number : ℕ) (old new : List (ℕ × OpenReader)) : Type 0 where
  pub each : (other : ℕ) → reader_at other new ≡ (if number == other then None else reader_at other old)
  pub many : length new + (if is_some (reader_at number old) then 1 else 0) ≡ length old
  pub reading : (name : ℕ) → readers_of name new + reads_if name (reader_at number old) ≡ readers_of name old

-- whether an open reader is this renderer's
abbrev pub is_own : ℕ → Option OpenReader → Bool
is_own owner reader = option_map_or (λ (one : OpenReader). one.owner.0 == owner) reader false

-- this reader of a renderer goes
pub record ClosesFrom (owner : ℕ) (reader : OpenReader) (old new : List (ℕ × OpenReader)) : Type 0 where
  pub number : ℕ
  pub there : reader_at number old ≡ Some reader
  pub own : reader.owner.0 ≡ owner
  pub closes : Closes number old new
