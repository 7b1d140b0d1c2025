-- A volume over memory. Own.
use Rattle.std.specs.Prelude.{ℕ, List, [], Some, None}
use Rattle.blob_source.specs.Faults.{next_count}
use Rattle.page_volumes.specs.Seen.{with_count, Seen}

-- what it is seen as, which calls are to fail, and how many of those that are numbered came
pub record Store : Type 0 where
  pub seen : Seen
  pub failing : List ℕ
  pub calls : ℕ

-- a new volume
abbrev pub new_store : List ℕ → Store
new_store failing = record { seen = record { write = None; told = Some (record { files = []; came = [] }); faults = 0 }; failing = failing; calls = 0 }

-- a numbered call went well, and it is seen so
abbrev pub passed : Seen → Store → Store
passed seen store = record store { seen = seen; calls = next_count store.calls }

-- a numbered call failed, and it is seen so but for the count
abbrev pub missed : Seen → Store → Store
missed seen store = record store { seen = with_count (next_count store.seen.faults) seen; calls = next_count store.calls }
