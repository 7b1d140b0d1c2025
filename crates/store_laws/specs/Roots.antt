-- Entries with other roots. Own.
use Rattle.std.specs.Prelude.{◌≡◌, List, map, Option}
use Rattle.std.specs.Option.{option_map}
use Rattle.blob_entries.specs.Book.{Book}
use Rattle.blob_entries.specs.Changes.{with_roots}
use Rattle.blob_entries.specs.declared.entry.Entry.{Entry}

-- entries with their roots left out
abbrev pub rootless : List (Option Entry) → List (Option Entry)
rootless entries = map (option_map (with_roots 0)) entries

-- the same entries, but for their roots
pub record AreRerooted (old new : Book) : Type 0 where
  pub names : new.names ≡ old.names
  pub entries : rootless new.entries ≡ rootless old.entries
