-- The pass over unfinished entries in rising build number, and how they end. Own.
use Rattle.std.specs.Option.{option_map}
use Rattle.std.specs.Prelude.{Bool, List, None, Option, Some, [], is_some, length, slice_index, unwrap_or, ℕ, ◌++◌, ◌∷◌, ◌≡◌}
use Rattle.blob_entries.specs.Book.{Book, entry_at}
use Rattle.blob_entries.specs.Changes.{with_status}
use Rattle.blob_entries.specs.Endings.{Ends, LooksAt, ending, ending_at}
use Rattle.blob_entries.specs.declared.entry.Entry.{Entry}
use Rattle.blob_registry.specs.declared.ended_blob.EndedBlob.{EndedBlob}
use Rattle.blob_words.specs.declared.status.Status.{Status}

-- an entry as the pass leaves it, as far as those after it see it
abbrev pub passed : List ℕ → List (Option Entry) → Option Entry → Option Entry
passed names earlier held = option_map (λ (entry : Entry). with_status (unwrap_or (ending names earlier entry) entry.status) entry) held

abbrev pub ending_list : ℕ → Option Status → List EndedBlob
ending_list name None = []
ending_list name (Some status) = record { name = name; status = status } ∷ []

-- the endings of the later entries, each looked at after those before it
abbrev pub endings : List ℕ → List (Option Entry) → List (Option Entry) → List EndedBlob
endings names earlier [] = []
endings names earlier (held ∷ later) =
    ending_list (slice_index names (length earlier)) (ending_at names earlier held) ++ endings names (earlier ++ passed names earlier held ∷ []) later

-- what the pass makes of entries: each ends by how its sources stand in the end, which is how they stand when it is looked at
pub record Finishes (before after : Book) (list : List EndedBlob) : Type 0 where
  pub names : after.names ≡ before.names
  pub sized : length after.entries ≡ length before.entries
  pub each : (number : ℕ) → Ends before.names after.entries (entry_at before.entries number) (entry_at after.entries number)
  pub listed : list ≡ endings before.names [] before.entries

-- one entry was looked at, and its ending was noted where it has one
pub record Notes (before after : Book) (number : ℕ) (ended : Bool) (list later : List EndedBlob) : Type 0 where
  pub result : Option Status
  pub is : ended ≡ is_some result
  pub looks : LooksAt before after number result
  pub noted : later ≡ list ++ ending_list (slice_index before.names number) result
