-- The names of the live entries. Own.
use Rattle.std.specs.Prelude.{Bool, List, false, is_some, length, set, slice_index_or, ℕ, ◌<◌, ◌==◌, ◌||◌, ◌≡◌}
use Rattle.blob_entries.specs.Book.{Book, entry_at}
use Rattle.blob_entries.specs.Leaving.{is_rooted, left}
use Rattle.blob_entries.specs.Sources.{needs, some_source}
use Rattle.blob_entries.specs.Standing.{standing}
use Rattle.blob_entries.specs.declared.step.Step.{Step}
use Rattle.blob_registry.specs.Sweeps.{swept}

-- the names of what a sweep would leave, in order of build: the least set that has the rooted entries and the sources of its unfinished ones
abbrev pub live : Book → List ℕ
live book = standing book.names (swept book.names 0 book.entries)

-- whether a place is marked
abbrev pub mark_at : List Bool → ℕ → Bool
mark_at marks number = slice_index_or marks number false

-- an entry stands where it is marked, among what a sweep would leave
abbrev pub AreLive : Book → List Bool → Type 0
AreLive book marks =
    (length marks ≡ length book.entries) × ((number : ℕ) → mark_at marks number ≡ is_some (entry_at (swept book.names 0 book.entries) number))

-- the sources of steps were marked. No public call cites it
pub record MarksSources (names : List ℕ) (steps : List Step) (before after : List Bool) : Type 0 where
  pub sized : length after ≡ length before
  pub each : (number : ℕ) → number < length before
      → mark_at after number ≡ (mark_at before number || some_source names (λ (source : ℕ). source == number) steps)

-- whether a live one has the source, where the entry lives or doesn't
abbrev pub lives_so : Book → ℕ → List Bool → Bool
lives_so book number marks = is_rooted (entry_at book.entries number) || mark_at marks number

-- an entry was weighed: it stays marked where it is rooted or was marked, and then whom it needs is marked. No public call cites it
pub record Weighs (book : Book) (number : ℕ) (before after : List Bool) : Type 0 where
  pub sized : length after ≡ length before
  pub each : (other : ℕ) → other < length before
      → mark_at after other ≡ (mark_at (set before number (is_some (left (lives_so book number before) (entry_at book.entries number)))) other
      || needs book.names other (left (lives_so book number before) (entry_at book.entries number)))
