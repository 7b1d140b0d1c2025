-- What is kept of the work for the next passes. Own; no public call cites it.
use Rattle.std.specs.Prelude.{Bool, List, None, Option, [], length, set, slice_index, ℕ, ◌<◌, ◌≡◌, ◌≢◌, ◌≤◌}
use Rattle.blob_entries.specs.Book.{Book, entry_at}
use Rattle.blob_entries.specs.Endings.{ending_at}
use Rattle.blob_entries.specs.Leaving.{left, lives_at}
use Rattle.blob_registry.specs.Dependents.{dependents}
use Rattle.blob_registry.specs.Lists.{AreEntered, PutOn, Strikes, list_at, turned}
use Rattle.blob_registry.specs.Numbers.{AreBelow, IsRising}
use Rattle.blob_registry.specs.Passes.{Notes}
use Rattle.blob_registry.specs.Sweeps.{Goes}
use Rattle.blob_registry.specs.declared.ended_blob.EndedBlob.{EndedBlob}
use Rattle.blob_registry.specs.declared.work.Work.{Work}
use Rattle.blob_words.specs.declared.bounds.TheConstants.{MOST_BLOBS}
use Rattle.item_shares.specs.declared.item.Item.{Item}
use Rattle.item_shares.specs.declared.shares.Share.{Share}

-- an entry is as the sweep would leave it
abbrev pub IsFine : Book → ℕ → Type 0
IsFine book number = left (lives_at book number) (entry_at book.entries number) ≡ entry_at book.entries number

-- a list has 0 at the place of each number at which a pass is to look. Every entry of which that isn't said doesn't end, or is as the sweep would
-- leave it; and the lists of those who need an entry are exact
pub record AreKept (book : Book) (work : Work) : Type 0 where
  pub few : length book.entries ≤ MOST_BLOBS
  pub looks : length work.looks ≡ MOST_BLOBS
  pub looked : (number : ℕ) → slice_index work.looks number ≢ 0 → ending_at book.names book.entries (entry_at book.entries number) ≡ None
  pub weighs : length work.weighs ≡ MOST_BLOBS
  pub fine : (number : ℕ) → number < MOST_BLOBS → slice_index work.weighs (turned number) ≢ 0 → IsFine book number
  pub past : (number : ℕ) → length book.entries ≤ number → number < MOST_BLOBS → slice_index work.weighs (turned number) ≢ 0
  pub long : length book.entries ≤ length work.dependents.items
  pub exact : (number : ℕ) → list_at work.dependents.items number ≡ dependents book number

-- nothing to do
pub record IsNew (work : Work) : Type 0 where
  pub looks : length work.looks ≡ MOST_BLOBS
  pub weighs : length work.weighs ≡ MOST_BLOBS
  pub none : (number : ℕ) → number < MOST_BLOBS → slice_index work.weighs (turned number) ≢ 0
  pub nobody : work.dependents.items ≡ []

-- what the lists keep among themselves
pub record AreWhole (work : Work) : Type 0 where
  pub looks : length work.looks ≡ MOST_BLOBS
  pub weighs : length work.weighs ≡ MOST_BLOBS
  pub rising : (number : ℕ) → IsRising (list_at work.dependents.items number)
  pub below : (number : ℕ) → AreBelow MOST_BLOBS (list_at work.dependents.items number)

-- an entry ended: those who need it are looked at, it and its sources are weighed, and it needs nobody
pub record Ended (before after : Work) (number : ℕ) (sources : List ℕ) : Type 0 where
  pub looks : PutOn (λ (n : ℕ). n) (set before.looks number 1) after.looks (list_at before.dependents.items number)
  pub weighs : PutOn turned (set before.weighs (turned number) 0) after.weighs sources
  pub strikes : Strikes before.dependents.items after.dependents.items number sources

-- an entry went: its sources are weighed, and it needs nobody
pub record Gone (before after : Work) (number : ℕ) (sources : List ℕ) : Type 0 where
  pub looks : after.looks ≡ before.looks
  pub weighs : PutOn turned (set before.weighs (turned number) 1) after.weighs sources
  pub strikes : Strikes before.dependents.items after.dependents.items number sources

-- a new number is on the lists of its sources
pub record Enters (before after : Work) (number : ℕ) (sources : List ℕ) : Type 0 where
  pub looks : after.looks ≡ before.looks
  pub weighs : after.weighs ≡ before.weighs
  pub long : number < length after.dependents.items
  pub entered : AreEntered before.dependents.items after.dependents.items number sources

-- an entry was looked at, its ending noted, and its number taken off the list
pub record Looked (before after : Book) (work later : Work) (number : ℕ) (list next : List EndedBlob) : Type 0 where
  pub ended : Bool
  pub notes : Notes before after number ended list next
  pub below : (other : ℕ) → other ≤ number → (other ≢ number → slice_index work.looks other ≢ 0) → slice_index later.looks other ≢ 0

-- an entry was weighed, what goes with it noted, and its number taken off the list
pub record Weighed (before after : Book) (work later : Work) (number : ℕ) (names more : List ℕ) (shares then : List (Option Share)) (freed next : List Item) :
    Type 0 where
  pub goes : Goes before after number names more shares then freed next
  pub above : (other : ℕ) → number ≤ other → other < MOST_BLOBS → (other ≢ number → slice_index work.weighs (turned other) ≢ 0) → slice_index later.weighs
      (turned other) ≢ 0

-- nothing is said otherwise
pub record StaysAs (before after : Work) : Type 0 where
  pub looks : after.looks ≡ before.looks
  pub weighs : after.weighs ≡ before.weighs
  pub long : length before.dependents.items ≤ length after.dependents.items
  pub same : (number : ℕ) → list_at after.dependents.items number ≡ list_at before.dependents.items number
