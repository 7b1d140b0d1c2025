-- How an unfinished entry ends. Own.
use Rattle.std.specs.List.{list_any}
use Rattle.std.specs.Prelude.{Bool, IsSomeAnd, List, None, Option, Some, false, if◌then◌else◌, is_none, not, option_and_then, set, true, ℕ, ◌&&◌, ◌≡◌}
use Rattle.blob_entries.specs.Book.{Book, entry_at, is_broken_at, is_done_at}
use Rattle.blob_entries.specs.Changes.{done_with, with_status}
use Rattle.blob_entries.specs.Contents.{is_own, made_cells}
use Rattle.blob_entries.specs.Holdings.{own_views}
use Rattle.blob_entries.specs.Sources.{each_source, some_source}
use Rattle.blob_entries.specs.Statuses.{is_pending}
use Rattle.blob_entries.specs.declared.entry.Entry.{Entry}
use Rattle.blob_items.specs.Cells.{cells}
use Rattle.blob_words.specs.declared.status.Status.{Status}
use Rattle.blob_words.specs.declared.status.Status.TheVariants as statuses

-- whether its bytes may come
abbrev pub is_granted_status : Status → Bool
is_granted_status statuses.PendingQuota = false
is_granted_status status = true

-- whether bytes of its own have not come
abbrev pub misses : Entry → Bool
misses entry = is_none entry.own && list_any is_own entry.recipe

-- whether it is done as soon as all its sources are
abbrev pub is_complete : List ℕ → List (Option Entry) → Entry → Bool
is_complete names entries entry = is_granted_status entry.status && not (misses entry) && each_source names (is_done_at entries) entry.recipe

-- the status with which an unfinished entry ends by its sources, if it ends
abbrev pub source_end : List ℕ → List (Option Entry) → Entry → Option Status
source_end names entries entry =
    if some_source names (is_broken_at entries) entry.recipe then Some statuses.ReferencedBlobBroken else if is_complete names entries entry then Some
    statuses.Done else None

-- a mark goes before
abbrev pub marked_end : Option Status → Option Status → Option Status
marked_end None other = other
marked_end (Some why) other = Some why

abbrev pub ending : List ℕ → List (Option Entry) → Entry → Option Status
ending names entries entry = if is_pending entry.status then marked_end entry.mark (source_end names entries entry) else None

abbrev pub ending_at : List ℕ → List (Option Entry) → Option Entry → Option Status
ending_at names entries held = option_and_then (ending names entries) held

-- of what stood there the pass made this, where it ends so
abbrev pub EndsAs : List ℕ → List (Option Entry) → Entry → Option Status → Option Entry → Type 0
EndsAs names entries entry None after = after ≡ Some entry
EndsAs names entries entry (Some statuses.Done) after =
    IsSomeAnd after (λ (done : Entry). (done ≡ done_with done.views entry) × (cells done.views ≡ made_cells names entries entry.recipe (own_views entry.own)))
EndsAs names entries entry (Some status) after = after ≡ Some (with_status status entry)

abbrev pub Ends : List ℕ → List (Option Entry) → Option Entry → Option Entry → Type 0
Ends names entries None after = after ≡ None
Ends names entries (Some entry) after = EndsAs names entries entry (ending names entries entry) after

-- one entry was looked at
pub record LooksAt (before after : Book) (number : ℕ) (result : Option Status) : Type 0 where
  pub names : after.names ≡ before.names
  pub others : after.entries ≡ set before.entries number (entry_at after.entries number)
  pub end : result ≡ ending_at before.names before.entries (entry_at before.entries number)
  pub entry : Ends before.names before.entries (entry_at before.entries number) (entry_at after.entries number)
