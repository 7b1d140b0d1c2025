-- Which entries have a piece: the blobs with an entry, each beside it. Own.
use Rattle.std.specs.Prelude.{ℕ, ◌≡◌, ◌==◌, ◌&&◌, ◌||◌, not, Bool, true, false, List, [], ◌∷◌, Option, None, Some}
use Rattle.std.specs.List.{list_any}
use Rattle.std.specs.Option.{option_map_or}
use Rattle.blob_words.specs.declared.status.Status.{Status}
use Rattle.blob_words.specs.declared.status.Status.TheVariants as statuses
use Rattle.item_shares.specs.declared.shares.Share.{Share}
use Rattle.blob_items.specs.declared.view.View.{View}
use Rattle.blob_entries.specs.Statuses.{is_broken, is_pending}
use Rattle.blob_entries.specs.declared.entry.Entry.{Entry}
use Rattle.blob_entries.specs.declared.step.Step.{Step}
use Rattle.blob_entries.specs.declared.step.Step.TheVariants.{Own, Fixed, Source}
use Rattle.blob_model.specs.Builds.{Build, Cell}
use Rattle.registry_laws.specs.Agree.{source_names}
use Rattle.store_laws.specs.Items.{is_number, piece_at, is_range_of}
use Rattle.item_shares.specs.Shares.{item_at}

-- the blobs that have an entry, each with it
abbrev pub paired : List Build → List (Option Entry) → List (Build × Entry)
paired [] entries = []
paired (build ∷ builds) [] = []
paired (build ∷ builds) (None ∷ entries) = paired builds entries
paired (build ∷ builds) (Some entry ∷ entries) = (build, entry) ∷ paired builds entries

-- whether a step is the piece
abbrev pub is_own_step : ℕ → Step → Bool
is_own_step number (Own piece len) = piece.0 == number
is_own_step number (Fixed view) = false
is_own_step number (Source name off len) = false

-- whether a view is on the item of the piece
abbrev pub is_on : List (Option Share) → ℕ → View → Bool
is_on shares number view = is_number number (piece_at shares view.slot)

-- what is read off an entry: of the views of one that is done, and of the steps of an unfinished one
abbrev pub has_by : (View → Bool) → (Step → Bool) → Status → Entry → Bool
has_by on own statuses.Done entry = list_any on entry.views
has_by on own statuses.PendingQuota entry = list_any own entry.recipe
has_by on own statuses.PendingTransport entry = list_any own entry.recipe
has_by on own statuses.PendingReferencedBlobs entry = list_any own entry.recipe
has_by on own status entry = false

abbrev pub has : (View → Bool) → (Step → Bool) → Build × Entry → Bool
has on own pair = has_by on own pair.1.status pair.1

-- an entry has the piece: a view of one that is done is on its item, or it is one of an unfinished one's own
abbrev pub has_piece : List (Option Share) → ℕ → Build × Entry → Bool
has_piece shares number pair = has (is_on shares number) (is_own_step number) pair

-- an entry has the data handle: a view of one that is done is on its item, or one that stands in the recipe of an unfinished one is
abbrev pub is_range_at : List (Option Share) → ℕ → View → Bool
is_range_at shares k view = option_map_or (is_range_of k) (item_at shares view.slot) false

abbrev pub is_range_step : List (Option Share) → ℕ → Step → Bool
is_range_step shares k (Own piece len) = false
is_range_step shares k (Fixed view) = is_range_at shares k view
is_range_step shares k (Source name off len) = false

abbrev pub has_slot : List (Option Share) → ℕ → Build × Entry → Bool
has_slot shares k pair = has (is_range_at shares k) (is_range_step shares k) pair

-- whether an entry isn't broken, and its blob has a cell that passes
abbrev pub is_unbroken : Status → Bool
is_unbroken status = not (is_broken status)

abbrev pub reaches : (Cell → Bool) → Build × Entry → Bool
reaches test pair = is_unbroken pair.1.status && list_any test pair.0.cells

-- whether a recipe takes bytes from the blob
abbrev pub takes_from : ℕ → List Step → Bool
takes_from name recipe = list_any (λ (source : ℕ). source == name) (source_names recipe)

-- each source of an unfinished entry is one of the unbroken ones before it
abbrev pub AreClosed : (ℕ → Bool) → List (Build × Entry) → Type 0
AreClosed known [] = Unit {0}
AreClosed known (pair ∷ pairs) =
    ((name : ℕ) → is_pending pair.1.status ≡ true → takes_from name pair.1.recipe ≡ true → known name ≡ true)
    × AreClosed (λ (name : ℕ). known name || (is_unbroken pair.1.status && pair.0.name == name)) pairs
