-- What entries stand for: the cells of their views, or of the steps of their recipes. Own.
use Rattle.std.specs.Prelude.{ℕ, ◌≡◌, ◌<◌, List, [], ◌∷◌, map, take, drop, flat_map, Option, None, Some, IsSomeAnd, true}
use Rattle.std.specs.List.{AllByRecursion, range_with_len}
use Rattle.blob_words.specs.declared.status.Status.{Status}
use Rattle.blob_words.specs.declared.status.Status.TheVariants as statuses
use Rattle.item_shares.specs.declared.shares.Share.{Share}
use Rattle.blob_entries.specs.Holdings.{held_views, own_views}
use Rattle.blob_entries.specs.Statuses.{is_pending}
use Rattle.blob_entries.specs.declared.entry.Entry.{Entry}
use Rattle.blob_entries.specs.declared.step.Step.{Step}
use Rattle.blob_entries.specs.declared.step.Step.TheVariants.{Own, Fixed, Source}
use Rattle.blob_model.specs.Builds.{Cell, Build, cells_in}
use Rattle.blob_model.specs.Parts.{sources}
use Rattle.blob_model.specs.Pieces.{Piece}
use Rattle.registry_laws.specs.Agree.{Beside, source_names}
use Rattle.store_laws.specs.Cells.{piece_in, piece_cell, denoted}
use Rattle.store_laws.specs.Items.{IsInside, piece_at}
use Rattle.store_laws.specs.Rows.{AreWritten, Row}

-- the cells of a piece of a blob's own, of this length
abbrev pub own_cells : List Piece → ℕ → ℕ → List Cell
own_cells all number len = map (piece_cell (piece_in all number)) (range_with_len 0 len)

-- the cells of a step: of its piece, of its view, or the sublist of its source's
abbrev pub step_cells : List Build → List Piece → List (Option Share) → Step → List Cell
step_cells builds all shares (Own piece len) = own_cells all piece.0 len
step_cells builds all shares (Fixed view) = denoted all shares (view ∷ [])
step_cells builds all shares (Source name off len) = take len (drop off (cells_in builds name))

abbrev pub recipe_cells : List Build → List Piece → List (Option Share) → List Step → List Cell
recipe_cells builds all shares recipe = flat_map (step_cells builds all shares) recipe

-- the cells of the own pieces alone
abbrev pub own_step_cells : List Piece → Step → List Cell
own_step_cells all (Own piece len) = own_cells all piece.0 len
own_step_cells all (Fixed view) = []
own_step_cells all (Source name off len) = []

-- the views of an entry that is done are the cells of its blob; the recipe of an unfinished one is, and the views brought are those of its
-- own pieces, in order; of a broken one nothing is said, and none is dropped
abbrev pub StandsFor : List Build → List Piece → List (Option Share) → List Cell → Status → Entry → Type 0
StandsFor builds all shares cells statuses.Done entry = (denoted all shares entry.views ≡ cells) × (entry.recipe ≡ []) × (entry.own ≡ None)
StandsFor builds all shares cells statuses.PendingQuota entry =
    (recipe_cells builds all shares entry.recipe ≡ cells) × (entry.views ≡ []) × (entry.own ≡ None)
StandsFor builds all shares cells statuses.PendingTransport entry =
    (recipe_cells builds all shares entry.recipe ≡ cells) × (entry.views ≡ []) × (entry.own ≡ None)
StandsFor builds all shares cells statuses.PendingReferencedBlobs entry =
    (recipe_cells builds all shares entry.recipe ≡ cells) × (entry.views ≡ [])
    × (denoted all shares (own_views entry.own) ≡ flat_map (own_step_cells all) entry.recipe)
StandsFor builds all shares cells statuses.Dereferenced entry = ⊥
StandsFor builds all shares cells status entry = Unit {0}

-- a step is sound: an own one is as long as its piece, and a view that is there already is of a file or a data handle
abbrev pub IsStep : List Piece → List (Option Share) → Step → Type 0
IsStep all shares (Own piece len) = (0 < len) × IsSomeAnd (piece_in all piece.0) (λ (one : Piece). len ≡ one.len)
IsStep all shares (Fixed view) = IsInside all shares view × (piece_at shares view.slot ≡ None)
IsStep all shares (Source name off len) = Unit {0}

-- the numbers of the own pieces of a recipe
abbrev pub own_number : Step → List ℕ
own_number (Own piece len) = piece.0 ∷ []
own_number (Fixed view) = []
own_number (Source name off len) = []

abbrev pub own_numbers : List Step → List ℕ
own_numbers recipe = flat_map own_number recipe

-- an entry stands for its blob, whose own pieces have these numbers
pub record IsEntryFor (builds : List Build) (all : List Piece) (shares : List (Option Share)) (own : ℕ → List ℕ) (build : Build) (entry : Entry) : Type 0 where
  pub stands : StandsFor builds all shares build.cells entry.status entry
  pub steps : AllByRecursion (IsStep all shares) entry.recipe
  pub inside : AllByRecursion (IsInside all shares) (held_views entry)
  pub owned : is_pending entry.status ≡ true → own_numbers entry.recipe ≡ own build.name
  pub sources : is_pending entry.status ≡ true → source_names entry.recipe ≡ sources build.parts

abbrev pub EntryStands : List Build → List Piece → List (Option Share) → (ℕ → List ℕ) → Build → Option Entry → Type 0
EntryStands builds all shares own build None = Unit {0}
EntryStands builds all shares own build (Some entry) = IsEntryFor builds all shares own build entry

-- two lists, item by item, where something stands
abbrev pub RowsBeside : (Build → Row → Type 0) → List Build → List (Option Row) → Type 0
RowsBeside P [] rows = Unit {0}
RowsBeside P (build ∷ builds) [] = Unit {0}
RowsBeside P (build ∷ builds) (None ∷ rows) = RowsBeside P builds rows
RowsBeside P (build ∷ builds) (Some row ∷ rows) = P build row × RowsBeside P builds rows

-- each entry stands for its blob, and the slots of pieces on their way hold the pieces of the blob
pub record EntriesStand (builds : List Build) (all : List Piece) (own : ℕ → List ℕ) (shares : List (Option Share)) (entries : List (Option Entry))
    (rows : List (Option Row)) : Type 0 where
  pub each : Beside (EntryStands builds all shares own) builds entries
  pub written : RowsBeside (λ (build : Build) (row : Row). AreWritten shares (own build.name) row.coming) builds rows
