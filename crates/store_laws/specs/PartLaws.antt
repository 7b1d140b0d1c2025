-- The recipe of parts, made part by part, and the cells that it stands for. Own.
use Rattle.std.specs.Prelude.{ℕ, zero, suc, ◌≡◌, ◌+◌, ◌<◌, List, [], ◌∷◌, ◌++◌, length, map, Option, Some}
use Rattle.std.specs.Int.{div_ceil}
use Rattle.std.specs.List.{AllByRecursion, range_with_len}
use Rattle.blob_words.specs.declared.number.PieceNo.{PieceNo}
use Rattle.session_script.specs.declared.event.Part.{Part}
use Rattle.session_script.specs.declared.event.Part.TheVariants.{Embedded, Asked, FileRange, BlobRange, HandleRange}
use Rattle.item_shares.specs.declared.item.Item.TheVariants.{File, Range}
use Rattle.item_shares.specs.declared.shares.Share.{Share}
use Rattle.item_shares.specs.Shares.{item_at}
use Rattle.blob_items.specs.declared.view.View.{View}
use Rattle.blob_entries.specs.declared.step.Step.{Step}
use Rattle.blob_entries.specs.declared.step.Step.TheVariants.{Own, Fixed, Source}
use Rattle.transport_plan.specs.Spans.{piece_spans, span_at}
use Rattle.blob_model.specs.Builds.{Build, cells_of}
use Rattle.blob_model.specs.Parts.{own_lengths}
use Rattle.blob_model.specs.Pieces.{Piece, numbered}
use Rattle.store_laws.specs.Cells.{piece_in}
use Rattle.store_laws.specs.Recipes.{recipe_cells}

abbrev pub piece_no : ℕ → PieceNo
piece_no number = record { 0 = number }

-- the lengths of the pieces of an own part
abbrev pub piece_lengths : ℕ → ℕ → List ℕ
piece_lengths page len = map (λ (k : ℕ). (span_at page len k).1) (range_with_len 0 (div_ceil len page))

-- a step for each piece of an own part, numbered from `number`
abbrev pub own_steps : ℕ → List ℕ → List Step
own_steps number [] = []
own_steps number (len ∷ lengths) = Own (piece_no number) len ∷ own_steps (number + 1) lengths

-- a view of so many bytes from the first one on
abbrev pub IsAll : ℕ → View → Type 0
IsAll len view = (view.off ≡ 0) × (view.len ≡ len)

-- the steps of parts: own pieces are numbered from `number` on, and each range of a file or a data handle that isn't empty takes the next view
abbrev pub recipe_of : ℕ → ℕ → List View → List Part → List Step
recipe_of page number views [] = []
recipe_of page number views (Embedded bytes ∷ parts) =
    own_steps number (piece_lengths page (length bytes)) ++ recipe_of page (number + length (piece_lengths page (length bytes))) views parts
recipe_of page number views (Asked len ∷ parts) =
    own_steps number (piece_lengths page len) ++ recipe_of page (number + length (piece_lengths page len)) views parts
recipe_of page number views (FileRange name off zero stamp ∷ parts) = recipe_of page number views parts
recipe_of page number [] (FileRange name off (suc len) stamp ∷ parts) = recipe_of page number [] parts
recipe_of page number (view ∷ views) (FileRange name off (suc len) stamp ∷ parts) = Fixed view ∷ recipe_of page number views parts
recipe_of page number views (BlobRange b off len ∷ parts) = Source b off len ∷ recipe_of page number views parts
recipe_of page number views (HandleRange k off zero ∷ parts) = recipe_of page number views parts
recipe_of page number [] (HandleRange k off (suc len) ∷ parts) = recipe_of page number [] parts
recipe_of page number (view ∷ views) (HandleRange k off (suc len) ∷ parts) = Fixed view ∷ recipe_of page number views parts

-- the views hold the ranges of the parts that aren't empty, in order
abbrev pub AreRanges : List (Option Share) → List View → List Part → Type 0
AreRanges shares views [] = Unit {0}
AreRanges shares views (Embedded bytes ∷ parts) = AreRanges shares views parts
AreRanges shares views (Asked len ∷ parts) = AreRanges shares views parts
AreRanges shares views (FileRange name off zero stamp ∷ parts) = AreRanges shares views parts
AreRanges shares [] (FileRange name off (suc len) stamp ∷ parts) = ⊥
AreRanges shares (view ∷ views) (FileRange name off (suc len) stamp ∷ parts) =
    IsAll (suc len) view × (item_at shares view.slot ≡ Some (File name stamp off (suc len))) × AreRanges shares views parts
AreRanges shares views (BlobRange b off len ∷ parts) = AreRanges shares views parts
AreRanges shares views (HandleRange k off zero ∷ parts) = AreRanges shares views parts
AreRanges shares [] (HandleRange k off (suc len) ∷ parts) = ⊥
AreRanges shares (view ∷ views) (HandleRange k off (suc len) ∷ parts) =
    IsAll (suc len) view × (item_at shares view.slot ≡ Some (Range k off (suc len))) × AreRanges shares views parts

-- pieces that are found by their numbers
abbrev pub AreFound : List Piece → List Piece → Type 0
AreFound all list = AllByRecursion (λ (piece : Piece). piece_in all piece.number ≡ Some piece) list

-- a recipe of parts stands for their cells, where its pieces are found and its views hold the ranges
abbrev pub RecipesStand : Type 0
RecipesStand =
    (builds : List Build) (all : List Piece) (shares : List (Option Share)) (page name number from : ℕ) (views : List View) (parts : List Part) → 0 < page
    → AreFound all (numbered name number (piece_spans page from (own_lengths parts))) → AreRanges shares views parts
    → recipe_cells builds all shares (recipe_of page number views parts) ≡ cells_of builds name from parts
