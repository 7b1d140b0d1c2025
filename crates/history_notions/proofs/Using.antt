-- Which pieces cells use, cell by cell.
use Rattle.std.proofs.Common.{◌≡◌, ℕ, ◌+◌, ◌==◌, Bool, true, false, cond, List, [], ◌∷◌, ◌++◌, length, map, filter, fold, take, Option, Some, None, refl, sym, ap, ◌∙◌, arith}
use Rattle.std.specs.Prelude.{find}
use Rattle.std.specs.List.{range_with_len}
use Rattle.std.proofs.lemmas.List.FromFn.{map-range_with_len_more}
use Rattle.std.proofs.lemmas.List.Sums.{fold-append}
use Rattle.blob_model.specs.Session.{Session, page_limit}
use Rattle.blob_model.specs.History.{History}
use Rattle.blob_model.specs.Builds.{Cell, filed, lent, Build, builds}
use Rattle.blob_model.specs.Readers.{OpenReader, reader_at}
use Rattle.blob_model.specs.Chunk.{chunk}
use Rattle.blob_model.specs.Pieces.{Piece, pieces, owns, piece_with}
use Rattle.blob_model.specs.Pages.{Page, pages, is_memory, place}
use Rattle.blob_model.specs.Victims.{used, used_by_cell, used_by_chunk, memory_piece}
use Rattle.history_notions.specs.declared.contents.Contents.{Contents}
use Rattle.history_notions.specs.declared.run.Source.{Source}
use Rattle.history_notions.specs.Runs.{cell_at}
use Rattle.history_notions.specs.Follows.{Follows}
use Rattle.history_notions.specs.Uses.{memory_number, use_cell, use_cells}

-- cells of files and of handles have no piece
no_piece_filed : (list : List Piece) (name : List ℕ) (stamp index : ℕ) → piece_with list (filed name stamp index) ≡ None
no_piece_filed [] name stamp index = refl
no_piece_filed (piece ∷ list) name stamp index = no_piece_filed list name stamp index

no_piece_lent : (list : List Piece) (slot index : ℕ) → piece_with list (lent slot index) ≡ None
no_piece_lent [] slot index = refl
no_piece_lent (piece ∷ list) slot index = no_piece_lent list slot index

pub files_use_none : (written : List Page) (blobs : List Build) (list : List Piece) (before : List ℕ) (name : List ℕ) (stamp : ℕ) (indexes : List ℕ)
    → use_cells written blobs list before (map (λ (index : ℕ). filed name stamp index) indexes) ≡ before
files_use_none written blobs list before name stamp [] = refl
files_use_none written blobs list before name stamp (index ∷ indexes) =
    ap (λ (found : Option Piece). use_cells written blobs list (fold used before (memory_number written blobs found))
    (map (λ (each : ℕ). filed name stamp each) indexes)) (no_piece_filed list name stamp index)
    ∙ files_use_none written blobs list before name stamp indexes

pub handles_use_none : (written : List Page) (blobs : List Build) (list : List Piece) (before : List ℕ) (slot : ℕ) (indexes : List ℕ)
    → use_cells written blobs list before (map (λ (index : ℕ). lent slot index) indexes) ≡ before
handles_use_none written blobs list before slot [] = refl
handles_use_none written blobs list before slot (index ∷ indexes) =
    ap (λ (found : Option Piece). use_cells written blobs list (fold used before (memory_number written blobs found))
    (map (λ (each : ℕ). lent slot each) indexes)) (no_piece_lent list slot index)
    ∙ handles_use_none written blobs list before slot indexes

-- one cell more of a source
pub index_more : (written : List Page) (blobs : List Build) (list : List Piece) (before : List ℕ) (source : Source) (from k : ℕ)
    → use_cells written blobs list before (map (cell_at source) (range_with_len from (k + 1)))
    ≡ use_cell written blobs list (use_cells written blobs list before (map (cell_at source) (range_with_len from k))) (cell_at source (from + k))
index_more written blobs list before source from k =
    ap (use_cells written blobs list before) (map-range_with_len_more (cell_at source) from k (from + k) refl)
    ∙ fold-append (use_cell written blobs list) before (map (cell_at source) (range_with_len from k)) (cell_at source (from + k) ∷ [])

-- what is read off contents is what the history says
memory_same : (s : Session) (h : History) (contents : Contents) → Follows s h contents → (found : Option Piece)
    → memory_number contents.kept.pages contents.builds found ≡ memory_piece (page_limit s) h found
memory_same s h contents follows None = refl
memory_same s h contents follows (Some piece) =
    ap (λ (written : List Page). memory_number written contents.builds (Some piece)) follows.keeps.pages_are
    ∙ ap (λ (blobs : List Build). memory_number (pages h) blobs (Some piece)) follows.builds_are

cell_same : (s : Session) (h : History) (contents : Contents) → Follows s h contents → (before : List ℕ) (cell : Cell)
    → use_cell contents.kept.pages contents.builds contents.pieces before cell ≡ used_by_cell (page_limit s) h before cell
cell_same s h contents follows before cell =
    ap (λ (list : List Piece). use_cell contents.kept.pages contents.builds list before cell) follows.pieces_are
    ∙ ap (fold used before) (memory_same s h contents follows (piece_with (pieces (page_limit s) h) cell))

pub cells_same : (s : Session) (h : History) (contents : Contents) → Follows s h contents → (cells : List Cell) (before : List ℕ)
    → use_cells contents.kept.pages contents.builds contents.pieces before cells ≡ fold (used_by_cell (page_limit s) h) before cells
cells_same s h contents follows [] before = refl
cells_same s h contents follows (cell ∷ cells) before =
    ap (λ (after : List ℕ). use_cells contents.kept.pages contents.builds contents.pieces after cells) (cell_same s h contents follows before cell)
    ∙ cells_same s h contents follows cells (used_by_cell (page_limit s) h before cell)

-- the chunk of an open reader
pub chunk_uses : (s : Session) (h : History) (contents : Contents) (reader : OpenReader) (number : ℕ) (before : List ℕ) (cells : List Cell)
    → Follows s h contents
    → Some reader ≡ reader_at (page_limit s) h number → cells ≡ chunk s.limits h reader
    → use_cells contents.kept.pages contents.builds contents.pieces before cells ≡ used_by_chunk s.limits h (reader_at (page_limit s) h number) before
chunk_uses s h contents reader number before cells follows at are =
    ap (use_cells contents.kept.pages contents.builds contents.pieces before) are
    ∙ cells_same s h contents follows (chunk s.limits h reader) before
    ∙ ap (λ (found : Option OpenReader). used_by_chunk s.limits h found before) at
