-- What a cell is when it is read, off contents. Own.
use Rattle.std.specs.Prelude.{ℕ, ◌&&◌, Bool, true, false, not, List, [], ◌∷◌, is_some, slice_get, Option, None, Some}
use Rattle.std.specs.Option.{option_and_then}
use Rattle.blob_words.specs.declared.limits.Limits.{Limits}
use Rattle.blob_words.specs.declared.plan.Plan.{Plan}
use Rattle.blob_words.specs.declared.plan.Plan.TheVariants as plans
use Rattle.blob_words.specs.declared.number.ReaderId.{ReaderId}
use Rattle.answer_text.specs.declared.answer.Answer.{Answer}
use Rattle.answer_text.specs.declared.answer.Answer.TheVariants as answers
use Rattle.blob_model.specs.Parts.{embedded}
use Rattle.blob_model.specs.Builds.{Cell, sent, filed, lent, Build, build_in}
use Rattle.blob_model.specs.Pieces.{Piece, piece_with}
use Rattle.blob_model.specs.Pages.{Page}
use Rattle.blob_model.specs.Transport.{spans, byte_from}
use Rattle.blob_model.specs.Chunk.{gives}
use Rattle.blob_model.specs.Value.{is_byte}
use Rattle.blob_model.specs.Own.{page_fault}
use Rattle.history_notions.specs.Kept.{Note, Brought, recorded_in, content_in, arrivals_in}
use Rattle.history_notions.specs.Placed.{place_at}
use Rattle.history_notions.specs.declared.run.Source.{Source}
use Rattle.history_notions.specs.declared.run.Source.TheVariants as kinds
use Rattle.history_notions.specs.Runs.{cell_at}
use Rattle.history_notions.specs.declared.contents.Contents.{Contents}
use Rattle.transcript_audit.specs.declared.cells.At.{At}

-- the cell at an index of a source
abbrev pub cell_of : At → Cell
cell_of at = cell_at at.source at.index

-- a cell of a file fails where the file isn't recorded at its stamp, or is too short
abbrev pub fails_in : List Note → Cell → Bool
fails_in notes (filed name stamp index) = not (gives (recorded_in notes name) stamp index)
fails_in notes cell = false

-- a cell in a page file or in a slot may fail when it is read
abbrev pub sent_fault_in : List Page → List Build → ReaderId → Option Piece → List (List Answer)
sent_fault_in pages builds reader None = []
sent_fault_in pages builds reader (Some piece) = page_fault reader (place_at pages builds piece)

abbrev pub cell_fault_in : List Page → List Build → List Piece → ReaderId → Cell → List (List Answer)
cell_fault_in pages builds pieces reader (sent blob index) = sent_fault_in pages builds reader (piece_with pieces (sent blob index))
cell_fault_in pages builds pieces reader (filed name stamp index) = []
cell_fault_in pages builds pieces reader (lent slot index) = (answers.HandleFailed reader slot ∷ []) ∷ []

-- the own byte of a blob at a place, by its plan
abbrev pub byte_by : Limits → List Brought → Build → ℕ → Option Plan → Option ℕ
byte_by limits brought build index (Some plans.Inline) = slice_get (embedded build.parts) index
byte_by limits brought build index plan = byte_from (arrivals_in brought build.name) 0 (spans limits build) index

-- whether a byte agrees with a cell; that of a data handle is not told
abbrev pub agrees_in : Contents → Cell → ℕ → Bool
agrees_in contents (sent blob index) byte =
    is_byte (option_and_then (λ (build : Build). byte_by contents.limits contents.kept.brought build index build.plan) (build_in contents.builds blob)) byte
agrees_in contents (filed name stamp index) byte = is_byte (option_and_then (λ (bytes : List ℕ). slice_get bytes index)
    (content_in contents.kept.notes name stamp)) byte
agrees_in contents (lent slot index) byte = is_some (slice_get contents.sizes slot)

-- as many bytes as cells, each agreeing with its cell
abbrev pub agree_in : Contents → List Cell → List ℕ → Bool
agree_in contents [] [] = true
agree_in contents [] (byte ∷ bytes) = false
agree_in contents (cell ∷ cells) [] = false
agree_in contents (cell ∷ cells) (byte ∷ bytes) = agrees_in contents cell byte && agree_in contents cells bytes

-- the file of a source
abbrev pub file_in : Source → Option (List ℕ)
file_in (kinds.Filed name stamp) = Some name
file_in source = None
