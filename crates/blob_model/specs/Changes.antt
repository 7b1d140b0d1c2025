-- What a transcript says of the page disk: the changes on it, those of closing, and the bytes read from it. Own.
use Rattle.std.specs.Prelude.{ℕ, ◌+◌, ◌==◌, Bool, true, false, not, List, [], ◌∷◌, ◌++◌, map, filter, filter_map, flat_map, count_by, find, Option, None, Some}
use Rattle.std.specs.Option.{option_map_or}
use Rattle.std.specs.List.{list_any, range_with_len}
use Rattle.session_script.specs.declared.event.Event.{Event}
use Rattle.session_script.specs.declared.event.Event.TheVariants as events
use Rattle.answer_text.specs.declared.answer.Answer.{Answer}
use Rattle.answer_text.specs.declared.answer.Answer.TheVariants as answers
use Rattle.blob_model.specs.Session.{Session, page_limit}
use Rattle.blob_model.specs.History.{History, start, heard, refused, said}
use Rattle.blob_model.specs.Builds.{sent}
use Rattle.blob_model.specs.Readers.{OpenReader, reader_at}
use Rattle.blob_model.specs.Pieces.{Piece, pieces}
use Rattle.blob_model.specs.Pages.{numbers}
use Rattle.blob_model.specs.Chunk.{chunk}
use Rattle.blob_model.specs.Value.{value, is_paged}

-- a change on the page disk: a page file was put with its bytes, torn by a write that failed, removed, or left by a removal that failed
pub data Change : Type 0 where
  put : (page : ℕ) → (bytes : List ℕ) → Change
  torn : (page : ℕ) → Change
  remove : (page : ℕ) → Change
  leave : (page : ℕ) → Change

-- the bytes of a piece as they were sent
abbrev pub piece_bytes : Session → History → Piece → List ℕ
piece_bytes s h piece = filter_map (λ (index : ℕ). value s h (sent piece.blob index)) (range_with_len piece.from piece.len)

-- the bytes of the piece of this number
abbrev pub numbered_bytes : Session → History → ℕ → List ℕ
numbered_bytes s h number = option_map_or (piece_bytes s h) (find (λ (piece : Piece). piece.number == number) (pieces (page_limit s) h)) []

abbrev pub list_bytes : Session → History → List ℕ → List ℕ
list_bytes s h list = flat_map (numbered_bytes s h) list

-- an answer adds the change that it tells
abbrev pub changes_after : Session → History → Answer → List Change → List Change
changes_after s h (answers.Stored file piece) before = before ++ put file.0 (numbered_bytes s h piece.0) ∷ []
changes_after s h (answers.StoreFailed file) before = before ++ torn file.0 ∷ []
changes_after s h (answers.Paged job file list) before = before ++ put file.0 (list_bytes s h (numbers list)) ∷ []
changes_after s h (answers.PageFailed job file) before = before ++ torn file.0 ∷ []
changes_after s h (answers.Moved job file list) before = before ++ put file.0 (list_bytes s h (numbers list)) ∷ []
changes_after s h (answers.MoveFailed job file) before = before ++ torn file.0 ∷ []
changes_after s h (answers.Removed file) before = before ++ remove file.0 ∷ []
changes_after s h (answers.Left file) before = before ++ leave file.0 ∷ []
changes_after s h answer before = before

-- the changes of a history, in order
abbrev pub changes : Session → History → List Change
changes s start = []
changes s (heard h event answer) = changes_after s h answer (changes s h)
changes s (refused h event why) = changes s h
changes s (said h answer) = changes_after s h answer (changes s h)

-- a page file that was written, with or without success, and one that was asked to be removed
abbrev pub written_page : Change → List ℕ
written_page (put page bytes) = page ∷ []
written_page (torn page) = page ∷ []
written_page change = []

abbrev pub asked_page : Change → List ℕ
asked_page (remove page) = page ∷ []
asked_page (leave page) = page ∷ []
asked_page change = []

-- the page files of which closing asks for the removal: those written and not asked for, in rising number
abbrev pub unasked : List Change → List ℕ
unasked list = filter (λ (page : ℕ). not (list_any (λ (each : ℕ). each == page) (flat_map asked_page list))) (flat_map written_page list)

abbrev pub closing : (ℕ → Bool) → List Change → List Change
closing is_left list = map (λ (page : ℕ). elim (is_left page) [ true ↦ leave page | false ↦ remove page ]) (unasked list)

-- the bytes that a line gives of pieces in page files
abbrev pub paged_cells : Session → History → Option OpenReader → ℕ
paged_cells s h None = 0
paged_cells s h (Some reader) = count_by (is_paged (page_limit s) h) (chunk s.limits h reader)

abbrev pub page_bytes_after : Session → History → Event → Answer → ℕ → ℕ
page_bytes_after s h (events.Step reader) (answers.Given number bytes) before = before + paged_cells s h (reader_at (page_limit s) h reader.0)
page_bytes_after s h event answer before = before

-- the bytes given of pieces that were in a page file by then: at least so many are read from the disk
abbrev pub page_bytes : Session → History → ℕ
page_bytes s start = 0
page_bytes s (heard h event answer) = page_bytes_after s h event answer (page_bytes s h)
page_bytes s (refused h event why) = page_bytes s h
page_bytes s (said h answer) = page_bytes s h
