-- The order of use of the pieces in memory, and which are paged. Own.
use Rattle.std.specs.Prelude.{ℕ, ◌+◌, ◌-◌, ◌==◌, ◌&&◌, not, List, [], ◌∷◌, ◌++◌, map, filter, filter_map, find, fold, min, Option, None, Some, if◌then◌else◌}
use Rattle.std.specs.Option.{option_map}
use Rattle.session_script.specs.declared.event.Event.{Event}
use Rattle.session_script.specs.declared.event.Event.TheVariants as events
use Rattle.answer_text.specs.declared.answer.Answer.{Answer}
use Rattle.answer_text.specs.declared.answer.Answer.TheVariants as answers
use Rattle.blob_words.specs.declared.limits.Limits.{Limits}
use Rattle.recent_items.specs.Recent.{victims}
use Rattle.blob_model.specs.History.{History, start, heard, refused, said}
use Rattle.blob_model.specs.Parts.{own_bytes}
use Rattle.blob_model.specs.Builds.{Cell, Build, builds}
use Rattle.blob_model.specs.Standing.{is_done}
use Rattle.blob_model.specs.Readers.{OpenReader, reader_at}
use Rattle.blob_model.specs.Pieces.{Piece, pieces, pieces_of, piece_with}
use Rattle.blob_model.specs.Reached.{reached}
use Rattle.blob_model.specs.Pages.{place, is_memory}
use Rattle.blob_model.specs.Jobs.{is_in_job}
use Rattle.blob_model.specs.Tally.{in_memory_of, memory, disk}
use Rattle.blob_model.specs.Waits.{waits}
use Rattle.blob_model.specs.Chunk.{chunk}

-- a use makes a piece the latest
abbrev pub used : List ℕ → ℕ → List ℕ
used before number = filter (λ (each : ℕ). not (each == number)) before ++ number ∷ []

-- the piece of a cell, where it is in memory
abbrev pub memory_piece : ℕ → History → Option Piece → List ℕ
memory_piece page h None = []
memory_piece page h (Some piece) = if is_memory (place page h piece) then piece.number ∷ [] else []

-- the bytes of a cell use its piece where that is in memory
abbrev pub used_by_cell : ℕ → History → List ℕ → Cell → List ℕ
used_by_cell page h before cell = fold used before (memory_piece page h (piece_with (pieces page h) cell))

abbrev pub used_by_chunk : Limits → History → Option OpenReader → List ℕ → List ℕ
used_by_chunk l h None before = before
used_by_chunk l h (Some reader) before = fold (used_by_cell l.page h) before (chunk l h reader)

-- a step that gives bytes uses the pieces in the order of their last bytes in it
abbrev pub used_by_line : Limits → History → Event → Answer → List ℕ → List ℕ
used_by_line l h (events.Step reader) (answers.Given number bytes) before = used_by_chunk l h (reader_at l.page h reader.0) before
used_by_line l h event answer before = before

-- a blob that gets done uses its pieces, in rising number
abbrev pub used_by_answer : ℕ → History → Answer → List ℕ → List ℕ
used_by_answer page h (answers.Done b) before = fold used before (map (λ (piece : Piece). piece.number) (pieces_of page h b))
used_by_answer page h answer before = before

-- the pieces ever used, by last use, the earliest first
abbrev pub last_uses : Limits → History → List ℕ
last_uses l start = []
last_uses l (heard h event answer) = used_by_line l h event answer (last_uses l h)
last_uses l (refused h event why) = last_uses l h
last_uses l (said h answer) = used_by_answer l.page h answer (last_uses l h)

-- the reached pieces in memory whose own blob is done and that no job in flight names
abbrev pub pageable : ℕ → History → List Piece
pageable page h = filter (λ (piece : Piece). is_done h piece.blob && not (is_in_job h piece.number)) (in_memory_of h (builds page h) (reached page h))

-- the piece of this number with its length
abbrev pub with_length : List Piece → ℕ → Option (ℕ × ℕ)
with_length list number = option_map (λ (piece : Piece). (piece.number, piece.len)) (find (λ (piece : Piece). piece.number == number) list)

-- those pieces by last use, the earliest first, each with its length
abbrev pub recency : Limits → History → List (ℕ × ℕ)
recency l h = filter_map (with_length (pageable l.page h)) (last_uses l h)

-- the own bytes of the head of those that wait
abbrev pub head_bytes : List Build → ℕ
head_bytes [] = 0
head_bytes (build ∷ more) = own_bytes build.parts

-- the pieces to page: the shortest prefix that makes room for the head, cut where a page file or the room on the disk would be passed
abbrev pub chosen : Limits → History → List ℕ
chosen l h = victims (memory l.page h + head_bytes (waits l.page h) - l.memory) (min l.page (l.disk - disk l.page h)) (recency l h)
