-- The pieces ever used differ.
use Rattle.std.proofs.Common.{ℕ, List, map, Option, Some, None}
use Rattle.session_script.specs.declared.event.Event.{Event}
use Rattle.session_script.specs.declared.event.Event.TheVariants as events
use Rattle.answer_text.specs.declared.answer.Answer.{Answer}
use Rattle.answer_text.specs.declared.answer.Answer.TheVariants as answers
use Rattle.blob_words.specs.declared.limits.Limits.{Limits}
use Rattle.blob_model.specs.History.{History, start, heard, refused, said}
use Rattle.blob_model.specs.Builds.{Cell}
use Rattle.blob_model.specs.Readers.{OpenReader, reader_at}
use Rattle.blob_model.specs.Pieces.{Piece, pieces, pieces_of, piece_with}
use Rattle.blob_model.specs.Chunk.{chunk}
use Rattle.blob_model.specs.Victims.{used, memory_piece, used_by_cell, used_by_chunk, used_by_line, used_by_answer, last_uses}
use Rattle.blob_model.proofs.Lists.{AreApart}
use Rattle.blob_model.proofs.disk.Victims.{used_apart, fold_apart}

cell_apart : (page : ℕ) (h : History) (before : List ℕ) (cell : Cell) → AreApart before → AreApart (used_by_cell page h before cell)
cell_apart page h before cell apart = fold_apart used used_apart (memory_piece page h (piece_with (pieces page h) cell)) before apart

chunk_apart : (l : Limits) (h : History) (reader : Option OpenReader) (before : List ℕ) → AreApart before → AreApart (used_by_chunk l h reader before)
chunk_apart l h None before apart = apart
chunk_apart l h (Some reader) before apart = fold_apart (used_by_cell l.page h) (λ each cell a. cell_apart l.page h each cell a) (chunk l h reader) before apart

line_apart : (l : Limits) (h : History) (event : Event) (answer : Answer) (before : List ℕ) → AreApart before → AreApart (used_by_line l h event answer before)
line_apart l h (events.Step reader) (answers.Given number bytes) before apart = chunk_apart l h (reader_at l.page h reader.0) before apart
line_apart l h event answer before apart = apart

answer_apart : (page : ℕ) (h : History) (answer : Answer) (before : List ℕ) → AreApart before → AreApart (used_by_answer page h answer before)
answer_apart page h (answers.Done b) before apart = fold_apart used used_apart (map (λ (piece : Piece). piece.number) (pieces_of page h b)) before apart
answer_apart page h answer before apart = apart

pub uses_apart : (l : Limits) (h : History) → AreApart (last_uses l h)
uses_apart l start = tt
uses_apart l (heard h event answer) = line_apart l h event answer (last_uses l h) (uses_apart l h)
uses_apart l (refused h event why) = uses_apart l h
uses_apart l (said h answer) = answer_apart l.page h answer (last_uses l h) (uses_apart l h)
