-- The pieces of blobs. Own.
use Rattle.std.specs.Prelude.{ℕ, ◌+◌, ◌==◌, ◌&&◌, Bool, false, List, [], ◌∷◌, ◌++◌, length, filter, find, Option, None, Some, nat_lt, nat_le}
use Rattle.std.specs.Option.{option_map_or}
use Rattle.blob_words.specs.declared.plan.Plan.{Plan}
use Rattle.transport_plan.specs.Spans.{piece_spans}
use Rattle.blob_model.specs.History.{History}
use Rattle.blob_model.specs.Parts.{own_lengths}
use Rattle.blob_model.specs.Builds.{Cell, sent, Build, builds}

-- a piece: its number, its blob, and where it stands in the blob's own bytes
pub record Piece : Type 0 where
  pub number : ℕ
  pub blob : ℕ
  pub from : ℕ
  pub len : ℕ

-- where the pieces of a blob stand: each own part is cut at the multiples of `page` from its own start; a blob that broke at its own line has none
abbrev pub planned_spans : ℕ → Build → Option Plan → List (ℕ × ℕ)
planned_spans page build None = []
planned_spans page build (Some plan) = piece_spans page 0 (own_lengths build.parts)

abbrev pub spans_of : ℕ → Build → List (ℕ × ℕ)
spans_of page build = planned_spans page build build.plan

-- pieces at these spans, numbered from `number`
abbrev pub numbered : ℕ → ℕ → List (ℕ × ℕ) → List Piece
numbered blob number [] = []
numbered blob number (span ∷ spans) = record { number = number; blob = blob; from = span.0; len = span.1 } ∷ numbered blob (number + 1) spans

-- the pieces of these blobs, numbered from `number`
abbrev pub pieces_from : ℕ → ℕ → List Build → List Piece
pieces_from page number [] = []
pieces_from page number (build ∷ builds) = numbered build.name number (spans_of page build) ++ pieces_from page (number + length (spans_of page build)) builds

-- all pieces, numbered from 0 in order of builds, parts and offsets
abbrev pub pieces : ℕ → History → List Piece
pieces page h = pieces_from page 0 (builds page h)

-- the pieces of one blob
abbrev pub pieces_of : ℕ → History → ℕ → List Piece
pieces_of page h name = filter (λ (piece : Piece). piece.blob == name) (pieces page h)

-- whether the piece has the own byte that the cell stands for
abbrev pub owns : Piece → Cell → Bool
owns piece (sent blob index) = (blob == piece.blob) && nat_le piece.from index && nat_lt index (piece.from + piece.len)
owns piece cell = false

-- the piece that has the own byte
abbrev pub piece_with : List Piece → Cell → Option Piece
piece_with list cell = find (λ (piece : Piece). owns piece cell) list

-- the length of the piece of this number
abbrev pub length_in : List Piece → ℕ → ℕ
length_in list number = option_map_or (λ (piece : Piece). piece.len) (find (λ (piece : Piece). piece.number == number) list) 0
