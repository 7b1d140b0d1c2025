-- The pieces of blobs, which of them are reached, and the tally. Own.
use Rattle.std.specs.Prelude.{ℕ, ◌+◌, ◌-◌, ◌*◌, ◌==◌, Bool, ◌&&◌, List, [], ◌∷◌, ◌++◌, length, map, filter, flat_map, sum_by, min, nat_lt, nat_le}
use Rattle.std.specs.List.{list_any, range_with_len}
use Rattle.std.specs.Int.{div_ceil}
use Rattle.session_script.specs.declared.event.Part.{Part}
use Rattle.blob_words.specs.declared.limits.Limits.{Limits}
use Rattle.blob_words.specs.declared.tally.Tally.{Tally}
use Rattle.replay_run.specs.History.{History}
use Rattle.replay_run.specs.Builds.{Build, builds, part_bytes, Cell, cells}
use Rattle.replay_run.specs.Live.{is_live}

-- a piece of a blob's own bytes: so many from this place on
pub record Piece : Type 0 where
  pub blob : ℕ
  pub from : ℕ
  pub len : ℕ

-- a part of `len` bytes, from this place of the blob's own bytes on, is cut at the multiples of `page` from its own start
abbrev pub part_pieces : ℕ → ℕ → ℕ → ℕ → List Piece
part_pieces page name from len = map (λ (k : ℕ). record { blob = name; from = from + k * page; len = min page (len - k * page) })
    (range_with_len 0 (div_ceil len page))

-- the pieces of the parts, one part after the other
abbrev pub pieces_from : ℕ → ℕ → ℕ → List Part → List Piece
pieces_from page name from [] = []
pieces_from page name from (part ∷ parts) = part_pieces page name from (length (part_bytes part)) ++ pieces_from page name (from + length (part_bytes part))
    parts

-- the pieces of a blob
abbrev pub build_pieces : ℕ → Build → List Piece
build_pieces page build = pieces_from page build.name 0 build.parts

-- the pieces of all blobs, in order of builds, parts and offsets
abbrev pub pieces : Limits → History → List Piece
pieces l h = flat_map (build_pieces l.page) (builds h)

-- whether the piece has the byte that the cell stands for
abbrev pub owns : Piece → Cell → Bool
owns piece cell = (cell.blob == piece.blob) && nat_le piece.from cell.index && nat_lt cell.index (piece.from + piece.len)

-- a piece is reached where it owns a cell of a live blob
abbrev pub is_reached : History → Piece → Bool
is_reached h piece = list_any (λ (build : Build). is_live h build.name && list_any (owns piece) (cells build)) (builds h)

-- the pieces reached
abbrev pub reached : Limits → History → List Piece
reached l h = filter (is_reached h) (pieces l h)

-- the bytes of the pieces reached; all of them are in memory
abbrev pub memory : Limits → History → ℕ
memory l h = sum_by (λ (piece : Piece). piece.len) (reached l h)

-- what a store holds: the pieces reached and their bytes; there are no page files
abbrev pub tally : Limits → History → Tally
tally l h = record { pieces = length (reached l h); memory = memory l h; files = 0; disk = 0 }
