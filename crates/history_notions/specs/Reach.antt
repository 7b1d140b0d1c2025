-- Which pieces content reaches, read off runs and places. Own.
use Rattle.std.specs.Prelude.{ℕ, ◌+◌, ◌==◌, ◌&&◌, ◌||◌, Bool, false, List, [], max, min, nat_lt, not, filter, slice_get}
use Rattle.std.specs.List.{list_any}
use Rattle.std.specs.Option.{option_map_or}
use Rattle.blob_words.specs.declared.status.Status.{Status}
use Rattle.blob_model.specs.Builds.{Cell, Build, build_in}
use Rattle.blob_model.specs.Standing.{is_broken_status, grants_at_once}
use Rattle.blob_model.specs.Pieces.{Piece, owns}
use Rattle.blob_model.specs.Reached.{some_passes}
use Rattle.history_notions.specs.Kept.{ended_in, was_granted_in}
use Rattle.history_notions.specs.declared.run.Source.{Source}
use Rattle.history_notions.specs.declared.run.Source.TheVariants as kinds
use Rattle.history_notions.specs.declared.run.Run.{Run}

-- whether two ranges, each told by its first number and by how many it has, share a number
abbrev pub do_meet : ℕ → ℕ → ℕ → ℕ → Bool
do_meet from len start count = nat_lt (max from start) (min (from + len) (start + count))

-- whether the run has an own byte of the piece
abbrev pub has_of : Piece → Source → ℕ → ℕ → Bool
has_of piece (kinds.Sent blob) from len = (blob == piece.blob) && do_meet from len piece.from piece.len
has_of piece source from len = false

abbrev pub has_run : Piece → Run → Bool
has_run piece run = has_of piece run.source run.from run.len

-- whether the run has own bytes of the blob of this name
abbrev pub sends_of : ℕ → Source → Bool
sends_of name (kinds.Sent blob) = blob == name
sends_of name source = false

abbrev pub is_sent : ℕ → Run → Bool
is_sent name run = sends_of name run.source

-- whether the run has a byte of the data handle
abbrev pub lends_of : ℕ → Source → ℕ → Bool
lends_of slot (kinds.Lent k) len = (k == slot) && nat_lt 0 len
lends_of slot source len = false

abbrev pub lends_run : ℕ → Run → Bool
lends_run slot run = lends_of slot run.source run.len

-- whether the blob, where there is one, has a byte of the piece
abbrev pub has_cell : Piece → Build → Bool
has_cell piece build = some_passes (owns piece) build.cells

-- whether the blob of this name is broken
abbrev pub is_broken_in : List (ℕ × Status) → ℕ → Bool
is_broken_in endings name = option_map_or is_broken_status (ended_in endings name) false

-- the places of those blobs that aren't broken
abbrev pub is_whole : List Build → List (ℕ × Status) → ℕ → Bool
is_whole builds endings place = option_map_or (λ (build : Build). not (is_broken_in endings build.name)) (slice_get builds place) false

-- whether the blob at the place has a byte of the piece
abbrev pub has_at : List Build → Piece → ℕ → Bool
has_at builds piece place = option_map_or (has_cell piece) (slice_get builds place) false

-- whether the blob of the piece was granted
abbrev pub is_granted_in : List ℕ → Build → Bool
is_granted_in granted build = option_map_or grants_at_once build.plan false || was_granted_in granted build.name

abbrev pub has_grant : List ℕ → List Build → Piece → Bool
has_grant granted builds piece = option_map_or (is_granted_in granted) (build_in builds piece.blob) false

-- the pieces that were granted and have a byte in one of the blobs at these places
abbrev pub is_reached_in : List ℕ → List Build → List ℕ → Piece → Bool
is_reached_in granted builds places piece = has_grant granted builds piece && list_any (has_at builds piece) places
