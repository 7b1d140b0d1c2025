-- Cells that stand one after the other in one source, told by the first and by how many they are. Own.
use Rattle.std.specs.Prelude.{ℕ, ◌+◌, ◌≤◌, List, [], length, map, take, drop, flat_map}
use Rattle.std.specs.List.{range_with_len}
use Rattle.session_script.specs.declared.event.Part.{Part}
use Rattle.session_script.specs.declared.event.Part.TheVariants.{Embedded, Asked, FileRange, BlobRange, HandleRange}
use Rattle.blob_model.specs.Builds.{Cell, sent, filed, lent, Build, cells_in, file_cells, handle_cells, own_cells}
use Rattle.history_notions.specs.declared.run.Source.{Source}
use Rattle.history_notions.specs.declared.run.Source.TheVariants as kinds
use Rattle.history_notions.specs.declared.run.Run.{Run}

-- the cell at an index of the source
abbrev pub cell_at : Source → ℕ → Cell
cell_at (kinds.Sent blob) index = sent blob index
cell_at (kinds.Filed name stamp) index = filed name stamp index
cell_at (kinds.Lent slot) index = lent slot index

-- the cells of a run
abbrev pub run_cells : Run → List Cell
run_cells run = map (cell_at run.source) (range_with_len run.from run.len)

-- the cells of runs, one run after the other
abbrev pub cells_of_runs : List Run → List Cell
cells_of_runs runs = flat_map run_cells runs

-- the cells of one part, whose own bytes count from `from` on
abbrev pub part_cells : List Build → ℕ → ℕ → Part → List Cell
part_cells builds name from (Embedded bytes) = own_cells name from (length bytes)
part_cells builds name from (Asked len) = own_cells name from len
part_cells builds name from (FileRange file off len stamp) = file_cells file stamp off len
part_cells builds name from (BlobRange b off len) = take len (drop off (cells_in builds b))
part_cells builds name from (HandleRange k off len) = handle_cells k off len

-- where the own bytes of the next part begin
abbrev pub own_end : ℕ → Part → ℕ
own_end from (Embedded bytes) = from + length bytes
own_end from (Asked len) = from + len
own_end from part = from
