-- The blobs of a session, each with what was named when it was built. File API: a Blob stands for the bytes of its parts, in order, and a slice for a range of
-- its source's.
use Rattle.std.specs.Prelude.{ℕ, ◌+◌, ◌==◌, List, [], ◌∷◌, ◌++◌, length, map, take, drop, min, sum_by, find, Option, None, Some, ℤ}
use Rattle.std.specs.Option.{option_map_or}
use Rattle.std.specs.List.{range_with_len}
use Rattle.std.specs.Int.{div_ceil}
use Rattle.session_script.specs.declared.event.Event.{Event}
use Rattle.session_script.specs.declared.event.Event.TheVariants as events
use Rattle.session_script.specs.declared.event.Part.{Part}
use Rattle.session_script.specs.declared.event.Part.TheVariants.{Embedded, Asked, FileRange, BlobRange, HandleRange}
use Rattle.answer_text.specs.declared.answer.Answer.{Answer}
use Rattle.answer_text.specs.declared.answer.Answer.TheVariants as answers
use Rattle.blob_words.specs.declared.plan.Plan.{Plan}
use Rattle.slice_rule.specs.Range.{slice_of}
use Rattle.slice_rule.specs.Kind.{kept_type}
use Rattle.blob_model.specs.Parts.{parts_length}
use Rattle.blob_model.specs.History.{History, start, heard, refused, said}

-- where a byte of a blob comes from: byte `index` of the own bytes of a blob, of a file at a stamp, or of the data handle in a slot
pub data Cell : Type 0 where
  sent : (blob index : ℕ) → Cell
  filed : (name : List ℕ) (stamp index : ℕ) → Cell
  lent : (slot index : ℕ) → Cell

-- a blob: its name, its builder, the content type that is kept, its parts, the plan of its own bytes (none where the blob broke at its own line), its weight,
-- and its cells
pub record Build : Type 0 where
  pub name : ℕ
  pub builder : ℕ
  pub kind : List ℕ
  pub parts : List Part
  pub plan : Option Plan
  pub weight : ℕ
  pub cells : List Cell

-- the blob of this name
abbrev pub build_in : List Build → ℕ → Option Build
build_in builds name = find (λ (build : Build). build.name == name) builds

-- the size of a blob, which is 0 where it broke at its own line
abbrev pub planned_size : Option Plan → List Part → ℕ
planned_size None parts = 0
planned_size (Some plan) parts = parts_length parts

abbrev pub size : Build → ℕ
size build = planned_size build.plan build.parts

-- the size of the blob of this name
abbrev pub size_in : List Build → ℕ → ℕ
size_in builds name = option_map_or size (build_in builds name) 0

-- the cells of the blob of this name
abbrev pub cells_in : List Build → ℕ → List Cell
cells_in builds name = option_map_or (λ (build : Build). build.cells) (build_in builds name) []

-- so many cells of a file, of a handle and of a blob's own bytes, from an index on
abbrev pub file_cells : List ℕ → ℕ → ℕ → ℕ → List Cell
file_cells name stamp off len = map (λ (index : ℕ). filed name stamp index) (range_with_len off len)

abbrev pub handle_cells : ℕ → ℕ → ℕ → List Cell
handle_cells slot off len = map (λ (index : ℕ). lent slot index) (range_with_len off len)

abbrev pub own_cells : ℕ → ℕ → ℕ → List Cell
own_cells name from len = map (λ (index : ℕ). sent name index) (range_with_len from len)

-- the cells of parts, whose own bytes count from `from` on: a part of another blob gives the sublist of that blob's cells
abbrev pub cells_of : List Build → ℕ → ℕ → List Part → List Cell
cells_of builds name from [] = []
cells_of builds name from (Embedded bytes ∷ parts) = own_cells name from (length bytes) ++ cells_of builds name (from + length bytes) parts
cells_of builds name from (Asked len ∷ parts) = own_cells name from len ++ cells_of builds name (from + len) parts
cells_of builds name from (FileRange file off len stamp ∷ parts) = file_cells file stamp off len ++ cells_of builds name from parts
cells_of builds name from (BlobRange b off len ∷ parts) = take len (drop off (cells_in builds b)) ++ cells_of builds name from parts
cells_of builds name from (HandleRange k off len ∷ parts) = handle_cells k off len ++ cells_of builds name from parts

-- the weight of a part bounds its views: the pieces of an own part, 1 for a range of a file or a handle that isn't empty, the source's weight or the length for
-- a part of a blob
abbrev pub part_weight : ℕ → List Build → Part → ℕ
part_weight page builds (Embedded bytes) = div_ceil (length bytes) page
part_weight page builds (Asked len) = div_ceil len page
part_weight page builds (FileRange file off len stamp) = min 1 len
part_weight page builds (BlobRange b off len) = min len (option_map_or (λ (build : Build). build.weight) (build_in builds b) 0)
part_weight page builds (HandleRange k off len) = min 1 len

abbrev pub parts_weight : ℕ → List Build → List Part → ℕ
parts_weight page builds parts = sum_by (part_weight page builds) parts

-- a blob that breaks at its own line has no cells and no weight
abbrev pub planned_cells : List Build → ℕ → List Part → Option Plan → List Cell
planned_cells builds name parts None = []
planned_cells builds name parts (Some plan) = cells_of builds name 0 parts

abbrev pub planned_weight : ℕ → List Build → List Part → Option Plan → ℕ
planned_weight page builds parts None = 0
planned_weight page builds parts (Some plan) = parts_weight page builds parts

-- the plan that an answer tells
abbrev pub plan_told : Answer → Option Plan
plan_told (answers.Planned plan) = Some plan
plan_told answer = None

-- the blob that a line builds
abbrev pub built : ℕ → List Build → ℕ → ℕ → List ℕ → List Part → Option Plan → Build
built page builds builder name kind parts plan = record {
  name = name;
  builder = builder;
  kind = kept_type kind;
  parts = parts;
  plan = plan;
  weight = planned_weight page builds parts plan;
  cells = planned_cells builds name parts plan;
}

-- a `slice` line builds a blob of one part: the slice's bytes of the source
abbrev pub slice_parts : List Build → ℕ → Option ℤ → Option ℤ → List Part
slice_parts builds source from to = BlobRange source (slice_of (size_in builds source) from to).0 (slice_of (size_in builds source) from to).1 ∷ []

-- an accepted `build` or `slice` line makes the next blob
abbrev pub builds_after : ℕ → Event → Answer → List Build → List Build
builds_after page (events.Build renderer name kind parts) answer before = before ++ built page before renderer.0 name kind parts (plan_told answer) ∷ []
builds_after page (events.Slice renderer name source from to kind) answer before =
    before ++ built page before renderer.0 name kind (slice_parts before source from to) (plan_told answer) ∷ []
builds_after page event answer before = before

-- the blobs in order of build, pieces being of `page` bytes; the place in this list is the build number
abbrev pub builds : ℕ → History → List Build
builds page start = []
builds page (heard h event answer) = builds_after page event answer (builds page h)
builds page (refused h event why) = builds page h
builds page (said h answer) = builds page h
