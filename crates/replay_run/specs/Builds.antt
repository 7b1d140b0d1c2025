-- The blobs of a session, with the bytes that were named when each was built. File API: a Blob stands for the bytes of its parts, in order.
use Rattle.std.specs.Prelude.{ℕ, ◌==◌, Bool, List, [], ◌∷◌, ◌++◌, length, map, flat_map, find, Option, slice_index}
use Rattle.std.specs.List.{list_any, range_with_len}
use Rattle.std.specs.Option.{option_map_or}
use Rattle.session_script.specs.declared.event.Event.{Event}
use Rattle.session_script.specs.declared.event.Event.TheVariants as events
use Rattle.session_script.specs.declared.event.Part.{Part}
use Rattle.session_script.specs.declared.event.Part.TheVariants as parts
use Rattle.answer_text.specs.declared.answer.Answer.{Answer}
use Rattle.answer_text.specs.declared.answer.Answer.TheVariants as answers
use Rattle.replay_run.specs.History.{History, start, heard, said}

-- a blob: its name and the parts that it was built from
pub record Build : Type 0 where
  pub name : ℕ
  pub parts : List Part

-- a `build` line that was answered by a plan makes a blob
abbrev pub builds_after : Event → Answer → List Build → List Build
builds_after (events.Build renderer name kind parts) (answers.Planned plan) builds = builds ++ record { name = name; parts = parts } ∷ []
builds_after event answer builds = builds

-- the blobs, in order of build
abbrev pub builds : History → List Build
builds start = []
builds (heard h event answer) = builds_after event answer (builds h)
builds (said h answer) = builds h

-- the blob of this name
abbrev pub build_of : History → ℕ → Option Build
build_of h name = find (λ (build : Build). name == build.name) (builds h)

-- whether a blob of this name was built
abbrev pub is_built : History → ℕ → Bool
is_built h name = list_any (λ (build : Build). name == build.name) (builds h)

-- the bytes that stand in a part of the line; the other parts name bytes elsewhere, and aren't built yet
abbrev pub part_bytes : Part → List ℕ
part_bytes (parts.Embedded bytes) = bytes
part_bytes part = []

-- what was sent for a blob: the embedded bytes of its parts, in order
abbrev pub sent : Build → List ℕ
sent build = flat_map part_bytes build.parts

-- where a byte of a blob comes from: byte `index` of the own bytes of the blob `blob`
pub record Cell : Type 0 where
  pub blob : ℕ
  pub index : ℕ

-- the cells of a blob, one for each byte
abbrev pub cells : Build → List Cell
cells build = map (λ (index : ℕ). record { blob = build.name; index = index }) (range_with_len 0 (length (sent build)))

-- the cells of the blob of this name
abbrev pub cells_of : History → ℕ → List Cell
cells_of h name = option_map_or cells (build_of h name) []

-- the number of bytes of the blob of this name
abbrev pub size_of : History → ℕ → ℕ
size_of h name = length (cells_of h name)

-- the byte that a cell stands for
abbrev pub value : History → Cell → ℕ
value h cell = slice_index (option_map_or sent (build_of h cell.blob) []) cell.index
