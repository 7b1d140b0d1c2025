-- The generated session of a number: five first lines, so many rounds, and the end. Own. Each round takes the next 259 words of the number's key stream, so
-- round i has those from place 259 * i on.
use Rattle.std.proofs.Common.{lit<, lit≤}
use Rattle.std.specs.Prelude.{ℕ, ◌+◌, ◌-◌, ◌*◌, ◌%◌, ◌==◌, List, [], ◌∷◌, ◌++◌, codes, decimal, flat_map, nat_le, pos, Some, None, if◌then◌else◌}
use Rattle.std.specs.List.{range_with_len}
use Rattle.blob_words.specs.declared.limits.Limits.{Limits}
use Rattle.blob_words.specs.declared.number.RendererId.{RendererId}
use Rattle.session_script.specs.declared.event.Event.{Event}
use Rattle.session_script.specs.declared.event.Event.TheVariants as events
use Rattle.session_script.specs.declared.event.Part.TheVariants as parts
use Rattle.session_gen.specs.Words.{key, word, word_bytes}

-- limits 16384 16777216 16384 256 4096 1024 1024: a blob has one piece of 1,024 bytes, and 16 of them fill the memory
abbrev pub limits : Limits
limits = record {
  memory = 16384;
  disk = 16777216;
  big = 16384;
  inline_max = 256;
  segment = 4096;
  page = 1024;
  chunk = 1024;
  some_memory = lit< tt;
  memory_bound = lit≤ tt;
  disk_bound = lit≤ tt;
  some_big = lit< tt;
  big_bound = lit≤ tt;
  inline_bound = lit≤ tt;
  some_segment = lit< tt;
  segment_bound = lit≤ tt;
  some_page = lit< tt;
  page_bound = lit≤ tt;
  page_fits = lit≤ tt;
  some_chunk = lit< tt;
  chunk_bound = lit≤ tt;
}

-- spawn R https://R.test
abbrev pub spawn_line : ℕ → Event
spawn_line number = events.Spawn (record { 0 = number }) (codes "https://" ++ decimal number ++ codes ".test")

-- the first lines: the limits, and renderers 0 to 3
abbrev pub first_lines : List Event
first_lines = events.Limits limits ∷ spawn_line 0 ∷ spawn_line 1 ∷ spawn_line 2 ∷ spawn_line 3 ∷ []

-- the renderer that builds in a round: the four take turns
abbrev pub builder : ℕ → RendererId
builder i = record { 0 = i % 4 }

-- the numbers of the names of the two blobs of a round: the one that is built, and its slice
abbrev pub built : ℕ → ℕ
built i = 2 * i + 1

abbrev pub sliced : ℕ → ℕ
sliced i = 2 * i + 2

-- build r Bm 746578742f706c61696e n:1024
abbrev pub build_line : ℕ → Event
build_line i = events.Build (builder i) (built i) (codes "text/plain") (parts.Asked 1024 ∷ [])

-- disk d, from round 16 on: the job of that round, which is the one 16 before
abbrev pub disk_lines : ℕ → List Event
disk_lines i = if nat_le 16 i then events.Disk (record { 0 = i - 16 }) ∷ [] else []

-- data r Bm 0 HEX: the first 256 words of the round, which are 1,024 bytes
abbrev pub data_line : List ℕ → ℕ → Event
data_line key i = events.Segment (builder i) (built i) 0 (word_bytes key (259 * i) 256)

-- the next three words say of which round the built blob is sliced, from where, and how many bytes
abbrev pub source : List ℕ → ℕ → ℕ
source key i = word key (259 * i + 256) % (i + 1)

abbrev pub start : List ℕ → ℕ → ℕ
start key i = word key (259 * i + 257) % 1024

abbrev pub span : List ℕ → ℕ → ℕ
span key i = 1 + word key (259 * i + 258) % 1024

-- the renderer that slices, reads and drops: the one that built the source
abbrev pub reader : List ℕ → ℕ → RendererId
reader key i = builder (source key i)

-- slice q Bk Bs a e -
abbrev pub slice_line : List ℕ → ℕ → Event
slice_line key i = events.Slice (reader key i) (sliced i) (built (source key i)) (Some (pos (start key i))) (Some (pos (start key i + span key i))) []

-- read q i Bk 0 _
abbrev pub read_line : List ℕ → ℕ → Event
read_line key i = events.Read (reader key i) (record { 0 = i }) (sliced i) 0 None

-- step i
abbrev pub step_line : ℕ → Event
step_line i = events.Step (record { 0 = i })

-- drop q Bk, in each fourth round
abbrev pub drop_lines : List ℕ → ℕ → List Event
drop_lines key i = if i % 4 == 3 then events.Drop (reader key i) (sliced i) ∷ [] else []

-- the lines of a round
abbrev pub round_lines : List ℕ → ℕ → List Event
round_lines key i =
    build_line i ∷ disk_lines i ++ (data_line key i ∷ slice_line key i ∷ read_line key i ∷ step_line i ∷ step_line i ∷ drop_lines key i)

-- the events of the session
abbrev pub Gen : ℕ → ℕ → List Event
Gen number rounds = first_lines ++ flat_map (round_lines (key number)) (range_with_len 0 rounds) ++ events.Finish ∷ []
