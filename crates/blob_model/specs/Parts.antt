-- The parts of a blob as numbers. File API: a Blob is constructed from parts, in order.
use Rattle.std.specs.Prelude.{ℕ, List, [], ◌∷◌, length, sum, sum_by, flat_map}
use Rattle.session_script.specs.declared.event.Part.{Part}
use Rattle.session_script.specs.declared.event.Part.TheVariants.{Embedded, Asked, FileRange, BlobRange, HandleRange}

-- the number of bytes of a part
abbrev pub part_length : Part → ℕ
part_length (Embedded bytes) = length bytes
part_length (Asked len) = len
part_length (FileRange name off len stamp) = len
part_length (BlobRange b off len) = len
part_length (HandleRange k off len) = len

-- the size that the parts name
abbrev pub parts_length : List Part → ℕ
parts_length parts = sum_by part_length parts

-- an own part, whose bytes come from the renderer, with its length
abbrev pub own_length : Part → List ℕ
own_length (Embedded bytes) = length bytes ∷ []
own_length (Asked len) = len ∷ []
own_length part = []

-- the lengths of the own parts, in order
abbrev pub own_lengths : List Part → List ℕ
own_lengths parts = flat_map own_length parts

-- the number of own bytes
abbrev pub own_bytes : List Part → ℕ
own_bytes parts = sum (own_lengths parts)

-- the bytes that stand in the line
abbrev pub embedded_bytes : Part → List ℕ
embedded_bytes (Embedded bytes) = bytes
embedded_bytes part = []

-- those of all parts, in order
abbrev pub embedded : List Part → List ℕ
embedded parts = flat_map embedded_bytes parts

-- the blob that a part takes bytes from
abbrev pub part_source : Part → List ℕ
part_source (BlobRange b off len) = b ∷ []
part_source part = []

-- the blobs that the parts take bytes from; a part of no byte has a source too
abbrev pub sources : List Part → List ℕ
sources parts = flat_map part_source parts

-- the slot of the data handle that a part takes bytes from
abbrev pub part_slot : Part → List ℕ
part_slot (HandleRange k off len) = k ∷ []
part_slot part = []

-- the slots that the parts claim
abbrev pub claims : List Part → List ℕ
claims parts = flat_map part_slot parts
