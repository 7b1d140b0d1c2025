-- The live blobs of the plain store, and how many pieces were ever built.
use Rattle.std.specs.Prelude.{ℕ, ◌==◌, ◌≤◌, ◌^◌, Bool, false, not, List, [], length, filter, find, sum_by, Option, None, Some, is_some, if◌then◌else◌}
use Rattle.blob_words.specs.declared.tally.Tally.{Tally}
use Rattle.blob_words.specs.declared.number.RendererId.{RendererId}
use Rattle.replay_run.specs.declared.store.blob.Blob.{Blob}
use Rattle.replay_run.specs.Live.{is_holder}

-- the blobs in order of build, and the number of pieces of all builds
pub record Shelved : Type 0 where
  pub blobs : List Blob
  pub pieces : ℕ

-- the bytes of some blobs, and their pieces
abbrev pub byte_count : List Blob → ℕ
byte_count blobs = sum_by (λ (blob : Blob). length blob.bytes) blobs

abbrev pub piece_count : List Blob → ℕ
piece_count blobs = sum_by (λ (blob : Blob). blob.pieces) blobs

-- the numbers stay within the greatest limits of a session
pub record IsWithin (shelf : Shelved) : Type 0 where
  pub bytes : byte_count shelf.blobs ≤ 2 ^ 30
  pub pieces : piece_count shelf.blobs ≤ shelf.pieces
  pub ever : shelf.pieces ≤ 65536

-- the blob of this name
abbrev pub blob_at : List Blob → ℕ → Option Blob
blob_at blobs name = find (λ (blob : Blob). name == blob.name) blobs

-- the blob without its holder, where it has this name
abbrev pub freed : ℕ → Blob → Blob
freed name blob = if name == blob.name then record blob { holder = None } else blob

-- the blobs but that of this name
abbrev pub without : ℕ → List Blob → List Blob
without name blobs = filter (λ (blob : Blob). not (name == blob.name)) blobs

-- the blobs counted anew
abbrev pub count_of : List Blob → Tally
count_of blobs = record { pieces = piece_count blobs; memory = byte_count blobs; files = 0; disk = 0 }

-- whether the renderer holds the blob, where there is one
abbrev pub is_held_by : RendererId → Option Blob → Bool
is_held_by renderer None = false
is_held_by renderer (Some blob) = is_holder renderer blob.holder

-- whether anybody holds the blob, where there is one
abbrev pub is_held : Option Blob → Bool
is_held None = false
is_held (Some blob) = is_some blob.holder

-- the bytes of the blob, where there is one
abbrev pub bytes_in : Option Blob → List ℕ
bytes_in None = []
bytes_in (Some blob) = blob.bytes
