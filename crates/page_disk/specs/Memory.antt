-- What a disk over memory is seen as, and the room that it keeps for changes to come. Own.
use Rattle.std.specs.Prelude.{ℕ, ◌==◌, List, [], ◌∷◌, length, Option, None}
use Rattle.std.specs.Option.{option_map, option_map_or}
use Rattle.std.specs.List.{fold}
use Rattle.std.specs.Set.{remove_key}
use Rattle.blob_words.specs.declared.number.PageNo.{PageNo}
use Rattle.page_disk.specs.declared.change.Change.{Change}
use Rattle.page_disk.specs.declared.change.Change.TheVariants.{Put, Torn, Remove, Left}
use Rattle.page_disk.specs.Changes.{OpenWrite}

-- the changes, and for how many more there is room
pub record Record : Type 0 where
  pub changes : List Change
  pub spare : ℕ

-- an open write: its page, its length in bytes, and the bytes that came
pub record Write : Type 0 where
  pub page : PageNo
  pub len : ℕ
  pub bytes : List ℕ

-- a disk over memory: what was done, the open write, which calls are to fail, which appends and seals are, how many of each came, and how many failed, and how
-- many bytes were read
pub record Disk : Type 0 where
  pub changes : List Change
  pub write : Option Write
  pub failing : List ℕ
  pub pieces : List ℕ
  pub calls : ℕ
  pub piece_calls : ℕ
  pub faults : ℕ
  pub meter : ℕ

-- a new disk
abbrev pub new_disk : List ℕ → List ℕ → Disk
new_disk failing pieces = record { changes = []; write = None; failing = failing; pieces = pieces; calls = 0; piece_calls = 0; faults = 0; meter = 0 }

-- an open write as every disk tells it
abbrev pub open_of : Write → OpenWrite
open_of write = record { page = write.page; len = write.len; came = length write.bytes }

-- the open write of a disk
abbrev pub open_in : Disk → Option OpenWrite
open_in disk = option_map open_of disk.write

-- the bytes that came to it
abbrev pub came_in : Disk → List ℕ
came_in disk = option_map_or (λ write. write.bytes) disk.write []

-- the pages whose removal is to come, after one change more
abbrev pub standing_after : List ℕ → Change → List ℕ
standing_after pages (Put page bytes) = page.0 ∷ pages
standing_after pages (Torn page) = page.0 ∷ pages
standing_after pages (Remove page) = remove_key (λ one. page.0 == one) pages
standing_after pages (Left page) = remove_key (λ one. page.0 == one) pages

-- the pages whose removal is to come
abbrev pub standing : List Change → List ℕ
standing changes = fold standing_after [] changes
