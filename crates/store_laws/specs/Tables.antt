-- The tables beside the blobs, as a history says: renderers, URLs, files, readers, data handles, and the changes on the disk. Own.
use Rattle.std.specs.Prelude.{ℕ, ◌≡◌, ◌==◌, ◌&&◌, Bool, true, not, List, map, find, length, Option, None, Some, IsSome, option_and_then, slice_get, if◌then◌else◌}
use Rattle.std.specs.Option.{option_map}
use Rattle.std.specs.List.{list_any}
use Rattle.std.specs.BTreeMap.{is_at}
use Rattle.std.specs.Map.{lookup}
use Rattle.std.specs.Ordering.{nat_cmp}
use Rattle.renderer_table.specs.Table.{Table, count_of, was_spawned}
use Rattle.renderer_table.specs.Counted.{origin_at}
use Rattle.url_store.specs.Urls.{url_at}
use Rattle.url_store.specs.declared.url.Url.{Url}
use Rattle.file_table.specs.Files.{note_of}
use Rattle.file_table.specs.declared.file_note.FileNote.{FileNote}
use Rattle.data_handles.specs.Handles.{Handle}
use Rattle.data_handles.specs.Table.{Slot as TableSlot, Table as HandleTable, slot_at}
use Rattle.page_disk.specs.declared.change.Change.{Change}
use Rattle.blob_model.specs.Session.{Session, Slot, page_limit}
use Rattle.blob_model.specs.History.{History}
use Rattle.blob_model.specs.Renderers.{Renderer, spawned, is_alive, origin_of}
use Rattle.blob_model.specs.Recorded.{FileState, recorded, last_stamp, file_names}
use Rattle.blob_model.specs.Handles.{count}
use Rattle.blob_model.specs.Entries.{Entry, entries, entry_at}
use Rattle.blob_model.specs.Readers.{OpenReader, readers}
use Rattle.blob_model.specs.Changes.{Change as DiskChange, changes}
use Rattle.model_bridges.specs.Bridges.{change_as, state_as}

-- the renderers spawned, the origins of the living ones, and how many handles each has on each blob
pub record RenderersStand (known : List Renderer) (alive : ℕ → Bool) (origin : ℕ → List ℕ) (count : ℕ → ℕ → ℕ) (table : Table) : Type 0 where
  pub spawned : (number : ℕ) → was_spawned number table ≡ list_any (λ (renderer : Renderer). renderer.number == number) known
  pub many : length table.spawned ≡ length known
  pub living : (number : ℕ) → origin_at number table ≡ (if alive number then Some (origin number) else None)
  pub counts : (number blob : ℕ) → count_of number blob table ≡ count number blob

-- a URL with its owner's origin
abbrev pub url_of : (ℕ → List ℕ) → Entry → Url
url_of origin entry = record { owner = record { 0 = entry.owner }; origin = origin entry.owner; blob = entry.blob }

pub record UrlsStand (list : List Entry) (origin : ℕ → List ℕ) (urls : List (List ℕ × Url)) : Type 0 where
  pub each : (text : List ℕ) → url_at text urls ≡ option_map (url_of origin) (entry_at list text)
  pub many : length urls ≡ length list

-- each file's state while it is recorded, and its last stamp
pub record FilesStand (names : List (List ℕ)) (state : List ℕ → Option FileState) (last : List ℕ → Option ℕ) (files : List (List ℕ × FileNote)) : Type 0 where
  pub states : (name : List ℕ) → option_and_then state_as (note_of name files) ≡ state name
  pub stamps : (name : List ℕ) → option_map (λ (note : FileNote). note.last) (note_of name files) ≡ last name
  pub many : length files ≡ length names

-- each open reader under its number
pub record ReadersStand (list : List OpenReader) (open_readers : List (ℕ × OpenReader)) : Type 0 where
  pub each : (number : ℕ) → lookup (is_at (nat_cmp number)) open_readers ≡ find (λ (reader : OpenReader). reader.number == number) list
  pub many : length open_readers ≡ length list

-- renderers, URLs, files and readers
pub record TablesStand (s : Session) (h : History) (table : Table) (urls : List (List ℕ × Url)) (files : List (List ℕ × FileNote))
    (open_readers : List (ℕ × OpenReader)) : Type 0 where
  pub renderers : RenderersStand (spawned h) (is_alive h) (origin_of h) (count h) table
  pub urls_stand : UrlsStand (entries h) (origin_of h) urls
  pub files_stand : FilesStand (file_names h) (recorded h) (last_stamp h) files
  pub readers_stand : ReadersStand (readers (page_limit s) h) open_readers

-- an object tells the size and the bytes that it told at first
abbrev pub seen_as : Handle → ℕ × Option (List ℕ)
seen_as handle = (handle.size, handle.told)

abbrev pub slot_seen : Option TableSlot → Option (Bool × Option (ℕ × Option (List ℕ)))
slot_seen slot = option_map (λ (one : TableSlot). (one.is_claimed, option_map seen_as one.object)) slot

-- a slot is claimed where a blob names it, and holds its object where it isn't claimed or an item is of it
abbrev pub slot_now : Bool → Bool → Option Slot → Option (Bool × Option (ℕ × Option (List ℕ)))
slot_now claimed held slot = option_map (λ (one : Slot). (claimed, (if claimed && not held then None else Some (one.size, one.bytes)))) slot

abbrev pub HandlesStand : List Slot → (ℕ → Bool) → (ℕ → Bool) → HandleTable → Type 0
HandlesStand slots claimed held table = (k : ℕ) → slot_seen (slot_at table k) ≡ slot_now (claimed k) (held k) (slice_get slots k)

-- each item of a data handle is of one that there is and that a blob names
abbrev pub AreClaimed : List Slot → (ℕ → Bool) → (ℕ → Bool) → Type 0
AreClaimed slots claimed held = (k : ℕ) → held k ≡ true → (claimed k ≡ true) × IsSome (slice_get slots k)

-- the disk tells the changes of the history, where it tells them
abbrev pub told_changes : Session → History → Option (List DiskChange)
told_changes s h = if s.outside.disk_tells then Some (changes s h) else None

abbrev pub DiskStands : Session → History → Option (List Change) → Type 0
DiskStands s h told = option_map (map change_as) told ≡ told_changes s h
