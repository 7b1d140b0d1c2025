-- What lines leave of the parts that build nothing and touch neither page files nor data handles; and a store that has heard nothing. Own.
use Rattle.std.specs.Prelude.{ℕ, ◌≡◌, ◌+◌, ◌-◌, ◌==◌, Bool, false, true, List, [], Option, None, Some, is_none, IfSome, if◌then◌else◌}
use Rattle.std.specs.List.{AllByRecursion}
use Rattle.blob_words.specs.declared.limits.Limits.{Limits}
use Rattle.blob_words.specs.declared.number.RendererId.{RendererId}
use Rattle.blob_words.specs.declared.status.Status.{Status}
use Rattle.blob_words.specs.declared.version.Version.{Version}
use Rattle.session_script.specs.declared.event.Event.{Event}
use Rattle.session_script.specs.declared.event.Event.TheVariants as events
use Rattle.answer_text.specs.declared.answer.Answer.TheVariants as answers
use Rattle.answer_text.specs.declared.group.Group.{Group}
use Rattle.answer_text.specs.declared.refusal.Refusal.{Refusal}
use Rattle.answer_text.specs.declared.refusal.Refusal.TheVariants as refusals
use Rattle.blob_entries.specs.Book.{book_of, changed}
use Rattle.blob_entries.specs.Changes.{held_less}
use Rattle.blob_entries.specs.Statuses.{is_pending}
use Rattle.blob_entries.specs.declared.entry.Entry.{Entry}
use Rattle.data_handles.specs.Table.{Table as HandleTable}
use Rattle.page_disk.specs.declared.change.Change.{Change}
use Rattle.page_files.specs.Files.{new_files}
use Rattle.renderer_table.specs.Counted.{ChangesCount, Spawns}
use Rattle.renderer_table.specs.Table.{Table, count_of, living_of, was_spawned}
use Rattle.blob_model.specs.Entries.{Entry as UrlEntry, entries}
use Rattle.blob_model.specs.History.{History, heard, history_from, refused, start}
use Rattle.blob_model.specs.Legal.{IsLegalFrom}
use Rattle.blob_model.specs.Renderers.{is_dead, is_spawned}
use Rattle.blob_model.specs.Session.{Session}
use Rattle.store_laws.specs.Stands.{Between, Parts, Stands}
use Rattle.store_laws.specs.Tables.{DiskStands, HandlesStand}

-- the parts once one more line is counted
abbrev pub counted : Parts → Parts
counted parts = record parts { lines = parts.lines + 1 }

-- no unfinished entry is marked to break
abbrev pub AreUnmarked : List (Option Entry) → Type 0
AreUnmarked entries =
    AllByRecursion (λ (held : Option Entry). IfSome held (λ (entry : Entry). is_pending entry.status ≡ true → entry.mark ≡ None)) entries

-- who owns a URL was spawned
abbrev pub AreOwned : History → Type 0
AreOwned h = AllByRecursion (λ (entry : UrlEntry). is_spawned h entry.owner ≡ true) (entries h)

-- why a renderer can't use its handle on a blob
abbrev pub handle_refusal : RendererId → ℕ → Table → Option Refusal
handle_refusal renderer name table =
    if is_none (living_of renderer.0 table) then Some (refusals.NoRenderer renderer)
    else if count_of renderer.0 name table == 0 then Some (refusals.NoHandle renderer name) else None

-- behind each group of a legal transcript nobody is marked
abbrev pub NoneIsMarked : Type 0
NoneIsMarked =
    (s : Session) (groups : List Group) (stands : ℕ → Bool) (parts : Parts) (told : Option (List Change)) (table : HandleTable) → IsLegalFrom s start groups
    → Between s (history_from start groups) stands parts told table → AreUnmarked parts.book.entries

-- a line that changes nothing, with this history behind it
abbrev pub IsKeptBy : (History → History) → Type 0
IsKeptBy later =
    (s : Session) (h : History) (stands : ℕ → Bool) (parts : Parts) (told : Option (List Change)) (table : HandleTable) → AreUnmarked parts.book.entries
    → Between s h stands parts told table → Between s (later h) stands (counted parts) told table

-- a renderer comes
abbrev pub SpawnStands : Type 0
SpawnStands =
    (s : Session) (h : History) (stands : ℕ → Bool) (parts : Parts) (told : Option (List Change)) (table : HandleTable) → AreUnmarked parts.book.entries
    → Between s h stands parts told table → AreOwned h → (renderer : RendererId) (origin : List ℕ) (renderers : Table) → is_dead h renderer.0 ≡ false
    → was_spawned renderer.0 parts.renderers ≡ false → Spawns renderer.0 origin parts.renderers renderers
    → Between s (heard h (events.Spawn renderer origin) answers.Good) stands (counted (record parts { renderers = renderers })) told table

-- a handle goes, and its blob has one root fewer
abbrev pub DropStands : Type 0
DropStands =
    (s : Session) (h : History) (stands : ℕ → Bool) (parts : Parts) (told : Option (List Change)) (table : HandleTable) → AreUnmarked parts.book.entries
    → Between s h stands parts told table → (renderer : RendererId) (name : ℕ) (renderers : Table)
    → ChangesCount (λ (count : ℕ). count - 1) renderer.0 name parts.renderers renderers
    → Between s (heard h (events.Drop renderer name) answers.Good) stands
    (counted (record parts { book = changed parts.book name held_less; renderers = renderers })) told table

-- the parts stand for the history with the line, where nobody was marked
pub record LinesStand : Type 0 where
  pub refusing : (event : Event) (why : Refusal) → IsKeptBy (λ (h : History). refused h event why)
  pub telling : (renderer : RendererId) (name size : ℕ) (kind : List ℕ) (status : Status)
      → IsKeptBy (λ (h : History). heard h (events.Stat renderer name) (answers.Told name size kind status))
  pub spawning : SpawnStands
  pub dropping : DropStands

-- the parts of a store that has heard nothing
abbrev pub new_parts : Limits → Version → Parts
new_parts limits version = record {
  limits = limits;
  version = version;
  book = book_of [] [];
  shares = [];
  rows = [];
  quota = record { used = 0; limit = limits.memory; waiting = [] };
  pages = new_files limits.disk;
  recent = [];
  files = [];
  urls = [];
  renderers = record { spawned = []; living = [] };
  readers = [];
  lines = 0;
  pieces = 0;
  weight = 0;
}

-- once the line of the limits is counted they stand for what comes after it, beside a disk without changes and a table of which nothing is claimed
abbrev pub NewStands : Type 0
NewStands =
    (s : Session) (told : Option (List Change)) (table : HandleTable) → DiskStands s start told
    → HandlesStand s.outside.slots (λ (k : ℕ). false) (λ (k : ℕ). false) table
    → Stands s start (counted (new_parts s.limits s.version)) told table
