-- What lines leave that change renderers, URLs, files and readers alone, and the roots of blobs. Own.
use Rattle.std.specs.Prelude.{ℕ, [], ◌≡◌, ◌+◌, ◌==◌, Bool, List, length, Option, None, Some, IsSome, false, is_none, if◌then◌else◌}
use Rattle.std.specs.Option.{option_map_or}
use Rattle.std.specs.Ordering.{nat_cmp}
use Rattle.std.specs.BTreeMap.{is_at}
use Rattle.std.specs.Map.{lookup}
use Rattle.blob_words.specs.declared.number.ReaderId.{ReaderId}
use Rattle.blob_words.specs.declared.number.RendererId.{RendererId}
use Rattle.session_script.specs.declared.event.Event.TheVariants as events
use Rattle.answer_text.specs.declared.answer.Answer.TheVariants as answers
use Rattle.answer_text.specs.declared.refusal.Refusal.{Refusal}
use Rattle.answer_text.specs.declared.refusal.Refusal.TheVariants as refusals
use Rattle.blob_entries.specs.Book.{Book, changed}
use Rattle.blob_entries.specs.Changes.{held_less, held_more}
use Rattle.data_handles.specs.Table.{Table as HandleTable}
use Rattle.file_table.specs.Changes.{Notes}
use Rattle.file_table.specs.Files.{note_of}
use Rattle.file_table.specs.declared.file_note.FileNote.{FileNote}
use Rattle.page_disk.specs.declared.change.Change.{Change}
use Rattle.renderer_table.specs.Counted.{origin_at, ChangesCount}
use Rattle.renderer_table.specs.Table.{Table, count_of, living_of}
use Rattle.url_store.specs.Changes.{Comes, Goes, GoesFrom}
use Rattle.url_store.specs.Urls.{own_url, url_at}
use Rattle.url_store.specs.declared.url.Url.{Url}
use Rattle.blob_model.specs.History.{History, heard}
use Rattle.blob_model.specs.Readers.{OpenReader}
use Rattle.blob_model.specs.Renderers.{origin_of}
use Rattle.blob_model.specs.Session.{Session, page_limit}
use Rattle.store_laws.specs.Apart.{AreReadersApart, AreUrlsApart}
use Rattle.store_laws.specs.LineLaws.{counted, AreUnmarked, IsKeptBy}
use Rattle.store_laws.specs.Roots.{AreRerooted}
use Rattle.store_laws.specs.Stands.{Between, Parts}

-- what follows where nobody is marked and the parts stand
abbrev pub WhereStanding : (Session → History → (ℕ → Bool) → Parts → Option (List Change) → HandleTable → Type 0) → Type 0
WhereStanding Follows =
    (s : Session) (h : History) (stands : ℕ → Bool) (parts : Parts) (told : Option (List Change)) (table : HandleTable) → AreUnmarked parts.book.entries
    → Between s h stands parts told table → Follows s h stands parts told table

-- ---- open readers by number

abbrev pub open_at : ℕ → List (ℕ × OpenReader) → Option OpenReader
open_at number readers = lookup (is_at (nat_cmp number)) readers

-- the open reader of this number goes, and every other number has what it had
pub record ReaderGoes (number : ℕ) (old new : List (ℕ × OpenReader)) : Type 0 where
  pub there : IsSome (open_at number old)
  pub each : (other : ℕ) → open_at other new ≡ (if number == other then None else open_at other old)
  pub many : length new + 1 ≡ length old

-- ---- refusals

-- why a renderer can do nothing
abbrev pub renderer_refusal : RendererId → Table → Option Refusal
renderer_refusal renderer table = if is_none (living_of renderer.0 table) then Some (refusals.NoRenderer renderer) else None

-- why it can't close a reader
abbrev pub owns : RendererId → Option OpenReader → Bool
owns renderer reader = option_map_or (λ (one : OpenReader). one.owner == renderer.0) reader false

abbrev pub reader_refusal : RendererId → ReaderId → Table → List (ℕ × OpenReader) → Option Refusal
reader_refusal renderer reader table readers =
    if is_none (living_of renderer.0 table) then Some (refusals.NoRenderer renderer)
    else if owns renderer (open_at reader.0 readers) then None else Some (refusals.NoReader reader)

-- ---- lines

-- a handle is passed on, and its blob has one root more
abbrev pub PassStands : Type 0
PassStands = WhereStanding (λ s h stands parts told table.
    (renderer to : RendererId) (name : ℕ) (renderers : Table) → ChangesCount (λ (count : ℕ). count + 1) to.0 name parts.renderers renderers
    → Between s (heard h (events.Pass renderer to name) answers.Good) stands
    (counted (record parts { book = changed parts.book name held_more; renderers = renderers })) told table)

-- a URL comes under a text that had none, and its blob has one root more
abbrev pub UrlStands : Type 0
UrlStands = WhereStanding (λ s h stands parts told table.
    (renderer : RendererId) (name : ℕ) (text : List ℕ) (urls : List (List ℕ × Url)) → url_at text parts.urls ≡ None
    → Comes text (record { blob = name; owner = renderer; origin = origin_of h renderer.0 }) parts.urls urls
    → Between s (heard h (events.Url renderer name text) answers.Good) stands
    (counted (record parts { book = changed parts.book name held_more; urls = urls })) told table)

-- a URL goes, and its blob has one root fewer
abbrev pub RevokeStands : Type 0
RevokeStands = WhereStanding (λ s h stands parts told table.
    AreUrlsApart h → (renderer : RendererId) (text : List ℕ) (url : Url) (urls : List (List ℕ × Url)) → url_at text parts.urls ≡ Some url
    → Goes text parts.urls urls
    → Between s (heard h (events.Revoke renderer text) answers.Revoked) stands
    (counted (record parts { book = changed parts.book url.blob held_less; urls = urls })) told table)

-- a file is recorded, and one is gone
abbrev pub FileStands : Type 0
FileStands = WhereStanding (λ s h stands parts told table.
    (name : List ℕ) (stamp : ℕ) (bytes : List ℕ) (files : List (List ℕ × FileNote))
    → Notes name (record { last = stamp; bytes = Some bytes }) parts.files files
    → Between s (heard h (events.File name stamp bytes) answers.Good) stands (counted (record parts { files = files })) told table)

abbrev pub GoneStands : Type 0
GoneStands = WhereStanding (λ s h stands parts told table.
    (name : List ℕ) (note : FileNote) (files : List (List ℕ × FileNote)) → note_of name parts.files ≡ Some note
    → Notes name (record note { bytes = None }) parts.files files
    → Between s (heard h (events.Gone name) answers.Good) stands (counted (record parts { files = files })) told table)

-- a reader is closed, and its blob has one root fewer
abbrev pub CancelStands : Type 0
CancelStands = WhereStanding (λ s h stands parts told table.
    AreReadersApart (page_limit s) h → (renderer : RendererId) (reader : ReaderId) (name : ℕ) (readers : List (ℕ × OpenReader))
    → ReaderGoes reader.0 parts.readers readers
    → Between s (heard h (events.Cancel renderer reader) answers.Good) stands
    (counted (record parts { book = changed parts.book name held_less; readers = readers })) told table)

-- ---- a renderer that dies

-- URLs of this owner went, one after the other, and none is left
pub data UrlsGo : ℕ → List (List ℕ × Url) → List (List ℕ × Url) → Type 0 where
  no_url : (owner : ℕ) (urls : List (List ℕ × Url)) → UrlsGo owner urls urls
  one_url : (owner blob : ℕ) (old next new : List (List ℕ × Url)) → UrlsGo owner old next → GoesFrom owner blob next new → UrlsGo owner old new

pub record UrlsLeave (owner : ℕ) (old new : List (List ℕ × Url)) : Type 0 where
  pub went : UrlsGo owner old new
  pub none_left : (text : List ℕ) → own_url owner text new ≡ None

-- and so with its readers
pub record ReaderGoesFrom (owner : ℕ) (old new : List (ℕ × OpenReader)) : Type 0 where
  pub number : ℕ
  pub reader : OpenReader
  pub there : open_at number old ≡ Some reader
  pub own : reader.owner ≡ owner
  pub goes : ReaderGoes number old new

pub data ReadersGo : ℕ → List (ℕ × OpenReader) → List (ℕ × OpenReader) → Type 0 where
  no_reader : (owner : ℕ) (readers : List (ℕ × OpenReader)) → ReadersGo owner readers readers
  one_reader : (owner : ℕ) (old next new : List (ℕ × OpenReader)) → ReadersGo owner old next → ReaderGoesFrom owner next new → ReadersGo owner old new

pub record ReadersLeave (owner : ℕ) (old new : List (ℕ × OpenReader)) : Type 0 where
  pub went : ReadersGo owner old new
  pub none_left : (number : ℕ) → option_map_or (λ (reader : OpenReader). reader.owner == owner) (open_at number new) false ≡ false

-- its handles go with it
pub record Departs (id : ℕ) (old new : Table) : Type 0 where
  pub counts : (other name : ℕ) → count_of other name new ≡ (if id == other then 0 else count_of other name old)
  pub origins : (other : ℕ) → origin_at other new ≡ (if id == other then None else origin_at other old)
  pub spawned : new.spawned ≡ old.spawned

abbrev pub DieStands : Type 0
DieStands = WhereStanding (λ s h stands parts told table.
    AreUrlsApart h → AreReadersApart (page_limit s) h → (renderer : RendererId) (book : Book) (renderers : Table) (urls : List (List ℕ × Url))
    (readers : List (ℕ × OpenReader)) → AreRerooted parts.book book → Departs renderer.0 parts.renderers renderers → UrlsLeave renderer.0 parts.urls urls
    → ReadersLeave renderer.0 parts.readers readers
    → Between s (heard h (events.Die renderer) answers.Good) stands
    (counted (record parts { book = book; renderers = renderers; urls = urls; readers = readers })) told table)

-- every renderer went, with its handles
pub record AllDepart (old new : Table) : Type 0 where
  pub counts : (id name : ℕ) → count_of id name new ≡ 0
  pub origins : (id : ℕ) → origin_at id new ≡ None
  pub spawned : new.spawned ≡ old.spawned

-- and there is no URL and no open reader left
abbrev pub FinishStands : Type 0
FinishStands = WhereStanding (λ s h stands parts told table.
    (book : Book) (renderers : Table) → AreRerooted parts.book book → AllDepart parts.renderers renderers
    → Between s (heard h events.Finish answers.Good) stands
    (counted (record parts { book = book; renderers = renderers; urls = []; readers = [] })) told table)

-- the parts stand for the history with the line
pub record TableLinesStand : Type 0 where
  pub passing : PassStands
  pub making_urls : UrlStands
  pub revoking : RevokeStands
  pub revoking_nothing : (renderer : RendererId) (text : List ℕ) → IsKeptBy (λ (h : History). heard h (events.Revoke renderer text) answers.Nothing)
  pub recording : FileStands
  pub forgetting : GoneStands
  pub closing : CancelStands
  pub dying : DieStands
  pub finishing : FinishStands
