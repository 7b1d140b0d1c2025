-- When the parts of a store stand for a history. Own.
use Rattle.std.specs.Prelude.{ℕ, ◌≡◌, ◌+◌, ◌==◌, ◌||◌, Bool, true, false, List, [], ◌∷◌, map, length, Option, IfSome}
use Rattle.std.specs.List.{AllByRecursion}
use Rattle.blob_words.specs.declared.limits.Limits.{Limits}
use Rattle.blob_words.specs.declared.version.Version.{Version}
use Rattle.session_script.specs.declared.event.Event.{Event}
use Rattle.session_script.specs.declared.event.Event.TheVariants as events
use Rattle.answer_text.specs.declared.answer.Answer.{Answer}
use Rattle.answer_text.specs.declared.answer.Answer.TheVariants as answers
use Rattle.blob_entries.specs.Book.{Book}
use Rattle.blob_entries.specs.Holdings.{held_views}
use Rattle.blob_entries.specs.Statuses.{is_broken}
use Rattle.blob_entries.specs.declared.entry.Entry.{Entry}
use Rattle.item_shares.specs.declared.shares.Share.{Share}
use Rattle.data_handles.specs.Table.{Table as HandleTable}
use Rattle.file_table.specs.declared.file_note.FileNote.{FileNote}
use Rattle.page_disk.specs.declared.change.Change.{Change}
use Rattle.page_files.specs.Files.{Files, charge}
use Rattle.page_files.specs.Pages.{held_count}
use Rattle.quota_queue.specs.Queue.{Queue}
use Rattle.renderer_table.specs.Table.{Table}
use Rattle.url_store.specs.declared.url.Url.{Url}
use Rattle.blob_model.specs.Session.{Session, page_limit}
use Rattle.blob_model.specs.History.{History, start, heard, refused, said}
use Rattle.blob_model.specs.Builds.{Build, builds}
use Rattle.blob_model.specs.Jobs.{paging}
use Rattle.blob_model.specs.Live.{is_live}
use Rattle.blob_model.specs.Parts.{own_bytes}
use Rattle.blob_model.specs.Pieces.{pieces}
use Rattle.blob_model.specs.Reached.{is_slot_reached, reached}
use Rattle.blob_model.specs.Readers.{OpenReader}
use Rattle.blob_model.specs.Refusals.{claimed, is_in, weight_total}
use Rattle.blob_model.specs.Standing.{is_unfinished}
use Rattle.blob_model.specs.Tally.{disk, files as page_files, memory}
use Rattle.blob_model.specs.Waits.{waits}
use Rattle.registry_laws.specs.Agree.{Beside}
use Rattle.store_laws.specs.Items.{ItemsStand, holds_slot}
use Rattle.store_laws.specs.Outlines.{IsMarkedRight, outlines, outlines_of}
use Rattle.store_laws.specs.PageFiles.{PagesStand}
use Rattle.store_laws.specs.Recipes.{EntriesStand}
use Rattle.store_laws.specs.Rows.{Row, bare, rows_of}
use Rattle.store_laws.specs.Tables.{AreClaimed, DiskStands, HandlesStand, TablesStand}
use Rattle.store_laws.specs.Uses.{facts_of, held_pieces, order_of, own_pieces, page_facts_of}
use Rattle.std.specs.Option.{option_map}

-- what contracts see of a store's parts
pub record Parts : Type 0 where
  pub limits : Limits
  pub version : Version
  pub book : Book
  pub shares : List (Option Share)
  pub rows : List (Option Row)
  pub quota : Queue
  pub pages : Files
  pub recent : List (ℕ × ℕ)
  pub files : List (List ℕ × FileNote)
  pub urls : List (List ℕ × Url)
  pub renderers : Table
  pub readers : List (ℕ × OpenReader)
  pub lines : ℕ
  pub pieces : ℕ
  pub weight : ℕ

-- how many lines were heard behind the first one
abbrev pub lines : History → ℕ
lines start = 0
lines (heard h event answer) = lines h + 1
lines (refused h event why) = lines h + 1
lines (said h answer) = lines h

-- entries, items and charges, while the blobs of these names stand
pub record ContentsStand (s : Session) (h : History) (stands : ℕ → Bool) (book : Book) (shares : List (Option Share)) (rows : List (Option Row))
    (quota : Queue) (files : Files)
    (order : List (ℕ × ℕ)) : Type 0 where
  pub names : book.names ≡ map (λ (build : Build). build.name) (builds (page_limit s) h)
  pub outlines_stand : outlines book.entries ≡ outlines_of s h stands
  pub marks : Beside (IsMarkedRight s h) (builds (page_limit s) h) book.entries
  pub rows_stand : map (option_map bare) rows ≡ rows_of s h stands
  pub items : ItemsStand (pieces (page_limit s) h) (facts_of s h) shares
  pub entries : EntriesStand (builds (page_limit s) h) (pieces (page_limit s) h) (own_pieces (page_limit s) h) shares book.entries rows
  pub waiting : quota.waiting ≡ map (λ (build : Build). (build.name, own_bytes build.parts)) (waits (page_limit s) h)
  pub memory_limit : quota.limit ≡ s.limits.memory
  pub page_files_stand : PagesStand (pieces (page_limit s) h) (page_facts_of h) s.limits.disk shares files
  pub recent : paging h ≡ true → order ≡ order_of s h shares rows

-- between any two steps of a line, while the blobs of these names stand
pub record Between (s : Session) (h : History) (stands : ℕ → Bool) (parts : Parts) (told : Option (List Change)) (table : HandleTable) : Type 0 where
  pub same_limits : parts.limits ≡ s.limits
  pub same_version : parts.version ≡ s.version
  pub contents : ContentsStand s h stands parts.book parts.shares parts.rows parts.quota parts.pages parts.recent
  pub tables : TablesStand s h parts.renderers parts.urls parts.files parts.readers
  pub handles : HandlesStand s.outside.slots (λ (k : ℕ). is_in k (claimed s h)) (holds_slot parts.shares) table
  pub claims : AreClaimed s.outside.slots (λ (k : ℕ). is_in k (claimed s h)) (holds_slot parts.shares)
  pub disk_stands : DiskStands s h told
  pub same_lines : parts.lines ≡ lines h + 1
  pub same_pieces : parts.pieces ≡ length (pieces (page_limit s) h)
  pub same_weight : parts.weight ≡ weight_total s h

-- ---- which blobs stand

-- whether an accepted line built the blob
abbrev pub is_built_by : Event → List Answer → ℕ → Bool
is_built_by event (answers.Refused why ∷ more) name = false
is_built_by (events.Build renderer b kind parts) own name = b == name
is_built_by (events.Slice renderer b source from to kind) own name = b == name
is_built_by event own name = false

-- the blobs that stand once a line was heard with its own answers: the one that it built, and those that lived before it
abbrev pub stood : ℕ → History → Event → List Answer → ℕ → Bool
stood page h event own name = is_built_by event own name || is_live page h name

-- whatever lives stands, and whatever is unfinished
pub record Covers (s : Session) (h : History) (stands : ℕ → Bool) : Type 0 where
  pub living : (name : ℕ) → is_live (page_limit s) h name ≡ true → stands name ≡ true
  pub unfinished : AllByRecursion (λ (build : Build). is_unfinished h build.name ≡ true → stands build.name ≡ true) (builds (page_limit s) h)

-- the live blobs stand, and no others
abbrev pub AreExact : Session → History → (ℕ → Bool) → Type 0
AreExact s h stands = (name : ℕ) → stands name ≡ is_live (page_limit s) h name

-- ---- between two lines

-- a broken entry has let its views go
abbrev pub AreEmptied : List (Option Entry) → Type 0
AreEmptied entries =
    AllByRecursion (λ (held : Option Entry). IfSome held (λ (entry : Entry). is_broken entry.status ≡ true → held_views entry ≡ [])) entries

-- what is held is what is reached, and is charged so
pub record Reaches (s : Session) (h : History) (shares : List (Option Share)) (rows : List (Option Row)) (quota : Queue) (files : Files) : Type 0 where
  pub held : held_pieces (page_limit s) h shares rows ≡ reached (page_limit s) h
  pub slots : (k : ℕ) → holds_slot shares k ≡ is_slot_reached (page_limit s) h k
  pub used : quota.used ≡ memory (page_limit s) h
  pub charged : charge files ≡ disk (page_limit s) h
  pub many : held_count files.pages ≡ length (page_files (page_limit s) h)

-- the parts of a store, its disk and its table of data handles stand for a history
pub record Stands (s : Session) (h : History) (parts : Parts) (told : Option (List Change)) (table : HandleTable) : Type 0 where
  pub between : Between s h (is_live (page_limit s) h) parts told table
  pub emptied : AreEmptied parts.book.entries
  pub reaches : Reaches s h parts.shares parts.rows parts.quota parts.pages
