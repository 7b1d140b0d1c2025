-- What a line that builds a blob leaves of entries, items and charges. Own.
use Rattle.std.specs.Prelude.{ℕ, ◌≡◌, ◌≤◌, ◌==◌, ◌||◌, Bool, false, List, [], ◌∷◌, ◌++◌, length, Option, None, Some, IfSome, IsSome, ◌+◌, ℤ, if◌then◌else◌}
use Rattle.std.specs.List.{AllByRecursion}
use Rattle.blob_words.specs.declared.number.RendererId.{RendererId}
use Rattle.session_script.specs.declared.event.Event.TheVariants as events
use Rattle.session_script.specs.declared.event.Part.{Part}
use Rattle.answer_text.specs.declared.group.Group.{Group}
use Rattle.data_handles.specs.Table.{Table as HandleTable}
use Rattle.page_disk.specs.declared.change.Change.{Change}
use Rattle.renderer_table.specs.Table.{Table}
use Rattle.item_shares.specs.declared.item.Item.{Item}
use Rattle.item_shares.specs.declared.item.Item.TheVariants.{Memory, Paged, Reserved, File, Range}
use Rattle.item_shares.specs.declared.shares.Share.{Share}
use Rattle.item_shares.specs.Shares.{item_at}
use Rattle.item_shares.specs.Weights.{weights}
use Rattle.blob_entries.specs.Book.{Book, book_of}
use Rattle.blob_entries.specs.declared.entry.Entry.{Entry}
use Rattle.page_files.specs.Files.{Files}
use Rattle.quota_queue.specs.Queue.{Queue}
use Rattle.blob_model.specs.Builds.{Build, built, builds, plan_told, slice_parts}
use Rattle.blob_model.specs.Construct.{build_answer}
use Rattle.blob_model.specs.History.{History, heard, history_from, start}
use Rattle.blob_model.specs.Legal.{IsLegalFrom}
use Rattle.blob_model.specs.Refusals.{claimed, is_in, refusal}
use Rattle.blob_model.specs.Jobs.{Job, in_flight}
use Rattle.blob_model.specs.Order.{named}
use Rattle.blob_model.specs.Pages.{Page, pages}
use Rattle.blob_model.specs.Parts.{own_bytes}
use Rattle.blob_model.specs.Pieces.{Piece, pieces, spans_of}
use Rattle.blob_model.specs.Session.{Session, page_limit}
use Rattle.blob_model.specs.Standing.{ended, is_done, was_granted}
use Rattle.blob_model.specs.Transport.{arrivals}
use Rattle.blob_model.specs.Victims.{last_uses}
use Rattle.blob_model.specs.Waits.{is_waiting}
use Rattle.store_laws.specs.Cells.{piece_in}
use Rattle.store_laws.specs.Items.{AreOnePerPiece, Facts, IsPlaced, holds_slot, piece_of_item}
use Rattle.store_laws.specs.LineLaws.{AreUnmarked, counted}
use Rattle.store_laws.specs.Outlines.{outline, outline_of}
use Rattle.store_laws.specs.PageFiles.{writes}
use Rattle.store_laws.specs.ReachLaws.{IsAtRest}
use Rattle.store_laws.specs.Recipes.{IsEntryFor}
use Rattle.store_laws.specs.Rows.{AreWritten, Row, bare, row_of}
use Rattle.store_laws.specs.Stands.{Between, ContentsStand, Parts, lines}
use Rattle.store_laws.specs.Tables.{AreClaimed, DiskStands, HandlesStand, TablesStand}
use Rattle.store_laws.specs.Uses.{facts_of, own_pieces, page_facts_of}
use Rattle.store_laws.specs.Weights.{reserved_weight}

-- a history goes on with one blob more, which isn't done, and of what the contents stand for nothing else changes
pub record Adds (s : Session) (h later : History) (new : Build) : Type 0 where
  pub blobs : builds (page_limit s) later ≡ builds (page_limit s) h ++ new ∷ []
  pub fresh : named new.name (builds (page_limit s) h) ≡ false
  pub undone : is_done later new.name ≡ false
  pub endings : (name : ℕ) → (new.name == name) ≡ false → ended later name ≡ ended h name
  pub grants : (name : ℕ) → was_granted later name ≡ was_granted h name
  pub segments : (name : ℕ) → arrivals later name ≡ arrivals h name
  pub written : pages later ≡ pages h
  pub facts : page_facts_of later ≡ page_facts_of h
  pub uses : last_uses s.limits later ≡ last_uses s.limits h

-- each piece that a page file lists, or the job in flight names, is one of a blob
abbrev pub AreThere : List Piece → List ℕ → Type 0
AreThere all numbers = AllByRecursion (λ (number : ℕ). IsSome (piece_in all number)) numbers

pub record AreListed (page : ℕ) (h : History) : Type 0 where
  pub in_pages : AllByRecursion (λ (file : Page). AreThere (pieces page h) file.pieces) (pages h)
  pub in_writes : AllByRecursion (λ (list : Option (List ℕ)). IfSome list (AreThere (pieces page h))) (writes h)
  pub in_job : IfSome (in_flight h) (λ (job : Job). AreThere (pieces page h) job.pieces)

-- an item that isn't in a page file
abbrev pub IsUnpaged : Item → Type 0
IsUnpaged (Memory piece bytes) = Unit {0}
IsUnpaged (Paged piece page off len) = ⊥
IsUnpaged (Reserved piece len) = Unit {0}
IsUnpaged (File name stamp off len) = Unit {0}
IsUnpaged (Range slot off len) = Unit {0}

-- an item that comes: it is placed, and of none of so many pieces
pub record IsNew (all : List Piece) (facts : Facts) (count : ℕ) (item : Item) : Type 0 where
  pub placed : IsPlaced all facts item
  pub unpaged : IsUnpaged item
  pub later : IfSome (piece_of_item item) (λ (number : ℕ). count ≤ number)

-- items come under slots that were free, and each slot that held one holds it still
pub record AreAdded (all : List Piece) (facts : Facts) (count : ℕ) (shares now : List (Option Share)) : Type 0 where
  pub kept : (slot : ℕ) → IfSome (item_at shares slot) (λ (item : Item). item_at now slot ≡ Some item)
  pub added : (slot : ℕ) → item_at shares slot ≡ None → IfSome (item_at now slot) (IsNew all facts count)
  pub apart : AreOnePerPiece now

-- an entry and a row for a new blob
pub record IsEntered (s : Session) (later : History) (new : Build) (now : List (Option Share)) (entry : Entry) (row : Row) : Type 0 where
  pub outline_is : outline entry ≡ outline_of s later new
  pub unmarked : entry.mark ≡ None
  pub stands : IsEntryFor (builds (page_limit s) later) (pieces (page_limit s) later) now (own_pieces (page_limit s) later) new entry
  pub row_is : bare row ≡ row_of s later new
  pub slots : AreWritten now (own_pieces (page_limit s) later new.name) row.coming

-- those that wait, with the new blob last where it does
abbrev pub now_waiting : History → Build → List (ℕ × ℕ) → List (ℕ × ℕ)
now_waiting later new list = list ++ (if is_waiting later new then (new.name, own_bytes new.parts) ∷ [] else [])

-- entries, items and charges stand for the history with the new blob, where its entry, its row and its items come, and it waits if it does
abbrev pub ContentsGrow : Type 0
ContentsGrow =
    (s : Session) (h : History) (stands : ℕ → Bool) (book : Book) (shares : List (Option Share)) (rows : List (Option Row)) (quota : Queue) (files : Files)
    (order : List (ℕ × ℕ)) → ContentsStand s h stands book shares rows quota files order → AreUnmarked book.entries → IsAtRest (page_limit s) h
    → AreListed (page_limit s) h → (later : History) (new : Build) → Adds s h later new → (entry : Entry) (row : Row) (now : List (Option Share))
    → AreAdded (pieces (page_limit s) later) (facts_of s later) (length (pieces (page_limit s) h)) shares now → IsEntered s later new now entry row
    → (used : ℕ)
    → ContentsStand s later (λ (name : ℕ). (new.name == name) || stands name)
    (book_of (book.names ++ new.name ∷ []) (book.entries ++ Some entry ∷ [])) now (rows ++ Some row ∷ [])
    (record quota { used = used; waiting = now_waiting later new quota.waiting }) (record files { reserved = weights reserved_weight now }) order

-- ---- a line that builds

-- in a legal transcript whatever page files list and the job in flight names is a piece of a blob
abbrev pub ListedAreThere : Type 0
ListedAreThere = (s : Session) (groups : List Group) → IsLegalFrom s start groups → AreListed (page_limit s) (history_from start groups)

-- the blob that a line makes by its answer
abbrev pub made : Session → History → RendererId → ℕ → List ℕ → List Part → Build
made s h renderer name kind parts =
    built (page_limit s) (builds (page_limit s) h) renderer.0 name kind parts (plan_told (build_answer s h renderer.0 name parts))

-- in a legal transcript an accepted `build` or `slice` line adds its blob
pub record BuildsAdd : Type 0 where
  pub by_build : (s : Session) (groups : List Group) (renderer : RendererId) (name : ℕ) (kind : List ℕ) (parts : List Part) → IsLegalFrom s start groups
      → refusal s (history_from start groups) (events.Build renderer name kind parts) ≡ None
      → Adds s (history_from start groups)
      (heard (history_from start groups) (events.Build renderer name kind parts) (build_answer s (history_from start groups) renderer.0 name parts))
      (made s (history_from start groups) renderer name kind parts)
  pub by_slice : (s : Session) (groups : List Group) (renderer : RendererId) (name source : ℕ) (from to : Option ℤ) (kind : List ℕ)
      → IsLegalFrom s start groups → refusal s (history_from start groups) (events.Slice renderer name source from to kind) ≡ None
      → (parts : List Part) → parts ≡ slice_parts (builds (page_limit s) (history_from start groups)) source from to
      → Adds s (history_from start groups)
      (heard (history_from start groups) (events.Slice renderer name source from to kind) (build_answer s (history_from start groups) renderer.0 name parts))
      (made s (history_from start groups) renderer name kind parts)

-- the parts with a new blob: its entry, its row, its items, a handle of its builder, and what is charged for it
abbrev pub grown_parts : Session → History → Build → Entry → Row → List (Option Share) → Table → ℕ → Parts → Parts
grown_parts s later new entry row now renderers used parts = record parts {
  book = book_of (parts.book.names ++ new.name ∷ []) (parts.book.entries ++ Some entry ∷ []);
  shares = now;
  rows = parts.rows ++ Some row ∷ [];
  quota = record parts.quota { used = used; waiting = now_waiting later new parts.quota.waiting };
  pages = record parts.pages { reserved = weights reserved_weight now };
  renderers = renderers;
  pieces = parts.pieces + length (spans_of (page_limit s) new);
  weight = parts.weight + new.weight;
}

-- the parts stand for the history with the new blob, where the tables beside do
abbrev pub GrownStands : Type 0
GrownStands =
    (s : Session) (h : History) (stands : ℕ → Bool) (parts : Parts) (told : Option (List Change)) (table : HandleTable) → AreUnmarked parts.book.entries
    → Between s h stands parts told table → IsAtRest (page_limit s) h → AreListed (page_limit s) h → (later : History) (new : Build) → Adds s h later new
    → lines later ≡ lines h + 1 → (entry : Entry) (row : Row) (now : List (Option Share))
    → AreAdded (pieces (page_limit s) later) (facts_of s later) (length (pieces (page_limit s) h)) parts.shares now → IsEntered s later new now entry row
    → (renderers : Table) → TablesStand s later renderers parts.urls parts.files parts.readers → (later_table : HandleTable)
    → HandlesStand s.outside.slots (λ (k : ℕ). is_in k (claimed s later)) (holds_slot now) later_table
    → AreClaimed s.outside.slots (λ (k : ℕ). is_in k (claimed s later)) (holds_slot now) → DiskStands s later told → (used : ℕ)
    → Between s later (λ (name : ℕ). (new.name == name) || stands name) (counted (grown_parts s later new entry row now renderers used parts)) told later_table
