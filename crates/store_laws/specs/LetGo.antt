-- What becomes of page files and of the order of use when items go. Own.
use Rattle.std.specs.Prelude.{ℕ, ◌≡◌, ◌+◌, Bool, List, [], Option, Some, fold, map, sum_by, IfSome}
use Rattle.std.specs.Option.{option_map}
use Rattle.answer_text.specs.declared.answer.Answer.TheVariants as answers
use Rattle.item_shares.specs.Shares.{item_at, AreViewed}
use Rattle.item_shares.specs.Weights.{weights}
use Rattle.item_shares.specs.declared.item.Item.{Item}
use Rattle.item_shares.specs.declared.item.Item.TheVariants.{Memory, Paged, Reserved, File, Range}
use Rattle.item_shares.specs.declared.shares.Share.{Share}
use Rattle.blob_items.specs.declared.view.View.{View}
use Rattle.blob_entries.specs.Book.{Book}
use Rattle.blob_entries.specs.Counts.{count_at}
use Rattle.blob_entries.specs.Holdings.{views_in}
use Rattle.blob_entries.specs.Leaving.{LetsGo}
use Rattle.blob_entries.specs.declared.entry.Entry.{Entry}
use Rattle.blob_words.specs.declared.number.PieceNo.{PieceNo}
use Rattle.page_files.specs.Files.{Files, struck, unreserved}
use Rattle.page_files.specs.Pages.{released_at}
use Rattle.quota_queue.specs.Queue.{without as unqueued}
use Rattle.recent_items.specs.Recent.{without}
use Rattle.blob_model.specs.Builds.{Build}
use Rattle.blob_model.specs.History.{History}
use Rattle.blob_model.specs.Parts.{own_bytes}
use Rattle.blob_model.specs.Pieces.{Piece}
use Rattle.blob_model.specs.Session.{Session, page_limit}
use Rattle.blob_model.specs.Settle.{drops}
use Rattle.blob_model.specs.Waits.{waits}
use Rattle.registry_laws.specs.Laws.{Describes}
use Rattle.store_laws.specs.Items.{AreOnePerPiece}
use Rattle.store_laws.specs.PageFiles.{PageFacts, PagesStand}
use Rattle.store_laws.specs.Rows.{Row, bare, pins, rows_of}
use Rattle.store_laws.specs.Settling.{after_drops}
use Rattle.store_laws.specs.SweepLaws.{rows_left, AreKept}
use Rattle.store_laws.specs.Uses.{order_of}

-- the order of use without the piece of an item
abbrev pub left_by : List (ℕ × ℕ) → Item → List (ℕ × ℕ)
left_by order (Memory piece bytes) = without piece.0 order
left_by order (Paged piece page off len) = without piece.0 order
left_by order (Reserved piece len) = without piece.0 order
left_by order (File name stamp off len) = order
left_by order (Range slot off len) = order

-- page files whose job in flight hasn't got a piece
abbrev pub without_piece : PieceNo → Files → Files
without_piece piece files = record files { job = option_map (struck piece) files.job }

-- page files without an item: its piece is in no page and no job, and what was reserved for it is free
abbrev pub let_go_by : Files → Item → Files
let_go_by files (Memory piece bytes) = without_piece piece files
let_go_by files (Paged piece page off len) = without_piece piece (record files { pages = released_at page.0 piece files.pages })
let_go_by files (Reserved piece len) = without_piece piece (unreserved len files)
let_go_by files (File name stamp off len) = files
let_go_by files (Range slot off len) = files

-- of these items some went, each from its slot, and the others are where they were
pub record AreFreed (shares later : List (Option Share)) (freed : List Item) : Type 0 where
  pub still : (slot : ℕ) → IfSome (item_at later slot) (λ (item : Item). item_at shares slot ≡ Some item)
  pub weighs : (weight : Item → ℕ) → sum_by weight freed + weights weight later ≡ weights weight shares

-- page files stand for the items that are left
abbrev pub PagesLetGo : Type 0
PagesLetGo =
    (all : List Piece) (facts : PageFacts) (limit : ℕ) (shares later : List (Option Share)) (files : Files) (freed : List Item)
    → PagesStand all facts limit shares files → AreOnePerPiece shares → AreFreed shares later freed
    → PagesStand all facts limit later (fold let_go_by files freed)

-- the order of use is that of the pieces that are left
abbrev pub OrderLetGo : Type 0
OrderLetGo =
    (s : Session) (h : History) (stands now : ℕ → Bool) (shares later : List (Option Share)) (rows rows_now : List (Option Row)) (freed : List Item)
    (order : List (ℕ × ℕ)) → map (option_map bare) rows ≡ rows_of s h stands → map (option_map bare) rows_now ≡ rows_of s (after_drops s h) now
    → AreOnePerPiece shares → AreFreed shares later freed → order ≡ order_of s h shares rows
    → fold left_by order freed ≡ order_of s (after_drops s h) later rows_now

-- when views go and no item stands without one, some items went, and those on which there are views still, or whose piece is on its way, are kept
pub record ItemsAre (shares later : List (Option Share)) (freed : List Item) : Type 0 where
  pub freed_so : AreFreed shares later freed
  pub kept_so : (lives : ℕ → Bool) (list : List Build) (entries : List (Option Entry)) (rows : List (Option Row))
      → ((slot : ℕ) → count_at later slot ≡ views_in entries slot + pins slot rows) → AreKept entries (rows_left lives list rows) shares later

abbrev pub ItemsLetGo : Type 0
ItemsLetGo =
    (views : List View) (shares later : List (Option Share)) (freed : List Item) → LetsGo views shares later [] freed → AreViewed later
    → ItemsAre shares later freed

-- the queue without the blobs that are dropped is that of those that wait still
abbrev pub QueueLetGo : Type 0
QueueLetGo =
    (s : Session) (h : History) (book : Book) (waiting : List (ℕ × ℕ)) (names : List ℕ) → Describes s h book
    → waiting ≡ map (λ (build : Build). (build.name, own_bytes build.parts)) (waits (page_limit s) h)
    → map (λ (name : ℕ). answers.Dropped name) names ≡ drops s h
    → fold (λ (list : List (ℕ × ℕ)) (name : ℕ). unqueued name list) waiting names
    ≡ map (λ (build : Build). (build.name, own_bytes build.parts)) (waits (page_limit s) (after_drops s h))
