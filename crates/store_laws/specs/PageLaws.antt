-- The charge for page files is that of the reached pieces. Own.
use Rattle.std.specs.Prelude.{ℕ, ◌≡◌, ◌+◌, ◌==◌, Bool, true, false, List, [], ◌∷◌, length, Option, None, Some, IfSome}
use Rattle.std.specs.List.{AllByRecursion, list_any}
use Rattle.blob_entries.specs.Book.{Book}
use Rattle.item_shares.specs.declared.item.Item.{Item}
use Rattle.item_shares.specs.declared.item.Item.TheVariants.{Paged}
use Rattle.item_shares.specs.declared.shares.Share.{Share}
use Rattle.item_shares.specs.Shares.{item_at}
use Rattle.page_files.specs.Files.{Files, charge}
use Rattle.page_files.specs.Pages.{held_count}
use Rattle.quota_queue.specs.Queue.{Queue}
use Rattle.blob_model.specs.Session.{Session, page_limit}
use Rattle.answer_text.specs.declared.group.Group.{Group}
use Rattle.blob_model.specs.History.{History, history_from, start}
use Rattle.blob_model.specs.Legal.{IsLegalFrom}
use Rattle.blob_model.specs.Builds.{builds}
use Rattle.blob_model.specs.Jobs.{is_in_job}
use Rattle.blob_model.specs.Pages.{Page, asked, pages}
use Rattle.blob_model.specs.Pieces.{Piece, pieces}
use Rattle.blob_model.specs.Tally.{disk, files as page_files}
use Rattle.store_laws.specs.PageFiles.{writes}
use Rattle.store_laws.specs.ReachLaws.{AreGatheredApart, IsAtRest, IsCounted}
use Rattle.store_laws.specs.Rows.{Row, is_gathered}
use Rattle.store_laws.specs.Stands.{AreExact, ContentsStand}

-- the page files that were written, each with the number of its write
abbrev pub numbered_pages : ℕ → List (Option (List ℕ)) → List Page
numbered_pages number [] = []
numbered_pages number (None ∷ more) = numbered_pages (number + 1) more
numbered_pages number (Some list ∷ more) = record { number = number; pieces = list } ∷ numbered_pages (number + 1) more

-- in a legal transcript page numbers are taken one after the other
abbrev pub ArePagesInTurn : Type 0
ArePagesInTurn =
    (s : Session) (groups : List Group) → IsLegalFrom s start groups
    → pages (history_from start groups) ≡ numbered_pages 0 (writes (history_from start groups))

-- the removal of the page file that an item is in was not asked for
abbrev pub IsUnasked : List ℕ → Item → Type 0
IsUnasked removed (Paged piece page off len) = list_any (λ (each : ℕ). each == page.0) removed ≡ false
IsUnasked removed item = Unit {0}

-- page numbers are taken one after the other, no item is in a page file that was asked for, and no job names a piece that is gathered
pub record ArePaged (s : Session) (h : History) (shares : List (Option Share)) (rows : List (Option Row)) : Type 0 where
  pub in_turn : pages h ≡ numbered_pages 0 (writes h)
  pub unasked : (slot : ℕ) → IfSome (item_at shares slot) (IsUnasked (asked h))
  pub unnamed : AllByRecursion (λ (piece : Piece). is_gathered (builds (page_limit s) h) rows piece.blob ≡ true
      → is_in_job h piece.number ≡ false) (pieces (page_limit s) h)

pub record DiskIsTold (page : ℕ) (h : History) (files : Files) : Type 0 where
  pub charged : charge files ≡ disk page h
  pub many : held_count files.pages ≡ length (page_files page h)

-- the bytes charged for page files are those that the history says, and as many page files hold a reached piece
abbrev pub DiskIsCharged : Type 0
DiskIsCharged =
    (s : Session) (h : History) (stands : ℕ → Bool) (book : Book) (shares : List (Option Share)) (rows : List (Option Row)) (quota : Queue) (files : Files)
    (order : List (ℕ × ℕ)) → ContentsStand s h stands book shares rows quota files order → AreExact s h stands → IsAtRest (page_limit s) h
    → IsCounted book shares rows → AreGatheredApart s h shares rows → ArePaged s h shares rows → DiskIsTold (page_limit s) h files
