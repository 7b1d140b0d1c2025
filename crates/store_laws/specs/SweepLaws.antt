-- What a sweep leaves: the entries of the live blobs, and the items on which they have views. Own.
use Rattle.std.specs.Prelude.{ℕ, ◌≡◌, ◌<◌, Bool, true, List, [], ◌∷◌, map, Option, None, Some, IfSome, if◌then◌else◌}
use Rattle.std.specs.Option.{option_map}
use Rattle.blob_entries.specs.Book.{Book, book_of}
use Rattle.blob_entries.specs.Holdings.{views_in}
use Rattle.blob_entries.specs.Leaving.{left}
use Rattle.blob_entries.specs.declared.entry.Entry.{Entry}
use Rattle.blob_registry.specs.Sweeps.{swept}
use Rattle.item_shares.specs.Shares.{item_at}
use Rattle.item_shares.specs.declared.item.Item.{Item}
use Rattle.item_shares.specs.declared.shares.Share.{Share}
use Rattle.page_files.specs.Files.{Files}
use Rattle.quota_queue.specs.Queue.{Queue}
use Rattle.blob_model.specs.Builds.{Build, builds}
use Rattle.blob_model.specs.History.{History}
use Rattle.blob_model.specs.Live.{is_live}
use Rattle.blob_model.specs.Pieces.{pieces}
use Rattle.blob_model.specs.Session.{Session, page_limit}
use Rattle.registry_laws.specs.Agree.{Beside}
use Rattle.registry_laws.specs.Laws.{Describes}
use Rattle.store_laws.specs.Items.{ItemsStand}
use Rattle.store_laws.specs.Outlines.{outlines, outlines_of, IsMarkedRight}
use Rattle.store_laws.specs.Recipes.{EntriesStand}
use Rattle.store_laws.specs.Rows.{Row, bare, pins, rows_of}
use Rattle.store_laws.specs.Settling.{after_drops}
use Rattle.store_laws.specs.Stands.{ContentsStand}
use Rattle.store_laws.specs.Uses.{facts_of, own_pieces}

-- what is left of entries beside their blobs, where the blobs of these names live
abbrev pub entries_left : (ℕ → Bool) → List Build → List (Option Entry) → List (Option Entry)
entries_left lives [] entries = []
entries_left lives (build ∷ builds) [] = []
entries_left lives (build ∷ builds) (held ∷ entries) = left (lives build.name) held ∷ entries_left lives builds entries

-- and of rows
abbrev pub rows_left : (ℕ → Bool) → List Build → List (Option Row) → List (Option Row)
rows_left lives [] rows = []
rows_left lives (build ∷ builds) [] = []
rows_left lives (build ∷ builds) (held ∷ rows) = (if lives build.name then held else None) ∷ rows_left lives builds rows

-- a slot that holds an item held it before, and one with views of these entries, or with a piece on its way, holds what it held
pub record AreKept (entries : List (Option Entry)) (rows : List (Option Row)) (shares later : List (Option Share)) : Type 0 where
  pub still : (slot : ℕ) → IfSome (item_at later slot) (λ (item : Item). item_at shares slot ≡ Some item)
  pub viewed : (slot : ℕ) → 0 < views_in entries slot → item_at later slot ≡ item_at shares slot
  pub pinned : (slot : ℕ) → 0 < pins slot rows → item_at later slot ≡ item_at shares slot

-- entries, rows and items stand for the history, while the blobs of these names stand
pub record EntriesAre (s : Session) (h : History) (stands : ℕ → Bool) (book : Book) (shares : List (Option Share)) (rows : List (Option Row)) : Type 0 where
  pub names : book.names ≡ map (λ (build : Build). build.name) (builds (page_limit s) h)
  pub outlines_stand : outlines book.entries ≡ outlines_of s h stands
  pub marks : Beside (IsMarkedRight s h) (builds (page_limit s) h) book.entries
  pub rows_stand : map (option_map bare) rows ≡ rows_of s h stands
  pub items : ItemsStand (pieces (page_limit s) h) (facts_of s h) shares
  pub entries : EntriesStand (builds (page_limit s) h) (pieces (page_limit s) h) (own_pieces (page_limit s) h) shares book.entries rows

-- a sweep leaves the live blobs, and behind the drops what is left of entries, rows and items stands for them
pub record SweepLeavesLive : Type 0 where
  pub live_left : (s : Session) (h : History) (book : Book) → Describes s h book
      → swept book.names 0 book.entries ≡ entries_left (is_live (page_limit s) h) (builds (page_limit s) h) book.entries
  pub left_stand : (s : Session) (h : History) (stands : ℕ → Bool) (book : Book) (shares : List (Option Share)) (rows : List (Option Row)) (quota : Queue)
      (files : Files) (order : List (ℕ × ℕ)) → ContentsStand s h stands book shares rows quota files order → Describes s h book
      → ((name : ℕ) → is_live (page_limit s) h name ≡ true → stands name ≡ true) → (later : List (Option Share))
      → AreKept (entries_left (is_live (page_limit s) h) (builds (page_limit s) h) book.entries)
      (rows_left (is_live (page_limit s) h) (builds (page_limit s) h) rows)
      shares later
      → EntriesAre s (after_drops s h) (is_live (page_limit s) h)
      (book_of book.names (entries_left (is_live (page_limit s) h) (builds (page_limit s) h) book.entries)) later
      (rows_left (is_live (page_limit s) h) (builds (page_limit s) h) rows)
