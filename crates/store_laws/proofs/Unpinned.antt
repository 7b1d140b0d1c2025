-- Items that nothing views and that are on no way go, and the contents stand.
use Rattle.std.proofs.Common.{◌≡◌, ℕ, ◌+◌, ◌<◌, ◌==◌, ◌&&◌, not, Bool, true, cond, List, [], ◌∷◌, Option, Some, None, map, ap, sym, ◌∙◌, arith}
use Rattle.std.specs.Prelude.{count_by, filter_map, flat_map, fold}
use Rattle.std.specs.List.{list_any}
use Rattle.std.specs.Option.{option_map}
use Rattle.std.proofs.lemmas.Bool.{and_parts}
use Rattle.std.proofs.lemmas.List.Sums.{sum_by-append}
use Rattle.item_shares.specs.Shares.{item_at}
use Rattle.item_shares.specs.declared.item.Item.{Item}
use Rattle.item_shares.specs.declared.shares.Share.{Share}
use Rattle.blob_entries.specs.Holdings.{held_views, views_in}
use Rattle.blob_entries.specs.declared.entry.Entry.{Entry}
use Rattle.blob_entries.proofs.Holdings.{in_cons, on_held}
use Rattle.blob_model.specs.Builds.{Build, builds}
use Rattle.blob_model.specs.History.{History}
use Rattle.blob_model.specs.Jobs.{is_in_job}
use Rattle.blob_model.specs.Pages.{is_memory, place_in}
use Rattle.blob_model.specs.Pieces.{Piece, pieces}
use Rattle.blob_model.specs.Session.{Session, page_limit}
use Rattle.blob_model.specs.Standing.{is_done}
use Rattle.blob_model.specs.Victims.{last_uses, with_length}
use Rattle.registry_laws.specs.Agree.{Beside}
use Rattle.store_laws.specs.Items.{holds_piece, AreOnePerPiece}
use Rattle.store_laws.specs.LetGo.{left_by, AreFreed}
use Rattle.store_laws.specs.Recipes.{EntryStands, RowsBeside}
use Rattle.store_laws.specs.Rows.{bare, coming_slots, gathering, is_gathered, pins, row_slots, rows_of, settled, waiting, writing, AreWritten, Coming, Row}
use Rattle.store_laws.specs.Unpinned.{UnpinnedStands}
use Rattle.store_laws.specs.Uses.{facts_of, held_pieces, is_held, order_of, own_pieces, page_facts_of, pageable_of}
use Rattle.store_laws.proofs.Leaving.{each_viewed, entry_kept, items_left, slots_kept}
use Rattle.store_laws.proofs.Letting.{holds_any, is_of, left_in, number_of_piece, pages_let_go}
use Rattle.store_laws.proofs.OrderLeft.{done_over, length_left, not_gathered, or_none, order_fold, passing, passing_left, uses_left}

-- ---- entries and rows

module _ (whole : List Build) (all : List Piece) (own : ℕ → List ℕ) (shares later : List (Option Share)) where
  each_kept : (list : List Build) (entries : List (Option Entry)) → ((slot : ℕ) → 0 < views_in entries slot → item_at later slot ≡ item_at shares slot)
      → Beside (EntryStands whole all shares own) list entries → Beside (EntryStands whole all later own) list entries
  each_kept [] [] same is = tt
  each_kept [] (held ∷ entries) same is = absurd is
  each_kept (build ∷ list) [] same is = absurd is
  each_kept (build ∷ list) (held ∷ entries) same is = (
    one held (λ slot some. same slot (let on = in_cons held entries slot in omega (arith, on, some))) is.0,
    each_kept list entries (λ slot some. same slot (let on = in_cons held entries slot in omega (arith, on, some))) is.1,
  )
    where
      one : (each : Option Entry) → ((slot : ℕ) → 0 < on_held slot each → item_at later slot ≡ item_at shares slot)
          → EntryStands whole all shares own build each → EntryStands whole all later own build each
      one None kept is = tt
      one (Some entry) kept is = entry_kept all shares later whole own build entry (each_viewed all shares later (held_views entry) kept) is

  written_kept : (list : List Build) (rows : List (Option Row)) → ((slot : ℕ) → 0 < pins slot rows → item_at later slot ≡ item_at shares slot)
      → RowsBeside (λ (build : Build) (row : Row). AreWritten shares (own build.name) row.coming) list rows
      → RowsBeside (λ (build : Build) (row : Row). AreWritten later (own build.name) row.coming) list rows
  written_kept [] rows same is = tt
  written_kept (build ∷ list) [] same is = tt
  written_kept (build ∷ list) (None ∷ rows) same is = written_kept list rows same is
  written_kept (build ∷ list) (Some row ∷ rows) same is = (
    writes row.coming (λ slot some. same slot (let sum = parted slot in omega (arith, sum, some))) is.0,
    written_kept list rows (λ slot some. same slot (let sum = parted slot in omega (arith, sum, some))) is.1,
  )
    where
      parted : (slot : ℕ) → pins slot (Some row ∷ rows) ≡ count_by (λ (each : ℕ). each == slot) (coming_slots row.coming) + pins slot rows
      parted slot = sum_by-append (λ (each : ℕ). cond (each == slot) 1 0) (coming_slots row.coming) (flat_map row_slots rows)

      writes : (coming : Coming)
          → ((slot : ℕ) → 0 < count_by (λ (each : ℕ). each == slot) (coming_slots coming) → item_at later slot ≡ item_at shares slot)
          → AreWritten shares (own build.name) coming → AreWritten later (own build.name) coming
      writes settled kept is = tt
      writes waiting kept is = tt
      writes (gathering segments) kept is = tt
      writes (writing slots came) kept is = slots_kept shares later slots kept ∙ is

-- ---- the order of use

module _ (s : Session) (h : History) (stands : ℕ → Bool) (shares later : List (Option Share)) (rows : List (Option Row)) (freed : List Item)
    (rowed : map (option_map bare) rows ≡ rows_of s h stands) (apart : AreOnePerPiece shares) (goes : AreFreed shares later freed) where
  abbrev stays_out : ℕ → Bool
  stays_out n = not (list_any (is_of n) freed)

  abbrev can_page : Piece → Bool
  can_page piece = is_done h piece.blob && not (is_in_job h piece.number)

  held_left : (piece : Piece) → can_page piece ≡ true
      → is_held (builds (page_limit s) h) later rows piece ≡ (is_held (builds (page_limit s) h) shares rows piece && stays_out piece.number)
  held_left piece pages =
      let done : is_done h piece.blob ≡ true = (and_parts (is_done h piece.blob) (not (is_in_job h piece.number)) pages).0 in
      let out = not_gathered s h stands (builds (page_limit s) h) rows rowed piece.blob (done_over h piece.blob done) in
      or_none (holds_piece later piece.number) (is_gathered (builds (page_limit s) h) rows piece.blob) out
      ∙ holds_any piece.number later
      ∙ sym (left_in (is_of piece.number) piece.number (number_of_piece piece.number) shares later freed apart goes)
      ∙ ap (λ (b : Bool). b && stays_out piece.number)
      (sym (holds_any piece.number shares) ∙ sym (or_none (holds_piece shares piece.number) (is_gathered (builds (page_limit s) h) rows piece.blob) out))

  abbrev before : List Piece
  before = pageable_of (page_limit s) h (held_pieces (page_limit s) h shares rows)

  pageable_left : pageable_of (page_limit s) h (held_pieces (page_limit s) h later rows) ≡ passing stays_out before
  pageable_left =
      passing_left (is_held (builds (page_limit s) h) shares rows) (is_held (builds (page_limit s) h) later rows)
      (λ (piece : Piece). is_memory (place_in h (builds (page_limit s) h) piece)) can_page (λ (piece : Piece). stays_out piece.number)
      (pieces (page_limit s) h) held_left

  order_left : (order : List (ℕ × ℕ)) → order ≡ order_of s h shares rows → fold left_by order freed ≡ order_of s h later rows
  order_left order is =
      ap (λ (one : List (ℕ × ℕ)). fold left_by one freed) is ∙ order_fold freed (order_of s h shares rows)
      ∙ sym (uses_left stays_out before (last_uses s.limits h))
      ∙ (λ i. filter_map (λ (n : ℕ). sym (length_left stays_out before n) i) (last_uses s.limits h))
      ∙ (λ i. filter_map (with_length (sym pageable_left i)) (last_uses s.limits h))

pub unpinned_stands : UnpinnedStands
unpinned_stands s h stands book shares rows quota files order contents later freed goes kept used = record {
  names = contents.names;
  outlines_stand = contents.outlines_stand;
  marks = contents.marks;
  rows_stand = contents.rows_stand;
  items = items_left (pieces (page_limit s) h) (facts_of s h) shares later kept.still contents.items;
  entries = record {
    each = each_kept (builds (page_limit s) h) (pieces (page_limit s) h) (own_pieces (page_limit s) h) shares later (builds (page_limit s) h) book.entries
        kept.viewed contents.entries.each;
    written = written_kept (builds (page_limit s) h) (pieces (page_limit s) h) (own_pieces (page_limit s) h) shares later (builds (page_limit s) h) rows
        kept.pinned contents.entries.written;
  };
  waiting = contents.waiting;
  memory_limit = contents.memory_limit;
  page_files_stand = pages_let_go (pieces (page_limit s) h) (page_facts_of h) s.limits.disk shares later files freed contents.page_files_stand
      contents.items.apart goes;
  recent = λ on. order_left s h stands shares later rows freed contents.rows_stand contents.items.apart goes order (contents.recent on);
}
