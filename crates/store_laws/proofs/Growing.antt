-- What stays as it was of blobs and pieces where a blob comes.
use Rattle.std.proofs.Common.{◌≡◌, ℕ, ◌+◌, ◌≤◌, ◌<◌, ◌==◌, ◌&&◌, ◌||◌, not, Bool, true, false, List, [], ◌∷◌, ◌++◌, map, take, drop, length, refl, ap, subst, sym, ◌∙◌, Option, Some, None, cond, arith}
use Rattle.std.specs.Prelude.{filter, filter_map, flat_map, is_none, is_some, sum_by, take_while, unwrap_or, reverse, IfSome, IsSome, IsSomeAnd}
use Rattle.std.specs.Option.{option_and_then, option_map, option_map_or}
use Rattle.std.specs.List.{AllByRecursion, list_any, prefix_len, range_with_len}
use Rattle.std.proofs.lemmas.Bool.{eq-eqb}
use Rattle.std.proofs.lemmas.List.{append-nil}
use Rattle.std.proofs.lemmas.List.Elements.{filter-append}
use Rattle.blob_words.specs.declared.plan.Plan.{Plan}
use Rattle.blob_words.specs.declared.plan.Plan.TheVariants as plans
use Rattle.blob_words.specs.declared.status.Status.{Status}
use Rattle.blob_words.specs.declared.status.Status.TheVariants as statuses
use Rattle.item_shares.specs.declared.item.Item.{Item}
use Rattle.item_shares.specs.declared.item.Item.TheVariants.{Memory, Paged, Reserved, File, Range}
use Rattle.item_shares.specs.declared.shares.Share.{Share}
use Rattle.item_shares.specs.Shares.{item_at}
use Rattle.item_shares.specs.Weights.{weights}
use Rattle.blob_items.specs.declared.view.View.{View}
use Rattle.blob_entries.specs.Holdings.{fixed_views, held_views, own_views}
use Rattle.blob_entries.specs.Statuses.{is_pending}
use Rattle.blob_entries.specs.declared.entry.Entry.{Entry}
use Rattle.blob_entries.specs.declared.step.Step.{Step}
use Rattle.blob_entries.specs.declared.step.Step.TheVariants.{Own, Fixed, Source}
use Rattle.page_files.specs.declared.held.Held.{Held}
use Rattle.page_files.specs.declared.page.Page.{Page as FilePage}
use Rattle.page_files.specs.Files.{Files, left_of}
use Rattle.page_files.specs.Pages.{pieces_of as held_in}
use Rattle.blob_model.specs.Builds.{Build, Cell, builds, build_in, cells_in, size}
use Rattle.blob_model.specs.Changes.{piece_bytes}
use Rattle.blob_model.specs.History.{History}
use Rattle.blob_model.specs.Jobs.{Job, in_flight, is_in_job}
use Rattle.blob_model.specs.Order.{named}
use Rattle.blob_model.specs.Pages.{Page, in_memory, in_page, reserved, is_memory, page_with, pages, place, place_by, place_in}
use Rattle.blob_model.specs.Parts.{own_lengths, sources}
use Rattle.blob_model.specs.Pieces.{Piece, length_in, numbered, pieces, pieces_from, spans_of}
use Rattle.blob_model.specs.Reached.{is_granted_piece}
use Rattle.blob_model.specs.Session.{Session, page_limit}
use Rattle.blob_model.specs.Standing.{grants_at_once, is_done, is_done_status, is_granted}
use Rattle.blob_model.specs.Tally.{in_memory_of}
use Rattle.blob_model.specs.Transport.{Arrival, brought, byte_by_plan, byte_from, has_come, sent_byte, spans}
use Rattle.blob_model.specs.Value.{value}
use Rattle.blob_model.specs.Builds.{sent}
use Rattle.blob_model.specs.Victims.{with_length}
use Rattle.blob_model.specs.Waits.{is_shared, is_waiting}
use Rattle.blob_model.proofs.Lists.{all_numbered, all_reverse, append_second, false_true, filter_all, filter_none, for_both, for_each, found_all, not_same}
use Rattle.blob_model.proofs.builds.PieceNumbers.{all_by_number, found_append, pieces_numbered}
use Rattle.blob_model.proofs.memory.Builds.{found_more, numbered_named, pieces_more, pieces_named}
use Rattle.registry_laws.specs.Agree.{source_names, step_name}
use Rattle.store_laws.specs.BuildLaws.{Adds, AreAdded, AreListed, AreThere, IsNew, IsUnpaged}
use Rattle.store_laws.specs.Cells.{piece_in, piece_cell, item_cell, cell_at, cell_by, denoted}
use Rattle.store_laws.specs.Items.{IsInside, IsLongAs, IsPlaced, holds_piece, is_number, item_length, piece_at, piece_by, piece_of_item}
use Rattle.store_laws.specs.Outlines.{status_now}
use Rattle.store_laws.specs.PageFiles.{is_paged_in, IsSlotOf, PageFacts, PagesStand, gone, holds_paged, placed_from, sheet_of, sheets_from, whole, with_held}
use Rattle.store_laws.specs.Recipes.{EntryStands, IsStep, StandsFor, own_cells, own_step_cells, recipe_cells, step_cells}
use Rattle.store_laws.specs.Rows.{AreWritten, Coming, Row, coming_by, coming_of, gathering, gathers, is_gathered, pieces_before, row_of, settled, waiting, writing}
use Rattle.store_laws.specs.Uses.{facts_of, held_pieces, is_held, offset_in, order_of, own_pieces, page_facts_of, pageable_of}
use Rattle.store_laws.specs.Weights.{reserved_weight}
use Rattle.store_laws.proofs.Denoted.{cells-same}
use Rattle.store_laws.proofs.HeldCounts.{at_slot, slot_of}
use Rattle.store_laws.proofs.ViewHas.{append_first}
use Rattle.store_laws.proofs.Viewed.{iff_true}
use Rattle.store_laws.proofs.GrownLists.{filter-each, found_low, front_each, slot_has, slot_that, some_is, sum_each}

module _ (s : Session) (h later : History) (new : Build) (adds : Adds s h later new) where
  abbrev page : ℕ
  page = page_limit s

  abbrev old : List Build
  old = builds page h

  abbrev all : List Piece
  all = pieces page h

  -- a blob of before, by its name
  abbrev pub IsOld : Build → Type 0
  IsOld build = named build.name old ≡ true

  pub each_old : AllByRecursion IsOld old
  each_old = all_numbered (λ (build : Build). build.name) old

  pub other : (name : ℕ) → named name old ≡ true → (new.name == name) ≡ false
  other name member =
      not_same new.name name (λ e. false_true (sym adds.fresh ∙ subst (λ (n : ℕ). named n old ≡ true) (sym e) member))

  found : (name : ℕ) → named name old ≡ true → build_in (builds page later) name ≡ build_in old name
  found name member = ap (λ (list : List Build). build_in list name) adds.blobs ∙ found_more old new name member

  pub cells_found : (name : ℕ) → named name old ≡ true → cells_in (builds page later) name ≡ cells_in old name
  cells_found name member = ap (λ (o : Option Build). option_map_or (λ (build : Build). build.cells) o []) (found name member)

  pub status_same : (build : Build) → IsOld build → status_now s later build ≡ status_now s h build
  status_same build member =
      let ends = adds.endings build.name (other build.name member) in
      λ i. unwrap_or (ends i)
      (cond (is_none (ends i) && is_shared build.plan && not (adds.grants build.name i)) statuses.PendingQuota
      (cond (length (filter (λ (segment : ℕ). not (has_come (adds.segments build.name i) segment)) (range_with_len 0 (length (spans s.limits build)))) == 0)
      statuses.PendingReferencedBlobs statuses.PendingTransport))

  granted_same : (build : Build) → is_granted later build ≡ is_granted h build
  granted_same build = ap (λ (b : Bool). option_map_or grants_at_once build.plan false || b) (adds.grants build.name)

  pub waiting_same : (build : Build) → IsOld build → is_waiting later build ≡ is_waiting h build
  waiting_same build member =
      let ends = adds.endings build.name (other build.name member) in
      λ i. is_none (ends i) && is_shared build.plan && not (adds.grants build.name i)

  coming_by_same : (build : Build) (plan : Option Plan) → coming_by s later build plan ≡ coming_by s h build plan
  coming_by_same build (Some (plans.Shared n)) =
      λ i. cond (granted_same build i)
      (cond (length (filter (λ (segment : ℕ). not (has_come (adds.segments build.name i) segment)) (range_with_len 0 (length (spans s.limits build)))) == 0)
      settled (gathering (record {
        parts = own_lengths build.parts;
        segment = s.limits.segment;
        page = page_limit s;
        taken = map (λ (segment : ℕ). brought (adds.segments build.name i) segment) (range_with_len 0 (length (spans s.limits build)));
      }))) waiting
  coming_by_same build (Some (plans.File n)) =
      λ i. cond
      (length (filter (λ (segment : ℕ). not (has_come (adds.segments build.name i) segment)) (range_with_len 0 (length (spans s.limits build)))) == 0)
      settled (writing [] (map (λ (segment : ℕ). has_come (adds.segments build.name i) segment) (range_with_len 0 (length (spans s.limits build)))))
  coming_by_same build plan = refl

  coming_same : (build : Build) → IsOld build → coming_of s later build ≡ coming_of s h build
  coming_same build member =
      let ends = adds.endings build.name (other build.name member) in
      λ i. cond (is_none (ends i)) (coming_by_same build build.plan i) settled

  before_same : (list : List Build) (name : ℕ) → named name list ≡ true → pieces_before page (list ++ new ∷ []) name ≡ pieces_before page list name
  before_same [] name member = absurd (false_true member)
  before_same (build ∷ list) name member = go (build.name == name) member (before_same list name)
    where
      go : (b : Bool) → (b || named name list) ≡ true → (named name list ≡ true → pieces_before page (list ++ new ∷ []) name ≡ pieces_before page list name)
          → cond b 0 (length (spans_of page build) + pieces_before page (list ++ new ∷ []) name)
          ≡ cond b 0 (length (spans_of page build) + pieces_before page list name)
      go true is rest = refl
      go false is rest = ap (λ (n : ℕ). length (spans_of page build) + n) (rest is)

  pub row_same : (build : Build) → IsOld build → row_of s later build ≡ row_of s h build
  row_same build member =
      let first = ap (λ (list : List Build). pieces_before page list build.name) adds.blobs ∙ before_same old build.name member in
      λ i. record {
        plan = build.plan;
        weight = build.weight;
        first = first i;
        lengths = own_lengths build.parts;
        coming = coming_same build member i;
      }

  -- ---- pieces

  abbrev next : ℕ
  next = (pieces_more page 0 old new).0

  abbrev extra : List Piece
  extra = pieces_from page next (new ∷ [])

  pieces_now : pieces page later ≡ all ++ extra
  pieces_now = ap (λ (list : List Build). pieces_from page 0 list) adds.blobs ∙ (pieces_more page 0 old new).1

  piece_found : (number : ℕ) (one : Piece) → piece_in all number ≡ Some one → piece_in (pieces page later) number ≡ Some one
  piece_found number one is =
      subst (λ (list : List Piece). piece_in list number ≡ Some one) (sym pieces_now) (found_append all extra number one is)

  extra_named : AllByRecursion (λ (piece : Piece). piece.blob ≡ new.name) extra
  extra_named = all_end (numbered new.name next (spans_of page new)) (numbered_named (λ (n : ℕ). n ≡ new.name) new.name next (spans_of page new) refl)
    where
      all_end : (list : List Piece) → AllByRecursion (λ (piece : Piece). piece.blob ≡ new.name) list
          → AllByRecursion (λ (piece : Piece). piece.blob ≡ new.name) (list ++ [])
      all_end [] is = tt
      all_end (piece ∷ list) is = (is.0, all_end list is.1)

  blob_old : (number : ℕ) (one : Piece) → piece_in all number ≡ Some one → named one.blob old ≡ true
  blob_old number one is =
      found_all (λ (piece : Piece). named piece.blob old ≡ true) (λ (piece : Piece). piece.number == number) all one (pieces_named page 0 old) is

  length_same : (number : ℕ) → IsSome (piece_in all number) → length_in (pieces page later) number ≡ length_in all number
  length_same number there =
      let one = some_is (piece_in all number) there in
      ap (λ (o : Option Piece). option_map_or (λ (piece : Piece). piece.len) o 0) (piece_found number one.0 one.1 ∙ sym one.1)

  own_same : (name : ℕ) → named name old ≡ true → own_pieces page later name ≡ own_pieces page h name
  own_same name member =
      ap (λ (list : List Piece). map (λ (piece : Piece). piece.number) list)
      (
      ap (λ (list : List Piece). filter (λ (piece : Piece). piece.blob == name) list) pieces_now
      ∙ filter-append (λ (piece : Piece). piece.blob == name) all extra
      ∙ ap (λ (list : List Piece). filter (λ (piece : Piece). piece.blob == name) all ++ list)
      (filter_none (λ (piece : Piece). piece.blob == name) extra
      (for_each (λ (piece : Piece). piece.blob ≡ new.name) (λ (piece : Piece). (piece.blob == name) ≡ false) extra
      (λ piece is. ap (λ (n : ℕ). n == name) is ∙ other name member) extra_named))
      ∙ append-nil (filter (λ (piece : Piece). piece.blob == name) all)
      )

  granted_piece_same : (one : Piece) → named one.blob old ≡ true → is_granted_piece later (builds page later) one ≡ is_granted_piece h old one
  granted_piece_same one member =
      ap (λ (o : Option Build). option_map_or (is_granted later) o false) (found one.blob member) ∙ by (build_in old one.blob)
    where
      by : (o : Option Build) → option_map_or (is_granted later) o false ≡ option_map_or (is_granted h) o false
      by None = refl
      by (Some build) = granted_same build

  place_same : (one : Piece) → named one.blob old ≡ true → place page later one ≡ place page h one
  place_same one member = λ i. place_by (page_with (adds.written i) one.number) (found one.blob member i)

  byte_same : (build : Build) (index : ℕ) (plan : Option Plan) → byte_by_plan s.limits later build index plan ≡ byte_by_plan s.limits h build index plan
  byte_same build index (Some plans.Inline) = refl
  byte_same build index plan = ap (λ (came : List Arrival). byte_from came 0 (spans s.limits build) index) (adds.segments build.name)

  value_same : (name index : ℕ) → named name old ≡ true → value s later (sent name index) ≡ value s h (sent name index)
  value_same name index member =
      ap (λ (o : Option Build). option_and_then (λ (build : Build). sent_byte s.limits later build index) o) (found name member) ∙ by (build_in old name)
    where
      by : (o : Option Build) → option_and_then (λ (build : Build). sent_byte s.limits later build index) o
          ≡ option_and_then (λ (build : Build). sent_byte s.limits h build index) o
      by None = refl
      by (Some build) = byte_same build index build.plan

  bytes_same : (one : Piece) → named one.blob old ≡ true → piece_bytes s later one ≡ piece_bytes s h one
  bytes_same one member = λ i. filter_map (λ (index : ℕ). value_same one.blob index member i) (range_with_len one.from one.len)

  -- what is said of the piece of a number that there was
  moved : (P Q : Piece → Type 0) (number : ℕ) → ((one : Piece) → named one.blob old ≡ true → P one → Q one) → IsSomeAnd (piece_in all number) P
      → IsSomeAnd (piece_in (pieces page later) number) Q
  moved P Q number step is = by (piece_in all number) refl is
    where
      by : (o : Option Piece) → piece_in all number ≡ o → IsSomeAnd o P → IsSomeAnd (piece_in (pieces page later) number) Q
      by None at is = absurd is
      by (Some one) at is = subst (λ (o : Option Piece). IsSomeAnd o Q) (sym (piece_found number one at)) (step one (blob_old number one at) is)

  module _ (listed : AreListed page h) where
    offset_same : (number : ℕ) → offset_in (pieces page later) (page_with (pages later) number) number ≡ offset_in all (page_with (pages h) number) number
    offset_same number =
        ap (λ (list : List Page). offset_in (pieces page later) (page_with list number) number) adds.written
        ∙ by (page_with (pages h) number) refl
      where
        by : (o : Option Page) → page_with (pages h) number ≡ o → offset_in (pieces page later) o number ≡ offset_in all o number
        by None at = refl
        by (Some file) at =
            let there = found_all (λ (each : Page). AreThere all each.pieces) (λ (each : Page). list_any (λ (n : ℕ). n == number) each.pieces)
            (reverse (pages h)) file (all_reverse (λ (each : Page). AreThere all each.pieces) (pages h) listed.in_pages) at in
            sum_each (length_in (pieces page later)) (length_in all) (take_while (λ (n : ℕ). not (n == number)) file.pieces)
            (front_each (λ (n : ℕ). length_in (pieces page later) n ≡ length_in all n) (prefix_len (λ (n : ℕ). not (n == number)) file.pieces) file.pieces
            (for_each (λ (n : ℕ). IsSome (piece_in all n)) (λ (n : ℕ). length_in (pieces page later) n ≡ length_in all n) file.pieces
            (λ n is. length_same n is) there))

    placed_still : (item : Item) → IsPlaced all (facts_of s h) item → IsPlaced (pieces page later) (facts_of s later) item
    placed_still (Memory piece bytes) is =
        moved
        (λ one. ((facts_of s h).granted one ≡ true) × ((facts_of s h).place one ≡ in_memory) × (bytes ≡ (facts_of s h).bytes one) × (length bytes ≡ one.len))
        (λ one. ((facts_of s later).granted one ≡ true) × ((facts_of s later).place one ≡ in_memory) × (bytes ≡ (facts_of s later).bytes one)
        × (length bytes ≡ one.len))
        piece.0
        (λ one member is. (granted_piece_same one member ∙ is.0, place_same one member ∙ is.1, is.2 ∙ sym (bytes_same one member), is.3)) is
    placed_still (Paged piece file off len) is =
        moved
        (λ one. ((facts_of s h).granted one ≡ true) × ((facts_of s h).place one ≡ in_page file.0) × (off ≡ (facts_of s h).offset one) × (len ≡ one.len))
        (λ one. ((facts_of s later).granted one ≡ true) × ((facts_of s later).place one ≡ in_page file.0) × (off ≡ (facts_of s later).offset one)
        × (len ≡ one.len))
        piece.0
        (λ one member is. (granted_piece_same one member ∙ is.0, place_same one member ∙ is.1, is.2 ∙ sym (offset_same one.number), is.3)) is
    placed_still (Reserved piece len) is =
        moved (λ one. ((facts_of s h).granted one ≡ true) × ((facts_of s h).place one ≡ reserved) × (len ≡ one.len))
        (λ one. ((facts_of s later).granted one ≡ true) × ((facts_of s later).place one ≡ reserved) × (len ≡ one.len)) piece.0
        (λ one member is. (granted_piece_same one member ∙ is.0, place_same one member ∙ is.1, is.2)) is
    placed_still (File name stamp off len) is = is
    placed_still (Range slot off len) is = is

  -- ---- items

  module _ (listed : AreListed page h) (shares now : List (Option Share)) (items : (slot : ℕ) → IfSome (item_at shares slot) (IsPlaced all (facts_of s h)))
      (come : AreAdded (pieces page later) (facts_of s later) (length all) shares now) where
    still_held : (slot : ℕ) (item : Item) → item_at shares slot ≡ Some item → item_at now slot ≡ Some item
    still_held slot item at = subst (λ (o : Option Item). IfSome o (λ (each : Item). item_at now slot ≡ Some each)) at (come.kept slot)

    pub placed_now : (slot : ℕ) → IfSome (item_at now slot) (IsPlaced (pieces page later) (facts_of s later))
    placed_now slot = by (item_at shares slot) refl
      where
        new_placed : (o : Option Item) → IfSome o (IsNew (pieces page later) (facts_of s later) (length all))
            → IfSome o (IsPlaced (pieces page later) (facts_of s later))
        new_placed None is = tt
        new_placed (Some item) is = is.placed

        by : (o : Option Item) → item_at shares slot ≡ o → IfSome (item_at now slot) (IsPlaced (pieces page later) (facts_of s later))
        by None at = new_placed (item_at now slot) (come.added slot at)
        by (Some item) at =
            subst (λ (o : Option Item). IfSome o (IsPlaced (pieces page later) (facts_of s later))) (sym (still_held slot item at))
            (placed_still listed item (subst (λ (o : Option Item). IfSome o (IsPlaced all (facts_of s h))) at (items slot)))

    -- a slot with a piece
    piece_still : (slot number : ℕ) → piece_at shares slot ≡ Some number → piece_at now slot ≡ Some number
    piece_still slot number is = by (item_at shares slot) refl is
      where
        by : (o : Option Item) → item_at shares slot ≡ o → piece_by o ≡ Some number → piece_at now slot ≡ Some number
        by None at is = absurd (cc is)
        by (Some item) at is = ap piece_by (still_held slot item at) ∙ is

    -- an item of a piece that there was isn't new
    piece_before : (slot number : ℕ) → IsSome (piece_in all number) → piece_at now slot ≡ Some number → piece_at shares slot ≡ Some number
    piece_before slot number there is = by (item_at shares slot) refl
      where
        low : number < length all
        low = let one = some_is (piece_in all number) there in omega (arith, found_low 0 number all one.0 (pieces_numbered page 0 old) one.1)

        never : (o : Option Item) → piece_by o ≡ Some number → IfSome o (IsNew (pieces page later) (facts_of s later) (length all)) → ⊥
        never None is new = cc is
        never (Some item) is new =
            let late : length all ≤ number = subst (λ (o : Option ℕ). IfSome o (λ (n : ℕ). length all ≤ n)) is new.later in omega (arith, low, late)

        by : (o : Option Item) → item_at shares slot ≡ o → piece_by o ≡ Some number
        by None at = absurd (never (item_at now slot) is (come.added slot at))
        by (Some item) at = sym (ap piece_by (still_held slot item at)) ∙ is

    holds_same : (number : ℕ) → IsSome (piece_in all number) → holds_piece now number ≡ holds_piece shares number
    holds_same number there =
        iff_true (holds_piece now number) (holds_piece shares number)
        (λ is. let slot = slot_of number now is in at_number number slot.0 shares (piece_before slot.0 number there slot.1))
        (λ is. let slot = slot_of number shares is in at_number number slot.0 now (piece_still slot.0 number slot.1))
      where
        at_number : (number slot : ℕ) (list : List (Option Share)) → piece_at list slot ≡ Some number → holds_piece list number ≡ true
        at_number number slot list is = at_slot number slot list (ap (is_number number) is ∙ eq-eqb number number refl)

    slot_known : (slot number : ℕ) → piece_at shares slot ≡ Some number → IsSome (piece_in all number)
    slot_known slot number is = by (item_at shares slot) refl is (items slot)
      where
        found_some : (o : Option Piece) (P : Piece → Type 0) → IsSomeAnd o P → IsSome o
        found_some None P is = absurd is
        found_some (Some one) P is = refl

        of_item : (item : Item) → piece_of_item item ≡ Some number → IsPlaced all (facts_of s h) item → IsSome (piece_in all number)
        of_item (Memory piece bytes) e is = subst (λ (n : ℕ). IsSome (piece_in all n)) (cc e) (found_some (piece_in all piece.0) _ is)
        of_item (Paged piece file off len) e is = subst (λ (n : ℕ). IsSome (piece_in all n)) (cc e) (found_some (piece_in all piece.0) _ is)
        of_item (Reserved piece len) e is = subst (λ (n : ℕ). IsSome (piece_in all n)) (cc e) (found_some (piece_in all piece.0) _ is)
        of_item (File name stamp off len) e is = absurd (cc e)
        of_item (Range handle off len) e is = absurd (cc e)

        by : (o : Option Item) → item_at shares slot ≡ o → piece_by o ≡ Some number → IfSome o (IsPlaced all (facts_of s h)) → IsSome (piece_in all number)
        by None at is placed = absurd (cc is)
        by (Some item) at is placed = of_item item is placed

    -- ---- views and steps

    inside_still : (view : View) → IsInside all shares view → IsInside (pieces page later) now view
    inside_still view is = by (item_at shares view.slot) refl is
      where
        long_still : (item : Item) (o : Option ℕ) → IsLongAs all item o → IsLongAs (pieces page later) item o
        long_still item None long = tt
        long_still item (Some number) long =
            moved (λ (one : Piece). item_length item ≡ one.len) (λ (one : Piece). item_length item ≡ one.len) number (λ one member e. e) long

        by : (o : Option Item) → item_at shares view.slot ≡ o
            → IsSomeAnd o (λ (item : Item). (view.off + view.len ≤ item_length item) × IsLongAs all item (piece_of_item item))
            → IsInside (pieces page later) now view
        by None at is = absurd is
        by (Some item) at is =
            subst (λ (o : Option Item). IsSomeAnd o (λ (each : Item). (view.off + view.len ≤ item_length each) × IsLongAs (pieces page later) each
            (piece_of_item each)))
            (sym (still_held view.slot item at)) (is.0, long_still item (piece_of_item item) is.1)

    cell_still : (view : View) → IsInside all shares view → (place : ℕ) → cell_at (pieces page later) now (view.slot, place)
        ≡ cell_at all shares (view.slot, place)
    cell_still view is place = by (item_at shares view.slot) refl is
      where
        of_piece : (number : ℕ) (size : ℕ) → IsSomeAnd (piece_in all number) (λ (one : Piece). size ≡ one.len)
            → piece_cell (piece_in (pieces page later) number) place ≡ piece_cell (piece_in all number) place
        of_piece number size long = go (piece_in all number) refl long
          where
            go : (o : Option Piece) → piece_in all number ≡ o → IsSomeAnd o (λ (one : Piece). size ≡ one.len)
                → piece_cell (piece_in (pieces page later) number) place ≡ piece_cell o place
            go None at long = absurd long
            go (Some one) at long = ap (λ (o : Option Piece). piece_cell o place) (piece_found number one at)

        of_item : (item : Item) → IsLongAs all item (piece_of_item item) → item_cell (pieces page later) item place ≡ item_cell all item place
        of_item (Memory piece bytes) long = of_piece piece.0 (length bytes) long
        of_item (Paged piece file off len) long = of_piece piece.0 len long
        of_item (Reserved piece len) long = of_piece piece.0 len long
        of_item (File name stamp off len) long = refl
        of_item (Range handle off len) long = refl

        by : (o : Option Item) → item_at shares view.slot ≡ o
            → IsSomeAnd o (λ (item : Item). (view.off + view.len ≤ item_length item) × IsLongAs all item (piece_of_item item))
            → cell_by (pieces page later) (item_at now view.slot) place ≡ cell_by all o place
        by None at is = absurd is
        by (Some item) at is =
            ap (λ (o : Option Item). cell_by (pieces page later) o place) (still_held view.slot item at) ∙ of_item item is.1

    denoted_still : (views : List View) → AllByRecursion (IsInside all shares) views → denoted (pieces page later) now views ≡ denoted all shares views
    denoted_still views is =
        cells-same (cell_at (pieces page later) now) (cell_at all shares) views
        (for_each (IsInside all shares)
        (λ (view : View). (place : ℕ) → cell_at (pieces page later) now (view.slot, place) ≡ cell_at all shares (view.slot, place)) views cell_still is)

    own_cells_still : (number len : ℕ) → IsSomeAnd (piece_in all number) (λ (one : Piece). len ≡ one.len)
        → own_cells (pieces page later) number len ≡ own_cells all number len
    own_cells_still number len is = go (piece_in all number) refl is
      where
        go : (o : Option Piece) → piece_in all number ≡ o → IsSomeAnd o (λ (one : Piece). len ≡ one.len)
            → own_cells (pieces page later) number len ≡ map (piece_cell o) (range_with_len 0 len)
        go None at is = absurd is
        go (Some one) at is = ap (λ (o : Option Piece). map (piece_cell o) (range_with_len 0 len)) (piece_found number one at)

    step_still : (step : Step) → IsStep all shares step → IsStep (pieces page later) now step
    step_still (Own piece len) is = (is.0, moved (λ (one : Piece). len ≡ one.len) (λ (one : Piece). len ≡ one.len) piece.0 (λ one member e. e) is.1)
    step_still (Fixed view) is = (inside_still view is.0, none_now (item_at shares view.slot) refl is.0 is.1)
      where
        none_now : (o : Option Item) → item_at shares view.slot ≡ o
            → IsSomeAnd o (λ (item : Item). (view.off + view.len ≤ item_length item) × IsLongAs all item (piece_of_item item)) → piece_by o ≡ None
            → piece_at now view.slot ≡ None
        none_now None at is none = absurd is
        none_now (Some item) at is none = ap piece_by (still_held view.slot item at) ∙ none
    step_still (Source name off len) is = tt

    step_cells_still : (step : Step) → IsStep all shares step → AllByRecursion (λ (name : ℕ). named name old ≡ true) (step_name step)
        → step_cells (builds page later) (pieces page later) now step ≡ step_cells old all shares step
    step_cells_still (Own piece len) is sources = own_cells_still piece.0 len is.1
    step_cells_still (Fixed view) is sources = denoted_still (view ∷ []) (is.0, tt)
    step_cells_still (Source name off len) is sources = ap (λ (cells : List Cell). take len (drop off cells)) (cells_found name sources.0)

    recipe_still : (recipe : List Step) → AllByRecursion (IsStep all shares) recipe → AllByRecursion (λ (name : ℕ). named name old ≡ true) (source_names recipe)
        → recipe_cells (builds page later) (pieces page later) now recipe ≡ recipe_cells old all shares recipe
    recipe_still [] is sources = refl
    recipe_still (step ∷ recipe) is sources =
        λ i. step_cells_still step is.0 (append_first (λ (name : ℕ). named name old ≡ true) (step_name step) (source_names recipe) sources) i
        ++ recipe_still recipe is.1 (append_second (λ (name : ℕ). named name old ≡ true) (step_name step) (source_names recipe) sources) i

    own_steps_still : (recipe : List Step) → AllByRecursion (IsStep all shares) recipe
        → flat_map (own_step_cells (pieces page later)) recipe ≡ flat_map (own_step_cells all) recipe
    own_steps_still [] is = refl
    own_steps_still (Own piece len ∷ recipe) is = λ i. own_cells_still piece.0 len is.0.1 i ++ own_steps_still recipe is.1 i
    own_steps_still (Fixed view ∷ recipe) is = own_steps_still recipe is.1
    own_steps_still (Source name off len ∷ recipe) is = own_steps_still recipe is.1

    -- the sources of an unfinished entry are blobs of before
    abbrev SourcesOld : Entry → Type 0
    SourcesOld entry = is_pending entry.status ≡ true → AllByRecursion (λ (name : ℕ). named name old ≡ true) (source_names entry.recipe)

    stands_still : (cells : List Cell) (status : Status) (entry : Entry) → AllByRecursion (IsStep all shares) entry.recipe
        → AllByRecursion (IsInside all shares) (held_views entry)
        → (is_pending status ≡ true → AllByRecursion (λ (name : ℕ). named name old ≡ true) (source_names entry.recipe))
        → StandsFor old all shares cells status entry → StandsFor (builds page later) (pieces page later) now cells status entry
    stands_still cells statuses.Done entry steps inside sources is = (
      denoted_still entry.views (append_second (IsInside all shares) (fixed_views entry.recipe ++ own_views entry.own) entry.views inside) ∙ is.0,
      is.1,
      is.2,
    )
    stands_still cells statuses.PendingQuota entry steps inside sources is = (recipe_still entry.recipe steps (sources refl) ∙ is.0, is.1, is.2)
    stands_still cells statuses.PendingTransport entry steps inside sources is = (recipe_still entry.recipe steps (sources refl) ∙ is.0, is.1, is.2)
    stands_still cells statuses.PendingReferencedBlobs entry steps inside sources is =
        let own = append_second (IsInside all shares) (fixed_views entry.recipe) (own_views entry.own)
        (append_first (IsInside all shares) (fixed_views entry.recipe ++ own_views entry.own) entry.views inside) in
        (recipe_still entry.recipe steps (sources refl) ∙ is.0, is.1, denoted_still (own_views entry.own) own ∙ is.2 ∙ sym (own_steps_still entry.recipe steps))
    stands_still cells statuses.Dereferenced entry steps inside sources is = is
    stands_still cells status entry steps inside sources is = tt

    pub entry_still : (build : Build) (held : Option Entry) → IsOld build × IfSome held SourcesOld → EntryStands old all shares (own_pieces page h) build held
        → EntryStands (builds page later) (pieces page later) now (own_pieces page later) build held
    entry_still build None ready is = tt
    entry_still build (Some entry) ready is = record {
      stands = stands_still build.cells entry.status entry is.steps is.inside ready.1 is.stands;
      steps = for_each (IsStep all shares) (IsStep (pieces page later) now) entry.recipe step_still is.steps;
      inside = for_each (IsInside all shares) (IsInside (pieces page later) now) (held_views entry) inside_still is.inside;
      owned = λ pending. is.owned pending ∙ sym (own_same build.name ready.0);
      sources = is.sources;
    }

    -- ---- rows

    slots_still : (slots numbers : List ℕ) → map (piece_at shares) slots ≡ map (λ (number : ℕ). Some number) numbers
        → map (piece_at now) slots ≡ map (λ (number : ℕ). Some number) numbers
    slots_still [] [] is = refl
    slots_still [] (number ∷ numbers) is = absurd (cc is)
    slots_still (slot ∷ slots) [] is = absurd (cc is)
    slots_still (slot ∷ slots) (number ∷ numbers) is =
        let first : piece_at shares slot ≡ Some number = cc is in
        let rest : map (piece_at shares) slots ≡ map (λ (n : ℕ). Some n) numbers = cc is in
        λ i. piece_still slot number first i ∷ slots_still slots numbers rest i

    pub written_still : (build : Build) (row : Row) → IsOld build → AreWritten shares (own_pieces page h build.name) row.coming
        → AreWritten now (own_pieces page later build.name) row.coming
    written_still build row member is = by row.coming is
      where
        by : (coming : Coming) → AreWritten shares (own_pieces page h build.name) coming → AreWritten now (own_pieces page later build.name) coming
        by settled is = tt
        by waiting is = tt
        by (gathering segments) is = tt
        by (writing slots came) is =
            slots_still slots (own_pieces page h build.name) is ∙ ap (λ (list : List ℕ). map (λ (n : ℕ). Some n) list) (sym (own_same build.name member))

    -- ---- page files and the job in flight

    -- whether a page file has the item of a piece
    paged_same : (file number : ℕ) → holds_paged now file number ≡ holds_paged shares file number
    paged_same file number =
        iff_true (holds_paged now file number) (holds_paged shares file number)
        (λ is. let at = slot_that (is_paged_in file number) now is in slot_has (is_paged_in file number) shares at.0 at.1 (before at.0 at.1 at.2 at.3) at.3)
        (λ is. let at = slot_that (is_paged_in file number) shares is in slot_has (is_paged_in file number) now at.0 at.1 (still_held at.0 at.1 at.2) at.3)
      where
        never : (item : Item) → is_paged_in file number item ≡ true → IsUnpaged item → ⊥
        never (Memory piece bytes) is un = false_true is
        never (Paged piece one off len) is un = un
        never (Reserved piece len) is un = false_true is
        never (File name stamp off len) is un = false_true is
        never (Range slot off len) is un = false_true is

        before : (slot : ℕ) (item : Item) → item_at now slot ≡ Some item → is_paged_in file number item ≡ true → item_at shares slot ≡ Some item
        before slot item at is = by (item_at shares slot) refl
          where
            by : (o : Option Item) → item_at shares slot ≡ o → o ≡ Some item
            by None none =
                let new = subst (λ (o : Option Item). IfSome o (IsNew (pieces page later) (facts_of s later) (length all))) at (come.added slot none) in
                absurd (never item is new.unpaged)
            by (Some one) held = sym (still_held slot one held) ∙ at

    placed_from_same : (is_held' is_held : ℕ → Bool) → ((number : ℕ) → is_held' number ≡ is_held number) → (off : ℕ) (list : List ℕ) → AreThere all list
        → placed_from (pieces page later) is_held' off list ≡ placed_from all is_held off list
    placed_from_same is_held' is_held same off [] there = refl
    placed_from_same is_held' is_held same off (number ∷ list) there =
        let long = length_same number there.0 in
        let rest : placed_from (pieces page later) is_held' (off + length_in (pieces page later) number) list
        ≡ placed_from all is_held (off + length_in all number) list =
        ap (λ (n : ℕ). placed_from (pieces page later) is_held' (off + n) list) long
        ∙ placed_from_same is_held' is_held same (off + length_in all number) list there.1 in
        λ i. cond (same number i) ((number, off, long i) ∷ rest i) (rest i)

    sizes_same : (list : List ℕ) → AreThere all list → sum_by (length_in (pieces page later)) list ≡ sum_by (length_in all) list
    sizes_same list there =
        sum_each (length_in (pieces page later)) (length_in all) list
        (for_each (λ (n : ℕ). IsSome (piece_in all n)) (λ (n : ℕ). length_in (pieces page later) n ≡ length_in all n) list (λ n is. length_same n is) there)

    sheet_same : (removed : List ℕ) (number : ℕ) (write : Option (List ℕ)) → IfSome write (AreThere all)
        → sheet_of (pieces page later) (holds_paged now) removed number write ≡ sheet_of all (holds_paged shares) removed number write
    sheet_same removed number None there = refl
    sheet_same removed number (Some list) there =
        λ i. cond (list_any (λ (each : ℕ). each == number) removed) gone
        (whole (sizes_same list there i) (placed_from_same (holds_paged now number) (holds_paged shares number) (paged_same number) 0 list there i))

    sheets_same : (removed : List ℕ) (number : ℕ) (list : List (Option (List ℕ)))
        → AllByRecursion (λ (write : Option (List ℕ)). IfSome write (AreThere all)) list
        → sheets_from (pieces page later) (holds_paged now) removed number list ≡ sheets_from all (holds_paged shares) removed number list
    sheets_same removed number [] there = refl
    sheets_same removed number (write ∷ list) there =
        λ i. sheet_same removed number write there.0 i ∷ sheets_same removed (number + 1) list there.1 i

    slot_still : (held : Held) → IsSlotOf shares held → IsSlotOf now held
    slot_still held is = piece_still held.slot held.piece.0 is

    with_held_same : (o : Option Job) → IfSome o (λ (job : Job). AreThere all job.pieces)
        → option_map (with_held (holds_piece now)) o ≡ option_map (with_held (holds_piece shares)) o
    with_held_same None there = refl
    with_held_same (Some job) there =
        ap {B = Option Job} (λ (list : List ℕ). Some (record job { pieces = list }))
        (filter-each (holds_piece now) (holds_piece shares) job.pieces
        (for_each (λ (n : ℕ). IsSome (piece_in all n)) (λ (n : ℕ). holds_piece now n ≡ holds_piece shares n) job.pieces (λ n is. holds_same n is) there))

    pub pages_still : (limit : ℕ) (files : Files) → PagesStand all (page_facts_of h) limit shares files
        → PagesStand (pieces page later) (page_facts_of h) limit now (record files { reserved = weights reserved_weight now })
    pages_still limit files is = record {
      same_limit = is.same_limit;
      sheets = is.sheets ∙ sym (sheets_same (page_facts_of h).asked 0 (page_facts_of h).written listed.in_writes);
      slots = for_each (λ (file : FilePage). AllByRecursion (IsSlotOf shares) (held_in file))
          (λ (file : FilePage). AllByRecursion (IsSlotOf now) (held_in file))
          files.pages (λ file are. for_each (IsSlotOf shares) (IsSlotOf now) (held_in file) slot_still are) is.slots;
      reserved = refl;
      job = is.job ∙ sym (with_held_same (in_flight h) listed.in_job);
      job_slots = for_each (IsSlotOf shares) (IsSlotOf now) (left_of files.job) slot_still is.job_slots;
      job_lengths = for_both (IsSlotOf shares) (λ (held : Held). held.len ≡ length_in all held.piece.0)
          (λ (held : Held). held.len ≡ length_in (pieces page later) held.piece.0) (left_of files.job)
          (λ held at long. long ∙ sym (length_same held.piece.0 (slot_known held.slot held.piece.0 at))) is.job_slots is.job_lengths;
      same_jobs = is.same_jobs;
      same_paging = is.same_paging;
    }

    -- ---- the order of use

    module _ (rows : List (Option Row)) (row : Row) (same : length rows ≡ length old) where
      gathered_same : (list : List Build) (held : List (Option Row)) (name : ℕ) → length held ≡ length list → named name list ≡ true
          → is_gathered (list ++ new ∷ []) (held ++ Some row ∷ []) name ≡ is_gathered list held name
      gathered_same [] held name long member = absurd (false_true member)
      gathered_same (build ∷ list) [] name long member = absurd (omega (arith, long))
      gathered_same (build ∷ list) (one ∷ held) name long member = go (build.name == name) member (gathered_same list held name (omega (arith, long)))
        where
          first : Bool
          first = option_map_or (λ (each : Row). gathers each.coming) one false

          go : (b : Bool) → (b || named name list) ≡ true
              → (named name list ≡ true → is_gathered (list ++ new ∷ []) (held ++ Some row ∷ []) name ≡ is_gathered list held name)
              → cond b first (is_gathered (list ++ new ∷ []) (held ++ Some row ∷ []) name) ≡ cond b first (is_gathered list held name)
          go true is rest = refl
          go false is rest = rest is

      held_same : (piece : Piece) → named piece.blob old ≡ true → IsSome (piece_in all piece.number)
          → is_held (builds page later) now (rows ++ Some row ∷ []) piece ≡ is_held old shares rows piece
      held_same piece member there =
          let gathered_now = ap (λ (list : List Build). is_gathered list (rows ++ Some row ∷ []) piece.blob) adds.blobs
          ∙ gathered_same old rows piece.blob same member in
          λ i. holds_same piece.number there i || gathered_now i

      in_job_same : (number : ℕ) → is_in_job later number ≡ is_in_job h number
      in_job_same number =
          ap (λ (facts : PageFacts). option_map_or (λ (job : Job). list_any (λ (each : ℕ). each == number) job.pieces) facts.flying false) adds.facts

      done_same : (name : ℕ) → named name old ≡ true → is_done later name ≡ is_done h name
      done_same name member = ap (λ (o : Option Status). option_map_or is_done_status o false) (adds.endings name (other name member))

      -- what can be paged of a list of pieces
      abbrev kept_of : History → List Build → (Piece → Bool) → List Piece → List Piece
      kept_of g list holds pieces_in =
          filter (λ (piece : Piece). is_done g piece.blob && not (is_in_job g piece.number)) (in_memory_of g list (filter holds pieces_in))

      kept_append : (g : History) (list : List Build) (holds : Piece → Bool) (xs ys : List Piece)
          → kept_of g list holds (xs ++ ys) ≡ kept_of g list holds xs ++ kept_of g list holds ys
      kept_append g list holds xs ys =
          ap (λ (zs : List Piece). filter (λ (piece : Piece). is_done g piece.blob && not (is_in_job g piece.number)) (in_memory_of g list zs))
          (filter-append holds xs ys)
          ∙ ap (λ (zs : List Piece). filter (λ (piece : Piece). is_done g piece.blob && not (is_in_job g piece.number)) zs)
          (filter-append (λ (piece : Piece). is_memory (place_in g list piece)) (filter holds xs) (filter holds ys))
          ∙ filter-append (λ (piece : Piece). is_done g piece.blob && not (is_in_job g piece.number)) (in_memory_of g list (filter holds xs))
          (in_memory_of g list (filter holds ys))

      -- nothing of the new blob is
      none_new : (list : List Piece) → AllByRecursion (λ (piece : Piece). piece.blob ≡ new.name) list
          → filter (λ (piece : Piece). is_done later piece.blob && not (is_in_job later piece.number)) list ≡ []
      none_new list are =
          filter_none (λ (piece : Piece). is_done later piece.blob && not (is_in_job later piece.number)) list
          (for_each (λ (piece : Piece). piece.blob ≡ new.name) (λ (piece : Piece). (is_done later piece.blob && not (is_in_job later piece.number)) ≡ false)
          list
          (λ piece is. ap (λ (b : Bool). b && not (is_in_job later piece.number)) (ap (λ (n : ℕ). is_done later n) is ∙ adds.undone)) are)

      old_there : AllByRecursion (λ (piece : Piece). (named piece.blob old ≡ true) × IsSome (piece_in all piece.number)) all
      old_there =
          for_both (λ (piece : Piece). named piece.blob old ≡ true) (λ (piece : Piece). piece_in all piece.number ≡ Some piece)
          (λ (piece : Piece). (named piece.blob old ≡ true) × IsSome (piece_in all piece.number)) all
          (λ piece member at. (member, ap is_some at)) (pieces_named page 0 old) (all_by_number 0 all (pieces_numbered page 0 old))

      kept_same : (list : List Piece) → AllByRecursion (λ (piece : Piece). (named piece.blob old ≡ true) × IsSome (piece_in all piece.number)) list
          → kept_of later (builds page later) (is_held (builds page later) now (rows ++ Some row ∷ [])) list ≡ kept_of h old (is_held old shares rows) list
      kept_same list are =
          let holds' : Piece → Bool = is_held (builds page later) now (rows ++ Some row ∷ []) in
          let holds : Piece → Bool = is_held old shares rows in
          ap (λ (xs : List Piece). filter (λ (piece : Piece). is_done later piece.blob && not (is_in_job later piece.number))
          (in_memory_of later (builds page later) xs))
          (filter-each holds' holds list
          (for_each (λ (piece : Piece). (named piece.blob old ≡ true) × IsSome (piece_in all piece.number)) (λ (piece : Piece). holds' piece ≡ holds piece) list
          (λ piece is. held_same piece is.0 is.1) are))
          ∙ ap (λ (xs : List Piece). filter (λ (piece : Piece). is_done later piece.blob && not (is_in_job later piece.number)) xs)
          (filter-each (λ (piece : Piece). is_memory (place_in later (builds page later) piece)) (λ (piece : Piece). is_memory (place_in h old piece))
          (filter holds list)
          (filter_all (λ (piece : Piece). is_memory (place_in later (builds page later) piece) ≡ is_memory (place_in h old piece)) holds list
          (for_each (λ (piece : Piece). (named piece.blob old ≡ true) × IsSome (piece_in all piece.number))
          (λ (piece : Piece). is_memory (place_in later (builds page later) piece) ≡ is_memory (place_in h old piece)) list
          (λ piece is. ap is_memory (place_same piece is.0)) are)))
          ∙ filter-each (λ (piece : Piece). is_done later piece.blob && not (is_in_job later piece.number))
          (λ (piece : Piece). is_done h piece.blob && not (is_in_job h piece.number)) (in_memory_of h old (filter holds list))
          (filter_all (λ (piece : Piece). (is_done later piece.blob && not (is_in_job later piece.number))
          ≡ (is_done h piece.blob && not (is_in_job h piece.number)))
          (λ (piece : Piece). is_memory (place_in h old piece)) (filter holds list)
          (filter_all (λ (piece : Piece). (is_done later piece.blob && not (is_in_job later piece.number))
          ≡ (is_done h piece.blob && not (is_in_job h piece.number))) holds list
          (for_each (λ (piece : Piece). (named piece.blob old ≡ true) × IsSome (piece_in all piece.number))
          (λ (piece : Piece). (is_done later piece.blob && not (is_in_job later piece.number)) ≡ (is_done h piece.blob && not (is_in_job h piece.number))) list
          (λ piece is. λ i. done_same piece.blob is.0 i && not (in_job_same piece.number i)) are)))

      pageable_same : pageable_of page later (held_pieces page later now (rows ++ Some row ∷ [])) ≡ pageable_of page h (held_pieces page h shares rows)
      pageable_same =
          let holds' : Piece → Bool = is_held (builds page later) now (rows ++ Some row ∷ []) in
          ap (λ (xs : List Piece). kept_of later (builds page later) holds' xs) pieces_now
          ∙ kept_append later (builds page later) holds' all extra
          ∙ (λ i. kept_same all old_there i
          ++ none_new (in_memory_of later (builds page later) (filter holds' extra))
          (filter_all (λ (piece : Piece). piece.blob ≡ new.name) (λ (piece : Piece). is_memory (place_in later (builds page later) piece)) (filter holds' extra)
          (filter_all (λ (piece : Piece). piece.blob ≡ new.name) holds' extra extra_named)) i)
          ∙ append-nil (kept_of h old (is_held old shares rows) all)

      pub order_same : order_of s later now (rows ++ Some row ∷ []) ≡ order_of s h shares rows
      order_same = λ i. filter_map (with_length (pageable_same i)) (adds.uses i)
