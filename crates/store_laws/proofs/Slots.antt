-- The data handles that items hold are those reached.
use Rattle.std.proofs.Common.{◌≡◌, ℕ, zero, suc, ◌+◌, ◌==◌, ◌<◌, ◌≤◌, ◌⊎◌, Bool, true, false, ◌&&◌, ◌||◌, not, List}
use Rattle.std.proofs.Common.{[], ◌∷◌, ◌++◌, map, refl, ap, sym, ◌∙◌, arith, Option, Some, None, inl, inr, ⊎_elim, cond}
use Rattle.std.specs.Prelude.{count_by, filter, flat_map, IfSome, IsSomeAnd}
use Rattle.std.specs.Option.{option_map, option_map_or}
use Rattle.std.specs.List.{AllByRecursion, list_any, range_with_len}
use Rattle.std.proofs.lemmas.Bool.{eqb-true}
use Rattle.std.proofs.lemmas.List.{map-append}
use Rattle.std.proofs.lemmas.List.Folds.{list_any-append}
use Rattle.blob_words.specs.declared.status.Status.{Status}
use Rattle.blob_words.specs.declared.status.Status.TheVariants as statuses
use Rattle.item_shares.specs.declared.item.Item.{Item}
use Rattle.item_shares.specs.declared.item.Item.TheVariants.{Memory, Paged, Reserved, File, Range}
use Rattle.item_shares.specs.declared.shares.Share.{Share}
use Rattle.item_shares.specs.Shares.{item_at, share_at}
use Rattle.blob_items.specs.declared.view.View.{View}
use Rattle.blob_items.specs.Cells.{cells, view_cells}
use Rattle.blob_entries.specs.Book.{Book}
use Rattle.blob_entries.specs.declared.entry.Entry.{Entry}
use Rattle.blob_entries.specs.Counts.{count_at, views_on}
use Rattle.blob_entries.specs.Holdings.{fixed_views, held_views, own_views}
use Rattle.blob_entries.specs.Statuses.{is_broken}
use Rattle.blob_entries.specs.declared.step.Step.{Step}
use Rattle.blob_entries.specs.declared.step.Step.TheVariants.{Own, Fixed, Source}
use Rattle.blob_model.specs.Session.{Session, page_limit}
use Rattle.blob_model.specs.History.{History}
use Rattle.blob_model.specs.Builds.{Build, Cell, builds, filed, lent}
use Rattle.blob_model.specs.Live.{live}
use Rattle.blob_model.specs.Pieces.{Piece, pieces}
use Rattle.blob_model.specs.Reached.{is_of_slot, is_slot_reached, live_cells}
use Rattle.blob_model.specs.Standing.{is_broken as is_broken_now}
use Rattle.blob_model.proofs.Lists.{append_second, false_true, for_each, or_cases, or_first, or_second}
use Rattle.blob_model.proofs.memory.Shrinking.{some_twice}
use Rattle.page_files.specs.Files.{Files}
use Rattle.quota_queue.specs.Queue.{Queue}
use Rattle.store_laws.specs.Cells.{cell_at, denoted, item_cell, piece_cell, piece_in}
use Rattle.store_laws.specs.Having.{has_by, has_slot, is_range_at, is_range_step, reaches}
use Rattle.store_laws.specs.Items.{IsInside, IsLongAs, holds_slot, is_range_of, item_length, piece_at, piece_by, piece_of_item}
use Rattle.store_laws.specs.ReachLaws.{IsAtRest, IsCounted}
use Rattle.store_laws.specs.Recipes.{EntryStands, IsEntryFor, RowsBeside, StandsFor, own_step_cells}
use Rattle.store_laws.specs.Rows.{AreWritten, Coming, Row, coming_slots, gathering, pinned, settled, waiting, writing}
use Rattle.store_laws.specs.Stands.{AreExact, ContentsStand}
use Rattle.store_laws.specs.Uses.{own_pieces}
use Rattle.store_laws.proofs.Closing.{IsResting, any_each, closed, live_pairs, map_firsts, pair_views, pair_views_on, pairs, resting, status_of}
use Rattle.store_laws.proofs.Coming.{AreRowed}
use Rattle.store_laws.proofs.Denoted.{denoted-view}
use Rattle.store_laws.proofs.Having.{IsRead, IsReady, reached_passes}
use Rattle.store_laws.proofs.HeldCounts.{any-counted}
use Rattle.store_laws.proofs.Paired.{IsTold, broken_now, told_pairs}
use Rattle.store_laws.proofs.Viewed.{iff_true}
use Rattle.store_laws.proofs.ViewHas.{append_first}

or_nothing : (b : Bool) → (b || false) ≡ b
or_nothing true = refl
or_nothing false = refl

or_same : (b : Bool) → (b || b) ≡ b
or_same true = refl
or_same false = refl

-- ---- which cells are of a data handle

module _ (k : ℕ) where
  abbrev test : Cell → Bool
  test cell = is_of_slot k cell

  none_sent : (o : Option Piece) (off len : ℕ) → list_any test (map (piece_cell o) (range_with_len off len)) ≡ false
  none_sent o off zero = refl
  none_sent None off (suc len) = none_sent None (off + 1) len
  none_sent (Some piece) off (suc len) = none_sent (Some piece) (off + 1) len

  none_filed : (name : List ℕ) (stamp start off len : ℕ) → list_any test (map (λ (place : ℕ). filed name stamp (start + place))
      (range_with_len off len)) ≡ false
  none_filed name stamp start off zero = refl
  none_filed name stamp start off (suc len) = none_filed name stamp start (off + 1) len

  all_lent : (slot start off len : ℕ) → 0 < len → list_any test (map (λ (place : ℕ). lent slot (start + place)) (range_with_len off len)) ≡ (slot == k)
  all_lent slot start off zero some = absurd (omega arith)
  all_lent slot start off (suc zero) some = or_nothing (slot == k)
  all_lent slot start off (suc (suc len)) some =
      ap (λ (b : Bool). (slot == k) || b) (all_lent slot start (off + 1) (suc len) (omega arith)) ∙ or_same (slot == k)

  item_tested : (all : List Piece) (item : Item) (off len : ℕ) → 0 < len → list_any test (map (item_cell all item)
      (range_with_len off len)) ≡ is_range_of k item
  item_tested all (Memory piece bytes) off len some = none_sent (piece_in all piece.0) off len
  item_tested all (Paged piece page start size) off len some = none_sent (piece_in all piece.0) off len
  item_tested all (Reserved piece size) off len some = none_sent (piece_in all piece.0) off len
  item_tested all (File name stamp start size) off len some = none_filed name stamp start off len
  item_tested all (Range slot start size) off len some = all_lent slot start off len some

  module _ (all : List Piece) (shares : List (Option Share)) where
    view_tested : (view : View) (o : Option Item) → item_at shares view.slot ≡ o
        → IsSomeAnd o (λ (item : Item). (view.off + view.len ≤ item_length item) × IsLongAs all item (piece_of_item item))
        → list_any test (map (cell_at all shares) (view_cells view)) ≡ option_map_or (is_range_of k) o false
    view_tested view None at inside = absurd inside
    view_tested view (Some item) at inside = ap (list_any test) (denoted-view all shares view item at) ∙ item_tested all item view.off view.len view.some

    pub views_tested : (views : List View) → AllByRecursion (IsInside all shares) views → list_any test (denoted all shares views) ≡ list_any
        (is_range_at shares k) views
    views_tested [] inside = refl
    views_tested (view ∷ views) inside =
        ap (list_any test) (map-append (cell_at all shares) (view_cells view) (cells views))
        ∙ list_any-append test (map (cell_at all shares) (view_cells view)) (denoted all shares views)
        ∙ ap (λ (b : Bool). b || list_any test (denoted all shares views)) (view_tested view (item_at shares view.slot) refl inside.0)
        ∙ ap (λ (b : Bool). is_range_at shares k view || b) (views_tested views inside.1)

    pub slot_read : IsRead all shares test (is_range_at shares k) (is_range_step shares k)
    slot_read =
        record {
          views = views_tested;
          own = λ number len sound. none_sent (piece_in all number.0) 0 len;
          fixed = λ view sound. views_tested (view ∷ []) (sound.0, tt) ∙ or_nothing (is_range_at shares k view);
          source = λ name off len. refl;
        }

    no_own : (recipe : List Step) → list_any test (flat_map (own_step_cells all) recipe) ≡ false
    no_own [] = refl
    no_own (Own number len ∷ recipe) =
        list_any-append test (own_step_cells all (Own number len)) (flat_map (own_step_cells all) recipe)
        ∙ ap (λ (b : Bool). b || list_any test (flat_map (own_step_cells all) recipe)) (none_sent (piece_in all number.0) 0 len)
        ∙ no_own recipe
    no_own (Fixed view ∷ recipe) = no_own recipe
    no_own (Source name off len ∷ recipe) = no_own recipe

  fixed_as : (shares : List (Option Share)) (recipe : List Step) → list_any (is_range_at shares k) (fixed_views recipe) ≡ list_any
      (is_range_step shares k) recipe
  fixed_as shares [] = refl
  fixed_as shares (Own number len ∷ recipe) = fixed_as shares recipe
  fixed_as shares (Fixed view ∷ recipe) = ap (λ (b : Bool). is_range_at shares k view || b) (fixed_as shares recipe)
  fixed_as shares (Source name off len ∷ recipe) = fixed_as shares recipe

-- ---- which slots hold the data handle

-- as many rows as blobs
abbrev LengthsAgree : List Build → List (Option Row) → Type 0
LengthsAgree [] [] = Unit {0}
LengthsAgree [] (row ∷ rows) = ⊥
LengthsAgree (build ∷ list) [] = ⊥
LengthsAgree (build ∷ list) (row ∷ rows) = LengthsAgree list rows

lengths_agree : (s : Session) (h : History) (stands : ℕ → Bool) (list : List Build) (rows : List (Option Row)) → AreRowed s h stands list rows
    → LengthsAgree list rows
lengths_agree s h stands [] [] are = tt
lengths_agree s h stands [] (row ∷ rows) are = absurd (cc are)
lengths_agree s h stands (build ∷ list) [] are = absurd (cc are)
lengths_agree s h stands (build ∷ list) (row ∷ rows) are = lengths_agree s h stands list rows cc

module _ (k : ℕ) (shares : List (Option Share)) where
  abbrev at_slot : ℕ → Bool
  at_slot slot = option_map_or (is_range_of k) (item_at shares slot) false

  some_slot : (list : List (Option Share)) → holds_slot list k ≡ true → (slot : ℕ) × (option_map_or (is_range_of k) (item_at list slot) false ≡ true)
  some_slot [] e = absurd (false_true e)
  some_slot (share ∷ list) e =
      ⊎_elim (λ (here : option_map_or (λ (one : Share). is_range_of k one.item) share false ≡ true). (0, by share here))
      (λ (more : holds_slot list k ≡ true). let rest = some_slot list more in (suc rest.0, rest.1))
      (or_cases (option_map_or (λ (one : Share). is_range_of k one.item) share false) (holds_slot list k) e)
    where
      by : (share : Option Share) → option_map_or (λ (one : Share). is_range_of k one.item) share false ≡ true
          → option_map_or (is_range_of k) (option_map (λ (one : Share). one.item) share) false ≡ true
      by None e = absurd (false_true e)
      by (Some one) e = e

  at_holds : (slot : ℕ) (list : List (Option Share)) → option_map_or (is_range_of k) (item_at list slot) false ≡ true → holds_slot list k ≡ true
  at_holds slot [] e = absurd (false_true e)
  at_holds zero (share ∷ list) e = or_first (option_map_or (λ (one : Share). is_range_of k one.item) share false) (holds_slot list k) (by share e)
    where
      by : (share : Option Share) → option_map_or (is_range_of k) (option_map (λ (one : Share). one.item) share) false ≡ true
          → option_map_or (λ (one : Share). is_range_of k one.item) share false ≡ true
      by None e = absurd (false_true e)
      by (Some one) e = e
  at_holds (suc slot) (share ∷ list) e = or_second (option_map_or (λ (one : Share). is_range_of k one.item) share false) (holds_slot list k)
      (at_holds slot list e)

  views_hold : (views : List View) → list_any (is_range_at shares k) views ≡ true → holds_slot shares k ≡ true
  views_hold [] e = absurd (false_true e)
  views_hold (view ∷ views) e =
      ⊎_elim (λ (here : is_range_at shares k view ≡ true). at_holds view.slot shares here) (λ (more : list_any
      (is_range_at shares k) views ≡ true). views_hold views more)
      (or_cases (is_range_at shares k view) (list_any (is_range_at shares k) views) e)

  steps_hold : (recipe : List Step) → list_any (is_range_step shares k) recipe ≡ true → holds_slot shares k ≡ true
  steps_hold recipe e = views_hold (fixed_views recipe) (fixed_as k shares recipe ∙ e)

  -- the slot of the item has a count
  has_count : (slot : ℕ) → IfSome (share_at shares slot) (λ (share : Share). 0 < share.count) → at_slot slot ≡ true → 0 < count_at shares slot
  has_count slot viewed e = go (share_at shares slot) viewed e
    where
      go : (o : Option Share) → IfSome o (λ (share : Share). 0 < share.count) → option_map_or (is_range_of k) (option_map (λ
          (share : Share). share.item) o) false ≡ true
          → 0 < option_map_or (λ (share : Share). share.count) o 0
      go None viewed e = absurd (false_true e)
      go (Some share) viewed e = viewed

  on_views : (slot : ℕ) → at_slot slot ≡ true → (views : List View) → list_any (λ (view : View). view.slot == slot) views ≡ true
      → list_any (is_range_at shares k) views ≡ true
  on_views slot at [] e = absurd (false_true e)
  on_views slot at (view ∷ views) e =
      ⊎_elim
      (λ (here : (view.slot == slot) ≡ true). or_first (is_range_at shares k view) (list_any (is_range_at shares k) views) (ap at_slot
      (eqb-true view.slot slot here) ∙ at))
      (λ (more : list_any (λ (each : View). each.slot == slot) views ≡ true). or_second (is_range_at shares k view) (list_any (is_range_at shares k) views)
      (on_views slot at views more))
      (or_cases (view.slot == slot) (list_any (λ (each : View). each.slot == slot) views) e)

  -- a slot of a piece has no data handle
  no_piece : (slot number : ℕ) → piece_at shares slot ≡ Some number → at_slot slot ≡ false
  no_piece slot number e = go (item_at shares slot) e
    where
      go : (o : Option Item) → piece_by o ≡ Some number → option_map_or (is_range_of k) o false ≡ false
      go None e = refl
      go (Some (Memory piece bytes)) e = refl
      go (Some (Paged piece page off len)) e = refl
      go (Some (Reserved piece len)) e = refl
      go (Some (File name stamp off len)) e = refl
      go (Some (Range slot off len)) e = absurd (cc e)

  none_written : (slots numbers : List ℕ) → map (piece_at shares) slots ≡ map (λ (number : ℕ). Some number) numbers → (slot : ℕ) → at_slot slot ≡ true
      → list_any (λ (each : ℕ). each == slot) slots ≡ true → ⊥
  none_written [] numbers are slot at e = false_true e
  none_written (one ∷ slots) [] are slot at e = absurd (cc are)
  none_written (one ∷ slots) (number ∷ numbers) are slot at e =
      let first : piece_at shares one ≡ Some number = cc in
      let later : map (piece_at shares) slots ≡ map (λ (each : ℕ). Some each) numbers = cc in
      ⊎_elim (λ (here : (one == slot) ≡ true). false_true (sym (no_piece one number first) ∙ ap at_slot (eqb-true one slot here) ∙ at))
      (λ (more : list_any (λ (each : ℕ). each == slot) slots ≡ true). none_written slots numbers later slot at more)
      (or_cases (one == slot) (list_any (λ (each : ℕ). each == slot) slots) e)

  none_coming : (numbers : List ℕ) (coming : Coming) → AreWritten shares numbers coming → (slot : ℕ) → at_slot slot ≡ true
      → list_any (λ (each : ℕ). each == slot) (coming_slots coming) ≡ true → ⊥
  none_coming numbers settled are slot at e = false_true e
  none_coming numbers waiting are slot at e = false_true e
  none_coming numbers (gathering segments) are slot at e = false_true e
  none_coming numbers (writing slots came) are slot at e = none_written slots numbers are slot at e

  none_pinned : (own : ℕ → List ℕ) (list : List Build) (rows : List (Option Row)) → LengthsAgree list rows
      → RowsBeside (λ (build : Build) (row : Row). AreWritten shares (own build.name) row.coming) list rows → (slot : ℕ) → at_slot slot ≡ true
      → list_any (λ (each : ℕ). each == slot) (pinned rows) ≡ true → ⊥
  none_pinned own [] [] same written slot at e = false_true e
  none_pinned own [] (row ∷ rows) same written slot at e = same
  none_pinned own (build ∷ list) [] same written slot at e = same
  none_pinned own (build ∷ list) (None ∷ rows) same written slot at e = none_pinned own list rows same written slot at e
  none_pinned own (build ∷ list) (Some row ∷ rows) same written slot at e =
      ⊎_elim (λ (here : list_any (λ (each : ℕ). each == slot) (coming_slots row.coming) ≡ true). none_coming (own build.name) row.coming written.0 slot at here)
      (λ (more : list_any (λ (each : ℕ). each == slot) (pinned rows) ≡ true). none_pinned own list rows same written.1 slot at more)
      (or_cases (list_any (λ (each : ℕ). each == slot) (coming_slots row.coming)) (list_any (λ (each : ℕ). each == slot) (pinned rows))
      (sym (list_any-append (λ (each : ℕ). each == slot) (coming_slots row.coming) (pinned rows)) ∙ e))

-- ---- the law

-- some of the unbroken blobs has a cell that passes
filtered_any : (h : History) (test : Cell → Bool) (list : List Build)
    → list_any (λ (cells : List Cell). list_any test cells) (map (λ (build : Build). build.cells) (filter (λ (build : Build). not
    (is_broken_now h build.name)) list))
    ≡ list_any (λ (build : Build). not (is_broken_now h build.name) && list_any test build.cells) list
filtered_any h test [] = refl
filtered_any h test (build ∷ list) = go (is_broken_now h build.name) (filtered_any h test list)
  where
    go : (b : Bool)
        → list_any (λ (cells : List Cell). list_any test cells) (map (λ (each : Build). each.cells) (filter (λ (each : Build). not
        (is_broken_now h each.name)) list))
        ≡ list_any (λ (each : Build). not (is_broken_now h each.name) && list_any test each.cells) list
        → list_any (λ (cells : List Cell). list_any test cells)
        (map (λ (each : Build). each.cells) (cond (not b) (build ∷ filter (λ (each : Build). not (is_broken_now h each.name)) list) (filter (λ
        (each : Build). not (is_broken_now h each.name)) list)))
        ≡ ((not b && list_any test build.cells) || list_any (λ (each : Build). not (is_broken_now h each.name) && list_any test each.cells) list)
    go true rest = rest
    go false rest = ap (λ (b : Bool). list_any test build.cells || b) rest

module _ (s : Session) (h : History) (stands : ℕ → Bool) (book : Book) (shares : List (Option Share)) (rows : List (Option Row)) (quota : Queue)
    (files : Files) (order : List (ℕ × ℕ))
    (contents : ContentsStand s h stands book shares rows quota files order) (exact : AreExact s h stands) (rest : IsAtRest (page_limit s) h)
    (counted : IsCounted book shares rows) (k : ℕ) where
  abbrev whole : List Build
  whole = builds (page_limit s) h

  abbrev all : List Piece
  all = pieces (page_limit s) h

  abbrev own : ℕ → List ℕ
  own = own_pieces (page_limit s) h

  abbrev both_pairs : List (Build × Entry)
  both_pairs = pairs s h stands book shares rows quota files order contents exact rest counted

  abbrev on : View → Bool
  on view = is_range_at shares k view

  none_of : (views : List View) → views ≡ [] → list_any on views ≡ true → ⊥
  none_of views none e = false_true (sym (ap (list_any on) none) ∙ e)

  -- an unbroken entry with a view on the item has the data handle
  by_status : (build : Build) (entry : Entry) (status : Status) → IsEntryFor whole all shares own build entry
      → StandsFor whole all shares build.cells status entry
      → is_broken status ≡ false
      → (list_any on (fixed_views entry.recipe) ≡ true) ⊎ ((list_any on (own_views entry.own) ≡ true) ⊎ (list_any on entry.views ≡ true))
      → has_by on (is_range_step shares k) status entry ≡ true
  by_status build entry statuses.Done fine stands sound viewed =
      ⊎_elim (λ fixed. absurd (none_of (fixed_views entry.recipe) (ap fixed_views stands.1) fixed))
      (λ more. ⊎_elim (λ brought. absurd (none_of (own_views entry.own) (ap own_views stands.2) brought)) (λ done. done) more) viewed
  by_status build entry statuses.PendingQuota fine stands sound viewed =
      ⊎_elim (λ fixed. sym (fixed_as k shares entry.recipe) ∙ fixed)
      (λ more. ⊎_elim (λ brought. absurd (none_of (own_views entry.own) (ap own_views stands.2) brought)) (λ done. absurd
      (none_of entry.views stands.1 done)) more) viewed
  by_status build entry statuses.PendingTransport fine stands sound viewed =
      ⊎_elim (λ fixed. sym (fixed_as k shares entry.recipe) ∙ fixed)
      (λ more. ⊎_elim (λ brought. absurd (none_of (own_views entry.own) (ap own_views stands.2) brought)) (λ done. absurd
      (none_of entry.views stands.1 done)) more) viewed
  by_status build entry statuses.PendingReferencedBlobs fine stands sound viewed =
      ⊎_elim (λ fixed. sym (fixed_as k shares entry.recipe) ∙ fixed)
      (λ more.
      ⊎_elim
      (λ brought.
      let inside = append_second (IsInside all shares) (fixed_views entry.recipe) (own_views entry.own)
      (append_first (IsInside all shares) (fixed_views entry.recipe ++ own_views entry.own) entry.views fine.inside) in
      absurd (false_true (sym (no_own k all shares entry.recipe) ∙ sym (ap (list_any (is_of_slot k)) stands.2)
      ∙ views_tested k all shares (own_views entry.own) inside ∙ brought)))
      (λ done. absurd (none_of entry.views stands.1 done)) more) viewed
  by_status build entry statuses.Dereferenced fine stands sound viewed = absurd stands
  by_status build entry status fine stands sound viewed = absurd (false_true (sym sound))

  one_has : (pair : Build × Entry) → IsResting s h stands whole all shares own pair → list_any on (held_views pair.1) ≡ true → has_slot shares k pair ≡ true
  one_has pair one e = go (is_broken pair.1.status) refl
    where
      parted : (list_any on (fixed_views pair.1.recipe) ≡ true) ⊎ ((list_any on (own_views pair.1.own) ≡ true) ⊎ (list_any on pair.1.views ≡ true))
      parted =
          ⊎_elim
          (λ (front : list_any on (fixed_views pair.1.recipe ++ own_views pair.1.own) ≡ true).
          ⊎_elim (λ fixed. inl fixed) (λ brought. inr (inl brought))
          (or_cases (list_any on (fixed_views pair.1.recipe)) (list_any on (own_views pair.1.own)) (sym (list_any-append on (fixed_views pair.1.recipe)
          (own_views pair.1.own)) ∙ front)))
          (λ (done : list_any on pair.1.views ≡ true). inr (inr done))
          (or_cases (list_any on (fixed_views pair.1.recipe ++ own_views pair.1.own)) (list_any on pair.1.views)
          (sym (list_any-append on (fixed_views pair.1.recipe ++ own_views pair.1.own) pair.1.views) ∙ e))

      go : (b : Bool) → is_broken pair.1.status ≡ b → has_slot shares k pair ≡ true
      go true at = absurd (none_of (held_views pair.1) (one.emptied at) e)
      go false at = by_status pair.0 pair.1 pair.1.status one.fine one.fine.stands at parted

  some_has : (xs : List (Build × Entry)) → AllByRecursion (IsResting s h stands whole all shares own) xs → list_any on (pair_views xs) ≡ true
      → list_any (has_slot shares k) xs ≡ true
  some_has [] ones e = absurd (false_true e)
  some_has (pair ∷ xs) ones e =
      ⊎_elim (λ (here : list_any on (held_views pair.1) ≡ true). or_first (has_slot shares k pair) (list_any (has_slot shares k) xs) (one_has pair ones.0 here))
      (λ (more : list_any on (pair_views xs) ≡ true). or_second (has_slot shares k pair) (list_any (has_slot shares k) xs) (some_has xs ones.1 more))
      (or_cases (list_any on (held_views pair.1)) (list_any on (pair_views xs)) (sym (list_any-append on (held_views pair.1) (pair_views xs)) ∙ e))

  -- an entry that has the data handle holds it
  has_holds : (status : Status) (entry : Entry) → has_by on (is_range_step shares k) status entry ≡ true → holds_slot shares k ≡ true
  has_holds statuses.Done entry e = views_hold k shares entry.views e
  has_holds statuses.PendingQuota entry e = steps_hold k shares entry.recipe e
  has_holds statuses.PendingTransport entry e = steps_hold k shares entry.recipe e
  has_holds statuses.PendingReferencedBlobs entry e = steps_hold k shares entry.recipe e
  has_holds status entry e = absurd (false_true e)

  some_holds : (xs : List (Build × Entry)) → list_any (has_slot shares k) xs ≡ true → holds_slot shares k ≡ true
  some_holds [] e = absurd (false_true e)
  some_holds (pair ∷ xs) e =
      ⊎_elim (λ (here : has_slot shares k pair ≡ true). has_holds pair.1.status pair.1 here) (λ (more : list_any
      (has_slot shares k) xs ≡ true). some_holds xs more)
      (or_cases (has_slot shares k pair) (list_any (has_slot shares k) xs) e)

  held_as : holds_slot shares k ≡ list_any (has_slot shares k) both_pairs
  held_as =
      iff_true (holds_slot shares k) (list_any (has_slot shares k) both_pairs)
      (λ e.
      let slot = some_slot k shares shares e in
      let some = has_count k shares slot.0 (counted.viewed slot.0) slot.1 in
      viewed slot.0 slot.1 some (views_on slot.0 (pair_views both_pairs)) refl)
      (λ e. some_holds both_pairs e)
    where
      viewed : (slot : ℕ) → option_map_or (is_range_of k) (item_at shares slot) false ≡ true → 0 < count_at shares slot → (n : ℕ)
          → views_on slot (pair_views both_pairs) ≡ n
          → list_any (has_slot shares k) both_pairs ≡ true
      viewed slot at some zero none =
          let sums = counted.counts slot in
          let views = pair_views_on (EntryStands whole all shares own) whole book.entries slot contents.entries.each in
          let pinned_so : 0 < count_by (λ (each : ℕ). each == slot) (pinned rows) = omega (arith, some, sums, views, none) in
          absurd
          (none_pinned k shares own whole rows (lengths_agree s h stands whole rows contents.rows_stand) contents.entries.written slot at
          (any-counted (λ (each : ℕ). each == slot) (pinned rows) pinned_so))
      viewed slot at some (suc n) is =
          some_has both_pairs (resting s h stands book shares rows quota files order contents exact rest counted)
          (on_views k shares slot at (pair_views both_pairs) (any-counted (λ (view : View). view.slot == slot) (pair_views both_pairs) (omega (arith, is))))

  ready : AllByRecursion (IsReady whole all shares own) both_pairs
  ready =
      for_each (IsResting s h stands whole all shares own) (IsReady whole all shares own) both_pairs
      (λ pair one. record { fine = one.fine; found = ap (λ (o : Option Build). option_map_or (λ (build : Build). build.cells) o []) one.there })
      (resting s h stands book shares rows quota files order contents exact rest counted)

  same_test : (pair : Build × Entry) → IsTold s h stands pair → (not (is_broken_now h pair.0.name) && list_any (is_of_slot k) pair.0.cells) ≡ reaches
      (is_of_slot k) pair
  same_test pair told =
      ap (λ (b : Bool). not b && list_any (is_of_slot k) pair.0.cells)
      (sym (broken_now s h pair.0) ∙ ap is_broken (sym (status_of s h stands book shares rows quota files order contents exact rest counted pair told)))

  pub slot_reached : holds_slot shares k ≡ is_slot_reached (page_limit s) h k
  slot_reached =
      held_as
      ∙ sym
      (some_twice (is_of_slot k) (live_cells (page_limit s) h)
      ∙ filtered_any h (is_of_slot k) (live (page_limit s) h)
      ∙ ap (list_any (λ (build : Build). not (is_broken_now h build.name) && list_any (is_of_slot k) build.cells))
      (live_pairs s h stands book shares rows quota files order contents exact rest counted)
      ∙ map_firsts (λ (build : Build). not (is_broken_now h build.name) && list_any (is_of_slot k) build.cells) both_pairs
      ∙ any_each (λ (pair : Build × Entry). not (is_broken_now h pair.0.name) && list_any (is_of_slot k) pair.0.cells) (reaches (is_of_slot k)) both_pairs
      (for_each (IsTold s h stands) (λ (pair : Build × Entry). (not (is_broken_now h pair.0.name) && list_any (is_of_slot k) pair.0.cells) ≡ reaches
      (is_of_slot k) pair) both_pairs
      (λ pair told. same_test pair told) (told_pairs s h stands whole book.entries contents.outlines_stand))
      ∙ reached_passes whole all shares own (is_of_slot k) (is_range_at shares k) (is_range_step shares k) (slot_read k all shares) both_pairs
      (closed s h stands book shares rows quota files order contents exact rest counted) ready)
