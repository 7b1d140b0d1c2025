-- The entry and the row of a new blob stand for it.
use Rattle.std.proofs.Common.{◌≡◌, ℕ, zero, suc, ◌+◌, ◌<◌, ◌≤◌, ◌==◌, ◌&&◌, ◌||◌, not, Bool, true, false, List, [], ◌∷◌, ◌++◌, map, take, drop, length, refl, ap, subst, sym, ◌∙◌, Option, Some, None, cond, arith, length-append, append_assoc}
use Rattle.std.specs.Prelude.{flat_map, filter, is_none, unwrap_or, IsSomeAnd}
use Rattle.std.specs.Option.{option_map_or}
use Rattle.std.specs.List.{AllByRecursion, range_with_len}
use Rattle.std.proofs.lemmas.Bool.{eq-eqb, or_parts}
use Rattle.std.proofs.lemmas.List.{append-nil, map-append}
use Rattle.std.proofs.lemmas.List.Concat.{flat_map-append}
use Rattle.blob_words.specs.declared.number.RendererId.{RendererId}
use Rattle.blob_words.specs.declared.plan.Plan.{Plan}
use Rattle.blob_words.specs.declared.plan.Plan.TheVariants as plans
use Rattle.blob_words.specs.declared.status.Status.{Status}
use Rattle.blob_words.specs.declared.status.Status.TheVariants as statuses
use Rattle.session_script.specs.declared.event.Part.{Part}
use Rattle.session_script.specs.declared.event.Part.TheVariants.{Embedded, Asked, FileRange, BlobRange, HandleRange}
use Rattle.item_shares.specs.declared.item.Item.{Item}
use Rattle.item_shares.specs.declared.item.Item.TheVariants.{Memory, Paged, Reserved, File, Range}
use Rattle.item_shares.specs.declared.shares.Share.{Share}
use Rattle.item_shares.specs.Shares.{item_at}
use Rattle.blob_items.specs.Cells.{view_cells}
use Rattle.blob_items.specs.declared.view.View.{View}
use Rattle.blob_entries.specs.Holdings.{fixed_views}
use Rattle.blob_entries.specs.Statuses.{is_broken, is_pending}
use Rattle.blob_entries.specs.declared.entry.Entry.{Entry}
use Rattle.blob_entries.specs.declared.step.Step.{Step}
use Rattle.blob_entries.specs.declared.step.Step.TheVariants.{Own, Fixed, Source}
use Rattle.transport_plan.specs.Spans.{IsEndToEnd, cut_spans, piece_spans}
use Rattle.transport_plan.proofs.SpanLemmas.{cut_cover}
use Rattle.blob_model.specs.Builds.{Build, Cell, builds, built}
use Rattle.blob_model.specs.History.{History, history_from, start}
use Rattle.blob_model.specs.Order.{named}
use Rattle.blob_model.specs.Own.{pending_status}
use Rattle.blob_model.specs.Parts.{own_lengths, parts_length, sources}
use Rattle.blob_model.specs.Pieces.{Piece, numbered, pieces, pieces_from, spans_of}
use Rattle.blob_model.specs.Session.{Session, page_limit}
use Rattle.blob_model.specs.Standing.{ended, grants_at_once, was_granted}
use Rattle.blob_model.specs.Transport.{arrivals, has_all, has_come, missing, spans}
use Rattle.blob_model.specs.Waits.{is_shared}
use Rattle.slice_rule.specs.Kind.{kept_type}
use Rattle.blob_model.proofs.Lists.{all_append, append_second, false_true, for_each, not_same}
use Rattle.blob_model.proofs.builds.PieceNumbers.{all_by_number, pieces_numbered}
use Rattle.blob_model.proofs.memory.Builds.{pieces_named}
use Rattle.blob_model.proofs.legal.Steps.{caused_from}
use Rattle.registry_laws.specs.Agree.{source_names}
use Rattle.store_laws.specs.BuildLaws.{Adds, IsEntered}
use Rattle.store_laws.specs.Cells.{cell_at, denoted, item_cell, piece_cell, piece_in}
use Rattle.store_laws.specs.EntryLaws.{AreBrought, IsReady, NewEntries, UnbuiltUnended, all_lengths, broken_entry, coming_row, pending_entry, ready_entry, settled_row}
use Rattle.store_laws.specs.Items.{IsInside, IsLongAs, item_length, piece_at, piece_by, piece_of_item}
use Rattle.store_laws.specs.Outlines.{status_now}
use Rattle.store_laws.specs.PartLaws.{AreFound, AreRanges, own_steps, piece_lengths, piece_no, recipe_of, IsAll}
use Rattle.store_laws.specs.Recipes.{IsStep, StandsFor, own_cells, own_number, own_numbers, own_step_cells, recipe_cells}
use Rattle.store_laws.specs.Rows.{coming_by, coming_of, gathered_of, gathering, pieces_before, settled, waiting, writing}
use Rattle.store_laws.specs.Uses.{own_pieces}
use Rattle.store_laws.proofs.Denoted.{denoted-append, denoted-view}
use Rattle.store_laws.proofs.Growing.{cells_found}
use Rattle.store_laws.proofs.Parting.{as_many, lengths_cut, numbered_join, recipes_stand}
use Rattle.store_laws.proofs.Unended.{unbuilt_unended}
use Rattle.store_laws.proofs.ViewHas.{append_first}

pub unbuilt : UnbuiltUnended
unbuilt s groups name legal fresh = unbuilt_unended s (history_from start groups) (caused_from s groups legal) name fresh

-- ---- the pieces of a new blob

numbered_many : (blob number : ℕ) (spans : List (ℕ × ℕ)) → length (numbered blob number spans) ≡ length spans
numbered_many blob number [] = refl
numbered_many blob number (span ∷ spans) = ap suc (numbered_many blob (number + 1) spans)

-- a blob that comes last has the pieces of the others before its own
before_last : (page number : ℕ) (list : List Build) (new : Build) → named new.name list ≡ false
    → pieces_before page (list ++ new ∷ []) new.name ≡ length (pieces_from page number list)
before_last page number [] new fresh = ap (λ (b : Bool). cond b 0 (length (spans_of page new) + 0)) (eq-eqb new.name new.name refl)
before_last page number (build ∷ list) new fresh =
    let parts = or_parts (build.name == new.name) (named new.name list) fresh in
    ap (λ (b : Bool). cond b 0 (length (spans_of page build) + pieces_before page (list ++ new ∷ []) new.name)) parts.0
    ∙ ap (λ (n : ℕ). length (spans_of page build) + n) (before_last page (number + length (spans_of page build)) list new parts.1)
    ∙ ap (λ (n : ℕ). n + length (pieces_from page (number + length (spans_of page build)) list)) (sym (numbered_many build.name number (spans_of page build)))
    ∙ sym (length-append (numbered build.name number (spans_of page build)) (pieces_from page (number + length (spans_of page build)) list))

-- the pieces of blobs with one more
pub pieces_then : (page number : ℕ) (list : List Build) (new : Build)
    → pieces_from page number (list ++ new ∷ [])
    ≡ pieces_from page number list ++ numbered new.name (number + length (pieces_from page number list)) (spans_of page new)
pieces_then page number [] new =
    let same : number + 0 ≡ number = omega arith in
    append-nil (numbered new.name number (spans_of page new)) ∙ ap (λ (n : ℕ). numbered new.name n (spans_of page new)) (sym same)
pieces_then page number (build ∷ list) new =
    let mine : List Piece = numbered build.name number (spans_of page build) in
    let rest : List Piece = pieces_from page (number + length (spans_of page build)) list in
    let long : length mine ≡ length (spans_of page build) = numbered_many build.name number (spans_of page build) in
    let sums : length (mine ++ rest) ≡ length mine + length rest = length-append mine rest in
    let same : (number + length (spans_of page build)) + length rest ≡ number + length (mine ++ rest) = omega (arith, long, sums) in
    ap (λ (more : List Piece). mine ++ more) (pieces_then page (number + length (spans_of page build)) list new
    ∙ ap (λ (n : ℕ). rest ++ numbered new.name n (spans_of page new)) same)
    ∙ sym (append_assoc mine rest (numbered new.name (number + length (mine ++ rest)) (spans_of page new)))

pub firsts_none : (name : ℕ) (list : List Piece) → AllByRecursion (λ (piece : Piece). (piece.blob == name) ≡ false) list
    → (more : List Piece) → filter (λ (piece : Piece). piece.blob == name) (list ++ more) ≡ filter (λ (piece : Piece). piece.blob == name) more
firsts_none name [] none more = refl
firsts_none name (piece ∷ list) none more =
    ap (λ (b : Bool). cond {A = List Piece} b (piece ∷ filter (λ (each : Piece). each.blob == name) (list ++ more))
    (filter (λ (each : Piece). each.blob == name) (list ++ more))) none.0
    ∙ firsts_none name list none.1 more

pub all_mine : (name number : ℕ) (spans : List (ℕ × ℕ))
    → map (λ (piece : Piece). piece.number) (filter (λ (piece : Piece). piece.blob == name) (numbered name number spans))
    ≡ map (λ (piece : Piece). piece.number) (numbered name number spans)
all_mine name number [] = refl
all_mine name number (span ∷ spans) =
    let piece : Piece = record { number = number; blob = name; from = span.0; len = span.1 } in
    ap (λ (b : Bool). map (λ (each : Piece). each.number) (cond {A = List Piece} b
    (piece ∷ filter (λ (each : Piece). each.blob == name) (numbered name (number + 1) spans))
    (filter (λ (each : Piece). each.blob == name) (numbered name (number + 1) spans)))) (eq-eqb name name refl)
    ∙ ap (λ (list : List ℕ). number ∷ list) (all_mine name (number + 1) spans)

-- ---- the steps of own parts alone

steps_join : (number : ℕ) (xs ys : List ℕ) → own_steps number (xs ++ ys) ≡ own_steps number xs ++ own_steps (number + length xs) ys
steps_join number [] ys = let same : number ≡ number + 0 = omega arith in ap (λ (n : ℕ). own_steps n ys) same
steps_join number (x ∷ xs) ys =
    let same : (number + 1) + length xs ≡ number + length (x ∷ xs) = omega arith in
    ap (λ (list : List Step). Own (piece_no number) x ∷ list) (steps_join (number + 1) xs ys ∙ ap (λ (n : ℕ). own_steps (number + 1) xs ++ own_steps n ys) same)

module _ {Y : Type 0} (f : Step → List Y) (fixed : (view : View) → f (Fixed view) ≡ []) (source : (name off len : ℕ) → f (Source name off len) ≡ []) (page : ℕ)
  where
    own_first : (number len : ℕ) (views : List View) (parts : List Part)
        → flat_map f (recipe_of page (number + length (piece_lengths page len)) views parts)
        ≡ flat_map f (own_steps (number + length (piece_lengths page len)) (all_lengths page parts))
        → flat_map f (own_steps number (piece_lengths page len) ++ recipe_of page (number + length (piece_lengths page len)) views parts)
        ≡ flat_map f (own_steps number (piece_lengths page len ++ all_lengths page parts))
    own_first number len views parts rest =
        flat_map-append f (own_steps number (piece_lengths page len)) (recipe_of page (number + length (piece_lengths page len)) views parts)
        ∙ ap (λ (list : List Y). flat_map f (own_steps number (piece_lengths page len)) ++ list) rest
        ∙ sym (flat_map-append f (own_steps number (piece_lengths page len)) (own_steps (number + length (piece_lengths page len)) (all_lengths page parts)))
        ∙ ap (flat_map f) (sym (steps_join number (piece_lengths page len) (all_lengths page parts)))

    only_own : (number : ℕ) (views : List View) (parts : List Part)
        → flat_map f (recipe_of page number views parts) ≡ flat_map f (own_steps number (all_lengths page parts))
    only_own number views [] = refl
    only_own number views (Embedded bytes ∷ parts) =
        own_first number (length bytes) views parts (only_own (number + length (piece_lengths page (length bytes))) views parts)
    only_own number views (Asked len ∷ parts) = own_first number len views parts (only_own (number + length (piece_lengths page len)) views parts)
    only_own number views (FileRange file off zero stamp ∷ parts) = only_own number views parts
    only_own number [] (FileRange file off (suc len) stamp ∷ parts) = only_own number [] parts
    only_own number (view ∷ views) (FileRange file off (suc len) stamp ∷ parts) = λ i. fixed view i ++ only_own number views parts i
    only_own number views (BlobRange b off len ∷ parts) = λ i. source b off len i ++ only_own number views parts i
    only_own number views (HandleRange k off zero ∷ parts) = only_own number views parts
    only_own number [] (HandleRange k off (suc len) ∷ parts) = only_own number [] parts
    only_own number (view ∷ views) (HandleRange k off (suc len) ∷ parts) = λ i. fixed view i ++ only_own number views parts i

none_own : (number : ℕ) (lengths : List ℕ) (rest : List Step) → source_names (own_steps number lengths ++ rest) ≡ source_names rest
none_own number [] rest = refl
none_own number (len ∷ lengths) rest = none_own (number + 1) lengths rest

-- a recipe takes bytes from the sources of its parts
sources_made : (page number : ℕ) (views : List View) (parts : List Part) → source_names (recipe_of page number views parts) ≡ sources parts
sources_made page number views [] = refl
sources_made page number views (Embedded bytes ∷ parts) =
    none_own number (piece_lengths page (length bytes)) (recipe_of page (number + length (piece_lengths page (length bytes))) views parts)
    ∙ sources_made page (number + length (piece_lengths page (length bytes))) views parts
sources_made page number views (Asked len ∷ parts) =
    none_own number (piece_lengths page len) (recipe_of page (number + length (piece_lengths page len)) views parts)
    ∙ sources_made page (number + length (piece_lengths page len)) views parts
sources_made page number views (FileRange file off zero stamp ∷ parts) = sources_made page number views parts
sources_made page number [] (FileRange file off (suc len) stamp ∷ parts) = sources_made page number [] parts
sources_made page number (view ∷ views) (FileRange file off (suc len) stamp ∷ parts) = sources_made page number views parts
sources_made page number views (BlobRange b off len ∷ parts) = ap (λ (list : List ℕ). b ∷ list) (sources_made page number views parts)
sources_made page number views (HandleRange k off zero ∷ parts) = sources_made page number views parts
sources_made page number [] (HandleRange k off (suc len) ∷ parts) = sources_made page number [] parts
sources_made page number (view ∷ views) (HandleRange k off (suc len) ∷ parts) = sources_made page number views parts

pub lengths_all : (page from : ℕ) (list : List ℕ) → map (λ (span : ℕ × ℕ). span.1) (piece_spans page from list) ≡ flat_map (piece_lengths page) list
lengths_all page from [] = refl
lengths_all page from (len ∷ list) =
    map-append (λ (span : ℕ × ℕ). span.1) (cut_spans page from len) (piece_spans page (from + len) list)
    ∙ (λ i. lengths_cut page from len i ++ lengths_all page (from + len) list i)

numbers_own : (name number : ℕ) (spans : List (ℕ × ℕ))
    → own_numbers (own_steps number (map (λ (span : ℕ × ℕ). span.1) spans)) ≡ map (λ (piece : Piece). piece.number) (numbered name number spans)
numbers_own name number [] = refl
numbers_own name number (span ∷ spans) = ap (λ (list : List ℕ). number ∷ list) (numbers_own name (number + 1) spans)

-- ---- views and steps of the new blob

module _ (all : List Piece) (now : List (Option Share)) where
  piece_item_cells : (number place : ℕ) (item : Item) → piece_of_item item ≡ Some number → item_cell all item place ≡ piece_cell (piece_in all number) place
  piece_item_cells number place (Memory piece bytes) is = let same : piece.0 ≡ number = cc in ap (λ (n : ℕ). piece_cell (piece_in all n) place) same
  piece_item_cells number place (Paged piece file off len) is = let same : piece.0 ≡ number = cc in ap (λ (n : ℕ). piece_cell (piece_in all n) place) same
  piece_item_cells number place (Reserved piece len) is = let same : piece.0 ≡ number = cc in ap (λ (n : ℕ). piece_cell (piece_in all n) place) same
  piece_item_cells number place (File file stamp off len) is = absurd (cc is)
  piece_item_cells number place (Range slot off len) is = absurd (cc is)

  abbrev IsOf : ℕ → ℕ → Item → Type 0
  IsOf number len item = (piece_of_item item ≡ Some number) × (item_length item ≡ len)

  view_brought : (number len : ℕ) (view : View) → IsAll len view → IsSomeAnd (item_at now view.slot) (IsOf number len)
      → denoted all now (view ∷ []) ≡ own_cells all number len
  view_brought number len view whole is = go (item_at now view.slot) refl is
    where
      go : (o : Option Item) → item_at now view.slot ≡ o → IsSomeAnd o (IsOf number len) → denoted all now (view ∷ []) ≡ own_cells all number len
      go None at is = absurd is
      go (Some item) at is =
          ap (map (cell_at all now)) (append-nil (view_cells view)) ∙ denoted-view all now view item at
          ∙ (λ i. map (item_cell all item) (range_with_len (whole.0 i) (whole.1 i)))
          ∙ (λ i. map (λ (place : ℕ). piece_item_cells number place item is.0 i) (range_with_len 0 len))

  all_brought : (number : ℕ) (lengths : List ℕ) (own : List View) → AreBrought now number lengths own
      → denoted all now own ≡ flat_map (own_step_cells all) (own_steps number lengths)
  all_brought number [] [] are = refl
  all_brought number [] (view ∷ own) are = absurd are
  all_brought number (len ∷ lengths) [] are = absurd are
  all_brought number (len ∷ lengths) (view ∷ own) are =
      denoted-append all now (view ∷ []) own ∙ (λ i. view_brought number len view are.0 are.1 i ++ all_brought (number + 1) lengths own are.2 i)

  brought_inside : (name number : ℕ) (spans : List (ℕ × ℕ)) (own : List View) → AreBrought now number (map (λ (span : ℕ × ℕ). span.1) spans) own
      → AreFound all (numbered name number spans) → AllByRecursion (IsInside all now) own
  brought_inside name number [] [] are found_them = tt
  brought_inside name number [] (view ∷ own) are found_them = absurd are
  brought_inside name number (span ∷ spans) [] are found_them = absurd are
  brought_inside name number (span ∷ spans) (view ∷ own) are found_them =
      (go (item_at now view.slot) are.1, brought_inside name (number + 1) spans own are.2 found_them.1)
    where
      long : (item : Item) (o : Option ℕ) → o ≡ Some number → item_length item ≡ span.1 → IsLongAs all item o
      long item None is same = tt
      long item (Some one) is same =
          let here : one ≡ number = cc in
          subst (λ (o : Option Piece). IsSomeAnd o (λ (piece : Piece). item_length item ≡ piece.len)) (sym (ap (piece_in all) here ∙ found_them.0)) same

      go : (o : Option Item) → IsSomeAnd o (IsOf number span.1)
          → IsSomeAnd o (λ (item : Item). (view.off + view.len ≤ item_length item) × IsLongAs all item (piece_of_item item))
      go None is = absurd is
      go (Some item) is =
          let off = are.0.0 in
          let len = are.0.1 in
          let size = is.1 in
          (omega (arith, off, len, size), long item (piece_of_item item) is.0 is.1)

  steps_found : (name number from to : ℕ) (spans : List (ℕ × ℕ)) → IsEndToEnd from spans to → AreFound all (numbered name number spans)
      → AllByRecursion (IsStep all now) (own_steps number (map (λ (span : ℕ × ℕ). span.1) spans))
  steps_found name number from to [] covers found_them = tt
  steps_found name number from to (span ∷ spans) covers found_them = (
    (covers.1, subst (λ (o : Option Piece). IsSomeAnd o (λ (one : Piece). span.1 ≡ one.len)) (sym found_them.0) refl),
    steps_found name (number + 1) (from + span.1) to spans covers.2 found_them.1,
  )

  module _ (name page : ℕ) (sized : 0 < page) where
    own_part_steps : (number from len : ℕ) (views : List View) (parts : List Part)
        → AreFound all (numbered name number (cut_spans page from len ++ piece_spans page (from + len) (own_lengths parts)))
        → (AreFound all (numbered name (number + length (piece_lengths page len)) (piece_spans page (from + len) (own_lengths parts)))
        → AllByRecursion (IsStep all now) (recipe_of page (number + length (piece_lengths page len)) views parts))
        → AllByRecursion (IsStep all now) (own_steps number (piece_lengths page len) ++ recipe_of page (number + length (piece_lengths page len)) views parts)
    own_part_steps number from len views parts found_them go =
        let P : Piece → Type 0 = λ piece. piece_in all piece.number ≡ Some piece in
        let both = subst (λ (list : List Piece). AreFound all list)
        (numbered_join name number (cut_spans page from len) (piece_spans page (from + len) (own_lengths parts))) found_them in
        let mine = append_first P (numbered name number (cut_spans page from len))
        (numbered name (number + length (cut_spans page from len)) (piece_spans page (from + len) (own_lengths parts))) both in
        let rest = append_second P (numbered name number (cut_spans page from len))
        (numbered name (number + length (cut_spans page from len)) (piece_spans page (from + len) (own_lengths parts))) both in
        all_append (IsStep all now) (own_steps number (piece_lengths page len)) (recipe_of page (number + length (piece_lengths page len)) views parts)
        (subst (λ (lengths : List ℕ). AllByRecursion (IsStep all now) (own_steps number lengths)) (lengths_cut page from len)
        (steps_found name number from (from + len) (cut_spans page from len) (cut_cover page from len sized) mine))
        (go (subst (λ (n : ℕ). AreFound all (numbered name (number + n) (piece_spans page (from + len) (own_lengths parts)))) (as_many page from len) rest))

    range_step : (view : View) (len : ℕ) (item : Item) → IsAll (suc len) view → item_at now view.slot ≡ Some item → item_length item ≡ suc len
        → piece_of_item item ≡ None → IsStep all now (Fixed view)
    range_step view len item whole at long none =
        let off = whole.0 in
        let size = whole.1 in (
          subst (λ (o : Option Item). IsSomeAnd o (λ (each : Item). (view.off + view.len ≤ item_length each) × IsLongAs all each (piece_of_item each))) (sym at)
              (omega (arith, off, size, long), subst (λ (o : Option ℕ). IsLongAs all item o) (sym none) tt),
          ap piece_by at ∙ none,
        )

    recipe_steps : (number from : ℕ) (views : List View) (parts : List Part) → AreFound all (numbered name number (piece_spans page from (own_lengths parts)))
        → AreRanges now views parts → AllByRecursion (IsStep all now) (recipe_of page number views parts)
    recipe_steps number from views [] found_them ranges = tt
    recipe_steps number from views (Embedded bytes ∷ parts) found_them ranges =
        own_part_steps number from (length bytes) views parts found_them
        (λ rest. recipe_steps (number + length (piece_lengths page (length bytes))) (from + length bytes) views parts rest ranges)
    recipe_steps number from views (Asked len ∷ parts) found_them ranges =
        own_part_steps number from len views parts found_them (λ rest. recipe_steps (number + length (piece_lengths page len)) (from + len) views parts rest
        ranges)
    recipe_steps number from views (FileRange file off zero stamp ∷ parts) found_them ranges = recipe_steps number from views parts found_them ranges
    recipe_steps number from [] (FileRange file off (suc len) stamp ∷ parts) found_them ranges = absurd ranges
    recipe_steps number from (view ∷ views) (FileRange file off (suc len) stamp ∷ parts) found_them ranges =
        (range_step view len (File file stamp off (suc len)) ranges.0 ranges.1 refl refl, recipe_steps number from views parts found_them ranges.2)
    recipe_steps number from views (BlobRange b off len ∷ parts) found_them ranges = (tt, recipe_steps number from views parts found_them ranges)
    recipe_steps number from views (HandleRange k off zero ∷ parts) found_them ranges = recipe_steps number from views parts found_them ranges
    recipe_steps number from [] (HandleRange k off (suc len) ∷ parts) found_them ranges = absurd ranges
    recipe_steps number from (view ∷ views) (HandleRange k off (suc len) ∷ parts) found_them ranges =
        (range_step view len (Range k off (suc len)) ranges.0 ranges.1 refl refl, recipe_steps number from views parts found_them ranges.2)

  fixed_inside : (recipe : List Step) → AllByRecursion (IsStep all now) recipe → AllByRecursion (IsInside all now) (fixed_views recipe)
  fixed_inside [] are = tt
  fixed_inside (Own piece len ∷ recipe) are = fixed_inside recipe are.1
  fixed_inside (Fixed view ∷ recipe) are = (are.0.0, fixed_inside recipe are.1)
  fixed_inside (Source name off len ∷ recipe) are = fixed_inside recipe are.1

-- ---- a blob that broke at its line

never_both : (why : Status) → is_broken why ≡ true → is_pending why ≡ true → ⊥
never_both statuses.PendingQuota broken pending = false_true broken
never_both statuses.PendingTransport broken pending = false_true broken
never_both statuses.PendingReferencedBlobs broken pending = false_true broken
never_both why broken pending = false_true pending

broken_stands : (list : List Build) (all : List Piece) (now : List (Option Share)) (cells : List Cell) (why : Status) (entry : Entry) → is_broken why ≡ true
    → StandsFor list all now cells why entry
broken_stands list all now cells statuses.Done entry broken = absurd (false_true broken)
broken_stands list all now cells statuses.PendingQuota entry broken = absurd (false_true broken)
broken_stands list all now cells statuses.PendingTransport entry broken = absurd (false_true broken)
broken_stands list all now cells statuses.PendingReferencedBlobs entry broken = absurd (false_true broken)
broken_stands list all now cells statuses.Dereferenced entry broken = absurd (false_true broken)
broken_stands list all now cells why entry broken = tt

first_piece : (s : Session) (h later : History) (new : Build) → Adds s h later new
    → length (pieces (page_limit s) h) ≡ pieces_before (page_limit s) (builds (page_limit s) later) new.name
first_piece s h later new adds =
    sym (ap (λ (list : List Build). pieces_before (page_limit s) list new.name) adds.blobs ∙ before_last (page_limit s) 0 (builds (page_limit s) h) new
    adds.fresh)

broken_entered : (s : Session) (h later : History) (owner : RendererId) (name : ℕ) (kind : List ℕ) (parts : List Part) (why : Status)
    (now : List (Option Share))
    → Adds s h later (built (page_limit s) (builds (page_limit s) h) owner.0 name kind parts None) → ended later name ≡ Some why → is_broken why ≡ true
    → IsEntered s later (built (page_limit s) (builds (page_limit s) h) owner.0 name kind parts None) now (broken_entry owner kind why)
    (settled_row None 0 (length (pieces (page_limit s) h)) parts)
broken_entered s h later owner name kind parts why now adds ends broken =
    let new : Build = built (page_limit s) (builds (page_limit s) h) owner.0 name kind parts None in
    record {
      outline_is = λ i. record {
        owner = owner.0;
        size = 0;
        kind = kept_type kind;
        status = sym (ap (λ (o : Option Status). unwrap_or o (pending_status s later new)) ends) i;
      };
      unmarked = refl;
      stands = record {
        stands = broken_stands (builds (page_limit s) later) (pieces (page_limit s) later) now [] why (broken_entry owner kind why) broken;
        steps = tt;
        inside = tt;
        owned = λ pending. absurd (never_both why broken pending);
        sources = λ pending. absurd (never_both why broken pending);
      };
      row_is = λ i. record {
        plan = None;
        weight = 0;
        first = first_piece s h later new adds i;
        lengths = own_lengths parts;
        coming = sym (ap (λ (o : Option Status). cond (is_none o) settled settled) ends) i;
      };
      slots = tt;
    }

-- ---- a blob with all its own bytes at hand

module _ (s : Session) (h later : History) (owner : RendererId) (name : ℕ) (kind : List ℕ) (parts : List Part) where
  abbrev as_built : Plan → Build
  as_built plan = built (page_limit s) (builds (page_limit s) h) owner.0 name kind parts (Some plan)

  ready_status : (plan : Plan) → IsReady plan → ended later name ≡ None → statuses.PendingReferencedBlobs ≡ status_now s later (as_built plan)
  ready_status plans.None ready ends =
      sym (λ i. unwrap_or (ends i) (cond (is_none (ends i) && false && not (was_granted later name)) statuses.PendingQuota statuses.PendingReferencedBlobs))
  ready_status plans.Inline ready ends =
      sym (λ i. unwrap_or (ends i) (cond (is_none (ends i) && false && not (was_granted later name)) statuses.PendingQuota statuses.PendingReferencedBlobs))
  ready_status plan ready ends = absurd ready

  ready_coming : (plan : Plan) → IsReady plan → ended later name ≡ None → settled ≡ coming_of s later (as_built plan)
  ready_coming plans.None ready ends = sym (ap (λ (o : Option Status). cond (is_none o) settled settled) ends)
  ready_coming plans.Inline ready ends = sym (ap (λ (o : Option Status). cond (is_none o) settled settled) ends)
  ready_coming plan ready ends = absurd ready

  module _ (plan : Plan) (now : List (Option Share)) (views : List View) (sized : 0 < (page_limit s)) (adds : Adds s h later (as_built plan))
      (known : AllByRecursion (λ (source : ℕ). named source (builds (page_limit s) h) ≡ true) (sources parts)) (ranges : AreRanges now views parts) where
    abbrev first : ℕ
    first = length (pieces (page_limit s) h)

    abbrev recipe : List Step
    recipe = recipe_of (page_limit s) first views parts

    abbrev now_all : List Piece
    now_all = pieces (page_limit s) later

    abbrev own_spans : List (ℕ × ℕ)
    own_spans = piece_spans (page_limit s) 0 (own_lengths parts)

    split : now_all ≡ pieces (page_limit s) h ++ numbered name first own_spans
    split =
        let same : 0 + first ≡ first = omega arith in
        ap (pieces_from (page_limit s) 0) adds.blobs ∙ pieces_then (page_limit s) 0 (builds (page_limit s) h) (as_built plan)
        ∙ ap (λ (n : ℕ). pieces (page_limit s) h ++ numbered name n own_spans) same

    found_own : AreFound now_all (numbered name first own_spans)
    found_own =
        append_second (λ (piece : Piece). piece_in now_all piece.number ≡ Some piece) (pieces (page_limit s) h) (numbered name first own_spans)
        (subst (λ (list : List Piece). AreFound now_all list) split (all_by_number 0 now_all (pieces_numbered (page_limit s) 0 (builds (page_limit s) later))))

    cells_by : (list : List Step) → AllByRecursion (λ (source : ℕ). named source (builds (page_limit s) h) ≡ true) (source_names list)
        → recipe_cells (builds (page_limit s) later) now_all now list ≡ recipe_cells (builds (page_limit s) h) now_all now list
    cells_by [] are = refl
    cells_by (Own piece len ∷ list) are = ap (λ (cells : List Cell). own_cells now_all piece.0 len ++ cells) (cells_by list are)
    cells_by (Fixed view ∷ list) are = ap (λ (cells : List Cell). denoted now_all now (view ∷ []) ++ cells) (cells_by list are)
    cells_by (Source source off len ∷ list) are =
        λ i. take len (drop off (cells_found s h later (as_built plan) adds source are.0 i)) ++ cells_by list are.1 i

    steps_sound : AllByRecursion (IsStep now_all now) recipe
    steps_sound = recipe_steps now_all now name (page_limit s) sized first 0 views parts found_own ranges

    own_numbered : own_numbers recipe ≡ own_pieces (page_limit s) later name
    own_numbered =
        only_own own_number (λ view. refl) (λ source off len. refl) (page_limit s) first views parts
        ∙ ap (λ (lengths : List ℕ). own_numbers (own_steps first lengths)) (sym (lengths_all (page_limit s) 0 (own_lengths parts)))
        ∙ numbers_own name first own_spans
        ∙ sym (all_mine name first own_spans)
        ∙ ap (map (λ (piece : Piece). piece.number))
        (sym (ap (λ (list : List Piece). filter (λ (piece : Piece). piece.blob == name) list) split
        ∙ firsts_none name (pieces (page_limit s) h)
        (for_each (λ (piece : Piece). named piece.blob (builds (page_limit s) h) ≡ true) (λ (piece : Piece). (piece.blob == name) ≡ false)
        (pieces (page_limit s) h)
        (λ piece member. not_same piece.blob name (λ same. false_true
        (sym adds.fresh ∙ subst (λ (n : ℕ). named n (builds (page_limit s) h) ≡ true) same member)))
        (pieces_named (page_limit s) 0 (builds (page_limit s) h))) (numbered name first own_spans)))

    recipe_is : recipe_cells (builds (page_limit s) later) now_all now recipe ≡ (as_built plan).cells
    recipe_is =
        cells_by recipe (subst (λ (list : List ℕ). AllByRecursion (λ (source : ℕ). named source (builds (page_limit s) h) ≡ true) list)
        (sym (sources_made (page_limit s) first views parts)) known)
        ∙ recipes_stand (builds (page_limit s) h) now_all now (page_limit s) name first 0 views parts sized found_own ranges

    ready_entered : (own : List View) → ended later name ≡ None → IsReady plan
        → AreBrought now (length (pieces (page_limit s) h)) (all_lengths (page_limit s) parts) own
        → IsEntered s later (as_built plan) now (ready_entry owner kind parts (page_limit s) first views own)
        (settled_row (Some plan) (as_built plan).weight first parts)
    ready_entered own ends ready brought = record {
      outline_is = λ i. record { owner = owner.0; size = parts_length parts; kind = kept_type kind; status = ready_status plan ready ends i };
      unmarked = refl;
      stands = record {
        stands = (
          recipe_is,
          refl,
          all_brought now_all now first (all_lengths (page_limit s) parts) own brought
              ∙ sym (only_own (own_step_cells now_all) (λ view. refl) (λ source off len. refl) (page_limit s) first views parts),
        );
        steps = steps_sound;
        inside = all_append (IsInside now_all now) (fixed_views recipe ++ own) []
            (all_append (IsInside now_all now) (fixed_views recipe) own (fixed_inside now_all now recipe steps_sound)
            (brought_inside now_all now name first own_spans own
            (subst (λ (lengths : List ℕ). AreBrought now first lengths own) (sym (lengths_all (page_limit s) 0 (own_lengths parts))) brought) found_own)) tt;
        owned = λ pending. own_numbered;
        sources = λ pending. sources_made (page_limit s) first views parts;
      };
      row_is = λ i. record {
        plan = Some plan;
        weight = (as_built plan).weight;
        first = first_piece s h later (as_built plan) adds i;
        lengths = own_lengths parts;
        coming = ready_coming plan ready ends i;
      };
      slots = tt;
    }

    -- the views of a blob whose bytes aren't there yet
    fixed_alone : AllByRecursion (IsInside now_all now) ((fixed_views recipe ++ []) ++ [])
    fixed_alone =
        all_append (IsInside now_all now) (fixed_views recipe ++ []) []
        (all_append (IsInside now_all now) (fixed_views recipe) [] (fixed_inside now_all now recipe steps_sound) tt) tt

    waiting_entered : (n : ℕ) → plan ≡ plans.Shared n → ended later name ≡ None → was_granted later name ≡ false
        → IsEntered s later (as_built plan) now (pending_entry owner kind parts (page_limit s) first views statuses.PendingQuota)
        (coming_row (Some plan) (as_built plan).weight first parts waiting)
    waiting_entered n shared ends ungranted = record {
      outline_is = λ i. record { owner = owner.0; size = parts_length parts; kind = kept_type kind; status = status i };
      unmarked = refl;
      stands = record {
        stands = (recipe_is, refl, refl);
        steps = steps_sound;
        inside = fixed_alone;
        owned = λ pending. own_numbered;
        sources = λ pending. sources_made (page_limit s) first views parts;
      };
      row_is = λ i. record {
        plan = Some plan;
        weight = (as_built plan).weight;
        first = first_piece s h later (as_built plan) adds i;
        lengths = own_lengths parts;
        coming = coming i;
      };
      slots = tt;
    }
      where
        status : statuses.PendingQuota ≡ status_now s later (as_built plan)
        status =
            sym (λ i. unwrap_or (ends i) (cond (is_none (ends i) && is_shared (Some (shared i)) && not (ungranted i)) statuses.PendingQuota
            (cond (has_all s.limits later (as_built plan)) statuses.PendingReferencedBlobs statuses.PendingTransport)))

        coming : waiting ≡ coming_of s later (as_built plan)
        coming =
            sym (ap (λ (o : Option Status). cond (is_none o) (coming_by s later (as_built plan) (Some plan)) settled) ends
            ∙ by plan shared)
          where
            by : (each : Plan) → each ≡ plans.Shared n → coming_by s later (as_built plan) (Some each) ≡ waiting
            by (plans.Shared m) same =
                λ i. cond (option_map_or grants_at_once (Some (shared i)) false || ungranted i)
                (cond (has_all s.limits later (as_built plan)) settled (gathering (gathered_of s later (as_built plan)))) waiting
            by plans.None same = absurd (cc same)
            by plans.Inline same = absurd (cc same)
            by (plans.File m) same = absurd (cc same)
            by plans.OutOfMemory same = absurd (cc same)
            by (plans.TooMany what) same = absurd (cc same)

    -- no segment of a blob that comes has come
    abbrev none_came : List Bool
    none_came = map (λ (segment : ℕ). false) (range_with_len 0 (length (spans s.limits (as_built plan))))

    writing_entered : (n : ℕ) (slots : List ℕ) → plan ≡ plans.File n → ended later name ≡ None → arrivals later name ≡ []
        → 0 < length (spans s.limits (as_built plan)) → map (piece_at now) slots ≡ map (λ (number : ℕ). Some number) (own_pieces (page_limit s) later name)
        → IsEntered s later (as_built plan) now (pending_entry owner kind parts (page_limit s) first views statuses.PendingTransport)
        (coming_row (Some plan) (as_built plan).weight first parts (writing slots none_came))
    writing_entered n slots filed ends quiet some written = record {
      outline_is = λ i. record { owner = owner.0; size = parts_length parts; kind = kept_type kind; status = status i };
      unmarked = refl;
      stands = record {
        stands = (recipe_is, refl, refl);
        steps = steps_sound;
        inside = fixed_alone;
        owned = λ pending. own_numbered;
        sources = λ pending. sources_made (page_limit s) first views parts;
      };
      row_is = λ i. record {
        plan = Some plan;
        weight = (as_built plan).weight;
        first = first_piece s h later (as_built plan) adds i;
        lengths = own_lengths parts;
        coming = coming i;
      };
      slots = written;
    }
      where
        all_missing : (from count : ℕ) → length (filter (λ (segment : ℕ). not (has_come (arrivals later name) segment)) (range_with_len from count)) ≡ count
        all_missing from zero = refl
        all_missing from (suc count) =
            (λ i. length (cond {A = List ℕ} (not (has_come (quiet i) from))
            (from ∷ filter (λ (segment : ℕ). not (has_come (arrivals later name) segment)) (range_with_len (from + 1) count))
            (filter (λ (segment : ℕ). not (has_come (arrivals later name) segment)) (range_with_len (from + 1) count))))
            ∙ ap suc (all_missing (from + 1) count)

        lacks : has_all s.limits later (as_built plan) ≡ false
        lacks =
            let many = all_missing 0 (length (spans s.limits (as_built plan))) in
            not_same (length (missing s.limits later (as_built plan))) 0 (λ none. absurd (omega (arith, none, many, some)))

        status : statuses.PendingTransport ≡ status_now s later (as_built plan)
        status =
            sym (λ i. unwrap_or (ends i) (cond (is_none (ends i) && is_shared (Some (filed i)) && not (was_granted later name)) statuses.PendingQuota
            (cond (lacks i) statuses.PendingReferencedBlobs statuses.PendingTransport)))

        coming : writing [] none_came ≡ coming_of s later (as_built plan)
        coming =
            sym (ap (λ (o : Option Status). cond (is_none o) (coming_by s later (as_built plan) (Some plan)) settled) ends
            ∙ by plan filed)
          where
            by : (each : Plan) → each ≡ plans.File n → coming_by s later (as_built plan) (Some each) ≡ writing [] none_came
            by (plans.File m) same =
                λ i. cond (lacks i) settled
                (writing [] (map (λ (segment : ℕ). has_come (quiet i) segment) (range_with_len 0 (length (spans s.limits (as_built plan))))))
            by plans.None same = absurd (cc same)
            by plans.Inline same = absurd (cc same)
            by (plans.Shared m) same = absurd (cc same)
            by plans.OutOfMemory same = absurd (cc same)
            by (plans.TooMany what) same = absurd (cc same)

pub new_entries : NewEntries
new_entries = record {
  broken = broken_entered;
  ready = λ s h later owner name kind parts plan now views own sized adds ends ready known ranges brought.
      ready_entered s h later owner name kind parts plan now views sized adds known ranges own ends ready brought;
  waits = λ s h later owner name kind parts n now views sized adds ends ungranted known ranges.
      waiting_entered s h later owner name kind parts (plans.Shared n) now views sized adds known ranges n refl ends ungranted;
  writes = λ s h later owner name kind parts n now views slots sized adds ends quiet known ranges some written.
      writing_entered s h later owner name kind parts (plans.File n) now views sized adds known ranges n slots refl ends quiet some written;
}
