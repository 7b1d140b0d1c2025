-- The pieces of a new blob: their numbers, and their items by its plan.
use Rattle.std.proofs.Common.{◌≡◌, ℕ, zero, suc, ◌+◌, ◌<◌, ◌≤◌, ◌==◌, true, false, List, [], ◌∷◌, ◌++◌, map, take, drop, length, reverse, sum, refl, ap, subst, sym, ◌∙◌, Option, Some, None, arith}
use Rattle.std.specs.Prelude.{filter, filter_map, option_and_then, slice_get, IsSome, IsSomeAnd}
use Rattle.std.specs.Option.{option_map_or}
use Rattle.std.specs.List.{AllByRecursion, cons_option, range_with_len}
use Rattle.std.proofs.lemmas.List.{drop_more, length-drop, length-take-le}
use Rattle.std.proofs.lemmas.Option.{get_or_from_slice_get}
use Rattle.blob_words.specs.declared.plan.Plan.{Plan}
use Rattle.blob_words.specs.declared.plan.Plan.TheVariants as plans
use Rattle.session_script.specs.declared.event.Part.{Part}
use Rattle.session_script.specs.declared.event.Part.TheVariants.{Embedded, Asked, FileRange, BlobRange, HandleRange}
use Rattle.item_shares.specs.declared.item.Item.{Item}
use Rattle.item_shares.specs.declared.shares.Share.{Share}
use Rattle.item_shares.specs.Shares.{item_at}
use Rattle.blob_items.specs.declared.view.View.{View}
use Rattle.segment_assembly.specs.Assembly.{bytes_at}
use Rattle.transport_plan.specs.Spans.{IsEndToEnd, piece_spans}
use Rattle.transport_plan.proofs.SpanLemmas.{cover_sum, pieces_cover}
use Rattle.blob_model.specs.Builds.{Build, build_in, builds, sent}
use Rattle.blob_model.specs.History.{History}
use Rattle.blob_model.specs.Order.{named}
use Rattle.blob_model.specs.Pages.{Page, in_memory, lists, page_with, pages, place_by, planned_place, reserved}
use Rattle.blob_model.specs.Parts.{embedded, own_bytes, own_lengths}
use Rattle.blob_model.specs.Pieces.{Piece, numbered, pieces, pieces_from, planned_spans, spans_of}
use Rattle.blob_model.specs.Session.{Session, page_limit}
use Rattle.blob_model.specs.Standing.{grants_at_once, is_granted, was_granted}
use Rattle.blob_model.specs.Transport.{byte_by_plan, sent_byte}
use Rattle.blob_model.specs.Value.{value}
use Rattle.blob_model.proofs.Lists.{all_append, all_reverse, append_second, false_true, for_each, found_all, found_true, get_there, member_has, not_same, or_first}
use Rattle.blob_model.proofs.builds.PieceNumbers.{all_by_number, pieces_numbered}
use Rattle.blob_model.proofs.counts.Counts.{piece_low}
use Rattle.blob_model.proofs.memory.Builds.{found_last, pieces_named}
use Rattle.store_laws.specs.BuildLaws.{Adds, AreListed, AreThere, IsNew}
use Rattle.store_laws.specs.Cells.{piece_in}
use Rattle.store_laws.specs.EntryLaws.{AreBrought, all_lengths}
use Rattle.store_laws.specs.Items.{Facts, item_length, piece_at, piece_by, piece_of_item}
use Rattle.store_laws.specs.NewItems.{inline_items, memory_items, part_items, range_items, reserved_items}
use Rattle.store_laws.specs.PartLaws.{AreFound}
use Rattle.store_laws.specs.Uses.{facts_of, own_pieces}
use Rattle.store_laws.proofs.Entering.{all_mine, firsts_none, lengths_all, pieces_then}

-- ---- bytes of spans

-- the bytes at the places of a span are those of the span
span_bytes : (bytes : List ℕ) (from len : ℕ) → from + len ≤ length bytes
    → filter_map (λ (index : ℕ). slice_get bytes index) (range_with_len from len) ≡ bytes_at bytes (from, len)
span_bytes bytes from zero within = refl
span_bytes bytes from (suc len) within =
    let there = get_there bytes from (omega (arith, within)) in
    let rest = span_bytes bytes (from + 1) len (omega (arith, within)) in
    (λ i. cons_option (there.1 i) (rest i))
    ∙ sym (ap (take (suc len)) (drop_more bytes from there.0 (omega (arith, within))
    ∙ ap (λ (byte : ℕ). byte ∷ drop (from + 1) bytes) (get_or_from_slice_get bytes from there.0 there.0 there.1)))

-- spans that stand end to end end where the last one does
ends_after : (from to : ℕ) (spans : List (ℕ × ℕ)) → IsEndToEnd from spans to → from ≤ to
ends_after from to spans ends = let sums = cover_sum spans from to ends in omega (arith, sums)

-- ---- the pieces of a new blob

module _ (s : Session) (h later : History) (new : Build) (adds : Adds s h later new) where
  abbrev page : ℕ
  page = page_limit s

  abbrev first : ℕ
  first = length (pieces page h)

  abbrev all : List Piece
  all = pieces page later

  abbrev facts : Facts
  facts = facts_of s later

  pub pieces_split : all ≡ pieces page h ++ numbered new.name first (spans_of page new)
  pieces_split =
      let same : 0 + first ≡ first = omega arith in
      ap (pieces_from page 0) adds.blobs ∙ pieces_then page 0 (builds page h) new
      ∙ ap (λ (n : ℕ). pieces page h ++ numbered new.name n (spans_of page new)) same

  pub new_found : AreFound all (numbered new.name first (spans_of page new))
  new_found =
      append_second (λ (piece : Piece). piece_in all piece.number ≡ Some piece) (pieces page h) (numbered new.name first (spans_of page new))
      (subst (λ (list : List Piece). AreFound all list) pieces_split (all_by_number 0 all (pieces_numbered page 0 (builds page later))))

  -- they are numbered from the first new number on
  pub own_numbers : own_pieces page later new.name ≡ map (λ (piece : Piece). piece.number) (numbered new.name first (spans_of page new))
  own_numbers =
      ap (λ (list : List Piece). map (λ (piece : Piece). piece.number) (filter (λ (piece : Piece). piece.blob == new.name) list)) pieces_split
      ∙ ap (map (λ (piece : Piece). piece.number))
      (firsts_none new.name (pieces page h)
      (for_each (λ (piece : Piece). named piece.blob (builds page h) ≡ true) (λ (piece : Piece). (piece.blob == new.name) ≡ false) (pieces page h)
      (λ piece member. not_same piece.blob new.name (λ same. false_true
      (sym adds.fresh ∙ subst (λ (n : ℕ). named n (builds page h) ≡ true) same member)))
      (pieces_named page 0 (builds page h))) (numbered new.name first (spans_of page new)))
      ∙ all_mine new.name first (spans_of page new)

  built_last : build_in (builds page later) new.name ≡ Some new
  built_last = ap (λ (list : List Build). build_in list new.name) adds.blobs ∙ found_last (builds page h) new adds.fresh

  -- ---- items of ranges

  ranges_of : (part : Part) → AllByRecursion (IsNew all facts first) (part_items part)
  ranges_of (Embedded bytes) = tt
  ranges_of (Asked len) = tt
  ranges_of (FileRange name off zero stamp) = tt
  ranges_of (FileRange name off (suc len) stamp) = (record { placed = omega arith; unpaged = tt; later = tt }, tt)
  ranges_of (BlobRange b off len) = tt
  ranges_of (HandleRange k off zero) = tt
  ranges_of (HandleRange k off (suc len)) = (record { placed = omega arith; unpaged = tt; later = tt }, tt)

  -- a range of a file or of a data handle is placed, whatever the plan
  pub ranges_new : (line : List Part) → AllByRecursion (IsNew all facts first) (range_items line)
  ranges_new [] = tt
  ranges_new (part ∷ line) = all_append (IsNew all facts first) (part_items part) (range_items line) (ranges_of part) (ranges_new line)

  -- ---- what the history says of a new piece

  module _ (listed : AreListed page h) where
    -- no page file lists it
    unlisted : (number : ℕ) → first ≤ number → page_with (pages later) number ≡ None
    unlisted number behind = ap (λ (list : List Page). page_with list number) adds.written ∙ go (page_with (pages h) number) refl
      where
        low : (o : Option Piece) → piece_in (pieces page h) number ≡ o → IsSome o → ⊥
        low None at is = false_true is
        low (Some one) at is = let below = piece_low s h number one at in absurd (omega (arith, below, behind))

        go : (o : Option Page) → page_with (pages h) number ≡ o → o ≡ None
        go None at = refl
        go (Some file) at =
            let there = found_all (λ (each : Page). AreThere (pieces page h) each.pieces) (λ (each : Page). lists each number) (reverse (pages h)) file
            (all_reverse (λ (each : Page). AreThere (pieces page h) each.pieces) (pages h) listed.in_pages) at in
            let member = found_true (λ (each : Page). lists each number) (reverse (pages h)) file at in
            absurd (low (piece_in (pieces page h) number) refl
            (member_has (λ (n : ℕ). IsSome (piece_in (pieces page h) n)) file.pieces number there member))

    abbrev piece_at_span : ℕ → ℕ × ℕ → Piece
    piece_at_span number span = record { number = number; blob = new.name; from = span.0; len = span.1 }

    module _ (plan : Plan) (planned : new.plan ≡ Some plan) where
      new_granted : grants_at_once plan ≡ true → (number : ℕ) (span : ℕ × ℕ) → facts.granted (piece_at_span number span) ≡ true
      new_granted at_once number span =
          ap (λ (o : Option Build). option_map_or (is_granted later) o false) built_last
          ∙ or_first (option_map_or grants_at_once new.plan false) (was_granted later new.name)
          (ap (λ (o : Option Plan). option_map_or grants_at_once o false) planned ∙ at_once)

      new_place : (number : ℕ) (span : ℕ × ℕ) → first ≤ number → facts.place (piece_at_span number span) ≡ planned_place (Some plan)
      new_place number span behind =
          (λ i. place_by (unlisted number behind i) (built_last i)) ∙ ap planned_place planned

      own_spans : spans_of page new ≡ piece_spans page 0 (own_lengths new.parts)
      own_spans = ap (planned_spans page new) planned

    -- ---- pieces in page files

    reserved_from : (n number : ℕ) (spans : List (ℕ × ℕ)) → new.plan ≡ Some (plans.File n) → first ≤ number → AreFound all (numbered new.name number spans)
        → AllByRecursion (IsNew all facts first) (reserved_items number (map (λ (span : ℕ × ℕ). span.1) spans))
    reserved_from n number [] planned behind found_them = tt
    reserved_from n number (span ∷ spans) planned behind found_them = (
      record {
        placed = subst (λ (o : Option Piece).
            IsSomeAnd o (λ (one : Piece). (facts.granted one ≡ true) × (facts.place one ≡ reserved) × (span.1 ≡ one.len))) (sym found_them.0)
            (new_granted (plans.File n) planned refl number span, new_place (plans.File n) planned number span behind, refl);
        unpaged = tt;
        later = behind;
      },
      reserved_from n (number + 1) spans planned (omega (arith, behind)) found_them.1,
    )

    pub reserved_new : (n : ℕ) → new.plan ≡ Some (plans.File n)
        → AllByRecursion (IsNew all facts first) (reserved_items first (all_lengths page new.parts))
    reserved_new n planned =
        subst (λ (lengths : List ℕ). AllByRecursion (IsNew all facts first) (reserved_items first lengths)) (lengths_all page 0 (own_lengths new.parts))
        (reserved_from n first (piece_spans page 0 (own_lengths new.parts)) planned (omega arith)
        (subst (λ (spans : List (ℕ × ℕ)). AreFound all (numbered new.name first spans)) (own_spans (plans.File n) planned) new_found))

    -- ---- pieces in memory

    new_byte : new.plan ≡ Some plans.Inline → (index : ℕ) → value s later (sent new.name index) ≡ slice_get (embedded new.parts) index
    new_byte planned index =
        ap (λ (o : Option Build). option_and_then (λ (build : Build). sent_byte s.limits later build index) o) built_last
        ∙ ap (byte_by_plan s.limits later new index) planned

    memory_from : (number from : ℕ) (spans : List (ℕ × ℕ)) → new.plan ≡ Some plans.Inline → first ≤ number
        → IsEndToEnd from spans (length (embedded new.parts)) → AreFound all (numbered new.name number spans)
        → AllByRecursion (IsNew all facts first) (memory_items number (map (bytes_at (embedded new.parts)) spans))
    memory_from number from [] planned behind ends found_them = tt
    memory_from number from (span ∷ spans) planned behind ends found_them =
        let begins = ends.0 in
        let rest = ends_after (from + span.1) (length (embedded new.parts)) spans ends.2 in
        let within : span.0 + span.1 ≤ length (embedded new.parts) = omega (arith, begins, rest) in (
          record {
            placed = subst (λ (o : Option Piece). IsSomeAnd o
                (λ (one : Piece). (facts.granted one ≡ true) × (facts.place one ≡ in_memory) × (bytes_at (embedded new.parts) span ≡ facts.bytes one)
                × (length (bytes_at (embedded new.parts) span) ≡ one.len))) (sym found_them.0) (
                  new_granted plans.Inline planned refl number span,
                  new_place plans.Inline planned number span behind,
                  sym ((λ i. filter_map (λ (index : ℕ). new_byte planned index i) (range_with_len span.0 span.1))
                      ∙ span_bytes (embedded new.parts) span.0 span.1 within),
                  length-take-le span.1 (drop span.0 (embedded new.parts)) (omega (arith, within, length-drop span.0 (embedded new.parts))),
                );
            unpaged = tt;
            later = behind;
          },
          memory_from (number + 1) (from + span.1) spans planned (omega (arith, behind)) ends.2 found_them.1,
        )

    pub inline_new : 0 < page → new.plan ≡ Some plans.Inline → length (embedded new.parts) ≡ own_bytes new.parts
        → AllByRecursion (IsNew all facts first) (inline_items page first new.parts)
    inline_new sized planned whole =
        let same : 0 + sum (own_lengths new.parts) ≡ length (embedded new.parts) = omega (arith, whole) in
        memory_from first 0 (piece_spans page 0 (own_lengths new.parts)) planned (omega arith)
        (subst (λ (to : ℕ). IsEndToEnd 0 (piece_spans page 0 (own_lengths new.parts)) to) same (pieces_cover page (own_lengths new.parts) 0 sized))
        (subst (λ (spans : List (ℕ × ℕ)). AreFound all (numbered new.name first spans)) (own_spans plans.Inline planned) new_found)

  -- a blob without own bytes has no piece
  pub none_new : 0 < page → own_bytes new.parts ≡ 0 → AllByRecursion (IsNew all facts first) (inline_items page first new.parts)
  none_new sized none =
      let same : 0 + sum (own_lengths new.parts) ≡ 0 = omega (arith, none) in
      go (piece_spans page 0 (own_lengths new.parts))
      (subst (λ (to : ℕ). IsEndToEnd 0 (piece_spans page 0 (own_lengths new.parts)) to) same (pieces_cover page (own_lengths new.parts) 0 sized))
    where
      go : (spans : List (ℕ × ℕ)) → IsEndToEnd 0 spans 0
          → AllByRecursion (IsNew all facts first) (memory_items first (map (bytes_at (embedded new.parts)) spans))
      go [] ends = tt
      go (span ∷ spans) ends =
          let some = ends.1 in
          let rest = ends_after (0 + span.1) 0 spans ends.2 in
          absurd (omega (arith, some, rest))

  -- ---- the slots of its pieces

  module _ (now : List (Option Share)) where
    slots_from : (number : ℕ) (spans : List (ℕ × ℕ)) (own : List View) → AreBrought now number (map (λ (span : ℕ × ℕ). span.1) spans) own
        → map (piece_at now) (map (λ (view : View). view.slot) own)
        ≡ map (λ (each : ℕ). Some each) (map (λ (piece : Piece). piece.number) (numbered new.name number spans))
    slots_from number [] [] brought = refl
    slots_from number [] (view ∷ own) brought = absurd brought
    slots_from number (span ∷ spans) [] brought = absurd brought
    slots_from number (span ∷ spans) (view ∷ own) brought =
        λ i. of_item (item_at now view.slot) brought.1 i ∷ slots_from (number + 1) spans own brought.2 i
      where
        of_item : (o : Option Item) → IsSomeAnd o (λ (item : Item). (piece_of_item item ≡ Some number) × (item_length item ≡ span.1))
            → piece_by o ≡ Some number
        of_item None is = absurd is
        of_item (Some item) is = is.0

    -- the slots of the views hold the own pieces
    pub slots_hold : (plan : Plan) → new.plan ≡ Some plan → (own : List View) → AreBrought now first (all_lengths page new.parts) own
        → map (piece_at now) (map (λ (view : View). view.slot) own) ≡ map (λ (each : ℕ). Some each) (own_pieces page later new.name)
    slots_hold plan planned own brought =
        slots_from first (piece_spans page 0 (own_lengths new.parts)) own
        (subst (λ (lengths : List ℕ). AreBrought now first lengths own) (sym (lengths_all page 0 (own_lengths new.parts))) brought)
        ∙ ap (λ (spans : List (ℕ × ℕ)). map (λ (each : ℕ). Some each) (map (λ (piece : Piece). piece.number) (numbered new.name first spans)))
        (sym (ap (planned_spans page new) planned))
        ∙ ap (map (λ (each : ℕ). Some each)) (sym own_numbers)
