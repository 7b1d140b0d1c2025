-- The row of a blob that is added goes on where the last one ended.
use Rattle.std.proofs.Common.{◌≡◌, ℕ, suc, ◌+◌, ◌-◌, ◌<◌, ◌≤◌, ◌||◌, Bool, true, false, List, [], ◌∷◌, ◌++◌, length, map, replicate, refl, sym, ap, subst, ◌∙◌, Option, Some, None, arith}
use Rattle.std.specs.Prelude.{sum_by, IfSome, IsSomeAnd}
use Rattle.std.specs.Int.{div_ceil}
use Rattle.std.specs.List.{AllByRecursion}
use Rattle.std.specs.Option.{option_map}
use Rattle.std.proofs.lemmas.Bool.Decides.{nat_tests}
use Rattle.std.proofs.lemmas.List.{length-map, length-replicate}
use Rattle.std.proofs.lemmas.List.Sums.{sum_by-append}
use Rattle.std.proofs.lemmas.Option.{slice_get_within}
use Rattle.blob_words.specs.declared.number.RendererId.{RendererId}
use Rattle.blob_words.specs.declared.plan.Plan.{Plan}
use Rattle.blob_words.specs.declared.plan.Plan.TheVariants as plans
use Rattle.session_script.specs.declared.event.Part.{Part}
use Rattle.item_shares.specs.Shares.{item_at, share_at}
use Rattle.item_shares.specs.declared.item.Item.{Item}
use Rattle.item_shares.specs.declared.item.Item.TheVariants.{Memory, Paged, Reserved, File, Range}
use Rattle.item_shares.specs.declared.shares.Share.{Share}
use Rattle.blob_items.specs.declared.view.View.{View}
use Rattle.blob_model.specs.Parts.{embedded, own_bytes, own_lengths}
use Rattle.blob_model.proofs.kept.NewBlobs.{embedded_within}
use Rattle.page_files.specs.declared.page.Page.{Page}
use Rattle.transport_plan.specs.Plan.{FitsPlan}
use Rattle.transport_plan.specs.Spans.{piece_count}
use Rattle.store_laws.specs.Deciding.{input_in}
use Rattle.store_laws.specs.EntryLaws.{all_lengths, AreBrought}
use Rattle.store_laws.specs.Items.{holds_piece, is_number, piece_of_item, piece_of_share}
use Rattle.store_laws.specs.Weights.{piece_weight}
use Rattle.blob_store.specs.Adding.{arrival_of, new_blob, CanAdd}
use Rattle.store_laws.specs.Arrivals.{lengths_by}
use Rattle.store_laws.specs.NewItems.{own_items}
use Rattle.blob_store.specs.Laying.{first_piece, homes_by, sending_by, slot_of}
use Rattle.blob_store.specs.NewBlobs.{RowFits}
use Rattle.store_laws.specs.NewItems.{range_items, reserved_items}
use Rattle.blob_store.specs.Putting.{is_seen}
use Rattle.blob_store.specs.Rows.{gathered_bytes, gathered_pieces, pieces_to_come, pieces_waiting}
use Rattle.blob_store.specs.Seen.{parts_of}
use Rattle.blob_store.specs.Stored.{AreOnTheirWay, IsHeld, IsOnItsWay, IsSendingOf}
use Rattle.blob_store.specs.Whole.{Whole}
use Rattle.blob_store.specs.declared.building.laying.Laid.{Laid}
use Rattle.blob_store.specs.declared.parts.Parts.{Parts}
use Rattle.blob_store.specs.declared.row.Row.{Row}
use Rattle.blob_store.specs.declared.row.Sending.{Sending}
use Rattle.blob_store.specs.declared.row.Sending.TheVariants.{Settled, Waiting, Writing}
use Rattle.blob_store.proofs.AddedItems.{numbered_many, own_numbered, pieces_many, range_pieceless, ranges_are, ranges_no_pieces, waiting_none, Came, IsRange}
use Rattle.blob_store.proofs.Arriving.{fresh, seen, seen_item}
use Rattle.blob_store.proofs.OwnPieces.{many_brought}
use Rattle.blob_store.proofs.Staying.{items_still}

-- ---- pieces below a number

abbrev IsBelow : ℕ → Item → Type 0
IsBelow last item = IfSome (piece_of_item item) (λ (number : ℕ). number < last)

-- no slot holds a later piece than those
none_held : (number last : ℕ) (shares : List (Option Share)) → last ≤ number → ((slot : ℕ) → IfSome (item_at shares slot) (IsBelow last))
    → holds_piece shares number ≡ false
none_held number last [] past below = refl
none_held number last (held ∷ shares) past below = by (one held (below 0)) (none_held number last shares past (λ slot. below (suc slot)))
  where
    by : is_number number (piece_of_share held) ≡ false → holds_piece shares number ≡ false → holds_piece (held ∷ shares) number ≡ false
    by first rest = (λ i. first i || holds_piece shares number) ∙ rest

    other : (found : Option ℕ) → IfSome found (λ (one : ℕ). one < last) → is_number number found ≡ false
    other None below = refl
    other (Some one) below = grind (arith, nat_tests)

    one : (held : Option Share) → IfSome (option_map (λ (share : Share). share.item) held) (IsBelow last) → is_number number (piece_of_share held) ≡ false
    one None below = refl
    one (Some share) below = other (piece_of_item share.item) below

held_below : (homes : List ℕ) (pages : List Page) (slot : ℕ) (item : Item) → IsHeld homes pages slot item → IsBelow (length homes) item
held_below homes pages slot (Memory piece bytes) is = slice_get_within homes piece.0 slot is.home
held_below homes pages slot (Paged piece page off len) is = slice_get_within homes piece.0 slot is.home
held_below homes pages slot (Reserved piece len) is = slice_get_within homes piece.0 slot is.home
held_below homes pages slot (File name stamp off len) is = tt
held_below homes pages slot (Range handle off len) is = tt

range_below : (last : ℕ) (item : Item) → IsRange item → IsBelow last item
range_below last item is = subst (λ (found : Option ℕ). IfSome found (λ (number : ℕ). number < last)) (sym (range_pieceless item is)) tt

-- ---- pieces on their way

on_their_way : (shares : List (Option Share)) (number : ℕ) (lengths : List ℕ) (views : List View)
    → seen shares views ≡ map fresh (reserved_items number lengths)
    → AreOnTheirWay shares number lengths (map slot_of views) (replicate (length views) false)
on_their_way shares number [] [] is = tt
on_their_way shares number [] (view ∷ views) is = absurd (cc is)
on_their_way shares number (len ∷ lengths) [] is = absurd (cc is)
on_their_way shares number (len ∷ lengths) (view ∷ views) is =
    (subst (λ (one : Option Item). IsSomeAnd one reserved) (sym here) (refl, refl), on_their_way shares (number + 1) lengths views rest)
  where
    first : share_at shares view.slot ≡ fresh (Reserved (record { 0 = number }) len)
    first = cc is

    rest : seen shares views ≡ map fresh (reserved_items (number + 1) lengths)
    rest = cc is

    here : item_at shares view.slot ≡ Some (Reserved (record { 0 = number }) len)
    here = ap (λ (one : Option Share). option_map (λ (share : Share). share.item) one) first

    reserved : Item → Type 0
    reserved = IsOnItsWay number len false

-- ---- the row

module _ (plan : Plan) (line : List Part) (old : Parts) (laid : Laid) (shares : List (Option Share)) (came : Came plan line old laid shares) where
  abbrev page : ℕ
  page = old.limits.page

  abbrev count : ℕ
  count = piece_count page (own_lengths line)

  abbrev homes : List ℕ
  homes = homes_by page plan line (map slot_of laid.pieces)

  abbrev row : Row
  row = (arrival_of plan line old laid).row

  pub pieces_count : ((n : ℕ) → plan ≡ plans.Shared n → ⊥) → length laid.pieces ≡ count
  pieces_count other =
      many_brought page line (first_piece old) shares laid.pieces
      (subst (λ (lengths : List ℕ). AreBrought shares (first_piece old) lengths laid.pieces) (by plan other) came.pieces)
    where
      by : (one : Plan) → ((n : ℕ) → one ≡ plans.Shared n → ⊥) → lengths_by page one line ≡ all_lengths page line
      by (plans.Shared n) other = absurd (other n refl)
      by one other = refl

  pub homes_many : length homes ≡ count
  homes_many = by plan (λ other. length-map laid.pieces slot_of ∙ pieces_count other)
    where
      by : (one : Plan) → (((n : ℕ) → one ≡ plans.Shared n → ⊥) → length (map slot_of laid.pieces) ≡ count)
          → length (homes_by page one line (map slot_of laid.pieces)) ≡ count
      by (plans.Shared n) many = length-replicate count 0
      by plans.None many = many (λ n is. cc is)
      by plans.Inline many = many (λ n is. cc is)
      by (plans.File n) many = many (λ n is. cc is)
      by plans.OutOfMemory many = many (λ n is. cc is)
      by (plans.TooMany what) many = many (λ n is. cc is)

  -- each piece is an item or waits
  enough_so : (sending : Sending) → sending ≡ sending_by plan (map slot_of laid.pieces) → AllByRecursion IsRange (range_items line)
      → sum_by piece_weight (range_items line ++ own_items page (first_piece old) plan line) + pieces_waiting page (own_lengths line) sending ≤ length homes
  enough_so sending is ranges =
      let sums = sum_by-append piece_weight (range_items line) (own_items page (first_piece old) plan line) in
      let none = ranges_no_pieces (range_items line) ranges in
      let own = numbered_many (first_piece old) (own_items page (first_piece old) plan line) (own_numbered page (first_piece old) plan line) in
      let many = pieces_many plan line old laid shares came in
      let wait = ap (pieces_waiting page (own_lengths line)) is in
      let so = by plan (λ n shared. ap (λ (list : List View). length list) (waiting_none plan line old laid shares came n shared))
      (λ other. pieces_count other) in
      omega (arith, sums, none, own, many, wait, so, homes_many)
    where
      by : (one : Plan) → ((n : ℕ) → one ≡ plans.Shared n → length laid.pieces ≡ 0) → (((n : ℕ) → one ≡ plans.Shared n → ⊥) → length laid.pieces ≡ count)
          → length laid.pieces + pieces_waiting page (own_lengths line) (sending_by one (map slot_of laid.pieces)) ≡ count
      by (plans.Shared n) none many = omega (arith, none n refl)
      by (plans.File n) none many = omega (arith, many (λ n is. cc is))
      by plans.None none many = omega (arith, many (λ n is. cc is))
      by plans.Inline none many = omega (arith, many (λ n is. cc is))
      by plans.OutOfMemory none many = omega (arith, many (λ n is. cc is))
      by (plans.TooMany what) none many = omega (arith, many (λ n is. cc is))

  -- pieces that wait are no items
  module _ (items : (slot : ℕ) → IfSome (item_at old.shares slot) (IsHeld old.homes old.pages.pages slot)) (ranges : AllByRecursion IsRange (range_items line))
    where
      none_to_come : (n : ℕ) → plan ≡ plans.Shared n → (number : ℕ) → length old.homes ≤ number → holds_piece shares number ≡ false
      none_to_come n shared number past =
          none_held number (length old.homes) shares past
          (λ slot. items_still old.shares shares (range_items line ++ own_items page (first_piece old) plan line) (laid.ranges ++ laid.pieces) came.put
          (IsHeld old.homes old.pages.pages slot) (IsBelow (length old.homes)) slot (held_below old.homes old.pages.pages slot) (items slot) (new slot))
        where
          all : AllByRecursion (IsBelow (length old.homes)) (range_items line ++ own_items page (first_piece old) plan line)
          all =
              subst (λ (one : Plan). AllByRecursion (IsBelow (length old.homes)) (range_items line ++ own_items page (first_piece old) one line)) (sym shared)
              (below (range_items line) ranges)
            where
              below : (list : List Item) → AllByRecursion IsRange list → AllByRecursion (IsBelow (length old.homes)) (list ++ [])
              below [] are = tt
              below (item ∷ list) are = (range_below (length old.homes) item are.0, below list are.1)

          new : (slot : ℕ) → is_seen slot (laid.ranges ++ laid.pieces) ≡ true → IfSome (item_at shares slot) (IsBelow (length old.homes))
          new slot at =
              seen_item (IsBelow (length old.homes)) shares slot (laid.ranges ++ laid.pieces) (range_items line ++ own_items page (first_piece old) plan line)
              came.put.held all at

      unheld_so : (sending : Sending) → sending ≡ sending_by plan (map slot_of laid.pieces) → (number : ℕ) → length old.homes ≤ number
          → number < length old.homes + pieces_to_come page (own_lengths line) sending → holds_piece shares number ≡ false
      unheld_so sending is number past within = by plan (λ n shared. none_to_come n shared number past) (ap (pieces_to_come page (own_lengths line)) is)
        where
          by : (one : Plan) → ((n : ℕ) → one ≡ plans.Shared n → holds_piece shares number ≡ false)
              → pieces_to_come page (own_lengths line) sending ≡ pieces_to_come page (own_lengths line) (sending_by one (map slot_of laid.pieces))
              → holds_piece shares number ≡ false
          by (plans.Shared n) none same = none n refl
          by (plans.File n) none same = absurd (omega (arith, same, within, past))
          by plans.None none same = absurd (omega (arith, same, within, past))
          by plans.Inline none same = absurd (omega (arith, same, within, past))
          by plans.OutOfMemory none same = absurd (omega (arith, same, within, past))
          by (plans.TooMany what) none same = absurd (omega (arith, same, within, past))

  -- how the own bytes come
  planned_so : FitsPlan (input_in (parts_of old) line) plan → (n : ℕ) → plan ≡ plans.Shared n
      → plan ≡ plans.Shared (div_ceil (own_bytes line) old.limits.segment)
  planned_so planned n shared =
      let told : FitsPlan (input_in (parts_of old) line) (plans.Shared n) =
      subst (λ (one : Plan). FitsPlan (input_in (parts_of old) line) one) shared planned in
      let own : length (embedded line) + (own_bytes line - length (embedded line)) ≡ own_bytes line = omega (arith, embedded_within line) in
      shared ∙ ap (λ (many : ℕ). plans.Shared many) (told.0 ∙ ap (λ (bytes : ℕ). div_ceil bytes old.limits.segment) own)

  sending_so : FitsPlan (input_in (parts_of old) line) plan → IsSendingOf old.limits shares row (sending_by plan (map slot_of laid.pieces))
  sending_so planned = by plan (planned_so planned) came.held
    where
      by : (one : Plan) → ((n : ℕ) → one ≡ plans.Shared n → plan ≡ plans.Shared (div_ceil (own_bytes line) old.limits.segment))
          → seen shares laid.pieces ≡ map fresh (own_items page (first_piece old) one line)
          → IsSendingOf old.limits shares row (sending_by one (map slot_of laid.pieces))
      by (plans.Shared n) so is = ap (λ (one : Plan). Some one) (so n refl)
      by (plans.File n) so is =
          subst (λ (many : ℕ). AreOnTheirWay shares (first_piece old) (all_lengths page line) (map slot_of laid.pieces) (replicate many false))
          (sym (length-map laid.pieces slot_of)) (on_their_way shares (first_piece old) (all_lengths page line) laid.pieces is)
      by plans.None so is = tt
      by plans.Inline so is = tt
      by plans.OutOfMemory so is = tt
      by (plans.TooMany what) so is = tt

  own_so : (sending : Sending) → sending ≡ sending_by plan (map slot_of laid.pieces) → pieces_to_come page (own_lengths line) sending ≤ count
  own_so sending is = let few = by plan in let same = ap (pieces_to_come page (own_lengths line)) is in omega (arith, few, same)
    where
      by : (one : Plan) → pieces_to_come page (own_lengths line) (sending_by one (map slot_of laid.pieces)) ≤ count
      by (plans.Shared n) = omega arith
      by (plans.File n) = omega arith
      by plans.None = omega arith
      by plans.Inline = omega arith
      by plans.OutOfMemory = omega arith
      by (plans.TooMany what) = omega arith

  -- nothing is gathered
  none_gathered : (many : Sending → ℕ) → many Settled ≡ 0 → many Waiting ≡ 0 → ((slots : List ℕ) (here : List Bool) → many (Writing slots here) ≡ 0)
      → many laid.sending ≡ 0
  none_gathered many settled waiting writing = ap many came.sending ∙ by plan
    where
      by : (one : Plan) → many (sending_by one (map slot_of laid.pieces)) ≡ 0
      by (plans.Shared n) = waiting
      by (plans.File n) = writing (map slot_of laid.pieces) (replicate (length (map slot_of laid.pieces)) false)
      by plans.None = settled
      by plans.Inline = settled
      by plans.OutOfMemory = settled
      by (plans.TooMany what) = settled

module _ (renderer : RendererId) (name : ℕ) (kind : List ℕ) (plan : Plan) (line : List Part) (old now : Parts) (laid : Laid) where
  pub added_row : Whole old → CanAdd renderer name plan line old → Came plan line old laid now.shares
      → RowFits (new_blob renderer name kind plan line old laid) old now
  added_row whole can came = record {
    first = refl;
    many = sym (homes_many plan line old laid now.shares came);
    room = let many = homes_many plan line old laid now.shares came in omega (arith, many, can.pieces);
    light = can.light;
    enough = enough_so plan line old laid now.shares came laid.sending came.sending ranges;
    stored = record {
      own = own_so plan line old laid now.shares came laid.sending came.sending;
      unheld = unheld_so plan line old laid now.shares came whole.stored.items ranges laid.sending came.sending;
      sending = subst (IsSendingOf old.limits now.shares (arrival_of plan line old laid).row) (sym came.sending)
          (sending_so plan line old laid now.shares came can.planned);
    };
    no_bytes = none_gathered plan line old laid now.shares came gathered_bytes refl refl (λ slots here. refl);
    no_pieces = none_gathered plan line old laid now.shares came gathered_pieces refl refl (λ slots here. refl);
  }
    where
      ranges : AllByRecursion IsRange (range_items line)
      ranges = ranges_are old.registry line can.there
