-- The entry of a blob that is added views its items, and its sources were built.
use Rattle.std.proofs.Common.{◌≡◌, ℕ, ◌+◌, ◌<◌, ◌≤◌, ◌==◌, ◌||◌, false, cond, List, [], ◌∷◌}
use Rattle.std.proofs.Common.{◌++◌, length, map, refl, sym, ap, subst, ◌∙◌, Option, Some, None, arith}
use Rattle.std.specs.Prelude.{count_by, slice_get, IfSome, IsSomeAnd}
use Rattle.std.specs.List.{list_any, AllByRecursion}
use Rattle.std.proofs.lemmas.Bool.Decides.{nat_tests}
use Rattle.std.proofs.lemmas.List.{append-nil, length-append}
use Rattle.std.proofs.lemmas.List.Sums.{sum_by-cons}
use Rattle.std.proofs.lemmas.Option.{slice_get_within}
use Rattle.blob_words.specs.declared.number.PageNo.{PageNo}
use Rattle.blob_words.specs.declared.number.PieceNo.{PieceNo}
use Rattle.blob_words.specs.declared.number.RendererId.{RendererId}
use Rattle.blob_words.specs.declared.plan.Plan.{Plan}
use Rattle.blob_words.specs.declared.plan.Plan.TheVariants as plans
use Rattle.session_script.specs.declared.event.Part.{Part}
use Rattle.item_shares.specs.Shares.{item_at, share_at}
use Rattle.item_shares.specs.declared.item.Item.{Item}
use Rattle.item_shares.specs.declared.item.Item.TheVariants.{Memory, Paged, Reserved, File, Range}
use Rattle.item_shares.specs.declared.shares.Share.{Share}
use Rattle.blob_items.specs.declared.view.View.{View}
use Rattle.blob_entries.specs.Counts.{views_on}
use Rattle.blob_entries.specs.Holdings.{fixed_views, held_views, own_views}
use Rattle.blob_entries.specs.declared.entry.Entry.{Entry}
use Rattle.blob_entries.specs.declared.step.Step.{Step}
use Rattle.blob_entries.proofs.Counting.{on_append, on_cons}
use Rattle.blob_model.specs.Parts.{embedded, own_lengths}
use Rattle.segment_assembly.specs.Assembly.{bytes_at}
use Rattle.blob_model.proofs.Lists.{all_append, append_second, for_each}
use Rattle.page_files.specs.Files.{left_of, source_of}
use Rattle.page_files.specs.Items.{IsMemoryOf, IsPagedOf}
use Rattle.page_files.specs.declared.held.Held.{Held}
use Rattle.recent_items.specs.Recent.{is_there}
use Rattle.transport_plan.specs.Spans.{piece_count, piece_spans}
use Rattle.store_laws.specs.Items.{item_length}
use Rattle.store_laws.specs.PartLaws.{recipe_of}
use Rattle.store_laws.proofs.ViewHas.{append_first}
use Rattle.blob_store.specs.Adding.{arrival_of, new_blob, CanAdd, IsThere}
use Rattle.blob_store.specs.Blobs.{Comes, IsInside, IsThere as IsHere, Views}
use Rattle.store_laws.specs.Arrivals.{own_by, status_by}
use Rattle.blob_store.specs.Entering.{arrived}
use Rattle.store_laws.specs.NewItems.{inline_items, memory_items, own_items}
use Rattle.blob_store.specs.Laying.{first_piece, sending_by, slot_of}
use Rattle.blob_store.specs.NewBlobs.{EntryFits}
use Rattle.store_laws.specs.NewItems.{range_items}
use Rattle.blob_store.specs.Putting.{span}
use Rattle.blob_store.specs.Rows.{pins, sending_slots}
use Rattle.blob_store.specs.Seen.{parts_of}
use Rattle.blob_store.specs.Stored.{row_weights, IsHeld, IsInMemory, IsMemory, IsOfJob}
use Rattle.blob_store.specs.Whole.{Whole}
use Rattle.blob_store.specs.declared.building.laying.Laid.{Laid}
use Rattle.blob_store.specs.declared.parts.Parts.{Parts}
use Rattle.blob_store.specs.declared.row.Row.{Row}
use Rattle.blob_store.specs.declared.row.Sending.{Sending}
use Rattle.blob_store.proofs.AddedItems.{ranges_are, ranges_many, ranges_seen, waiting_none, Came, IsRange}
use Rattle.blob_store.proofs.AddedRecipe.{fixed_made, own_found, recipe_light, steps_known, weights_said}
use Rattle.blob_store.proofs.AddedRow.{pieces_count}
use Rattle.blob_store.proofs.Arriving.{fresh, held, seen, whole}

-- views of whole items lie inside them
all_inside : (shares : List (Option Share)) (views : List View) (items : List Item) → seen shares views ≡ map fresh items
    → map span views ≡ map whole items → AllByRecursion (IsInside shares) views
all_inside shares [] items is long = tt
all_inside shares (view ∷ views) [] is long = absurd (cc is)
all_inside shares (view ∷ views) (item ∷ items) is long = (
  subst (λ (found : Option Item). IsSomeAnd found (λ (one : Item). view.off + view.len ≤ item_length one)) (sym here) within,
  all_inside shares views items rest_held rest_long,
)
  where
    first : share_at shares view.slot ≡ fresh item
    first = cc is

    rest_held : seen shares views ≡ map fresh items
    rest_held = cc is

    first_long : span view ≡ whole item
    first_long = cc long

    rest_long : map span views ≡ map whole items
    rest_long = cc long

    here : item_at shares view.slot ≡ Some item
    here = held shares view.slot item first

    within : view.off + view.len ≤ item_length item
    within = let off = ap (λ (one : ℕ × ℕ). one.0) first_long in let len = ap (λ (one : ℕ × ℕ). one.1) first_long in omega (arith, off, len)

-- and are there, if the items are
all_here : (shares : List (Option Share)) (views : List View) (items : List Item) → seen shares views ≡ map fresh items → AllByRecursion IsHere items
    → AllByRecursion (λ (view : View). IfSome (item_at shares view.slot) IsHere) views
all_here shares [] items is here = tt
all_here shares (view ∷ views) [] is here = absurd (cc is)
all_here shares (view ∷ views) (item ∷ items) is here = (
  subst (λ (found : Option Item). IfSome found IsHere) (sym (held shares view.slot item first)) here.0,
  all_here shares views items rest_held here.1,
)
  where
    first : share_at shares view.slot ≡ fresh item
    first = cc is

    rest_held : seen shares views ≡ map fresh items
    rest_held = cc is

range_here : (item : Item) → IsRange item → IsHere item
range_here (Memory piece bytes) is = absurd is
range_here (Paged piece page off len) is = absurd is
range_here (Reserved piece len) is = absurd is
range_here (File name stamp off len) is = tt
range_here (Range slot off len) is = tt

memory_here : (number : ℕ) (pieces : List (List ℕ)) → AllByRecursion IsHere (memory_items number pieces)
memory_here number [] = tt
memory_here number (bytes ∷ pieces) = (tt, memory_here (number + 1) pieces)

-- a slot is among those of views as often as they are on it
slots_counted : (slot : ℕ) (views : List View) → count_by (λ (one : ℕ). one == slot) (map slot_of views) ≡ views_on slot views
slots_counted slot [] = refl
slots_counted slot (view ∷ views) =
    let left = sum_by-cons (λ (one : ℕ). cond (one == slot) 1 0) view.slot (map slot_of views) in
    omega (arith, left, on_cons slot view views, slots_counted slot views)

-- a piece that has no home yet was not used
unused_past : (shares : List (Option Share)) (homes : List ℕ) (piece : ℕ) (order : List (ℕ × ℕ)) → length homes ≤ piece
    → AllByRecursion (IsInMemory shares homes) order → is_there piece order ≡ false
unused_past shares homes piece [] past all = refl
unused_past shares homes piece (used ∷ order) past all = (λ i. other i || is_there piece order) ∙ unused_past shares homes piece order past all.1
  where
    within : (found : Option ℕ) → slice_get homes used.0 ≡ found → IsSomeAnd found (λ (slot : ℕ). IsSomeAnd (item_at shares slot) (IsMemory used))
        → used.0 < length homes
    within None at is = absurd is
    within (Some slot) at is = slice_get_within homes used.0 slot at

    other : (piece == used.0) ≡ false
    other = let below = within (slice_get homes used.0) refl all.0 in grind (arith, nat_tests)

-- nor has the job in flight such a piece
unmoved_past : (old : Parts) → Whole old → (piece : ℕ) → length old.homes ≤ piece → (list : List Held)
    → AllByRecursion (IsOfJob old.shares (source_of old.pages.job)) list → list_any (λ (held : Held). held.piece.0 == piece) list ≡ false
unmoved_past old whole piece past [] all = refl
unmoved_past old whole piece past (held ∷ list) all =
    (λ i. other i || list_any (λ (one : Held). one.piece.0 == piece) list) ∙ unmoved_past old whole piece past list all.1
  where
    in_memory : (found : Option Item) → IsSomeAnd found (IsMemoryOf held) → IfSome found (IsHeld old.homes old.pages.pages held.slot)
        → held.piece.0 < length old.homes
    in_memory None is at = absurd is
    in_memory (Some (Memory one bytes)) is at =
        subst (λ (number : PieceNo). number.0 < length old.homes) is.0 (slice_get_within old.homes one.0 held.slot at.home)
    in_memory (Some (Paged one page off len)) is at = absurd is
    in_memory (Some (Reserved one len)) is at = absurd is
    in_memory (Some (File file stamp off len)) is at = absurd is
    in_memory (Some (Range handle off len)) is at = absurd is

    in_page : (page : PageNo) (found : Option Item) → IsSomeAnd found (IsPagedOf page held) → IfSome found (IsHeld old.homes old.pages.pages held.slot)
        → held.piece.0 < length old.homes
    in_page page None is at = absurd is
    in_page page (Some (Memory one bytes)) is at = absurd is
    in_page page (Some (Paged one number off len)) is at =
        subst (λ (number : PieceNo). number.0 < length old.homes) is.0 (slice_get_within old.homes one.0 held.slot at.home)
    in_page page (Some (Reserved one len)) is at = absurd is
    in_page page (Some (File file stamp off len)) is at = absurd is
    in_page page (Some (Range handle off len)) is at = absurd is

    below : (source : Option PageNo) → IsOfJob old.shares source held → held.piece.0 < length old.homes
    below None is = in_memory (item_at old.shares held.slot) is (whole.stored.items held.slot)
    below (Some page) is = in_page page (item_at old.shares held.slot) is (whole.stored.items held.slot)

    other : (held.piece.0 == piece) ≡ false
    other = let less = below (source_of old.pages.job) all.0 in grind (arith, nat_tests)

module _ (renderer : RendererId) (name : ℕ) (kind : List ℕ) (plan : Plan) (line : List Part) (old now : Parts) (laid : Laid)
    (came : Came plan line old laid now.shares) where
  abbrev page : ℕ
  page = old.limits.page

  abbrev recipe : List Step
  recipe = recipe_of page (first_piece old) laid.ranges line

  abbrev row : Row
  row = (arrival_of plan line old laid).row

  abbrev entry : Entry
  entry = arrived renderer kind (arrival_of plan line old laid)

  ranges_fixed : fixed_views recipe ≡ laid.ranges
  ranges_fixed = fixed_made page (first_piece old) laid.ranges line (ranges_many plan line old laid now.shares came)

  held_so : held_views entry ≡ laid.ranges ++ own_views (own_by plan laid.pieces)
  held_so =
      append-nil (fixed_views recipe ++ own_views (own_by plan laid.pieces))
      ∙ ap (λ (list : List View). list ++ own_views (own_by plan laid.pieces)) ranges_fixed

  -- the views of the pieces, or the slots that are kept for them
  abbrev own_on : ℕ → Plan → Sending → ℕ
  own_on slot one sending = views_on slot (own_views (own_by one laid.pieces)) + count_by (λ (each : ℕ). each == slot) (sending_slots sending ++ [])

  own_counted : (slot : ℕ) → own_on slot plan laid.sending ≡ views_on slot laid.pieces
  own_counted slot =
      ap (own_on slot plan) came.sending
      ∙ by plan (λ n shared. ap (views_on slot) (waiting_none plan line old laid now.shares came n shared))
    where
      by : (one : Plan) → ((n : ℕ) → one ≡ plans.Shared n → views_on slot laid.pieces ≡ 0)
          → own_on slot one (sending_by one (map slot_of laid.pieces)) ≡ views_on slot laid.pieces
      by (plans.Shared n) none = sym (none n refl)
      by (plans.File n) none =
          let slots = ap (count_by (λ (each : ℕ). each == slot)) (append-nil (map slot_of laid.pieces)) in
          omega (arith, slots, slots_counted slot laid.pieces)
      by plans.None none = omega arith
      by plans.Inline none = omega arith
      by plans.OutOfMemory none = omega arith
      by (plans.TooMany what) none = omega arith

  viewed_so : (slot : ℕ) → views_on slot (held_views entry) + pins slot (row ∷ []) ≡ views_on slot (laid.ranges ++ laid.pieces)
  viewed_so slot =
      let held = ap (views_on slot) held_so in
      let split = on_append slot laid.ranges (own_views (own_by plan laid.pieces)) in
      let whole = on_append slot laid.ranges laid.pieces in
      omega (arith, held, split, whole, own_counted slot)

  apart_so : (slot : ℕ) → 0 < views_on slot (held_views entry) → pins slot (row ∷ []) ≡ 0
  apart_so slot some = let once = came.put.once slot in omega (arith, viewed_so slot, once, some)

  -- the own views, where there are some, are those of the pieces
  own_some : (P : List View → Type 0) → P [] → P laid.pieces → P (own_views (own_by plan laid.pieces))
  own_some P none some = by plan
    where
      by : (one : Plan) → P (own_views (own_by one laid.pieces))
      by (plans.Shared n) = none
      by (plans.File n) = none
      by plans.None = some
      by plans.Inline = some
      by plans.OutOfMemory = some
      by (plans.TooMany what) = some

  inline_here : seen now.shares laid.pieces ≡ map fresh (inline_items page (first_piece old) line)
      → AllByRecursion (λ (view : View). IfSome (item_at now.shares view.slot) IsHere) laid.pieces
  inline_here is =
      all_here now.shares laid.pieces (inline_items page (first_piece old) line) is
      (memory_here (first_piece old) (map (bytes_at (embedded line)) (piece_spans page 0 (own_lengths line))))

  -- the items of own pieces that came at once are there
  own_here : (one : Plan) → seen now.shares laid.pieces ≡ map fresh (own_items page (first_piece old) one line)
      → AllByRecursion (λ (view : View). IfSome (item_at now.shares view.slot) IsHere) (own_views (own_by one laid.pieces))
  own_here (plans.Shared n) is = tt
  own_here (plans.File n) is = tt
  own_here plans.None is = inline_here is
  own_here plans.Inline is = inline_here is
  own_here plans.OutOfMemory is = inline_here is
  own_here (plans.TooMany what) is = inline_here is

  views_so : AllByRecursion (IsThere old.registry) line → Views now.shares entry
  views_so there = record {
    inside = subst (AllByRecursion (IsInside now.shares)) (sym held_so)
        (all_append (IsInside now.shares) laid.ranges (own_views (own_by plan laid.pieces))
        (append_first (IsInside now.shares) laid.ranges laid.pieces all)
        (own_some (AllByRecursion (IsInside now.shares)) tt (append_second (IsInside now.shares) laid.ranges laid.pieces all)));
    there = subst (AllByRecursion (λ (view : View). IfSome (item_at now.shares view.slot) IsHere)) (sym held_so)
        (all_append (λ (view : View). IfSome (item_at now.shares view.slot) IsHere) laid.ranges (own_views (own_by plan laid.pieces))
        (all_here now.shares laid.ranges (range_items line) (ranges_seen plan line old laid now.shares came)
        (for_each IsRange IsHere (range_items line) range_here (ranges_are old.registry line there))) (own_here plan came.held));
  }
    where
      all : AllByRecursion (IsInside now.shares) (laid.ranges ++ laid.pieces)
      all =
          all_inside now.shares (laid.ranges ++ laid.pieces) (range_items line ++ own_items page (first_piece old) plan line) came.put.held came.put.whole

  comes_so : Comes entry.status entry.own laid.sending
  comes_so = subst (Comes entry.status entry.own) (sym came.sending) (by plan)
    where
      by : (one : Plan) → Comes (status_by one) (own_by one laid.pieces) (sending_by one (map slot_of laid.pieces))
      by (plans.Shared n) = (refl, refl)
      by (plans.File n) = (refl, refl)
      by plans.None = tt
      by plans.Inline = tt
      by plans.OutOfMemory = tt
      by (plans.TooMany what) = tt

  few_so : length (own_views (own_by plan laid.pieces)) ≤ piece_count page (own_lengths line)
  few_so = by plan (pieces_count plan line old laid now.shares came)
    where
      by : (one : Plan) → (((n : ℕ) → one ≡ plans.Shared n → ⊥) → length laid.pieces ≡ piece_count page (own_lengths line))
          → length (own_views (own_by one laid.pieces)) ≤ piece_count page (own_lengths line)
      by (plans.Shared n) many = omega arith
      by (plans.File n) many = omega arith
      by plans.None many = omega (arith, many (λ n is. cc is))
      by plans.Inline many = omega (arith, many (λ n is. cc is))
      by plans.OutOfMemory many = omega (arith, many (λ n is. cc is))
      by (plans.TooMany what) many = omega (arith, many (λ n is. cc is))

  pub added_entry : Whole old → CanAdd renderer name plan line old → EntryFits (new_blob renderer name kind plan line old laid) old now
  added_entry whole can = record {
    fresh = can.fresh;
    rooted = refl;
    viewed = viewed_so;
    apart = apart_so;
    views = views_so can.there;
    awaited = record {
      comes = comes_so;
      owned = λ pending. own_found page (first_piece old) laid.ranges line;
      unused = λ pending piece past within. (
        unused_past old.shares old.homes piece old.recent past whole.stored.order,
        λ none. unmoved_past old whole piece past (left_of old.pages.job) whole.stored.job,
      );
    };
    known = (can.fits, steps_known old.registry page (first_piece old) laid.ranges line can.there);
    weighed =
        let light = recipe_light old.registry (row_weights old.rows) (parts_of old) (weights_said old) (first_piece old) laid.ranges line
        (ranges_many plan line old laid now.shares came) can.there in
        let held = ap (λ (list : List View). length list) held_so in
        let sums = length-append laid.ranges (own_views (own_by plan laid.pieces)) in
        omega (arith, light, held, sums, few_so);
  }
