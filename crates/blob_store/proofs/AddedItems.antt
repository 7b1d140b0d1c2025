-- The items of a blob that is added are of pieces and data handles that no item was of, and each piece has its home.
use Rattle.std.proofs.Common.{◌≡◌, ℕ, zero, suc, ◌+◌, ◌≤◌, ◌==◌, ◌||◌, Bool, true, false, cond, List, [], ◌∷◌, ◌++◌, length, map, refl, sym, ap, subst, ◌∙◌, Option, Some, None, arith}
use Rattle.std.specs.Prelude.{◌^◌, ◌-◌, slice_get, sum_by, IfSome}
use Rattle.std.specs.List.{AllByRecursion}
use Rattle.std.proofs.lemmas.Bool.{eqb-true}
use Rattle.std.proofs.lemmas.List.{append_assoc, length-append, length-map}
use Rattle.std.proofs.lemmas.List.Folds.{list_any-append}
use Rattle.std.proofs.lemmas.List.Sums.{sum_by-append, sum_by-cons}
use Rattle.blob_words.specs.declared.number.RendererId.{RendererId}
use Rattle.blob_words.specs.declared.plan.Plan.{Plan}
use Rattle.blob_words.specs.declared.plan.Plan.TheVariants as plans
use Rattle.session_script.specs.declared.event.Part.{Part}
use Rattle.session_script.specs.declared.event.Part.TheVariants.{Embedded, Asked, FileRange, BlobRange, HandleRange}
use Rattle.item_shares.specs.Shares.{item_at, share_at}
use Rattle.item_shares.specs.Weights.{weights}
use Rattle.item_shares.specs.declared.item.Item.{Item}
use Rattle.item_shares.specs.declared.item.Item.TheVariants.{Memory, Paged, Reserved, File, Range}
use Rattle.item_shares.specs.declared.shares.Share.{Share}
use Rattle.blob_items.specs.declared.view.View.{View}
use Rattle.blob_entries.specs.Book.{Book}
use Rattle.blob_model.specs.Parts.{embedded, own_lengths}
use Rattle.blob_model.proofs.Lists.{all_append}
use Rattle.page_files.specs.declared.page.Page.{Page}
use Rattle.segment_assembly.specs.Assembly.{bytes_at}
use Rattle.transport_plan.specs.Spans.{piece_spans}
use Rattle.store_laws.specs.EntryLaws.{all_lengths, AreBrought}
use Rattle.store_laws.specs.Items.{piece_of_item}
use Rattle.store_laws.specs.Weights.{memory_weight, piece_weight, range_weight, reserved_weight}
use Rattle.blob_store.specs.Adding.{new_blob, CanAdd, IsThere}
use Rattle.store_laws.specs.Arrivals.{lengths_by}
use Rattle.store_laws.specs.NewItems.{own_items}
use Rattle.blob_store.specs.Laying.{first_piece, homes_by, sending_by, slot_of, Lays}
use Rattle.blob_store.specs.NewBlobs.{ItemsFit}
use Rattle.store_laws.specs.NewItems.{memory_items, range_items, reserved_items}
use Rattle.blob_store.specs.Putting.{ArePut, is_seen}
use Rattle.blob_store.specs.Stored.{IsHeld}
use Rattle.blob_store.specs.declared.building.laying.Laid.{Laid}
use Rattle.blob_store.specs.declared.parts.Parts.{Parts}
use Rattle.blob_store.proofs.Arriving.{fresh, held, seen, seen_item}

-- ---- items of pieces, numbered in turn

abbrev IsNumbered : ℕ → Item → Type 0
IsNumbered number (Memory piece bytes) = piece.0 ≡ number
IsNumbered number (Reserved piece len) = piece.0 ≡ number
IsNumbered number item = ⊥

abbrev pub AreNumbered : ℕ → List Item → Type 0
AreNumbered number [] = Unit {0}
AreNumbered number (item ∷ items) = IsNumbered number item × AreNumbered (number + 1) items

memory_numbered : (number : ℕ) (pieces : List (List ℕ)) → AreNumbered number (memory_items number pieces)
memory_numbered number [] = tt
memory_numbered number (bytes ∷ pieces) = (refl, memory_numbered (number + 1) pieces)

reserved_numbered : (number : ℕ) (lengths : List ℕ) → AreNumbered number (reserved_items number lengths)
reserved_numbered number [] = tt
reserved_numbered number (len ∷ lengths) = (refl, reserved_numbered (number + 1) lengths)

pub own_numbered : (page first : ℕ) (plan : Plan) (parts : List Part) → AreNumbered first (own_items page first plan parts)
own_numbered page first (plans.Shared n) parts = tt
own_numbered page first (plans.File n) parts = reserved_numbered first (all_lengths page parts)
own_numbered page first plan parts = memory_numbered first (map (bytes_at (embedded parts)) (piece_spans page 0 (own_lengths parts)))

abbrev IsLater : ℕ → Item → Type 0
IsLater last item = IfSome (piece_of_item item) (λ (number : ℕ). last ≤ number)

numbered_later : (last number : ℕ) (items : List Item) → last ≤ number → AreNumbered number items → AllByRecursion (IsLater last) items
numbered_later last number [] past are = tt
numbered_later last number (item ∷ items) past are = (one item are.0, numbered_later last (number + 1) items (omega (arith, past)) are.1)
  where
    one : (item : Item) → IsNumbered number item → IsLater last item
    one (Memory piece bytes) is = omega (arith, past, is)
    one (Reserved piece len) is = omega (arith, past, is)
    one (Paged piece page off len) is = absurd is
    one (File name stamp off len) is = absurd is
    one (Range slot off len) is = absurd is

numbered_ranges : (k number : ℕ) (items : List Item) → AreNumbered number items → sum_by (range_weight k) items ≡ 0
numbered_ranges k number [] are = refl
numbered_ranges k number (item ∷ items) are =
    omega (arith, sum_by-cons (range_weight k) item items, one item are.0, numbered_ranges k (number + 1) items are.1)
  where
    one : (item : Item) → IsNumbered number item → range_weight k item ≡ 0
    one (Memory piece bytes) is = refl
    one (Reserved piece len) is = refl
    one (Paged piece page off len) is = absurd is
    one (File name stamp off len) is = absurd is
    one (Range slot off len) is = absurd is

pub numbered_many : (number : ℕ) (items : List Item) → AreNumbered number items → sum_by piece_weight items ≡ length items
numbered_many number [] are = refl
numbered_many number (item ∷ items) are =
    omega (arith, sum_by-cons piece_weight item items, one item are.0, numbered_many (number + 1) items are.1)
  where
    one : (item : Item) → IsNumbered number item → piece_weight item ≡ 1
    one (Memory piece bytes) is = refl
    one (Reserved piece len) is = refl
    one (Paged piece page off len) is = absurd is
    one (File name stamp off len) is = absurd is
    one (Range slot off len) is = absurd is

-- ---- items of ranges

-- a range of a data handle ends inside a 64-bit number
abbrev pub IsRange : Item → Type 0
IsRange (File name stamp off len) = Unit {0}
IsRange (Range slot off len) = off + len ≤ 2 ^ 64 - 1
IsRange item = ⊥

pub range_pieceless : (item : Item) → IsRange item → piece_of_item item ≡ None
range_pieceless (File name stamp off len) is = refl
range_pieceless (Range slot off len) is = refl
range_pieceless (Memory piece bytes) is = absurd is
range_pieceless (Paged piece page off len) is = absurd is
range_pieceless (Reserved piece len) is = absurd is

pub ranges_are : (book : Book) (parts : List Part) → AllByRecursion (IsThere book) parts → AllByRecursion IsRange (range_items parts)
ranges_are book [] there = tt
ranges_are book (Embedded bytes ∷ parts) there = ranges_are book parts there.1
ranges_are book (Asked len ∷ parts) there = ranges_are book parts there.1
ranges_are book (FileRange name off zero stamp ∷ parts) there = ranges_are book parts there.1
ranges_are book (FileRange name off (suc len) stamp ∷ parts) there = (tt, ranges_are book parts there.1)
ranges_are book (BlobRange b off len ∷ parts) there = ranges_are book parts there.1
ranges_are book (HandleRange k off zero ∷ parts) there = ranges_are book parts there.1
ranges_are book (HandleRange k off (suc len) ∷ parts) there = (there.0, ranges_are book parts there.1)

ranges_weightless : (weight : Item → ℕ) → ((item : Item) → IsRange item → weight item ≡ 0) → (items : List Item) → AllByRecursion IsRange items
    → sum_by weight items ≡ 0
ranges_weightless weight none [] are = refl
ranges_weightless weight none (item ∷ items) are =
    omega (arith, sum_by-cons weight item items, none item are.0, ranges_weightless weight none items are.1)

module _ (items : List Item) (are : AllByRecursion IsRange items) where
  pub ranges_no_memory : sum_by memory_weight items ≡ 0
  ranges_no_memory = ranges_weightless memory_weight one items are
    where
      one : (item : Item) → IsRange item → memory_weight item ≡ 0
      one (File name stamp off len) is = refl
      one (Range slot off len) is = refl
      one (Memory piece bytes) is = absurd is
      one (Paged piece page off len) is = absurd is
      one (Reserved piece len) is = absurd is

  pub ranges_not_reserved : sum_by reserved_weight items ≡ 0
  ranges_not_reserved = ranges_weightless reserved_weight one items are
    where
      one : (item : Item) → IsRange item → reserved_weight item ≡ 0
      one (File name stamp off len) is = refl
      one (Range slot off len) is = refl
      one (Memory piece bytes) is = absurd is
      one (Paged piece page off len) is = absurd is
      one (Reserved piece len) is = absurd is

  pub ranges_no_pieces : sum_by piece_weight items ≡ 0
  ranges_no_pieces = ranges_weightless piece_weight (λ item is. ap (λ (found : Option ℕ). cond (some found) 1 0) (range_pieceless item is)) items are
    where
      some : Option ℕ → Bool
      some None = false
      some (Some number) = true

ranges_later : (last : ℕ) (items : List Item) → AllByRecursion IsRange items → AllByRecursion (IsLater last) items
ranges_later last [] are = tt
ranges_later last (item ∷ items) are =
    (subst (λ (found : Option ℕ). IfSome found (λ (number : ℕ). last ≤ number)) (sym (range_pieceless item are.0)) tt, ranges_later last items are.1)

-- ---- what slots hold

-- of items that come one behind the other the first ones
pub seen_first : (shares : List (Option Share)) (views more : List View) (items rest : List Item) → length more ≡ length rest
    → seen shares (views ++ more) ≡ map fresh (items ++ rest) → seen shares views ≡ map fresh items
seen_first shares [] more [] rest many is = refl
seen_first shares [] more (item ∷ items) rest many is =
    let long : length more ≡ length (item ∷ items ++ rest) =
    sym (length-map more (λ (view : View). share_at shares view.slot)) ∙ ap (λ (list : List (Option Share)). length list) is
    ∙ length-map (item ∷ items ++ rest) fresh in
    let sums = length-append items rest in
    absurd (omega (arith, long, sums, many))
seen_first shares (view ∷ views) more [] rest many is =
    let long : length (view ∷ views ++ more) ≡ length rest =
    sym (length-map (view ∷ views ++ more) (λ (one : View). share_at shares one.slot)) ∙ ap (λ (list : List (Option Share)). length list) is
    ∙ length-map rest fresh in
    let sums = length-append views more in
    absurd (omega (arith, long, sums, many))
seen_first shares (view ∷ views) more (item ∷ items) rest many is =
    let first : share_at shares view.slot ≡ fresh item = cc is in
    let behind : seen shares (views ++ more) ≡ map fresh (items ++ rest) = cc is in
    ap (λ (one : Option Share). one ∷ seen shares views) first
    ∙ ap (λ (list : List (Option Share)). fresh item ∷ list) (seen_first shares views more items rest many behind)

home_last : (before : List ℕ) (slot : ℕ) (more : List ℕ) → slice_get (before ++ slot ∷ more) (length before) ≡ Some slot
home_last [] slot more = refl
home_last (one ∷ before) slot more = home_last before slot more

-- pieces that are numbered in turn have their homes behind those before
pub pieces_home : (shares : List (Option Share)) (pages : List Page) (slot number : ℕ) (before homes : List ℕ) (views : List View) (items : List Item)
    → number ≡ length before → homes ≡ before ++ map slot_of views → AreNumbered number items → seen shares views ≡ map fresh items
    → is_seen slot views ≡ true → IfSome (item_at shares slot) (IsHeld homes pages slot)
pieces_home shares pages slot number before homes [] items long all are is at = absurd (cc at)
pieces_home shares pages slot number before homes (view ∷ views) [] long all are is at = absurd (cc is)
pieces_home shares pages slot number before homes (view ∷ views) (item ∷ items) long all are is at =
    by (λ more. pieces_home shares pages slot (number + 1) (before ++ view.slot ∷ []) homes views items
    (let sums = length-append before (view.slot ∷ []) in omega (arith, long, sums))
    (all ∙ sym (append_assoc before (view.slot ∷ []) (map slot_of views))) are.1 rest more) (view.slot == slot) refl at
  where
    first : share_at shares view.slot ≡ fresh item
    first = cc is

    rest : seen shares views ≡ map fresh items
    rest = cc is

    home : slice_get homes number ≡ Some view.slot
    home = (λ i. slice_get (all i) (long i)) ∙ home_last before view.slot (map slot_of views)

    one : (item : Item) → IsNumbered number item → IsHeld homes pages view.slot item
    one (Memory piece bytes) same = record { home = ap (slice_get homes) same ∙ home; listed = tt }
    one (Reserved piece len) same = record { home = ap (slice_get homes) same ∙ home; listed = tt }
    one (Paged piece page off len) same = absurd same
    one (File name stamp off len) same = absurd same
    one (Range handle off len) same = absurd same

    here : IfSome (item_at shares view.slot) (IsHeld homes pages view.slot)
    here =
        subst (λ (found : Option Item). IfSome found (IsHeld homes pages view.slot)) (sym (held shares view.slot item first)) (one item are.0)

    by : (is_seen slot views ≡ true → IfSome (item_at shares slot) (IsHeld homes pages slot)) → (b : Bool) → (view.slot == slot) ≡ b
        → (b || is_seen slot views) ≡ true → IfSome (item_at shares slot) (IsHeld homes pages slot)
    by behind true same at = subst (λ (n : ℕ). IfSome (item_at shares n) (IsHeld homes pages n)) (eqb-true view.slot slot same) here
    by behind false same at = behind at

-- ---- what came

-- what is laid down of a blob, over the items that stand then
pub record Came (plan : Plan) (line : List Part) (old : Parts) (laid : Laid) (shares : List (Option Share)) : Type 0 where
  pub put : ArePut old.shares (range_items line ++ own_items old.limits.page (first_piece old) plan line) (laid.ranges ++ laid.pieces) shares
  pub pieces : AreBrought shares (first_piece old) (lengths_by old.limits.page plan line) laid.pieces
  pub held : seen shares laid.pieces ≡ map fresh (own_items old.limits.page (first_piece old) plan line)
  pub sending : laid.sending ≡ sending_by plan (map slot_of laid.pieces)

pub lays_came : (name : ℕ) (plan : Plan) (line : List Part) (old between : Parts) (laid : Laid) → Lays name plan line old laid between
    → Came plan line old laid between.shares
lays_came name plan line old between laid lays = record { put = lays.put; pieces = lays.pieces; held = lays.held; sending = lays.sending }

module _ (plan : Plan) (line : List Part) (old : Parts) (laid : Laid) (shares : List (Option Share)) (came : Came plan line old laid shares) where
  abbrev own : List Item
  own = own_items old.limits.page (first_piece old) plan line

  -- there is a view for each item
  pub pieces_many : length laid.pieces ≡ length own
  pieces_many =
      sym (length-map laid.pieces (λ (view : View). share_at shares view.slot)) ∙ ap (λ (list : List (Option Share)). length list) came.held
      ∙ length-map own fresh

  pub ranges_seen : seen shares laid.ranges ≡ map fresh (range_items line)
  ranges_seen = seen_first shares laid.ranges laid.pieces (range_items line) own pieces_many came.put.held

  pub ranges_many : length laid.ranges ≡ length (range_items line)
  ranges_many =
      sym (length-map laid.ranges (λ (view : View). share_at shares view.slot)) ∙ ap (λ (list : List (Option Share)). length list) ranges_seen
      ∙ length-map (range_items line) fresh

  -- pieces that wait have no items
  pub waiting_none : (n : ℕ) → plan ≡ plans.Shared n → laid.pieces ≡ []
  waiting_none n shared = none laid.pieces (pieces_many ∙ ap (λ (one : Plan). length (own_items old.limits.page (first_piece old) one line)) shared)
    where
      none : (views : List View) → length views ≡ 0 → views ≡ []
      none [] many = refl
      none (view ∷ views) many = absurd (omega (arith, many))

  module _ (there : AllByRecursion (IsThere old.registry) line) where
    pub items_later : AllByRecursion (IsLater (length old.homes)) (range_items line ++ own)
    items_later =
        all_append (IsLater (length old.homes)) (range_items line) own (ranges_later (length old.homes) (range_items line) (ranges_are old.registry line there))
        (numbered_later (length old.homes) (first_piece old) own (omega arith) (own_numbered old.limits.page (first_piece old) plan line))

    pub handles_apart : ((k : ℕ) → weights (range_weight k) old.shares + sum_by (range_weight k) (range_items line) ≤ 1) → (k : ℕ)
        → weights (range_weight k) old.shares + sum_by (range_weight k) (range_items line ++ own) ≤ 1
    handles_apart handles k =
        let sums = sum_by-append (range_weight k) (range_items line) own in
        let none = numbered_ranges k (first_piece old) own (own_numbered old.limits.page (first_piece old) plan line) in
        omega (arith, sums, none, handles k)

    homes_so : (slot : ℕ) → is_seen slot laid.pieces ≡ true → homes_by old.limits.page plan line (map slot_of laid.pieces) ≡ map slot_of laid.pieces
    homes_so slot at = by plan (λ n shared. absurd (cc (at, ap (is_seen slot) (waiting_none n shared))))
      where
        by : (one : Plan) → ((n : ℕ) → one ≡ plans.Shared n → ⊥) → homes_by old.limits.page one line (map slot_of laid.pieces) ≡ map slot_of laid.pieces
        by (plans.Shared n) other = absurd (other n refl)
        by one other = refl

    abbrev homes : List ℕ
    homes = old.homes ++ homes_by old.limits.page plan line (map slot_of laid.pieces)

    pub slots_held : (slot : ℕ) → is_seen slot (laid.ranges ++ laid.pieces) ≡ true
        → IfSome (item_at shares slot) (IsHeld (old.homes ++ homes_by old.limits.page plan line (map slot_of laid.pieces)) old.pages.pages slot)
    slots_held slot at = by (is_seen slot laid.pieces) refl
      where
        split : is_seen slot (laid.ranges ++ laid.pieces) ≡ (is_seen slot laid.ranges || is_seen slot laid.pieces)
        split = list_any-append (λ (view : View). view.slot == slot) laid.ranges laid.pieces

        first : (a b : Bool) → b ≡ false → (a || b) ≡ true → a ≡ true
        first true b away either = refl
        first false b away either = absurd (cc (away, either))

        listed : (item : Item) → IsRange item → IsHeld homes old.pages.pages slot item
        listed (File name stamp off len) is = record { home = tt; listed = tt }
        listed (Range handle off len) is = record { home = tt; listed = is }
        listed (Memory piece bytes) is = absurd is
        listed (Paged piece page off len) is = absurd is
        listed (Reserved piece len) is = absurd is

        weaker : (found : Option Item) → IfSome found IsRange → IfSome found (IsHeld homes old.pages.pages slot)
        weaker None is = tt
        weaker (Some item) is = listed item is

        by : (b : Bool) → is_seen slot laid.pieces ≡ b → IfSome (item_at shares slot) (IsHeld homes old.pages.pages slot)
        by true seen_here =
            pieces_home shares old.pages.pages slot (first_piece old) old.homes homes laid.pieces own refl
            (ap (λ (list : List ℕ). old.homes ++ list) (homes_so slot seen_here)) (own_numbered old.limits.page (first_piece old) plan line) came.held
            seen_here
        by false away =
            weaker (item_at shares slot)
            (seen_item IsRange shares slot laid.ranges (range_items line) ranges_seen (ranges_are old.registry line there)
            (first (is_seen slot laid.ranges) (is_seen slot laid.pieces) away (sym split ∙ at)))

module _ (renderer : RendererId) (name : ℕ) (kind : List ℕ) (plan : Plan) (line : List Part) (old now : Parts) (laid : Laid) where
  pub added_items : CanAdd renderer name plan line old → Came plan line old laid now.shares → ItemsFit (new_blob renderer name kind plan line old laid) old now
  added_items can came = record {
    later = items_later plan line old laid now.shares came can.there;
    ranges = handles_apart plan line old laid now.shares came can.there can.handles;
    held = slots_held plan line old laid now.shares came can.there;
  }
