-- Items that come one behind the other.
use Rattle.std.proofs.Common.{◌≡◌, ◌≢◌, ℕ, zero, suc, ◌+◌, ◌<◌, ◌≤◌, ◌==◌, ◌||◌, Bool, true, false, List, [], ◌∷◌, ◌++◌, get_or, length, take, drop, map, refl, sym, ap, subst, ◌∙◌, Option, Some, None, cond, arith}
use Rattle.std.specs.List.{AllByRecursion}
use Rattle.std.proofs.lemmas.Bool.{eqb-true}
use Rattle.std.proofs.lemmas.Bool.Decides.{nat_tests}
use Rattle.std.specs.Int.{div_ceil}
use Rattle.std.proofs.lemmas.Grind.{flat_map-append}
use Rattle.std.proofs.lemmas.List.{append-nil, length-drop, length-take-le, map-append, take_more}
use Rattle.std.proofs.lemmas.List.Folds.{list_any-append}
use Rattle.std.proofs.lemmas.List.FromFn.{length-map-range_with_len}
use Rattle.std.proofs.lemmas.List.Sums.{sum_by-append, sum_by-cons}
use Rattle.session_script.specs.declared.event.Part.{Part}
use Rattle.item_shares.specs.Shares.{share_at, share_of, Changes}
use Rattle.item_shares.specs.Weights.{weights}
use Rattle.item_shares.specs.declared.item.Item.{Item}
use Rattle.item_shares.specs.declared.shares.Share.{Share}
use Rattle.item_shares.specs.declared.item.Item.TheVariants.{Memory, Reserved}
use Rattle.blob_items.specs.declared.view.View.{View}
use Rattle.blob_entries.specs.declared.step.Step.{Step}
use Rattle.blob_entries.specs.declared.step.Step.TheVariants.{Own}
use Rattle.blob_entries.specs.Counts.{one_at, views_on}
use Rattle.blob_entries.proofs.Counting.{on_append, on_cons}
use Rattle.blob_model.proofs.Lists.{all_append}
use Rattle.segment_assembly.specs.Assembly.{bytes_at}
use Rattle.transport_plan.specs.Spans.{piece_count, span_at}
use Rattle.store_laws.specs.Items.{item_length}
use Rattle.store_laws.specs.PartLaws.{own_steps, piece_lengths, piece_no}
use Rattle.store_laws.specs.NewItems.{memory_items, part_items, range_items, reserved_items}
use Rattle.blob_store.specs.Putting.{ArePut, is_seen, span}

-- nothing comes
pub put_none : (shares : List (Option Share)) → ArePut shares [] [] shares
put_none shares = record {
  held = refl;
  whole = refl;
  vacant = tt;
  others = λ slot away. refl;
  once = λ slot. omega arith;
  weighs = λ weight. omega arith;
}

abbrev fresh_share : Item → Option Share
fresh_share item = Some (share_of item 1)

abbrev shares_seen : List (Option Share) → List View → List (Option Share)
shares_seen shares views = map (λ (view : View). share_at shares view.slot) views

-- a slot that holds nothing is none of them
unseen : (shares : List (Option Share)) (slot : ℕ) (views : List View) (items : List Item) → shares_seen shares views ≡ map fresh_share items
    → share_at shares slot ≡ None → is_seen slot views ≡ false
unseen shares slot [] items same none = refl
unseen shares slot (view ∷ views) [] same none = absurd (cc same)
unseen shares slot (view ∷ views) (item ∷ items) same none = by (λ more. unseen shares slot views items more none) (view.slot == slot) refl
  where
    here : share_at shares view.slot ≡ fresh_share item
    here = cc same

    rest : shares_seen shares views ≡ map fresh_share items
    rest = cc same

    by : (shares_seen shares views ≡ map fresh_share items → is_seen slot views ≡ false) → (b : Bool) → (view.slot == slot) ≡ b
        → (b || is_seen slot views) ≡ false
    by behind true is = let at : share_at shares slot ≡ fresh_share item = subst (λ (n : ℕ). share_at shares n ≡ fresh_share item)
        (eqb-true view.slot slot is) here in
        absurd (cc (at, none))
    by behind false is = behind rest

eqb_refl : (one other : ℕ) → one ≡ other → (one == other) ≡ true
eqb_refl one other same = grind (arith, nat_tests)

neither : (a b : Bool) → (a || b) ≡ false → (a ≡ false) × (b ≡ false)
neither true b none = absurd (cc none)
neither false b none = (refl, none)

-- what is in other slots stays
still_seen : (old new : List (Option Share)) (slot : ℕ) (held : Option Share) (views : List View) → Changes old new slot held → is_seen slot views ≡ false
    → shares_seen new views ≡ shares_seen old views
still_seen old new slot held [] changes away = refl
still_seen old new slot held (view ∷ views) changes away = by (still_seen old new slot held views changes) (view.slot == slot) refl away
  where
    by : (is_seen slot views ≡ false → shares_seen new views ≡ shares_seen old views) → (b : Bool) → (view.slot == slot) ≡ b
        → (b || is_seen slot views) ≡ false → shares_seen new (view ∷ views) ≡ shares_seen old (view ∷ views)
    by behind true is away = absurd (cc away)
    by behind false is away =
        let other : view.slot ≢ slot = λ same. absurd (cc (is, eqb_refl view.slot slot same)) in
        ap (λ (one : Option Share). one ∷ shares_seen new views) (changes.others view.slot other)
        ∙ ap (λ (list : List (Option Share)). share_at old view.slot ∷ list) (behind away)

-- a slot that none of the views is on
pub on_none : (slot : ℕ) (views : List View) → is_seen slot views ≡ false → views_on slot views ≡ 0
on_none slot [] away = refl
on_none slot (view ∷ views) away = by (on_none slot views) (view.slot == slot) refl away
  where
    by : (is_seen slot views ≡ false → views_on slot views ≡ 0) → (b : Bool) → (view.slot == slot) ≡ b → (b || is_seen slot views) ≡ false
        → views_on slot (view ∷ views) ≡ 0
    by behind true is away = absurd (cc away)
    by behind false is away =
        let one : one_at view.slot slot ≡ 0 = ap (λ (b : Bool). cond b 1 0) is in
        omega (arith, on_cons slot view views, one, behind away)

abbrev whole_item : Item → ℕ × ℕ
whole_item one = (0, item_length one)

-- one item more
pub put_more : (old mid new : List (Option Share)) (items : List Item) (item : Item) (views : List View) (view : View) → ArePut old items views mid
    → share_at mid view.slot ≡ None → Changes mid new view.slot (Some (share_of item 1))
    → ((weight : Item → ℕ) → weights weight new ≡ weights weight mid + weight item) → span view ≡ (0, item_length item)
    → ArePut old (items ++ item ∷ []) (views ++ view ∷ []) new
put_more old mid new items item views view put none changes weighs all = record {
  held =
      map-append (λ (one : View). share_at new one.slot) views (view ∷ [])
      ∙ ap (λ (list : List (Option Share)). list ++ share_at new view.slot ∷ []) (still_seen mid new view.slot (fresh_share item) views changes away ∙ put.held)
      ∙ ap (λ (one : Option Share). map fresh_share items ++ one ∷ []) changes.changed
      ∙ sym (map-append fresh_share items (item ∷ []));
  whole =
      map-append span views (view ∷ []) ∙ ap (λ (list : List (ℕ × ℕ)). list ++ span view ∷ []) put.whole
      ∙ ap (λ (one : ℕ × ℕ). map whole_item items ++ one ∷ []) all ∙ sym (map-append whole_item items (item ∷ []));
  vacant = all_append (λ (one : View). share_at old one.slot ≡ None) views (view ∷ []) put.vacant (sym (put.others view.slot away) ∙ none, tt);
  others = λ slot apart. let both = split slot apart in
      changes.others slot (λ same. absurd (cc (eqb_refl view.slot slot (sym same), both.1))) ∙ put.others slot both.0;
  once = λ slot. once slot (view.slot == slot) refl;
  weighs = λ weight. omega (arith, weighs weight, put.weighs weight, sum_by-append weight items (item ∷ []));
}
  where
    away : is_seen view.slot views ≡ false
    away = unseen mid view.slot views items put.held none

    split : (slot : ℕ) → is_seen slot (views ++ view ∷ []) ≡ false → (is_seen slot views ≡ false) × ((view.slot == slot) ≡ false)
    split slot apart =
        let both = neither (is_seen slot views) ((view.slot == slot) || false)
        (sym (list_any-append (λ (one : View). one.slot == slot) views (view ∷ [])) ∙ apart) in
        (both.0, (neither (view.slot == slot) false both.1).0)

    once : (slot : ℕ) (b : Bool) → (view.slot == slot) ≡ b → views_on slot (views ++ view ∷ []) ≤ 1
    once slot true is =
        let none_before : views_on slot views ≡ 0 =
        on_none slot views (subst (λ (n : ℕ). is_seen n views ≡ false) (eqb-true view.slot slot is) away) in
        let one : one_at view.slot slot ≡ 1 = ap (λ (b : Bool). cond b 1 0) is in
        omega (arith, on_append slot views (view ∷ []), on_cons slot view [], one, none_before)
    once slot false is =
        let one : one_at view.slot slot ≡ 0 = ap (λ (b : Bool). cond b 1 0) is in
        omega (arith, on_append slot views (view ∷ []), on_cons slot view [], one, put.once slot)

-- a slot of these views held nothing
pub seen_vacant : (shares : List (Option Share)) (slot : ℕ) (views : List View) → AllByRecursion (λ (view : View). share_at shares view.slot ≡ None) views
    → is_seen slot views ≡ true → share_at shares slot ≡ None
seen_vacant shares slot [] vacant seen = absurd (cc seen)
seen_vacant shares slot (view ∷ views) vacant seen = by (seen_vacant shares slot views vacant.1) (view.slot == slot) refl seen
  where
    by : (is_seen slot views ≡ true → share_at shares slot ≡ None) → (b : Bool) → (view.slot == slot) ≡ b → (b || is_seen slot views) ≡ true
        → share_at shares slot ≡ None
    by behind true is seen = subst (λ (n : ℕ). share_at shares n ≡ None) (eqb-true view.slot slot is) vacant.0
    by behind false is seen = behind seen

-- items that come later leave those that came where they are
pub still_held : (mid new : List (Option Share)) (later : List View) (views : List View) (items : List Item)
    → AllByRecursion (λ (view : View). share_at mid view.slot ≡ None) later
    → ((slot : ℕ) → is_seen slot later ≡ false → share_at new slot ≡ share_at mid slot) → shares_seen mid views ≡ map fresh_share items
    → shares_seen new views ≡ map fresh_share items
still_held mid new later [] items vacant others same = same
still_held mid new later (view ∷ views) [] vacant others same = absurd (cc same)
still_held mid new later (view ∷ views) (item ∷ items) vacant others same =
    by (is_seen view.slot later) refl (still_held mid new later views items vacant others)
  where
    here : share_at mid view.slot ≡ fresh_share item
    here = cc same

    rest : shares_seen mid views ≡ map fresh_share items
    rest = cc same

    by : (b : Bool) → is_seen view.slot later ≡ b → (shares_seen mid views ≡ map fresh_share items → shares_seen new views ≡ map fresh_share items)
        → shares_seen new (view ∷ views) ≡ map fresh_share (item ∷ items)
    by true seen behind = absurd (cc (here, seen_vacant mid view.slot later vacant seen))
    by false away behind =
        ap (λ (one : Option Share). one ∷ shares_seen new views) (others view.slot away ∙ here)
        ∙ ap (λ (list : List (Option Share)). fresh_share item ∷ list) (behind rest)

-- slots that were free later were free before
vacant_before : (old mid : List (Option Share)) (items : List Item) (views later : List View) → ArePut old items views mid
    → AllByRecursion (λ (view : View). share_at mid view.slot ≡ None) later → AllByRecursion (λ (view : View). share_at old view.slot ≡ None) later
vacant_before old mid items views [] put vacant = tt
vacant_before old mid items views (view ∷ later) put vacant =
    (sym (put.others view.slot (unseen mid view.slot views items put.held vacant.0)) ∙ vacant.0, vacant_before old mid items views later put vacant.1)

-- items come behind others
pub put_join : (old mid new : List (Option Share)) (items more : List Item) (views later : List View) → ArePut old items views mid
    → ArePut mid more later new → ArePut old (items ++ more) (views ++ later) new
put_join old mid new items more views later first next = record {
  held =
      map-append (λ (one : View). share_at new one.slot) views later
      ∙ ap (λ (list : List (Option Share)). list ++ shares_seen new later) (still_held mid new later views items next.vacant next.others first.held)
      ∙ ap (λ (list : List (Option Share)). map fresh_share items ++ list) next.held ∙ sym (map-append fresh_share items more);
  whole =
      map-append span views later ∙ ap (λ (list : List (ℕ × ℕ)). list ++ map span later) first.whole
      ∙ ap (λ (list : List (ℕ × ℕ)). map whole_item items ++ list) next.whole ∙ sym (map-append whole_item items more);
  vacant = all_append (λ (one : View). share_at old one.slot ≡ None) views later first.vacant
      (vacant_before old mid items views later first next.vacant);
  others = λ slot apart. let both = neither (is_seen slot views) (is_seen slot later)
      (sym (list_any-append (λ (one : View). one.slot == slot) views later) ∙ apart) in
      next.others slot both.1 ∙ first.others slot both.0;
  once = λ slot. by slot (is_seen slot later) refl;
  weighs = λ weight. omega (arith, next.weighs weight, first.weighs weight, sum_by-append weight items more);
}
  where
    by : (slot : ℕ) (b : Bool) → is_seen slot later ≡ b → views_on slot (views ++ later) ≤ 1
    by slot true seen =
        let away : is_seen slot views ≡ false = unseen mid slot views items first.held (seen_vacant mid slot later next.vacant seen) in
        omega (arith, on_append slot views later, on_none slot views away, next.once slot)
    by slot false away = omega (arith, on_append slot views later, on_none slot later away, first.once slot)

-- ---- lists

pub all_at : {X : Type 0} (P : X → Type 0) (xs : List X) (i : ℕ) (d : X) → i < length xs → AllByRecursion P xs → P (get_or xs i d)
all_at P [] i d within all = absurd (omega (arith, within))
all_at P (x ∷ xs) zero d within all = all.0
all_at P (x ∷ xs) (suc i) d within all = all_at P xs i d (omega (arith, within)) all.1

pub bytes_long : (bytes : List ℕ) (span : ℕ × ℕ) → span.0 + span.1 ≤ length bytes → length (bytes_at bytes span) ≡ span.1
bytes_long bytes span within = length-take-le span.1 (drop span.0 bytes) (omega (arith, within, length-drop span.0 bytes))

pub memory_join : (number : ℕ) (xs ys : List (List ℕ)) → memory_items number (xs ++ ys) ≡ memory_items number xs ++ memory_items (number + length xs) ys
memory_join number [] ys = let same : number ≡ number + 0 = omega arith in ap (λ (n : ℕ). memory_items n ys) same
memory_join number (x ∷ xs) ys =
    let same : (number + 1) + length xs ≡ number + length (x ∷ xs) = omega arith in
    ap (λ (list : List Item). Memory (piece_no number) x ∷ list)
    (memory_join (number + 1) xs ys ∙ ap (λ (n : ℕ). memory_items (number + 1) xs ++ memory_items n ys) same)

pub reserved_join : (number : ℕ) (xs ys : List ℕ) → reserved_items number (xs ++ ys) ≡ reserved_items number xs ++ reserved_items (number + length xs) ys
reserved_join number [] ys = let same : number ≡ number + 0 = omega arith in ap (λ (n : ℕ). reserved_items n ys) same
reserved_join number (x ∷ xs) ys =
    let same : (number + 1) + length xs ≡ number + length (x ∷ xs) = omega arith in
    ap (λ (list : List Item). Reserved (piece_no number) x ∷ list)
    (reserved_join (number + 1) xs ys ∙ ap (λ (n : ℕ). reserved_items (number + 1) xs ++ reserved_items n ys) same)

pub steps_join : (number : ℕ) (xs ys : List ℕ) → own_steps number (xs ++ ys) ≡ own_steps number xs ++ own_steps (number + length xs) ys
steps_join number [] ys = let same : number ≡ number + 0 = omega arith in ap (λ (n : ℕ). own_steps n ys) same
steps_join number (x ∷ xs) ys =
    let same : (number + 1) + length xs ≡ number + length (x ∷ xs) = omega arith in
    ap (λ (list : List Step). Own (piece_no number) x ∷ list)
    (steps_join (number + 1) xs ys ∙ ap (λ (n : ℕ). own_steps (number + 1) xs ++ own_steps n ys) same)

pub pieces_long : (page len : ℕ) → length (piece_lengths page len) ≡ div_ceil len page
pieces_long page len = length-map-range_with_len (λ (k : ℕ). (span_at page len k).1) 0 (div_ceil len page)

pub one_count : (page len : ℕ) → piece_count page (len ∷ []) ≡ div_ceil len page
one_count page len = omega (arith, sum_by-cons (λ (one : ℕ). div_ceil one page) len [])

pub ranges_more : (parts : List Part) (i : ℕ) (part : Part) → i < length parts → part ≡ get_or parts i part
    → range_items (take (i + 1) parts) ≡ range_items (take i parts) ++ part_items part
ranges_more parts i part within is =
    ap range_items (take_more parts i part within) ∙ ap (λ (one : Part). range_items (take i parts ++ one ∷ [])) (sym is)
    ∙ flat_map-append part_items (take i parts) (part ∷ [])
    ∙ ap (λ (list : List Item). range_items (take i parts) ++ list) (append-nil (part_items part))
