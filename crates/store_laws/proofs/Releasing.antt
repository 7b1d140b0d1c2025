-- Items that go can be released, one after the other, where no two are of one object, and each object is claimed and there; and the data handles
-- stand for the items that are left.
use Rattle.std.proofs.Common.{◌≡◌, ℕ, zero, suc, ◌+◌, ◌≤◌, ◌==◌, ◌&&◌, ◌||◌, Bool, true, false, cond, List, [], ◌∷◌, Option, Some, None, refl, ap, subst, sym, ◌∙◌, arith}
use Rattle.std.specs.Prelude.{fold, is_some, option_and_then, slice_get, slice_set, sum_by, IfSome, IsSome}
use Rattle.std.specs.Option.{option_map, option_map_or}
use Rattle.std.specs.List.{list_any}
use Rattle.std.proofs.lemmas.Bool.{eq-eqb, eqb-true}
use Rattle.std.proofs.lemmas.List.Sums.{sum_by-cons}
use Rattle.item_shares.specs.declared.item.Item.{Item}
use Rattle.item_shares.specs.declared.item.Item.TheVariants.{Memory, Paged, Reserved, File, Range}
use Rattle.item_shares.specs.declared.shares.Share.{Share}
use Rattle.item_shares.specs.Shares.{item_at}
use Rattle.item_shares.specs.Weights.{held_weight, weights}
use Rattle.data_handles.specs.Handles.{Handle}
use Rattle.data_handles.specs.Table.{Slot, Table, emptied, is_claimed_at, object_at, released_at, slot_at}
use Rattle.blob_model.specs.Session.{Slot as SlotSaid}
use Rattle.blob_model.proofs.Lists.{false_true, or_second}
use Rattle.store_laws.specs.Items.{holds_slot, is_range_of}
use Rattle.store_laws.specs.LetGo.{AreFreed}
use Rattle.store_laws.specs.Releasing.{released_by, AreReleasable, AreReleased, CanRelease, HandlesLetGo}
use Rattle.store_laws.specs.Tables.{seen_as, slot_now, slot_seen, AreClaimed, HandlesStand}
use Rattle.store_laws.specs.Weights.{range_weight}
use Rattle.store_laws.proofs.Letting.{none_in, none_of, some_in, some_of}

-- 1 for a range whose object isn't claimed or isn't there
abbrev bad_weight : Table → Item → ℕ
bad_weight table (Range slot off len) = cond (is_claimed_at table slot && is_some (object_at table slot)) 0 1
bad_weight table item = 0

turned : (a b : ℕ) → (a == b) ≡ false → (b == a) ≡ false
turned a b e = by (b == a) refl
  where
    by : (c : Bool) → (b == a) ≡ c → (b == a) ≡ false
    by true at = absurd (false_true (sym e ∙ eq-eqb a b (sym (eqb-true b a at))))
    by false at = at

pub set_other : {X : Type 0} (xs : List X) (i j : ℕ) (x : X) → (i == j) ≡ false → slice_get (slice_set xs i x) j ≡ slice_get xs j
set_other [] i j x apart = refl
set_other (y ∷ xs) zero zero x apart = absurd (false_true (sym apart))
set_other (y ∷ xs) zero (suc j) x apart = refl
set_other (y ∷ xs) (suc i) zero x apart = refl
set_other (y ∷ xs) (suc i) (suc j) x apart = set_other xs i j x (less apart)
  where
    less : (suc i == suc j) ≡ false → (i == j) ≡ false
    less e = by (i == j) refl
      where
        by : (b : Bool) → (i == j) ≡ b → (i == j) ≡ false
        by true at = absurd (false_true (sym e ∙ eq-eqb (suc i) (suc j) (ap suc (eqb-true i j at))))
        by false at = at

slot_other : (table : Table) (k other : ℕ) → (k == other) ≡ false → slot_at (released_at table k) other ≡ slot_at table other
slot_other table k other apart = by (slot_at table k)
  where
    by : (found : Option Slot)
        → slice_get (option_map_or (λ (slot : Slot). slice_set table.slots k (emptied slot)) found table.slots) other ≡ slice_get table.slots other
    by None = refl
    by (Some slot) = set_other table.slots k other (emptied slot) apart

-- a range of another object is as it was
one_still : (table : Table) (k : ℕ) (item : Item) → range_weight k item ≡ 0 → bad_weight (released_at table k) item ≡ bad_weight table item
one_still table k (Range slot off len) none = by (slot == k) refl none
  where
    by : (b : Bool) → (slot == k) ≡ b → ◌≡◌ {A = ℕ} (cond b 1 0) 0
        → bad_weight (released_at table k) (Range slot off len) ≡ bad_weight table (Range slot off len)
    by true at none = absurd (cc none)
    by false at none =
        ap {B = ℕ} (λ (found : Option Slot).
        cond (option_map_or (λ (one : Slot). one.is_claimed) found false && is_some (option_and_then (λ (one : Slot). one.object) found)) 0 1)
        (slot_other table k slot (turned slot k at))
one_still table k (Memory piece bytes) none = refl
one_still table k (Paged piece page off len) none = refl
one_still table k (Reserved piece len) none = refl
one_still table k (File name stamp off len) none = refl

all_still : (table : Table) (k : ℕ) (items : List Item) → sum_by (range_weight k) items ≡ 0 → sum_by (bad_weight table) items ≡ 0
    → sum_by (bad_weight (released_at table k)) items ≡ 0
all_still table k [] none good = refl
all_still table k (item ∷ items) none good =
    let ranges = sum_by-cons (range_weight k) item items in
    let bads = sum_by-cons (bad_weight table) item items in
    let here : range_weight k item ≡ 0 = omega (arith, none, ranges) in
    let more : sum_by (range_weight k) items ≡ 0 = omega (arith, none, ranges) in
    let good_more : sum_by (bad_weight table) items ≡ 0 = omega (arith, good, bads) in
    let rest = all_still table k items more good_more in
    omega (arith, sum_by-cons (bad_weight (released_at table k)) item items, one_still table k item here, rest, good, bads)

releasable : (table : Table) (items : List Item) → ((k : ℕ) → sum_by (range_weight k) items ≤ 1) → sum_by (bad_weight table) items ≡ 0
    → AreReleasable table items
releasable table [] apart good = tt
releasable table (item ∷ items) apart good =
    go item good_here good_more (λ k. omega (arith, apart k, sum_by-cons (range_weight k) item items))
    (λ later apart_later good_later. releasable later items apart_later good_later)
  where
    good_here : bad_weight table item ≡ 0
    good_here = omega (arith, good, sum_by-cons (bad_weight table) item items)

    good_more : sum_by (bad_weight table) items ≡ 0
    good_more = omega (arith, good, sum_by-cons (bad_weight table) item items)

    go : (one : Item) → bad_weight table one ≡ 0 → sum_by (bad_weight table) items ≡ 0
        → ((k : ℕ) → range_weight k one + sum_by (range_weight k) items ≤ 1)
        → ((later : Table) → ((k : ℕ) → sum_by (range_weight k) items ≤ 1) → sum_by (bad_weight later) items ≡ 0 → AreReleasable later items)
        → CanRelease table one × AreReleasable (released_by table one) items
    go (Range slot off len) here more apart_here rest = (
      claimed (is_claimed_at table slot) (is_some (object_at table slot)) refl refl here,
      rest (released_at table slot) (λ k. omega (arith, apart_here k)) (all_still table slot items (none (apart_here slot)) more),
    )
      where
        claimed : (a b : Bool) → is_claimed_at table slot ≡ a → is_some (object_at table slot) ≡ b → ◌≡◌ {A = ℕ} (cond (a && b) 0 1) 0
            → (is_claimed_at table slot ≡ true) × (is_some (object_at table slot) ≡ true)
        claimed true true at is e = (at, is)
        claimed true false at is e = absurd (cc e)
        claimed false b at is e = absurd (cc e)

        none : cond (slot == slot) 1 0 + sum_by (range_weight slot) items ≤ 1 → sum_by (range_weight slot) items ≡ 0
        none e = let own = ap {B = ℕ} (λ (b : Bool). cond b 1 0) (eq-eqb slot slot refl) in omega (arith, e, own)
    go (Memory piece bytes) here more apart_here rest = (tt, rest table (λ k. omega (arith, apart_here k)) more)
    go (Paged piece page off len) here more apart_here rest = (tt, rest table (λ k. omega (arith, apart_here k)) more)
    go (Reserved piece len) here more apart_here rest = (tt, rest table (λ k. omega (arith, apart_here k)) more)
    go (File name stamp off len) here more apart_here rest = (tt, rest table (λ k. omega (arith, apart_here k)) more)

-- where each slot's object is claimed and there, no item is bad
good_items : (table : Table) (shares : List (Option Share)) → ((slot : ℕ) → IfSome (item_at shares slot) (CanRelease table))
    → weights (bad_weight table) shares ≡ 0
good_items table [] there = refl
good_items table (held ∷ shares) there =
    let rest = good_items table shares (λ slot. there (suc slot)) in
    omega (arith, sum_by-cons (held_weight (bad_weight table)) held shares, by held (there zero), rest)
  where
    one : (item : Item) → CanRelease table item → bad_weight table item ≡ 0
    one (Range slot off len) is =
        ap {B = ℕ} (λ (b : Bool). cond (b && is_some (object_at table slot)) 0 1) is.0 ∙ ap {B = ℕ} (λ (b : Bool). cond b 0 1) is.1
    one (Memory piece bytes) is = refl
    one (Paged piece page off len) is = refl
    one (Reserved piece len) is = refl
    one (File name stamp off len) is = refl

    by : (held : Option Share) → IfSome (option_map (λ (share : Share). share.item) held) (CanRelease table) → held_weight (bad_weight table) held ≡ 0
    by None is = refl
    by (Some share) is = one share.item is

-- what goes from such items can be released
pub freed_releasable : (table : Table) (shares later : List (Option Share)) (freed : List Item)
    → ((weight : Item → ℕ) → sum_by weight freed + weights weight later ≡ weights weight shares) → ((k : ℕ) → weights (range_weight k) shares ≤ 1)
    → ((slot : ℕ) → IfSome (item_at shares slot) (CanRelease table)) → AreReleasable table freed
freed_releasable table shares later freed weighs apart there =
    releasable table freed (λ k. let all = weighs (range_weight k) in omega (arith, all, apart k))
    (let all = weighs (bad_weight table) in let none = good_items table shares there in omega (arith, all, none))

-- ---- what becomes of a slot

pub set_here : {X : Type 0} (xs : List X) (i : ℕ) (x : X) → IsSome (slice_get xs i) → slice_get (slice_set xs i x) i ≡ Some x
set_here [] i x there = absurd (false_true there)
set_here (y ∷ xs) zero x there = refl
set_here (y ∷ xs) (suc i) x there = set_here xs i x there

slot_here : (table : Table) (k : ℕ) → slot_at (released_at table k) k ≡ option_map emptied (slot_at table k)
slot_here table k = by (slot_at table k) refl
  where
    by : (found : Option Slot) → slot_at table k ≡ found
        → slice_get (option_map_or (λ (slot : Slot). slice_set table.slots k (emptied slot)) found table.slots) k ≡ option_map emptied found
    by None at = at
    by (Some slot) at = set_here table.slots k (emptied slot) (ap (λ (found : Option Slot). is_some found) at)

-- a slot with what is left of it, where items of these numbers went
abbrev pub left_slot : Bool → Option Slot → Option Slot
left_slot went found = cond went (option_map emptied found) found

slot_by : (table : Table) (k : ℕ) (item : Item) → slot_at (released_by table item) k ≡ left_slot (is_range_of k item) (slot_at table k)
slot_by table k (Range slot off len) = go (slot == k) refl
  where
    go : (b : Bool) → (slot == k) ≡ b → slot_at (released_at table slot) k ≡ left_slot b (slot_at table k)
    go true at =
        subst (λ (n : ℕ). slot_at (released_at table slot) n ≡ option_map emptied (slot_at table n)) (eqb-true slot k at) (slot_here table slot)
    go false at = slot_other table slot k at
slot_by table k (Memory piece bytes) = refl
slot_by table k (Paged piece page off len) = refl
slot_by table k (Reserved piece len) = refl
slot_by table k (File name stamp off len) = refl

left_twice : (a b : Bool) (found : Option Slot) → left_slot b (left_slot a found) ≡ left_slot (a || b) found
left_twice true true None = refl
left_twice true true (Some slot) = refl
left_twice true false found = refl
left_twice false b found = refl

pub slot_all : (items : List Item) (table : Table) (k : ℕ)
    → slot_at (fold released_by table items) k ≡ left_slot (list_any (is_range_of k) items) (slot_at table k)
slot_all [] table k = refl
slot_all (item ∷ items) table k =
    slot_all items (released_by table item) k ∙ ap (left_slot (list_any (is_range_of k) items)) (slot_by table k item)
    ∙ left_twice (is_range_of k item) (list_any (is_range_of k) items) (slot_at table k)

-- what is seen of a slot tells whether it is claimed, and what its object tells
seen_parts : (one : Slot) (slot : SlotSaid) → slot_seen (Some one) ≡ slot_now true true (Some slot)
    → (one.is_claimed ≡ true) × (option_map seen_as one.object ≡ Some (slot.size, slot.bytes))
seen_parts one slot e =
    let same : ◌≡◌ {A = Bool × Option (ℕ × Option (List ℕ))} (one.is_claimed, option_map seen_as one.object) (true, Some (slot.size, slot.bytes)) = cc e in
    (ap (λ (pair : Bool × Option (ℕ × Option (List ℕ))). pair.0) same, ap (λ (pair : Bool × Option (ℕ × Option (List ℕ))). pair.1) same)

pub held_range : (shares : List (Option Share)) (slot k off len : ℕ) → item_at shares slot ≡ Some (Range k off len) → holds_slot shares k ≡ true
held_range [] slot k off len e = absurd (cc e)
held_range (None ∷ shares) zero k off len e = absurd (cc e)
held_range (None ∷ shares) (suc slot) k off len e = held_range shares slot k off len e
held_range (Some share ∷ shares) zero k off len e =
    let is : share.item ≡ Range k off len = cc e in
    ap (λ (b : Bool). b || holds_slot shares k) (ap (is_range_of k) is ∙ eq-eqb k k refl)
held_range (Some share ∷ shares) (suc slot) k off len e = or_second (is_range_of k share.item) (holds_slot shares k) (held_range shares slot k off len e)

module _ (slots : List SlotSaid) (claimed : ℕ → Bool) (shares later : List (Option Share)) (freed : List Item) (table : Table)
    (stand : HandlesStand slots claimed (holds_slot shares) table) (claims : AreClaimed slots claimed (holds_slot shares))
    (goes : AreFreed shares later freed) (apart : (k : ℕ) → weights (range_weight k) shares ≤ 1) where
  sums : (k : ℕ) → sum_by (range_weight k) freed + weights (range_weight k) later ≡ weights (range_weight k) shares
  sums k = goes.weighs (range_weight k)

  -- the slot of an item has its object, and is claimed
  full : (k : ℕ) → holds_slot shares k ≡ true → (slot : Option SlotSaid) → slice_get slots k ≡ slot → IsSome slot → (found : Option Slot)
      → slot_at table k ≡ found
      → slot_seen found ≡ slot_now true true slot
  full k has slot is there found at =
      ap slot_seen (sym at) ∙ stand k
      ∙ (λ i. slot_now ((claims k has).0 i) (has i) (is i))

  handles_now : (k : ℕ) (w c d : Bool) → list_any (is_range_of k) freed ≡ w → holds_slot shares k ≡ c → holds_slot later k ≡ d
      → slot_seen (left_slot w (slot_at table k)) ≡ slot_now (claimed k) (holds_slot later k) (slice_get slots k)
  handles_now k true false d went had has =
      let none = none_in (is_range_of k) shares had in
      let some = some_of (is_range_of k) freed went in let sum = sums k in absurd (omega (arith, none, some, sum))
  handles_now k true true true went had has =
      let some = some_in (is_range_of k) later has in
      let gone = some_of (is_range_of k) freed went in let sum = sums k in let all = apart k in absurd (omega (arith, some, gone, sum, all))
  handles_now k true true false went had has =
      by (slice_get slots k) refl (claims k had).1 (slot_at table k) refl
    where
      by : (slot : Option SlotSaid) → slice_get slots k ≡ slot → IsSome slot → (found : Option Slot) → slot_at table k ≡ found
          → slot_seen (option_map emptied (slot_at table k)) ≡ slot_now (claimed k) (holds_slot later k) (slice_get slots k)
      by None is there found at = absurd (false_true there)
      by (Some slot) is there None at =
          let e = full k had (Some slot) is there None at in absurd (cc e)
      by (Some slot) is there (Some one) at =
          let e = full k had (Some slot) is there (Some one) at in
          let claimed_so = (seen_parts one slot e).0 in
          ap (λ (found : Option Slot). slot_seen (option_map emptied found)) at
          ∙ (λ i. Some (claimed_so i, None))
          ∙ sym (λ i. slot_now ((claims k had).0 i) (has i) (is i))
  handles_now k false c d went had has =
      stand k ∙ ap (λ (b : Bool). slot_now (claimed k) b (slice_get slots k)) (same c d had has)
    where
      same : (c d : Bool) → holds_slot shares k ≡ c → holds_slot later k ≡ d → holds_slot shares k ≡ holds_slot later k
      same true true had has = had ∙ sym has
      same false false had has = had ∙ sym has
      same true false had has =
          let none = none_in (is_range_of k) later has in
          let some = some_in (is_range_of k) shares had in
          let kept = none_of (is_range_of k) freed went in let sum = sums k in absurd (omega (arith, none, some, kept, sum))
      same false true had has =
          let none = none_in (is_range_of k) shares had in
          let some = some_in (is_range_of k) later has in let sum = sums k in absurd (omega (arith, none, some, sum))

  claims_now : AreClaimed slots claimed (holds_slot later)
  claims_now k has = by (holds_slot shares k) refl
    where
      by : (c : Bool) → holds_slot shares k ≡ c → (claimed k ≡ true) × IsSome (slice_get slots k)
      by true had = claims k had
      by false had =
          let none = none_in (is_range_of k) shares had in
          let some = some_in (is_range_of k) later has in let sum = sums k in absurd (omega (arith, none, some, sum))

  releases : (slot : ℕ) → IfSome (item_at shares slot) (CanRelease table)
  releases slot = by (item_at shares slot) refl
    where
      one : (k : ℕ) → holds_slot shares k ≡ true → (is_claimed_at table k ≡ true) × IsSome (object_at table k)
      one k has = go (slice_get slots k) refl (claims k has).1 (slot_at table k) refl
        where
          go : (said : Option SlotSaid) → slice_get slots k ≡ said → IsSome said → (found : Option Slot) → slot_at table k ≡ found
              → (is_claimed_at table k ≡ true) × IsSome (object_at table k)
          go None is there found at = absurd (false_true there)
          go (Some said) is there None at = let e = full k has (Some said) is there None at in absurd (cc e)
          go (Some said) is there (Some found) at =
              let e = full k has (Some said) is there (Some found) at in
              let seen = seen_parts found said e in (
                ap (λ (o : Option Slot). option_map_or (λ (each : Slot). each.is_claimed) o false) at ∙ seen.0,
                ap (λ (o : Option Slot). is_some (option_and_then (λ (each : Slot). each.object) o)) at ∙ some_object found.object seen.1,
              )
            where
              some_object : (o : Option Handle) → option_map seen_as o ≡ Some (said.size, said.bytes) → is_some o ≡ true
              some_object None e = absurd (cc e)
              some_object (Some handle) e = refl

      by : (o : Option Item) → item_at shares slot ≡ o → IfSome o (CanRelease table)
      by None at = tt
      by (Some (Range k off len)) at = one k (held_range shares slot k off len at)
      by (Some (Memory piece bytes)) at = tt
      by (Some (Paged piece page off len)) at = tt
      by (Some (Reserved piece len)) at = tt
      by (Some (File name stamp off len)) at = tt

  released : AreReleased slots claimed later freed table
  released = record {
    releasable = freed_releasable table shares later freed goes.weighs apart releases;
    handles = λ k. ap slot_seen (slot_all freed table k)
        ∙ handles_now k (list_any (is_range_of k) freed) (holds_slot shares k) (holds_slot later k) refl refl refl;
    claims = claims_now;
  }

pub handles_let_go : HandlesLetGo
handles_let_go = released
