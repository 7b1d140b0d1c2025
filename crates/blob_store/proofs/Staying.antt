-- What the slots held, they hold when items come.
use Rattle.std.proofs.Common.{◌≡◌, ℕ, ◌+◌, ◌<◌, ◌≤◌, ◌==◌, ◌||◌, Bool, true, false, cond, List, [], ◌∷◌, Option, Some, None, map, refl, sym, ap, subst, ◌∙◌, arith}
use Rattle.std.specs.Prelude.{sum_by, IfSome, IsSomeAnd}
use Rattle.std.specs.List.{AllByRecursion}
use Rattle.std.specs.Option.{option_map, option_map_or}
use Rattle.std.proofs.lemmas.Bool.{eqb-true}
use Rattle.std.proofs.lemmas.List.Sums.{sum_by-cons}
use Rattle.item_shares.specs.Shares.{item_at, share_at, share_of}
use Rattle.item_shares.specs.Weights.{held_weight, weights}
use Rattle.item_shares.specs.declared.item.Item.{Item}
use Rattle.item_shares.specs.declared.shares.Share.{Share}
use Rattle.blob_items.specs.declared.view.View.{View}
use Rattle.blob_entries.specs.Counts.{count_at, one_at, views_on}
use Rattle.blob_entries.proofs.Counting.{on_cons}
use Rattle.store_laws.specs.Items.{holds_piece, is_number, piece_of_item}
use Rattle.blob_store.specs.Putting.{ArePut, is_seen}
use Rattle.blob_store.proofs.Putting.{on_none, seen_vacant}

-- 1 for an item of this piece
abbrev number_weight : ℕ → Item → ℕ
number_weight number item = cond (is_number number (piece_of_item item)) 1 0

-- a piece that no slot holds weighs nothing, and the other way round
weightless : (number : ℕ) (shares : List (Option Share)) → holds_piece shares number ≡ false → weights (number_weight number) shares ≡ 0
weightless number [] none = refl
weightless number (None ∷ shares) none =
    let sum = sum_by-cons (held_weight (number_weight number)) None shares in omega (arith, sum, weightless number shares none)
weightless number (Some share ∷ shares) none = by (is_number number (piece_of_item share.item)) refl none (weightless number shares)
  where
    by : (b : Bool) → is_number number (piece_of_item share.item) ≡ b → (b || holds_piece shares number) ≡ false
        → (holds_piece shares number ≡ false → weights (number_weight number) shares ≡ 0) → weights (number_weight number) (Some share ∷ shares) ≡ 0
    by true at none rest = absurd (cc none)
    by false at none rest =
        let first : number_weight number share.item ≡ 0 = ap {B = ℕ} (λ (b : Bool). cond b 1 0) at in
        let sum = sum_by-cons (held_weight (number_weight number)) (Some share) shares in
        omega (arith, first, sum, rest none)

unweighed : (number : ℕ) (shares : List (Option Share)) → weights (number_weight number) shares ≡ 0 → holds_piece shares number ≡ false
unweighed number [] none = refl
unweighed number (None ∷ shares) none =
    unweighed number shares
    (let sum = sum_by-cons (held_weight (number_weight number)) None shares in
    omega (arith, sum, none))
unweighed number (Some share ∷ shares) none = by (is_number number (piece_of_item share.item)) refl (unweighed number shares)
  where
    sum : weights (number_weight number) (Some share ∷ shares) ≡ number_weight number share.item + weights (number_weight number) shares
    sum = sum_by-cons (held_weight (number_weight number)) (Some share) shares

    by : (b : Bool) → is_number number (piece_of_item share.item) ≡ b → (weights (number_weight number) shares ≡ 0 → holds_piece shares number ≡ false)
        → (b || holds_piece shares number) ≡ false
    by true at rest = let first : number_weight number share.item ≡ 1 = ap {B = ℕ} (λ (b : Bool). cond b 1 0) at in absurd (omega (arith, first, sum, none))
    by false at rest =
        let first : number_weight number share.item ≡ 0 = ap {B = ℕ} (λ (b : Bool). cond b 1 0) at in rest (omega (arith, first, sum, none))

-- items of later pieces are of none of the earlier
later_weigh : (number last : ℕ) (items : List Item) → number < last
    → AllByRecursion (λ (item : Item). IfSome (piece_of_item item) (λ (one : ℕ). last ≤ one)) items → sum_by (number_weight number) items ≡ 0
later_weigh number last [] below later = refl
later_weigh number last (item ∷ items) below later =
    let first = by (piece_of_item item) later.0 in
    let rest = later_weigh number last items below later.1 in
    omega (arith, sum_by-cons (number_weight number) item items, first, rest)
  where
    other : (one : ℕ) (b : Bool) → (one == number) ≡ b → last ≤ one → cond {A = ℕ} b 1 0 ≡ 0
    other one true at past = let same = eqb-true one number at in absurd (omega (arith, same, past, below))
    other one false at past = refl

    by : (found : Option ℕ) → IfSome found (λ (one : ℕ). last ≤ one) → cond {A = ℕ} (is_number number found) 1 0 ≡ 0
    by None past = refl
    by (Some one) past = other one (one == number) refl past

module _ (old new : List (Option Share)) (items : List Item) (views : List View) (put : ArePut old items views new) where
  -- slots apart from the new ones
  pub item_apart : (slot : ℕ) → is_seen slot views ≡ false → item_at new slot ≡ item_at old slot
  item_apart slot away = ap (λ (one : Option Share). option_map (λ (share : Share). share.item) one) (put.others slot away)

  -- an item that was there is there
  pub item_still : (P : Item → Type 0) (slot : ℕ) → IsSomeAnd (item_at old slot) P → IsSomeAnd (item_at new slot) P
  item_still P slot is = by (is_seen slot views) refl
    where
      by : (b : Bool) → is_seen slot views ≡ b → IsSomeAnd (item_at new slot) P
      by true at =
          absurd (subst (λ (one : Option Share). IsSomeAnd (option_map (λ (share : Share). share.item) one) P)
          (seen_vacant old slot views put.vacant at) is)
      by false at = subst (λ (one : Option Item). IsSomeAnd one P) (sym (item_apart slot at)) is

  -- what is so of the items that were there and of the new ones is so of all
  pub items_still : (P Q : Item → Type 0) (slot : ℕ) → ((item : Item) → P item → Q item) → IfSome (item_at old slot) P
      → (is_seen slot views ≡ true → IfSome (item_at new slot) Q) → IfSome (item_at new slot) Q
  items_still P Q slot keeps was is = by (is_seen slot views) refl
    where
      kept : (held : Option Item) → IfSome held P → IfSome held Q
      kept None one = tt
      kept (Some item) one = keeps item one

      by : (b : Bool) → is_seen slot views ≡ b → IfSome (item_at new slot) Q
      by true at = is at
      by false at = subst (λ (one : Option Item). IfSome one Q) (sym (item_apart slot at)) (kept (item_at old slot) was)

  -- a slot that is seen held nothing
  pub none_counted : (slot : ℕ) → is_seen slot views ≡ true → count_at old slot ≡ 0
  none_counted slot at = ap (λ (one : Option Share). option_map_or (λ (share : Share). share.count) one 0) (seen_vacant old slot views put.vacant at)

  seen_once : (slot : ℕ) (more : List View) (held : List Item)
      → map (λ (view : View). share_at new view.slot) more ≡ map (λ (item : Item). Some (share_of item 1)) held → is_seen slot more ≡ true
      → (count_at new slot ≡ 1) × (0 < views_on slot more)
  seen_once slot [] held is at = absurd (cc at)
  seen_once slot (view ∷ more) [] is at = absurd (cc is)
  seen_once slot (view ∷ more) (item ∷ held) is at = by (view.slot == slot) refl at (seen_once slot more held rest)
    where
      here : share_at new view.slot ≡ Some (share_of item 1)
      here = cc is

      rest : map (λ (view : View). share_at new view.slot) more ≡ map (λ (item : Item). Some (share_of item 1)) held
      rest = cc is

      by : (b : Bool) → (view.slot == slot) ≡ b → (b || is_seen slot more) ≡ true
          → (is_seen slot more ≡ true → (count_at new slot ≡ 1) × (0 < views_on slot more)) → (count_at new slot ≡ 1) × (0 < views_on slot (view ∷ more))
      by true same at behind = (
        ap (λ (n : ℕ). count_at new n) (sym (eqb-true view.slot slot same))
            ∙ ap (λ (one : Option Share). option_map_or (λ (share : Share). share.count) one 0) here,
        let one : one_at view.slot slot ≡ 1 = ap {B = ℕ} (λ (b : Bool). cond b 1 0) same in omega (arith, on_cons slot view more, one),
      )
      by false same at behind = let both = behind at in (both.0, omega (arith, on_cons slot view more, both.1))

  -- each slot counts the new views on it beside those that it counted
  pub counted_more : (slot : ℕ) → count_at new slot ≡ count_at old slot + views_on slot views
  counted_more slot = by (is_seen slot views) refl
    where
      by : (b : Bool) → is_seen slot views ≡ b → count_at new slot ≡ count_at old slot + views_on slot views
      by true at =
          let both = seen_once slot views items put.held at in
          omega (arith, both.0, both.1, put.once slot, none_counted slot at)
      by false at =
          let same : count_at new slot ≡ count_at old slot =
          ap (λ (one : Option Share). option_map_or (λ (share : Share). share.count) one 0) (put.others slot at) in
          omega (arith, same, on_none slot views at)

  -- a piece that was no item is none, where the new items are of later ones
  pub unheld_still : (number last : ℕ) → number < last
      → AllByRecursion (λ (item : Item). IfSome (piece_of_item item) (λ (one : ℕ). last ≤ one)) items → holds_piece old number ≡ false
      → holds_piece new number ≡ false
  unheld_still number last below later none =
      unweighed number new
      (put.weighs (number_weight number)
      ∙ let was = weightless number old none in let none_new = later_weigh number last items below later in omega (arith, was, none_new))
