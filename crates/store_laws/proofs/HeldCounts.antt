-- A piece is held exactly where a view is on its slot, or it is on its way to a page file.
use Rattle.std.proofs.Common.{◌≡◌, ℕ, zero, suc, ◌+◌, ◌<◌, ◌==◌, Bool, true, false, ◌||◌}
use Rattle.std.proofs.Common.{List, [], ◌∷◌, refl, ap, subst, sym, ◌∙◌, arith, Option, Some, None, ⊎_elim}
use Rattle.std.specs.Prelude.{cond, count_by, IfSome}
use Rattle.std.specs.Option.{option_map, option_map_or}
use Rattle.std.specs.List.{list_any}
use Rattle.std.proofs.lemmas.Bool.{eqb-true, eq-eqb}
use Rattle.std.proofs.lemmas.List.Sums.{sum_by-cons}
use Rattle.item_shares.specs.declared.shares.Share.{Share}
use Rattle.item_shares.specs.Shares.{share_at}
use Rattle.blob_items.specs.declared.view.View.{View}
use Rattle.blob_entries.specs.Counts.{count_at, views_on}
use Rattle.blob_model.proofs.Lists.{false_true}
use Rattle.blob_model.proofs.Lists.{or_cases}
use Rattle.blob_model.proofs.Lists.{or_first}
use Rattle.blob_model.proofs.Lists.{or_second}
use Rattle.store_laws.specs.Items.{piece_by, piece_at, piece_of_share, is_number, holds_piece}
use Rattle.store_laws.proofs.Viewed.{iff_true}

pub any-counted : {X : Type 0} (test : X → Bool) (xs : List X) → 0 < count_by test xs → list_any test xs ≡ true
any-counted test [] some = absurd (omega arith)
any-counted {X = X} test (x ∷ xs) some = go (test x) refl (sum_by-cons (λ (y : X). cond (test y) 1 0) x xs) (any-counted test xs)
  where
    go : (b : Bool) → test x ≡ b → count_by test (x ∷ xs) ≡ cond (test x) 1 0 + count_by test xs → (0 < count_by test xs → list_any test xs ≡ true)
        → (test x || list_any test xs) ≡ true
    go true at sums rest = or_first (test x) (list_any test xs) at
    go false at sums rest =
        let none = ap {B = ℕ} (λ (b : Bool). cond b 1 0) at in
        or_second (test x) (list_any test xs) (rest (omega (arith, some, sums, none)))

-- the slot with a piece
pub slot_of : (number : ℕ) (shares : List (Option Share)) → holds_piece shares number ≡ true → (k : ℕ) × (piece_at shares k ≡ Some number)
slot_of number [] e = absurd (false_true e)
slot_of number (share ∷ shares) e =
    ⊎_elim (λ (here : is_number number (piece_of_share share) ≡ true). (0, is_some_number number (piece_of_share share) here))
    (λ (more : holds_piece shares number ≡ true). let rest = slot_of number shares more in (suc rest.0, rest.1))
    (or_cases (is_number number (piece_of_share share)) (holds_piece shares number) e)
  where
    is_some_number : (number : ℕ) (o : Option ℕ) → is_number number o ≡ true → o ≡ Some number
    is_some_number number None e = absurd (false_true e)
    is_some_number number (Some one) e = ap Some (eqb-true one number e)

pub at_slot : (number k : ℕ) (shares : List (Option Share)) → is_number number (piece_at shares k) ≡ true → holds_piece shares number ≡ true
at_slot number k [] e = absurd (false_true e)
at_slot number zero (share ∷ shares) e = or_first (is_number number (piece_of_share share)) (holds_piece shares number) e
at_slot number (suc k) (share ∷ shares) e = or_second (is_number number (piece_of_share share)) (holds_piece shares number) (at_slot number k shares e)

-- a slot with a piece has a count
some_count : (shares : List (Option Share)) (k number : ℕ) → IfSome (share_at shares k) (λ share. 0 < share.count) → piece_at shares k ≡ Some number
    → 0 < count_at shares k
some_count shares k number counted e = go (share_at shares k) refl counted e
  where
    go : (o : Option Share) → share_at shares k ≡ o → IfSome (share_at shares k) (λ share. 0 < share.count)
        → piece_by (option_map (λ (one : Share). one.item) (share_at shares k)) ≡ Some number → 0 < count_at shares k
    go None at counted e = absurd (cc (sym (ap (λ (o : Option Share). piece_by (option_map (λ (one : Share). one.item) o)) at) ∙ e))
    go (Some share) at counted e =
        let some : 0 < share.count = subst (λ (o : Option Share). IfSome o (λ one. 0 < one.count)) at counted in
        subst (λ (o : Option Share). 0 < option_map_or (λ (one : Share). one.count) o 0) (sym at) some

module _ (shares : List (Option Share)) (views : List View) (pinned : List ℕ) (number : ℕ) where
  any_on : (k : ℕ) → piece_at shares k ≡ Some number → (list : List View) → list_any (λ (view : View). view.slot == k) list ≡ true
      → list_any (λ (view : View). is_number number (piece_at shares view.slot)) list ≡ true
  any_on k e [] f = absurd (false_true f)
  any_on k e (view ∷ list) f =
      ⊎_elim
      (λ (here : (view.slot == k) ≡ true).
      or_first (is_number number (piece_at shares view.slot)) (list_any (λ (each : View). is_number number (piece_at shares each.slot)) list)
      (ap (λ (o : Option ℕ). is_number number o) (ap (piece_at shares) (eqb-true view.slot k here) ∙ e) ∙ eq-eqb number number refl))
      (λ (more : list_any (λ (each : View). each.slot == k) list ≡ true).
      or_second (is_number number (piece_at shares view.slot)) (list_any (λ (each : View). is_number number (piece_at shares each.slot)) list)
      (any_on k e list more))
      (or_cases (view.slot == k) (list_any (λ (each : View). each.slot == k) list) f)

  any_pinned : (k : ℕ) → piece_at shares k ≡ Some number → (list : List ℕ) → list_any (λ (each : ℕ). each == k) list ≡ true
      → list_any (λ (each : ℕ). is_number number (piece_at shares each)) list ≡ true
  any_pinned k e [] f = absurd (false_true f)
  any_pinned k e (slot ∷ list) f =
      ⊎_elim
      (λ (here : (slot == k) ≡ true).
      or_first (is_number number (piece_at shares slot)) (list_any (λ (each : ℕ). is_number number (piece_at shares each)) list)
      (ap (λ (o : Option ℕ). is_number number o) (ap (piece_at shares) (eqb-true slot k here) ∙ e) ∙ eq-eqb number number refl))
      (λ (more : list_any (λ (each : ℕ). each == k) list ≡ true).
      or_second (is_number number (piece_at shares slot)) (list_any (λ (each : ℕ). is_number number (piece_at shares each)) list) (any_pinned k e list more))
      (or_cases (slot == k) (list_any (λ (each : ℕ). each == k) list) f)

  pub back_views : (list : List View) → list_any (λ (view : View). is_number number (piece_at shares view.slot)) list ≡ true → holds_piece shares number ≡ true
  back_views [] e = absurd (false_true e)
  back_views (view ∷ list) e =
      ⊎_elim (λ (here : is_number number (piece_at shares view.slot) ≡ true). at_slot number view.slot shares here)
      (λ (more : list_any (λ (each : View). is_number number (piece_at shares each.slot)) list ≡ true). back_views list more)
      (or_cases (is_number number (piece_at shares view.slot)) (list_any (λ (each : View). is_number number (piece_at shares each.slot)) list) e)

  pub back_pinned : (list : List ℕ) → list_any (λ (slot : ℕ). is_number number (piece_at shares slot)) list ≡ true → holds_piece shares number ≡ true
  back_pinned [] e = absurd (false_true e)
  back_pinned (slot ∷ list) e =
      ⊎_elim (λ (here : is_number number (piece_at shares slot) ≡ true). at_slot number slot shares here)
      (λ (more : list_any (λ (each : ℕ). is_number number (piece_at shares each)) list ≡ true). back_pinned list more)
      (or_cases (is_number number (piece_at shares slot)) (list_any (λ (each : ℕ). is_number number (piece_at shares each)) list) e)

  -- the law
  pub held-counted : ((slot : ℕ) → count_at shares slot ≡ views_on slot views + count_by (λ (each : ℕ). each == slot) pinned) → ((slot : ℕ)
      → IfSome (share_at shares slot) (λ share. 0 < share.count))
      → holds_piece shares number ≡ (list_any (λ (view : View). is_number number (piece_at shares view.slot)) views || list_any (λ
      (slot : ℕ). is_number number (piece_at shares slot)) pinned)
  held-counted counts positive =
      let viewed = list_any (λ (view : View). is_number number (piece_at shares view.slot)) views in
      let on_way = list_any (λ (slot : ℕ). is_number number (piece_at shares slot)) pinned in
      iff_true (holds_piece shares number) (viewed || on_way)
      (λ e.
      let slot = slot_of number shares e in
      let k = slot.0 in
      let some = some_count shares k number (positive k) slot.1 in
      let sum = counts k in
      go k slot.1 (views_on k views) refl sum some)
      (λ e. ⊎_elim (λ (view : viewed ≡ true). back_views views view) (λ (way : on_way ≡ true). back_pinned pinned way) (or_cases viewed on_way e))
    where
      go : (k : ℕ) → piece_at shares k ≡ Some number → (n : ℕ) → views_on k views ≡ n → count_at shares k ≡ views_on k views + count_by (λ
          (each : ℕ). each == k) pinned → 0 < count_at shares k
          → (list_any (λ (view : View). is_number number (piece_at shares view.slot)) views || list_any (λ (slot : ℕ). is_number number
          (piece_at shares slot)) pinned) ≡ true
      go k at zero none sum some =
          or_second (list_any (λ (view : View). is_number number (piece_at shares view.slot)) views) (list_any (λ (slot : ℕ). is_number number
          (piece_at shares slot)) pinned)
          (any_pinned k at pinned (any-counted (λ (each : ℕ). each == k) pinned (omega (arith, none, sum, some))))
      go k at (suc n) is sum some =
          or_first (list_any (λ (view : View). is_number number (piece_at shares view.slot)) views) (list_any (λ (slot : ℕ). is_number number
          (piece_at shares slot)) pinned)
          (any_on k at views (any-counted (λ (view : View). view.slot == k) views (omega (arith, is))))
