-- The objects of ranges that go can be dropped, and those of the ranges that are left are there.
use Rattle.std.proofs.Common.{◌≡◌, ℕ, ◌+◌, ◌≤◌, ◌==◌, Bool, true, false, cond, List, [], ◌∷◌, ◌++◌, Option, Some, None, refl, ap, ◌∙◌, arith}
use Rattle.std.specs.Prelude.{fold, is_some, option_and_then, sum_by, IfSome, IsSome}
use Rattle.std.specs.List.{list_any}
use Rattle.std.specs.Option.{option_map_or}
use Rattle.std.proofs.lemmas.Bool.{eq-eqb}
use Rattle.std.proofs.lemmas.List.Sums.{sum_by-append, sum_by-cons}
use Rattle.data_handles.specs.Table.{is_claimed_at, object_at, slot_at, Slot, Table}
use Rattle.item_shares.specs.Shares.{item_at}
use Rattle.item_shares.specs.Weights.{weights}
use Rattle.item_shares.specs.declared.item.Item.{Item}
use Rattle.item_shares.specs.declared.item.Item.TheVariants.{Memory, Paged, Reserved, File, Range}
use Rattle.item_shares.specs.declared.shares.Share.{Share}
use Rattle.store_laws.specs.Items.{holds_slot, is_range_of}
use Rattle.store_laws.specs.LetGo.{AreFreed}
use Rattle.store_laws.specs.Releasing.{released_by, AreReleasable, CanRelease}
use Rattle.store_laws.specs.Weights.{range_weight}
use Rattle.store_laws.proofs.Letting.{none_in, some_in, some_of}
use Rattle.store_laws.proofs.Releasing.{freed_releasable, held_range, left_slot, slot_all}
use Rattle.blob_store.specs.Unheld.{HaveObjects}
use Rattle.blob_store.proofs.PiecesGoing.{fold_append}

first_releasable : (one two : List Item) (table : Table) → AreReleasable table (one ++ two) → AreReleasable table one
first_releasable [] two table are = tt
first_releasable (item ∷ one) two table are = (are.0, first_releasable one two (released_by table item) are.1)

-- items that are no ranges release nothing
still_released : (items : List Item) (table : Table) → ((k : ℕ) → sum_by (range_weight k) items ≡ 0) → fold released_by table items ≡ table
still_released [] table none = refl
still_released (item ∷ items) table none =
    still_released items (released_by table item) (λ k. let sum = sum_by-cons (range_weight k) item items in let all = none k in omega (arith, sum, all))
    ∙ one item (λ k. let sum = sum_by-cons (range_weight k) item items in let all = none k in omega (arith, sum, all))
  where
    one : (each : Item) → ((k : ℕ) → range_weight k each ≡ 0) → released_by table each ≡ table
    one (Memory piece bytes) is = refl
    one (Paged piece page off len) is = refl
    one (Reserved piece len) is = refl
    one (File name stamp off len) is = refl
    one (Range slot off len) is =
        absurd (let none_here : cond {A = ℕ} (slot == slot) 1 0 ≡ 0 = is slot in
        let own = ap {B = ℕ} (λ (b : Bool). cond b 1 0) (eq-eqb slot slot refl) in omega (arith, none_here, own))

pub released_first : (one two : List Item) (table : Table) → ((k : ℕ) → sum_by (range_weight k) two ≡ 0)
    → fold released_by table (one ++ two) ≡ fold released_by table one
released_first one two table none = fold_append released_by one two table ∙ still_released two (fold released_by table one) none

module _ (table : Table) (shares later : List (Option Share)) (freed pieces : List Item) (has : HaveObjects shares table)
    (few : (k : ℕ) → weights (range_weight k) shares ≤ 1) (goes : AreFreed shares later (freed ++ pieces)) where
  there : (slot : ℕ) → IfSome (item_at shares slot) (CanRelease table)
  there slot = by (item_at shares slot) refl
    where
      by : (o : Option Item) → item_at shares slot ≡ o → IfSome o (CanRelease table)
      by None at = tt
      by (Some (Memory piece bytes)) at = tt
      by (Some (Paged piece page off len)) at = tt
      by (Some (Reserved piece len)) at = tt
      by (Some (File name stamp off len)) at = tt
      by (Some (Range k off len)) at = has k (held_range shares slot k off len at)

  pub releasable_unheld : AreReleasable table freed
  releasable_unheld =
      first_releasable freed pieces table (freed_releasable table shares later (freed ++ pieces) goes.weighs few there)

  pub objects_left : HaveObjects later (fold released_by table freed)
  objects_left k holds = by (holds_slot shares k) refl (list_any (is_range_of k) freed) refl
    where
      all : sum_by (range_weight k) freed + sum_by (range_weight k) pieces + weights (range_weight k) later ≡ weights (range_weight k) shares
      all = let sum = goes.weighs (range_weight k) in let parts = sum_by-append (range_weight k) freed pieces in omega (arith, sum, parts)

      by : (held : Bool) → holds_slot shares k ≡ held → (went : Bool) → list_any (is_range_of k) freed ≡ went
          → (is_claimed_at (fold released_by table freed) k ≡ true) × IsSome (object_at (fold released_by table freed) k)
      by false at went is =
          let none = none_in (is_range_of k) shares at in
          let some = some_in (is_range_of k) later holds in let sum = all in absurd (omega (arith, none, some, sum))
      by true at true is =
          let gone = some_of (is_range_of k) freed is in
          let some = some_in (is_range_of k) later holds in
          let sum = all in let most = few k in absurd (omega (arith, gone, some, sum, most))
      by true at false is =
          let same : slot_at (fold released_by table freed) k ≡ slot_at table k =
          slot_all freed table k ∙ ap (λ (b : Bool). left_slot b (slot_at table k)) is in (
            ap (λ (found : Option Slot). option_map_or (λ (one : Slot). one.is_claimed) found false) same ∙ (has k at).0,
            ap (λ (found : Option Slot). is_some (option_and_then (λ (one : Slot). one.object) found)) same ∙ (has k at).1,
          )
