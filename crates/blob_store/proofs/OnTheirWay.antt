-- Pieces on their way to page files, while items go.
use Rattle.std.proofs.Common.{◌≡◌, ℕ, zero, suc, ◌+◌, ◌<◌, ◌==◌, Bool, true, false, cond, List, [], ◌∷◌, Option, Some, None, refl, ap, subst, sym, arith}
use Rattle.std.specs.Prelude.{count_by, flat_map, slice_get, IfSome, IsSomeAnd}
use Rattle.std.proofs.lemmas.Bool.{eq-eqb, eqb-true}
use Rattle.std.proofs.lemmas.List.Sums.{sum_by-append, sum_by-cons}
use Rattle.blob_words.specs.declared.limits.Limits.{Limits}
use Rattle.item_shares.specs.Shares.{item_at, HoldsPiece}
use Rattle.item_shares.specs.declared.item.Item.{Item}
use Rattle.item_shares.specs.declared.item.Item.TheVariants.{Memory, Paged, Reserved, File, Range}
use Rattle.item_shares.specs.declared.shares.Share.{Share}
use Rattle.store_laws.specs.PartLaws.{piece_lengths}
use Rattle.blob_store.specs.declared.row.Row.{Row}
use Rattle.blob_store.specs.declared.row.Sending.{Sending}
use Rattle.blob_store.specs.declared.row.Sending.TheVariants.{Settled, Waiting, Gathering, Writing}
use Rattle.blob_store.specs.Dropping.{AreOwn}
use Rattle.blob_store.specs.Rows.{pins, sending_slots}
use Rattle.blob_store.specs.Stored.{AreOnTheirWay, IsOnItsWay, IsSendingOf, RowStored}

count_first : (one : ℕ) (slots : List ℕ) (slot : ℕ)
    → count_by (λ (each : ℕ). each == slot) (one ∷ slots) ≡ cond (one == slot) 1 0 + count_by (λ (each : ℕ). each == slot) slots
count_first one slots slot = sum_by-cons (λ (each : ℕ). cond (each == slot) 1 0) one slots

way_piece : (number len : ℕ) (came : Bool) (item : Item) → IsOnItsWay number len came item → HoldsPiece item
way_piece number len true (Paged piece page off size) is = tt
way_piece number len true (Memory piece bytes) is = absurd is
way_piece number len true (Reserved piece size) is = absurd is
way_piece number len true (File name stamp off size) is = absurd is
way_piece number len true (Range handle off size) is = absurd is
way_piece number len false (Reserved piece size) is = tt
way_piece number len false (Memory piece bytes) is = absurd is
way_piece number len false (Paged piece page off size) is = absurd is
way_piece number len false (File name stamp off size) is = absurd is
way_piece number len false (Range handle off size) is = absurd is

-- an item that isn't in memory
abbrev pub IsElsewhere : Item → Type 0
IsElsewhere (Memory piece bytes) = ⊥
IsElsewhere item = Unit {0}

way_elsewhere : (number len : ℕ) (came : Bool) (item : Item) → IsOnItsWay number len came item → IsElsewhere item
way_elsewhere number len true (Memory piece bytes) is = absurd is
way_elsewhere number len false (Memory piece bytes) is = absurd is
way_elsewhere number len came (Paged piece page off size) is = tt
way_elsewhere number len came (Reserved piece size) is = tt
way_elsewhere number len came (File name stamp off size) is = tt
way_elsewhere number len came (Range handle off size) is = tt

-- what each item on its way has, those of slots with a pin have
module _ (P : Item → Type 0) (way : (number len : ℕ) (came : Bool) (item : Item) → IsOnItsWay number len came item → P item)
    (shares : List (Option Share)) where
  some_way : (number len : ℕ) (came : Bool) (o : Option Item) → IsSomeAnd o (IsOnItsWay number len came) → IsSomeAnd o P
  some_way number len came None is = absurd is
  some_way number len came (Some item) is = way number len came item is

  way_items : (lengths slots : List ℕ) (came : List Bool) (number slot : ℕ) → AreOnTheirWay shares number lengths slots came
      → 0 < count_by (λ (each : ℕ). each == slot) slots → IsSomeAnd (item_at shares slot) P
  way_items [] [] [] number slot are some = absurd (let none : count_by (λ (each : ℕ). each == slot) [] ≡ 0 = refl in omega (arith, none, some))
  way_items [] [] (one ∷ came) number slot are some = absurd are
  way_items [] (one ∷ slots) came number slot are some = absurd are
  way_items (len ∷ lengths) [] came number slot are some = absurd are
  way_items (len ∷ lengths) (one ∷ slots) [] number slot are some = absurd are
  way_items (len ∷ lengths) (one ∷ slots) (first ∷ came) number slot are some =
      go (one == slot) refl (way_items lengths slots came (number + 1) slot are.1)
    where
      go : (b : Bool) → (one == slot) ≡ b → (0 < count_by (λ (each : ℕ). each == slot) slots → IsSomeAnd (item_at shares slot) P)
          → IsSomeAnd (item_at shares slot) P
      go true at rest = subst (λ (k : ℕ). IsSomeAnd (item_at shares k) P) (eqb-true one slot at) (some_way number len first (item_at shares one) are.0)
      go false at rest =
          let sum = count_first one slots slot in
          let none = ap {B = ℕ} (λ (b : Bool). cond b 1 0) at in rest (omega (arith, sum, none, some))

  row_items : (limits : Limits) (row : Row) (sending : Sending) (slot : ℕ) → IsSendingOf limits shares row sending
      → 0 < count_by (λ (each : ℕ). each == slot) (sending_slots sending) → IsSomeAnd (item_at shares slot) P
  row_items limits row Settled slot is some = absurd (let none : count_by (λ (each : ℕ). each == slot) [] ≡ 0 = refl in omega (arith, none, some))
  row_items limits row Waiting slot is some = absurd (let none : count_by (λ (each : ℕ). each == slot) [] ≡ 0 = refl in omega (arith, none, some))
  row_items limits row (Gathering segments) slot is some =
      absurd (let none : count_by (λ (each : ℕ). each == slot) [] ≡ 0 = refl in omega (arith, none, some))
  row_items limits row (Writing slots came) slot is some = way_items (flat_map (piece_lengths limits.page) row.lengths) slots came row.first slot is some

  pub pinned_items : (limits : Limits) (rows : List Row) → ((number : ℕ) → IfSome (slice_get rows number) (RowStored limits shares)) → (slot : ℕ)
      → 0 < pins slot rows → IsSomeAnd (item_at shares slot) P
  pinned_items limits [] stored slot some = absurd (let none : pins slot [] ≡ 0 = refl in omega (arith, none, some))
  pinned_items limits (row ∷ rows) stored slot some =
      go (count_by (λ (each : ℕ). each == slot) (sending_slots row.sending)) refl (pinned_items limits rows (λ number. stored (suc number)) slot)
    where
      parted : pins slot (row ∷ rows) ≡ count_by (λ (each : ℕ). each == slot) (sending_slots row.sending) + pins slot rows
      parted = sum_by-append (λ (one : ℕ). cond (one == slot) 1 0) (sending_slots row.sending) (flat_map (λ (each : Row). sending_slots each.sending) rows)

      go : (n : ℕ) → count_by (λ (each : ℕ). each == slot) (sending_slots row.sending) ≡ n
          → (0 < pins slot rows → IsSomeAnd (item_at shares slot) P) → IsSomeAnd (item_at shares slot) P
      go zero at rest = let sum = parted in rest (omega (arith, sum, at, some))
      go (suc n) at rest = row_items limits row row.sending slot (stored 0).sending (omega (arith, at))

module _ (shares : List (Option Share)) (limits : Limits) (rows : List Row) (stored : (number : ℕ) → IfSome (slice_get rows number) (RowStored limits shares))
    (slot : ℕ) (some : 0 < pins slot rows) where
  -- what is pinned is a piece
  pub pinned_pieces : IsSomeAnd (item_at shares slot) HoldsPiece
  pinned_pieces = pinned_items HoldsPiece way_piece shares limits rows stored slot some

  -- and not in memory
  pub pinned_elsewhere : IsSomeAnd (item_at shares slot) IsElsewhere
  pinned_elsewhere = pinned_items IsElsewhere way_elsewhere shares limits rows stored slot some

pub own_of : (limits : Limits) (shares : List (Option Share)) (row : Row) (sending : Sending) → IsSendingOf limits shares row sending
    → AreOwn limits.page row.lengths sending
own_of limits shares row Settled is = tt
own_of limits shares row Waiting is = tt
own_of limits shares row (Gathering segments) is = is
own_of limits shares row (Writing slots came) is = tt

-- ---- where items of slots with a pin are where they were

module _ (shares later : List (Option Share)) where
  way_kept : (lengths slots : List ℕ) (came : List Bool) (number : ℕ) → AreOnTheirWay shares number lengths slots came
      → ((slot : ℕ) → 0 < count_by (λ (each : ℕ). each == slot) slots → item_at later slot ≡ item_at shares slot)
      → AreOnTheirWay later number lengths slots came
  way_kept [] [] [] number are kept = tt
  way_kept [] [] (one ∷ came) number are kept = absurd are
  way_kept [] (one ∷ slots) came number are kept = absurd are
  way_kept (len ∷ lengths) [] came number are kept = absurd are
  way_kept (len ∷ lengths) (one ∷ slots) [] number are kept = absurd are
  way_kept (len ∷ lengths) (one ∷ slots) (first ∷ came) number are kept = (
    subst (λ (o : Option Item). IsSomeAnd o (IsOnItsWay number len first)) (sym (kept one here)) are.0,
    way_kept lengths slots came (number + 1) are.1 (λ slot some. kept slot (let sum = count_first one slots slot in omega (arith, sum, some))),
  )
    where
      here : 0 < count_by (λ (each : ℕ). each == one) (one ∷ slots)
      here =
          let sum = count_first one slots one in
          let own = ap {B = ℕ} (λ (b : Bool). cond b 1 0) (eq-eqb one one refl) in omega (arith, sum, own)

  pub sending_kept : (limits : Limits) (row : Row) (sending : Sending) → IsSendingOf limits shares row sending
      → ((slot : ℕ) → 0 < count_by (λ (each : ℕ). each == slot) (sending_slots sending) → item_at later slot ≡ item_at shares slot)
      → IsSendingOf limits later row sending
  sending_kept limits row Settled is kept = tt
  sending_kept limits row Waiting is kept = is
  sending_kept limits row (Gathering segments) is kept = is
  sending_kept limits row (Writing slots came) is kept =
      way_kept (flat_map (piece_lengths limits.page) row.lengths) slots came row.first is kept
