-- What the read of a part of an item says of its cells.
use Rattle.std.proofs.Common.{◌≡◌, ℕ, zero, suc, ◌+◌, ◌<◌, Bool, true, false, List, [], ◌∷◌, ◌++◌, drop, length, map, take, Option, Some, None, refl, ap, arith}
use Rattle.std.specs.Prelude.{◌||◌, slice_get, option_and_then, IfSome}
use Rattle.std.specs.List.{list_any, range_with_len}
use Rattle.item_shares.specs.declared.item.Item.{Item}
use Rattle.item_shares.specs.declared.shares.Share.{Share}
use Rattle.item_shares.specs.Shares.{item_at}
use Rattle.range_reader.specs.Bytes.{Origins, AreBytesOf, cell_byte, item_bytes}

-- so many cells of a slot from a place on
abbrev pub cells_of : ℕ → ℕ → ℕ → List (ℕ × ℕ)
cells_of slot place count = map (λ (at : ℕ). (slot, at)) (range_with_len place count)

-- bytes of two runs of cells, one behind the other
pub bytes_both : (byte : ℕ × ℕ → Option ℕ) (cells more : List (ℕ × ℕ)) (bytes rest : List ℕ) → AreBytesOf byte cells bytes
    → AreBytesOf byte more rest → AreBytesOf byte (cells ++ more) (bytes ++ rest)
bytes_both byte [] more [] rest are are_too = are_too
bytes_both byte [] more (one ∷ bytes) rest are are_too = absurd are
bytes_both byte (cell ∷ cells) more [] rest are are_too = absurd are
bytes_both byte (cell ∷ cells) more (one ∷ bytes) rest are are_too = (are.0, bytes_both byte cells more bytes rest are.1 are_too)

head_of : (all : List ℕ) (place one count : ℕ) (bytes : List ℕ) → one ∷ bytes ≡ take (suc count) (drop place all)
    → (slice_get all place ≡ Some one) × (bytes ≡ take count (drop (place + 1) all))
head_of [] zero one count bytes is = absurd (cc)
head_of [] (suc place) one count bytes is = absurd (cc)
head_of (first ∷ all) zero one count bytes is = (cc, cc)
head_of (first ∷ all) (suc place) one count bytes is =
    let next : suc place + 1 ≡ suc (place + 1) = omega arith in
    rw next (head_of all place one count bytes is)

-- told bytes of an item are those of its cells
told_cells : (byte : ℕ × ℕ → Option ℕ) (slot : ℕ) (all : List ℕ) → ((at : ℕ) → byte (slot, at) ≡ slice_get all at)
    → (place : ℕ) (bytes : List ℕ) → bytes ≡ take (length bytes) (drop place all) → AreBytesOf byte (cells_of slot place (length bytes)) bytes
told_cells byte slot all is place [] whole = tt
told_cells byte slot all is place (one ∷ bytes) whole =
    let head = head_of all place one (length bytes) bytes whole in
    (rw (is place, head.0) refl, told_cells byte slot all is (place + 1) bytes head.1)

untold_cells : (byte : ℕ × ℕ → Option ℕ) (slot : ℕ) → ((at : ℕ) → byte (slot, at) ≡ None) → (place : ℕ) (bytes : List ℕ)
    → AreBytesOf byte (cells_of slot place (length bytes)) bytes
untold_cells byte slot is place [] = tt
untold_cells byte slot is place (one ∷ bytes) = (rw (is place) tt, untold_cells byte slot is (place + 1) bytes)

-- the bytes of a part of an item are those of its cells, where they are told
pub part_bytes : (from : Origins) (shares : List (Option Share)) (slot : ℕ) (item : Item) → item_at shares slot ≡ Some item → (place : ℕ) (bytes : List ℕ)
    → IfSome (item_bytes from item) (λ all. bytes ≡ take (length bytes) (drop place all))
    → AreBytesOf (cell_byte from shares) (cells_of slot place (length bytes)) bytes
part_bytes from shares slot item there place bytes are = by (item_bytes from item) refl are
  where
    at : (found : Option (List ℕ)) → item_bytes from item ≡ found → (place : ℕ)
        → cell_byte from shares (slot, place) ≡ option_and_then (λ all. slice_get all place) found
    at found is place = rw (there, is) refl

    by : (found : Option (List ℕ)) → item_bytes from item ≡ found → IfSome found (λ all. bytes ≡ take (length bytes) (drop place all))
        → AreBytesOf (cell_byte from shares) (cells_of slot place (length bytes)) bytes
    by None is are = untold_cells (cell_byte from shares) slot (at None is) place bytes
    by (Some all) is are = told_cells (cell_byte from shares) slot all (at (Some all) is) place bytes are

-- as many cells as asked for
pub length_cells_of : (slot place count : ℕ) → length (cells_of slot place count) ≡ count
length_cells_of slot place zero = refl
length_cells_of slot place (suc count) = ap suc (length_cells_of slot (place + 1) count)

pub none_passes : (test : ℕ × ℕ → Bool) (slot place count : ℕ) → ((at : ℕ) → at < place + count → test (slot, at) ≡ false)
    → list_any test (cells_of slot place count) ≡ false
none_passes test slot place zero none = refl
none_passes test slot place (suc count) none =
    rw (none place (omega arith)) (none_passes test slot (place + 1) count (λ at below. none at (omega (arith, below))))

pub last_passes : (test : ℕ × ℕ → Bool) (slot place count : ℕ) → test (slot, place + count) ≡ true → list_any test (cells_of slot place (suc count)) ≡ true
last_passes test slot place zero last =
    let same : place + 0 ≡ place = omega arith in
    let here : test (slot, place) ≡ true = rw same at last in
    rw here refl
last_passes test slot place (suc count) last =
    let same : place + suc count ≡ place + 1 + count = omega arith in
    or_true (test (slot, place)) (last_passes test slot (place + 1) count (rw (← same) last))
  where
    or_true : (one : Bool) {other : Bool} → other ≡ true → (one || other) ≡ true
    or_true true is = refl
    or_true false is = is

-- a cell that passes a test, behind some that don't
pub record Splits (test : ℕ × ℕ → Bool) (cells : List (ℕ × ℕ)) : Type 0 where
  pub front : List (ℕ × ℕ)
  pub cell : ℕ × ℕ
  pub rest : List (ℕ × ℕ)
  pub parts : cells ≡ front ++ cell ∷ rest
  pub before : list_any test front ≡ false
  pub passes : test cell ≡ true

splits_at : (test : ℕ × ℕ → Bool) (cell : ℕ × ℕ) (cells : List (ℕ × ℕ)) (found : Bool) → test cell ≡ found → (list_any test cells ≡ true
    → Splits test cells) → (found || list_any test cells) ≡ true → Splits test (cell ∷ cells)
splits_at test cell cells true is more some = record { front = []; cell = cell; rest = cells; parts = refl; before = refl; passes = is }
splits_at test cell cells false is more some =
    let later = more some in
    record {
      front = cell ∷ later.front;
      cell = later.cell;
      rest = later.rest;
      parts = ap (λ (tail : List
          (ℕ × ℕ)). cell ∷ tail) later.parts;
      before = rw is later.before;
      passes = later.passes;
    }

pub splits : (test : ℕ × ℕ → Bool) (cells : List (ℕ × ℕ)) → list_any test cells ≡ true → Splits test cells
splits test [] any = cc
splits test (cell ∷ cells) any = splits_at test cell cells (test cell) refl (splits test cells) any
