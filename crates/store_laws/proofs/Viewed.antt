-- A piece owns a cell of views exactly where a view is on its item.
use Rattle.std.proofs.Common.{◌≡◌, ℕ, zero, suc, ◌+◌, ◌≤◌, ◌<◌, ◌==◌, Bool, true, false, ◌&&◌, ◌||◌, List}
use Rattle.std.proofs.Common.{[], ◌∷◌, map, length, refl, ap, subst, sym, ◌∙◌, arith, Option, Some, None, ⊎_elim}
use Rattle.std.specs.Prelude.{nat_le, nat_lt, IsSomeAnd}
use Rattle.std.specs.List.{AllByRecursion, list_any, range_with_len}
use Rattle.std.proofs.lemmas.Bool.{eqb-true, eq-eqb, le-leb, lt-ltb}
use Rattle.std.proofs.lemmas.List.{map-append}
use Rattle.std.proofs.lemmas.List.Folds.{list_any-append}
use Rattle.blob_words.specs.declared.limits.Limits.{Limits}
use Rattle.item_shares.specs.declared.item.Item.{Item}
use Rattle.item_shares.specs.declared.item.Item.TheVariants.{Memory, Paged, Reserved, File, Range}
use Rattle.item_shares.specs.declared.shares.Share.{Share}
use Rattle.item_shares.specs.Shares.{item_at}
use Rattle.blob_items.specs.declared.view.View.{View}
use Rattle.blob_items.specs.Cells.{cells, view_cells}
use Rattle.blob_model.specs.Builds.{filed, lent, Build}
use Rattle.blob_model.specs.Pieces.{Piece, owns, pieces_from}
use Rattle.blob_model.proofs.Lists.{false_true}
use Rattle.blob_model.proofs.Lists.{both}
use Rattle.blob_model.proofs.Lists.{or_cases}
use Rattle.blob_model.proofs.Lists.{or_first}
use Rattle.blob_model.specs.Order.{Distinct}
use Rattle.blob_model.proofs.builds.PieceNumbers.{FoundIn}
use Rattle.blob_model.proofs.builds.PieceNumbers.{found_number}
use Rattle.store_laws.specs.Cells.{piece_in, piece_cell, item_cell, cell_at, denoted}
use Rattle.store_laws.specs.Items.{piece_of_item, piece_by, piece_at, is_number, item_length, IsLongAs, IsInside}
use Rattle.store_laws.proofs.Owners.{one_owner}
use Rattle.store_laws.proofs.Denoted.{denoted-view}

-- ---- a range in which a test holds somewhere

pub some_at : {Y : Type 0} (test : Y → Bool) (g : ℕ → Y) (from len : ℕ) → list_any test (map g (range_with_len from len)) ≡ true
    → (k : ℕ) × (from ≤ k) × (k < from + len) × (test (g k) ≡ true)
some_at test g from zero e = absurd (false_true e)
some_at test g from (suc len) e =
    ⊎_elim (λ (here : test (g from) ≡ true). (from, omega arith, omega arith, here))
    (λ (more : list_any test (map g (range_with_len (from + 1) len)) ≡ true). let rest = some_at test g (from + 1) len more in (
      rest.0,
      omega
          (arith, rest.1),
      omega (arith, rest.2),
      rest.3,
    ))
    (or_cases (test (g from)) (list_any test (map g (range_with_len (from + 1) len))) e)

pub any_first : {Y : Type 0} (test : Y → Bool) (g : ℕ → Y) (from len : ℕ) → 0 < len → test (g from) ≡ true
    → list_any test (map g (range_with_len from len)) ≡ true
any_first test g from zero some e = absurd (omega arith)
any_first test g from (suc len) some e = or_first (test (g from)) (list_any test (map g (range_with_len (from + 1) len))) e

-- ---- a piece owns its own bytes and no others

pub owns_own : (piece : Piece) (place : ℕ) → place < piece.len → owns piece (piece_cell (Some piece) place) ≡ true
owns_own piece place within =
    both ((piece.blob == piece.blob) && nat_le piece.from (piece.from + place)) (nat_lt (piece.from + place) (piece.from + piece.len))
    (both (piece.blob == piece.blob) (nat_le piece.from (piece.from + place)) (eq-eqb piece.blob piece.blob refl) (le-leb piece.from (piece.from + place)
    (omega arith)))
    (lt-ltb (piece.from + place) (piece.from + piece.len) (omega arith))

-- two tests that hold together
pub iff_true : (a b : Bool) → (a ≡ true → b ≡ true) → (b ≡ true → a ≡ true) → a ≡ b
iff_true true b f g = sym (f refl)
iff_true false true f g = absurd (false_true (g refl))
iff_true false false f g = refl

module _ (l : Limits) (list : List Build) (distinct : Distinct list) (piece : Piece) (found : FoundIn (pieces_from l.page 0 list) piece.number piece) where
  abbrev all : List Piece
  all = pieces_from l.page 0 list

  pub piece_any : (number : ℕ) (o : Option Piece) (size off len : ℕ) → piece_in all number ≡ o → IsSomeAnd o (λ (one : Piece). size ≡ one.len) → 0 < len
      → off + len ≤ size
      → list_any (owns piece) (map (piece_cell o) (range_with_len off len)) ≡ (number == piece.number)
  piece_any number None size off len at sound some inside = absurd sound
  piece_any number (Some one) size off len at sound some inside =
      iff_true (list_any (owns piece) (map (piece_cell (Some one)) (range_with_len off len))) (number == piece.number)
      (λ e.
      let place = some_at (owns piece) (piece_cell (Some one)) off len e in
      let mine = owns_own one place.0 (omega (arith, place.2, sound)) in
      let number_is : one.number ≡ number = found_number all number one at in
      let at_one : FoundIn all one.number one = subst (λ (n : ℕ). FoundIn all n one) (sym number_is) at in
      let same : one ≡ piece = one_owner l list one piece (piece_cell (Some one) place.0) distinct at_one found mine place.3 in
      eq-eqb number piece.number (sym number_is ∙ ap (λ (each : Piece). each.number) same))
      (λ e.
      let number_is : number ≡ piece.number = eqb-true number piece.number e in
      let both_found : Some one ≡ Some piece = sym at ∙ ap (piece_in all) number_is ∙ found in
      let same : one ≡ piece = cc in
      any_first (owns piece) (piece_cell (Some one)) off len some
      (subst (λ (each : Piece). owns each (piece_cell (Some one) off) ≡ true) same (owns_own one off (omega (arith, sound)))))

  none_filed : (name : List ℕ) (stamp start off len : ℕ) → list_any (owns piece) (map (λ (place : ℕ). filed name stamp (start + place))
      (range_with_len off len)) ≡ false
  none_filed name stamp start off zero = refl
  none_filed name stamp start off (suc len) = none_filed name stamp start (off + 1) len

  none_lent : (slot start off len : ℕ) → list_any (owns piece) (map (λ (place : ℕ). lent slot (start + place)) (range_with_len off len)) ≡ false
  none_lent slot start off zero = refl
  none_lent slot start off (suc len) = none_lent slot start (off + 1) len

  pub item_any : (item : Item) (off len : ℕ) → IsLongAs all item (piece_of_item item) → 0 < len → off + len ≤ item_length item
      → list_any (owns piece) (map (item_cell all item) (range_with_len off len)) ≡ is_number piece.number (piece_of_item item)
  item_any (Memory number bytes) off len sound some inside = piece_any number.0 (piece_in all number.0) (length bytes) off len refl sound some inside
  item_any (Paged number page start size) off len sound some inside = piece_any number.0 (piece_in all number.0) size off len refl sound some inside
  item_any (Reserved number size) off len sound some inside = piece_any number.0 (piece_in all number.0) size off len refl sound some inside
  item_any (File name stamp start size) off len sound some inside = none_filed name stamp start off len
  item_any (Range slot start size) off len sound some inside = none_lent slot start off len

  pub view_by : (shares : List (Option Share)) (view : View) (o : Option Item) → item_at shares view.slot ≡ o
      → IsSomeAnd o (λ (item : Item). (view.off + view.len ≤ item_length item) × IsLongAs all item (piece_of_item item))
      → list_any (owns piece) (map (cell_at all shares) (view_cells view)) ≡ is_number piece.number (piece_by o)
  view_by shares view None at inside = absurd inside
  view_by shares view (Some item) at inside =
      ap (list_any (owns piece)) (denoted-view all shares view item at) ∙ item_any item view.off view.len inside.1 view.some inside.0

  -- a piece owns a cell of views exactly where one of them is on its item
  pub views_any : (shares : List (Option Share)) (views : List View) → AllByRecursion (IsInside all shares) views
      → list_any (owns piece) (denoted all shares views) ≡ list_any (λ (view : View). is_number piece.number (piece_at shares view.slot)) views
  views_any shares [] inside = refl
  views_any shares (view ∷ views) inside =
      ap (list_any (owns piece)) (map-append (cell_at all shares) (view_cells view) (cells views))
      ∙ list_any-append (owns piece) (map (cell_at all shares) (view_cells view)) (denoted all shares views)
      ∙ ap (λ (b : Bool). b || list_any (owns piece) (denoted all shares views)) (view_by shares view (item_at shares view.slot) refl inside.0)
      ∙ ap (λ (b : Bool). is_number piece.number (piece_at shares view.slot) || b) (views_any shares views inside.1)
