-- A piece in memory may be the latest in the order of use, and there is room for it.
use Rattle.std.proofs.Common.{◌≡◌, ℕ, zero, suc, ◌+◌, ◌-◌, ◌<◌, ◌≤◌, ◌==◌, ◌&&◌, ◌||◌, not, Bool}
use Rattle.std.proofs.Common.{true, false, cond, List, [], ◌∷◌, ◌++◌, length, refl, sym, ap, subst, ◌∙◌}
use Rattle.std.proofs.Common.{Option, Some, None, get_or, take, arith}
use Rattle.std.specs.Prelude.{filter_map, flat_map, fold, nat_eq, slice_get, slice_index, IfSome, IsSomeAnd}
use Rattle.std.specs.List.{list_any, range_with_len, AllByRecursion, IsDistinct}
use Rattle.std.specs.Option.{option_map_or}
use Rattle.std.specs.Map.{keys_of}
use Rattle.std.proofs.lemmas.Bool.{eqb-true}
use Rattle.std.proofs.lemmas.Grind.{flat_map-append}
use Rattle.std.proofs.lemmas.List.{append-nil, take_more}
use Rattle.std.proofs.lemmas.List.Elements.{filter_map-append}
use Rattle.std.proofs.lemmas.Map.Entries.{length-keys_of}
use Rattle.std.proofs.lemmas.Map.Keys.{IsDistinct-cons}
use Rattle.std.proofs.lemmas.Map.Made.{IsDistinct-keys_filter}
use Rattle.std.proofs.lemmas.Map.Steps.{length-le_from_distinct_below}
use Rattle.std.proofs.lemmas.Option.{slice_get_within, slice_get-get_or}
use Rattle.item_shares.specs.Shares.{item_at}
use Rattle.item_shares.specs.declared.item.Item.{Item}
use Rattle.item_shares.specs.declared.item.Item.TheVariants.{Memory, Paged, Reserved, File, Range}
use Rattle.item_shares.specs.declared.shares.Share.{Share}
use Rattle.recent_items.specs.Recent.{is_there, without}
use Rattle.blob_registry.specs.declared.ended_blob.EndedBlob.{EndedBlob}
use Rattle.blob_model.proofs.Lists.{all_append, false_true, filter_all}
use Rattle.store_laws.specs.Pageable.{pageable_if}
use Rattle.store_laws.specs.Passing.{entered}
use Rattle.blob_store.specs.Passing.{in_memory, pieces_at, pieces_done, row_pieces, with_used, CanEnter}
use Rattle.blob_store.specs.Rows.{pieces_of_row, AreInTurn}
use Rattle.blob_store.specs.Stored.{IsInMemory, IsMemory}
use Rattle.blob_store.specs.declared.parts.Parts.{Parts}
use Rattle.blob_store.specs.declared.row.Row.{Row}
use Rattle.blob_store.proofs.OneMore.{turn_within}
use Rattle.blob_store.proofs.PiecesGoing.{fold_append}

-- a piece that was taken out is not there
pub taken_out : (piece : ℕ) (order : List (ℕ × ℕ)) → is_there piece (without piece order) ≡ false
taken_out piece [] = refl
taken_out piece (used ∷ order) = by (nat_eq piece used.0) refl (taken_out piece order)
  where
    by : (b : Bool) → nat_eq piece used.0 ≡ b → is_there piece (without piece order) ≡ false
        → is_there piece (cond (not b) (used ∷ without piece order) (without piece order)) ≡ false
    by true at rest = rest
    by false at rest = ap (λ (a : Bool). a || is_there piece (without piece order)) at ∙ rest

-- the others differ from it
others_differ : (piece : ℕ) (order : List (ℕ × ℕ)) → is_there piece order ≡ false → AllByRecursion (λ (other : ℕ). nat_eq piece other ≡ false) (keys_of order)
others_differ piece [] none = tt
others_differ piece (used ∷ order) none = by (nat_eq piece used.0) refl none (others_differ piece order)
  where
    by : (b : Bool) → nat_eq piece used.0 ≡ b → (b || is_there piece order) ≡ false
        → (is_there piece order ≡ false → AllByRecursion (λ (other : ℕ). nat_eq piece other ≡ false) (keys_of order))
        → AllByRecursion (λ (other : ℕ). nat_eq piece other ≡ false) (keys_of (used ∷ order))
    by true at none rest = absurd (false_true (sym none))
    by false at none rest = (at, rest none)

module _ (shares : List (Option Share)) (homes : List ℕ) where
  -- a piece in memory has a home
  below : (used : ℕ × ℕ) → IsInMemory shares homes used → used.0 < length homes
  below used is = by (slice_get homes used.0) refl is
    where
      by : (found : Option ℕ) → slice_get homes used.0 ≡ found → IsSomeAnd found (λ (slot : ℕ). IsSomeAnd (item_at shares slot) (IsMemory used))
          → used.0 < length homes
      by None at is = absurd is
      by (Some slot) at is = slice_get_within homes used.0 slot at

  all_below : (order : List (ℕ × ℕ)) → AllByRecursion (IsInMemory shares homes) order → (number : ℕ) → list_any (nat_eq number) (keys_of order) ≡ true
      → number < length homes
  all_below [] all number some = absurd (false_true some)
  all_below (used ∷ order) all number some = by (nat_eq number used.0) refl some (all_below order all.1 number)
    where
      by : (b : Bool) → nat_eq number used.0 ≡ b → (b || list_any (nat_eq number) (keys_of order)) ≡ true
          → (list_any (nat_eq number) (keys_of order) ≡ true → number < length homes) → number < length homes
      by true at some rest = subst (λ (n : ℕ). n < length homes) (sym (eqb-true number used.0 at)) (below used all.0)
      by false at some rest = rest some

  -- so there are fewer without the piece than pieces have homes
  pub fewer_used : (piece : ℕ) (order : List (ℕ × ℕ)) → piece < length homes → AllByRecursion (IsInMemory shares homes) order
      → IsDistinct nat_eq (keys_of order) → length (without piece order) < length homes
  fewer_used piece order within all apart =
      let rest = length-keys_of (without piece order) in
      let few =
      length-le_from_distinct_below (piece ∷ keys_of (without piece order)) (length homes)
      (IsDistinct-cons nat_eq piece (keys_of (without piece order)) (others_differ piece (without piece order) (taken_out piece order))
      (IsDistinct-keys_filter nat_eq (λ (used : ℕ × ℕ). not (nat_eq piece used.0)) order apart))
      (λ number some. here number (nat_eq number piece) refl some) in
      omega (arith, rest, few)
    where
      kept : AllByRecursion (IsInMemory shares homes) (without piece order)
      kept = filter_all (IsInMemory shares homes) (λ (used : ℕ × ℕ). not (nat_eq piece used.0)) order all

      here : (number : ℕ) (b : Bool) → nat_eq number piece ≡ b → (b || list_any (nat_eq number) (keys_of (without piece order))) ≡ true
          → number < length homes
      here number true at some = subst (λ (n : ℕ). n < length homes) (sym (eqb-true number piece at)) within
      here number false at some = all_below (without piece order) kept number some

  -- a piece with its length that is read off its home is in memory
  in_home : (number len slot : ℕ) (found : Option Item) → item_at shares slot ≡ found → pageable_if number false found ≡ Some (number, len)
      → slice_get homes number ≡ Some slot → IsInMemory shares homes (number, len)
  in_home number len slot found at is home =
      subst (λ (o : Option ℕ). IsSomeAnd o (λ (one : ℕ). IsSomeAnd (item_at shares one) (IsMemory (number, len)))) (sym home)
      (subst (λ (o : Option Item). IsSomeAnd o (IsMemory (number, len))) (sym at) (by found is))
    where
      by : (found : Option Item) → pageable_if number false found ≡ Some (number, len) → IsSomeAnd found (IsMemory (number, len))
      by None is = absurd (cc is)
      by (Some (Memory piece bytes)) is = go (piece.0 == number) refl is
        where
          go : (b : Bool) → (piece.0 == number) ≡ b → cond {A = Option (ℕ × ℕ)} (b && true) (Some (number, length bytes)) None ≡ Some (number, len)
              → (piece.0 ≡ number) × (length bytes ≡ len)
          go true at is = let same : (number, length bytes) ≡ (number, len) = cc is in (eqb-true piece.0 number at, ap (λ (one : ℕ × ℕ). one.1) same)
          go false at is = absurd (cc is)
      by (Some (Paged piece page off size)) is = absurd (cc is)
      by (Some (Reserved piece size)) is = absurd (cc is)
      by (Some (File name stamp off size)) is = absurd (cc is)
      by (Some (Range handle off size)) is = absurd (cc is)

  -- the order of use with it as the latest is one of pieces in memory
  pub entered_in_memory : (number len : ℕ) (order : List (ℕ × ℕ)) → number < length homes → AllByRecursion (IsInMemory shares homes) order
      → pageable_if number false (item_at shares (slice_index homes number)) ≡ Some (number, len)
      → AllByRecursion (IsInMemory shares homes) (entered order (number, len))
  entered_in_memory number len order within all is =
      all_append (IsInMemory shares homes) (without number order) ((number, len) ∷ [])
      (filter_all (IsInMemory shares homes) (λ (used : ℕ × ℕ). not (nat_eq number used.0)) order all)
      (in_home number len (slice_index homes number) (item_at shares (slice_index homes number)) refl is (slice_get-get_or homes number 0 within), tt)

-- ---- pieces one after the other

-- the pieces of a blob end where those of the next one begin, or where all end
turn_ends : (page next : ℕ) (rows : List Row) (last : ℕ) → AreInTurn page next rows last → (number : ℕ)
    → IfSome (slice_get rows number)
    (λ (row : Row). row.first + pieces_of_row page row ≡ option_map_or (λ (other : Row). other.first) (slice_get rows (suc number)) last)
turn_ends page next [] last turn number = tt
turn_ends page next (row ∷ []) last turn zero = let first = turn.0 in let rest = turn.1 in omega (arith, first, rest)
turn_ends page next (row ∷ other ∷ rows) last turn zero = let first = turn.0 in let second = turn.1.0 in omega (arith, first, second)
turn_ends page next (row ∷ rows) last turn (suc number) = turn_ends page (next + pieces_of_row page row) rows last turn.1 number

some_within : (rows : List Row) (number : ℕ) → number < length rows → slice_get rows number ≡ None → ⊥
some_within [] number within none = absurd (omega (arith, within))
some_within (row ∷ rows) zero within none = absurd (cc none)
some_within (row ∷ rows) (suc number) within none = some_within rows number (omega (arith, within)) none

pub pieces_end : (page last number : ℕ) (rows : List Row) → AreInTurn page 0 rows last → number < length rows → (end : ℕ)
    → option_map_or (λ (other : Row). other.first) (slice_get rows (number + 1)) last ≡ end
    → IsSomeAnd (slice_get rows number) (λ (row : Row). row.first + pieces_of_row page row ≡ end)
pieces_end page last number rows turn within end is = by (slice_get rows number) refl (turn_ends page 0 rows last turn number)
  where
    next : option_map_or (λ (other : Row). other.first) (slice_get rows (suc number)) last ≡ end
    next = ap (λ (n : ℕ). option_map_or (λ (other : Row). other.first) (slice_get rows n) last) (omega arith) ∙ is

    by : (found : Option Row) → slice_get rows number ≡ found
        → IfSome found (λ (row : Row). row.first + pieces_of_row page row ≡ option_map_or (λ (other : Row). other.first) (slice_get rows (suc number)) last)
        → IsSomeAnd found (λ (row : Row). row.first + pieces_of_row page row ≡ end)
    by None at ends = absurd (some_within rows number within at)
    by (Some row) at ends = ends ∙ next

module _ (parts : Parts) (number end : ℕ) (row : Row) (at : slice_get parts.rows number ≡ Some row)
    (ends : IsSomeAnd (slice_get parts.rows number) (λ (one : Row). one.first + pieces_of_row parts.limits.page one ≡ end)) where
  long : row.first + pieces_of_row parts.limits.page row ≡ end
  long = subst (λ (found : Option Row). IsSomeAnd found (λ (one : Row). one.first + pieces_of_row parts.limits.page one ≡ end)) at ends

  -- so they are those from its first one on to there
  pub pieces_are : pieces_at parts number ≡ range_with_len row.first (end - row.first)
  pieces_are =
      ap (λ (found : Option Row). option_map_or (row_pieces parts.limits.page) found []) at
      ∙ ap (range_with_len row.first) (let is = long in omega (arith, is))

  -- and each has a home
  pub piece_within : CanEnter parts → (done : ℕ) → done < end - row.first → row.first + done < length parts.homes
  piece_within enters done less =
      let is = long in
      let within : row.first + pieces_of_row parts.limits.page row ≤ length parts.homes =
      subst (λ (found : Option Row). IfSome found (λ (one : Row). one.first + pieces_of_row parts.limits.page one ≤ length parts.homes)) at
      (turn_within parts.limits.page 0 parts.rows (length parts.homes) enters.in_turn number) in
      omega (arith, is, within, less)

-- the next piece is used after those before it
pub used_more : (parts : Parts) (one two : List ℕ) → with_used two (with_used one parts) ≡ with_used (one ++ two) parts
used_more parts one two i = record parts { recent = (sym recent_so) i }
  where
    recent_so : fold entered parts.recent (filter_map (in_memory parts) (one ++ two))
        ≡ fold entered (fold entered parts.recent (filter_map (in_memory parts) one)) (filter_map (in_memory parts) two)
    recent_so =
        ap (fold entered parts.recent) (filter_map-append (in_memory parts) one two)
        ∙ fold_append entered (filter_map (in_memory parts) one) (filter_map (in_memory parts) two) parts.recent

pub range_more : (first count : ℕ) → range_with_len first (suc count) ≡ range_with_len first count ++ (first + count) ∷ []
range_more first zero = ap (λ (n : ℕ). n ∷ []) (omega arith)
range_more first (suc count) =
    ap (λ (rest : List ℕ). first ∷ rest)
    (range_more (first + 1) count ∙ ap (λ (n : ℕ). range_with_len (first + 1) count ++ n ∷ []) (omega arith))

-- and those of the next blob that ended after those of the blobs before it
pub used_next : (parts now : Parts) (list : List EndedBlob) (i : ℕ) (end : EndedBlob) → i < length list → end ≡ get_or list i end
    → now ≡ with_used (flat_map (pieces_done parts) (take i list)) parts
    → with_used (pieces_done now end) now ≡ with_used (flat_map (pieces_done parts) (take (i + 1) list)) parts
used_next parts now list i end within at is =
    ap (λ (one : Parts). with_used (pieces_done one end) one) is
    ∙ used_more parts (flat_map (pieces_done parts) (take i list)) (pieces_done parts end)
    ∙ ap (λ (numbers : List ℕ). with_used numbers parts)
    (ap (λ (last : List ℕ). flat_map (pieces_done parts) (take i list) ++ last) (sym (append-nil (pieces_done parts end)))
    ∙ sym (flat_map-append (pieces_done parts) (take i list) (end ∷ []))
    ∙ ap (λ (one : EndedBlob). flat_map (pieces_done parts) (take i list ++ one ∷ [])) at
    ∙ ap (flat_map (pieces_done parts)) (sym (take_more list i end within)))
