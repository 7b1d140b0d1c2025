-- Pieces are found by their numbers; lists of numbers that differ.
use Rattle.std.proofs.Common.{◌≡◌, ℕ, ◌+◌, ◌-◌, ◌≤◌, ◌==◌, Bool, true, false, List, [], ◌∷◌, ◌++◌, map, length, refl, ap, subst, sym, ◌∙◌, arith, Option, Some, None}
use Rattle.std.specs.Prelude.{cond, find, filter_map, nat_le}
use Rattle.std.specs.Option.{option_map, option_map_or}
use Rattle.std.specs.List.{AllByRecursion, cons_option, range_with_len}
use Rattle.std.proofs.lemmas.Bool.{eqb-true, eq-eqb}
use Rattle.recent_items.specs.Recent.{enough, within, victims}
use Rattle.blob_model.specs.Builds.{Build}
use Rattle.blob_model.specs.Pieces.{Piece, pieces_from, numbered, spans_of, length_in}
use Rattle.blob_model.specs.Victims.{with_length}
use Rattle.blob_model.proofs.Lists.{PartOf, for_both, for_each, keeps, not_same, over, part_nil, part_over, skips}

-- ---- pieces by their numbers

-- the numbers count up from the first
abbrev pub AreNumbered : ℕ → List Piece → Type 0
AreNumbered n [] = Unit {0}
AreNumbered n (piece ∷ more) = (piece.number ≡ n) × AreNumbered (n + 1) more

numbered_two : (n : ℕ) (blob : ℕ) (spans : List (ℕ × ℕ)) (more : List Piece) → AreNumbered (n + length spans) more
    → AreNumbered n (numbered blob n spans ++ more)
numbered_two n blob [] more all = let same : n + length {A = ℕ × ℕ} [] ≡ n = omega arith in subst (λ (m : ℕ). AreNumbered m more) same all
numbered_two n blob (span ∷ spans) more all =
    let same : n + length (span ∷ spans) ≡ (n + 1) + length spans = omega arith in
    (refl, numbered_two (n + 1) blob spans more (subst (λ (m : ℕ). AreNumbered m more) same all))

-- pieces are numbered
pub pieces_numbered : (page n : ℕ) (list : List Build) → AreNumbered n (pieces_from page n list)
pieces_numbered page n [] = tt
pieces_numbered page n (build ∷ list) = numbered_two n build.name (spans_of page build) (pieces_from page (n + length (spans_of page build)) list)
    (pieces_numbered page (n + length (spans_of page build)) list)

-- the numbers are a range
pub numbers_range : (n : ℕ) (list : List Piece) → AreNumbered n list → map (λ (piece : Piece). piece.number) list ≡ range_with_len n (length list)
numbers_range n [] all = refl
numbers_range n (piece ∷ list) all = λ i. all.0 i ∷ numbers_range (n + 1) list all.1 i

-- no number is below the first
pub numbers_low : (n : ℕ) (list : List Piece) → AreNumbered n list → AllByRecursion (λ (piece : Piece). n ≤ piece.number) list
numbers_low n [] all = tt
numbers_low n (piece ∷ list) all =
    let here = all.0 in (
      omega (arith, here),
      for_each (λ (each : Piece). n + 1 ≤ each.number) (λ (each : Piece). n ≤ each.number) list (λ each low. omega (arith, low))
          (numbers_low (n + 1) list all.1),
    )

-- the first piece of this number
abbrev pub FoundIn : List Piece → ℕ → Piece → Type 0
FoundIn all n piece = find (λ (each : Piece). each.number == n) all ≡ Some piece

-- each piece is found by its number
pub all_by_number : (n : ℕ) (list : List Piece) → AreNumbered n list → AllByRecursion (λ (piece : Piece). FoundIn list piece.number piece) list
all_by_number n [] all = tt
all_by_number n (piece ∷ list) all = (
  (λ i. cond (eq-eqb piece.number piece.number refl i) (Some piece) (find (λ (each : Piece). each.number == piece.number) list)),
  for_both (λ (other : Piece). n + 1 ≤ other.number) (λ (other : Piece). FoundIn list other.number other)
      (λ (other : Piece). FoundIn (piece ∷ list) other.number other) list
      (λ other low found.
      let here = all.0 in
      let differs : (piece.number == other.number) ≡ false = not_same piece.number other.number (λ e. omega (arith, e, low, here)) in
      (λ i. cond (differs i) (Some piece) (find (λ (each : Piece). each.number == other.number) list)) ∙ found)
      (numbers_low (n + 1) list all.1) (all_by_number (n + 1) list all.1),
)

-- what is found has the number
pub found_number : (list : List Piece) (n : ℕ) (piece : Piece) → FoundIn list n piece → piece.number ≡ n
found_number [] n piece e = cc
found_number (x ∷ list) n piece e = go (x.number == n) refl e (found_number list n piece)
  where
    go : (b : Bool) → (x.number == n) ≡ b → cond b (Some x) (find (λ (each : Piece). each.number == n) list) ≡ Some piece
        → (FoundIn list n piece → piece.number ≡ n) → piece.number ≡ n
    go true at f rest = let same : x ≡ piece = cc in subst (λ (y : Piece). y.number ≡ n) same (eqb-true x.number n at)
    go false at f rest = rest f

-- what is found is found in a longer list
pub found_append : (list more : List Piece) (n : ℕ) (piece : Piece) → FoundIn list n piece → FoundIn (list ++ more) n piece
found_append [] more n piece e = cc
found_append (x ∷ list) more n piece e = go (x.number == n) e (found_append list more n piece)
  where
    go : (b : Bool) → cond b (Some x) (find (λ (each : Piece). each.number == n) list) ≡ Some piece → (FoundIn list n piece → FoundIn (list ++ more) n piece)
        → cond b (Some x) (find (λ (each : Piece). each.number == n) (list ++ more)) ≡ Some piece
    go true f rest = f
    go false f rest = rest f

-- the length of the number is that of the piece
pub length_found : (list : List Piece) (n : ℕ) (piece : Piece) → FoundIn list n piece → length_in list n ≡ piece.len
length_found list n piece e = ap (λ (o : Option Piece). option_map_or (λ (each : Piece). each.len) o 0) e

-- ---- parts of lists

abbrev pub firsts : List (ℕ × ℕ) → List ℕ
firsts entries = map (λ (entry : ℕ × ℕ). entry.0) entries

-- enough of the entries are a part
pub part_enough : (need : ℕ) (entries : List (ℕ × ℕ)) → PartOf (firsts (enough need entries)) (firsts entries)
part_enough need [] = over
part_enough need (entry ∷ entries) = go (nat_le need 0) (part_enough (need - entry.1) entries)
  where
    go : (b : Bool) → PartOf (firsts (enough (need - entry.1) entries)) (firsts entries) → PartOf (firsts (cond b [] (entry ∷ enough (need - entry.1) entries)))
        (firsts (entry ∷ entries))
    go true part = part_nil (firsts (entry ∷ entries))
    go false part = keeps entry.0 (firsts (enough (need - entry.1) entries)) (firsts entries) part

-- so are those within a bound
pub part_within : (most : ℕ) (entries : List (ℕ × ℕ)) → PartOf (firsts (within most entries)) (firsts entries)
part_within most [] = over
part_within most (entry ∷ entries) = go (nat_le entry.1 most) (part_within (most - entry.1) entries)
  where
    go : (b : Bool) → PartOf (firsts (within (most - entry.1) entries)) (firsts entries) → PartOf (firsts (cond b (entry ∷ within (most - entry.1) entries) []))
        (firsts (entry ∷ entries))
    go true part = keeps entry.0 (firsts (within (most - entry.1) entries)) (firsts entries) part
    go false part = part_nil (firsts (entry ∷ entries))

-- entries have the numbers that were used
pub part_lengths : (list : List Piece) (uses : List ℕ) → PartOf (firsts (filter_map (with_length list) uses)) uses
part_lengths list [] = over
part_lengths list (n ∷ uses) = go (find (λ (piece : Piece). piece.number == n) list) (λ piece e. found_number list n piece e) (part_lengths list uses)
  where
    go : (found : Option Piece) → ((piece : Piece) → found ≡ Some piece → piece.number ≡ n) → PartOf (firsts (filter_map (with_length list) uses)) uses
        → PartOf (firsts (cons_option (option_map (λ (piece : Piece). (piece.number, piece.len)) found) (filter_map (with_length list) uses))) (n ∷ uses)
    go None same part = skips n (firsts (filter_map (with_length list) uses)) uses part
    go (Some piece) same part =
        subst (λ (m : ℕ). PartOf (m ∷ firsts (filter_map (with_length list) uses)) (n ∷ uses)) (sym (same piece refl))
        (keeps n (firsts (filter_map (with_length list) uses)) uses part)

-- the chosen pieces are some of those ever used
pub part_victims : (need most : ℕ) (list : List Piece) (uses : List ℕ) → PartOf (victims need most (filter_map (with_length list) uses)) uses
part_victims need most list uses =
    let entries = filter_map (with_length list) uses in
    part_over (victims need most (filter_map (with_length list) uses)) (firsts (filter_map (with_length list) uses)) uses
    (part_over (victims need most (filter_map (with_length list) uses)) (firsts (enough need (filter_map (with_length list) uses)))
    (firsts (filter_map (with_length list) uses)) (part_within most (enough need (filter_map (with_length list) uses)))
    (part_enough need (filter_map (with_length list) uses)))
    (part_lengths list uses)
