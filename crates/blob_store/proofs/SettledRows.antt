-- What rows are once some are settled.
use Rattle.std.proofs.Common.{◌≡◌, ℕ, zero, suc, ◌+◌, ◌<◌, ◌≤◌, ◌==◌, ◌||◌, Bool, true, false, List, [], ◌∷◌, Option, Some, None, length, map, refl}
use Rattle.std.proofs.Common.{ap, subst, sym, ◌∙◌, arith}
use Rattle.std.specs.Prelude.{fold, slice_get, slice_index, sum_by, IfSome}
use Rattle.std.specs.List.{list_any}
use Rattle.std.specs.Option.{option_map, option_map_or}
use Rattle.std.proofs.lemmas.Bool.{eq-eqb, eqb-true}
use Rattle.std.proofs.lemmas.List.Sums.{sum_by-cons}
use Rattle.std.proofs.lemmas.Option.{slice_get-get_or}
use Rattle.blob_entries.specs.Names.{number_of}
use Rattle.blob_model.proofs.Lists.{false_true}
use Rattle.blob_store.specs.declared.row.Row.{Row}
use Rattle.blob_store.specs.Dropping.{settled_at, settled_by, settled_row}
use Rattle.blob_store.specs.Rows.{pieces_of_row, AreInTurn}
use Rattle.blob_store.proofs.Settling.{settled_cons}

abbrev pub settled_if : Bool → Row → Row
settled_if true row = settled_row row
settled_if false row = row

-- whether the name has this number
abbrev pub is_numbered : List ℕ → ℕ → ℕ → Bool
is_numbered names number name = option_map_or (λ (one : ℕ). one == number) (number_of name names) false

-- the name of a number has this number, where names differ
pub own_number : (names : List ℕ) (number : ℕ) → number < length names
    → IfSome (slice_get names number) (λ (name : ℕ). number_of name names ≡ Some number)
    → is_numbered names number (slice_index names number) ≡ true
own_number names number less is =
    let named : number_of (slice_index names number) names ≡ Some number =
    subst (λ (o : Option ℕ). IfSome o (λ (name : ℕ). number_of name names ≡ Some number)) (slice_get-get_or names number 0 less) is in
    ap {B = Bool} (λ (o : Option ℕ). option_map_or (λ (one : ℕ). one == number) o false) named ∙ eq-eqb number number refl

eq_suc : (n k : ℕ) → (suc n == suc k) ≡ (n == k)
eq_suc n k = go (n == k) refl
  where
    apart : (n == k) ≡ false → (b : Bool) → (suc n == suc k) ≡ b → (suc n == suc k) ≡ false
    apart at true is =
        let same : suc n ≡ suc k = eqb-true (suc n) (suc k) is in
        absurd (false_true (sym at ∙ eq-eqb n k (omega (arith, same))))
    apart at false is = is

    go : (b : Bool) → (n == k) ≡ b → (suc n == suc k) ≡ (n == k)
    go true at = eq-eqb (suc n) (suc k) (ap suc (eqb-true n k at)) ∙ sym at
    go false at = apart at (suc n == suc k) refl ∙ sym at

zero_suc : (k : ℕ) → (zero == suc k) ≡ false
zero_suc k = by (zero == suc k) refl
  where
    by : (b : Bool) → (zero == suc k) ≡ b → (zero == suc k) ≡ false
    by true at = let same : zero ≡ suc k = eqb-true zero (suc k) at in absurd (omega (arith, same))
    by false at = at

suc_zero : (k : ℕ) → (suc k == zero) ≡ false
suc_zero k = by (suc k == zero) refl
  where
    by : (b : Bool) → (suc k == zero) ≡ b → (suc k == zero) ≡ false
    by true at = let same : suc k ≡ zero = eqb-true (suc k) zero at in absurd (omega (arith, same))
    by false at = at

unsettled : (found : Option Row) → found ≡ option_map (settled_if false) found
unsettled None = refl
unsettled (Some row) = refl

pub get_settled : (rows : List Row) (number k : ℕ) → slice_get (settled_at number rows) k ≡ option_map (settled_if (number == k)) (slice_get rows k)
get_settled [] number k = refl
get_settled (one ∷ rows) zero zero = refl
get_settled (one ∷ rows) zero (suc k) =
    unsettled (slice_get rows k) ∙ ap {B = Option Row} (λ (b : Bool). option_map (settled_if b) (slice_get rows k)) (sym (zero_suc k))
get_settled (one ∷ rows) (suc number) zero =
    ap (λ (list : List Row). slice_get list zero) (settled_cons one rows number)
    ∙ ap {B = Option Row} (λ (b : Bool). Some (settled_if b one)) (sym (suc_zero number))
get_settled (one ∷ rows) (suc number) (suc k) =
    ap (λ (list : List Row). slice_get list (suc k)) (settled_cons one rows number) ∙ get_settled rows number k
    ∙ ap {B = Option Row} (λ (b : Bool). option_map (settled_if b) (slice_get rows k)) (sym (eq_suc number k))

pub length_settled : (rows : List Row) (number : ℕ) → length (settled_at number rows) ≡ length rows
length_settled [] number = refl
length_settled (one ∷ rows) zero = refl
length_settled (one ∷ rows) (suc number) =
    ap (λ (list : List Row). length list) (settled_cons one rows number) ∙ ap suc (length_settled rows number)

module _ {X : Type 0} (f : Row → X) (same : (row : Row) → f (settled_row row) ≡ f row) where
  map_settled : (rows : List Row) (number : ℕ) → map f (settled_at number rows) ≡ map f rows
  map_settled [] number = refl
  map_settled (one ∷ rows) zero = ap (λ (x : X). x ∷ map f rows) (same one)
  map_settled (one ∷ rows) (suc number) =
      ap (λ (list : List Row). map f list) (settled_cons one rows number) ∙ ap (λ (list : List X). f one ∷ list) (map_settled rows number)

module _ (f : Row → ℕ) (less : (row : Row) → f (settled_row row) ≤ f row) where
  sum_less : (rows : List Row) (number : ℕ) → sum_by f (settled_at number rows) ≤ sum_by f rows
  sum_less [] number = omega arith
  sum_less (one ∷ rows) zero = omega (arith, sum_by-cons f (settled_row one) rows, sum_by-cons f one rows, less one)
  sum_less (one ∷ rows) (suc number) =
      let now : sum_by f (settled_at (suc number) (one ∷ rows)) ≡ f one + sum_by f (settled_at number rows) =
      ap (λ (list : List Row). sum_by f list) (settled_cons one rows number) ∙ sum_by-cons f one (settled_at number rows) in
      omega (arith, now, sum_by-cons f one rows, sum_less rows number)

turn_settled : (page last : ℕ) (rows : List Row) (next number : ℕ) → AreInTurn page next rows last → AreInTurn page next (settled_at number rows) last
turn_settled page last [] next number are = are
turn_settled page last (one ∷ rows) next zero are = are
turn_settled page last (one ∷ rows) next (suc number) are =
    subst (λ (list : List Row). AreInTurn page next list last) (sym (settled_cons one rows number))
    (are.0, turn_settled page last rows (next + pieces_of_row page one) number are.1)

-- ---- by names, one after the other

module _ (names : List ℕ) where
  get_named : (rows : List Row) (name k : ℕ)
      → slice_get (settled_by names rows name) k ≡ option_map (settled_if (is_numbered names k name)) (slice_get rows k)
  get_named rows name k = by (number_of name names)
    where
      by : (number : Option ℕ)
          → slice_get (option_map_or (λ (one : ℕ). settled_at one rows) number rows) k
          ≡ option_map (settled_if (option_map_or (λ (one : ℕ). one == k) number false)) (slice_get rows k)
      by None = unsettled (slice_get rows k)
      by (Some number) = get_settled rows number k

  twice : (a b : Bool) (found : Option Row) → option_map (settled_if b) (option_map (settled_if a) found) ≡ option_map (settled_if (a || b)) found
  twice a b None = refl
  twice true true (Some row) = refl
  twice true false (Some row) = refl
  twice false b (Some row) = refl

  pub get_all : (list : List ℕ) (rows : List Row) (k : ℕ)
      → slice_get (fold (settled_by names) rows list) k ≡ option_map (settled_if (list_any (is_numbered names k) list)) (slice_get rows k)
  get_all [] rows k = unsettled (slice_get rows k)
  get_all (name ∷ list) rows k =
      get_all list (settled_by names rows name) k
      ∙ ap (option_map (settled_if (list_any (is_numbered names k) list))) (get_named rows name k)
      ∙ twice (is_numbered names k name) (list_any (is_numbered names k) list) (slice_get rows k)

  -- what no settling of one row breaks stays so
  pub by_each : (P : List Row → Type 0) → ((rows : List Row) (number : ℕ) → P rows → P (settled_at number rows)) → (list : List ℕ) (rows : List Row)
      → P rows → P (fold (settled_by names) rows list)
  by_each P keeps [] rows is = is
  by_each P keeps (name ∷ list) rows is = by_each P keeps list (settled_by names rows name) (by (number_of name names))
    where
      by : (number : Option ℕ) → P (option_map_or (λ (one : ℕ). settled_at one rows) number rows)
      by None = is
      by (Some number) = keeps rows number is

  pub length_all : (list : List ℕ) (rows : List Row) → length (fold (settled_by names) rows list) ≡ length rows
  length_all list rows =
      by_each (λ (now : List Row). length now ≡ length rows) (λ now number is. length_settled now number ∙ is) list rows refl

  pub map_all : {X : Type 0} (f : Row → X) → ((row : Row) → f (settled_row row) ≡ f row) → (list : List ℕ) (rows : List Row)
      → map f (fold (settled_by names) rows list) ≡ map f rows
  map_all f same list rows =
      by_each (λ (now : List Row). map f now ≡ map f rows) (λ now number is. map_settled f same now number ∙ is) list rows refl

  pub sum_all : (f : Row → ℕ) → ((row : Row) → f (settled_row row) ≤ f row) → (list : List ℕ) (rows : List Row)
      → sum_by f (fold (settled_by names) rows list) ≤ sum_by f rows
  sum_all f less list rows =
      by_each (λ (now : List Row). sum_by f now ≤ sum_by f rows)
      (λ now number is. let next = sum_less f less now number in omega (arith, next, is)) list rows (omega arith)

  pub turn_all : (page next last : ℕ) (list : List ℕ) (rows : List Row) → AreInTurn page next rows last
      → AreInTurn page next (fold (settled_by names) rows list) last
  turn_all page next last list rows are =
      by_each (λ (now : List Row). AreInTurn page next now last) (λ now number is. turn_settled page last now next number is) list rows are
