-- A row that is settled among the others.
use Rattle.std.proofs.Common.{◌≡◌, ℕ, zero, suc, ◌+◌, ◌<◌, List, [], ◌∷◌, ◌++◌, Option, Some, None, length, take, drop, get_or, set, refl, ap, sym, ◌∙◌, arith}
use Rattle.std.specs.Prelude.{◌==◌, cond, count_by, flat_map, slice_get, sum_by}
use Rattle.std.specs.Option.{option_map_or}
use Rattle.std.proofs.lemmas.List.Sums.{sum_by-append, sum_by-cons}
use Rattle.blob_store.specs.declared.parts.Parts.{Parts}
use Rattle.blob_store.specs.declared.row.Row.{Row}
use Rattle.blob_store.specs.declared.row.Sending.{Sending}
use Rattle.blob_store.specs.declared.row.Sending.TheVariants.{Settled}
use Rattle.blob_store.specs.Blobs.{Charged}
use Rattle.blob_store.specs.Dropping.{settled_at, settled_row, ChargedBeside}
use Rattle.blob_store.specs.Rows.{gathered_bytes, gathered_pieces, pins, sending_slots}

all_back : {X : Type 0} (list : List X) → take (length list) (list ++ drop (length list) list) ≡ list
all_back [] = refl
all_back {X = X} (x ∷ list) = ap (λ (more : List X). x ∷ more) (all_back list)

pub settled_cons : (other : Row) (rows : List Row) (number : ℕ) → settled_at (suc number) (other ∷ rows) ≡ other ∷ settled_at number rows
settled_cons other rows number = by (slice_get rows number)
  where
    by : (found : Option Row)
        → option_map_or (λ (row : Row). other ∷ set rows number (settled_row row)) found (other ∷ rows)
        ≡ other ∷ option_map_or (λ (row : Row). set rows number (settled_row row)) found rows
    by None = refl
    by (Some row) = refl

written : (rows : List Row) (number : ℕ) (row : Row) → number < length rows
    → take (length rows)
    (set rows number (settled_row (get_or rows number row)) ++ drop (length (set rows number (settled_row (get_or rows number row)))) rows)
    ≡ settled_at number rows
written [] number row less = absurd (omega (arith, less))
written (one ∷ rows) zero row less = ap (λ (more : List Row). settled_row one ∷ more) (all_back rows)
written (one ∷ rows) (suc number) row less =
    ap (λ (more : List Row). one ∷ more) (written rows number row (omega (arith, less))) ∙ sym (settled_cons one rows number)

pub written_back : (rows given : List Row) (number : ℕ) (row : Row) (sending : Sending) → given ≡ rows → number < length rows → sending ≡ Settled
    → take (length rows)
    (set given number (record (get_or given number row) { sending = sending })
    ++ drop (length (set given number (record (get_or given number row) { sending = sending }))) rows)
    ≡ settled_at number rows
written_back rows given number row sending same less ends =
    (λ i. take (length rows)
    (set (same i) number (record (get_or (same i) number row) { sending = ends i })
    ++ drop (length (set (same i) number (record (get_or (same i) number row) { sending = ends i }))) rows)) ∙ written rows number row less

-- ---- what the rows take together, without one that is settled

pub sum_settled : (f : Row → ℕ) (rows : List Row) (number : ℕ) (row : Row) → slice_get rows number ≡ Some row
    → sum_by f rows + f (settled_row row) ≡ sum_by f (settled_at number rows) + f row
sum_settled f [] zero row at = absurd (cc at)
sum_settled f [] (suc number) row at = absurd (cc at)
sum_settled f (one ∷ rows) zero row at =
    let was : sum_by f (one ∷ rows) ≡ f one + sum_by f rows = sum_by-cons f one rows in
    let now : sum_by f (settled_at zero (one ∷ rows)) ≡ f (settled_row one) + sum_by f rows = sum_by-cons f (settled_row one) rows in
    let own : f one ≡ f row = ap (λ (found : Option Row). option_map_or f found 0) at in
    let left : f (settled_row one) ≡ f (settled_row row) = ap (λ (found : Option Row). option_map_or (λ (each : Row). f (settled_row each)) found 0) at in
    omega (arith, was, now, own, left)
sum_settled f (one ∷ rows) (suc number) row at =
    let was : sum_by f (one ∷ rows) ≡ f one + sum_by f rows = sum_by-cons f one rows in
    let now : sum_by f (settled_at (suc number) (one ∷ rows)) ≡ f one + sum_by f (settled_at number rows) =
    ap (λ (list : List Row). sum_by f list) (settled_cons one rows number) ∙ sum_by-cons f one (settled_at number rows) in
    let more = sum_settled f rows number row at in omega (arith, was, now, more)

-- how often a slot is among those of one blob
abbrev pub pins_of : ℕ → Row → ℕ
pins_of slot row = count_by (λ (one : ℕ). one == slot) (sending_slots row.sending)

pub pins_sum : (slot : ℕ) (rows : List Row) → pins slot rows ≡ sum_by (pins_of slot) rows
pins_sum slot [] = refl
pins_sum slot (row ∷ rows) =
    let parted : pins slot (row ∷ rows) ≡ pins_of slot row + pins slot rows =
    sum_by-append (λ (one : ℕ). cond (one == slot) 1 0) (sending_slots row.sending) (flat_map (λ (each : Row). sending_slots each.sending) rows) in
    let all = sum_by-cons (pins_of slot) row rows in
    let more = pins_sum slot rows in omega (arith, parted, all, more)

pub pins_settled : (slot : ℕ) (rows : List Row) (number : ℕ) (row : Row) → slice_get rows number ≡ Some row
    → pins slot rows ≡ pins slot (settled_at number rows) + pins_of slot row
pins_settled slot rows number row at =
    let was = pins_sum slot rows in
    let now = pins_sum slot (settled_at number rows) in
    let none : pins_of slot (settled_row row) ≡ 0 = refl in
    let sum = sum_settled (pins_of slot) rows number row at in omega (arith, was, now, none, sum)

-- so the parts are charged beside what the bytes of a blob take, once its row is settled
pub charged_beside : (parts : Parts) (number : ℕ) (row : Row)
    → Charged parts.registry.entries parts.shares parts.rows parts.quota parts.pages parts.held → slice_get parts.rows number ≡ Some row
    → ChargedBeside (sending_slots row.sending) (gathered_bytes row.sending) (gathered_pieces row.sending)
    (record parts { rows = settled_at number parts.rows })
charged_beside parts number row charged at = record {
  counts = λ slot. let was = charged.counts slot in let sum = pins_settled slot parts.rows number row at in omega (arith, was, sum);
  unpinned = λ slot some. let none = charged.unpinned slot some in let sum = pins_settled slot parts.rows number row at in omega (arith, none, sum);
  used =
      let was = charged.used in
      let none : gathered_bytes (settled_row row).sending ≡ 0 = refl in
      let sum = sum_settled (λ (each : Row). gathered_bytes each.sending) parts.rows number row at in omega (arith, was, none, sum);
  reserved = charged.reserved;
  held_so =
      let was = charged.held_so in
      let none : gathered_pieces (settled_row row).sending ≡ 0 = refl in
      let sum = sum_settled (λ (each : Row). gathered_pieces each.sending) parts.rows number row at in omega (arith, was, none, sum);
}

pub charged_again : (parts : Parts) → ChargedBeside [] 0 0 parts
    → Charged parts.registry.entries parts.shares parts.rows parts.quota parts.pages parts.held
charged_again parts beside = record {
  counts = λ slot. let sum = beside.counts slot in let none : count_by (λ (one : ℕ). one == slot) [] ≡ 0 = refl in omega (arith, sum, none);
  unpinned = λ slot some.
      let sum = beside.unpinned slot some in let none : count_by (λ (one : ℕ). one == slot) [] ≡ 0 = refl in omega (arith, sum, none);
  used = let sum = beside.used in omega (arith, sum);
  reserved = beside.reserved;
  held_so = let sum = beside.held_so in omega (arith, sum);
}
