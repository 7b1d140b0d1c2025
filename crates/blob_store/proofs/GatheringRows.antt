-- A row whose segments may come among the others, and the head of those that wait.
use Rattle.std.proofs.Common.{◌≡◌, ◌≢◌, ℕ, zero, suc, ◌+◌, ◌<◌, List, [], ◌∷◌, ◌++◌, Option, Some, None, length, map, take, drop, get_or, set, refl}
use Rattle.std.proofs.Common.{ap, subst, sym, ◌∙◌, arith}
use Rattle.std.specs.Prelude.{slice_get, sum, sum_by, IfSome}
use Rattle.std.specs.Option.{option_map_or}
use Rattle.std.proofs.lemmas.List.Sums.{sum_by-cons}
use Rattle.blob_entries.proofs.Soundness.{same_or}
use Rattle.segment_assembly.specs.Assembly.{Sending as Segments}
use Rattle.blob_store.specs.declared.row.Row.{Row}
use Rattle.blob_store.specs.declared.row.Sending.{Sending}
use Rattle.blob_store.specs.declared.row.Sending.TheVariants.{Settled, Waiting, Gathering, Writing}
use Rattle.blob_store.specs.Granting.{gathering_at, with_segments}
use Rattle.blob_store.specs.Rows.{pieces_of_row, pins, waiting, waits_by, AreInTurn}
use Rattle.blob_store.proofs.Settling.{pins_of, pins_sum}

-- ---- the row is written back

all_back : {X : Type 0} (list : List X) → take (length list) (list ++ drop (length list) list) ≡ list
all_back [] = refl
all_back {X = X} (x ∷ list) = ap (λ (more : List X). x ∷ more) (all_back list)

gathering_cons : (segments : Segments) (other : Row) (rows : List Row) (number : ℕ)
    → gathering_at (suc number) segments (other ∷ rows) ≡ other ∷ gathering_at number segments rows
gathering_cons segments other rows number = by (slice_get rows number)
  where
    by : (found : Option Row)
        → option_map_or (λ (row : Row). other ∷ set rows number (with_segments segments row)) found (other ∷ rows)
        ≡ other ∷ option_map_or (λ (row : Row). set rows number (with_segments segments row)) found rows
    by None = refl
    by (Some row) = refl

written : (segments : Segments) (rows : List Row) (number : ℕ) (row : Row) → number < length rows
    → take (length rows)
    (set rows number (with_segments segments (get_or rows number row))
    ++ drop (length (set rows number (with_segments segments (get_or rows number row)))) rows)
    ≡ gathering_at number segments rows
written segments [] number row less = absurd (omega (arith, less))
written segments (one ∷ rows) zero row less = ap (λ (more : List Row). with_segments segments one ∷ more) (all_back rows)
written segments (one ∷ rows) (suc number) row less =
    ap (λ (more : List Row). one ∷ more) (written segments rows number row (omega (arith, less))) ∙ sym (gathering_cons segments one rows number)

pub written_gathering : (rows given : List Row) (number : ℕ) (row : Row) (segments : Segments) (sending : Sending) → given ≡ rows → number < length rows
    → sending ≡ Gathering segments
    → take (length rows)
    (set given number (record (get_or given number row) { sending = sending })
    ++ drop (length (set given number (record (get_or given number row) { sending = sending }))) rows)
    ≡ gathering_at number segments rows
written_gathering rows given number row segments sending same less gathers =
    (λ i. take (length rows)
    (set (same i) number (record (get_or (same i) number row) { sending = gathers i })
    ++ drop (length (set (same i) number (record (get_or (same i) number row) { sending = gathers i }))) rows)) ∙ written segments rows number row less

-- ---- rows with another one at a number

pub get_here : (rows : List Row) (number : ℕ) (row new : Row) → slice_get rows number ≡ Some row → slice_get (set rows number new) number ≡ Some new
get_here [] zero row new at = absurd (cc at)
get_here [] (suc number) row new at = absurd (cc at)
get_here (one ∷ rows) zero row new at = refl
get_here (one ∷ rows) (suc number) row new at = get_here rows number row new at

pub get_other : (rows : List Row) (number k : ℕ) (new : Row) → k ≢ number → slice_get (set rows number new) k ≡ slice_get rows k
get_other [] number k new apart = refl
get_other (one ∷ rows) zero zero new apart = absurd (apart refl)
get_other (one ∷ rows) zero (suc k) new apart = refl
get_other (one ∷ rows) (suc number) zero new apart = refl
get_other (one ∷ rows) (suc number) (suc k) new apart = get_other rows number k new (λ same. apart (ap suc same))

-- what is said of each row is said still, where it is said of the new one
pub each_set : (P : ℕ → Row → Type 0) (rows : List Row) (number : ℕ) (row new : Row) → slice_get rows number ≡ Some row → P number new
    → ((k : ℕ) → k ≢ number → IfSome (slice_get rows k) (P k)) → (k : ℕ) → IfSome (slice_get (set rows number new) k) (P k)
each_set P rows number row new at here others k =
    same_or k number
    (λ same. subst (λ (n : ℕ). IfSome (slice_get (set rows number new) n) (P n)) (sym same)
    (subst (λ (found : Option Row). IfSome found (P number)) (sym (get_here rows number row new at)) here))
    (λ apart. subst (λ (found : Option Row). IfSome found (P k)) (sym (get_other rows number k new apart)) (others k apart))

pub length_set : (rows : List Row) (number : ℕ) (new : Row) → length (set rows number new) ≡ length rows
length_set [] number new = refl
length_set (one ∷ rows) zero new = refl
length_set (one ∷ rows) (suc number) new = ap suc (length_set rows number new)

pub map_set : {X : Type 0} (f : Row → X) (rows : List Row) (number : ℕ) (row new : Row) → slice_get rows number ≡ Some row → f new ≡ f row
    → map f (set rows number new) ≡ map f rows
map_set f [] number row new at same = refl
map_set {X = X} f (one ∷ rows) zero row new at same =
    let first : one ≡ row = cc at in ap (λ (x : X). x ∷ map f rows) (same ∙ ap f (sym first))
map_set {X = X} f (one ∷ rows) (suc number) row new at same = ap (λ (more : List X). f one ∷ more) (map_set f rows number row new at same)

pub sum_set : (f : Row → ℕ) (rows : List Row) (number : ℕ) (row new : Row) → slice_get rows number ≡ Some row
    → sum_by f rows + f new ≡ sum_by f (set rows number new) + f row
sum_set f [] zero row new at = absurd (cc at)
sum_set f [] (suc number) row new at = absurd (cc at)
sum_set f (one ∷ rows) zero row new at =
    let was = sum_by-cons f one rows in
    let now = sum_by-cons f new rows in
    let own : f one ≡ f row = ap (λ (found : Option Row). option_map_or f found 0) at in omega (arith, was, now, own)
sum_set f (one ∷ rows) (suc number) row new at =
    let was = sum_by-cons f one rows in
    let now = sum_by-cons f one (set rows number new) in
    let more = sum_set f rows number row new at in omega (arith, was, now, more)

pub turn_set : (page last : ℕ) (rows : List Row) (next number : ℕ) (row new : Row) → slice_get rows number ≡ Some row → new.first ≡ row.first
    → pieces_of_row page new ≡ pieces_of_row page row → AreInTurn page next rows last → AreInTurn page next (set rows number new) last
turn_set page last [] next number row new at first many are = are
turn_set page last (one ∷ rows) next zero row new at first many are =
    let same : one ≡ row = cc at in (
      first ∙ ap (λ (each : Row). each.first) (sym same) ∙ are.0,
      subst (λ (n : ℕ). AreInTurn page (next + n) rows last) (sym (many ∙ ap (pieces_of_row page) (sym same))) are.1,
    )
turn_set page last (one ∷ rows) next (suc number) row new at first many are =
    (are.0, turn_set page last rows (next + pieces_of_row page one) number row new at first many are.1)

pub pins_set : (slot : ℕ) (rows : List Row) (number : ℕ) (row new : Row) → slice_get rows number ≡ Some row
    → pins slot rows + pins_of slot new ≡ pins slot (set rows number new) + pins_of slot row
pins_set slot rows number row new at =
    let was = pins_sum slot rows in
    let now = pins_sum slot (set rows number new) in
    let sum = sum_set (pins_of slot) rows number row new at in omega (arith, was, now, sum)

-- ---- the head of those that wait

-- its row; without it the others wait
pub record IsHead (names : List ℕ) (rows : List Row) (name bytes : ℕ) : Type 0 where
  pub number : ℕ
  pub row : Row
  pub named : slice_get names number ≡ Some name
  pub at : slice_get rows number ≡ Some row
  pub waits : row.sending ≡ Waiting
  pub bytes_are : sum row.lengths ≡ bytes
  pub others : (new : Row) → ((one many : ℕ) → waits_by one many new.sending ≡ []) → waiting names (set rows number new) ≡ drop 1 (waiting names rows)

pub head_of : (names : List ℕ) (rows : List Row) (name bytes : ℕ) → slice_get (waiting names rows) 0 ≡ Some (name, bytes) → IsHead names rows name bytes
head_of [] rows name bytes first = absurd (cc first)
head_of (one ∷ names) [] name bytes first = absurd (cc first)
head_of (one ∷ names) (row ∷ rows) name bytes first = by row.sending refl first (head_of names rows name bytes)
  where
    -- the first of the list is another
    later : (sending : Sending) → row.sending ≡ sending → ((n many : ℕ) → waits_by n many sending ≡ []) → IsHead names rows name bytes
        → IsHead (one ∷ names) (row ∷ rows) name bytes
    later sending is none head = record {
      number = suc head.number;
      row = head.row;
      named = head.named;
      at = head.at;
      waits = head.waits;
      bytes_are = head.bytes_are;
      others = λ new unasked.
          let nothing : waits_by one (sum row.lengths) row.sending ≡ [] = ap (waits_by one (sum row.lengths)) is ∙ none one (sum row.lengths) in
          ap (λ (list : List (ℕ × ℕ)). list ++ waiting names (set rows head.number new)) nothing
          ∙ head.others new unasked
          ∙ sym (ap (λ (list : List (ℕ × ℕ)). drop 1 (list ++ waiting names rows)) nothing);
    }

    by : (sending : Sending) → row.sending ≡ sending
        → slice_get (waits_by one (sum row.lengths) sending ++ waiting names rows) 0 ≡ Some (name, bytes)
        → (slice_get (waiting names rows) 0 ≡ Some (name, bytes) → IsHead names rows name bytes) → IsHead (one ∷ names) (row ∷ rows) name bytes
    by Waiting is e rest =
        let same : ◌≡◌ {A = Option (ℕ × ℕ)} (Some (one, sum row.lengths)) (Some (name, bytes)) = e in
        record {
          number = zero;
          row = row;
          named = ap (λ (found : Option (ℕ × ℕ)). Some (option_map_or (λ (pair : ℕ × ℕ). pair.0) found 0)) same;
          at = refl;
          waits = is;
          bytes_are = ap (λ (found : Option (ℕ × ℕ)). option_map_or (λ (pair : ℕ × ℕ). pair.1) found 0) same;
          others = λ new unasked.
              ap (λ (list : List (ℕ × ℕ)). list ++ waiting names rows) (unasked one (sum new.lengths))
              ∙ sym (ap (λ (each : Sending). drop 1 (waits_by one (sum row.lengths) each ++ waiting names rows)) is);
        }
    by Settled is e rest = later Settled is (λ n many. refl) (rest e)
    by (Gathering segments) is e rest = later (Gathering segments) is (λ n many. refl) (rest e)
    by (Writing slots came) is e rest = later (Writing slots came) is (λ n many. refl) (rest e)
