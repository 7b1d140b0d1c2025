-- Lists with one more behind them.
use Rattle.std.proofs.Common.{◌≡◌, ℕ, zero, suc, ◌+◌, ◌≤◌, ◌==◌, cond, List, [], ◌∷◌, ◌++◌, Option, Some, None, length, refl, sym, ap, ◌∙◌, arith}
use Rattle.std.specs.Prelude.{count_by, flat_map, slice_get, sum, IfSome, IsSomeAnd}
use Rattle.std.proofs.lemmas.Grind.{flat_map-append}
use Rattle.std.proofs.lemmas.List.{append-nil, append_assoc}
use Rattle.std.proofs.lemmas.List.Sums.{sum_by-append}
use Rattle.blob_entries.specs.Book.{entry_at}
use Rattle.blob_entries.specs.Holdings.{held_views, views_in}
use Rattle.blob_entries.specs.Counts.{views_on}
use Rattle.blob_entries.specs.declared.entry.Entry.{Entry}
use Rattle.blob_entries.proofs.Holdings.{in_cons}
use Rattle.blob_store.specs.declared.row.Row.{Row}
use Rattle.blob_store.specs.Rows.{pieces_of_row, pins, sending_slots, waiting, waits_by, AreInTurn}

-- what was there is there
pub got_still : {X : Type 0} (P : X → Type 0) (xs more : List X) (number : ℕ) → IsSomeAnd (slice_get xs number) P → IsSomeAnd (slice_get (xs ++ more) number) P
got_still P [] more number is = absurd is
got_still P (x ∷ xs) more zero is = is
got_still P (x ∷ xs) more (suc number) is = got_still P xs more number is

-- what is so of what may be there, where one thing or two were
pub if_so : {X : Type 0} (P Q : X → Type 0) (held : Option X) → ((x : X) → held ≡ Some x → P x → Q x) → IfSome held P → IfSome held Q
if_so P Q None on is = tt
if_so P Q (Some x) on is = on x refl is

pub if_both : {X : Type 0} (P Q R : X → Type 0) (held : Option X) → ((x : X) → held ≡ Some x → P x → Q x → R x) → IfSome held P → IfSome held Q → IfSome held R
if_both P Q R None on is also = tt
if_both P Q R (Some x) on is also = on x refl is also

-- what is said of each and of the new one is said of all
pub each_more : {X : Type 0} (P : ℕ → X → Type 0) (xs : List X) (x : X) → ((number : ℕ) → IfSome (slice_get xs number) (P number)) → P (length xs) x
    → (number : ℕ) → IfSome (slice_get (xs ++ x ∷ []) number) (P number)
each_more P [] x each last zero = last
each_more P [] x each last (suc number) = tt
each_more P (one ∷ xs) x each last zero = each 0
each_more P (one ∷ xs) x each last (suc number) =
    each_more (λ (n : ℕ). P (suc n)) xs x (λ n. each (suc n)) last number

pub stands_more : (P : ℕ → Entry → Type 0) (entries : List (Option Entry)) (entry : Entry) → ((number : ℕ) → IfSome (entry_at entries number) (P number))
    → P (length entries) entry → (number : ℕ) → IfSome (entry_at (entries ++ Some entry ∷ []) number) (P number)
stands_more P [] entry each last zero = last
stands_more P [] entry each last (suc number) = tt
stands_more P (held ∷ entries) entry each last zero = each 0
stands_more P (held ∷ entries) entry each last (suc number) =
    stands_more (λ (n : ℕ). P (suc n)) entries entry (λ n. each (suc n)) last number

-- the views of one entry more
pub views_more : (entries : List (Option Entry)) (entry : Entry) (slot : ℕ)
    → views_in (entries ++ Some entry ∷ []) slot ≡ views_in entries slot + views_on slot (held_views entry)
views_more [] entry slot = omega (arith, in_cons (Some entry) [] slot)
views_more (held ∷ entries) entry slot =
    omega (arith, in_cons held entries slot, in_cons held (entries ++ Some entry ∷ []) slot, views_more entries entry slot)

-- ---- rows

pub pins_more : (rows more : List Row) (slot : ℕ) → pins slot (rows ++ more) ≡ pins slot rows + pins slot more
pins_more rows more slot =
    ap (λ (slots : List ℕ). count_by (λ (one : ℕ). one == slot) slots) (flat_map-append (λ (row : Row). sending_slots row.sending) rows more)
    ∙ sum_by-append (λ (one : ℕ). cond (one == slot) 1 0) (flat_map (λ (row : Row). sending_slots row.sending) rows)
    (flat_map (λ (row : Row). sending_slots row.sending) more)

-- who waits, where there are as many rows as names
pub waiting_more : (names : List ℕ) (rows : List Row) (name : ℕ) (row : Row) → length rows ≡ length names
    → waiting (names ++ name ∷ []) (rows ++ row ∷ []) ≡ waiting names rows ++ waits_by name (sum row.lengths) row.sending
waiting_more [] [] name row same = append-nil (waits_by name (sum row.lengths) row.sending)
waiting_more [] (one ∷ rows) name row same = absurd (omega (arith, same))
waiting_more (one ∷ names) [] name row same = absurd (omega (arith, same))
waiting_more (one ∷ names) (first ∷ rows) name row same =
    ap (λ (list : List (ℕ × ℕ)). waits_by one (sum first.lengths) first.sending ++ list) (waiting_more names rows name row (omega (arith, same)))
    ∙ sym (append_assoc (waits_by one (sum first.lengths) first.sending) (waiting names rows) (waits_by name (sum row.lengths) row.sending))

-- a row that goes on where the last one ended
pub turn_more : (page next : ℕ) (rows : List Row) (row : Row) (last many : ℕ) → AreInTurn page next rows last → row.first ≡ last
    → pieces_of_row page row ≡ many → AreInTurn page next (rows ++ row ∷ []) (last + many)
turn_more page next [] row last many turn first pieces = (first ∙ sym turn, omega (arith, turn, pieces))
turn_more page next (one ∷ rows) row last many turn first pieces =
    (turn.0, turn_more page (next + pieces_of_row page one) rows row last many turn.1 first pieces)

-- the pieces of a row end where all end
turn_long : (page next : ℕ) (rows : List Row) (last : ℕ) → AreInTurn page next rows last → next ≤ last
turn_long page next [] last turn = omega (arith, turn)
turn_long page next (row ∷ rows) last turn = let rest = turn_long page (next + pieces_of_row page row) rows last turn.1 in omega (arith, rest)

pub turn_within : (page next : ℕ) (rows : List Row) (last : ℕ) → AreInTurn page next rows last → (number : ℕ)
    → IfSome (slice_get rows number) (λ (row : Row). row.first + pieces_of_row page row ≤ last)
turn_within page next [] last turn number = tt
turn_within page next (row ∷ rows) last turn zero =
    let first = turn.0 in let rest = turn_long page (next + pieces_of_row page row) rows last turn.1 in omega (arith, first, rest)
turn_within page next (row ∷ rows) last turn (suc number) = turn_within page (next + pieces_of_row page row) rows last turn.1 number
