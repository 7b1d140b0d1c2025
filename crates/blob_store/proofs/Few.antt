-- No more blobs stand, and no more wait, than were built.
use Rattle.std.proofs.Common.{ℕ, ◌≤◌, List, [], ◌∷◌, Option, Some, None, length, arith}
use Rattle.std.proofs.lemmas.List.{length-append}
use Rattle.blob_entries.specs.Standing.{standing}
use Rattle.blob_entries.specs.declared.entry.Entry.{Entry}
use Rattle.blob_store.specs.declared.row.Row.{Row}
use Rattle.blob_store.specs.declared.row.Sending.{Sending}
use Rattle.blob_store.specs.declared.row.Sending.TheVariants.{Settled, Waiting, Gathering, Writing}
use Rattle.blob_store.specs.Rows.{waiting, waits_by}
use Rattle.std.specs.Prelude.{sum}

pub standing_few : (names : List ℕ) (entries : List (Option Entry)) → length (standing names entries) ≤ length names
standing_few names [] = omega arith
standing_few [] (held ∷ entries) = omega arith
standing_few (name ∷ names) (None ∷ entries) = let rest = standing_few names entries in omega (arith, rest)
standing_few (name ∷ names) (Some entry ∷ entries) = let rest = standing_few names entries in omega (arith, rest)

one_at_most : (name bytes : ℕ) (sending : Sending) → length (waits_by name bytes sending) ≤ 1
one_at_most name bytes Settled = omega arith
one_at_most name bytes Waiting = omega arith
one_at_most name bytes (Gathering segments) = omega arith
one_at_most name bytes (Writing slots came) = omega arith

pub waiting_few : (names : List ℕ) (rows : List Row) → length (waiting names rows) ≤ length names
waiting_few [] rows = omega arith
waiting_few (name ∷ names) [] = omega arith
waiting_few (name ∷ names) (row ∷ rows) =
    let rest = waiting_few names rows in
    let one = one_at_most name (sum row.lengths) row.sending in
    let both = length-append (waits_by name (sum row.lengths) row.sending) (waiting names rows) in
    omega (arith, rest, one, both)
