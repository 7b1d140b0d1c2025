-- The rows of blobs that stand tell all that comes: as many pins, and as many gathered bytes, as all rows.
use Rattle.std.proofs.Common.{◌≡◌, ℕ, suc, ◌+◌, ◌==◌, List, [], ◌∷◌, ◌++◌, Option, Some, None, length, refl, sym, ap, ◌∙◌, arith}
use Rattle.std.specs.Prelude.{count_by, flat_map, slice_get, IfSome}
use Rattle.std.specs.Option.{option_map, option_map_or}
use Rattle.std.proofs.lemmas.List.Sums.{sum_by-cons}
use Rattle.item_shares.specs.declared.shares.Share.{Share}
use Rattle.item_shares.specs.Weights.{weights}
use Rattle.blob_entries.specs.Book.{Book, entry_at}
use Rattle.blob_entries.specs.Holdings.{views_in}
use Rattle.blob_entries.specs.declared.entry.Entry.{Entry}
use Rattle.page_files.specs.Files.{Files}
use Rattle.quota_queue.specs.Queue.{Queue}
use Rattle.store_laws.specs.Rows.{coming_slots, gathered, row_slots, CountsViews}
use Rattle.store_laws.specs.Rows.{gathered_bytes as bytes_coming, Row as RowSaid}
use Rattle.store_laws.specs.Weights.{memory_weight}
use Rattle.blob_store.specs.declared.row.Row.{Row}
use Rattle.blob_store.specs.declared.row.Sending.{Sending}
use Rattle.blob_store.specs.declared.row.Sending.TheVariants.{Settled, Waiting, Gathering, Writing}
use Rattle.blob_store.specs.Rows.{bytes_gathered, gathered_bytes, sending_slots}
use Rattle.blob_store.specs.Seen.{coming_of, row_of, rows_beside}
use Rattle.blob_store.specs.Blobs.{Blobs, IsAwaited}

same_slots : (sending : Sending) → coming_slots (coming_of sending) ≡ sending_slots sending
same_slots Settled = refl
same_slots Waiting = refl
same_slots (Gathering segments) = refl
same_slots (Writing slots came) = refl

same_bytes : (sending : Sending) → bytes_coming (coming_of sending) ≡ gathered_bytes sending
same_bytes Settled = refl
same_bytes Waiting = refl
same_bytes (Gathering segments) = refl
same_bytes (Writing slots came) = refl

-- bytes come for blobs that stand alone
abbrev IsSent : Option Entry → Row → Type 0
IsSent None row = row.sending ≡ Settled
IsSent (Some entry) row = Unit {0}

abbrev AreSent : List (Option Entry) → List Row → Type 0
AreSent entries rows = (number : ℕ) → IfSome (slice_get rows number) (IsSent (entry_at entries number))

slots_beside : (entries : List (Option Entry)) (rows : List Row) → length rows ≡ length entries → AreSent entries rows
    → flat_map row_slots (rows_beside entries rows) ≡ flat_map (λ (row : Row). sending_slots row.sending) rows
slots_beside [] [] same all = refl
slots_beside [] (row ∷ rows) same all = absurd (cc same)
slots_beside (held ∷ entries) [] same all = refl
slots_beside (held ∷ entries) (row ∷ rows) same all =
    ap (λ (list : List ℕ). list ++ flat_map row_slots (rows_beside entries rows)) (here held (all 0))
    ∙ ap (λ (list : List ℕ). sending_slots row.sending ++ list) (slots_beside entries rows (omega (arith, same)) (λ number. all (suc number)))
  where
    here : (held : Option Entry) → IsSent held row → row_slots (option_map (λ (entry : Entry). row_of row) held) ≡ sending_slots row.sending
    here None is = sym (ap sending_slots is)
    here (Some entry) is = same_slots row.sending

bytes_beside : (entries : List (Option Entry)) (rows : List Row) → length rows ≡ length entries → AreSent entries rows
    → gathered (rows_beside entries rows) ≡ bytes_gathered rows
bytes_beside [] [] same all = refl
bytes_beside [] (row ∷ rows) same all = absurd (cc same)
bytes_beside (held ∷ entries) [] same all = refl
bytes_beside (held ∷ entries) (row ∷ rows) same all =
    let weight : Option RowSaid → ℕ = λ (one : Option RowSaid). option_map_or (λ (each : RowSaid). bytes_coming each.coming) one 0 in
    let said = sum_by-cons weight (option_map (λ (entry : Entry). row_of row) held) (rows_beside entries rows) in
    let kept = sum_by-cons (λ (one : Row). gathered_bytes one.sending) row rows in
    let rest = bytes_beside entries rows (omega (arith, same)) (λ number. all (suc number)) in
    omega (arith, said, kept, rest, here held (all 0))
  where
    here : (held : Option Entry) → IsSent held row
        → option_map_or (λ (each : RowSaid). bytes_coming each.coming) (option_map (λ (entry : Entry). row_of row) held) 0 ≡ gathered_bytes row.sending
    here None is = sym (ap gathered_bytes is)
    here (Some entry) is = same_bytes row.sending

module _ (page : ℕ) (book : Book) (shares : List (Option Share)) (rows : List Row) (quota : Queue) (files : Files) (order : List (ℕ × ℕ)) (held : ℕ)
    (blobs : Blobs page book shares rows quota files order held) (many : length rows ≡ length book.entries) where
  sent : AreSent book.entries rows
  sent number = by (slice_get rows number) (entry_at book.entries number) (blobs.awaited number)
    where
      by : (row : Option Row) (held : Option Entry) → IfSome row (IsAwaited page order files.job held) → IfSome row (IsSent held)
      by None held is = tt
      by (Some row) None is = is
      by (Some row) (Some entry) is = tt

  pub counts_said : CountsViews book.entries (rows_beside book.entries rows) shares
  counts_said slot =
      blobs.charged.counts slot
      ∙ ap (λ (list : List ℕ). views_in book.entries slot + count_by (λ (one : ℕ). one == slot) list) (sym (slots_beside book.entries rows many sent))

  pub used_said : quota.used ≡ weights memory_weight shares + gathered (rows_beside book.entries rows)
  used_said = blobs.charged.used ∙ ap (λ (n : ℕ). weights memory_weight shares + n) (sym (bytes_beside book.entries rows many sent))
