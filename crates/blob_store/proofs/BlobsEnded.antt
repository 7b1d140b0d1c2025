-- Entries, their items and the rows beside them agree again when blobs ended.
use Rattle.std.proofs.Common.{◌≡◌, ℕ, ◌<◌, Bool, true, false, List, Option, Some, None, length, refl, ap, subst, sym, ◌∙◌}
use Rattle.std.specs.Prelude.{filter, flat_map, fold, slice_get, IfSome}
use Rattle.std.specs.List.{list_any}
use Rattle.std.specs.Option.{option_map}
use Rattle.std.proofs.lemmas.Option.{slice_get_within}
use Rattle.blob_words.specs.declared.status.Status.{Status}
use Rattle.blob_words.specs.declared.status.Status.TheVariants as statuses
use Rattle.item_shares.specs.Shares.{item_at}
use Rattle.item_shares.specs.declared.item.Item.{Item}
use Rattle.item_shares.specs.declared.shares.Share.{Share}
use Rattle.blob_items.specs.declared.view.View.{View}
use Rattle.blob_entries.specs.Book.{Book, book_of, entry_at}
use Rattle.blob_entries.specs.Changes.{done_with, with_status}
use Rattle.blob_entries.specs.Contents.{is_own}
use Rattle.blob_entries.specs.Counts.{count_at}
use Rattle.blob_entries.specs.Endings.{ending, Ends}
use Rattle.blob_entries.specs.Sound.{AreSound, IsSound}
use Rattle.blob_entries.specs.Statuses.{is_pending}
use Rattle.blob_entries.specs.Weights.{KeepsBounds}
use Rattle.blob_entries.specs.declared.entry.Entry.{Entry}
use Rattle.blob_registry.specs.Passes.{Finishes}
use Rattle.blob_registry.specs.declared.ended_blob.EndedBlob.{EndedBlob}
use Rattle.page_files.specs.Files.{Files}
use Rattle.page_files.specs.declared.job.Job.{Job}
use Rattle.quota_queue.specs.Queue.{without as unqueued, Queue}
use Rattle.blob_model.proofs.Lists.{false_true}
use Rattle.store_laws.specs.LetGo.{left_by, let_go_by}
use Rattle.store_laws.specs.PartLaws.{own_steps, piece_lengths}
use Rattle.store_laws.specs.Passing.{ended_names}
use Rattle.blob_store.specs.declared.row.Row.{Row}
use Rattle.blob_store.specs.declared.row.Sending.TheVariants.{Settled}
use Rattle.blob_store.specs.Blobs.{AreKnown, AreUnused, AreWeighed, Awaits, Blobs, Charged, Comes, IsAwaited, Views}
use Rattle.blob_store.specs.Dropping.{settled_by}
use Rattle.blob_store.specs.Stored.{row_weights}
use Rattle.blob_store.proofs.BlobsLeft.{unbroken, unused_still, viewed_kept, views_kept}
use Rattle.blob_store.proofs.EndedList.{numbered_at}
use Rattle.blob_store.proofs.MadeViews.{views_made}
use Rattle.blob_store.proofs.PassedEntry.{by_ending}
use Rattle.blob_store.proofs.QueueLeft.{queue_rows}
use Rattle.blob_store.proofs.SettledRows.{get_all, is_numbered, length_all, map_all, own_number, settled_if}

module _ (page : ℕ) (book now_book : Book) (list : List EndedBlob) (shares later : List (Option Share)) (rows : List Row) (quota queue : Queue)
    (files now_files : Files) (order used : List (ℕ × ℕ)) (held now_held : ℕ) (freed : List Item) (blobs : Blobs page book shares rows quota files order held)
    (sound : AreSound book.names book.entries) (finishes : Finishes book now_book list) (bounds : KeepsBounds book now_book)
    (kept : (slot : ℕ) → 0 < count_at later slot → item_at later slot ≡ item_at shares slot)
    (unused_apart : (number : ℕ) (row : Row) (entry : Entry) → slice_get rows number ≡ Some row → entry_at book.entries number ≡ Some entry
    → ending book.names now_book.entries entry ≡ None → AreUnused page order files.job row → AreUnused page used files.job row) where
  abbrev told : List ℕ
  told = ended_names list

  abbrev now_rows : List Row
  now_rows = fold (settled_by book.names) rows told

  abbrev now_order : List (ℕ × ℕ)
  now_order = fold left_by used freed

  abbrev now_job : Option Job
  now_job = (fold let_go_by files freed).job

  abbrev is_told : ℕ → Bool
  is_told number = list_any (is_numbered book.names number) told

  -- the row of an entry that ended is settled
  told_there : (number : ℕ) (entry : Entry) (status : Status) → number < length book.names → entry_at book.entries number ≡ Some entry
      → ending book.names now_book.entries entry ≡ Some status → is_told number ≡ true
  told_there number entry status less at is =
      numbered_at book now_book list sound finishes (is_numbered book.names number) number entry status
      (own_number book.names number less (blobs.names number)) at is

  -- ---- rows

  unused_if : (row : Row) (b : Bool) → AreUnused page used files.job row → AreUnused page now_order now_job (settled_if b row)
  unused_if row true unused piece from to = unused_still piece freed used files (unused piece from to)
  unused_if row false unused piece from to = unused_still piece freed used files (unused piece from to)

  owned_if : (row : Row) (b : Bool) (entry : Entry) → filter is_own entry.recipe ≡ own_steps row.first (flat_map (piece_lengths page) row.lengths)
      → filter is_own entry.recipe ≡ own_steps (settled_if b row).first (flat_map (piece_lengths page) (settled_if b row).lengths)
  owned_if row true entry is = is
  owned_if row false entry is = is

  comes_if : (row : Row) (b : Bool) (status : Status) (own : Option (List View)) → Comes status own row.sending → Comes status own (settled_if b row).sending
  comes_if row true status own is = tt
  comes_if row false status own is = is

  -- for who ended no bytes come
  over : (row : Row) (b : Bool) (entry : Entry) → b ≡ true → is_pending entry.status ≡ false → Awaits page now_order now_job (settled_if b row) entry
  over row b entry told ended = record {
    comes = subst (λ (c : Bool). Comes entry.status entry.own (settled_if c row).sending) (sym told) tt;
    owned = λ pending. absurd (false_true (sym ended ∙ pending));
    unused = λ pending. absurd (false_true (sym ended ∙ pending));
  }

  not_pending : (status : Status) → (b : Bool) → is_pending status ≡ b → (is_pending status ≡ true → false ≡ true) → is_pending status ≡ false
  not_pending status false at none = at
  not_pending status true at none = absurd (false_true (none at))

  awaited_one : (number : ℕ) (row : Row) → slice_get rows number ≡ Some row → number < length book.names → (was : Option Entry)
      → entry_at book.entries number ≡ was → IfSome was (IsSound book.names book.entries number)
      → Ends book.names now_book.entries was (entry_at now_book.entries number) → IsAwaited page order files.job was row
      → IsAwaited page now_order now_job (entry_at now_book.entries number) (settled_if (is_told number) row)
  awaited_one number row there less None at fine ends is =
      subst (λ (now : Option Entry). IsAwaited page now_order now_job now (settled_if (is_told number) row)) (sym ends) (settled (is_told number))
    where
      settled : (b : Bool) → (settled_if b row).sending ≡ Settled
      settled true = refl
      settled false = is
  awaited_one number row there less (Some entry) at fine ends is =
      by_ending book.names book.entries now_book.entries number entry fine
      (λ (now : Option Entry). IsAwaited page now_order now_job now (settled_if (is_told number) row))
      (λ stays. record {
        comes = comes_if row (is_told number) entry.status entry.own is.comes;
        owned = λ pending. owned_if row (is_told number) entry (is.owned pending);
        unused = λ pending. unused_if row (is_told number) (unused_apart number row entry there at stays (is.unused pending));
      })
      (λ views done made. over row (is_told number) (done_with views entry) (told_there number entry statuses.Done less at done) refl)
      (λ status breaks broken. over row (is_told number) (with_status status entry) (told_there number entry status less at breaks)
      (not_pending status (is_pending status) refl (λ pending. unbroken status pending broken)))
      (entry_at now_book.entries number) ends

  awaited_ended : (number : ℕ) → IfSome (slice_get now_rows number) (IsAwaited page now_order now_job (entry_at now_book.entries number))
  awaited_ended number =
      subst (λ (found : Option Row). IfSome found (IsAwaited page now_order now_job (entry_at now_book.entries number)))
      (sym (get_all book.names told rows number)) (by (slice_get rows number) refl (blobs.awaited number))
    where
      by : (found : Option Row) → slice_get rows number ≡ found → IfSome found (IsAwaited page order files.job (entry_at book.entries number))
          → IfSome (option_map (settled_if (is_told number)) found) (IsAwaited page now_order now_job (entry_at now_book.entries number))
      by None at is = tt
      by (Some row) at is =
          awaited_one number row at (subst (λ (n : ℕ). number < n) blobs.each_row (slice_get_within rows number row at)) (entry_at book.entries number) refl
          (sound.each number) (finishes.each number) is

  -- ---- entries

  known_ended : (number : ℕ) → IfSome (entry_at now_book.entries number) (AreKnown book.names)
  known_ended number = by (entry_at book.entries number) (sound.each number) (finishes.each number) (blobs.known number)
    where
      by : (was : Option Entry) → IfSome was (IsSound book.names book.entries number) → Ends book.names now_book.entries was (entry_at now_book.entries number)
          → IfSome was (AreKnown book.names) → IfSome (entry_at now_book.entries number) (AreKnown book.names)
      by None fine ends is = subst (λ (now : Option Entry). IfSome now (AreKnown book.names)) (sym ends) tt
      by (Some entry) fine ends is =
          by_ending book.names book.entries now_book.entries number entry fine (λ (now : Option Entry). IfSome now (AreKnown book.names)) (λ at. is)
          (λ views at made. (is.0, tt)) (λ status at broken. is) (entry_at now_book.entries number) ends

  weighed_ended : AreWeighed now_book (row_weights now_rows)
  weighed_ended =
      subst (λ (weights : List ℕ). AreWeighed now_book weights) (sym (map_all book.names (λ (row : Row). row.weight) (λ row. refl) told rows))
      (bounds (row_weights rows) blobs.weighed)

  module _ (charged : Charged now_book.entries later now_rows queue now_files now_held) where
    views_ended : (number : ℕ) → IfSome (entry_at now_book.entries number) (Views later)
    views_ended number =
        by (entry_at now_book.entries number) refl (views_made shares book.names book.entries now_book.entries sound finishes.each blobs.views number)
      where
        by : (now : Option Entry) → entry_at now_book.entries number ≡ now → IfSome now (Views shares) → IfSome now (Views later)
        by None at are = tt
        by (Some entry) at are =
            views_kept shares later entry (viewed_kept shares later now_book.entries now_rows queue now_files now_held charged kept number entry at) are

    pub blobs_ended : now_files.job ≡ now_job
        → queue.waiting ≡ fold (λ (one : List (ℕ × ℕ)) (name : ℕ). unqueued name one) quota.waiting told
        → Blobs page (book_of book.names now_book.entries) later now_rows queue now_files now_order now_held
    blobs_ended flies waits = record {
      charged = charged;
      views = views_ended;
      names = blobs.names;
      each_row = length_all book.names told rows ∙ blobs.each_row;
      awaited = λ number.
          subst (λ (job : Option Job). IfSome (slice_get now_rows number) (IsAwaited page now_order job (entry_at now_book.entries number)))
          (sym flies) (awaited_ended number);
      waits = waits ∙ ap (λ (start : List (ℕ × ℕ)). fold (λ (one : List (ℕ × ℕ)) (name : ℕ). unqueued name one) start told) blobs.waits
          ∙ queue_rows book.names blobs.names told rows;
      known = known_ended;
      weighed = subst (λ (names : List ℕ). AreWeighed (book_of names now_book.entries) (row_weights now_rows)) finishes.names weighed_ended;
    }
