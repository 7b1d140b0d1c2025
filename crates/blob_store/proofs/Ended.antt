-- What a pass leaves lets pieces be entered and rows be settled.
use Rattle.std.proofs.Common.{◌≡◌, ℕ, List, Option, Some, None, length, ap, subst, sym, ◌∙◌, arith}
use Rattle.std.specs.Prelude.{flat_map, fold, slice_get, IfSome, IsSomeAnd}
use Rattle.item_shares.specs.Shares.{item_at, HoldsPiece}
use Rattle.item_shares.specs.declared.item.Item.{Item}
use Rattle.blob_entries.specs.Book.{book_of, Book}
use Rattle.blob_entries.specs.Counted.{SameItems}
use Rattle.blob_registry.specs.Passes.{Finishes}
use Rattle.blob_registry.specs.declared.ended_blob.EndedBlob.{EndedBlob}
use Rattle.quota_queue.specs.Queue.{without}
use Rattle.store_laws.specs.Passing.{ended_names}
use Rattle.blob_model.proofs.Lists.{for_each}
use Rattle.blob_store.specs.declared.parts.Parts.{Parts}
use Rattle.blob_store.specs.declared.row.Row.{Row}
use Rattle.blob_store.specs.Blobs.{Charged}
use Rattle.blob_store.specs.Dropping.{settled_by, AreOwn, CanSettle, RowsGo}
use Rattle.blob_store.specs.Passing.{pieces_done, with_used, CanEnter, EntriesEnd}
use Rattle.blob_store.specs.Rows.{pins}
use Rattle.blob_store.specs.Stored.{IsInMemory, IsMemory, RowStored}
use Rattle.blob_store.specs.Whole.{Whole}
use Rattle.blob_store.proofs.OnTheirWay.{own_of, pinned_pieces}

-- rows can be settled whatever was used
pub settles_used : (numbers : List ℕ) (parts : Parts) → CanSettle parts → CanSettle (with_used numbers parts)
settles_used numbers parts settles = record {
  charged = settles.charged;
  pinned = settles.pinned;
  own = settles.own;
  limit = settles.limit;
  each_row = settles.each_row;
}

module _ (old between : Parts) (list : List EndedBlob) (whole : Whole old) (finishes : Finishes old.registry between.registry list)
    (same : SameItems old.registry.entries between.registry.entries old.shares between.shares)
    (charged : Charged between.registry.entries between.shares between.rows between.quota between.pages between.held)
    (rest : between ≡ record old { registry = between.registry; shares = between.shares }) where
  same_rows : between.rows ≡ old.rows
  same_rows = ap (λ (one : Parts). one.rows) rest

  each_named : length between.rows ≡ length between.registry.names
  each_named = ap (λ (rows : List Row). length rows) same_rows ∙ whole.blobs.each_row ∙ sym (ap (λ (names : List ℕ). length names) finishes.names)

  pub passed_settles : CanSettle between
  passed_settles = record {
    charged = charged;
    pinned = λ slot some.
        let pins_same = ap {B = ℕ} (λ (rows : List Row). pins slot rows) same_rows in
        subst (λ (held : Option Item). IsSomeAnd held HoldsPiece) (sym (same.items slot))
        (pinned_pieces old.shares old.limits old.rows whole.stored.rows_stored slot (omega (arith, pins_same, some)));
    own = λ number.
        subst (λ (one : Parts). IfSome (slice_get one.rows number) (λ (row : Row). AreOwn one.limits.page row.lengths row.sending)) (sym rest)
        (by (slice_get old.rows number) (whole.stored.rows_stored number));
    limit = ap (λ (one : Parts). one.quota.limit) rest ∙ whole.stored.memory_limit ∙ sym (ap (λ (one : Parts). one.limits.memory) rest);
    each_row = each_named;
  }
    where
      by : (found : Option Row) → IfSome found (RowStored old.limits old.shares)
          → IfSome found (λ (row : Row). AreOwn old.limits.page row.lengths row.sending)
      by None is = tt
      by (Some row) is = own_of old.limits old.shares row row.sending is.sending

  in_memory_still : (used : ℕ × ℕ) → IsInMemory old.shares old.homes used → IsInMemory between.shares old.homes used
  in_memory_still used is = by (slice_get old.homes used.0) is
    where
      by : (home : Option ℕ) → IsSomeAnd home (λ (slot : ℕ). IsSomeAnd (item_at old.shares slot) (IsMemory used))
          → IsSomeAnd home (λ (slot : ℕ). IsSomeAnd (item_at between.shares slot) (IsMemory used))
      by None is = is
      by (Some slot) is = subst (λ (held : Option Item). IsSomeAnd held (IsMemory used)) (sym (same.items slot)) is

  pub passed_enters : CanEnter between
  passed_enters =
      subst CanEnter (sym rest)
      (record {
        order = for_each (IsInMemory old.shares old.homes) (IsInMemory between.shares old.homes) old.recent in_memory_still whole.stored.order;
        in_turn = whole.stored.in_turn;
        most = whole.stored.most;
        each_row = whole.blobs.each_row ∙ sym (ap (λ (names : List ℕ). length names) finishes.names);
      })

  done_same : flat_map (pieces_done between) list ≡ flat_map (pieces_done old) list
  done_same =
      ap (λ (one : Parts). flat_map (pieces_done one) list) rest
      ∙ ap (λ (names : List ℕ). flat_map (pieces_done (record old { registry = book_of names between.registry.entries; shares = between.shares })) list)
      finishes.names

  abbrev parts_used : Parts
  parts_used = with_used (flat_map (pieces_done old) list) (record old { registry = between.registry; shares = between.shares })

  -- and this is what ends
  pub entries_end : (used new : Parts) → used ≡ with_used (flat_map (pieces_done between) list) between
      → RowsGo (fold (settled_by used.registry.names) used.rows (ended_names list))
      (fold (λ (queue : List (ℕ × ℕ)) (name : ℕ). without name queue) used.quota.waiting (ended_names list)) used new
      → EntriesEnd list old new
  entries_end used new is go = by used now_is go
    where
      now_is : used ≡ parts_used
      now_is =
          is ∙ ap (λ (numbers : List ℕ). with_used numbers between) done_same
          ∙ ap (with_used (flat_map (pieces_done old) list)) rest

      at : RowsGo (fold (settled_by between.registry.names) old.rows (ended_names list))
          (fold (λ (queue : List (ℕ × ℕ)) (name : ℕ). without name queue) old.quota.waiting (ended_names list)) parts_used new → EntriesEnd list old new
      at go =
          let registry = ap (λ (one : Parts). one.registry) go.rest in
          record {
            shares = between.shares;
            finishes = subst (λ (book : Book). Finishes old.registry book list) (sym registry) finishes;
            same = subst (λ (book : Book). SameItems old.registry.entries book.entries old.shares between.shares) (sym registry) same;
            freed = go.goes.freed;
            no_range = go.goes.no_range;
            freed_so = go.goes.freed_so;
            kept = go.goes.kept;
            pages = go.goes.pages;
            recent = go.goes.recent;
            rest = go.rest
                ∙ (λ i. record old {
                  registry = (sym registry) i;
                  shares = new.shares;
                  rows = fold (settled_by (finishes.names i)) old.rows (ended_names list);
                  quota = record old.quota {
                    used = new.quota.used;
                    waiting = fold (λ (queue : List (ℕ × ℕ)) (name : ℕ). without name queue) old.quota.waiting (ended_names list);
                  };
                  pages = new.pages;
                  recent = new.recent;
                  held = new.held;
                });
          }

      by : (one : Parts) → one ≡ parts_used → RowsGo (fold (settled_by one.registry.names) one.rows (ended_names list))
          (fold (λ (queue : List (ℕ × ℕ)) (name : ℕ). without name queue) one.quota.waiting (ended_names list)) one new → EntriesEnd list old new
      by one equal go =
          at (subst (λ (each : Parts). RowsGo (fold (settled_by each.registry.names) each.rows (ended_names list))
          (fold (λ (queue : List (ℕ × ℕ)) (name : ℕ). without name queue) each.quota.waiting (ended_names list)) each new) equal go)
