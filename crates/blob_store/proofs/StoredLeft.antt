-- Items, page files and rows agree again when entries went.
use Rattle.std.proofs.Common.{◌≡◌, ℕ, ◌+◌, ◌<◌, ◌≤◌, Bool, true, false, List, [], ◌∷◌, Option, Some, None, length, refl, ap, subst, sym, ◌∙◌, arith}
use Rattle.std.specs.Prelude.{fold, slice_get, sum, IfSome}
use Rattle.std.specs.List.{list_any}
use Rattle.std.specs.Option.{option_map}
use Rattle.blob_words.specs.declared.limits.Limits.{Limits}
use Rattle.item_shares.specs.Shares.{item_at}
use Rattle.item_shares.specs.Weights.{weights}
use Rattle.item_shares.specs.declared.item.Item.{Item}
use Rattle.item_shares.specs.declared.item.Item.TheVariants.{Memory, Paged, Reserved, File, Range}
use Rattle.item_shares.specs.declared.shares.Share.{Share}
use Rattle.page_files.specs.Files.{Files}
use Rattle.quota_queue.specs.Queue.{Queue}
use Rattle.store_laws.specs.LetGo.{left_by, let_go_by, AreFreed}
use Rattle.store_laws.specs.Weights.{piece_weight}
use Rattle.blob_store.specs.declared.row.Row.{Row}
use Rattle.blob_store.specs.declared.row.Sending.TheVariants.{Settled}
use Rattle.blob_store.specs.Dropping.{settled_by}
use Rattle.blob_store.specs.Rows.{gathered_pieces, pieces_gathered, pieces_waiting, pins}
use Rattle.blob_store.specs.Stored.{RowStored, Stored}
use Rattle.blob_store.proofs.ItemsLeft.{items_left, job_left, order_left, pages_left, ranges_left, unheld_still}
use Rattle.blob_store.proofs.OnTheirWay.{sending_kept}
use Rattle.blob_store.proofs.SettledRows.{get_all, is_numbered, map_all, settled_if, sum_all, turn_all}
use Rattle.blob_store.proofs.Settling.{pins_settled}

waits_less : (page : ℕ) (row : Row) → pieces_waiting page row.lengths Settled ≤ pieces_waiting page row.lengths row.sending
waits_less page row = omega arith

module _ (limits : Limits) (homes : List ℕ) (shares later : List (Option Share)) (rows : List Row) (quota queue : Queue) (files : Files)
    (recent : List (ℕ × ℕ)) (held now_held weight : ℕ) (names dropped : List ℕ) (freed : List Item)
    (stored : Stored limits homes shares rows quota files recent held weight) (freed_so : AreFreed shares later freed)
    (kept : (slot : ℕ) → 0 < pins slot (fold (settled_by names) rows dropped) → item_at later slot ≡ item_at shares slot)
    (was_held : held ≡ weights piece_weight shares + pieces_gathered rows)
    (is_held : now_held ≡ weights piece_weight later + pieces_gathered (fold (settled_by names) rows dropped))
    (limit : queue.limit ≡ quota.limit) where
  abbrev now_rows : List Row
  now_rows = fold (settled_by names) rows dropped

  abbrev now_files : Files
  now_files = fold let_go_by files freed

  row_left : (number : ℕ) (row : Row) (b : Bool) → slice_get now_rows number ≡ Some (settled_if b row) → RowStored limits shares row
      → RowStored limits later (settled_if b row)
  row_left number row true at is = record { own = omega arith; unheld = λ piece from to. absurd (omega (arith, from, to)); sending = tt }
  row_left number row false at is = record {
    own = is.own;
    unheld = λ piece from to. unheld_still homes files shares later freed stored.items freed_so piece (is.unheld piece from to);
    sending = sending_kept shares later limits row row.sending is.sending
        (λ slot some. kept slot (let sum = pins_settled slot now_rows number row at in omega (arith, sum, some)));
  }

  rows_left : (number : ℕ) → IfSome (slice_get now_rows number) (RowStored limits later)
  rows_left number =
      subst (λ (found : Option Row). IfSome found (RowStored limits later)) (sym (get_all names dropped rows number))
      (by (slice_get rows number) (list_any (is_numbered names number) dropped) (get_all names dropped rows number) (stored.rows_stored number))
    where
      by : (found : Option Row) (b : Bool) → slice_get now_rows number ≡ option_map (settled_if b) found → IfSome found (RowStored limits shares)
          → IfSome (option_map (settled_if b) found) (RowStored limits later)
      by None b at is = tt
      by (Some row) b at is = row_left number row b at is

  limit_left : files.limit ≡ limits.disk → now_files.limit ≡ limits.disk
  limit_left is = kept_limit freed files ∙ is
    where
      one : (item : Item) (some_files : Files) → (let_go_by some_files item).limit ≡ some_files.limit
      one (Memory piece bytes) some_files = refl
      one (Paged piece page off len) some_files = refl
      one (Reserved piece len) some_files = refl
      one (File name stamp off len) some_files = refl
      one (Range slot off len) some_files = refl

      kept_limit : (list : List Item) (some_files : Files) → (fold let_go_by some_files list).limit ≡ some_files.limit
      kept_limit [] some_files = refl
      kept_limit (item ∷ list) some_files = kept_limit list (let_go_by some_files item) ∙ one item some_files

  pub stored_left : Stored limits homes later now_rows queue now_files (fold left_by recent freed) now_held weight
  stored_left = record {
    items = items_left homes files shares later freed stored.items freed_so;
    ranges = ranges_left homes files shares later freed stored.items freed_so stored.ranges;
    pages = pages_left homes files shares later freed stored.items freed_so stored.pages;
    job = job_left homes files shares later freed stored.items freed_so stored.job;
    order = order_left homes files shares later freed stored.items freed_so recent stored.order;
    rows_stored = rows_left;
    in_turn = turn_all names limits.page 0 (length homes) dropped rows stored.in_turn;
    enough =
        let pieces = freed_so.weighs piece_weight in
        let gathered = sum_all names (λ (row : Row). gathered_pieces row.sending) (λ row. omega arith) dropped rows in
        let waits = sum_all names (λ (row : Row). pieces_waiting limits.page row.lengths row.sending) (λ row. waits_less limits.page row) dropped rows in
        let all = stored.enough in omega (arith, pieces, gathered, waits, all, was_held, is_held);
    most = stored.most;
    memory_limit = limit ∙ stored.memory_limit;
    disk_limit = limit_left stored.disk_limit;
    weight_so = stored.weight_so ∙ ap sum (sym (map_all names (λ (row : Row). row.weight) (λ row. refl) dropped rows));
    light = stored.light;
  }
