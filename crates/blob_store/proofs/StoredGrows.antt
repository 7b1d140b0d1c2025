-- Items, page files and rows agree when a blob comes.
use Rattle.std.proofs.Common.{◌≡◌, ℕ, ◌+◌, ◌≤◌, Bool, List, [], ◌∷◌, ◌++◌, Option, Some, None, length, sym, subst, ◌∙◌, arith}
use Rattle.std.specs.Prelude.{flat_map, slice_get, sum, sum_by, IsSomeAnd}
use Rattle.std.proofs.lemmas.List.{length-append}
use Rattle.std.proofs.lemmas.List.Sums.{sum-map, sum_by-append, sum_by-cons}
use Rattle.blob_words.specs.declared.number.PageNo.{PageNo}
use Rattle.item_shares.specs.Shares.{item_at}
use Rattle.item_shares.specs.declared.item.Item.{Item}
use Rattle.item_shares.specs.declared.item.Item.TheVariants.{Memory, Paged, Reserved, File, Range}
use Rattle.item_shares.specs.declared.shares.Share.{Share}
use Rattle.blob_model.proofs.Lists.{for_each, get_append}
use Rattle.page_files.specs.Files.{left_of, page_no, source_of}
use Rattle.page_files.specs.Items.{IsMemoryOf, IsPagedIn, IsPagedOf}
use Rattle.page_files.specs.Pages.{pieces_at}
use Rattle.page_files.specs.declared.held.Held.{Held}
use Rattle.store_laws.specs.PartLaws.{piece_lengths}
use Rattle.store_laws.specs.Weights.{memory_weight, piece_weight, range_weight, reserved_weight}
use Rattle.blob_store.specs.declared.parts.Parts.{Parts}
use Rattle.blob_store.specs.declared.row.Row.{Row}
use Rattle.blob_store.specs.declared.row.Sending.{Sending}
use Rattle.blob_store.specs.declared.row.Sending.TheVariants.{Settled, Waiting, Gathering, Writing}
use Rattle.blob_store.specs.NewBlobs.{Grows, ItemsFit, NewBlob, RowFits}
use Rattle.blob_store.specs.Rows.{pieces_of_row, pieces_waiting, waits_by, AreInTurn}
use Rattle.blob_store.specs.Stored.{row_weights, AreOnTheirWay, IsHeld, IsHome, IsInMemory, IsMemory, IsOfJob, IsOnItsWay, IsSendingOf, RowStored, Stored}
use Rattle.blob_store.proofs.OneMore.{each_more, got_still, if_both, turn_more, turn_within}
use Rattle.blob_store.proofs.Staying.{item_still, items_still, unheld_still}

-- the homes that were there are there
home_still : (homes more : List ℕ) (slot : ℕ) (item : Item) → IsHome homes slot item → IsHome (homes ++ more) slot item
home_still homes more slot (Memory piece bytes) is = get_append homes more piece.0 slot is
home_still homes more slot (Paged piece page off len) is = get_append homes more piece.0 slot is
home_still homes more slot (Reserved piece len) is = get_append homes more piece.0 slot is
home_still homes more slot (File name stamp off len) is = tt
home_still homes more slot (Range handle off len) is = tt

some_on : {X : Type 0} (P Q : X → Type 0) (held : Option X) → ((x : X) → P x → Q x) → IsSomeAnd held P → IsSomeAnd held Q
some_on P Q None on is = absurd is
some_on P Q (Some x) on is = on x is

-- the pieces on their way are where they were
ways_still : (old new : List (Option Share)) → ((P : Item → Type 0) (slot : ℕ) → IsSomeAnd (item_at old slot) P → IsSomeAnd (item_at new slot) P)
    → (number : ℕ) (lengths slots : List ℕ) (came : List Bool) → AreOnTheirWay old number lengths slots came → AreOnTheirWay new number lengths slots came
ways_still old new still number [] [] [] are = tt
ways_still old new still number [] [] (one ∷ came) are = absurd are
ways_still old new still number [] (slot ∷ slots) came are = absurd are
ways_still old new still number (len ∷ lengths) [] came are = absurd are
ways_still old new still number (len ∷ lengths) (slot ∷ slots) [] are = absurd are
ways_still old new still number (len ∷ lengths) (slot ∷ slots) (one ∷ came) are =
    (still (IsOnItsWay number len one) slot are.0, ways_still old new still (number + 1) lengths slots came are.1)

module _ (new : NewBlob) (renderer : ℕ) (old now : Parts) (grows : Grows new renderer old now)
    (stored : Stored old.limits old.homes old.shares old.rows old.quota old.pages old.recent old.held old.weight) (fits : ItemsFit new old now)
    (fit : RowFits new old now) where
  abbrev homes : List ℕ
  homes = old.homes ++ new.homes

  still : (P : Item → Type 0) (slot : ℕ) → IsSomeAnd (item_at old.shares slot) P → IsSomeAnd (item_at now.shares slot) P
  still = item_still old.shares now.shares new.items new.views grows.put

  job_still : (source : Option PageNo) (held : Held) → IsOfJob old.shares source held → IsOfJob now.shares source held
  job_still None held is = still (IsMemoryOf held) held.slot is
  job_still (Some page) held is = still (IsPagedOf page held) held.slot is

  used_still : (used : ℕ × ℕ) → IsInMemory old.shares old.homes used → IsInMemory now.shares homes used
  used_still used is =
      got_still (λ (slot : ℕ). IsSomeAnd (item_at now.shares slot) (IsMemory used)) old.homes new.homes used.0
      (some_on (λ (slot : ℕ). IsSomeAnd (item_at old.shares slot) (IsMemory used)) (λ (slot : ℕ). IsSomeAnd (item_at now.shares slot) (IsMemory used))
      (slice_get old.homes used.0) (still (IsMemory used)) is)

  sending_still : (row : Row) (sending : Sending) → IsSendingOf old.limits old.shares row sending → IsSendingOf old.limits now.shares row sending
  sending_still row Settled is = tt
  sending_still row Waiting is = is
  sending_still row (Gathering segments) is = is
  sending_still row (Writing slots came) is =
      ways_still old.shares now.shares still row.first (flat_map (piece_lengths old.limits.page) row.lengths) slots came is

  row_still : (row : Row) → row.first + pieces_of_row old.limits.page row ≤ length old.homes → RowStored old.limits old.shares row
      → RowStored old.limits now.shares row
  row_still row within is = record {
    own = is.own;
    unheld = λ number from to. unheld_still old.shares now.shares new.items new.views grows.put number (length old.homes)
        (let own = is.own in omega (arith, to, own, within)) fits.later (is.unheld number from to);
    sending = sending_still row row.sending is.sending;
  }

  weighed : old.weight + new.row.weight ≡ sum (row_weights (old.rows ++ new.row ∷ []))
  weighed =
      let were = stored.weight_so ∙ sum-map (λ (row : Row). row.weight) old.rows in
      let are = sum-map (λ (row : Row). row.weight) (old.rows ++ new.row ∷ []) in
      let parted = sum_by-append (λ (row : Row). row.weight) old.rows (new.row ∷ []) in
      let last = sum_by-cons (λ (row : Row). row.weight) new.row [] in omega (arith, were, are, parted, last)

  pub stored_grows : Stored old.limits homes now.shares (old.rows ++ new.row ∷ [])
      (record old.quota {
        used = old.quota.used + sum_by memory_weight new.items;
        waiting = old.quota.waiting ++ waits_by new.name (sum new.row.lengths) new.row.sending;
      }) (record old.pages { reserved = old.pages.reserved + sum_by reserved_weight new.items }) old.recent
      (old.held + sum_by piece_weight new.items) (old.weight + new.row.weight)
  stored_grows = record {
    items = λ slot. items_still old.shares now.shares new.items new.views grows.put (IsHeld old.homes old.pages.pages slot)
        (IsHeld homes old.pages.pages slot) slot
        (λ item is. record { home = home_still old.homes new.homes slot item is.home; listed = is.listed }) (stored.items slot) (fits.held slot);
    ranges = λ k. let more = grows.put.weighs (range_weight k) in let few = fits.ranges k in omega (arith, more, few);
    pages = λ number. for_each (IsPagedIn (page_no number) old.shares) (IsPagedIn (page_no number) now.shares) (pieces_at old.pages.pages number)
        (λ held is. still (IsPagedOf (page_no number) held) held.slot is) (stored.pages number);
    job = for_each (IsOfJob old.shares (source_of old.pages.job)) (IsOfJob now.shares (source_of old.pages.job)) (left_of old.pages.job)
        (job_still (source_of old.pages.job)) stored.job;
    order = for_each (IsInMemory old.shares old.homes) (IsInMemory now.shares homes) old.recent used_still stored.order;
    rows_stored = each_more (λ (number : ℕ). RowStored old.limits now.shares) old.rows new.row
        (λ number. if_both (λ (row : Row). row.first + pieces_of_row old.limits.page row ≤ length old.homes) (RowStored old.limits old.shares)
        (RowStored old.limits now.shares) (slice_get old.rows number) (λ row at within is. row_still row within is)
        (turn_within old.limits.page 0 old.rows (length old.homes) stored.in_turn number) (stored.rows_stored number)) fit.stored;
    in_turn = subst (AreInTurn old.limits.page 0 (old.rows ++ new.row ∷ [])) (sym (length-append old.homes new.homes))
        (turn_more old.limits.page 0 old.rows new.row (length old.homes) (length new.homes) stored.in_turn fit.first fit.many);
    enough =
        let all = length-append old.homes new.homes in
        let parted = sum_by-append (λ (row : Row). pieces_waiting old.limits.page row.lengths row.sending) old.rows (new.row ∷ []) in
        let last = sum_by-cons (λ (row : Row). pieces_waiting old.limits.page row.lengths row.sending) new.row [] in
        let were = stored.enough in let are = fit.enough in omega (arith, all, parted, last, were, are);
    most = let all = length-append old.homes new.homes in let room = fit.room in omega (arith, all, room);
    memory_limit = stored.memory_limit;
    disk_limit = stored.disk_limit;
    weight_so = weighed;
    light = fit.light;
  }
