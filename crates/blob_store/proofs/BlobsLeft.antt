-- Entries, their items and the rows beside them agree again when entries went.
use Rattle.std.proofs.Common.{◌≡◌, ℕ, ◌+◌, ◌<◌, ◌≤◌, ◌==◌, not, Bool, true, false, cond, List, [], ◌∷◌, Option, Some, None, length, refl, ap, subst}
use Rattle.std.proofs.Common.{sym, ◌∙◌, arith}
use Rattle.std.specs.Prelude.{filter, flat_map, fold, nat_eq, slice_get, slice_index, IfSome, IsSomeAnd}
use Rattle.std.specs.List.{list_any, AllByRecursion}
use Rattle.std.specs.Option.{option_map}
use Rattle.std.proofs.lemmas.Bool.{eq-eqb}
use Rattle.std.proofs.lemmas.Option.{slice_get_within}
use Rattle.blob_words.specs.declared.number.PieceNo.{PieceNo}
use Rattle.blob_words.specs.declared.status.Status.{Status}
use Rattle.blob_words.specs.declared.status.Status.TheVariants as statuses
use Rattle.item_shares.specs.Shares.{item_at}
use Rattle.item_shares.specs.declared.item.Item.{Item}
use Rattle.item_shares.specs.declared.item.Item.TheVariants.{Memory, Paged, Reserved, File, Range}
use Rattle.item_shares.specs.declared.shares.Share.{Share}
use Rattle.blob_items.specs.declared.view.View.{View}
use Rattle.blob_entries.specs.Book.{Book, book_of, entry_at}
use Rattle.blob_entries.specs.Contents.{is_own}
use Rattle.blob_entries.specs.Counts.{count_at, views_on}
use Rattle.blob_entries.specs.Holdings.{held_views}
use Rattle.blob_entries.specs.Leaving.{left}
use Rattle.blob_entries.specs.Statuses.{is_broken, is_pending}
use Rattle.blob_entries.specs.Weights.{cut_weight}
use Rattle.blob_entries.specs.declared.entry.Entry.{Entry}
use Rattle.blob_entries.proofs.Counting.{on_cons}
use Rattle.blob_entries.proofs.Holdings.{in_at, on_held}
use Rattle.blob_registry.specs.Sweeps.{dropped, swept}
use Rattle.page_files.specs.Files.{struck, Files, source_of}
use Rattle.page_files.specs.declared.held.Held.{Held}
use Rattle.page_files.specs.declared.job.Job.{Job}
use Rattle.quota_queue.specs.Queue.{without as unqueued, Queue}
use Rattle.recent_items.specs.Recent.{is_there}
use Rattle.blob_model.proofs.Lists.{false_true, none_filtered}
use Rattle.store_laws.specs.Items.{item_length}
use Rattle.store_laws.specs.LetGo.{left_by, let_go_by}
use Rattle.store_laws.specs.Pageable.{is_flying}
use Rattle.store_laws.specs.PartLaws.{own_steps, piece_lengths}
use Rattle.blob_store.specs.declared.row.Row.{Row}
use Rattle.blob_store.specs.declared.row.Sending.{Sending}
use Rattle.blob_store.specs.declared.row.Sending.TheVariants.{Settled, Waiting, Gathering, Writing}
use Rattle.blob_store.specs.Blobs.{AreKnown, AreUnused, AreWeighed, Awaits, Blobs, Charged, Comes, IsAwaited, IsThere, IsUnused, Views}
use Rattle.blob_store.specs.Dropping.{settled_by}
use Rattle.blob_store.specs.Stored.{row_weights}
use Rattle.blob_store.proofs.QueueLeft.{queue_rows}
use Rattle.blob_store.proofs.SettledRows.{get_all, is_numbered, length_all, map_all, own_number, settled_if}
use Rattle.blob_store.proofs.SweptEntries.{gone_told, left_at}

-- ---- a piece that wasn't used is not used when items go

unused_item : (piece : ℕ) (item : Item) (order : List (ℕ × ℕ)) → is_there piece order ≡ false → is_there piece (left_by order item) ≡ false
unused_item piece (Memory one bytes) order none =
    none_filtered (λ (used : ℕ × ℕ). nat_eq piece used.0) (λ (used : ℕ × ℕ). not (nat_eq one.0 used.0)) order none
unused_item piece (Paged one page off len) order none =
    none_filtered (λ (used : ℕ × ℕ). nat_eq piece used.0) (λ (used : ℕ × ℕ). not (nat_eq one.0 used.0)) order none
unused_item piece (Reserved one len) order none =
    none_filtered (λ (used : ℕ × ℕ). nat_eq piece used.0) (λ (used : ℕ × ℕ). not (nat_eq one.0 used.0)) order none
unused_item piece (File name stamp off len) order none = none
unused_item piece (Range slot off len) order none = none

unused_all : (piece : ℕ) (freed : List Item) (order : List (ℕ × ℕ)) → is_there piece order ≡ false → is_there piece (fold left_by order freed) ≡ false
unused_all piece [] order none = none
unused_all piece (item ∷ freed) order none = unused_all piece freed (left_by order item) (unused_item piece item order none)

flying_struck : (piece : ℕ) (out : PieceNo) (job : Option Job) → is_flying piece job ≡ false → is_flying piece (option_map (struck out) job) ≡ false
flying_struck piece out None none = none
flying_struck piece out (Some job) none =
    none_filtered (λ (held : Held). held.piece.0 == piece) (λ (held : Held). not (nat_eq out.0 held.piece.0)) job.pieces none

flying_item : (piece : ℕ) (item : Item) (files : Files) → is_flying piece files.job ≡ false → is_flying piece (let_go_by files item).job ≡ false
flying_item piece (Memory one bytes) files none = flying_struck piece one files.job none
flying_item piece (Paged one page off len) files none = flying_struck piece one files.job none
flying_item piece (Reserved one len) files none = flying_struck piece one files.job none
flying_item piece (File name stamp off len) files none = none
flying_item piece (Range slot off len) files none = none

flying_all : (piece : ℕ) (freed : List Item) (files : Files) → is_flying piece files.job ≡ false → is_flying piece (fold let_go_by files freed).job ≡ false
flying_all piece [] files none = none
flying_all piece (item ∷ freed) files none = flying_all piece freed (let_go_by files item) (flying_item piece item files none)

-- and the job is one of the same kind
source_struck : (out : PieceNo) (job : Option Job) → source_of (option_map (struck out) job) ≡ source_of job
source_struck out None = refl
source_struck out (Some job) = refl

source_item : (item : Item) (files : Files) → source_of (let_go_by files item).job ≡ source_of files.job
source_item (Memory one bytes) files = source_struck one files.job
source_item (Paged one page off len) files = source_struck one files.job
source_item (Reserved one len) files = source_struck one files.job
source_item (File name stamp off len) files = refl
source_item (Range slot off len) files = refl

source_all : (freed : List Item) (files : Files) → source_of (fold let_go_by files freed).job ≡ source_of files.job
source_all [] files = refl
source_all (item ∷ freed) files = source_all freed (let_go_by files item) ∙ source_item item files

pub unused_still : (piece : ℕ) (freed : List Item) (order : List (ℕ × ℕ)) (files : Files) → IsUnused order files.job piece
    → IsUnused (fold left_by order freed) (fold let_go_by files freed).job piece
unused_still piece freed order files none = (
  unused_all piece freed order none.0,
  λ paged. flying_all piece freed files (none.1 (sym (source_all freed files) ∙ paged)),
)

-- ---- statuses

-- an unfinished blob isn't broken
pub unbroken : (status : Status) → is_pending status ≡ true → is_broken status ≡ true → false ≡ true
unbroken statuses.PendingQuota is broken = broken
unbroken statuses.PendingTransport is broken = broken
unbroken statuses.PendingReferencedBlobs is broken = broken
unbroken statuses.Done is broken = is
unbroken statuses.InvalidArguments is broken = is
unbroken statuses.OutOfMemory is broken = is
unbroken statuses.FileWriteFailed is broken = is
unbroken statuses.SourceDied is broken = is
unbroken statuses.ReferencedBlobBroken is broken = is
unbroken statuses.ReferencedFileUnavailable is broken = is
unbroken statuses.Dereferenced is broken = is

-- bytes that come are those of an unfinished blob
pub comes_pending : (status : Status) (own : Option (List View)) (sending : Sending) → Comes status own sending → is_pending status ≡ false → sending ≡ Settled
comes_pending status own Settled is ended = refl
comes_pending status own Waiting is ended = absurd (false_true (sym ended ∙ ap is_pending is.0))
comes_pending status own (Gathering segments) is ended = absurd (false_true (sym ended ∙ ap is_pending is.0))
comes_pending status own (Writing slots came) is ended = absurd (false_true (sym ended ∙ ap is_pending is.0))

-- ---- views on items that are where they were

module _ (shares later : List (Option Share)) (P : View → Option Item → Type 0) where
  all_kept : (views : List View) → ((slot : ℕ) → 0 < views_on slot views → item_at later slot ≡ item_at shares slot)
      → AllByRecursion (λ (view : View). P view (item_at shares view.slot)) views → AllByRecursion (λ (view : View). P view (item_at later view.slot)) views
  all_kept [] kept all = tt
  all_kept (view ∷ views) kept all = (
    subst (P view) (sym (kept view.slot here)) all.0,
    all_kept views (λ slot some. kept slot (let sum = on_cons slot view views in omega (arith, sum, some))) all.1,
  )
    where
      here : 0 < views_on view.slot (view ∷ views)
      here =
          let sum = on_cons view.slot view views in
          let own = ap {B = ℕ} (λ (b : Bool). cond b 1 0) (eq-eqb view.slot view.slot refl) in omega (arith, sum, own)

module _ (shares later : List (Option Share)) where
  pub views_kept : (entry : Entry) → ((slot : ℕ) → 0 < views_on slot (held_views entry) → item_at later slot ≡ item_at shares slot) → Views shares entry
      → Views later entry
  views_kept entry kept are = record {
    inside = all_kept shares later (λ (view : View) (o : Option Item). IsSomeAnd o (λ (item : Item). view.off + view.len ≤ item_length item))
        (held_views entry) kept are.inside;
    there = all_kept shares later (λ (view : View) (o : Option Item). IfSome o IsThere) (held_views entry) kept are.there;
  }

  -- a viewed item is where it was, where those of the slots that count are
  pub viewed_kept : (entries : List (Option Entry)) (rows : List Row) (quota : Queue) (files : Files) (held : ℕ) → Charged entries later rows quota files held
      → ((slot : ℕ) → 0 < count_at later slot → item_at later slot ≡ item_at shares slot) → (number : ℕ) (entry : Entry)
      → entry_at entries number ≡ Some entry → (slot : ℕ) → 0 < views_on slot (held_views entry) → item_at later slot ≡ item_at shares slot
  viewed_kept entries rows quota files held charged kept number entry at slot some =
      let within = in_at entries number slot in
      let own : on_held slot (entry_at entries number) ≡ views_on slot (held_views entry) = ap (on_held slot) at in
      let count = charged.counts slot in
      kept slot (omega (arith, within, own, count, some))

module _ (page : ℕ) (book : Book) (shares later : List (Option Share)) (rows : List Row) (quota queue : Queue) (files now_files : Files)
    (order : List (ℕ × ℕ)) (held now_held : ℕ) (freed : List Item)
    (blobs : Blobs page book shares rows quota files order held) where
  abbrev told : List ℕ
  told = dropped book.names 0 book.entries

  abbrev now_rows : List Row
  now_rows = fold (settled_by book.names) rows told

  abbrev now_book : Book
  now_book = book_of book.names (swept book.names 0 book.entries)

  abbrev now_order : List (ℕ × ℕ)
  now_order = fold left_by order freed

  abbrev now_job : Option Job
  now_job = (fold let_go_by files freed).job

  abbrev is_told : ℕ → Bool
  is_told number = list_any (is_numbered book.names number) told

  -- the row of an unfinished entry that went is settled
  told_there : (number : ℕ) (entry : Entry) → number < length book.names → entry_at book.entries number ≡ Some entry → is_pending entry.status ≡ true
      → entry_at now_book.entries number ≡ None → is_told number ≡ true
  told_there number entry less at pending gone =
      gone_told book.names (is_numbered book.names number) book.entries 0 number number entry (omega arith)
      (own_number book.names number less (blobs.names number)) at pending gone

  module _ (kept : (slot : ℕ) → 0 < count_at later slot → item_at later slot ≡ item_at shares slot)
      (charged : Charged now_book.entries later now_rows queue now_files now_held) where
    view_one : (number : ℕ) (was : Option Entry) (b : Bool) → entry_at now_book.entries number ≡ left b was → IfSome was (Views shares)
        → IfSome (left b was) (Views later)
    view_one number None true at are = tt
    view_one number None false at are = tt
    view_one number (Some entry) false at are = tt
    view_one number (Some entry) true at are = go (is_broken entry.status) refl at
      where
        go : (b : Bool) → is_broken entry.status ≡ b
            → entry_at now_book.entries number ≡ Some (cond b (record entry { recipe = []; own = None; views = [] }) entry)
            → Views later (cond b (record entry { recipe = []; own = None; views = [] }) entry)
        go true broken at = record { inside = tt; there = tt }
        go false broken at =
            views_kept shares later entry (viewed_kept shares later now_book.entries now_rows queue now_files now_held charged kept number entry at) are

    views_left : (number : ℕ) → IfSome (entry_at now_book.entries number) (Views later)
    views_left number =
        let one = left_at book.names book.entries 0 number in
        subst (λ (now : Option Entry). IfSome now (Views later)) (sym one.is)
        (view_one number (entry_at book.entries number) one.lives one.is (blobs.views number))

    -- ---- rows

    unused_left : (row : Row) (b : Bool) → AreUnused page order files.job row → AreUnused page now_order now_job (settled_if b row)
    unused_left row true unused piece from to = unused_still piece freed order files (unused piece from to)
    unused_left row false unused piece from to = unused_still piece freed order files (unused piece from to)

    owned_if : (row : Row) (b : Bool) (entry : Entry)
        → filter is_own entry.recipe ≡ own_steps row.first (flat_map (piece_lengths page) row.lengths)
        → filter is_own entry.recipe ≡ own_steps (settled_if b row).first (flat_map (piece_lengths page) (settled_if b row).lengths)
    owned_if row true entry is = is
    owned_if row false entry is = is

    comes_if : (row : Row) (b : Bool) (status : Status) (own : Option (List View)) → Comes status own row.sending → Comes status own (settled_if b row).sending
    comes_if row true status own is = tt
    comes_if row false status own is = is

    awaits_same : (row : Row) (b : Bool) (entry : Entry) → Awaits page order files.job row entry → Awaits page now_order now_job (settled_if b row) entry
    awaits_same row b entry is = record {
      comes = comes_if row b entry.status entry.own is.comes;
      owned = λ pending. owned_if row b entry (is.owned pending);
      unused = λ pending. unused_left row b (is.unused pending);
    }

    awaits_broken : (row : Row) (b : Bool) (entry : Entry) → is_broken entry.status ≡ true → Awaits page order files.job row entry
        → Awaits page now_order now_job (settled_if b row) (record entry { recipe = []; own = None; views = [] })
    awaits_broken row b entry broken is = record {
      comes = comes_if row b entry.status None (by (is_pending entry.status) refl);
      owned = λ pending. absurd (false_true (unbroken entry.status pending broken));
      unused = λ pending. unused_left row b (is.unused pending);
    }
      where
        by : (a : Bool) → is_pending entry.status ≡ a → Comes entry.status None row.sending
        by true pending = absurd (false_true (unbroken entry.status pending broken))
        by false ended =
            subst (λ (sending : Sending). Comes entry.status None sending) (sym (comes_pending entry.status entry.own row.sending is.comes ended)) tt

    awaited_one : (number : ℕ) (row : Row) → number < length book.names → (was : Option Entry) → entry_at book.entries number ≡ was → (b : Bool)
        → entry_at now_book.entries number ≡ left b was → IsAwaited page order files.job was row
        → IsAwaited page now_order now_job (left b was) (settled_if (is_told number) row)
    awaited_one number row less None at b now is = settled_none b
      where
        settled : (c : Bool) → (settled_if c row).sending ≡ Settled
        settled true = refl
        settled false = is

        settled_none : (c : Bool) → IsAwaited page now_order now_job (left c None) (settled_if (is_told number) row)
        settled_none true = settled (is_told number)
        settled_none false = settled (is_told number)
    awaited_one number row less (Some entry) at true now is = go (is_broken entry.status) refl
      where
        go : (c : Bool) → is_broken entry.status ≡ c
            → Awaits page now_order now_job (settled_if (is_told number) row) (cond c (record entry { recipe = []; own = None; views = [] }) entry)
        go true broken = awaits_broken row (is_told number) entry broken is
        go false broken = awaits_same row (is_told number) entry is
    awaited_one number row less (Some entry) at false now is = go (is_pending entry.status) refl
      where
        kept_settled : (c : Bool) → row.sending ≡ Settled → (settled_if c row).sending ≡ Settled
        kept_settled true same = refl
        kept_settled false same = same

        go : (c : Bool) → is_pending entry.status ≡ c → (settled_if (is_told number) row).sending ≡ Settled
        go true pending = ap (λ (c : Bool). (settled_if c row).sending) (told_there number entry less at pending now)
        go false ended = kept_settled (is_told number) (comes_pending entry.status entry.own row.sending is.comes ended)

    awaited_left : (number : ℕ) → IfSome (slice_get now_rows number) (IsAwaited page now_order now_job (entry_at now_book.entries number))
    awaited_left number =
        let one = left_at book.names book.entries 0 number in
        subst (λ (now : Option Entry). IfSome (slice_get now_rows number) (IsAwaited page now_order now_job now)) (sym one.is)
        (subst (λ (found : Option Row). IfSome found (IsAwaited page now_order now_job (left one.lives (entry_at book.entries number))))
        (sym (get_all book.names told rows number)) (by one.lives one.is (slice_get rows number) refl (blobs.awaited number)))
      where
        by : (b : Bool) → entry_at now_book.entries number ≡ left b (entry_at book.entries number) → (found : Option Row) → slice_get rows number ≡ found
            → IfSome found (IsAwaited page order files.job (entry_at book.entries number))
            → IfSome (option_map (settled_if (is_told number)) found) (IsAwaited page now_order now_job (left b (entry_at book.entries number)))
        by b now None at is = tt
        by b now (Some row) at is =
            awaited_one number row (subst (λ (n : ℕ). number < n) blobs.each_row (slice_get_within rows number row at)) (entry_at book.entries number) refl
            b now is

    -- ---- weights

    weighed_one : (number : ℕ) (was : Option Entry) (b : Bool)
        → IfSome was (λ (entry : Entry). length (held_views entry) + cut_weight book.names (row_weights rows) entry.recipe
        ≤ slice_index (row_weights rows) number)
        → IfSome (left b was) (λ (entry : Entry). length (held_views entry) + cut_weight book.names (row_weights rows) entry.recipe
        ≤ slice_index (row_weights rows) number)
    weighed_one number None true is = tt
    weighed_one number None false is = tt
    weighed_one number (Some entry) false is = tt
    weighed_one number (Some entry) true is = go (is_broken entry.status)
      where
        go : (b : Bool) → length (held_views (cond b (record entry { recipe = []; own = None; views = [] }) entry))
            + cut_weight book.names (row_weights rows) (cond b (record entry { recipe = []; own = None; views = [] }) entry).recipe
            ≤ slice_index (row_weights rows) number
        go true = let none : cut_weight book.names (row_weights rows) [] ≡ 0 = refl in omega (arith, none)
        go false = is

    weighed_left : AreWeighed now_book (row_weights now_rows)
    weighed_left =
        subst (λ (weights : List ℕ). AreWeighed now_book weights) (sym (map_all book.names (λ (row : Row). row.weight) (λ row. refl) told rows))
        (λ number. let one = left_at book.names book.entries 0 number in
        subst (λ (now : Option Entry). IfSome now (λ (entry : Entry). length (held_views entry) + cut_weight book.names (row_weights rows) entry.recipe
        ≤ slice_index (row_weights rows) number)) (sym one.is) (weighed_one number (entry_at book.entries number) one.lives (blobs.weighed number)))

    known_one : (was : Option Entry) (b : Bool) → IfSome was (AreKnown book.names) → IfSome (left b was) (AreKnown book.names)
    known_one None true is = tt
    known_one None false is = tt
    known_one (Some entry) false is = tt
    known_one (Some entry) true is = go (is_broken entry.status)
      where
        go : (b : Bool) → AreKnown book.names (cond b (record entry { recipe = []; own = None; views = [] }) entry)
        go true = (is.0, tt)
        go false = is

    known_left : (number : ℕ) → IfSome (entry_at now_book.entries number) (AreKnown book.names)
    known_left number =
        let one = left_at book.names book.entries 0 number in
        subst (λ (now : Option Entry). IfSome now (AreKnown book.names)) (sym one.is)
        (known_one (entry_at book.entries number) one.lives (blobs.known number))

    pub blobs_left : now_files.job ≡ now_job
        → queue.waiting ≡ fold (λ (list : List (ℕ × ℕ)) (name : ℕ). unqueued name list) quota.waiting told
        → Blobs page now_book later now_rows queue now_files now_order now_held
    blobs_left flies waits = record {
      charged = charged;
      views = views_left;
      names = blobs.names;
      each_row = length_all book.names told rows ∙ blobs.each_row;
      awaited = λ number.
          subst (λ (job : Option Job). IfSome (slice_get now_rows number) (IsAwaited page now_order job (entry_at now_book.entries number)))
          (sym flies) (awaited_left number);
      waits = waits ∙ ap (λ (start : List (ℕ × ℕ)). fold (λ (list : List (ℕ × ℕ)) (name : ℕ). unqueued name list) start told) blobs.waits
          ∙ queue_rows book.names blobs.names told rows;
      known = known_left;
      weighed = weighed_left;
    }
