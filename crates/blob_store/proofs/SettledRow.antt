-- A row that is settled, with what its bytes took given back.
use Rattle.std.proofs.Common.{◌≡◌, ℕ, ◌+◌, ◌-◌, ◌<◌, ◌≤◌, ◌==◌, Bool, true, false, List, [], Option, Some, None, get_or, refl, ap, subst, sym, ◌∙◌, arith}
use Rattle.std.specs.Prelude.{count_by, slice_get, sum, IfSome, IsSomeAnd}
use Rattle.std.specs.Option.{option_map}
use Rattle.std.proofs.lemmas.Bool.{eq-eqb}
use Rattle.std.proofs.lemmas.Option.{get_or_from_slice_get}
use Rattle.item_shares.specs.Shares.{item_at, HoldsPiece}
use Rattle.item_shares.specs.declared.item.Item.{Item}
use Rattle.item_shares.specs.declared.shares.Share.{Share}
use Rattle.blob_entries.specs.Counts.{count_at}
use Rattle.page_disk.specs.declared.change.Change.{Change}
use Rattle.page_files.specs.Files.{Agrees, Files}
use Rattle.quota_queue.specs.Queue.{Queue}
use Rattle.segment_assembly.specs.Assembly.{Sending as Gathered}
use Rattle.store_laws.specs.LetGo.{AreFreed}
use Rattle.transport_plan.specs.Spans.{piece_count}
use Rattle.blob_store.specs.declared.parts.Parts.{Parts}
use Rattle.blob_store.specs.declared.row.Row.{Row}
use Rattle.blob_store.specs.declared.row.Sending.{Sending}
use Rattle.blob_store.specs.declared.row.Sending.TheVariants.{Gathering, Writing}
use Rattle.blob_store.specs.Dropping.{settled_at, settled_row, AreOwn, CanSettle, ChargedBeside, PiecesGo, RowsGo}
use Rattle.blob_store.specs.Rows.{gathered_bytes, gathered_pieces, pins, sending_slots}
use Rattle.blob_store.proofs.PiecesGoing.{none_goes}
use Rattle.blob_store.proofs.SettledRows.{get_settled, length_settled, settled_if}
use Rattle.blob_store.proofs.Settling.{charged_again, charged_beside, pins_settled}

-- the row that was settled
pub record Was (rows : List Row) (number : ℕ) (sending : Sending) : Type 0 where
  pub row : Row
  pub at : slice_get rows number ≡ Some row
  pub is : row.sending ≡ sending

pub was_there : (rows : List Row) (number : ℕ) (sending : Sending) → IsSomeAnd (slice_get rows number) (λ (row : Row). row.sending ≡ sending)
    → Was rows number sending
was_there rows number sending is = by (slice_get rows number) refl is
  where
    by : (found : Option Row) → slice_get rows number ≡ found → IsSomeAnd found (λ (row : Row). row.sending ≡ sending) → Was rows number sending
    by None at is = absurd is
    by (Some row) at is = record { row = row; at = at; is = is }

-- where items, page files and the order of use are as they were no piece went
still_goes : (old new : Parts) → new.shares ≡ old.shares → new.pages ≡ old.pages → new.recent ≡ old.recent → PiecesGo old new
still_goes old new shares pages recent =
    let none = none_goes old in
    record {
      freed = none.freed;
      freed_so = subst (λ (list : List (Option Share)). AreFreed old.shares list none.freed) (sym shares) none.freed_so;
      kept = λ slot some. ap (λ (list : List (Option Share)). item_at list slot) shares;
      no_range = none.no_range;
      pages = pages ∙ none.pages;
      recent = recent ∙ none.recent;
    }

module _ (parts : Parts) (can : CanSettle parts) (number : ℕ) (sending : Sending) (was : Was parts.rows number sending) where
  abbrev now_rows : List Row
  now_rows = settled_at number parts.rows

  beside : ChargedBeside (sending_slots sending) (gathered_bytes sending) (gathered_pieces sending) (record parts { rows = now_rows })
  beside =
      subst (λ (one : Sending). ChargedBeside (sending_slots one) (gathered_bytes one) (gathered_pieces one) (record parts { rows = now_rows })) was.is
      (charged_beside parts number was.row can.charged was.at)

  fewer_pins : (slot : ℕ) → pins slot now_rows ≤ pins slot parts.rows
  fewer_pins slot = let sum = pins_settled slot parts.rows number was.row was.at in omega (arith, sum)

  pub slots_pinned : (slot : ℕ) → 0 < count_by (λ (one : ℕ). one == slot) (sending_slots sending) → IsSomeAnd (item_at parts.shares slot) HoldsPiece
  slots_pinned slot some =
      let own = ap {B = ℕ} (λ (one : Sending). count_by (λ (each : ℕ). each == slot) (sending_slots one)) was.is in
      let sum = pins_settled slot parts.rows number was.row was.at in can.pinned slot (omega (arith, own, sum, some))

  own_still : (k : ℕ) → IfSome (slice_get now_rows k) (λ (row : Row). AreOwn parts.limits.page row.lengths row.sending)
  own_still k =
      subst (λ (found : Option Row). IfSome found (λ (row : Row). AreOwn parts.limits.page row.lengths row.sending)) (sym (get_settled parts.rows number k))
      (by (slice_get parts.rows k) (number == k) (can.own k))
    where
      by : (found : Option Row) (b : Bool) → IfSome found (λ (row : Row). AreOwn parts.limits.page row.lengths row.sending)
          → IfSome (option_map (settled_if b) found) (λ (row : Row). AreOwn parts.limits.page row.lengths row.sending)
      by None b is = tt
      by (Some row) true is = tt
      by (Some row) false is = is

  module _ (shares : List (Option Share)) (quota : Queue) (pages : Files) (recent : List (ℕ × ℕ)) (held : ℕ)
      (limit : quota.limit ≡ parts.quota.limit) where
    abbrev now : Parts
    now = record parts { shares = shares; rows = now_rows; quota = quota; pages = pages; recent = recent; held = held }

    pub settles_again : ChargedBeside [] 0 0 now → ((slot : ℕ) → 0 < count_at shares slot → item_at shares slot ≡ item_at parts.shares slot) → CanSettle now
    settles_again charged kept = record {
      charged = charged_again now charged;
      pinned = λ slot some.
          let sum = charged.counts slot in
          let fewer = fewer_pins slot in
          subst (λ (held_item : Option Item). IsSomeAnd held_item HoldsPiece) (sym (kept slot (omega (arith, sum, some))))
          (can.pinned slot (omega (arith, fewer, some)));
      own = own_still;
      limit = limit ∙ can.limit;
      each_row = length_settled parts.rows number ∙ can.each_row;
    }

  -- nothing was taken by bytes to come
  pub rows_go_still : gathered_bytes sending ≡ 0 → gathered_pieces sending ≡ 0 → sending_slots sending ≡ []
      → RowsGo now_rows parts.quota.waiting parts (record parts { rows = now_rows })
  rows_go_still bytes pieces slots = record {
    settles = settles_again parts.shares parts.quota parts.pages parts.recent parts.held refl
        (subst (λ (list : List ℕ). ChargedBeside list 0 0 (record parts { rows = now_rows })) slots
        (subst (λ (n : ℕ). ChargedBeside (sending_slots sending) 0 n (record parts { rows = now_rows })) pieces
        (subst (λ (n : ℕ). ChargedBeside (sending_slots sending) n (gathered_pieces sending) (record parts { rows = now_rows })) bytes beside)))
        (λ slot some. refl);
    goes = still_goes parts (record parts { rows = now_rows }) refl refl refl;
    fewer = λ slot. omega arith;
    rest = refl;
    agrees = λ changes is. is;
  }

  -- ---- gathered bytes

  module _ (segments : Gathered) (is : sending ≡ Gathering segments) where
    own_here : AreOwn parts.limits.page was.row.lengths (Gathering segments)
    own_here =
        subst (λ (one : Sending). AreOwn parts.limits.page was.row.lengths one) (was.is ∙ is)
        (subst (λ (found : Option Row). IfSome found (λ (row : Row). AreOwn parts.limits.page row.lengths row.sending)) was.at (can.own number))

    bytes_here : gathered_bytes sending ≡ sum was.row.lengths
    bytes_here = ap gathered_bytes is ∙ ap sum own_here.0

    pieces_here : gathered_pieces sending ≡ piece_count parts.limits.page was.row.lengths
    pieces_here = ap gathered_pieces is ∙ (λ i. piece_count (own_here.1 i) (own_here.0 i))

    pub used_enough : sum was.row.lengths ≤ parts.quota.used
    used_enough = let all = beside.used in let own = bytes_here in omega (arith, all, own)

    pub held_enough : piece_count parts.limits.page was.row.lengths ≤ parts.held
    held_enough = let all = beside.held_so in let own = pieces_here in omega (arith, all, own)

    pub rows_go_gathered : (quota : Queue) (held : ℕ) → quota ≡ record parts.quota { used = parts.quota.used - sum was.row.lengths }
        → held + piece_count parts.limits.page was.row.lengths ≡ parts.held
        → RowsGo now_rows parts.quota.waiting parts (record parts { rows = now_rows; quota = quota; held = held })
    rows_go_gathered quota held used fewer = record {
      settles = settles_again parts.shares quota parts.pages parts.recent held (ap (λ (one : Queue). one.limit) used)
          (record {
            counts = λ slot.
                let sum = beside.counts slot in
                let slots = ap {B = ℕ} (λ (one : Sending). count_by (λ (each : ℕ). each == slot) (sending_slots one)) is in
                let none : count_by (λ (one : ℕ). one == slot) [] ≡ 0 = refl in omega (arith, sum, slots, none);
            unpinned = λ slot some.
                let sum = beside.unpinned slot some in
                let slots = ap {B = ℕ} (λ (one : Sending). count_by (λ (each : ℕ). each == slot) (sending_slots one)) is in
                let none : count_by (λ (one : ℕ). one == slot) [] ≡ 0 = refl in omega (arith, sum, slots, none);
            used =
                let all = beside.used in
                let own = bytes_here in let now_used = ap (λ (one : Queue). one.used) used in omega (arith, all, own, now_used);
            reserved = beside.reserved;
            held_so = let all = beside.held_so in let own = pieces_here in omega (arith, all, own, fewer);
          }) (λ slot some. refl);
      goes = still_goes parts (record parts { rows = now_rows; quota = quota; held = held }) refl refl refl;
      fewer = λ slot. omega arith;
      rest = ap (λ (one : Queue). record parts { rows = now_rows; quota = one; held = held })
          (used ∙ sym (ap (λ (one : Queue). record parts.quota { used = one.used }) used));
      agrees = λ changes is_so. is_so;
    }

  -- ---- pieces on their way

  module _ (slots : List ℕ) (came : List Bool) (is : sending ≡ Writing slots came) where
    pub beside_written : ChargedBeside slots 0 0 (record parts { rows = now_rows })
    beside_written =
        subst (λ (one : Sending). ChargedBeside (sending_slots one) (gathered_bytes one) (gathered_pieces one) (record parts { rows = now_rows })) is beside

    pub slots_written : (slot : ℕ) → 0 < count_by (λ (one : ℕ). one == slot) slots → IsSomeAnd (item_at parts.shares slot) HoldsPiece
    slots_written slot some =
        slots_pinned slot
        (subst (λ (one : Sending). 0 < count_by (λ (each : ℕ). each == slot) (sending_slots one)) (sym is) some)

    pub rows_go_written : (new : Parts) → ChargedBeside [] 0 0 new → PiecesGo (record parts { rows = now_rows }) new
        → new ≡ record parts {
          shares = new.shares;
          rows = now_rows;
          quota = record parts.quota { used = new.quota.used };
          pages = new.pages;
          recent = new.recent;
          held = new.held;
        } → ((changes : List Change) → Agrees parts.pages.pages changes → Agrees new.pages.pages changes)
        → RowsGo now_rows parts.quota.waiting parts new
    rows_go_written new charged goes rest agrees = record {
      settles = subst CanSettle (sym rest)
          (settles_again new.shares (record parts.quota { used = new.quota.used }) new.pages new.recent new.held refl
          (subst (ChargedBeside [] 0 0) rest charged)
          goes.kept);
      goes = record {
        freed = goes.freed;
        freed_so = goes.freed_so;
        kept = goes.kept;
        no_range = goes.no_range;
        pages = goes.pages;
        recent = goes.recent;
      };
      fewer = λ slot.
          let was_so = beside_written.counts slot in
          let now_so = (subst (ChargedBeside [] 0 0) rest charged).counts slot in
          let none : count_by (λ (one : ℕ). one == slot) [] ≡ 0 = refl in omega (arith, was_so, now_so, none);
      rest = rest;
      agrees = agrees;
    }

pub lengths_there : (rows : List Row) (number : ℕ) (row other : Row) → slice_get rows number ≡ Some row
    → (get_or (settled_at number rows) number other).lengths ≡ row.lengths
lengths_there rows number row other at =
    ap (λ (one : Row). one.lengths)
    (get_or_from_slice_get (settled_at number rows) number (settled_row row) other
    (get_settled rows number number ∙ ap (λ (found : Option Row). option_map (settled_if (number == number)) found) at
    ∙ ap {B = Option Row} (λ (b : Bool). Some (settled_if b row)) (eq-eqb number number refl)))
