-- The parts stand once the head of the queue has its room, and grants are owed in order while the head fits.
use Rattle.std.proofs.Common.{◌≡◌, ℕ, ◌+◌, ◌<◌, ◌≤◌, ◌==◌, ◌&&◌, ◌||◌, not, Bool, true, false, cond, List, [], ◌∷◌, drop, refl, ap, subst, sym, ◌∙◌}
use Rattle.std.proofs.Common.{Option, Some, None, arith}
use Rattle.std.specs.Prelude.{filter, filter_map, nat_le, slice_get, IfNone, IfSome}
use Rattle.std.specs.Option.{option_map_or}
use Rattle.std.specs.List.{list_any, AllByRecursion}
use Rattle.std.proofs.lemmas.Bool.{eqb-true, leb-true, le-leb}
use Rattle.blob_words.specs.declared.limits.Limits.{Limits}
use Rattle.blob_words.specs.declared.status.Status.{Status}
use Rattle.blob_words.specs.declared.status.Status.TheVariants as statuses
use Rattle.answer_text.specs.declared.answer.Answer.TheVariants as answers
use Rattle.blob_entries.specs.Book.{Book}
use Rattle.blob_entries.specs.Changes.{with_status}
use Rattle.blob_entries.specs.Names.{number_of}
use Rattle.blob_entries.specs.declared.entry.Entry.{Entry}
use Rattle.data_handles.specs.Table.{Table as HandleTable}
use Rattle.page_disk.specs.declared.change.Change.{Change}
use Rattle.quota_queue.specs.Queue.{Queue}
use Rattle.blob_model.specs.Builds.{Build, build_in, builds}
use Rattle.blob_model.specs.History.{History, said}
use Rattle.blob_model.specs.Jobs.{is_in_job}
use Rattle.blob_model.specs.Live.{is_live}
use Rattle.blob_model.specs.Order.{Distinct}
use Rattle.blob_model.specs.Pages.{is_memory, place_in}
use Rattle.blob_model.specs.Parts.{own_bytes}
use Rattle.blob_model.specs.Pieces.{Piece, pieces}
use Rattle.blob_model.specs.Session.{Session, page_limit}
use Rattle.blob_model.specs.Settle.{grants, grants_of}
use Rattle.blob_model.specs.Standing.{is_done, is_done_status}
use Rattle.blob_model.specs.Tally.{memory}
use Rattle.blob_model.specs.Victims.{last_uses, with_length}
use Rattle.blob_model.specs.Waits.{is_waiting, waits}
use Rattle.blob_model.proofs.Lists.{false_true, filter_has, for_each}
use Rattle.blob_model.proofs.builds.Order.{ordered_distinct}
use Rattle.blob_model.proofs.settled.GrantsAndJobs.{waits_next}
use Rattle.blob_model.proofs.settled.LateAnswers.{live_late}
use Rattle.store_laws.specs.Granting.{changed_under, charged, gathering_row, granted, GrantsStand}
use Rattle.store_laws.specs.Items.{holds_piece}
use Rattle.store_laws.specs.Late.{IsLate, IsUnsent}
use Rattle.store_laws.specs.LateLists.{GrantsGoOn, queue_of}
use Rattle.store_laws.specs.LineLaws.{AreUnmarked}
use Rattle.store_laws.specs.Rows.{Row}
use Rattle.store_laws.specs.Stands.{Between, ContentsStand, Parts}
use Rattle.store_laws.specs.Uses.{is_held, order_of, own_pieces}
use Rattle.store_laws.proofs.GrantedParts.{IsAlone, IsHead, begun, book_changed, by_number, changed_by, changed_long, entries_now, gathered_other}
use Rattle.store_laws.proofs.GrantedParts.{items_now, marks_so, outlined_now, rowed_now, unmarked_now, written_now}
use Rattle.store_laws.proofs.LateCourses.{course_goes}
use Rattle.store_laws.proofs.LateLists.{heads_are_granted}
use Rattle.store_laws.proofs.Paired.{all_blobs_found}

-- ---- the head

-- the blob that is granted next: the first that waits, and the others
pub record IsNext (s : Session) (h : History) (name bytes : ℕ) : Type 0 where
  pub head : Build
  pub others : List Build
  pub waits_are : waits (page_limit s) h ≡ head ∷ others
  pub name_is : head.name ≡ name
  pub bytes_are : own_bytes head.parts ≡ bytes

module _ (s : Session) (h : History) where
  next_of : (waiting : List (ℕ × ℕ)) (name bytes : ℕ) → waiting ≡ queue_of (waits (page_limit s) h) → slice_get waiting 0 ≡ Some (name, bytes)
      → IsNext s h name bytes
  next_of waiting name bytes is first = go (waits (page_limit s) h) refl (sym (ap (λ (list : List (ℕ × ℕ)). slice_get list 0) is) ∙ first)
    where
      go : (list : List Build) → waits (page_limit s) h ≡ list → slice_get (queue_of list) 0 ≡ Some (name, bytes) → IsNext s h name bytes
      go [] at e = absurd (cc e)
      go (head ∷ others) at e =
          let same : ◌≡◌ {A = Option (ℕ × ℕ)} (Some (head.name, own_bytes head.parts)) (Some (name, bytes)) = e in
          record {
            head = head;
            others = others;
            waits_are = at;
            name_is = ap (λ (o : Option (ℕ × ℕ)). option_map_or (λ (pair : ℕ × ℕ). pair.0) o 0) same;
            bytes_are = ap (λ (o : Option (ℕ × ℕ)). option_map_or (λ (pair : ℕ × ℕ). pair.1) o 0) same;
          }

module _ (s : Session) (h : History) (parts : Parts) (told : Option (List Change)) (table : HandleTable) (late : IsLate s h parts told table)
    (head : Build) (others : List Build) (waits_are : waits (page_limit s) h ≡ head ∷ others) where
  abbrev g : History
  g = said h (answers.Granted head.name)

  abbrev list : List Build
  list = builds (page_limit s) h

  abbrev alive : ℕ → Bool
  alive = is_live (page_limit s) h

  abbrev contents : ContentsStand s h alive parts.book parts.shares parts.rows parts.quota parts.pages parts.recent
  contents = late.between.contents

  distinct : Distinct list
  distinct = ordered_distinct [] list late.course.rest.ordered

  found : AllByRecursion (λ (build : Build). build_in list build.name ≡ Some build) list
  found = all_blobs_found list distinct

  -- what is said of whoever waits is said of the head
  of_head : (P : Build → Type 0) → AllByRecursion P list → P head × (is_waiting h head ≡ true)
  of_head P all =
      (subst (AllByRecursion (λ (build : Build). P build × (is_waiting h build ≡ true))) waits_are (filter_has P (is_waiting h) list all)).0

  is_head : IsHead s h head
  is_head =
      let one = of_head (IsUnsent s h) late.course.unsent in
      let none = one.0 one.1 in
      record { waits = one.1; quiet = none.0; lacks = none.1 }

  alone : AllByRecursion (IsAlone s h head is_head) list
  alone =
      for_each (λ (build : Build). build_in list build.name ≡ Some build) (IsAlone s h head is_head) list
      (λ build is same.
      let both : Some build ≡ Some head =
      sym is ∙ ap (build_in list) (eqb-true build.name head.name same) ∙ (of_head (λ (each : Build). build_in list each.name ≡ Some each) found).0 in
      cc both) found

  abbrev entries : List (Option Entry)
  entries = changed_by head.name (with_status statuses.PendingTransport) list parts.book.entries

  abbrev rows : List (Option Row)
  rows = changed_by head.name (gathering_row s.limits) list parts.rows

  unmarked : AreUnmarked entries
  unmarked = unmarked_now s h head is_head alive list parts.book.entries alone contents.outlines_stand late.unmarked

  -- ---- the order of use

  -- a blob that is done isn't the head
  not_done : (name : ℕ) → is_done h name ≡ true → (head.name == name) ≡ false
  not_done name is = go (head.name == name) refl
    where
      go : (b : Bool) → (head.name == name) ≡ b → b ≡ false
      go false at = refl
      go true at =
          absurd (false_true (sym (ap (λ (o : Option Status). option_map_or is_done_status o false) (begun s h head is_head))
          ∙ ap (is_done h) (eqb-true head.name name at) ∙ is))

  filters_same : (p q r t : Piece → Bool) → ((piece : Piece) → p piece ≡ true → r piece ≡ t piece) → (all : List Piece)
      → filter p (filter q (filter r all)) ≡ filter p (filter q (filter t all))
  filters_same p q r t same [] = refl
  filters_same p q r t same (piece ∷ all) =
      go (p piece) refl (r piece) (t piece) (same piece) (filters_same p q r t same all)
    where
      out : (u : Piece → Bool) → p piece ≡ false → (b : Bool) → q piece ≡ b
          → filter p (filter q (piece ∷ filter u all)) ≡ filter p (filter q (filter u all))
      out u fails true passes =
          (λ i. filter p (cond (passes i) (piece ∷ filter q (filter u all)) (filter q (filter u all))))
          ∙ (λ i. cond (fails i) (piece ∷ filter p (filter q (filter u all))) (filter p (filter q (filter u all))))
      out u fails false passes = λ i. filter p (cond (passes i) (piece ∷ filter q (filter u all)) (filter q (filter u all)))

      into : (xs ys : List Piece) (a b : Bool) → filter p xs ≡ filter p ys → q piece ≡ a → p piece ≡ b
          → filter p (cond (q piece) (piece ∷ xs) xs) ≡ filter p (cond (q piece) (piece ∷ ys) ys)
      into xs ys true b e passes is =
          (λ i. filter p (cond (passes i) (piece ∷ xs) xs)) ∙ (λ i. cond (p piece) (piece ∷ e i) (e i)) ∙ (λ i. filter p (cond (sym passes i) (piece ∷ ys) ys))
      into xs ys false b e passes is = (λ i. filter p (cond (passes i) (piece ∷ xs) xs)) ∙ e ∙ (λ i. filter p (cond (sym passes i) (piece ∷ ys) ys))

      go : (a : Bool) → p piece ≡ a → (c d : Bool) → (p piece ≡ true → c ≡ d)
          → filter p (filter q (filter r all)) ≡ filter p (filter q (filter t all))
          → filter p (filter q (cond c (piece ∷ filter r all) (filter r all))) ≡ filter p (filter q (cond d (piece ∷ filter t all) (filter t all)))
      go a at true true e rest = into (filter q (filter r all)) (filter q (filter t all)) (q piece) a rest refl at
      go a at false false e rest = rest
      go true at true false e rest = absurd (false_true (sym (e at)))
      go true at false true e rest = absurd (false_true (e at))
      go false at true false e rest = out r at (q piece) refl ∙ rest
      go false at false true e rest = rest ∙ sym (out t at (q piece) refl)

  first_true : (a b : Bool) → (a && b) ≡ true → a ≡ true
  first_true true b e = refl
  first_true false b e = absurd (false_true e)

  order_same : order_of s h parts.shares rows ≡ order_of s h parts.shares parts.rows
  order_same =
      ap (λ (pageable : List Piece). filter_map (with_length pageable) (last_uses s.limits h))
      (filters_same (λ (piece : Piece). is_done h piece.blob && not (is_in_job h piece.number)) (λ (piece : Piece). is_memory (place_in h list piece))
      (is_held list parts.shares rows) (is_held list parts.shares parts.rows)
      (λ piece is.
      ap (λ (b : Bool). holds_piece parts.shares piece.number || b)
      (gathered_other s h head is_head list parts.rows piece.blob
      (not_done piece.blob (first_true (is_done h piece.blob) (not (is_in_job h piece.number)) is)))) (pieces (page_limit s) h))

  -- ---- the parts

  module _ (bytes : ℕ) where
    abbrev book : Book
    book = record parts.book { entries = entries }

    contents_now : ContentsStand s g alive book parts.shares rows (charged bytes parts.quota) parts.pages parts.recent
    contents_now = record {
      names = contents.names;
      outlines_stand = outlined_now s h head is_head alive list parts.book.entries alone contents.outlines_stand;
      marks = marks_so s h g list parts.book.entries entries contents.marks
          (changed_long head.name (with_status statuses.PendingTransport) list parts.book.entries) unmarked;
      rows_stand = rowed_now s h head is_head alive list parts.rows alone contents.rows_stand;
      items = items_now s h head is_head (pieces (page_limit s) h) parts.shares contents.items;
      entries = record {
        each = entries_now s h head is_head alive list (pieces (page_limit s) h) parts.shares (own_pieces (page_limit s) h) list parts.book.entries alone
            contents.outlines_stand contents.entries.each;
        written = written_now s h head is_head alive list (pieces (page_limit s) h) parts.shares (own_pieces (page_limit s) h) list parts.rows
            contents.entries.written;
      };
      waiting = ap (drop 1) contents.waiting ∙ ap (λ (blobs : List Build). drop 1 (queue_of blobs)) waits_are
          ∙ ap queue_of (sym (waits_next (page_limit s) h head others distinct waits_are));
      memory_limit = contents.memory_limit;
      page_files_stand = contents.page_files_stand;
      recent = λ on. contents.recent on ∙ sym order_same;
    }

    abbrev now : Parts
    now = record parts { book = book; rows = rows; quota = charged bytes parts.quota }

    between_now : Between s g alive now told table
    between_now = record {
      same_limits = late.between.same_limits;
      same_version = late.between.same_version;
      contents = contents_now;
      tables = record {
        renderers = late.between.tables.renderers;
        urls_stand = late.between.tables.urls_stand;
        files_stand = late.between.tables.files_stand;
        readers_stand = late.between.tables.readers_stand;
      };
      handles = late.between.handles;
      claims = late.between.claims;
      disk_stands = late.between.disk_stands;
      same_lines = late.between.same_lines;
      same_pieces = late.between.same_pieces;
      same_weight = late.between.same_weight;
    }

    late_now : IsLate s g now told table
    late_now = record {
      course = course_goes s h (answers.Granted head.name) refl late.course.flying late.course;
      between = subst (λ (stands : ℕ → Bool). Between s g stands now told table)
          (λ i name. list_any (λ (build : Build). build.name == name) (sym (live_late (page_limit s) h (answers.Granted head.name ∷ []) (refl, tt)) i))
          between_now;
      unmarked = unmarked;
    }

    -- they are those that a grant leaves
    as_granted : now ≡ granted head.name bytes parts
    as_granted =
        let books = book_changed head.name (with_status statuses.PendingTransport) parts.book list contents.names distinct in
        let by_limits : rows ≡ changed_by head.name (gathering_row parts.limits) list parts.rows =
        ap (λ (limits : Limits). changed_by head.name (gathering_row limits) list parts.rows) (sym late.between.same_limits) in
        let by_names : changed_by head.name (gathering_row parts.limits) list parts.rows ≡ (granted head.name bytes parts).rows =
        sym (by_number head.name (gathering_row parts.limits) list parts.rows distinct)
        ∙ ap (λ (names : List ℕ).
        option_map_or (λ (number : ℕ). changed_under number (gathering_row parts.limits) parts.rows) (number_of head.name names) parts.rows)
        (sym contents.names) in
        λ i. record parts { book = sym books i; rows = (by_limits ∙ by_names) i; quota = charged bytes parts.quota }

    pub granted_late : IsLate s g (granted head.name bytes parts) told table
    granted_late = subst (λ (one : Parts). IsLate s g one told table) as_granted late_now

  -- ---- what is owed

  pub next_owed : parts.quota.used ≡ memory (page_limit s) h → parts.quota.used + own_bytes head.parts ≤ parts.quota.limit
      → grants s h ≡ answers.Granted head.name ∷ grants s g
  next_owed used room =
      let goes = heads_are_granted s h (waits (page_limit s) h) parts.quota contents.waiting contents.memory_limit used in
      let first : slice_get parts.quota.waiting 0 ≡ Some (head.name, own_bytes head.parts) =
      ap (λ (queue : List (ℕ × ℕ)). slice_get queue 0) contents.waiting ∙ ap (λ (blobs : List Build). slice_get (queue_of blobs) 0) waits_are in
      let fits = subst (λ (o : Option (ℕ × ℕ)). IfSome o (λ blob. nat_le (parts.quota.used + blob.1) parts.quota.limit ≡ true
      → grants_of s h (waits (page_limit s) h) ≡ answers.Granted blob.0 ∷ grants_of s (said h (answers.Granted blob.0)) (drop 1 (waits (page_limit s) h))))
      first goes.fits in
      fits (le-leb (parts.quota.used + own_bytes head.parts) parts.quota.limit room)
      ∙ ap (λ (blobs : List Build). answers.Granted head.name ∷ grants_of s g blobs)
      (ap (drop 1) waits_are ∙ sym (waits_next (page_limit s) h head others distinct waits_are))

pub grants_stand : GrantsStand
grants_stand = record {
  late = λ s h parts told table late name bytes first.
      let one = next_of s h parts.quota.waiting name bytes late.between.contents.waiting first in
      subst (λ (n : ℕ). IsLate s (said h (answers.Granted n)) (granted n bytes parts) told table) one.name_is
      (granted_late s h parts told table late one.head one.others one.waits_are bytes);
  next = λ s h parts told table late used name bytes first room.
      let one = next_of s h parts.quota.waiting name bytes late.between.contents.waiting first in
      subst (λ (n : ℕ). grants s h ≡ answers.Granted n ∷ grants s (said h (answers.Granted n))) one.name_is
      (next_owed s h parts told table late one.head one.others one.waits_are used
      (subst (λ (n : ℕ). parts.quota.used + n ≤ parts.quota.limit) (sym one.bytes_are) room));
  none = λ s h parts told table late used full.
      none_owed s h parts.quota
      (heads_are_granted s h (waits (page_limit s) h) parts.quota late.between.contents.waiting late.between.contents.memory_limit used)
      (slice_get parts.quota.waiting 0) refl full;
}
  where
    none_owed : (s : Session) (h : History) (quota : Queue) → GrantsGoOn s h (waits (page_limit s) h) quota → (o : Option (ℕ × ℕ))
        → slice_get quota.waiting 0 ≡ o → IfSome o (λ (blob : ℕ × ℕ). quota.limit < quota.used + blob.1) → grants s h ≡ []
    none_owed s h quota goes None at full =
        subst (λ (o : Option (ℕ × ℕ)). IfNone o (grants_of s h (waits (page_limit s) h) ≡ [])) at goes.none
    none_owed s h quota goes (Some blob) at full =
        let over = subst
        (λ (o : Option (ℕ × ℕ)). IfSome o (λ one. nat_le (quota.used + one.1) quota.limit ≡ false → grants_of s h (waits (page_limit s) h) ≡ []))
        at goes.full in
        over (above (nat_le (quota.used + blob.1) quota.limit) refl)
      where
        above : (b : Bool) → nat_le (quota.used + blob.1) quota.limit ≡ b → b ≡ false
        above false e = refl
        above true e = let low = leb-true (quota.used + blob.1) quota.limit e in absurd (omega (arith, low, full))
