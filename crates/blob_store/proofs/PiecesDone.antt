-- The pieces that a pass makes the latest are those of the blobs that got done, as the history numbers them, and no page job has one of them.
use Rattle.std.proofs.Common.{◌≡◌, ℕ, zero, suc, ◌+◌, ◌<◌, ◌≤◌, ◌++◌, Bool, true, false, cond, List, [], ◌∷◌, Option, Some, None, length, refl, ap}
use Rattle.std.proofs.Common.{subst, sym, ◌∙◌, arith, ◌==◌, ◌||◌}
use Rattle.std.specs.Prelude.{filter_map, flat_map, slice_get, slice_index, IfSome, IsSomeAnd}
use Rattle.std.specs.List.{range_with_len, AllByRecursion, list_any}
use Rattle.std.specs.Option.{option_map, option_map_or}
use Rattle.std.proofs.lemmas.List.{length-map}
use Rattle.std.proofs.lemmas.Option.{get_or_from_slice_get, slice_get-get_or, slice_get-map}
use Rattle.std.proofs.lemmas.Bool.{eqb-true}
use Rattle.blob_words.specs.declared.limits.Limits.{Limits}
use Rattle.blob_words.specs.declared.plan.Plan.{Plan}
use Rattle.blob_words.specs.declared.number.PageNo.{PageNo}
use Rattle.blob_words.specs.declared.number.PieceNo.{PieceNo}
use Rattle.data_handles.specs.Table.{Table as HandleTable}
use Rattle.item_shares.specs.Shares.{item_at}
use Rattle.item_shares.specs.declared.item.Item.{Item}
use Rattle.item_shares.specs.declared.item.Item.TheVariants.{Memory, Paged, Reserved, File, Range}
use Rattle.item_shares.specs.declared.shares.Share.{Share}
use Rattle.page_disk.specs.declared.change.Change.{Change}
use Rattle.page_files.specs.Files.{left_of, source_of}
use Rattle.page_files.specs.Items.{IsPagedIn, IsPagedOf}
use Rattle.page_files.specs.declared.held.Held.{Held}
use Rattle.page_files.specs.declared.page.Page.{Page}
use Rattle.transport_plan.specs.Spans.{piece_count}
use Rattle.transport_plan.proofs.SpanLemmas.{pieces_length}
use Rattle.blob_entries.specs.Book.{entry_at}
use Rattle.blob_entries.specs.Endings.{ending}
use Rattle.blob_entries.specs.Names.{number_of}
use Rattle.blob_entries.specs.Sound.{IsSound}
use Rattle.blob_entries.specs.Statuses.{is_done}
use Rattle.blob_entries.specs.declared.entry.Entry.{Entry}
use Rattle.blob_entries.proofs.Soundness.{at_within}
use Rattle.blob_registry.specs.declared.ended_blob.EndedBlob.{EndedBlob}
use Rattle.blob_model.specs.Builds.{builds, Build}
use Rattle.blob_model.specs.History.{History}
use Rattle.blob_model.specs.Parts.{own_lengths}
use Rattle.blob_model.specs.Pieces.{planned_spans, spans_of}
use Rattle.blob_model.specs.Session.{page_limit, Session}
use Rattle.blob_model.proofs.Lists.{all_append, get_there, false_true}
use Rattle.registry_laws.specs.Laws.{Describes}
use Rattle.store_laws.specs.Pageable.{is_flying, pageable_at, pageable_if}
use Rattle.store_laws.specs.Passing.{done_pieces}
use Rattle.store_laws.specs.Rows.{bare, Row as RowSaid}
use Rattle.store_laws.specs.Rows.{row_of as row_said}
use Rattle.store_laws.specs.Stands.{Between}
use Rattle.store_laws.specs.Uses.{own_pieces}
use Rattle.store_laws.proofs.OwnNumbers.{own_range}
use Rattle.store_laws.proofs.PiecesEntered.{same_map}
use Rattle.blob_store.specs.declared.parts.Parts.{Parts}
use Rattle.blob_store.specs.declared.row.Row.{Row}
use Rattle.blob_store.specs.Blobs.{IsAwaited}
use Rattle.blob_store.specs.Passing.{in_memory, pieces_at, pieces_done, pieces_under, row_pieces, EntriesEnd}
use Rattle.blob_store.specs.Rows.{pieces_of_row}
use Rattle.blob_store.specs.Seen.{parts_of, row_of, rows_beside}
use Rattle.blob_store.specs.Stored.{IsHeld, IsOfJob}
use Rattle.blob_store.specs.Whole.{Whole}
use Rattle.blob_store.proofs.EndedList.{named_at, IsEnded}
use Rattle.blob_store.proofs.PassedEntry.{ended_pending}

-- what stands beside an entry
row_beside : (entries : List (Option Entry)) (rows : List Row) (k : ℕ) (entry : Entry) (row : Row) → entry_at entries k ≡ Some entry
    → slice_get rows k ≡ Some row → slice_get (rows_beside entries rows) k ≡ Some (Some (row_of row))
row_beside [] rows k entry row at then = absurd (cc at)
row_beside (held ∷ entries) [] k entry row at then = absurd (cc then)
row_beside (held ∷ entries) (one ∷ rows) zero entry row at then =
    let same : one ≡ row = cc then in
    λ i. Some (option_map (λ (each : Entry). row_of (same i)) (at i))
row_beside (held ∷ entries) (one ∷ rows) (suc k) entry row at then = row_beside entries rows k entry row at then

-- ---- a piece that a job moves is in a page file, and isn't read off its home

module _ (shares : List (Option Share)) (homes : List ℕ) (files : List Page) (items : (slot : ℕ) → IfSome (item_at shares slot) (IsHeld homes files slot))
    (page : PageNo) where
  paged_home : (flying : Bool) (held : Held) → IsPagedIn page shares held
      → pageable_if held.piece.0 flying (item_at shares (slice_index homes held.piece.0)) ≡ None
  paged_home flying held is = by (item_at shares held.slot) refl is (items held.slot)
    where
      by : (found : Option Item) → item_at shares held.slot ≡ found → IsSomeAnd found (IsPagedOf page held) → IfSome found (IsHeld homes files held.slot)
          → pageable_if held.piece.0 flying (item_at shares (slice_index homes held.piece.0)) ≡ None
      by None at is there = absurd is
      by (Some (Memory piece bytes)) at is there = absurd is
      by (Some (Paged piece one off len)) at is there =
          let here = get_or_from_slice_get homes held.piece.0 held.slot 0 (ap (λ (number : PieceNo). slice_get homes number.0) (sym is.0) ∙ there.home) in
          ap (λ (slot : ℕ). pageable_if held.piece.0 flying (item_at shares slot)) here ∙ ap (pageable_if held.piece.0 flying) at
      by (Some (Reserved piece len)) at is there = absurd is
      by (Some (File name stamp off len)) at is there = absurd is
      by (Some (Range handle off len)) at is there = absurd is

  moved_away : (number : ℕ) (flying : Bool) (list : List Held) → AllByRecursion (IsPagedIn page shares) list
      → list_any (λ (held : Held). held.piece.0 == number) list ≡ true → pageable_if number flying (item_at shares (slice_index homes number)) ≡ None
  moved_away number flying [] all some = absurd (false_true some)
  moved_away number flying (held ∷ list) all some = go (held.piece.0 == number) refl some (moved_away number flying list all.1)
    where
      go : (b : Bool) → (held.piece.0 == number) ≡ b → (b || list_any (λ (one : Held). one.piece.0 == number) list) ≡ true
          → (list_any (λ (one : Held). one.piece.0 == number) list ≡ true → pageable_if number flying (item_at shares (slice_index homes number)) ≡ None)
          → pageable_if number flying (item_at shares (slice_index homes number)) ≡ None
      go true same some rest =
          subst (λ (n : ℕ). pageable_if n flying (item_at shares (slice_index homes n)) ≡ None) (eqb-true held.piece.0 number same)
          (paged_home flying held all.0)
      go false other some rest = rest some

all_range : (P : ℕ → Type 0) (first count : ℕ) → ((n : ℕ) → first ≤ n → n < first + count → P n) → AllByRecursion P (range_with_len first count)
all_range P first zero each = tt
all_range P first (suc count) each = (
  each first (omega arith) (omega arith),
  all_range P (first + 1) count (λ n from to. each n (omega (arith, from)) (omega (arith, to))),
)

module _ (old new : Parts) (list : List EndedBlob) (whole : Whole old) (ends : EntriesEnd list old new) (s : Session) (h : History)
    (tell : Describes s h old.registry) (stands : ℕ → Bool) (told : Option (List Change)) (table : HandleTable)
    (between : Between s h stands (parts_of old) told table) where
  abbrev blobs : List Build
  blobs = builds (page_limit s) h

  abbrev names : List ℕ
  names = old.registry.names

  abbrev page : ℕ
  page = page_limit s

  same_page : old.limits.page ≡ page
  same_page = ap (λ (limits : Limits). limits.page) between.same_limits

  -- ---- one blob that ended

  module _ (place : ℕ) (entry : Entry) (row : Row) (build : Build) (at : entry_at old.registry.entries place ≡ Some entry)
      (then : slice_get old.rows place ≡ Some row) (of_blob : slice_get blobs place ≡ Some build) where
    name_is : slice_index names place ≡ build.name
    name_is =
        get_or_from_slice_get names place build.name 0
        (ap (λ (list : List ℕ). slice_get list place) between.contents.names
        ∙ slice_get-map (λ (one : Build). one.name) blobs place ∙ ap (option_map (λ (one : Build). one.name)) of_blob)

    row_is : bare (row_of row) ≡ row_said s h build
    row_is = by (stands build.name) both
      where
        both : Some (Some (bare (row_of row))) ≡ Some (cond (stands build.name) (Some (row_said s h build)) None)
        both =
            sym (ap (option_map (option_map bare)) (row_beside old.registry.entries old.rows place entry row at then))
            ∙ sym (slice_get-map (option_map bare) (rows_beside old.registry.entries old.rows) place)
            ∙ ap (λ (list : List (Option RowSaid)). slice_get list place) between.contents.rows_stand
            ∙ slice_get-map (λ (one : Build). cond {A = Option RowSaid} (stands one.name) (Some (row_said s h one)) None) blobs place
            ∙ ap (option_map (λ (one : Build). cond {A = Option RowSaid} (stands one.name) (Some (row_said s h one)) None)) of_blob

        by : (b : Bool) → Some (Some (bare (row_of row))) ≡ Some (cond {A = Option RowSaid} b (Some (row_said s h build)) None)
            → bare (row_of row) ≡ row_said s h build
        by true is = cc is
        by false is = absurd (cc is)

    count_so : pieces_of_row old.limits.page row ≡ length (spans_of page build)
    count_so =
        (λ i. option_map_or (λ (plan : Plan). piece_count (same_page i) (lengths i)) (plans i) 0) ∙ by build.plan
      where
        lengths : row.lengths ≡ own_lengths build.parts
        lengths = ap (λ (one : RowSaid). one.lengths) row_is

        plans : row.plan ≡ build.plan
        plans = ap (λ (one : RowSaid). one.plan) row_is

        by : (plan : Option Plan) → option_map_or (λ (one : Plan). piece_count page (own_lengths build.parts)) plan 0 ≡ length (planned_spans page build plan)
        by None = refl
        by (Some plan) = sym (pieces_length page (own_lengths build.parts) 0)

    pieces_so : own_pieces page h build.name ≡ row_pieces old.limits.page row
    pieces_so =
        own_range page h tell.distinct place build of_blob
        ∙ (λ i. range_with_len (ap (λ (one : RowSaid). one.first) (sym row_is) i) (sym count_so i))

  -- what is known of it
  record IsKnown (end : EndedBlob) : Type 0 where
    place : ℕ
    entry : Entry
    row : Row
    build : Build
    at : entry_at old.registry.entries place ≡ Some entry
    then : slice_get old.rows place ≡ Some row
    of_blob : slice_get blobs place ≡ Some build
    named : end.name ≡ slice_index names place
    numbered : number_of end.name names ≡ Some place
    ends_so : ending names new.registry.entries entry ≡ Some end.status

  known_of : (end : EndedBlob) → IsEnded names old.registry.entries new.registry.entries end → IsKnown end
  known_of end is = by (entry_at old.registry.entries is.place) refl is.there
    where
      by : (held : Option Entry) → entry_at old.registry.entries is.place ≡ held
          → IsSomeAnd held (λ (one : Entry). ending names new.registry.entries one ≡ Some end.status) → IsKnown end
      by None at there = absurd there
      by (Some one) at there =
          let within = at_within old.registry.entries is.place one at in
          let sized = tell.sound.sized in
          let many = whole.blobs.each_row in
          let long : length names ≡ length blobs = ap (λ (list : List ℕ). length list) between.contents.names ∙ length-map blobs (λ (one : Build). one.name) in
          let row = get_there old.rows is.place (omega (arith, within, sized, many)) in
          let build = get_there blobs is.place (omega (arith, within, sized, long)) in
          record {
            place = is.place;
            entry = one;
            row = row.0;
            build = build.0;
            at = at;
            then = row.1;
            of_blob = build.1;
            named = is.named;
            numbered = ap (λ (name : ℕ). number_of name names) is.named
                ∙ subst (λ (o : Option ℕ). IfSome o (λ (name : ℕ). number_of name names ≡ Some is.place))
                (slice_get-get_or names is.place 0 (omega (arith, within, sized))) (whole.blobs.names is.place);
            ends_so = there;
          }

  under_so : (end : EndedBlob) (known : IsKnown end) → pieces_under old end.name ≡ row_pieces old.limits.page known.row
  under_so end known =
      ap (λ (o : Option ℕ). option_map_or (pieces_at old) o []) known.numbered
      ∙ ap (λ (o : Option Row). option_map_or (row_pieces old.limits.page) o []) known.then

  done_so : (end : EndedBlob) → IsEnded names old.registry.entries new.registry.entries end → done_pieces s h end ≡ pieces_done old end
  done_so end is = by (is_done end.status) (known_of end is)
    where
      by : (b : Bool) → IsKnown end → cond b (own_pieces page h end.name) [] ≡ cond b (pieces_under old end.name) []
      by false known = refl
      by true known =
          ap (own_pieces page h) (known.named ∙ name_is known.place known.entry known.row known.build known.at known.then known.of_blob)
          ∙ pieces_so known.place known.entry known.row known.build known.at known.then known.of_blob ∙ sym (under_so end known)

  -- ---- no page job has one of its pieces

  abbrev IsRead : ℕ → Type 0
  IsRead number = pageable_at ends.shares old.pages.job (slice_index old.homes) number ≡ in_memory old number

  read_so : (number : ℕ) → is_flying number old.pages.job ≡ false → IsRead number
  read_so number none i = pageable_if number (none i) (ends.same.items (slice_index old.homes number) i)

  read_moved : (number : ℕ) (from : PageNo) → source_of old.pages.job ≡ Some from → is_flying number old.pages.job ≡ true → IsRead number
  read_moved number from moves flies =
      ap (pageable_if number (is_flying number old.pages.job)) (ends.same.items (slice_index old.homes number))
      ∙ away (is_flying number old.pages.job) ∙ sym (away false)
    where
      away : (flying : Bool) → pageable_if number flying (item_at old.shares (slice_index old.homes number)) ≡ None
      away flying =
          moved_away old.shares old.homes old.pages.pages whole.stored.items from number flying (left_of old.pages.job)
          (subst (λ (source : Option PageNo). AllByRecursion (IsOfJob old.shares source) (left_of old.pages.job)) moves whole.stored.job) flies

  read_unless : (number : ℕ) → (source_of old.pages.job ≡ None → is_flying number old.pages.job ≡ false) → IsRead number
  read_unless number none = by (is_flying number old.pages.job) refl (source_of old.pages.job) refl
    where
      by : (b : Bool) → is_flying number old.pages.job ≡ b → (source : Option PageNo) → source_of old.pages.job ≡ source → IsRead number
      by false still source at = read_so number still
      by true flies None at = absurd (false_true (sym (none at) ∙ flies))
      by true flies (Some from) at = read_moved number from at flies

  all_read : (end : EndedBlob) → IsEnded names old.registry.entries new.registry.entries end → AllByRecursion IsRead (pieces_done old end)
  all_read end is = by (is_done end.status) (known_of end is)
    where
      some : (known : IsKnown end) → IfSome (Some known.entry) (IsSound names old.registry.entries known.place)
          → IsAwaited old.limits.page old.recent old.pages.job (Some known.entry) known.row → AllByRecursion IsRead (row_pieces old.limits.page known.row)
      some known fine awaits =
          all_range IsRead known.row.first (pieces_of_row old.limits.page known.row)
          (λ n from to. read_unless n (awaits.unused
          (ended_pending names old.registry.entries new.registry.entries known.place known.entry fine end.status known.ends_so) n from to).1)

      by : (b : Bool) → IsKnown end → AllByRecursion IsRead (cond b (pieces_under old end.name) [])
      by false known = tt
      by true known =
          subst (AllByRecursion IsRead) (sym (under_so end known))
          (some known (subst (λ (o : Option Entry). IfSome o (IsSound names old.registry.entries known.place)) known.at (tell.sound.each known.place))
          (subst (λ (o : Option Entry). IsAwaited old.limits.page old.recent old.pages.job o known.row) known.at
          (subst (λ (o : Option Row). IfSome o (IsAwaited old.limits.page old.recent old.pages.job (entry_at old.registry.entries known.place))) known.then
          (whole.blobs.awaited known.place))))

  -- ---- all of them

  all_done : (some : List EndedBlob) → AllByRecursion (IsEnded names old.registry.entries new.registry.entries) some
      → flat_map (done_pieces s h) some ≡ flat_map (pieces_done old) some
  all_done [] all = refl
  all_done (end ∷ some) all = λ i. done_so end all.0 i ++ all_done some all.1 i

  reads : (some : List EndedBlob) → AllByRecursion (IsEnded names old.registry.entries new.registry.entries) some
      → AllByRecursion IsRead (flat_map (pieces_done old) some)
  reads [] all = tt
  reads (end ∷ some) all = all_append IsRead (pieces_done old end) (flat_map (pieces_done old) some) (all_read end all.0) (reads some all.1)

  ended : AllByRecursion (IsEnded names old.registry.entries new.registry.entries) list
  ended = named_at old.registry new.registry list tell.sound ends.finishes

  pub entered_so : filter_map (pageable_at ends.shares old.pages.job (slice_index old.homes)) (flat_map (done_pieces s h) list)
      ≡ filter_map (in_memory old) (flat_map (pieces_done old) list)
  entered_so =
      ap (filter_map (pageable_at ends.shares old.pages.job (slice_index old.homes))) (all_done list ended)
      ∙ same_map (pageable_at ends.shares old.pages.job (slice_index old.homes)) (in_memory old) (flat_map (pieces_done old) list) (reads list ended)
