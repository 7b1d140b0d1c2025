-- Which refusal applies to a line that builds, as the parts of a store tell.
use Rattle.std.proofs.Common.{◌≡◌, ℕ, suc, ◌+◌, ◌==◌, ◌&&◌, ◌||◌, Bool, true, false, not, List, [], ◌∷◌, ◌++◌, length, map, refl, ap, subst, sym, ◌∙◌, Option, Some, None, cond, arith}
use Rattle.std.specs.Prelude.{◌^◌, is_none, is_some, min, drop, nat_le, nat_lt, option_and_then, slice_get, slice_index_or, ℤ}
use Rattle.std.specs.Option.{option_map, option_map_or}
use Rattle.std.specs.Int.{div_ceil}
use Rattle.std.specs.List.{list_any}
use Rattle.std.proofs.lemmas.Bool.{eq-eqb, eqb-true, leb-false, ltb-true, or_parts}
use Rattle.std.proofs.lemmas.List.{length-map}
use Rattle.std.proofs.lemmas.List.Sums.{sum_by-cons}
use Rattle.blob_words.specs.declared.counted.Counted.TheVariants as counted
use Rattle.blob_words.specs.declared.limits.Limits.{Limits}
use Rattle.blob_words.specs.declared.number.RendererId.{RendererId}
use Rattle.blob_words.specs.declared.plan.Plan.{Plan}
use Rattle.blob_words.specs.declared.status.Status.{Status}
use Rattle.blob_words.specs.declared.status.Status.TheVariants as statuses
use Rattle.session_script.specs.declared.event.Event.TheVariants as events
use Rattle.session_script.specs.declared.event.Part.{Part}
use Rattle.session_script.specs.declared.event.Part.TheVariants.{Embedded, Asked, FileRange, BlobRange, HandleRange}
use Rattle.answer_text.specs.declared.refusal.Refusal.{Refusal}
use Rattle.answer_text.specs.declared.refusal.Refusal.TheVariants as refusals
use Rattle.blob_entries.specs.Book.{entry_at, entry_of}
use Rattle.blob_entries.specs.Names.{number_of}
use Rattle.blob_entries.specs.declared.entry.Entry.{Entry}
use Rattle.data_handles.specs.Table.{Slot as TableSlot, Table as HandleTable, is_claimed_at, slot_at}
use Rattle.page_disk.specs.declared.change.Change.{Change}
use Rattle.renderer_table.specs.Table.{count_of, living_of}
use Rattle.renderer_table.specs.declared.living.Living.{Living}
use Rattle.slice_rule.specs.Range.{slice_of}
use Rattle.transport_plan.specs.Spans.{piece_count}
use Rattle.blob_model.specs.Builds.{Build, build_in, builds, part_weight, parts_weight, size_in, slice_parts}
use Rattle.blob_model.specs.Choice.{first_that}
use Rattle.blob_model.specs.Construct.{is_invalid, is_lost_source, is_out_of_memory, is_unrecorded, line_status, plan_for}
use Rattle.blob_model.specs.Handles.{has_handle}
use Rattle.blob_model.specs.History.{History}
use Rattle.blob_model.specs.Parts.{claims, own_lengths, parts_length, sources}
use Rattle.blob_model.specs.Refusals.{claimed, is_in, is_many_segments, many_views, name_used, no_handle, no_renderer, piece_total, refusal, slot_refusals, stands_at_line, too_many_blobs, weight_total}
use Rattle.blob_model.specs.Renderers.{is_alive}
use Rattle.blob_model.specs.Session.{Session, Slot, page_limit}
use Rattle.blob_model.specs.Standing.{is_broken as is_broken_now}
use Rattle.blob_model.proofs.Lists.{get_there, not_false}
use Rattle.blob_model.proofs.legal.Totals.{pieces_counted}
use Rattle.store_laws.specs.Deciding.{build_refusal_in, holds, size_under, slice_line, slice_refusal_in, line_weight_in, many_blobs_in, many_in, many_views_in, name_used_in, no_handle_in, no_renderer_in, part_weight_in, plan_in, slot_tests_in, slot_tests, stands_in, weight_in}
use Rattle.store_laws.specs.DecidingLaws.{AreHeldThere}
use Rattle.store_laws.specs.Items.{holds_slot}
use Rattle.store_laws.specs.Outlines.{outline, outline_of}
use Rattle.store_laws.specs.Rows.{bare, row_of, Row}
use Rattle.store_laws.specs.Stands.{Between, Parts, Reaches}
use Rattle.store_laws.specs.Tables.{slot_now, slot_seen}
use Rattle.store_laws.proofs.Deciding.{holds_known, plan_known, slots_free, status_known, AreUnclaimed, Seen}
use Rattle.store_laws.proofs.LineRefusals.{alive_known}
use Rattle.store_laws.proofs.Paired.{first_of, rest_of, AreOutlined}
use Rattle.store_laws.proofs.Telling.{size_told}
use Rattle.store_laws.proofs.SlotTests.{merged, same_places, slots_listed, taken_alike}

-- ---- names and weights of blobs

turned : (a b : ℕ) → (a == b) ≡ (b == a)
turned a b = by (a == b) (b == a) refl refl
  where
    by : (one other : Bool) → (a == b) ≡ one → (b == a) ≡ other → one ≡ other
    by true true at back = refl
    by true false at back = let is : (b == a) ≡ true = eq-eqb b a (sym (eqb-true a b at)) in cc
    by false true at back = let is : (a == b) ≡ true = eq-eqb a b (sym (eqb-true b a back)) in cc
    by false false at back = refl

named_so : (name : ℕ) (list : List Build) → is_some (number_of name (map (λ (build : Build). build.name) list)) ≡ is_some (build_in list name)
named_so name [] = refl
named_so name (build ∷ list) =
    by (name == build.name) (named_so name list)
    ∙ ap (λ (b : Bool). is_some (cond b (Some build) (build_in list name))) (turned name build.name)
  where
    mapped : (found : Option ℕ) → is_some (option_map (λ (number : ℕ). number + 1) found) ≡ is_some found
    mapped None = refl
    mapped (Some number) = refl

    by : (b : Bool) → is_some (number_of name (map (λ (one : Build). one.name) list)) ≡ is_some (build_in list name)
        → is_some (cond b (Some 0) (option_map (λ (number : ℕ). number + 1) (number_of name (map (λ (one : Build). one.name) list))))
        ≡ is_some (cond b (Some build) (build_in list name))
    by true rest = refl
    by false rest = mapped (number_of name (map (λ (one : Build). one.name) list)) ∙ rest

module _ (s : Session) (h : History) (stands : ℕ → Bool) (name : ℕ) (entry : Entry) where
  abbrev row_at : Build → Option Row
  row_at build = cond (stands build.name) (Some (row_of s h build)) None

  abbrev names : List Build → List ℕ
  names list = map (λ (build : Build). build.name) list

  abbrev weighs : List (Option Row) → Option ℕ → ℕ
  weighs rows found = option_map_or (λ (row : Row). row.weight) (option_and_then (λ (number : ℕ). slice_index_or rows number None) found) 0

  abbrev weight_of : Option Build → ℕ
  weight_of found = option_map_or (λ (build : Build). build.weight) found 0

  -- the row beside an entry has its blob's weight
  row_built : (list : List Build) (entries : List (Option Entry)) (rows : List (Option Row)) → AreOutlined s h stands list entries
      → map (option_map bare) rows ≡ map row_at list
      → option_and_then (entry_at entries) (number_of name (names list)) ≡ Some entry
      → weighs rows (number_of name (names list)) ≡ weight_of (build_in list name)
  row_built [] entries rows e f at = absurd (cc at)
  row_built (build ∷ list) [] rows e f at = absurd (cc e)
  row_built (build ∷ list) (held ∷ entries) [] e f at = absurd (cc f)
  row_built (build ∷ list) (held ∷ entries) (row ∷ rows) e f at =
      go (name == build.name) (number_of name (names list)) refl at
      (row_built list entries rows (rest_of s h stands build list held entries e) (tails f))
      ∙ ap (λ (b : Bool). weight_of (cond b (Some build) (build_in list name))) (turned name build.name)
    where
      tails : option_map bare row ∷ map (option_map bare) rows ≡ row_at build ∷ map row_at list → map (option_map bare) rows ≡ map row_at list
      tails g = cc g

      heads : option_map bare row ∷ map (option_map bare) rows ≡ row_at build ∷ map row_at list → option_map bare row ≡ row_at build
      heads g = cc g

      here : (b : Bool) (one : Option Row) → option_map bare one ≡ cond b (Some (row_of s h build)) None
          → held ≡ Some entry → option_map outline held ≡ cond b (Some (outline_of s h build)) None
          → option_map_or (λ (each : Row). each.weight) one 0 ≡ build.weight
      here false one g there told = absurd (cc (sym (ap (option_map outline) there) ∙ told))
      here true None g there told = absurd (cc g)
      here true (Some each) g there told =
          let same : bare each ≡ row_of s h build = cc g in ap (λ (r : Row). r.weight) same

      go : (b : Bool) (found : Option ℕ) → number_of name (names list) ≡ found
          → option_and_then (entry_at (held ∷ entries)) (cond b (Some 0) (option_map (λ (number : ℕ). number + 1) (number_of name (names list)))) ≡ Some entry
          → (option_and_then (entry_at entries) (number_of name (names list)) ≡ Some entry
          → weighs rows (number_of name (names list)) ≡ weight_of (build_in list name))
          → weighs (row ∷ rows) (cond b (Some 0) (option_map (λ (number : ℕ). number + 1) (number_of name (names list))))
          ≡ weight_of (cond b (Some build) (build_in list name))
      go true found there is rest = here (stands build.name) row (heads f) is (first_of s h stands build list held entries e)
      go false None there is rest =
          let none = ap (λ (o : Option ℕ). option_and_then (entry_at (held ∷ entries)) (option_map (λ (number : ℕ). number + 1) o)) there in
          absurd (cc (sym none ∙ is))
      go false (Some number) there is rest =
          let next : number + 1 ≡ suc number = omega arith in
          let found = ap (λ (o : Option ℕ). option_and_then (entry_at (held ∷ entries)) (option_map (λ (n : ℕ). n + 1) o)) there in
          let later : entry_at entries number ≡ Some entry =
          subst (λ (n : ℕ). entry_at (held ∷ entries) n ≡ Some entry) next (sym found ∙ is) in
          ap (λ (o : Option ℕ). weighs (row ∷ rows) (option_map (λ (n : ℕ). n + 1) o)) there
          ∙ ap (λ (n : ℕ). option_map_or (λ (one : Row). one.weight) (slice_index_or (row ∷ rows) n None) 0) next
          ∙ sym (ap (weighs rows) there)
          ∙ rest (ap (option_and_then (entry_at entries)) there ∙ later)

-- ---- slots as the history says

place_there : (slot : Option TableSlot) (taken held : Bool) (found : Option Slot) → slot_seen slot ≡ slot_now taken held found → is_some slot ≡ is_some found
place_there None taken held None e = refl
place_there None taken held (Some object) e = absurd (cc e)
place_there (Some one) taken held None e = absurd (cc e)
place_there (Some one) taken held (Some object) e = refl

claimed_there : (slot : Option TableSlot) (taken held : Bool) (found : Option Slot) → slot_seen slot ≡ slot_now taken held found
    → (one : TableSlot) → slot ≡ Some one → option_map_or (λ (each : TableSlot). each.is_claimed) slot false ≡ taken
claimed_there None taken held found e one is = absurd (cc is)
claimed_there (Some other) taken held None e one is = absurd (cc e)
claimed_there (Some other) taken held (Some object) e one is =
    ap (λ (seen : Option Seen). option_map_or (λ (each : Seen). each.0) seen false) e

-- ---- a line

-- a source of a blob that doesn't break at its line isn't lost
pub found_sources : (s : Session) (h : History) (renderer name : ℕ) (line : List Part) → line_status s h renderer name line ≡ None
    → list_any (is_lost_source h renderer) (sources line) ≡ false
found_sources s h renderer name line none =
    by (list_any (is_invalid s h renderer name) line || nat_lt (2 ^ 62) (parts_length line)) (list_any (is_lost_source h renderer) (sources line)) none
  where
    by : (wrong lost : Bool)
        → first_that ((wrong, statuses.InvalidArguments) ∷ (lost, statuses.ReferencedBlobBroken)
        ∷ (list_any (is_unrecorded h) line, statuses.ReferencedFileUnavailable) ∷ (is_out_of_memory (plan_for s h line), statuses.OutOfMemory) ∷ []) ≡ None
        → lost ≡ false
    by true lost e = absurd (cc e)
    by false true e = absurd (cc e)
    by false false e = refl

-- the tests of a blob that may have too much
abbrev many_by : Bool → Plan → ℕ → ℕ → List (Bool × Refusal)
many_by stands plan count weight =
    (stands && is_many_segments plan, refusals.TooMany counted.Segments)
    ∷ (stands && nat_lt 65536 count, refusals.TooMany counted.Pieces)
    ∷ (stands && nat_lt 4194304 weight, refusals.TooMany counted.Views)
    ∷ []

module _ (s : Session) (h : History) (stands : ℕ → Bool) (parts : Parts) (told : Option (List Change)) (table : HandleTable)
    (between : Between s h stands parts told table) where
  renderer_known : (renderer : RendererId) → no_renderer_in parts renderer ≡ no_renderer h renderer
  renderer_known renderer =
      ap (λ (b : Bool). (b, refusals.NoRenderer renderer))
      (by (living_of renderer.0 parts.renderers) ∙ ap not (alive_known s h stands parts told table between renderer.0))
    where
      by : (held : Option Living) → is_none held ≡ not (is_some held)
      by None = refl
      by (Some one) = refl

  name_known : (name : ℕ) → name_used_in parts name ≡ name_used s h name
  name_known name =
      ap (λ (b : Bool). (b, refusals.NameUsed name))
      (ap (λ (names : List ℕ). is_some (number_of name names)) between.contents.names ∙ named_so name (builds (page_limit s) h))

  hold_known : (renderer : RendererId) (b : ℕ) → no_handle_in parts renderer b ≡ no_handle h renderer b
  hold_known renderer b =
      ap (λ (held : Bool). (not held, refusals.NoHandle renderer b)) (holds_known s h stands parts told table between renderer.0 b)

  blobs_known : many_blobs_in parts ≡ too_many_blobs s h
  blobs_known =
      ap (λ (n : ℕ). (nat_le 65536 n, refusals.TooMany counted.Blobs))
      (ap (λ (names : List ℕ). length names) between.contents.names ∙ length-map (builds (page_limit s) h) (λ (build : Build). build.name))

  -- ---- slots

  places_same : length table.slots ≡ length s.outside.slots
  places_same = same_places table.slots s.outside.slots (λ k.
      place_there (slot_at table k) (is_in k (claimed s h)) (holds_slot parts.shares k) (slice_get s.outside.slots k) (between.handles k))

  taken_known : (k : ℕ) → nat_le (length table.slots) k ≡ false → is_claimed_at table k ≡ is_in k (claimed s h)
  taken_known k there =
      let there_is = get_there table.slots k (leb-false (length table.slots) k there) in
      claimed_there (slot_at table k) (is_in k (claimed s h)) (holds_slot parts.shares k) (slice_get s.outside.slots k) (between.handles k)
      there_is.0 there_is.1

  slots_known : (slots : List ℕ) → first_that (slot_tests_in table slots) ≡ first_that (slot_refusals s (claimed s h) slots)
  slots_known slots =
      taken_alike (length table.slots) (is_claimed_at table) (λ (k : ℕ). is_in k (claimed s h)) slots taken_known
      ∙ ap (λ (n : ℕ). first_that (slot_tests n (λ (k : ℕ). is_in k (claimed s h)) slots)) places_same
      ∙ ap first_that (slots_listed s (claimed s h) slots)

  -- ---- weights

  weight_known : (b : ℕ) (entry : Entry) → entry_of parts.book b ≡ Some entry
      → weight_in parts b ≡ option_map_or (λ (build : Build). build.weight) (build_in (builds (page_limit s) h) b) 0
  weight_known b entry at =
      let list = builds (page_limit s) h in
      let numbers : number_of b parts.book.names ≡ number_of b (map (λ (build : Build). build.name) list) =
      ap (number_of b) between.contents.names in
      ap (λ (found : Option ℕ).
      option_map_or (λ (row : Row). row.weight) (option_and_then (λ (number : ℕ). slice_index_or parts.rows number None) found) 0) numbers
      ∙ row_built s h stands b entry list parts.book.entries parts.rows between.contents.outlines_stand between.contents.rows_stand
      (ap (option_and_then (entry_at parts.book.entries)) (sym numbers) ∙ at)

  module _ (there : AreHeldThere parts) (renderer : ℕ) where
    part_known : (b : ℕ) → is_lost_source h renderer b ≡ false
        → weight_in parts b ≡ option_map_or (λ (build : Build). build.weight) (build_in (builds (page_limit s) h) b) 0
    part_known b kept = by (entry_of parts.book b) refl
      where
        held : holds parts renderer b ≡ true
        held =
            holds_known s h stands parts told table between renderer b
            ∙ not_false (has_handle h renderer b) (or_parts (not (has_handle h renderer b)) (is_broken_now h b) kept).0

        by : (found : Option Entry) → entry_of parts.book b ≡ found
            → weight_in parts b ≡ option_map_or (λ (build : Build). build.weight) (build_in (builds (page_limit s) h) b) 0
        by (Some entry) at = weight_known b entry at
        by None at =
            let stands_there = there renderer b (ltb-true 0 (count_of renderer b parts.renderers) held) in
            absurd (cc (sym (ap (λ (found : Option Entry). is_some found) at) ∙ stands_there))

    one_more : (part : Part) (line : List Part) → part_weight_in parts part ≡ part_weight (page_limit s) (builds (page_limit s) h) part
        → line_weight_in parts line ≡ parts_weight (page_limit s) (builds (page_limit s) h) line
        → line_weight_in parts (part ∷ line) ≡ parts_weight (page_limit s) (builds (page_limit s) h) (part ∷ line)
    one_more part line same rest =
        sum_by-cons (part_weight_in parts) part line
        ∙ ap (λ (n : ℕ). n + line_weight_in parts line) same
        ∙ ap (λ (n : ℕ). part_weight (page_limit s) (builds (page_limit s) h) part + n) rest
        ∙ sym (sum_by-cons (part_weight (page_limit s) (builds (page_limit s) h)) part line)

    pub weights_known : (line : List Part) → list_any (is_lost_source h renderer) (sources line) ≡ false
        → line_weight_in parts line ≡ parts_weight (page_limit s) (builds (page_limit s) h) line
    weights_known [] kept = refl
    weights_known (Embedded bytes ∷ line) kept =
        one_more (Embedded bytes) line (ap (λ (l : Limits). div_ceil (length bytes) l.page) between.same_limits) (weights_known line kept)
    weights_known (Asked len ∷ line) kept =
        one_more (Asked len) line (ap (λ (l : Limits). div_ceil len l.page) between.same_limits) (weights_known line kept)
    weights_known (FileRange file off len stamp ∷ line) kept = one_more (FileRange file off len stamp) line refl (weights_known line kept)
    weights_known (HandleRange k off len ∷ line) kept = one_more (HandleRange k off len) line refl (weights_known line kept)
    weights_known (BlobRange b off len ∷ line) kept =
        let each = or_parts (is_lost_source h renderer b) (list_any (is_lost_source h renderer) (sources line)) kept in
        one_more (BlobRange b off len) line (ap (λ (n : ℕ). min len n) (part_known b each.0)) (weights_known line each.1)

  -- ---- all tests

  module _ (reaches : Reaches s h parts.shares parts.rows parts.quota parts.pages) (there : AreHeldThere parts) (renderer : RendererId) (name : ℕ) where
    module _ (line : List Part) (free : AreUnclaimed s h (claims line)) where
      stands_known : stands_in parts table renderer name line ≡ stands_at_line s h renderer name line
      stands_known =
          ap (λ (status : Option Status). is_none status)
          (status_known s h stands parts told table between reaches there renderer.0 name line free)

      many_known : many_in parts (stands_in parts table renderer name line) line
          ≡ many_by (stands_at_line s h renderer name line) (plan_for s h line) (piece_total s h + piece_count (page_limit s) (own_lengths line))
          (weight_total s h + parts_weight (page_limit s) (builds (page_limit s) h) line)
      many_known =
          ap (λ (b : Bool). many_by b (plan_in parts line) (parts.pieces + piece_count parts.limits.page (own_lengths line))
          (parts.weight + line_weight_in parts line)) stands_known
          ∙ by (line_status s h renderer.0 name line) refl
        where
          count : parts.pieces + piece_count parts.limits.page (own_lengths line) ≡ piece_total s h + piece_count (page_limit s) (own_lengths line)
          count =
              ap (λ (n : ℕ). n + piece_count parts.limits.page (own_lengths line)) (between.same_pieces ∙ pieces_counted s h)
              ∙ ap (λ (l : Limits). piece_total s h + piece_count l.page (own_lengths line)) between.same_limits

          by : (status : Option Status) → line_status s h renderer.0 name line ≡ status
              → many_by (is_none status) (plan_in parts line) (parts.pieces + piece_count parts.limits.page (own_lengths line))
              (parts.weight + line_weight_in parts line)
              ≡ many_by (is_none status) (plan_for s h line) (piece_total s h + piece_count (page_limit s) (own_lengths line))
              (weight_total s h + parts_weight (page_limit s) (builds (page_limit s) h) line)
          by (Some why) at = refl
          by None at =
              ap (λ (plan : Plan). many_by true plan (parts.pieces + piece_count parts.limits.page (own_lengths line))
              (parts.weight + line_weight_in parts line))
              (plan_known s h stands parts told table between reaches line)
              ∙ ap (λ (n : ℕ). many_by true (plan_for s h line) n (parts.weight + line_weight_in parts line)) count
              ∙ ap (λ (n : ℕ). many_by true (plan_for s h line) (piece_total s h + piece_count (page_limit s) (own_lengths line))
              (n + line_weight_in parts line)) between.same_weight
              ∙ ap (λ (n : ℕ). many_by true (plan_for s h line) (piece_total s h + piece_count (page_limit s) (own_lengths line)) (weight_total s h + n))
              (weights_known there renderer.0 line (found_sources s h renderer.0 name line at))

    pub build_known : (kind : List ℕ) (line : List Part) → build_refusal_in parts table renderer name line ≡ refusal s h (events.Build renderer name kind line)
    build_known kind line =
        ap (λ (one : Bool × Refusal). first_that (one ∷ name_used_in parts name ∷ rest)) (renderer_known renderer)
        ∙ ap (λ (one : Bool × Refusal). first_that (no_renderer h renderer ∷ one ∷ rest)) (name_known name)
        ∙ merged (no_renderer h renderer ∷ name_used s h name ∷ []) (no_renderer h renderer ∷ name_used s h name ∷ []) rest more refl
        (λ passed. merged (slot_tests_in table (claims line)) (slot_refusals s (claimed s h) (claims line)) behind behind_it (slots_known (claims line))
        (λ silent. ap (λ (one : Bool × Refusal). first_that (one ∷ many_in parts (stands_in parts table renderer name line) line)) blobs_known
        ∙ ap (λ (tests : List (Bool × Refusal)). first_that (too_many_blobs s h ∷ tests))
        (many_known line (slots_free s (claimed s h) (claimed s h) (claims line) (λ k free. free) silent))))
      where
        behind : List (Bool × Refusal)
        behind = many_blobs_in parts ∷ many_in parts (stands_in parts table renderer name line) line

        behind_it : List (Bool × Refusal)
        behind_it =
            too_many_blobs s h
            ∷ many_by (stands_at_line s h renderer name line) (plan_for s h line) (piece_total s h + piece_count (page_limit s) (own_lengths line))
            (weight_total s h + parts_weight (page_limit s) (builds (page_limit s) h) line)

        rest : List (Bool × Refusal)
        rest = slot_tests_in table (claims line) ++ behind

        more : List (Bool × Refusal)
        more = slot_refusals s (claimed s h) (claims line) ++ behind_it

    pub slice_known : (source : ℕ) (from to : Option ℤ) (kind : List ℕ)
        → slice_refusal_in parts table renderer name source (slice_line parts.book source from to)
        ≡ refusal s h (events.Slice renderer name source from to kind)
    slice_known source from to kind =
        ap (λ (one : Bool × Refusal). first_that (one ∷ name_used_in parts name ∷ no_handle_in parts renderer source ∷ rest)) (renderer_known renderer)
        ∙ ap (λ (one : Bool × Refusal). first_that (no_renderer h renderer ∷ one ∷ no_handle_in parts renderer source ∷ rest)) (name_known name)
        ∙ ap (λ (one : Bool × Refusal). first_that (no_renderer h renderer ∷ name_used s h name ∷ one ∷ rest)) (hold_known renderer source)
        ∙ merged (no_renderer h renderer ∷ name_used s h name ∷ no_handle h renderer source ∷ [])
        (no_renderer h renderer ∷ name_used s h name ∷ no_handle h renderer source ∷ []) rest more refl
        (λ passed. ap (λ (one : Bool × Refusal). first_that (one ∷ many_views_in parts (stands_in parts table renderer name line) line ∷ [])) blobs_known
        ∙ ap (λ (at : List Part). first_that (too_many_blobs s h ∷ many_views_in parts (stands_in parts table renderer name at) at ∷ [])) (lines passed)
        ∙ ap (λ (tests : List (Bool × Refusal)). first_that (too_many_blobs s h ∷ drop 2 tests)) (many_known whole tt))
      where
        line : List Part
        line = slice_line parts.book source from to

        whole : List Part
        whole = slice_parts (builds (page_limit s) h) source from to

        rest : List (Bool × Refusal)
        rest = many_blobs_in parts ∷ many_views_in parts (stands_in parts table renderer name line) line ∷ []

        more : List (Bool × Refusal)
        more = too_many_blobs s h ∷ many_views s h (stands_at_line s h renderer name whole) whole ∷ []

        held : first_that (no_renderer h renderer ∷ name_used s h name ∷ no_handle h renderer source ∷ []) ≡ None → has_handle h renderer.0 source ≡ true
        held e = by (not (is_alive h renderer.0)) (is_some (build_in (builds (page_limit s) h) name)) (has_handle h renderer.0 source) e
          where
            by : (dead used has : Bool)
                → first_that ((dead, refusals.NoRenderer renderer) ∷ (used, refusals.NameUsed name) ∷ (not has, refusals.NoHandle renderer source) ∷ []) ≡ None
                → has ≡ true
            by true used has f = absurd (cc f)
            by false true has f = absurd (cc f)
            by false false false f = absurd (cc f)
            by false false true f = refl

        sizes : has_handle h renderer.0 source ≡ true → size_under parts.book source ≡ size_in (builds (page_limit s) h) source
        sizes has = by (entry_of parts.book source) refl
          where
            by : (found : Option Entry) → entry_of parts.book source ≡ found
                → option_map_or (λ (entry : Entry). entry.size) found 0 ≡ size_in (builds (page_limit s) h) source
            by (Some entry) at = size_told s h stands parts told table between source entry at
            by None at =
                let stands_there = there renderer.0 source
                (ltb-true 0 (count_of renderer.0 source parts.renderers) (holds_known s h stands parts told table between renderer.0 source ∙ has)) in
                absurd (cc (sym (ap (λ (found : Option Entry). is_some found) at) ∙ stands_there))

        lines : first_that (no_renderer h renderer ∷ name_used s h name ∷ no_handle h renderer source ∷ []) ≡ None → line ≡ whole
        lines e = ap (λ (n : ℕ). BlobRange source (slice_of n from to).0 (slice_of n from to).1 ∷ []) (sizes (held e))
