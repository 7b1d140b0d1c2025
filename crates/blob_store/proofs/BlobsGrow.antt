-- Entries agree with items and rows when a blob comes.
use Rattle.std.proofs.Common.{◌≡◌, ℕ, ◌+◌, ◌<◌, ◌≤◌, Bool, true, false, cond, List, [], ◌∷◌, ◌++◌, Option, Some, None, length, refl, sym, ap, subst, ◌∙◌, arith}
use Rattle.std.specs.Prelude.{min, slice_get, slice_index, sum, sum_by, IfSome, IsSome, IsSomeAnd}
use Rattle.std.specs.List.{AllByRecursion}
use Rattle.std.specs.Option.{option_map_or}
use Rattle.std.proofs.Math.Seq.{get_or-append_seam}
use Rattle.std.proofs.lemmas.List.{get_or_append_left, length-append, length-map, map-append}
use Rattle.std.proofs.lemmas.List.Sums.{sum_by-append, sum_by-cons}
use Rattle.std.proofs.lemmas.Option.{slice_get_within}
use Rattle.std.proofs.lemmas.Bool.{eq-eqb}
use Rattle.item_shares.specs.Shares.{item_at}
use Rattle.item_shares.specs.Weights.{weights}
use Rattle.item_shares.specs.declared.item.Item.{Item}
use Rattle.item_shares.specs.declared.shares.Share.{Share}
use Rattle.blob_items.specs.declared.view.View.{View}
use Rattle.blob_entries.specs.Book.{entry_at}
use Rattle.blob_entries.specs.Counts.{count_at, views_on}
use Rattle.blob_entries.specs.Holdings.{held_views, views_in}
use Rattle.blob_entries.specs.Names.{number_of}
use Rattle.blob_entries.specs.Weights.{cut_weight, step_weight}
use Rattle.blob_entries.specs.declared.entry.Entry.{Entry}
use Rattle.blob_entries.specs.declared.step.Step.{Step}
use Rattle.blob_entries.specs.declared.step.Step.TheVariants.{Own, Fixed, Source}
use Rattle.blob_entries.proofs.Numbers.{number_kept, number_of_next, number_within}
use Rattle.blob_entries.proofs.Soundness.{at_within}
use Rattle.blob_model.proofs.Lists.{for_each}
use Rattle.blob_registry.specs.Registering.{pushed}
use Rattle.store_laws.specs.Items.{item_length}
use Rattle.store_laws.specs.Weights.{memory_weight, piece_weight, reserved_weight}
use Rattle.blob_store.specs.declared.parts.Parts.{Parts}
use Rattle.blob_store.specs.declared.row.Row.{Row}
use Rattle.blob_store.specs.Blobs.{AreKnown, AreWeighed, Blobs, Charged, IsAwaited, IsInside, IsKnown, IsThere, Views}
use Rattle.blob_store.specs.NewBlobs.{EntryFits, Grows, NewBlob, RowFits}
use Rattle.blob_store.specs.Putting.{is_seen}
use Rattle.blob_store.specs.Rows.{gathered_bytes, gathered_pieces, pins, waits_by}
use Rattle.blob_store.specs.Stored.{row_weights}
use Rattle.blob_store.proofs.OneMore.{each_more, if_both, if_so, pins_more, stands_more, views_more, waiting_more}
use Rattle.blob_store.proofs.Putting.{on_none}
use Rattle.blob_store.proofs.Staying.{counted_more, item_still, none_counted}

-- ---- views

module _ (old new : List (Option Share)) (still : (P : Item → Type 0) (slot : ℕ) → IsSomeAnd (item_at old slot) P → IsSomeAnd (item_at new slot) P) where
  -- views on items that can be asked for are on them still
  there_still : (views : List View) → AllByRecursion (IsInside old) views → AllByRecursion (λ (view : View). IfSome (item_at old view.slot) IsThere) views
      → AllByRecursion (λ (view : View). IfSome (item_at new view.slot) IsThere) views
  there_still [] inside there = tt
  there_still (view ∷ views) inside there = (so (item_at new view.slot) now, there_still views inside.1 there.1)
    where
      both : (held : Option Item) → IsSomeAnd held (λ (item : Item). view.off + view.len ≤ item_length item) → IfSome held IsThere → IsSomeAnd held IsThere
      both None within is = absurd within
      both (Some item) within is = is

      now : IsSomeAnd (item_at new view.slot) IsThere
      now = still IsThere view.slot (both (item_at old view.slot) inside.0 there.0)

      so : (held : Option Item) → IsSomeAnd held IsThere → IfSome held IsThere
      so None is = tt
      so (Some item) is = is

  views_still : (entry : Entry) → Views old entry → Views new entry
  views_still entry is = record {
    inside = for_each (IsInside old) (IsInside new) (held_views entry)
        (λ view within. still (λ (item : Item). view.off + view.len ≤ item_length item) view.slot within) is.inside;
    there = there_still (held_views entry) is.inside is.there;
  }

-- ---- names

known_number : (name : ℕ) (names : List ℕ) → IsSome (number_of name names) → (number : ℕ) × (number_of name names ≡ Some number)
known_number name names is = by (number_of name names) refl is
  where
    by : (found : Option ℕ) → number_of name names ≡ found → IsSome found → (number : ℕ) × (number_of name names ≡ Some number)
    by None at is = absurd (cc is)
    by (Some number) at is = (number, at)

known_still : (names more : List ℕ) (step : Step) → IsKnown names step → IsKnown (names ++ more) step
known_still names more (Own piece len) is = tt
known_still names more (Fixed view) is = tt
known_still names more (Source name off len) is =
    let one = known_number name names is in subst (λ (found : Option ℕ). IsSome found) (sym (number_kept name names more one.0 one.1)) refl

-- names and weights that come change no weight of steps whose sources are known
step_still : (names more weights others : List ℕ) (step : Step) → length weights ≡ length names → IsKnown names step
    → step_weight (names ++ more) (weights ++ others) step ≡ step_weight names weights step
step_still names more weights others (Own piece len) same is = refl
step_still names more weights others (Fixed view) same is = refl
step_still names more weights others (Source name off len) same is =
    let one = known_number name names is in
    let within = number_within name names one.0 one.1 in
    ap (λ (found : Option ℕ). min len (option_map_or (slice_index (weights ++ others)) found 0)) (number_kept name names more one.0 one.1)
    ∙ ap (λ (n : ℕ). min len n) (get_or_append_left weights others 0 one.0 (omega (arith, within, same)))
    ∙ ap (λ (found : Option ℕ). min len (option_map_or (slice_index weights) found 0)) (sym one.1)

cut_still : (names more weights others : List ℕ) (steps : List Step) → length weights ≡ length names → AllByRecursion (IsKnown names) steps
    → cut_weight (names ++ more) (weights ++ others) steps ≡ cut_weight names weights steps
cut_still names more weights others [] same known = refl
cut_still names more weights others (step ∷ steps) same known =
    omega (
      arith,
      sum_by-cons (step_weight (names ++ more) (weights ++ others)) step steps,
      sum_by-cons (step_weight names weights) step steps,
      step_still names more weights others step same known.0,
      cut_still names more weights others steps same known.1,
    )

module _ (new : NewBlob) (renderer : ℕ) (old now : Parts) (grows : Grows new renderer old now)
    (sized : length old.registry.names ≡ length old.registry.entries)
    (blobs : Blobs old.limits.page old.registry old.shares old.rows old.quota old.pages old.recent old.held) (fit : RowFits new old now)
    (fits : EntryFits new old now) where
  abbrev names : List ℕ
  names = old.registry.names ++ new.name ∷ []

  abbrev rows : List Row
  rows = old.rows ++ new.row ∷ []

  abbrev entries : List (Option Entry)
  entries = old.registry.entries ++ Some new.entry ∷ []

  still : (P : Item → Type 0) (slot : ℕ) → IsSomeAnd (item_at old.shares slot) P → IsSomeAnd (item_at now.shares slot) P
  still = item_still old.shares now.shares new.items new.views grows.put

  many_weights : length (row_weights old.rows) ≡ length old.registry.names
  many_weights = length-map old.rows (λ (row : Row). row.weight) ∙ blobs.each_row

  -- ---- what slots count, and what is charged

  counts : (slot : ℕ) → count_at now.shares slot ≡ views_in entries slot + pins slot rows
  counts slot =
      let more = counted_more old.shares now.shares new.items new.views grows.put slot in
      let had = blobs.charged.counts slot in
      let entry = views_more old.registry.entries new.entry slot in
      let pinned = pins_more old.rows (new.row ∷ []) slot in
      let viewed = fits.viewed slot in omega (arith, more, had, entry, pinned, viewed)

  unpinned : (slot : ℕ) → 0 < views_in entries slot → pins slot rows ≡ 0
  unpinned slot some = by (is_seen slot new.views) refl
    where
      entry : views_in entries slot ≡ views_in old.registry.entries slot + views_on slot (held_views new.entry)
      entry = views_more old.registry.entries new.entry slot

      pinned : pins slot rows ≡ pins slot old.rows + pins slot (new.row ∷ [])
      pinned = pins_more old.rows (new.row ∷ []) slot

      had : count_at old.shares slot ≡ views_in old.registry.entries slot + pins slot old.rows
      had = blobs.charged.counts slot

      by : (b : Bool) → is_seen slot new.views ≡ b → pins slot rows ≡ 0
      by true at =
          let none = none_counted old.shares now.shares new.items new.views grows.put slot at in
          let apart = fits.apart slot (omega (arith, entry, had, none, some)) in omega (arith, pinned, had, none, apart)
      by false at =
          let none = on_none slot new.views at in
          let viewed = fits.viewed slot in
          let were = blobs.charged.unpinned slot (omega (arith, entry, viewed, none, some)) in omega (arith, pinned, were, viewed, none)

  charged : Charged entries now.shares rows (record old.quota {
    used = old.quota.used + sum_by memory_weight new.items;
    waiting = old.quota.waiting ++ waits_by new.name (sum new.row.lengths) new.row.sending;
  }) (record old.pages { reserved = old.pages.reserved + sum_by reserved_weight new.items }) (old.held + sum_by piece_weight new.items)
  charged = record {
    counts = counts;
    unpinned = unpinned;
    used =
        let had = blobs.charged.used in
        let more = grows.put.weighs memory_weight in
        let parted = sum_by-append (λ (row : Row). gathered_bytes row.sending) old.rows (new.row ∷ []) in
        let last = sum_by-cons (λ (row : Row). gathered_bytes row.sending) new.row [] in
        let none = fit.no_bytes in omega (arith, had, more, parted, last, none);
    reserved = let had = blobs.charged.reserved in let more = grows.put.weighs reserved_weight in omega (arith, had, more);
    held_so =
        let had = blobs.charged.held_so in
        let more = grows.put.weighs piece_weight in
        let parted = sum_by-append (λ (row : Row). gathered_pieces row.sending) old.rows (new.row ∷ []) in
        let last = sum_by-cons (λ (row : Row). gathered_pieces row.sending) new.row [] in
        let none = fit.no_pieces in omega (arith, had, more, parted, last, none);
  }

  -- ---- entries and rows

  last_number : number_of new.name names ≡ Some (length old.registry.names)
  last_number =
      number_of_next new.name new.name old.registry.names fits.fresh
      ∙ ap (λ (b : Bool). cond {A = Option ℕ} b (Some (length old.registry.names)) None) (eq-eqb new.name new.name refl)

  named : (number : ℕ) → IfSome (slice_get names number) (λ (name : ℕ). number_of name names ≡ Some number)
  named = each_more (λ (number name : ℕ). number_of name names ≡ Some number) old.registry.names new.name
      (λ number. if_so (λ (name : ℕ). number_of name old.registry.names ≡ Some number) (λ (name : ℕ). number_of name names ≡ Some number)
      (slice_get old.registry.names number) (λ name at is. number_kept name old.registry.names (new.name ∷ []) number is) (blobs.names number)) last_number

  row_awaited : (number : ℕ) → IfSome (slice_get rows number) (IsAwaited old.limits.page old.recent old.pages.job (entry_at entries number))
  row_awaited = each_more (λ (number : ℕ). IsAwaited old.limits.page old.recent old.pages.job (entry_at entries number)) old.rows new.row
      (λ number. if_so (IsAwaited old.limits.page old.recent old.pages.job (entry_at old.registry.entries number))
      (IsAwaited old.limits.page old.recent old.pages.job (entry_at entries number)) (slice_get old.rows number)
      (λ row at is. let within = slice_get_within old.rows number row at in
      let many = blobs.each_row in
      subst (λ (held : Option Entry). IsAwaited old.limits.page old.recent old.pages.job held row)
      (sym (get_or_append_left old.registry.entries (Some new.entry ∷ []) None number (omega (arith, within, many, sized)))) is) (blobs.awaited number))
      (subst (λ (held : Option Entry). IsAwaited old.limits.page old.recent old.pages.job held new.row) (sym at_last) fits.awaited)
    where
      at_last : entry_at entries (length old.rows) ≡ Some new.entry
      at_last = ap (λ (n : ℕ). entry_at entries n) (blobs.each_row ∙ sized) ∙ get_or-append_seam old.registry.entries (Some new.entry) [] None

  abbrev AreLight : ℕ → Entry → Type 0
  AreLight number entry = length (held_views entry) + cut_weight names (row_weights rows) entry.recipe ≤ slice_index (row_weights rows) number

  weights_more : row_weights rows ≡ row_weights old.rows ++ new.row.weight ∷ []
  weights_more = map-append (λ (row : Row). row.weight) old.rows (new.row ∷ [])

  cut_same : (entry : Entry) → AreKnown old.registry.names entry
      → cut_weight names (row_weights rows) entry.recipe ≡ cut_weight old.registry.names (row_weights old.rows) entry.recipe
  cut_same entry known =
      ap (λ (list : List ℕ). cut_weight names list entry.recipe) weights_more
      ∙ cut_still old.registry.names (new.name ∷ []) (row_weights old.rows) (new.row.weight ∷ []) entry.recipe many_weights known.1

  weighed : AreWeighed (pushed old.registry new.name new.entry) (row_weights rows)
  weighed = stands_more AreLight old.registry.entries new.entry
      (λ number. if_both (AreKnown old.registry.names)
      (λ (entry : Entry). length (held_views entry) + cut_weight old.registry.names (row_weights old.rows) entry.recipe
      ≤ slice_index (row_weights old.rows) number) (AreLight number) (entry_at old.registry.entries number) (light number)
      (blobs.known number) (blobs.weighed number)) last
    where
      light : (number : ℕ) (entry : Entry) → entry_at old.registry.entries number ≡ Some entry → AreKnown old.registry.names entry
          → length (held_views entry) + cut_weight old.registry.names (row_weights old.rows) entry.recipe ≤ slice_index (row_weights old.rows) number
          → AreLight number entry
      light number entry at known is =
          let within = at_within old.registry.entries number entry at in
          let cut = cut_same entry known in
          let index : slice_index (row_weights rows) number ≡ slice_index (row_weights old.rows) number =
          ap (λ (list : List ℕ). slice_index list number) weights_more
          ∙ get_or_append_left (row_weights old.rows) (new.row.weight ∷ []) 0 number (omega (arith, within, many_weights, sized)) in
          omega (arith, is, cut, index)

      last : AreLight (length old.registry.entries) new.entry
      last =
          let cut = cut_same new.entry fits.known in
          let index : slice_index (row_weights rows) (length old.registry.entries) ≡ new.row.weight =
          ap (λ (list : List ℕ). slice_index list (length old.registry.entries)) weights_more
          ∙ ap (λ (n : ℕ). slice_index (row_weights old.rows ++ new.row.weight ∷ []) n) (sym (many_weights ∙ sized))
          ∙ get_or-append_seam (row_weights old.rows) new.row.weight [] 0 in
          let is = fits.weighed in omega (arith, is, cut, index)

  pub blobs_grow : Blobs old.limits.page (pushed old.registry new.name new.entry) now.shares rows
      (record old.quota {
        used = old.quota.used + sum_by memory_weight new.items;
        waiting = old.quota.waiting ++ waits_by new.name (sum new.row.lengths) new.row.sending;
      }) (record old.pages { reserved = old.pages.reserved + sum_by reserved_weight new.items }) old.recent (old.held + sum_by piece_weight new.items)
  blobs_grow = record {
    charged = charged;
    views = stands_more (λ (number : ℕ). Views now.shares) old.registry.entries new.entry
        (λ number. if_so (Views old.shares) (Views now.shares) (entry_at old.registry.entries number)
        (λ entry at is. views_still old.shares now.shares still entry is) (blobs.views number)) fits.views;
    names = named;
    each_row =
        length-append old.rows (new.row ∷ []) ∙ ap (λ (n : ℕ). n + 1) blobs.each_row ∙ sym (length-append old.registry.names (new.name ∷ []));
    awaited = row_awaited;
    waits =
        ap (λ (list : List (ℕ × ℕ)). list ++ waits_by new.name (sum new.row.lengths) new.row.sending) blobs.waits
        ∙ sym (waiting_more old.registry.names old.rows new.name new.row blobs.each_row);
    known = stands_more (λ (number : ℕ). AreKnown names) old.registry.entries new.entry
        (λ number. if_so (AreKnown old.registry.names) (AreKnown names) (entry_at old.registry.entries number)
        (λ entry at is. (is.0, more_known entry.recipe is.1)) (blobs.known number)) (fits.known.0, more_known new.entry.recipe fits.known.1);
    weighed = weighed;
  }
    where
      more_known : (steps : List Step) → AllByRecursion (IsKnown old.registry.names) steps → AllByRecursion (IsKnown names) steps
      more_known steps is =
          for_each (IsKnown old.registry.names) (IsKnown names) steps (λ step one. known_still old.registry.names (new.name ∷ []) step one) is
