-- A pass leaves a view on each slot that had one, so counts and charges agree behind it.
use Rattle.std.proofs.Common.{◌≡◌, ℕ, ◌+◌, ◌<◌, ◌==◌, ◌||◌, Bool, true, false, cond, List, [], ◌∷◌, ◌++◌, map, refl, sym, ap, subst, ◌∙◌}
use Rattle.std.proofs.Common.{Option, Some, None, zero, suc, arith}
use Rattle.std.specs.Prelude.{drop, take, IfSome, IsSomeAnd}
use Rattle.std.specs.List.{list_any, range_with_len}
use Rattle.std.proofs.lemmas.List.Folds.{list_any-append}
use Rattle.blob_words.specs.declared.status.Status.{Status}
use Rattle.blob_words.specs.declared.status.Status.TheVariants as statuses
use Rattle.item_shares.specs.declared.shares.Share.{Share}
use Rattle.blob_items.specs.Cells.{cells, view_cells}
use Rattle.blob_items.specs.declared.view.View.{View}
use Rattle.blob_entries.specs.Book.{Book, entry_at}
use Rattle.blob_entries.specs.Changes.{done_with, with_status}
use Rattle.blob_entries.specs.Contents.{made_cells, source_views}
use Rattle.blob_entries.specs.Counted.{AreCounted, SameItems}
use Rattle.blob_entries.specs.Counts.{count_at, views_on}
use Rattle.blob_entries.specs.Endings.{ending, marked_end, source_end, Ends, EndsAs}
use Rattle.blob_entries.specs.Holdings.{fixed_views, held_views, own_views, views_in}
use Rattle.blob_entries.specs.Sound.{AreOwn, AreSound, IsSound}
use Rattle.blob_entries.specs.Statuses.{is_pending}
use Rattle.blob_entries.specs.declared.entry.Entry.{Entry}
use Rattle.blob_entries.specs.declared.step.Step.{Step}
use Rattle.blob_entries.specs.declared.step.Step.TheVariants.{Own, Fixed, Source}
use Rattle.blob_entries.proofs.Counting.{on_cons}
use Rattle.blob_entries.proofs.Holdings.{in_at, in_cons, on_held, on_parts}
use Rattle.blob_registry.specs.Passes.{Finishes}
use Rattle.blob_registry.specs.declared.ended_blob.EndedBlob.{EndedBlob}
use Rattle.page_files.specs.Files.{Files}
use Rattle.quota_queue.specs.Queue.{Queue}
use Rattle.blob_model.proofs.Lists.{false_true, or_first, or_second}
use Rattle.store_laws.specs.Weights.{memory_weight, piece_weight, reserved_weight}
use Rattle.store_laws.proofs.PassUses.{same_weights}
use Rattle.store_laws.proofs.Viewed.{any_first}
use Rattle.blob_store.specs.Blobs.{Charged}
use Rattle.blob_store.specs.Rows.{bytes_gathered, pieces_gathered, pins}
use Rattle.blob_store.specs.declared.row.Row.{Row}

-- ---- a slot with a view has cells there, and the other way round

abbrev is_at : ℕ → ℕ × ℕ → Bool
is_at slot pair = pair.0 == slot

view_at : (slot : ℕ) (view : View) → (view.slot == slot) ≡ true → list_any (is_at slot) (view_cells view) ≡ true
view_at slot view same = any_first (is_at slot) (λ (place : ℕ). (view.slot, place)) view.off view.len view.some same

none_at : (slot one : ℕ) (places : List ℕ) → (one == slot) ≡ false → list_any (is_at slot) (map (λ (place : ℕ). (one, place)) places) ≡ false
none_at slot one [] apart = refl
none_at slot one (place ∷ places) apart = (λ i. apart i || list_any (is_at slot) (map (λ (each : ℕ). (one, each)) places)) ∙ none_at slot one places apart

viewed_by : (slot : ℕ) (views : List View) → list_any (is_at slot) (cells views) ≡ true → 0 < views_on slot views
viewed_by slot [] some = absurd (false_true some)
viewed_by slot (view ∷ views) some = by (view.slot == slot) refl (viewed_by slot views)
  where
    by : (b : Bool) → (view.slot == slot) ≡ b → (list_any (is_at slot) (cells views) ≡ true → 0 < views_on slot views) → 0 < views_on slot (view ∷ views)
    by true at rest = let sum = on_cons slot view views in let one = ap {B = ℕ} (λ (b : Bool). cond b 1 0) at in omega (arith, sum, one)
    by false at rest =
        let sum = on_cons slot view views in
        let other =
        rest (ap (λ (b : Bool). b || list_any (is_at slot) (cells views)) (sym (none_at slot view.slot (range_with_len view.off view.len) at))
        ∙ sym (list_any-append (is_at slot) (view_cells view) (cells views)) ∙ some) in
        omega (arith, sum, other)

module _ (names : List ℕ) (entries : List (Option Entry)) (slot : ℕ) where
  abbrev has : List (ℕ × ℕ) → Type 0
  has list = list_any (is_at slot) list ≡ true

  behind : (first rest : List (ℕ × ℕ)) → has rest → has (first ++ rest)
  behind first rest some = list_any-append (is_at slot) first rest ∙ or_second (list_any (is_at slot) first) (list_any (is_at slot) rest) some

  before : (first rest : List (ℕ × ℕ)) → has first → has (first ++ rest)
  before first rest some = list_any-append (is_at slot) first rest ∙ or_first (list_any (is_at slot) first) (list_any (is_at slot) rest) some

  -- a view of a step is among what the steps give
  made_at : (steps : List Step) (own : List View) → AreOwn steps own → 0 < views_on slot (fixed_views steps) + views_on slot own
      → has (made_cells names entries steps own)
  made_at [] own are some = let none = ap (views_on slot) are in absurd (omega (arith, some, none))
  made_at (Own piece len ∷ steps) [] are some = absurd are
  made_at (Own piece len ∷ steps) (view ∷ own) are some = by (view.slot == slot) refl (made_at steps own are.1)
    where
      by : (b : Bool) → (view.slot == slot) ≡ b
          → (0 < views_on slot (fixed_views steps) + views_on slot own → has (made_cells names entries steps own))
          → has (view_cells view ++ made_cells names entries steps own)
      by true at rest = before (view_cells view) (made_cells names entries steps own) (view_at slot view at)
      by false at rest =
          let sum = on_cons slot view own in
          let one = ap {B = ℕ} (λ (b : Bool). cond b 1 0) at in
          behind (view_cells view) (made_cells names entries steps own) (rest (omega (arith, some, sum, one)))
  made_at (Fixed view ∷ steps) own are some = by (view.slot == slot) refl (made_at steps own are)
    where
      by : (b : Bool) → (view.slot == slot) ≡ b
          → (0 < views_on slot (fixed_views steps) + views_on slot own → has (made_cells names entries steps own))
          → has (view_cells view ++ made_cells names entries steps own)
      by true at rest = before (view_cells view) (made_cells names entries steps own) (view_at slot view at)
      by false at rest =
          let sum = on_cons slot view (fixed_views steps) in
          let one = ap {B = ℕ} (λ (b : Bool). cond b 1 0) at in
          behind (view_cells view) (made_cells names entries steps own) (rest (omega (arith, some, sum, one)))
  made_at (Source name off len ∷ steps) own are some =
      behind (take len (drop off (cells (source_views names entries name)))) (made_cells names entries steps own) (made_at steps own are some)

  fixed_at : (steps : List Step) → 0 < views_on slot (fixed_views steps) → has (made_cells names entries steps [])
  fixed_at [] some = absurd (omega (arith, some))
  fixed_at (Own piece len ∷ steps) some = fixed_at steps some
  fixed_at (Fixed view ∷ steps) some = by (view.slot == slot) refl (fixed_at steps)
    where
      by : (b : Bool) → (view.slot == slot) ≡ b → (0 < views_on slot (fixed_views steps) → has (made_cells names entries steps []))
          → has (view_cells view ++ made_cells names entries steps [])
      by true at rest = before (view_cells view) (made_cells names entries steps []) (view_at slot view at)
      by false at rest =
          let sum = on_cons slot view (fixed_views steps) in
          let one = ap {B = ℕ} (λ (b : Bool). cond b 1 0) at in
          behind (view_cells view) (made_cells names entries steps []) (rest (omega (arith, some, sum, one)))
  fixed_at (Source name off len ∷ steps) some =
      behind (take len (drop off (cells (source_views names entries name)))) (made_cells names entries steps []) (fixed_at steps some)

  made_own : (steps : List Step) (own : Option (List View)) → IfSome own (AreOwn steps) → 0 < views_on slot (fixed_views steps) + views_on slot (own_views own)
      → has (made_cells names entries steps (own_views own))
  made_own steps (Some own) are some = made_at steps own are some
  made_own steps None are some = let none : views_on slot (own_views None) ≡ 0 = refl in fixed_at steps (omega (arith, some, none))

  -- so what an entry ends as has a view on the slot, if the entry had one
  module _ (entry : Entry) (before_entries : List (Option Entry)) (number : ℕ) (sound : IsSound names before_entries number entry)
      (some : 0 < views_on slot (held_views entry)) where
    pending_so : (status : Status) → ending names entries entry ≡ Some status → is_pending entry.status ≡ true
    pending_so status is = by (is_pending entry.status) is
      where
        by : (b : Bool) → cond b (marked_end entry.mark (source_end names entries entry)) None ≡ Some status → b ≡ true
        by true is = refl
        by false is = absurd (cc is)

    same : (now : Option Entry) (status : Status) → now ≡ Some (with_status status entry) → 0 < on_held slot now
    same now status is = subst (λ (held : Option Entry). 0 < on_held slot held) (sym is) some

    done : (now : Option Entry) → is_pending entry.status ≡ true
        → IsSomeAnd now (λ (one : Entry). (one ≡ done_with one.views entry) × (cells one.views ≡ made_cells names entries entry.recipe (own_views entry.own)))
        → 0 < on_held slot now
    done None pending is = absurd is
    done (Some one) pending is =
        let parts = on_parts slot entry in
        let bare = ap (views_on slot) (sound.bare pending) in
        let none : views_on slot [] ≡ 0 = refl in
        let here = viewed_by slot one.views
        (ap (list_any (is_at slot)) is.1 ∙ made_own entry.recipe entry.own (sound.own pending) (omega (arith, parts, bare, none, some))) in
        let held = ap (λ (e : Entry). views_on slot (held_views e)) is.0 in
        omega (arith, here, held)

    stays_on : (now : Option Entry) → Ends names entries (Some entry) now → 0 < on_held slot now
    stays_on now is = by (ending names entries entry) refl is
      where
        by : (o : Option Status) → ending names entries entry ≡ o → EndsAs names entries entry o now → 0 < on_held slot now
        by None at is = subst (λ (held : Option Entry). 0 < on_held slot held) (sym is) some
        by (Some statuses.Done) at is = done now (pending_so statuses.Done at) is
        by (Some statuses.PendingQuota) at is = same now statuses.PendingQuota is
        by (Some statuses.PendingTransport) at is = same now statuses.PendingTransport is
        by (Some statuses.PendingReferencedBlobs) at is = same now statuses.PendingReferencedBlobs is
        by (Some statuses.InvalidArguments) at is = same now statuses.InvalidArguments is
        by (Some statuses.OutOfMemory) at is = same now statuses.OutOfMemory is
        by (Some statuses.FileWriteFailed) at is = same now statuses.FileWriteFailed is
        by (Some statuses.SourceDied) at is = same now statuses.SourceDied is
        by (Some statuses.ReferencedBlobBroken) at is = same now statuses.ReferencedBlobBroken is
        by (Some statuses.ReferencedFileUnavailable) at is = same now statuses.ReferencedFileUnavailable is
        by (Some statuses.Dereferenced) at is = same now statuses.Dereferenced is

-- ---- the entries together

pub some_viewed : (slot : ℕ) (entries : List (Option Entry)) → 0 < views_in entries slot → (number : ℕ) × (0 < on_held slot (entry_at entries number))
some_viewed slot [] some = absurd (omega (arith, some))
some_viewed slot (held ∷ entries) some = by (on_held slot held) refl (some_viewed slot entries)
  where
    by : (n : ℕ) → on_held slot held ≡ n → (0 < views_in entries slot → (number : ℕ) × (0 < on_held slot (entry_at entries number)))
        → (number : ℕ) × (0 < on_held slot (entry_at (held ∷ entries) number))
    by (suc n) at rest = (zero, omega (arith, at))
    by zero at rest =
        let later = rest (let sum = in_cons held entries slot in omega (arith, sum, at, some)) in
        (suc later.0, later.1)

module _ (old now : Book) (list : List EndedBlob) (sound : AreSound old.names old.entries) (finishes : Finishes old now list) where
  pub still_viewed : (slot : ℕ) → 0 < views_in old.entries slot → 0 < views_in now.entries slot
  still_viewed slot some =
      let found = some_viewed slot old.entries some in
      let here = by found.0 (entry_at old.entries found.0) (sound.each found.0) (finishes.each found.0) found.1 in
      let within = in_at now.entries found.0 slot in
      omega (arith, here, within)
    where
      by : (number : ℕ) (held : Option Entry) → IfSome held (IsSound old.names old.entries number)
          → Ends old.names now.entries held (entry_at now.entries number) → 0 < on_held slot held → 0 < on_held slot (entry_at now.entries number)
      by number None is ends some = absurd (omega (arith, some))
      by number (Some entry) is ends some =
          stays_on old.names now.entries slot entry old.entries number is some (entry_at now.entries number) ends

  -- so counts and charges agree behind the pass
  pub charged_passed : (shares later : List (Option Share)) (rows : List Row) (quota : Queue) (files : Files) (held : ℕ)
      → Charged old.entries shares rows quota files held → SameItems old.entries now.entries shares later → AreCounted now.entries later
      → Charged now.entries later rows quota files held
  charged_passed shares later rows quota files held charged same counted = record {
    counts = λ slot. counts_so slot (views_in old.entries slot) refl;
    unpinned = λ slot some. unpinned_so slot (views_in old.entries slot) refl some;
    used = charged.used ∙ ap (λ (n : ℕ). n + bytes_gathered rows) (sym (same_weights memory_weight later shares same.items));
    reserved = charged.reserved ∙ sym (same_weights reserved_weight later shares same.items);
    held_so = charged.held_so ∙ ap (λ (n : ℕ). n + pieces_gathered rows) (sym (same_weights piece_weight later shares same.items));
  }
    where
      counts_so : (slot n : ℕ) → views_in old.entries slot ≡ n → count_at later slot ≡ views_in now.entries slot + pins slot rows
      counts_so slot zero at =
          let others = same.others slot at in
          let count = others.0 in let none = others.1 in let was = charged.counts slot in
          omega (arith, count, none, was, at)
      counts_so slot (suc n) at =
          let some : 0 < views_in old.entries slot = omega (arith, at) in
          let count = counted slot (still_viewed slot some) in
          let none = charged.unpinned slot some in
          omega (arith, count, none)

      unpinned_so : (slot n : ℕ) → views_in old.entries slot ≡ n → 0 < views_in now.entries slot → pins slot rows ≡ 0
      unpinned_so slot zero at some = let others = same.others slot at in let none = others.1 in absurd (omega (arith, none, some))
      unpinned_so slot (suc n) at some = charged.unpinned slot (omega (arith, at))
