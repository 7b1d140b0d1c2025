-- Registries whose entries have no views, as their calls change them.
use Rattle.std.proofs.Common.{◌≡◌, ℕ, ◌+◌, ◌<◌, ◌≤◌, Bool, true, false, cond, ◌||◌, List, [], ◌∷◌, ◌++◌, Option, Some, None, length}
use Rattle.std.proofs.Common.{set, refl, sym, ap, ◌∙◌, arith}
use Rattle.std.specs.Prelude.{IfOk, OnOk, Result, Ok, Err, IfSome, IsSomeAnd, IsSome, is_some, min, slice_index, option_and_then}
use Rattle.std.specs.Option.{option_map, option_map_or}
use Rattle.std.specs.List.{AllByRecursion}
use Rattle.std.proofs.lemmas.List.{set-get_or}
use Rattle.std.proofs.lemmas.List.Sums.{sum_by-append, sum_by-cons}
use Rattle.item_shares.specs.declared.shares.Share.{Share}
use Rattle.blob_items.specs.declared.view.View.{View}
use Rattle.blob_words.specs.declared.status.Status.{Status}
use Rattle.blob_entries.specs.declared.entry.Entry.{Entry}
use Rattle.blob_entries.specs.declared.step.Step.{Step}
use Rattle.blob_entries.specs.declared.step.Step.TheVariants.{Own, Fixed, Source}
use Rattle.blob_entries.specs.Book.{Book, changed, changed_at, entry_at, entry_of}
use Rattle.blob_entries.specs.Contents.{step_len}
use Rattle.blob_entries.specs.Counted.{AreCounted, SameItems}
use Rattle.blob_entries.specs.Counts.{one_at, views_on}
use Rattle.blob_entries.specs.Holdings.{fixed_views, held_views, views_in}
use Rattle.blob_entries.specs.Leaving.{is_needed, is_rooted, left}
use Rattle.blob_entries.specs.Names.{number_of}
use Rattle.blob_entries.specs.Sound.{StepFits}
use Rattle.blob_entries.specs.Statuses.{is_broken}
use Rattle.blob_entries.specs.Weights.{HasRoom, cut_weight, step_weight}
use Rattle.blob_entries.proofs.Counting.{on_cons}
use Rattle.blob_entries.proofs.Holdings.{in_at, in_cons, in_set, on_held}
use Rattle.blob_entries.proofs.Soundness.{at_within}
use Rattle.blob_registry.proofs.Numbers.{same_eq}
use Rattle.blob_registry.specs.Registering.{pushed}
use Rattle.blob_registry.specs.Sweeps.{swept}
use Rattle.registry_tests.specs.Bare.{AreEmptySteps, HasNoViews}

abbrev Entries : Type 0
Entries = List (Option Entry)

-- the conditions of the passes
pub bare_counted : (book : Book) (shares : List (Option Share)) → HasNoViews book → AreCounted book.entries shares
bare_counted book shares bare slot some = absurd (omega (arith, some, bare slot))

no_views : (views : List View) → ((slot : ℕ) → views_on slot views ≡ 0) → length views ≡ 0
no_views [] none = refl
no_views (view ∷ views) none =
    let here : one_at view.slot view.slot ≡ 1 = rw (same_eq view.slot) refl in absurd (omega (arith, none view.slot, on_cons view.slot view views, here))

no_weight : (names : List ℕ) (steps : List Step) → cut_weight names [] steps ≡ 0
no_weight names [] = refl
no_weight names (step ∷ steps) = sum_by-cons (step_weight names []) step steps ∙ omega (arith, one step, no_weight names steps)
  where
    by : (len : ℕ) (source : Option ℕ) → min len (option_map_or (slice_index []) source 0) ≡ 0
    by len None = omega arith
    by len (Some s) = omega arith

    one : (s : Step) → step_weight names [] s ≡ 0
    one (Own piece len) = refl
    one (Fixed view) = refl
    one (Source name off len) = by len (number_of name names)

pub bare_room : (book : Book) → HasNoViews book → HasRoom book.names book.entries
bare_room book bare = record {
  weights = [];
  few = omega arith;
  weighed = λ number. by number (entry_at book.entries number) (λ slot. omega (arith, in_at book.entries number slot, bare slot));
}
  where
    by : (number : ℕ) (held : Option Entry) → ((slot : ℕ) → on_held slot held ≡ 0)
        → IfSome held (λ (entry : Entry). length (held_views entry) + cut_weight book.names [] entry.recipe ≤ slice_index [] number)
    by number None none = tt
    by number (Some entry) none = omega (arith, no_views (held_views entry) none, no_weight book.names entry.recipe)

-- one entry more that has none
pub bare_pushed : (book : Book) (name : ℕ) (entry : Entry) → HasNoViews book → held_views entry ≡ [] → HasNoViews (pushed book name entry)
bare_pushed book name entry bare none slot =
    sum_by-append (on_held slot) book.entries (Some entry ∷ []) ∙ omega (arith, bare slot, sum_by-cons (on_held slot) (Some entry) [], ap (views_on slot) none)

-- a change that leaves the views of an entry
pub in_changed : (book : Book) (name : ℕ) (change : Entry → Entry) → ((entry : Entry) → held_views (change entry) ≡ held_views entry)
    → (slot : ℕ) → views_in (changed book name change).entries slot ≡ views_in book.entries slot
in_changed book name change same = by (number_of name book.names)
  where
    at : (number : ℕ) (held : Option Entry) → entry_at book.entries number ≡ held → (slot : ℕ)
        → views_in (set book.entries number (option_map change held)) slot ≡ views_in book.entries slot
    at number None is slot = ap (λ (e : Entries). views_in e slot) (ap (set book.entries number) (sym is) ∙ set-get_or book.entries number None)
    at number (Some entry) is slot =
        let moved = in_set book.entries number (Some (change entry)) slot (at_within book.entries number entry is) in
        let was : on_held slot (entry_at book.entries number) ≡ views_on slot (held_views entry) = ap (on_held slot) is in
        let stays : views_on slot (held_views (change entry)) ≡ views_on slot (held_views entry) = ap (views_on slot) (same entry) in
        omega (arith, moved, was, stays)

    by : (number : Option ℕ) → (slot : ℕ) → views_in (option_map_or (λ (n : ℕ). changed_at book n change) number book).entries slot ≡ views_in book.entries slot
    by None slot = refl
    by (Some number) slot = at number (entry_at book.entries number) refl slot

pub bare_changed : (book : Book) (name : ℕ) (change : Entry → Entry) → ((entry : Entry) → held_views (change entry) ≡ held_views entry) → HasNoViews book
    → HasNoViews (changed book name change)
bare_changed book name change same bare slot = in_changed book name change same slot ∙ bare slot

-- each slot counts what it counted
pub counted_changed : (book : Book) (name : ℕ) (change : Entry → Entry) (shares : List (Option Share))
    → ((entry : Entry) → held_views (change entry) ≡ held_views entry)
    → AreCounted book.entries shares → AreCounted (changed book name change).entries shares
counted_changed book name change shares same counted slot some =
    let is = in_changed book name change same slot in
    counted slot (omega (arith, some, is)) ∙ sym is

-- after the passes
pub bare_finished : (before after : Book) (shares later : List (Option Share)) → SameItems before.entries after.entries shares later → HasNoViews before
    → HasNoViews after
bare_finished before after shares later same bare slot = (same.others slot (bare slot)).1

less : (slot : ℕ) (lives : Bool) (held : Option Entry) → on_held slot (left lives held) ≤ on_held slot held
less slot false held = omega arith
less slot true None = omega arith
less slot true (Some entry) = by (is_broken entry.status)
  where
    by : (b : Bool) → views_on slot (held_views (cond b (record entry { recipe = []; own = None; views = [] }) entry)) ≤ views_on slot (held_views entry)
    by false = omega arith
    by true = omega arith

swept_less : (names : List ℕ) (number slot : ℕ) (entries : Entries) → views_in (swept names number entries) slot ≤ views_in entries slot
swept_less names number slot [] = omega arith
swept_less names number slot (held ∷ entries) =
    let lives : Bool = is_rooted held || is_needed names number (swept names (number + 1) entries) in
    let more : views_in (swept names number (held ∷ entries)) slot ≡ on_held slot (left lives held) + views_in
    (swept names (number + 1) entries) slot = in_cons (left lives held) (swept names (number + 1) entries) slot in
    omega (arith, more, in_cons held entries slot, less slot lives held, swept_less names (number + 1) slot entries)

pub bare_swept : (before after : Book) → after.entries ≡ swept before.names 0 before.entries → HasNoViews before → HasNoViews after
bare_swept before after is bare slot = ap (λ (e : Entries). views_in e slot) is ∙ omega (arith, swept_less before.names 0 slot before.entries, bare slot)

-- steps, one more
pub empty_more : (book : Book) (steps : List Step) (name : ℕ) → AreEmptySteps book steps → IsSome (entry_of book name)
    → AreEmptySteps book (steps ++ Source name 0 0 ∷ [])
empty_more book steps name are stands = record {
  fits = all steps are.fits;
  size = sum_by-append step_len steps (Source name 0 0 ∷ []) ∙ omega (arith, are.size, sum_by-cons step_len (Source name 0 0) []);
  none = none steps are.none;
}
  where
    fits : (number : Option ℕ) → is_some (option_and_then (entry_at book.entries) number) ≡ true
        → IsSomeAnd number (λ (source : ℕ). (source < length book.entries) × IsSomeAnd (entry_at book.entries source) (λ (entry : Entry). 0 + 0 ≤ entry.size))
    fits None some = absurd (cc)
    fits (Some source) some = at (entry_at book.entries source) refl some
      where
        at : (held : Option Entry) → entry_at book.entries source ≡ held → is_some held ≡ true
            → (source < length book.entries) × IsSomeAnd held (λ (entry : Entry). 0 + 0 ≤ entry.size)
        at None is some = absurd (cc)
        at (Some entry) is some = (at_within book.entries source entry is, omega arith)

    none : (list : List Step) → fixed_views list ≡ [] → fixed_views (list ++ Source name 0 0 ∷ []) ≡ []
    none [] is = refl
    none (Own piece len ∷ list) is = none list is
    none (Fixed view ∷ list) is = absurd (cc)
    none (Source other off len ∷ list) is = none list is

    all : (list : List Step) → AllByRecursion (StepFits book.names book.entries (length book.entries)) list
        → AllByRecursion (StepFits book.names book.entries (length book.entries)) (list ++ Source name 0 0 ∷ [])
    all [] rest = (fits (number_of name book.names) stands, tt)
    all (step ∷ list) rest = (rest.0, all list rest.1)

-- what stands, as it was told
pub stands_as : (held : Option Entry) (status : Status) → Some status ≡ option_map (λ (entry : Entry). entry.status) held
    → IsSomeAnd held (λ (entry : Entry). entry.status ≡ status)
stands_as None status is = absurd (cc)
stands_as (Some entry) status is = cc

pub roots_as : (held : Option Entry) (roots : ℕ) → Some roots ≡ option_map (λ (entry : Entry). entry.roots) held
    → IsSomeAnd held (λ (entry : Entry). entry.roots ≡ roots)
roots_as None roots is = absurd (cc)
roots_as (Some entry) roots is = cc

pub some_then : (held : Option Entry) (P Q : Entry → Type 0) → ((entry : Entry) → P entry → Q entry) → IsSomeAnd held P → IsSomeAnd held Q
some_then None P Q then some = absurd some
some_then (Some entry) P Q then some = then entry some

pub if_ok_on : {T E : Type 0} {Q : Type 0} (r : Result T E) (P : T → Type 0) → IfOk r P → ((value : T) → P value → Q) → OnOk r Q
if_ok_on (Ok value) P holds then = then value holds
if_ok_on (Err fault) P holds then = tt
