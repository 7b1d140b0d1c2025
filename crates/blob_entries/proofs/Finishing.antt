-- An entry that ends.
use Rattle.std.proofs.Common.{◌≡◌, ℕ, ◌+◌, ◌<◌, ◌≤◌, ◌^◌, Bool, true, false, cond, not, ◌&&◌, List, [], ◌∷◌, ◌++◌, Option, Some, None, length}
use Rattle.std.proofs.Common.{get_or, set, nat_lt, refl, sym, ap, ◌∙◌, subst, arith, length-append, append-nil}
use Rattle.std.specs.Prelude.{IfSome, IsSomeAnd, is_none, option_and_then, sum, min}
use Rattle.std.specs.Option.{option_map, option_map_or}
use Rattle.std.specs.List.{AllByRecursion, list_any}
use Rattle.std.proofs.lemmas.Bool.Decides.{nat_tests}
use Rattle.std.proofs.lemmas.List.Sums.{sum_by-cons}
use Rattle.blob_words.specs.declared.status.Status.{Status}
use Rattle.blob_words.specs.declared.status.Status.TheVariants as statuses
use Rattle.blob_items.specs.declared.view.View.{View}
use Rattle.blob_items.specs.Cells.{cells, total}
use Rattle.item_shares.specs.declared.shares.Share.{Share}
use Rattle.blob_entries.specs.declared.entry.Entry.{Entry}
use Rattle.blob_entries.specs.declared.step.Step.{Step}
use Rattle.blob_entries.specs.declared.step.Step.TheVariants.{Own, Fixed, Source}
use Rattle.blob_entries.proofs.Counting.{on_length}
use Rattle.blob_entries.proofs.Holdings.{in_at, in_set, on_held, on_parts, sum_bound_at}
use Rattle.blob_entries.proofs.Soundness.{at_other, at_same, at_within, same_or, sound_set}
use Rattle.blob_entries.specs.Book.{book_of, entry_at, is_broken_at, is_done_at}
use Rattle.blob_entries.specs.Changes.{done_with, with_status}
use Rattle.blob_entries.specs.Contents.{is_own}
use Rattle.blob_entries.specs.Counted.{AreCounted, SameItems}
use Rattle.blob_entries.specs.Counts.{count_at, views_on}
use Rattle.blob_entries.specs.Endings.{LooksAt, ending, ending_at, is_complete, is_granted_status, marked_end, misses, source_end}
use Rattle.blob_entries.specs.Holdings.{fixed_views, held_views, own_views, views_in}
use Rattle.blob_entries.specs.Making.{CanMake, IsInside, IsMade}
use Rattle.blob_entries.specs.Names.{number_of}
use Rattle.blob_entries.specs.Sound.{AreOwn, AreSound, IsBreaking, IsSound, StepFits}
use Rattle.blob_entries.specs.Sources.{each_source, some_source}
use Rattle.blob_entries.specs.Statuses.{is_broken, is_done, is_pending}
use Rattle.blob_entries.specs.Weights.{HasRoom, KeepsBounds, cut_most, cut_weight, step_most, step_weight}

abbrev Entries : Type 0
Entries = List (Option Entry)

abbrev Held : Type 0
Held = List (Option Share)

-- an entry for which all has come
pub record Completes (names : List ℕ) (entries : Entries) (entry : Entry) : Type 0 where
  pub pending : is_pending entry.status ≡ true
  pub brought : misses entry ≡ false
  pub sources : each_source names (is_done_at entries) entry.recipe ≡ true

both : (a b c : Bool) → (a && not b && c) ≡ true → (b ≡ false) × (c ≡ true)
both true false true is = (refl, refl)
both true false false is = absurd (cc)
both true true c is = absurd (cc)
both false b c is = absurd (cc)

pub completes : (names : List ℕ) (entries : Entries) (entry : Entry) → IfSome entry.mark IsBreaking → ending names entries entry ≡ Some statuses.Done
    → Completes names entries entry
completes names entries entry mark is = by (is_pending entry.status) refl is
  where
    on_mark : (m : Option Status) → IfSome m IsBreaking → marked_end m (source_end names entries entry) ≡ Some statuses.Done
        → source_end names entries entry ≡ Some statuses.Done
    on_mark None breaking ends = ends
    on_mark (Some why) breaking ends = let same : why ≡ statuses.Done = cc in let broken : is_broken why ≡ false = ap is_broken same in absurd (cc)

    on_source : (b d : Bool) → is_complete names entries entry ≡ d
        → cond b (Some statuses.ReferencedBlobBroken) (cond d (Some statuses.Done) None) ≡ Some statuses.Done → is_complete names entries entry ≡ true
    on_source true d at ends = absurd (cc)
    on_source false true at ends = at
    on_source false false at ends = absurd (cc)

    by : (p : Bool) → is_pending entry.status ≡ p → cond p (marked_end entry.mark (source_end names entries entry)) None ≡ Some statuses.Done
        → Completes names entries entry
    by false at ends = absurd (cc)
    by true at ends =
        let all : is_complete names entries entry ≡ true = on_source (some_source names (is_broken_at entries) entry.recipe)
        (is_complete names entries entry) refl (on_mark entry.mark mark ends) in
        let parts = both (is_granted_status entry.status) (misses entry) (each_source names (is_done_at entries) entry.recipe) all in
        record { pending = at; brought = parts.0; sources = parts.1 }

-- the own views of one that misses nothing
none_own : (recipe : List Step) → list_any is_own recipe ≡ false → AreOwn recipe []
none_own [] is = refl
none_own (Own piece len ∷ steps) is = absurd (cc)
none_own (Fixed view ∷ steps) is = none_own steps is
none_own (Source name off len ∷ steps) is = none_own steps is

pub own_fit : (recipe : List Step) (own : Option (List View)) → IfSome own (AreOwn recipe) → (is_none own && list_any is_own recipe) ≡ false
    → AreOwn recipe (own_views own)
own_fit recipe None fit is = none_own recipe is
own_fit recipe (Some own) fit is = fit

-- its sources have their ranges
pub all_inside : (names : List ℕ) (entries : Entries) (number : ℕ) (steps : List Step) → AreSound names entries
    → AllByRecursion (StepFits names entries number) steps → each_source names (is_done_at entries) steps ≡ true → AllByRecursion (IsInside names entries) steps
all_inside names entries number [] are fits done = tt
all_inside names entries number (Own piece len ∷ steps) are fits done = (tt, all_inside names entries number steps are fits.1 done)
all_inside names entries number (Fixed view ∷ steps) are fits done = (tt, all_inside names entries number steps are fits.1 done)
all_inside names entries number (Source name off len ∷ steps) are fits done = (
  by (number_of name names) fits.0 (first (option_map_or (is_done_at entries) (number_of name names) true) (each_source names (is_done_at entries) steps) done),
  all_inside names entries number steps are fits.1
      (second (option_map_or (is_done_at entries) (number_of name names) true) (each_source names (is_done_at entries) steps) done),
)
  where
    first : (a b : Bool) → (a && b) ≡ true → a ≡ true
    first true b is = refl
    first false b is = absurd (cc)

    second : (a b : Bool) → (a && b) ≡ true → b ≡ true
    second true b is = is
    second false b is = absurd (cc)

    at : (source : ℕ) (held : Option Entry) → IfSome held (IsSound names entries source) → IsSomeAnd held (λ (entry : Entry). off + len ≤ entry.size)
        → option_map_or (λ (entry : Entry). is_done entry.status) held false ≡ true
        → off + len ≤ total (option_map_or (λ (entry : Entry). entry.views) held [])
    at source None sound has is = absurd has
    at source (Some entry) sound has is = rw (sound.made is) has

    by : (source : Option ℕ) → IsSomeAnd source (λ (s : ℕ). (s < number) × IsSomeAnd (entry_at entries s) (λ (entry : Entry). off + len ≤ entry.size))
        → option_map_or (is_done_at entries) source true ≡ true
        → off + len ≤ total (option_map_or (λ (entry : Entry). entry.views) (option_and_then (entry_at entries) source) [])
    by None has is = absurd has
    by (Some s) has is = at s (entry_at entries s) (are.each s) has.1 is

-- what is cut is within the weights
pub most_weight : (names weights : List ℕ) (entries : Entries) (steps : List Step)
    → ((number : ℕ) → IfSome (entry_at entries number)
    (λ (entry : Entry). length (held_views entry) + cut_weight names weights entry.recipe ≤ get_or weights number 0))
    → cut_most names entries steps ≤ cut_weight names weights steps
most_weight names weights entries [] weighed = omega arith
most_weight names weights entries (step ∷ steps) weighed =
    omega (
      arith,
      one step,
      most_weight names weights entries steps weighed,
      sum_by-cons (step_most names entries) step steps,
      sum_by-cons
          (step_weight names weights) step steps,
    )
  where
    long : (entry : Entry) → length entry.views ≤ length (held_views entry)
    long entry = omega (arith, length-append (fixed_views entry.recipe ++ own_views entry.own) entry.views)

    at : (number : ℕ) (held : Option Entry) → IfSome held
        (λ (entry : Entry). length (held_views entry) + cut_weight names weights entry.recipe ≤ get_or weights number 0)
        → length (option_map_or (λ (entry : Entry). entry.views) held []) ≤ get_or weights number 0
    at number None weighs = omega arith
    at number (Some entry) weighs = omega (arith, weighs, long entry)

    by : (len : ℕ) (source : Option ℕ) → min len
        (length (option_map_or (λ (entry : Entry). entry.views) (option_and_then (entry_at entries) source) [])) ≤ min len
        (option_map_or (λ (s : ℕ). get_or weights s 0) source 0)
    by len None = omega arith
    by len (Some s) = omega (arith, at s (entry_at entries s) (weighed s))

    one : (s : Step) → step_most names entries s ≤ step_weight names weights s
    one (Own piece len) = omega arith
    one (Fixed view) = omega arith
    one (Source name off len) = by len (number_of name names)

-- there is room for what is made of an entry
pub room_to_make : (names : List ℕ) (entries : Entries) (shares : Held) (number : ℕ) (entry : Entry) → entry_at entries number ≡ Some entry
    → AreCounted entries shares → HasRoom names entries
    → (slot : ℕ) → 0 < views_in entries slot → (0 < count_at shares slot) × (count_at shares slot + cut_most names entries entry.recipe ≤ 2 ^ 32)
room_to_make names entries shares number entry is counted room slot some =
    let weighs : length (held_views entry) + cut_weight names room.weights entry.recipe ≤ get_or room.weights number 0 =
    subst (λ (held : Option Entry). IfSome held
    (λ (e : Entry). length (held_views e) + cut_weight names room.weights e.recipe ≤ get_or room.weights number 0)) is (room.weighed number) in
    let here : on_held slot (entry_at entries number) ≡ views_on slot (held_views entry) = ap (on_held slot) is in
    let bound : views_in entries slot + cut_weight names room.weights entry.recipe ≤ sum room.weights =
    sum_bound_at (on_held slot) entries room.weights number (cut_weight names room.weights entry.recipe) refl
    (λ other. at other (entry_at entries other) (room.weighed other)) (omega (arith, here, weighs, on_length slot (held_views entry))) in (
      omega (arith, counted slot some, some),
      omega
          (arith, counted slot some, bound, room.few, most_weight names room.weights entries entry.recipe room.weighed),
    )
  where
    at : (other : ℕ) (held : Option Entry) → IfSome held
        (λ (e : Entry). length (held_views e) + cut_weight names room.weights e.recipe ≤ get_or room.weights other 0)
        → on_held slot held ≤ get_or room.weights other 0
    at other None weighs = omega arith
    at other (Some e) weighs = omega (arith, weighs, on_length slot (held_views e))

sound_at : (names : List ℕ) (entries : Entries) (number : ℕ) (entry : Entry) → AreSound names entries → entry_at entries number ≡ Some entry
    → IsSound names entries number entry
sound_at names entries number entry are is = subst (λ (held : Option Entry). IfSome held (IsSound names entries number)) is (are.each number)

pub can_make : (names : List ℕ) (entries : Entries) (shares : Held) (number : ℕ) (entry : Entry) → entry_at entries number ≡ Some entry
    → AreSound names entries → AreCounted entries shares → HasRoom names entries
    → ending_at names entries (entry_at entries number) ≡ Some statuses.Done → CanMake names entries shares entry
can_make names entries shares number entry is are counted room done =
    let sound : IsSound names entries number entry = sound_at names entries number entry are is in
    let ends : ending names entries entry ≡ Some statuses.Done = subst (λ (held : Option Entry). ending_at names entries held ≡ Some statuses.Done) is done in
    let all : Completes names entries entry = completes names entries entry sound.mark ends in
    record {
      pending = all.pending;
      inside = all_inside names entries number entry.recipe are (sound.steps all.pending) all.sources;
      own = own_fit entry.recipe entry.own (sound.own all.pending) all.brought;
      fits = sym (sound.size all.pending);
      small = sound.fits;
      bare = sound.bare all.pending;
      room = room_to_make names entries shares number entry is counted room;
    }

-- what holds once the blob is made
pub record Completed (names : List ℕ) (first entries : Entries) (before after : Held) : Type 0 where
  pub sound : AreSound names entries
  pub counted : AreCounted entries after
  pub room : HasRoom names entries
  pub bounds : KeepsBounds (book_of names first) (book_of names entries)
  pub same : SameItems first entries before after

-- weights that bound the views still do
pub bounds_set : (names : List ℕ) (entries : Entries) (number : ℕ) (old later : Entry) → entry_at entries number ≡ Some old
    → ((weights : List ℕ) → ((other : ℕ) → IfSome (entry_at entries other)
    (λ (e : Entry). length (held_views e) + cut_weight names weights e.recipe ≤ get_or weights other 0))
    → length (held_views later) + cut_weight names weights later.recipe ≤ length (held_views old) + cut_weight names weights old.recipe)
    → KeepsBounds (book_of names entries) (book_of names (set entries number (Some later)))
bounds_set names entries number old later is less weights weighed other =
    same_or other number
    (λ equal. rw (equal, at_same entries number (Some later) (at_within entries number old is))
    (let was = subst (λ (held : Option Entry). IfSome held
    (λ (e : Entry). length (held_views e) + cut_weight names weights e.recipe ≤ get_or weights number 0)) is (weighed number) in
    omega (arith, was, less weights weighed)))
    (λ apart. rw (at_other entries number other (Some later) apart) (weighed other))

pub room_kept : (names : List ℕ) (entries later : Entries) → KeepsBounds (book_of names entries) (book_of names later) → HasRoom names entries
    → HasRoom names later
room_kept names entries later keeps room = record { weights = room.weights; few = room.few; weighed = keeps room.weights room.weighed }

-- some number is above none
pub zero_or : {P : Type 0} → (n : ℕ) → (n ≡ 0 → P) → (0 < n → P) → P
zero_or {P} n none some = by (nat_lt 0 n) refl
  where
    by : (b : Bool) → nat_lt 0 n ≡ b → P
    by true above = some (grind (arith, nat_tests))
    by false not_above = none (grind (arith, nat_tests))

pub completed : (names : List ℕ) (entries : Entries) (number : ℕ) (entry : Entry) (before after : Held) (views : List View)
    → entry_at entries number ≡ Some entry → AreSound names entries → AreCounted entries before → HasRoom names entries
    → CanMake names entries before entry → IsMade names entries entry.recipe (own_views entry.own) before [] [] views after
    → Completed names entries (set entries number (Some (done_with views entry))) before after
completed names entries number entry before after views is are counted room can made = record {
  sound = sound_set names entries number entry (done_with views entry) are is refl (record {
    steps = λ pending. tt;
    size = λ pending. absurd (cc);
    fits = (sound_at names entries number entry are is).fits;
    own = λ pending. tt;
    bare = λ pending. absurd (cc);
    mark = (sound_at names entries number entry are is).mark;
    made = λ done. omega (arith, made.total, can.fits);
  });
  counted = λ slot some.
      let moved = in_set entries number (Some (done_with views entry)) slot (at_within entries number entry is) in
      let was : on_held slot (entry_at entries number) ≡ views_on slot (held_views entry) = ap (on_held slot) is in
      let bare : views_on slot entry.views ≡ 0 = ap (views_on slot) can.bare in
      zero_or (views_in entries slot)
      (λ none. absurd (omega (arith, some, moved, was, bare, on_parts slot entry, in_at entries number slot, none, made.stays slot none, made.counts slot)))
      (λ above. omega (arith, moved, was, bare, on_parts slot entry, counted slot above, made.counts slot));
  room = room_kept names entries (set entries number (Some (done_with views entry))) bounds room;
  bounds = bounds;
  same = record {
    items = made.items;
    others = λ slot none.
        let moved = in_set entries number (Some (done_with views entry)) slot (at_within entries number entry is) in
        let was : on_held slot (entry_at entries number) ≡ views_on slot (held_views entry) = ap (on_held slot) is in
        let bare : views_on slot entry.views ≡ 0 = ap (views_on slot) can.bare in
        (made.stays slot none, omega (arith, moved, was, bare, on_parts slot entry, in_at entries number slot, none, made.stays slot none, made.counts slot));
  };
}
  where
    bounds : KeepsBounds (book_of names entries) (book_of names (set entries number (Some (done_with views entry))))
    bounds = bounds_set names entries number entry (done_with views entry) is
        (λ weights weighed. omega (
          arith,
          made.few,
          most_weight names weights entries entry.recipe weighed,
          length-append
              (fixed_views entry.recipe ++ own_views entry.own) entry.views,
          length-append (fixed_views entry.recipe) (own_views entry.own),
        ))

-- one that breaks
pub broken_apart : (status : Status) → is_broken status ≡ true → (is_pending status ≡ false) × (is_done status ≡ false)
broken_apart statuses.PendingQuota is = absurd (cc)
broken_apart statuses.PendingTransport is = absurd (cc)
broken_apart statuses.PendingReferencedBlobs is = absurd (cc)
broken_apart statuses.Done is = absurd (cc)
broken_apart status is = (refl, refl)

pub breaks : (names : List ℕ) (entries : Entries) (entry : Entry) (end : Status) → IfSome entry.mark IsBreaking → ending names entries entry ≡ Some end
    → is_done end ≡ false → is_broken end ≡ true
breaks names entries entry end mark is not_done = by (is_pending entry.status) is
  where
    on_source : (b d : Bool) → cond b (Some statuses.ReferencedBlobBroken) (cond d (Some statuses.Done) None) ≡ Some end → is_broken end ≡ true
    on_source true d ends = let same : statuses.ReferencedBlobBroken ≡ end = cc in ap is_broken (sym same)
    on_source false true ends = let same : statuses.Done ≡ end = cc in let done : is_done end ≡ true = ap is_done (sym same) in absurd (cc)
    on_source false false ends = absurd (cc)

    on_mark : (m : Option Status) → IfSome m IsBreaking → marked_end m (source_end names entries entry) ≡ Some end → is_broken end ≡ true
    on_mark None breaking ends = on_source (some_source names (is_broken_at entries) entry.recipe) (is_complete names entries entry) ends
    on_mark (Some why) breaking ends = let same : why ≡ end = cc in rw (← same) breaking

    by : (p : Bool) → cond p (marked_end entry.mark (source_end names entries entry)) None ≡ Some end → is_broken end ≡ true
    by false ends = absurd (cc)
    by true ends = on_mark entry.mark mark ends

pub broken : (names : List ℕ) (entries : Entries) (number : ℕ) (entry : Entry) (end : Status) (shares : Held) → entry_at entries number ≡ Some entry
    → AreSound names entries → AreCounted entries shares → HasRoom names entries
    → ending_at names entries (entry_at entries number) ≡ Some end → is_done end ≡ false
    → Completed names entries (set entries number (Some (with_status end entry))) shares shares
broken names entries number entry end shares is are counted room ends not_done = record {
  sound = sound_set names entries number entry (with_status end entry) are is refl (record {
    steps = λ pending. let no_pending = apart.0 in absurd (cc);
    size = λ pending. let no_pending = apart.0 in absurd (cc);
    fits = sound.fits;
    own = λ pending. let no_pending = apart.0 in absurd (cc);
    bare = λ pending. let no_pending = apart.0 in absurd (cc);
    mark = sound.mark;
    made = λ done. absurd (cc);
  });
  counted = λ slot some. rw (same slot) (counted slot (rw (← same slot) some));
  room = room_kept names entries (set entries number (Some (with_status end entry))) bounds room;
  bounds = bounds;
  same = record { items = λ slot. refl; others = λ slot none. (refl, rw (same slot) none) };
}
  where
    bounds : KeepsBounds (book_of names entries) (book_of names (set entries number (Some (with_status end entry))))
    bounds = bounds_set names entries number entry (with_status end entry) is (λ weights weighed. omega arith)

    sound : IsSound names entries number entry
    sound = sound_at names entries number entry are is

    apart : (is_pending end ≡ false) × (is_done end ≡ false)
    apart = broken_apart end (breaks names entries entry end sound.mark
        (subst (λ (held : Option Entry). ending_at names entries held ≡ Some end) is ends) not_done)

    same : (slot : ℕ) → views_in (set entries number (Some (with_status end entry))) slot ≡ views_in entries slot
    same slot = let was : on_held slot (entry_at entries number) ≡ views_on slot (held_views entry) = ap (on_held slot) is in omega
        (arith, was, in_set entries number (Some (with_status end entry)) slot (at_within entries number entry is))

-- the same, of what stands under a build number
pub can_make_at : (names : List ℕ) (entries : Entries) (shares : Held) (number : ℕ) → AreSound names entries → AreCounted entries shares → HasRoom names entries
    → ending_at names entries (entry_at entries number) ≡ Some statuses.Done → IsSomeAnd (entry_at entries number) (CanMake names entries shares)
can_make_at names entries shares number are counted room done = by (entry_at entries number) refl done
  where
    by : (held : Option Entry) → entry_at entries number ≡ held → ending_at names entries held ≡ Some statuses.Done
        → IsSomeAnd held (CanMake names entries shares)
    by None is ends = absurd (cc)
    by (Some entry) is ends = can_make names entries shares number entry is are counted room done

pub completed_at : (names : List ℕ) (entries : Entries) (number : ℕ) (before after : Held) (views : List View) → AreSound names entries
    → AreCounted entries before → HasRoom names entries
    → ending_at names entries (entry_at entries number) ≡ Some statuses.Done
    → IfSome (entry_at entries number) (λ (entry : Entry). IsMade names entries entry.recipe (own_views entry.own) before [] [] views after)
    → Completed names entries (set entries number (option_map (done_with views) (entry_at entries number))) before after
completed_at names entries number before after views are counted room done made = by (entry_at entries number) refl done made
  where
    by : (held : Option Entry) → entry_at entries number ≡ held → ending_at names entries held ≡ Some statuses.Done
        → IfSome held (λ (entry : Entry). IsMade names entries entry.recipe (own_views entry.own) before [] [] views after)
        → Completed names entries (set entries number (option_map (done_with views) held)) before after
    by None is ends made = absurd (cc)
    by (Some entry) is ends made = completed names entries number entry before after views is are counted room
        (can_make names entries before number entry is are counted room done) made

pub looked_done : (names : List ℕ) (entries : Entries) (number : ℕ) (before after : Held) (views : List View)
    → ending_at names entries (entry_at entries number) ≡ Some statuses.Done
    → IfSome (entry_at entries number) (λ (entry : Entry). IsMade names entries entry.recipe (own_views entry.own) before [] [] views after)
    → LooksAt (book_of names entries) (book_of names (set entries number (option_map (done_with views) (entry_at entries number)))) number (Some statuses.Done)
looked_done names entries number before after views done made = by (entry_at entries number) refl done made
  where
    by : (held : Option Entry) → entry_at entries number ≡ held → ending_at names entries held ≡ Some statuses.Done
        → IfSome held (λ (entry : Entry). IsMade names entries entry.recipe (own_views entry.own) before [] [] views after)
        → LooksAt (book_of names entries) (book_of names (set entries number (option_map (done_with views) held))) number (Some statuses.Done)
    by None is ends made = absurd (cc)
    by (Some entry) is ends made =
        let here : entry_at (set entries number (Some (done_with views entry))) number ≡ Some (done_with views entry) = at_same entries number
        (Some (done_with views entry)) (at_within entries number entry is) in
        record {
          names = refl;
          others = rw here refl;
          end = sym done;
          entry = rw (here, is, ends) (refl, sym (append-nil (cells views)) ∙ made.cells);
        }

pub broken_at : (names : List ℕ) (entries : Entries) (number : ℕ) (end : Status) (shares : Held) → AreSound names entries → AreCounted entries shares
    → HasRoom names entries
    → ending_at names entries (entry_at entries number) ≡ Some end → is_done end ≡ false
    → Completed names entries (set entries number (option_map (with_status end) (entry_at entries number))) shares shares
broken_at names entries number end shares are counted room ends not_done = by (entry_at entries number) refl ends
  where
    by : (held : Option Entry) → entry_at entries number ≡ held → ending_at names entries held ≡ Some end
        → Completed names entries (set entries number (option_map (with_status end) held)) shares shares
    by None is none = absurd (cc)
    by (Some entry) is at = broken names entries number entry end shares is are counted room ends not_done
