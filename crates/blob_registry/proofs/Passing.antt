-- The pass over unfinished entries, in rising build number.
use Rattle.std.proofs.Common.{◌≡◌, ◌≢◌, ℕ, zero, suc, ◌+◌, ◌-◌, ◌<◌, ◌≤◌, Bool, true, false, cond, List, [], ◌∷◌, ◌++◌, Option, Some, None, length}
use Rattle.std.proofs.Common.{set, take, drop, nat_lt, refl, sym, ap, ◌∙◌, subst, arith, length-append, length-set, append_assoc, append-nil}
use Rattle.std.specs.Prelude.{IfSome, IsSomeAnd, option_and_then, slice_index, unwrap_or}
use Rattle.std.specs.Option.{option_map, option_map_or}
use Rattle.std.specs.List.{AllByRecursion}
use Rattle.std.proofs.lemmas.Bool.Decides.{nat_tests}
use Rattle.std.proofs.lemmas.List.{drop_all, drop_more, drop-set-lt, get_or_append_left, get_or-append_right, get_or-take, get_or_past, length-take-le}
use Rattle.std.proofs.lemmas.List.{set-get_or, take_more, take-set-le}
use Rattle.blob_words.specs.declared.status.Status.{Status}
use Rattle.blob_words.specs.declared.status.Status.TheVariants as statuses
use Rattle.blob_entries.specs.declared.entry.Entry.{Entry}
use Rattle.blob_entries.specs.declared.step.Step.{Step}
use Rattle.blob_entries.specs.declared.step.Step.TheVariants.{Own, Fixed, Source}
use Rattle.blob_entries.proofs.Finishing.{breaks, broken_apart}
use Rattle.blob_entries.proofs.Soundness.{at_other, at_within, same_or}
use Rattle.blob_entries.specs.Book.{Book, book_of, entry_at, is_broken_at, is_done_at}
use Rattle.blob_entries.specs.Changes.{done_with}
use Rattle.blob_entries.specs.Contents.{made_cells, source_views}
use Rattle.blob_entries.specs.Endings.{Ends, EndsAs, LooksAt, ending, ending_at, marked_end, source_end}
use Rattle.blob_entries.specs.Holdings.{own_views}
use Rattle.blob_entries.specs.Names.{number_of}
use Rattle.blob_entries.specs.Sound.{AreSound, IsBreaking, IsSound, StepFits}
use Rattle.blob_entries.specs.Sources.{each_source, some_source, source_passes, step_source}
use Rattle.blob_entries.specs.Statuses.{is_broken, is_done, is_pending}
use Rattle.blob_registry.specs.Passes.{Finishes, Notes, ending_list, endings, passed}
use Rattle.blob_items.specs.declared.view.View.{View}
use Rattle.blob_items.specs.Cells.{cells, view_cells}
use Rattle.blob_registry.specs.declared.ended_blob.EndedBlob.{EndedBlob}

abbrev Entries : Type 0
Entries = List (Option Entry)

-- the first entry that ends was ended
pub record EndsNext (before after : Book) (name : ℕ) (status : Status) : Type 0 where
  pub number : ℕ
  pub least : (other : ℕ) → other < number → ending_at before.names before.entries (entry_at before.entries other) ≡ None
  pub looks : LooksAt before after number (Some status)
  pub named : name ≡ slice_index before.names number

-- no entry ends
abbrev pub NoneEnds : Book → Type 0
NoneEnds book = (number : ℕ) → ending_at book.names book.entries (entry_at book.entries number) ≡ None

-- how it stands
abbrev pub status_of : Option Entry → Option Status
status_of held = option_map (λ (entry : Entry). entry.status) held

-- entries stand alike at a source
abbrev pub SameSource : List ℕ → Entries → Entries → Step → Type 0
SameSource names one other step = IfSome (step_source names step) (λ (source : ℕ). status_of (entry_at one source) ≡ status_of (entry_at other source))

broken_same : (one other : Option Entry) → status_of one ≡ status_of other
    → option_map_or (λ (entry : Entry). is_broken entry.status) one false ≡ option_map_or (λ (entry : Entry). is_broken entry.status) other false
broken_same None None same = refl
broken_same None (Some e) same = absurd (cc)
broken_same (Some e) None same = absurd (cc)
broken_same (Some e) (Some f) same = let is : e.status ≡ f.status = cc in ap is_broken is

done_same : (one other : Option Entry) → status_of one ≡ status_of other
    → option_map_or (λ (entry : Entry). is_done entry.status) one false ≡ option_map_or (λ (entry : Entry). is_done entry.status) other false
done_same None None same = refl
done_same None (Some e) same = absurd (cc)
done_same (Some e) None same = absurd (cc)
done_same (Some e) (Some f) same = let is : e.status ≡ f.status = cc in ap is_done is

passes_same : (names : List ℕ) (f g : ℕ → Bool) (d : Bool) (step : Step) → IfSome (step_source names step) (λ (source : ℕ). f source ≡ g source)
    → source_passes names f d step ≡ source_passes names g d step
passes_same names f g d step same = by (step_source names step) same
  where
    by : (source : Option ℕ) → IfSome source (λ (s : ℕ). f s ≡ g s) → option_map_or f source d ≡ option_map_or g source d
    by None same = refl
    by (Some s) same = same

at_source : (names : List ℕ) (one other : Entries) (step : Step) → SameSource names one other step
    → IfSome (step_source names step) (λ (source : ℕ). is_broken_at one source ≡ is_broken_at other source)
    × IfSome (step_source names step) (λ (source : ℕ). is_done_at one source ≡ is_done_at other source)
at_source names one other step same = by (step_source names step) same
  where
    by : (source : Option ℕ) → IfSome source (λ (s : ℕ). status_of (entry_at one s) ≡ status_of (entry_at other s))
        → IfSome source (λ (s : ℕ). is_broken_at one s ≡ is_broken_at other s) × IfSome source (λ (s : ℕ). is_done_at one s ≡ is_done_at other s)
    by None same = (tt, tt)
    by (Some s) same = (broken_same (entry_at one s) (entry_at other s) same, done_same (entry_at one s) (entry_at other s) same)

some_same : (names : List ℕ) (one other : Entries) (steps : List Step) → AllByRecursion (SameSource names one other) steps
    → some_source names (is_broken_at one) steps ≡ some_source names (is_broken_at other) steps
some_same names one other [] all = refl
some_same names one other (step ∷ steps) all = rw
    (passes_same names (is_broken_at one) (is_broken_at other) false step (at_source names one other step all.0).0, some_same names one other steps all.1) refl

each_same : (names : List ℕ) (one other : Entries) (steps : List Step) → AllByRecursion (SameSource names one other) steps
    → each_source names (is_done_at one) steps ≡ each_source names (is_done_at other) steps
each_same names one other [] all = refl
each_same names one other (step ∷ steps) all = rw
    (passes_same names (is_done_at one) (is_done_at other) true step (at_source names one other step all.0).1, each_same names one other steps all.1) refl

-- an entry ends alike where its sources stand alike
pub ending_same : (names : List ℕ) (one other : Entries) (entry : Entry)
    → (is_pending entry.status ≡ true → AllByRecursion (SameSource names one other) entry.recipe) → ending names one entry ≡ ending names other entry
ending_same names one other entry same = by (is_pending entry.status) refl
  where
    by : (p : Bool) → is_pending entry.status ≡ p
        → cond p (marked_end entry.mark (source_end names one entry)) None ≡ cond p (marked_end entry.mark (source_end names other entry)) None
    by false is = refl
    by true is =
        let all = same is in
        let source : source_end names one entry ≡ source_end names other entry = rw
        (some_same names one other entry.recipe all, each_same names one other entry.recipe all) refl in
        ap (marked_end entry.mark) source

-- where all stands alike before it
same_before : (names : List ℕ) (entries one other : Entries) (number : ℕ) (steps : List Step) → AllByRecursion (StepFits names entries number) steps
    → ((k : ℕ) → k < number → status_of (entry_at one k) ≡ status_of (entry_at other k)) → AllByRecursion (SameSource names one other) steps
same_before names entries one other number [] fits same = tt
same_before names entries one other number (Own piece len ∷ steps) fits same = (tt, same_before names entries one other number steps fits.1 same)
same_before names entries one other number (Fixed view ∷ steps) fits same = (tt, same_before names entries one other number steps fits.1 same)
same_before names entries one other number (Source name off len ∷ steps) fits same =
    (by (number_of name names) fits.0, same_before names entries one other number steps fits.1 same)
  where
    by : (source : Option ℕ) → IsSomeAnd source (λ (s : ℕ). (s < number) × IsSomeAnd (entry_at entries s) (λ (entry : Entry). off + len ≤ entry.size))
        → IfSome source (λ (s : ℕ). status_of (entry_at one s) ≡ status_of (entry_at other s))
    by None has = tt
    by (Some s) has = same s has.0

pub ending_before : (names : List ℕ) (entries one other : Entries) (number : ℕ) (held : Option Entry) → IfSome held (IsSound names entries number)
    → ((k : ℕ) → k < number → status_of (entry_at one k) ≡ status_of (entry_at other k)) → ending_at names one held ≡ ending_at names other held
ending_before names entries one other number None sound same = refl
ending_before names entries one other number (Some entry) sound same = ending_same names one other entry
    (λ pending. same_before names entries one other number entry.recipe (sound.steps pending) same)

-- what does not end stays in the pass
pub passed_none : (names : List ℕ) (earlier : Entries) (held : Option Entry) → ending_at names earlier held ≡ None → passed names earlier held ≡ held
passed_none names earlier None none = refl
passed_none names earlier (Some entry) none = rw none refl

-- the pass goes on alike where those before stand alike
pub endings_same : (names : List ℕ) (one other later : Entries) → length one ≡ length other
    → ((k : ℕ) → status_of (entry_at one k) ≡ status_of (entry_at other k)) → endings names one later ≡ endings names other later
endings_same names one other [] long same = refl
endings_same names one other (held ∷ later) long same =
    let here : ending_at names one held ≡ ending_at names other held = at held in
    rw (long, here) (ap (λ rest. ending_list (slice_index names (length other)) (ending_at names other held) ++ rest)
    (endings_same names (one ++ passed names one held ∷ []) (other ++ passed names other held ∷ []) later
    (omega (arith, long, length-append one (passed names one held ∷ []), length-append other (passed names other held ∷ []))) next))
  where
    all : (steps : List Step) → AllByRecursion (SameSource names one other) steps
    all [] = tt
    all (step ∷ steps) = (by (step_source names step), all steps)
      where
        by : (source : Option ℕ) → IfSome source (λ (s : ℕ). status_of (entry_at one s) ≡ status_of (entry_at other s))
        by None = tt
        by (Some s) = same s

    at : (h : Option Entry) → ending_at names one h ≡ ending_at names other h
    at None = refl
    at (Some entry) = ending_same names one other entry (λ pending. all entry.recipe)

    status_passed : (h : Option Entry) → status_of (passed names one h) ≡ status_of (passed names other h)
    status_passed None = refl
    status_passed (Some entry) = ap (λ (s : Option Status). Some (unwrap_or s entry.status)) (ending_same names one other entry (λ pending. all entry.recipe))

    tail : (n : ℕ) → status_of (entry_at (passed names one held ∷ []) n) ≡ status_of (entry_at (passed names other held ∷ []) n)
    tail zero = status_passed held
    tail (suc n) = refl

    next : (k : ℕ) → status_of (entry_at (one ++ passed names one held ∷ []) k) ≡ status_of (entry_at (other ++ passed names other held ∷ []) k)
    next k = pick (nat_lt k (length one)) refl
      where
        pick : (b : Bool) → nat_lt k (length one) ≡ b
            → status_of (entry_at (one ++ passed names one held ∷ []) k) ≡ status_of (entry_at (other ++ passed names other held ∷ []) k)
        pick true below =
            let within : k < length one = grind (arith, nat_tests) in
            rw (
              get_or_append_left one (passed names one held ∷ []) None k within,
              get_or_append_left other (passed names other held ∷ []) None k
                  (omega (arith, long, within)),
            ) (same k)
        pick false not_below =
            let behind : length one ≤ k = grind (arith, nat_tests) in
            rw (
              get_or-append_right one (passed names one held ∷ []) (length one) k None refl behind,
              get_or-append_right other
                  (passed names other held ∷ []) (length one) k None (sym long) behind,
            ) (tail (k - length one))

-- a status with which something ends is no pending one
pub ends_apart : (names : List ℕ) (entries : Entries) (entry : Entry) (status : Status) → IfSome entry.mark IsBreaking
    → ending names entries entry ≡ Some status → is_pending status ≡ false
ends_apart names entries entry status mark is = pick (is_done status) refl
  where
    on_done : (s : Status) → is_done s ≡ true → is_pending s ≡ false
    on_done statuses.PendingQuota done = absurd (cc)
    on_done statuses.PendingTransport done = absurd (cc)
    on_done statuses.PendingReferencedBlobs done = absurd (cc)
    on_done s done = refl

    pick : (b : Bool) → is_done status ≡ b → is_pending status ≡ false
    pick true done = on_done status done
    pick false not_done = (broken_apart status (breaks names entries entry status mark is not_done)).0

-- the pass goes over what does not end
pub skipped : (names : List ℕ) (entries : Entries) (count number : ℕ) → AreSound names entries → number + count ≤ length entries
    → ((k : ℕ) → number ≤ k → k < number + count → ending_at names entries (entry_at entries k) ≡ None)
    → endings names (take number entries) (drop number entries) ≡ endings names (take (number + count) entries) (drop (number + count) entries)
skipped names entries zero number are within none = let same : number + zero ≡ number = omega arith in rw same refl
skipped names entries (suc count) number are within none =
    let inside : number < length entries = omega arith in
    let next : (number + 1) + count ≡ number + suc count = omega arith in
    let here : ending_at names (take number entries) (entry_at entries number) ≡ None =
    ending_before names entries (take number entries) entries number (entry_at entries number) (are.each number)
    (λ k below. ap status_of (get_or-take number entries k None below)) ∙ none number (omega arith) (omega arith) in
    let step : endings names (take number entries) (entry_at entries number ∷ drop (number + 1) entries) ≡ endings names
    (take number entries ++ entry_at entries number ∷ []) (drop (number + 1) entries) =
    rw (here, passed_none names (take number entries) (entry_at entries number) here) refl in
    ap (endings names (take number entries)) (drop_more entries number None inside) ∙ step
    ∙ ap (λ (front : Entries). endings names front (drop (number + 1) entries)) (sym (take_more entries number None inside))
    ∙ skipped names entries count (number + 1) are (omega arith) (λ k from to. none k (omega arith) (omega arith))
    ∙ ap (λ (n : ℕ). endings names (take n entries) (drop n entries)) next

-- how one that was looked at stands
pub status_after : (names : List ℕ) (entries : Entries) (held after : Option Entry) (status : Status) → Some status ≡ ending_at names entries held
    → Ends names entries held after → status_of after ≡ Some status
status_after names entries None after status is ends = absurd (cc)
status_after names entries (Some entry) after status is ends = by (ending names entries entry) status after is ends
  where
    done : (a : Option Entry) → IsSomeAnd a (λ (d : Entry). (d ≡ done_with d.views entry)
        × (cells d.views ≡ made_cells names entries entry.recipe (own_views entry.own))) → status_of a ≡ Some statuses.Done
    done None ends = absurd ends
    done (Some d) ends = ap (λ (e : Entry). Some e.status) ends.0

    at : (s : Status) (a : Option Entry) → EndsAs names entries entry (Some s) a → status_of a ≡ Some s
    at statuses.Done a ends = done a ends
    at statuses.InvalidArguments a ends = ap status_of ends
    at statuses.OutOfMemory a ends = ap status_of ends
    at statuses.FileWriteFailed a ends = ap status_of ends
    at statuses.SourceDied a ends = ap status_of ends
    at statuses.Dereferenced a ends = ap status_of ends
    at statuses.ReferencedBlobBroken a ends = ap status_of ends
    at statuses.ReferencedFileUnavailable a ends = ap status_of ends
    at statuses.PendingQuota a ends = ap status_of ends
    at statuses.PendingTransport a ends = ap status_of ends
    at statuses.PendingReferencedBlobs a ends = ap status_of ends

    by : (end : Option Status) (s : Status) (a : Option Entry) → Some s ≡ end → EndsAs names entries entry end a → status_of a ≡ Some s
    by None s a is ends = absurd (cc)
    by (Some t) s a is ends = let same : s ≡ t = cc in at t a ends ∙ ap (λ (u : Status). Some u) (sym same)

passed_some : (names : List ℕ) (entries : Entries) (held : Option Entry) (status : Status) → ending_at names entries held ≡ Some status
    → status_of (passed names entries held) ≡ Some status
passed_some names entries None status is = absurd (cc)
passed_some names entries (Some entry) status is = rw is refl

-- the pass at one that ends
pub stepped : (before after : Book) (number : ℕ) (status : Status) → AreSound before.names before.entries → LooksAt before after number (Some status)
    → number < length before.entries
    → endings before.names (take number before.entries) (drop number before.entries) ≡ ending_list (slice_index before.names number)
    (Some status) ++ endings before.names (take (number + 1) after.entries) (drop (number + 1) after.entries)
stepped before after number status are looks inside =
    ap (endings names front) (drop_more entries number None inside) ∙ here
    ∙ ap (λ rest. ending_list (slice_index names number) (Some status) ++ rest)
    (endings_same names (front ++ passed names front held ∷ []) (take (number + 1) after.entries) (drop (number + 1) entries) long alike
    ∙ ap (endings names (take (number + 1) after.entries)) (sym behind))
  where
    names : List ℕ
    names = before.names

    entries : Entries
    entries = before.entries

    front : Entries
    front = take number entries

    held : Option Entry
    held = entry_at entries number

    ends : ending_at names front held ≡ Some status
    ends = ending_before names entries front entries number held (are.each number) (λ k below. ap status_of (get_or-take number entries k None below))
        ∙ sym looks.end

    size : length front ≡ number
    size = length-take-le number entries (omega arith)

    here : endings names front (held ∷ drop (number + 1) entries) ≡ ending_list (slice_index names number) (Some status) ++ endings names
        (front ++ passed names front held ∷ []) (drop (number + 1) entries)
    here = rw (size, ends) refl

    same_size : length after.entries ≡ length entries
    same_size = ap length looks.others ∙ length-set entries number (entry_at after.entries number)

    behind : drop (number + 1) after.entries ≡ drop (number + 1) entries
    behind = ap (drop (number + 1)) looks.others ∙ drop-set-lt (number + 1) entries number (entry_at after.entries number) (omega arith)

    next : take (number + 1) after.entries ≡ front ++ entry_at after.entries number ∷ []
    next = take_more after.entries number None (omega (arith, same_size, inside))
        ∙ ap (λ (f : Entries). f ++ entry_at after.entries number ∷ [])
        (ap (take number) looks.others ∙ take-set-le number entries number (entry_at after.entries number) (omega arith))

    long : length (front ++ passed names front held ∷ []) ≡ length (take (number + 1) after.entries)
    long = rw next (omega (arith, length-append front (passed names front held ∷ []), length-append front (entry_at after.entries number ∷ [])))

    status_here : status_of (passed names front held) ≡ status_of (entry_at after.entries number)
    status_here = passed_some names front held status ends ∙ sym (status_after names entries held (entry_at after.entries number) status looks.end looks.entry)

    tail : (n : ℕ) → status_of (entry_at (passed names front held ∷ []) n) ≡ status_of (entry_at (entry_at after.entries number ∷ []) n)
    tail zero = status_here
    tail (suc n) = refl

    alike : (k : ℕ) → status_of (entry_at (front ++ passed names front held ∷ []) k) ≡ status_of (entry_at (take (number + 1) after.entries) k)
    alike k = rw next (pick (nat_lt k (length front)) refl)
      where
        pick : (b : Bool) → nat_lt k (length front) ≡ b
            → status_of (entry_at (front ++ passed names front held ∷ []) k) ≡ status_of (entry_at (front ++ entry_at after.entries number ∷ []) k)
        pick true below =
            let within : k < length front = grind (arith, nat_tests) in
            rw (
              get_or_append_left front (passed names front held ∷ []) None k within,
              get_or_append_left front
                  (entry_at after.entries number ∷ []) None k within,
            ) refl
        pick false not_below =
            let past : length front ≤ k = grind (arith, nat_tests) in
            rw (
              get_or-append_right front (passed names front held ∷ []) (length front) k None refl past,
              get_or-append_right front
                  (entry_at after.entries number ∷ []) (length front) k None refl past,
            ) (tail (k - length front))

-- the cells are those of entries that are the same at its sources
made_before : (names : List ℕ) (entries one other : Entries) (number : ℕ) (steps : List Step) (own : List View)
    → AllByRecursion (StepFits names entries number) steps → ((k : ℕ) → k < number → entry_at one k ≡ entry_at other k)
    → made_cells names one steps own ≡ made_cells names other steps own
made_before names entries one other number [] own fits same = refl
made_before names entries one other number (Own piece len ∷ steps) [] fits same = made_before names entries one other number steps [] fits.1 same
made_before names entries one other number (Own piece len ∷ steps) (view ∷ own) fits same = ap (λ c. view_cells view ++ c)
    (made_before names entries one other number steps own fits.1 same)
made_before names entries one other number (Fixed view ∷ steps) own fits same = ap (λ c. view_cells view ++ c)
    (made_before names entries one other number steps own fits.1 same)
made_before names entries one other number (Source name off len ∷ steps) own fits same =
    rw (by (number_of name names) fits.0) (ap (λ c. take len (drop off (cells (source_views names other name))) ++ c)
    (made_before names entries one other number steps own fits.1 same))
  where
    by : (source : Option ℕ) → IsSomeAnd source (λ (s : ℕ). (s < number) × IsSomeAnd (entry_at entries s) (λ (entry : Entry). off + len ≤ entry.size))
        → option_map_or (λ (entry : Entry). entry.views) (option_and_then (entry_at one) source) [] ≡ option_map_or (λ (entry : Entry). entry.views)
        (option_and_then (entry_at other) source) []
    by None has = refl
    by (Some s) has = ap (λ (held : Option Entry). option_map_or (λ (entry : Entry). entry.views) held []) (same s has.0)

-- an entry ended so, seen from entries that are the same at its sources
pub ends_before : (names : List ℕ) (entries one other : Entries) (number : ℕ) (held after : Option Entry) → IfSome held (IsSound names entries number)
    → ((k : ℕ) → k < number → entry_at one k ≡ entry_at other k) → Ends names one held after → Ends names other held after
ends_before names entries one other number None after sound same ends = ends
ends_before names entries one other number (Some entry) after sound same ends =
    by (is_pending entry.status) refl (subst (λ (end : Option Status). EndsAs names one entry end after) alike ends)
  where
    alike : ending names one entry ≡ ending names other entry
    alike = ending_before names entries one other number (Some entry) sound (λ k below. ap status_of (same k below))

    none : (p : Bool) → is_pending entry.status ≡ p → p ≡ false → ending names other entry ≡ None
    none p is not_pending = rw (is ∙ not_pending) refl

    on : is_pending entry.status ≡ true → (end : Option Status) → EndsAs names one entry end after → EndsAs names other entry end after
    on pending None so = so
    on pending (Some statuses.Done) so = by_done after so
      where
        by_done : (a : Option Entry) → IsSomeAnd a
            (λ (d : Entry). (d ≡ done_with d.views entry) × (cells d.views ≡ made_cells names one entry.recipe (own_views entry.own)))
            → IsSomeAnd a (λ (d : Entry). (d ≡ done_with d.views entry) × (cells d.views ≡ made_cells names other entry.recipe (own_views entry.own)))
        by_done None so = absurd so
        by_done (Some d) so = (so.0, so.1 ∙ made_before names entries one other number entry.recipe (own_views entry.own) (sound.steps pending) same)
    on pending (Some status) so = so

    by : (p : Bool) → is_pending entry.status ≡ p → EndsAs names one entry (ending names other entry) after
        → EndsAs names other entry (ending names other entry) after
    by true is so = on is (ending names other entry) so
    by false is so = rw (none false is refl) (subst (λ (end : Option Status). EndsAs names one entry end after) (none false is refl) so)

-- how far the pass is
pub record Passes (old now : Book) (bound : ℕ) (list : List EndedBlob) : Type 0 where
  pub within : bound ≤ length now.entries
  pub names : now.names ≡ old.names
  pub listed : list ++ endings now.names (take bound now.entries) (drop bound now.entries) ≡ endings old.names [] old.entries
  pub nothing : (k : ℕ) → k < bound → ending_at now.names now.entries (entry_at now.entries k) ≡ None
  pub ends : (k : ℕ) → k < bound → Ends old.names now.entries (entry_at old.entries k) (entry_at now.entries k)
  pub front : (k : ℕ) → bound ≤ k → entry_at now.entries k ≡ entry_at old.entries k

pub passes_none : (old : Book) → Passes old old 0 []
passes_none old = record {
  within = omega arith;
  names = refl;
  listed = refl;
  nothing = λ k below. absurd (omega arith);
  ends = λ k below. absurd
      (omega arith);
  front = λ k above. refl;
}

pub passes_more : (old now later : Book) (bound : ℕ) (list : List EndedBlob) (name : ℕ) (status : Status) → AreSound old.names old.entries
    → AreSound now.names now.entries → Passes old now bound list → (next : EndsNext now later name status)
    → Passes old later (next.number + 1) (list ++ ending_list name (Some status))
passes_more old now later bound list name status were are passes next = record {
  within = omega (arith, same_size, inside);
  names = next.looks.names ∙ passes.names;
  listed = ap (λ (ns : List ℕ). (list ++ ending_list name (Some status)) ++ endings ns (take (number + 1) later.entries)
      (drop (number + 1) later.entries)) next.looks.names
      ∙ append_assoc list (ending_list name (Some status)) (endings now.names (take (number + 1) later.entries) (drop (number + 1) later.entries))
      ∙ ap (λ rest. list ++ rest) (ap (λ (n : ℕ). ending_list n (Some status) ++ endings now.names (take (number + 1) later.entries)
      (drop (number + 1) later.entries)) next.named ∙ sym (stepped now later number status are next.looks inside) ∙ sym jumped)
      ∙ passes.listed;
  nothing = λ k below. subst (λ (ns : List ℕ). ending_at ns later.entries (entry_at later.entries k) ≡ None) (sym next.looks.names)
      (same_or k number (λ equal. rw equal ended) (λ apart. before k (omega arith)));
  ends = λ k below. ends_now k (omega arith);
  front = λ k above. elsewhere k (λ equal. omega arith) ∙ passes.front k (omega (arith, from));
}
  where
    number : ℕ
    number = next.number

    elsewhere : (k : ℕ) → k ≢ number → entry_at later.entries k ≡ entry_at now.entries k
    elsewhere k apart = ap (λ (e : Entries). entry_at e k) next.looks.others ∙ at_other now.entries number k (entry_at later.entries number) apart

    inside : number < length now.entries
    inside = by (entry_at now.entries number) refl next.looks.end
      where
        by : (held : Option Entry) → entry_at now.entries number ≡ held → Some status ≡ ending_at now.names now.entries held → number < length now.entries
        by None is ends = absurd (cc)
        by (Some entry) is ends = at_within now.entries number entry is

    from : bound ≤ number
    from = pick (nat_lt number bound) refl
      where
        pick : (b : Bool) → nat_lt number bound ≡ b → bound ≤ number
        pick true below = let none = passes.nothing number (grind (arith, nat_tests)) in let some = next.looks.end in absurd (cc)
        pick false not_below = grind (arith, nat_tests)

    before : (k : ℕ) → k < number → ending_at now.names later.entries (entry_at later.entries k) ≡ None
    before k below =
        ap (ending_at now.names later.entries) (elsewhere k (λ equal. omega arith))
        ∙ ending_before now.names now.entries later.entries now.entries k (entry_at now.entries k) (are.each k)
        (λ j under. ap status_of (elsewhere j (λ equal. omega arith)))
        ∙ next.least k below

    ends_now : (k : ℕ) → k ≤ number → Ends old.names later.entries (entry_at old.entries k) (entry_at later.entries k)
    ends_now k below = same_or k number (λ equal. rw equal here) (λ apart. pick (nat_lt k bound) refl apart)
      where
        lower : (j m : ℕ) → j < m → m ≤ number → entry_at now.entries j ≡ entry_at later.entries j
        lower j m under most = sym (elsewhere j (λ equal. omega arith))

        here : Ends old.names later.entries (entry_at old.entries number) (entry_at later.entries number)
        here =
            let so : Ends old.names now.entries (entry_at old.entries number) (entry_at later.entries number) =
            subst (λ (ns : List ℕ). Ends ns now.entries (entry_at old.entries number) (entry_at later.entries number)) passes.names
            (subst (λ (held : Option Entry). Ends now.names now.entries held (entry_at later.entries number)) (passes.front number from) next.looks.entry) in
            ends_before old.names old.entries now.entries later.entries number (entry_at old.entries number) (entry_at later.entries number)
            (were.each number) (λ j under. lower j number under (omega arith)) so

        between : bound ≤ k → k ≢ number → Ends old.names later.entries (entry_at old.entries k) (entry_at later.entries k)
        between above apart =
            let none : ending_at old.names later.entries (entry_at later.entries k) ≡ None = subst
            (λ (ns : List ℕ). ending_at ns later.entries (entry_at later.entries k) ≡ None) passes.names (before k (omega arith)) in
            let same : entry_at later.entries k ≡ entry_at old.entries k = elsewhere k apart ∙ passes.front k above in
            stays (entry_at old.entries k) (entry_at later.entries k) same none
          where
            stays : (held after : Option Entry) → after ≡ held → ending_at old.names later.entries after ≡ None → Ends old.names later.entries held after
            stays None after is none = is
            stays (Some entry) after is none = let none_here : ending old.names later.entries entry ≡ None = subst
                (λ (h : Option Entry). ending_at old.names later.entries h ≡ None) is none in rw none_here is

        pick : (b : Bool) → nat_lt k bound ≡ b → k ≢ number → Ends old.names later.entries (entry_at old.entries k) (entry_at later.entries k)
        pick true under apart =
            let within : k < bound = grind (arith, nat_tests) in
            rw (elsewhere k apart) (ends_before old.names old.entries now.entries later.entries k (entry_at old.entries k) (entry_at now.entries k)
            (were.each k) (λ j u. lower j k u below) (passes.ends k within))
        pick false not_under apart = between (grind (arith, nat_tests)) apart

    same_size : length later.entries ≡ length now.entries
    same_size = ap length next.looks.others ∙ length-set now.entries number (entry_at later.entries number)

    jump : bound + (number - bound) ≡ number
    jump = omega (arith, from)

    jumped : endings now.names (take bound now.entries) (drop bound now.entries) ≡ endings now.names (take number now.entries) (drop number now.entries)
    jumped = skipped now.names now.entries (number - bound) bound are (omega (arith, jump, inside))
        (λ k above below. next.least k (omega (arith, jump, below))) ∙ ap (λ (n : ℕ). endings now.names (take n now.entries) (drop n now.entries)) jump

    ended : ending_at now.names later.entries (entry_at later.entries number) ≡ None
    ended = by (entry_at now.entries number) (entry_at later.entries number) (are.each number) next.looks.end
        (status_after now.names now.entries (entry_at now.entries number) (entry_at later.entries number) status next.looks.end next.looks.entry)
      where
        by : (held after : Option Entry) → IfSome held (IsSound now.names now.entries number) → Some status ≡ ending_at now.names now.entries held
            → status_of after ≡ Some status → ending_at now.names later.entries after ≡ None
        by None after sound ends is = absurd (cc)
        by (Some entry) None sound ends is = absurd (cc)
        by (Some entry) (Some a) sound ends is =
            let same : a.status ≡ status = cc in
            let apart : is_pending a.status ≡ false = rw same (ends_apart now.names now.entries entry status sound.mark (sym ends)) in
            rw apart refl

-- one that does not end
pub passes_on : (old now : Book) (number : ℕ) (list : List EndedBlob) → AreSound now.names now.entries → Passes old now number list
    → number < length now.entries → ending_at now.names now.entries (entry_at now.entries number) ≡ None → Passes old now (number + 1) list
passes_on old now number list are passes inside none = record {
  within = omega arith;
  names = passes.names;
  listed = ap (λ rest. list ++ rest) (sym (skipped now.names now.entries 1 number are (omega arith)
      (λ k above below. let same : k ≡ number = omega arith in rw same none))) ∙ passes.listed;
  nothing = λ k below. same_or k number (λ equal. rw equal none) (λ apart. passes.nothing k (omega arith));
  ends = λ k below. same_or k number (λ equal. rw equal
      (stays (entry_at old.entries number) (entry_at now.entries number) (passes.front number (omega arith))
      (subst (λ (ns : List ℕ). ending_at ns now.entries (entry_at now.entries number) ≡ None) passes.names none))) (λ apart. passes.ends k (omega arith));
  front = λ k above. passes.front k (omega arith);
}
  where
    stays : (held after : Option Entry) → after ≡ held → ending_at old.names now.entries after ≡ None → Ends old.names now.entries held after
    stays None after is nothing = is
    stays (Some entry) after is nothing = let none_here : ending old.names now.entries entry ≡ None = subst
        (λ (h : Option Entry). ending_at old.names now.entries h ≡ None) is nothing in rw none_here is

pub passes_end : (old now : Book) (bound : ℕ) (list : List EndedBlob) → AreSound now.names now.entries → Passes old now bound list → NoneEnds now
    → list ≡ endings old.names [] old.entries
passes_end old now bound list are passes none = sym (append-nil list) ∙ ap (λ rest. list ++ rest) (sym rest_none) ∙ passes.listed
  where
    jump : bound + (length now.entries - bound) ≡ length now.entries
    jump = omega (arith, passes.within)

    rest_none : endings now.names (take bound now.entries) (drop bound now.entries) ≡ []
    rest_none = skipped now.names now.entries (length now.entries - bound) bound are (omega (arith, jump)) (λ k above below. none k)
        ∙ ap (λ (n : ℕ). endings now.names (take n now.entries) (drop n now.entries)) jump
        ∙ ap (endings now.names (take (length now.entries) now.entries)) (drop_all (length now.entries) now.entries (omega arith))

book_same : (one other : Book) → one.names ≡ other.names → one.entries ≡ other.entries → one ≡ other
book_same one other names entries = ap (λ (ns : List ℕ). book_of ns one.entries) names ∙ ap (λ (es : Entries). book_of other.names es) entries

-- one that was looked at and does not end leaves all as it was
pub looked_none : (now later : Book) (number : ℕ) → LooksAt now later number None → later ≡ now
looked_none now later number looks = book_same later now looks.names
    (looks.others ∙ ap (set now.entries number) (by (entry_at now.entries number) looks.end looks.entry) ∙ set-get_or now.entries number None)
  where
    by : (held : Option Entry) → None ≡ ending_at now.names now.entries held → Ends now.names now.entries held (entry_at later.entries number)
        → entry_at later.entries number ≡ held
    by None none ends = ends
    by (Some entry) none ends = subst (λ (end : Option Status). EndsAs now.names now.entries entry end (entry_at later.entries number)) (sym none) ends

-- the pass, one number on
pub passes_notes : (old now later : Book) (number : ℕ) (ended : Bool) (list next : List EndedBlob) → AreSound old.names old.entries
    → AreSound now.names now.entries → Passes old now number list → number < length now.entries → Notes now later number ended list next
    → Passes old later (number + 1) next
passes_notes old now later number ended list next were are passes inside notes = by notes.result notes.looks notes.noted
  where
    by : (result : Option Status) → LooksAt now later number result → next ≡ list ++ ending_list (slice_index now.names number) result
        → Passes old later (number + 1) next
    by None looks noted = rw (looked_none now later number looks, noted, append-nil list) (passes_on old now number list are passes inside (sym looks.end))
    by (Some status) looks noted = rw noted (passes_more old now later number list (slice_index now.names number) status were are passes
        (record { number = number; least = passes.nothing; looks = looks; named = refl }))

-- the pass is done
pub passes_all : (old now : Book) (number : ℕ) (list : List EndedBlob) → AreSound now.names now.entries → Passes old now number list
    → length now.entries ≤ number → length now.entries ≡ length old.entries → Finishes old now list
passes_all old now number list are passes behind size = record {
  names = passes.names;
  sized = size;
  each = λ k. pick k (nat_lt k number) refl;
  listed = passes_end old now number list are passes (λ k. none k (nat_lt k number) refl);
}
  where
    past : (k : ℕ) → nat_lt k number ≡ false → entry_at now.entries k ≡ None
    past k not_below = let above : number ≤ k = grind (arith, nat_tests) in get_or_past now.entries k None (omega arith)

    none : (k : ℕ) (b : Bool) → nat_lt k number ≡ b → ending_at now.names now.entries (entry_at now.entries k) ≡ None
    none k true below = passes.nothing k (grind (arith, nat_tests))
    none k false not_below = rw (past k not_below) refl

    pick : (k : ℕ) (b : Bool) → nat_lt k number ≡ b → Ends old.names now.entries (entry_at old.entries k) (entry_at now.entries k)
    pick k true below = passes.ends k (grind (arith, nat_tests))
    pick k false not_below =
        let above : number ≤ k = grind (arith, nat_tests) in
        let gone : entry_at old.entries k ≡ None = get_or_past old.entries k None (omega arith) in
        rw gone (past k not_below)

-- the pass goes over numbers that don't end
passes_jump : (old now : Book) (count bound : ℕ) (list : List EndedBlob) → AreSound now.names now.entries → Passes old now bound list
    → bound + count ≤ length now.entries
    → ((k : ℕ) → bound ≤ k → k < bound + count → ending_at now.names now.entries (entry_at now.entries k) ≡ None) → Passes old now (bound + count) list
passes_jump old now zero bound list are passes within none = let same : bound + zero ≡ bound = omega arith in rw same passes
passes_jump old now (suc count) bound list are passes within none =
    let next : (bound + 1) + count ≡ bound + suc count = omega arith in
    subst (λ (b : ℕ). Passes old now b list) next
    (passes_jump old now count (bound + 1) list are (passes_on old now bound list are passes (omega arith) (none bound (omega arith) (omega arith)))
    (omega arith) (λ k above below. none k (omega arith) (omega arith)))

pub passes_to : (old now : Book) (bound number : ℕ) (list : List EndedBlob) → AreSound now.names now.entries → Passes old now bound list → bound ≤ number
    → number ≤ length now.entries
    → ((k : ℕ) → k < number → ending_at now.names now.entries (entry_at now.entries k) ≡ None) → Passes old now number list
passes_to old now bound number list are passes le within none =
    let jump : bound + (number - bound) ≡ number = omega arith in
    subst (λ (b : ℕ). Passes old now b list) jump
    (passes_jump old now (number - bound) bound list are passes (omega (arith, jump)) (λ k above below. none k (omega (arith, jump, below))))

-- nobody ends any more
pub look_end : (old now : Book) (bound count : ℕ) (list : List EndedBlob) → AreSound old.names old.entries → AreSound now.names now.entries
    → Passes old now bound list → count ≡ length now.names
    → ((k : ℕ) → k < count → ending_at now.names now.entries (entry_at now.entries k) ≡ None) → Finishes old now list
look_end old now bound count list were are passes size none =
    passes_all old now count list are
    (passes_to old now bound count list are passes (omega (arith, passes.within, size, are.sized)) (omega (arith, size, are.sized)) none)
    (omega (arith, size, are.sized)) (omega (arith, size, are.sized, were.sized, ap length passes.names))
