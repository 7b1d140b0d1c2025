-- What is kept of the work, with one entry more.
use Rattle.std.proofs.Common.{◌≡◌, ◌≢◌, ℕ, ◌+◌, ◌<◌, ◌≤◌, Bool, true, false, cond, ◌&&◌, ◌||◌, List, [], ◌∷◌, ◌++◌, Option, Some, None}
use Rattle.std.proofs.Common.{length, set, nat_eq, nat_lt, refl, sym, ap, ◌∙◌, subst, arith, length-set, get_or-set_same, get_or-set_other, append-nil, suc}
use Rattle.std.specs.Prelude.{IfSome, IsSomeAnd, slice_index}
use Rattle.std.specs.Option.{option_map_or}
use Rattle.std.specs.List.{AllByRecursion, list_any}
use Rattle.std.proofs.lemmas.Bool.Decides.{nat_tests}
use Rattle.std.proofs.lemmas.List.{get_or_append_left, get_or_past, length_push}
use Rattle.std.proofs.lemmas.List.Folds.{list_any-append}
use Rattle.blob_words.specs.declared.bounds.TheConstants.{MOST_BLOBS}
use Rattle.blob_entries.specs.declared.entry.Entry.{Entry}
use Rattle.blob_entries.specs.declared.step.Step.{Step}
use Rattle.blob_entries.specs.declared.step.Step.TheVariants.{Own, Fixed, Source}
use Rattle.blob_entries.specs.Book.{Book, entry_at, is_broken_at, is_done_at}
use Rattle.blob_entries.specs.Endings.{ending_at, marked_end, source_end}
use Rattle.blob_entries.specs.Leaving.{is_needed, is_rooted, left}
use Rattle.blob_entries.specs.Names.{number_of}
use Rattle.blob_entries.specs.Sound.{AreSound, IsSound, StepFits}
use Rattle.blob_entries.specs.Sources.{each_source, needs, some_source, source_passes, sources_of}
use Rattle.blob_entries.specs.Statuses.{is_broken, is_done, is_pending}
use Rattle.blob_entries.proofs.Numbers.{number_kept}
use Rattle.blob_entries.proofs.Soundness.{at_within, same_or}
use Rattle.blob_registry.specs.declared.work.Work.{Work}
use Rattle.blob_registry.specs.Dependents.{dependents_from, listed_if}
use Rattle.blob_registry.specs.Lists.{list_at, turned, Strikes}
use Rattle.blob_registry.specs.Numbers.{is_among, without_if, AreBelow, IsRising}
use Rattle.blob_registry.specs.Registering.{pushed}
use Rattle.blob_registry.specs.Work.{AreKept, Enters}
use Rattle.blob_registry.proofs.Depending.{depends_alike, depends_below, depends_pushed, depends_rising, sources_are}
use Rattle.blob_registry.proofs.Numbers.{below_absent, without_pushed}
use Rattle.blob_registry.proofs.Putting.{turned_places}
use Rattle.blob_registry.proofs.Sweeping.{needs_none}

abbrev Entries : Type 0
Entries = List (Option Entry)

-- a source of a sound entry has its number still, and stands there
source_kept : (names : List ℕ) (name : ℕ) (entries : Entries) (number : ℕ) (f g : ℕ → Bool) (d : Bool) (step : Step) → StepFits names entries number step
    → ((s : ℕ) → s < length entries → f s ≡ g s) → source_passes (names ++ name ∷ []) f d step ≡ source_passes names g d step
source_kept names name entries number f g d (Own piece len) fits same = refl
source_kept names name entries number f g d (Fixed view) fits same = refl
source_kept names name entries number f g d (Source n off len) fits same = by (number_of n names) refl fits
  where
    inside : (s : ℕ) (held : Option Entry) → entry_at entries s ≡ held → IsSomeAnd held (λ (entry : Entry). off + len ≤ entry.size) → s < length entries
    inside s None is has = absurd has
    inside s (Some entry) is has = at_within entries s entry is

    by : (source : Option ℕ) → number_of n names ≡ source
        → IsSomeAnd source (λ (s : ℕ). (s < number) × IsSomeAnd (entry_at entries s) (λ (entry : Entry). off + len ≤ entry.size))
        → option_map_or f (number_of n (names ++ name ∷ [])) d ≡ option_map_or g source d
    by None is has = absurd has
    by (Some s) is has = rw (number_kept n names (name ∷ []) s is) (same s (inside s (entry_at entries s) refl has.1))

some_kept : (names : List ℕ) (name : ℕ) (entries : Entries) (number : ℕ) (f g : ℕ → Bool) (steps : List Step)
    → AllByRecursion (StepFits names entries number) steps → ((s : ℕ) → s < length entries → f s ≡ g s)
    → some_source (names ++ name ∷ []) f steps ≡ some_source names g steps
some_kept names name entries number f g [] fits same = refl
some_kept names name entries number f g (step ∷ steps) fits same = rw
    (source_kept names name entries number f g false step fits.0 same, some_kept names name entries number f g steps fits.1 same) refl

each_kept : (names : List ℕ) (name : ℕ) (entries : Entries) (number : ℕ) (f g : ℕ → Bool) (steps : List Step)
    → AllByRecursion (StepFits names entries number) steps → ((s : ℕ) → s < length entries → f s ≡ g s)
    → each_source (names ++ name ∷ []) f steps ≡ each_source names g steps
each_kept names name entries number f g [] fits same = refl
each_kept names name entries number f g (step ∷ steps) fits same = rw
    (source_kept names name entries number f g true step fits.0 same, each_kept names name entries number f g steps fits.1 same) refl

-- it needs what it needed, and ends as it did
pub needs_pushed : (names : List ℕ) (name : ℕ) (entries : Entries) (number n : ℕ) (held : Option Entry) → IfSome held (IsSound names entries number)
    → needs (names ++ name ∷ []) n held ≡ needs names n held
needs_pushed names name entries number n None sound = refl
needs_pushed names name entries number n (Some entry) sound = by (is_pending entry.status) refl
  where
    by : (p : Bool) → is_pending entry.status ≡ p
        → (p && some_source (names ++ name ∷ []) (λ (s : ℕ). nat_eq s n) entry.recipe) ≡ (p && some_source names (λ (s : ℕ). nat_eq s n) entry.recipe)
    by false is = refl
    by true is = some_kept names name entries number (λ (s : ℕ). nat_eq s n) (λ (s : ℕ). nat_eq s n) entry.recipe (sound.steps is) (λ s within. refl)

pub ending_pushed : (names : List ℕ) (name : ℕ) (entries : Entries) (more held : Option Entry) (number : ℕ) → IfSome held (IsSound names entries number)
    → ending_at (names ++ name ∷ []) (entries ++ more ∷ []) held ≡ ending_at names entries held
ending_pushed names name entries more None number sound = refl
ending_pushed names name entries more (Some entry) number sound = by (is_pending entry.status) refl
  where
    stays : (s : ℕ) → s < length entries → entry_at (entries ++ more ∷ []) s ≡ entry_at entries s
    stays s within = get_or_append_left entries (more ∷ []) None s within

    by : (p : Bool) → is_pending entry.status ≡ p
        → cond p (marked_end entry.mark (source_end (names ++ name ∷ []) (entries ++ more ∷ []) entry)) None ≡ cond p
        (marked_end entry.mark (source_end names entries entry)) None
    by false is = refl
    by true is =
        let broken = some_kept names name entries number (is_broken_at (entries ++ more ∷ [])) (is_broken_at entries) entry.recipe (sound.steps is)
        (λ s within. ap (λ (h : Option Entry). option_map_or (λ (e : Entry). is_broken e.status) h false) (stays s within)) in
        let done = each_kept names name entries number (is_done_at (entries ++ more ∷ [])) (is_done_at entries) entry.recipe (sound.steps is)
        (λ s within. ap (λ (h : Option Entry). option_map_or (λ (e : Entry). is_done e.status) h false) (stays s within)) in
        ap (marked_end entry.mark) (rw (broken, done) refl)

-- the sources of the new entry are those that it needs, all of them before it
new_among : (names : List ℕ) (k : ℕ) (entry : Entry) → (is_pending entry.status ≡ false → entry.recipe ≡ [])
    → is_among k (sources_of names entry.recipe) ≡ needs names k (Some entry)
new_among names k entry bare = sources_are names k entry.recipe ∙ needed (is_pending entry.status) refl
  where
    needed : (p : Bool) → is_pending entry.status ≡ p
        → some_source names (λ (source : ℕ). nat_eq source k) entry.recipe ≡ (p && some_source names (λ (source : ℕ). nat_eq source k) entry.recipe)
    needed true pending = refl
    needed false apart = rw (bare apart) refl

pub new_below : (names : List ℕ) (entries : Entries) (entry : Entry) → IsSound names entries (length entries) entry
    → (is_pending entry.status ≡ false → entry.recipe ≡ []) → AreBelow (length entries) (sources_of names entry.recipe)
new_below names entries entry sound bare n among = pick (nat_lt n (length entries)) refl
  where
    pick : (b : Bool) → nat_lt n (length entries) ≡ b → n < length entries
    pick true below = grind (arith, nat_tests)
    pick false not_below =
        let none : needs names n (Some entry) ≡ false = needs_none names entries (length entries) n (Some entry) sound (grind (arith, nat_tests)) in
        let is : needs names n (Some entry) ≡ true = sym (new_among names n entry bare) ∙ among in absurd (cc)

-- the lists of those whom the new entry needs
entered_exact : (now : Book) (name : ℕ) (entry : Entry) (lists next : List (List ℕ)) (sources : List ℕ) → AreSound now.names now.entries
    → IsSound now.names now.entries (length now.entries) entry
    → sources ≡ sources_of now.names entry.recipe → (is_pending entry.status ≡ false → entry.recipe ≡ [])
    → ((k : ℕ) → list_at lists k ≡ dependents_from now.names k 0 now.entries)
    → ((k : ℕ) → list_at next k ≡ list_at lists k ++ listed_if (is_among k sources) (length now.entries))
    → (k : ℕ) → list_at next k ≡ dependents_from (now.names ++ name ∷ []) k 0 (now.entries ++ Some entry ∷ [])
entered_exact now name entry lists next sources are sound is bare exact entered k =
    entered k ∙ ap (λ (list : List ℕ). list ++ listed_if (is_among k sources) (length now.entries)) (exact k)
    ∙ ap (λ (b : Bool). dependents_from now.names k 0 now.entries ++ listed_if b (length now.entries)) among
    ∙ ap (λ (list : List ℕ). list ++ listed_if (needs more k (Some entry)) (length now.entries))
    (sym (depends_alike now.names more k 0 now.entries (λ j. needs_pushed now.names name now.entries j k (entry_at now.entries j) (are.each j))))
    ∙ ap (λ (n : ℕ). dependents_from more k 0 now.entries ++ listed_if (needs more k (Some entry)) n) here
    ∙ sym (depends_pushed more k 0 now.entries (Some entry))
  where
    more : List ℕ
    more = now.names ++ name ∷ []

    here : length now.entries ≡ 0 + length now.entries
    here = omega arith

    among : is_among k sources ≡ needs more k (Some entry)
    among = ap (is_among k) is ∙ new_among now.names k entry bare ∙ sym (needs_pushed now.names name now.entries (length now.entries) k (Some entry) sound)

-- the new entry is looked at and weighed
pub kept_pushed : (now : Book) (name : ℕ) (entry : Entry) (work mid : Work) (sources : List ℕ) → AreSound now.names now.entries
    → IsSound now.names now.entries (length now.entries) entry
    → sources ≡ sources_of now.names entry.recipe → (is_pending entry.status ≡ false → entry.recipe ≡ []) → AreKept now work
    → length now.entries < MOST_BLOBS → Enters work mid (length now.entries) sources
    → AreKept (pushed now name entry) (record mid { looks = set mid.looks (length now.entries) 0; weighs = set mid.weighs (turned (length now.entries)) 0 })
kept_pushed now name entry work mid sources are sound is bare kept few enters = record {
  few = omega (arith, few, length_push now.entries (Some entry));
  looks = length-set mid.looks number 0 ∙ ap length enters.looks ∙ kept.looks;
  looked = λ k some. same_or k number
      (λ equal. absurd (some (ap (slice_index (set mid.looks number 0)) equal
      ∙ get_or-set_same mid.looks number 0 0 (omega (arith, few, kept.looks, ap length enters.looks)))))
      (λ apart. rw (elsewhere k apart) (ending_pushed now.names name now.entries (Some entry) (entry_at now.entries k) k (are.each k)
      ∙ kept.looked k (λ none. some (get_or-set_other mid.looks number k 0 0 apart ∙ ap (λ (list : List ℕ). slice_index list k) enters.looks ∙ none))));
  weighs = length-set mid.weighs (turned number) 0 ∙ ap length enters.weighs ∙ kept.weighs;
  fine = λ k within some. same_or k number
      (λ equal. absurd (some (ap (λ (n : ℕ). slice_index (set mid.weighs (turned number) 0) (turned n)) equal
      ∙ get_or-set_same mid.weighs (turned number) 0 0 (omega (arith, (turned_places number few).0, kept.weighs, ap length enters.weighs)))))
      (λ apart. rw (elsewhere k apart) (fine_more (is_rooted (entry_at now.entries k)) (is_needed now.names k now.entries)
      (is_needed more k (now.entries ++ Some entry ∷ [])) (is_needed more k (Some entry ∷ [])) (entry_at now.entries k) (needed k)
      (kept.fine k within (λ none. some (get_or-set_other mid.weighs (turned number) (turned k) 0 0 ((turned_places number few).1 k within apart)
      ∙ ap (λ (list : List ℕ). slice_index list (turned k)) enters.weighs ∙ none)))));
  past = λ k behind within none. kept.past k (omega (arith, behind, length_push now.entries (Some entry))) within
      (sym (ap (λ (list : List ℕ). slice_index list (turned k)) enters.weighs)
      ∙ sym (get_or-set_other mid.weighs (turned number) (turned k) 0 0
      ((turned_places number few).1 k within (λ equal. omega (arith, equal, behind, length_push now.entries (Some entry))))) ∙ none);
  long = omega (arith, enters.long, length_push now.entries (Some entry));
  exact = entered_exact now name entry work.dependents.items mid.dependents.items sources are sound is bare kept.exact enters.entered;
}
  where
    number : ℕ
    number = length now.entries

    more : List ℕ
    more = now.names ++ name ∷ []

    elsewhere : (k : ℕ) → k ≢ number → entry_at (now.entries ++ Some entry ∷ []) k ≡ entry_at now.entries k
    elsewhere k apart = pick (nat_lt k number) refl
      where
        pick : (b : Bool) → nat_lt k number ≡ b → entry_at (now.entries ++ Some entry ∷ []) k ≡ entry_at now.entries k
        pick true below = get_or_append_left now.entries (Some entry ∷ []) None k (grind (arith, nat_tests))
        pick false not_below =
            let behind : number ≤ k = grind (arith, nat_tests) in
            get_or_past (now.entries ++ Some entry ∷ []) k None (omega (arith, length_push now.entries (Some entry), apart, behind))
            ∙ sym (get_or_past now.entries k None behind)

    any_alike : (k : ℕ) (entries : Entries) → ((j : ℕ) → needs more k (entry_at entries j) ≡ needs now.names k (entry_at entries j))
        → list_any (needs more k) entries ≡ list_any (needs now.names k) entries
    any_alike k [] same = refl
    any_alike k (held ∷ entries) same = rw (same 0, any_alike k entries (λ j. same (suc j))) refl

    needed : (k : ℕ) → is_needed more k (now.entries ++ Some entry ∷ []) ≡ (is_needed now.names k now.entries || is_needed more k (Some entry ∷ []))
    needed k = list_any-append (needs more k) now.entries (Some entry ∷ [])
        ∙ ap (λ (b : Bool). b || is_needed more k (Some entry ∷ []))
        (any_alike k now.entries (λ j. needs_pushed now.names name now.entries j k (entry_at now.entries j) (are.each j)))

    fine_more : (r n m o : Bool) (held : Option Entry) → m ≡ (n || o) → left (r || n) held ≡ held → left (r || m) held ≡ held
    fine_more r n m o None is fine = nothing (r || m)
      where
        nothing : (b : Bool) → left b None ≡ None
        nothing true = refl
        nothing false = refl
    fine_more true n m o (Some entry) is fine = fine
    fine_more false true m o (Some entry) is fine = rw is fine
    fine_more false false m o (Some entry) is fine = absurd (cc)

-- the lists as they were
pub kept_withdrawn : (now : Book) (work mid next : Work) (sources : List ℕ) → AreKept now work → Enters work mid (length now.entries) sources
    → next.looks ≡ mid.looks → next.weighs ≡ mid.weighs
    → Strikes mid.dependents.items next.dependents.items (length now.entries) sources → AreKept now next
kept_withdrawn now work mid next sources kept enters looks weighs strikes = record {
  few = kept.few;
  looks = rw (looks, enters.looks) kept.looks;
  looked = rw (looks, enters.looks) kept.looked;
  weighs = rw (weighs, enters.weighs) kept.weighs;
  fine = rw (weighs, enters.weighs) kept.fine;
  past = rw (weighs, enters.weighs) kept.past;
  long = omega (arith, enters.long, strikes.long);
  exact = λ k. strikes.struck k ∙ ap (without_if (is_among k sources) (length now.entries)) (enters.entered k)
      ∙ back (is_among k sources) (list_at work.dependents.items k) (absent k) ∙ kept.exact k;
}
  where
    absent : (k : ℕ) → is_among (length now.entries) (list_at work.dependents.items k) ≡ false
    absent k = below_absent (length now.entries) (list_at work.dependents.items k)
        (λ n among. let below = depends_below now.names k 0 n now.entries (subst (λ (list : List ℕ). is_among n list ≡ true) (kept.exact k) among) in omega
        (arith, below))

    back : (b : Bool) (list : List ℕ) → is_among (length now.entries) list ≡ false
        → without_if b (length now.entries) (list ++ listed_if b (length now.entries)) ≡ list
    back true list none = without_pushed (length now.entries) list none
    back false list none = append-nil list

-- the lists rise, and have numbers of entries alone
pub kept_rising : (now : Book) (work : Work) → AreKept now work → (other : ℕ) → IsRising (list_at work.dependents.items other)
kept_rising now work kept other = rw (kept.exact other) (depends_rising now.names other 0 now.entries)

pub kept_below : (now : Book) (work : Work) → AreKept now work → (other : ℕ) → AreBelow (length now.entries) (list_at work.dependents.items other)
kept_below now work kept other n among =
    let below = depends_below now.names other 0 n now.entries (subst (λ (list : List ℕ). is_among n list ≡ true) (kept.exact other) among) in omega
    (arith, below)
