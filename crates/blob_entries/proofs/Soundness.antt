-- What is kept of the entries, as they change.
use Rattle.std.proofs.Common.{◌≡◌, ◌≢◌, ℕ, ◌+◌, ◌<◌, ◌≤◌, Bool, true, false, ◌||◌, List, [], ◌∷◌, ◌++◌, Option, Some, None, length, get_or, set}
use Rattle.std.proofs.Common.{nat_eq, nat_lt, refl, sym, ap, ◌∙◌, subst, arith, get_or-set_same, get_or-set_other, length-set}
use Rattle.std.specs.Prelude.{IfSome, IsSomeAnd}
use Rattle.std.specs.Option.{option_map, option_map_or}
use Rattle.std.specs.List.{AllByRecursion}
use Rattle.std.proofs.lemmas.Bool.{eqb-true}
use Rattle.std.proofs.lemmas.List.{get_or_append_left, get_or_past, get_or_push, length_push, set-get_or}
use Rattle.std.proofs.lemmas.Bool.Decides.{nat_tests}
use Rattle.blob_entries.specs.declared.entry.Entry.{Entry}
use Rattle.blob_entries.specs.declared.step.Step.{Step}
use Rattle.blob_entries.specs.declared.step.Step.TheVariants.{Own, Fixed, Source}
use Rattle.blob_words.specs.declared.status.Status.{Status}
use Rattle.blob_words.specs.declared.status.Status.TheVariants.{Done, FileWriteFailed}
use Rattle.blob_entries.proofs.Numbers.{number_kept}
use Rattle.blob_entries.specs.Book.{entry_at}
use Rattle.blob_entries.specs.Changes.{first_mark}
use Rattle.blob_entries.specs.Names.{number_of}
use Rattle.blob_entries.specs.Sound.{AreOwn, AreSound, IsBreaking, IsSound, StepFits}
use Rattle.blob_entries.specs.Sources.{needs, some_source, source_passes}
use Rattle.blob_entries.specs.Statuses.{is_broken, is_done, is_pending}

abbrev Entries : Type 0
Entries = List (Option Entry)

pub at_same : (entries : Entries) (number : ℕ) (held : Option Entry) → number < length entries → entry_at (set entries number held) number ≡ held
at_same entries number held within = get_or-set_same entries number held None within

pub at_other : (entries : Entries) (number other : ℕ) (held : Option Entry) → other ≢ number → entry_at (set entries number held) other ≡ entry_at entries other
at_other entries number other held apart = get_or-set_other entries number other held None apart

-- what stands somewhere has a number in the list
pub at_within : (entries : Entries) (number : ℕ) (entry : Entry) → entry_at entries number ≡ Some entry → number < length entries
at_within entries number entry is = by (nat_lt number (length entries)) refl
  where
    by : (b : Bool) → nat_lt number (length entries) ≡ b → number < length entries
    by true below = grind (arith, nat_tests)
    by false not_below = let past : length entries ≤ number = grind
        (arith, nat_tests) in let none : entry_at entries number ≡ None = get_or_past entries number None past in absurd (cc)

-- cases on whether two numbers are one
pub same_or : {P : Type 0} → (a b : ℕ) → (a ≡ b → P) → (a ≢ b → P) → P
same_or {P} a b same apart = by (nat_eq a b) refl
  where
    by : (r : Bool) → nat_eq a b ≡ r → P
    by true is = same (eqb-true a b is)
    by false is = apart (λ equal. let both : nat_eq a b ≡ true = grind arith in absurd (cc))

-- each entry stays or keeps its size
abbrev pub SizesStay : Entries → Entries → Type 0
SizesStay before after = (number : ℕ) → IfSome (entry_at before number)
    (λ (entry : Entry). IsSomeAnd (entry_at after number) (λ (later : Entry). later.size ≡ entry.size))

pub fits_kept : (names : List ℕ) (before after : Entries) (number : ℕ) (step : Step) → SizesStay before after → StepFits names before number step
    → StepFits names after number step
fits_kept names before after number (Own piece len) sizes fits = fits
fits_kept names before after number (Fixed view) sizes fits = fits
fits_kept names before after number (Source name off len) sizes fits = by (number_of name names) fits
  where
    at : (source : ℕ) (held later : Option Entry) → IfSome held (λ (entry : Entry). IsSomeAnd later (λ (l : Entry). l.size ≡ entry.size))
        → IsSomeAnd held (λ (entry : Entry). off + len ≤ entry.size) → IsSomeAnd later (λ (entry : Entry). off + len ≤ entry.size)
    at source None later stays has = absurd has
    at source (Some entry) None stays has = absurd stays
    at source (Some entry) (Some l) stays has = rw stays has

    by : (source : Option ℕ) → IsSomeAnd source (λ (s : ℕ). (s < number) × IsSomeAnd (entry_at before s) (λ (entry : Entry). off + len ≤ entry.size))
        → IsSomeAnd source (λ (s : ℕ). (s < number) × IsSomeAnd (entry_at after s) (λ (entry : Entry). off + len ≤ entry.size))
    by None has = absurd has
    by (Some s) has = (has.0, at s (entry_at before s) (entry_at after s) (sizes s) has.1)

pub all_fit : (names : List ℕ) (before after : Entries) (number : ℕ) (steps : List Step) → SizesStay before after
    → AllByRecursion (StepFits names before number) steps → AllByRecursion (StepFits names after number) steps
all_fit names before after number [] sizes all = all
all_fit names before after number (step ∷ steps) sizes all =
    (fits_kept names before after number step sizes all.0, all_fit names before after number steps sizes all.1)

pub sound_kept : (names : List ℕ) (before after : Entries) (number : ℕ) (entry : Entry) → SizesStay before after → IsSound names before number entry
    → IsSound names after number entry
sound_kept names before after number entry sizes sound = record {
  steps = λ pending. all_fit names before after number entry.recipe sizes (sound.steps pending);
  size = sound.size;
  fits = sound.fits;
  own = sound.own;
  bare = sound.bare;
  mark = sound.mark;
  made = sound.made;
}

-- one entry is another of its size
pub sizes_set : (entries : Entries) (number : ℕ) (old later : Entry) → entry_at entries number ≡ Some old → later.size ≡ old.size
    → SizesStay entries (set entries number (Some later))
sizes_set entries number old later is same = λ other. same_or other number
    (λ equal. rw (equal, at_same entries number (Some later) (at_within entries number old is), is) same)
    (λ apart. rw (at_other entries number other (Some later) apart) (by (entry_at entries other)))
  where
    by : (held : Option Entry) → IfSome held (λ (entry : Entry). IsSomeAnd held (λ (l : Entry). l.size ≡ entry.size))
    by None = tt
    by (Some entry) = refl

pub sound_set : (names : List ℕ) (entries : Entries) (number : ℕ) (old later : Entry) → AreSound names entries → entry_at entries number ≡ Some old
    → later.size ≡ old.size → IsSound names entries number later
    → AreSound names (set entries number (Some later))
sound_set names entries number old later are is same sound = record {
  sized = are.sized ∙ sym (length-set entries number (Some later));
  each = λ other. same_or other number
      (λ equal. rw (equal, at_same entries number (Some later) (at_within entries number old is))
      (sound_kept names entries (set entries number (Some later)) number later sizes sound))
      (λ apart. rw (at_other entries number other (Some later) apart) (by other (entry_at entries other) (are.each other)));
}
  where
    sizes : SizesStay entries (set entries number (Some later))
    sizes = sizes_set entries number old later is same

    by : (other : ℕ) (held : Option Entry) → IfSome held (IsSound names entries other) → IfSome held (IsSound names (set entries number (Some later)) other)
    by other None sound = tt
    by other (Some entry) sound = sound_kept names entries (set entries number (Some later)) other entry sizes sound

-- a change that leaves what an entry is made of
pub record Leaves (old later : Entry) : Type 0 where
  pub size : later.size ≡ old.size
  pub status : later.status ≡ old.status
  pub recipe : later.recipe ≡ old.recipe
  pub own : later.own ≡ old.own
  pub views : later.views ≡ old.views
  pub mark : IfSome old.mark IsBreaking → IfSome later.mark IsBreaking

pub sound_left : (names : List ℕ) (entries : Entries) (number : ℕ) (old later : Entry) → Leaves old later → IsSound names entries number old
    → IsSound names entries number later
sound_left names entries number old later same sound = record {
  steps = rw (same.status, same.recipe) sound.steps;
  size = rw (same.status, same.recipe, same.size) sound.size;
  fits = rw same.size sound.fits;
  own = rw (same.status, same.recipe, same.own) sound.own;
  bare = rw (same.status, same.views) sound.bare;
  mark = same.mark sound.mark;
  made = rw (same.status, same.views, same.size) sound.made;
}

pub sound_changed : (names : List ℕ) (entries : Entries) (number : ℕ) (change : Entry → Entry) → ((entry : Entry) → Leaves entry (change entry))
    → AreSound names entries → AreSound names (set entries number (option_map change (entry_at entries number)))
sound_changed names entries number change same are = by (entry_at entries number) refl
  where
    at : (entry : Entry) → entry_at entries number ≡ Some entry → IsSound names entries number entry
    at entry is = subst (λ (held : Option Entry). IfSome held (IsSound names entries number)) is (are.each number)

    none : set entries number None ≡ set entries number (get_or entries number None) → set entries number None ≡ entries
    none is = is ∙ set-get_or entries number None

    by : (held : Option Entry) → entry_at entries number ≡ held → AreSound names (set entries number (option_map change held))
    by None is = subst (λ (list : Entries). AreSound names list) (sym (none (ap (λ (h : Option Entry). set entries number h) (sym is)))) are
    by (Some entry) is = sound_set names entries number entry (change entry) are is (same entry).size
        (sound_left names entries number entry (change entry) (same entry) (at entry is))

-- one entry more
pub fits_pushed : (names : List ℕ) (name : ℕ) (entries : Entries) (held : Option Entry) (number : ℕ) (step : Step) → StepFits names entries number step
    → StepFits (names ++ name ∷ []) (entries ++ held ∷ []) number step
fits_pushed names name entries held number (Own piece len) fits = fits
fits_pushed names name entries held number (Fixed view) fits = fits
fits_pushed names name entries held number (Source n off len) fits = by (number_of n names) refl fits
  where
    at : (source : ℕ) (here : Option Entry) → entry_at entries source ≡ here → IsSomeAnd here (λ (entry : Entry). off + len ≤ entry.size)
        → IsSomeAnd (entry_at (entries ++ held ∷ []) source) (λ (entry : Entry). off + len ≤ entry.size)
    at source None is has = absurd has
    at source (Some entry) is has = rw (get_or_append_left entries (held ∷ []) None source (at_within entries source entry is), is) has

    by : (source : Option ℕ) → number_of n names ≡ source
        → IsSomeAnd source (λ (s : ℕ). (s < number) × IsSomeAnd (entry_at entries s) (λ (entry : Entry). off + len ≤ entry.size))
        → IsSomeAnd (number_of n (names ++ name ∷ []))
        (λ (s : ℕ). (s < number) × IsSomeAnd (entry_at (entries ++ held ∷ []) s) (λ (entry : Entry). off + len ≤ entry.size))
    by None is has = absurd has
    by (Some s) is has = rw (number_kept n names (name ∷ []) s is) (has.0, at s (entry_at entries s) refl has.1)

pub all_fit_pushed : (names : List ℕ) (name : ℕ) (entries : Entries) (held : Option Entry) (number : ℕ) (steps : List Step)
    → AllByRecursion (StepFits names entries number) steps → AllByRecursion (StepFits (names ++ name ∷ []) (entries ++ held ∷ []) number) steps
all_fit_pushed names name entries held number [] all = all
all_fit_pushed names name entries held number (step ∷ steps) all =
    (fits_pushed names name entries held number step all.0, all_fit_pushed names name entries held number steps all.1)

pub sound_more : (names : List ℕ) (name : ℕ) (entries : Entries) (held : Option Entry) (number : ℕ) (entry : Entry) → IsSound names entries number entry
    → IsSound (names ++ name ∷ []) (entries ++ held ∷ []) number entry
sound_more names name entries held number entry sound = record {
  steps = λ pending. all_fit_pushed names name entries held number entry.recipe (sound.steps pending);
  size = sound.size;
  fits = sound.fits;
  own = sound.own;
  bare = sound.bare;
  mark = sound.mark;
  made = sound.made;
}

pub sound_pushed : (names : List ℕ) (name : ℕ) (entries : Entries) (entry : Entry) → AreSound names entries → IsSound names entries (length entries) entry
    → AreSound (names ++ name ∷ []) (entries ++ Some entry ∷ [])
sound_pushed names name entries entry are sound = record {
  sized = omega (arith, are.sized, length_push names name, length_push entries (Some entry));
  each = λ number. same_or number (length entries)
      (λ equal. rw (equal, get_or_push entries (Some entry) None (length entries) refl)
      (sound_more names name entries (Some entry) (length entries) entry sound))
      (λ apart. by number (entry_at entries number) refl apart (are.each number));
}
  where
    past : (number : ℕ) → number ≢ length entries → entry_at entries number ≡ None → entry_at (entries ++ Some entry ∷ []) number ≡ None
    past number apart none = pick (nat_lt number (length entries)) refl
      where
        pick : (b : Bool) → nat_lt number (length entries) ≡ b → entry_at (entries ++ Some entry ∷ []) number ≡ None
        pick true below = let within : number < length entries = grind (arith, nat_tests) in rw
            (get_or_append_left entries (Some entry ∷ []) None number within) none
        pick false not_below = let behind : length entries ≤ number = grind (arith, nat_tests) in get_or_past (entries ++ Some entry ∷ []) number None
            (omega (arith, length_push entries (Some entry), apart))

    by : (number : ℕ) (held : Option Entry) → entry_at entries number ≡ held → number ≢ length entries → IfSome held (IsSound names entries number)
        → IfSome (entry_at (entries ++ Some entry ∷ []) number) (IsSound (names ++ name ∷ []) (entries ++ Some entry ∷ []) number)
    by number None is apart sound = rw (past number apart is) tt
    by number (Some old) is apart sound = rw (get_or_append_left entries (Some entry ∷ []) None number (at_within entries number old is), is)
        (sound_more names name entries (Some entry) number old sound)

-- an entry that nobody needs goes
fits_gone : (names : List ℕ) (entries : Entries) (gone number : ℕ) (step : Step)
    → source_passes names (λ (source : ℕ). nat_eq source gone) false step ≡ false → StepFits names entries number step
    → StepFits names (set entries gone None) number step
fits_gone names entries gone number (Own piece len) apart fits = fits
fits_gone names entries gone number (Fixed view) apart fits = fits
fits_gone names entries gone number (Source name off len) apart fits = by (number_of name names) apart fits
  where
    by : (source : Option ℕ) → option_map_or (λ (s : ℕ). nat_eq s gone) source false ≡ false
        → IsSomeAnd source (λ (s : ℕ). (s < number) × IsSomeAnd (entry_at entries s) (λ (entry : Entry). off + len ≤ entry.size))
        → IsSomeAnd source (λ (s : ℕ). (s < number) × IsSomeAnd (entry_at (set entries gone None) s) (λ (entry : Entry). off + len ≤ entry.size))
    by None differs has = absurd has
    by (Some s) differs has = let other : s ≢ gone = λ equal. let same : nat_eq s gone ≡ true = grind arith in absurd (cc) in
        (has.0, rw (at_other entries gone s None other) has.1)

all_fit_gone : (names : List ℕ) (entries : Entries) (gone number : ℕ) (steps : List Step)
    → some_source names (λ (source : ℕ). nat_eq source gone) steps ≡ false → AllByRecursion (StepFits names entries number) steps
    → AllByRecursion (StepFits names (set entries gone None) number) steps
all_fit_gone names entries gone number [] apart all = all
all_fit_gone names entries gone number (step ∷ steps) apart all =
    let parts = split (source_passes names (λ (source : ℕ). nat_eq source gone) false step)
    (some_source names (λ (source : ℕ). nat_eq source gone) steps) apart in
    (fits_gone names entries gone number step parts.0 all.0, all_fit_gone names entries gone number steps parts.1 all.1)
  where
    split : (a b : Bool) → (a || b) ≡ false → (a ≡ false) × (b ≡ false)
    split false b is = (refl, is)
    split true b is = absurd (cc)

pub sound_gone : (names : List ℕ) (entries : Entries) (gone : ℕ) → AreSound names entries
    → ((other : ℕ) → needs names gone (entry_at entries other) ≡ false) → AreSound names (set entries gone None)
sound_gone names entries gone are unneeded = record {
  sized = are.sized ∙ sym (length-set entries gone None);
  each = λ other. same_or other gone
      (λ equal. rw (equal, nothing) tt)
      (λ apart. rw (at_other entries gone other None apart) (by other (entry_at entries other) (unneeded other) (are.each other)));
}
  where
    nothing : entry_at (set entries gone None) gone ≡ None
    nothing = pick (nat_lt gone (length entries)) refl
      where
        pick : (b : Bool) → nat_lt gone (length entries) ≡ b → entry_at (set entries gone None) gone ≡ None
        pick true below = at_same entries gone None (grind (arith, nat_tests))
        pick false not_below = let behind : length entries ≤ gone = grind (arith, nat_tests) in get_or_past (set entries gone None) gone None
            (omega (arith, length-set entries gone None))

    by : (other : ℕ) (held : Option Entry) → needs names gone held ≡ false → IfSome held (IsSound names entries other)
        → IfSome held (IsSound names (set entries gone None) other)
    by other None apart sound = tt
    by other (Some entry) apart sound = record {
      steps = λ pending. all_fit_gone names entries gone other entry.recipe (sources pending) (sound.steps pending);
      size = sound.size;
      fits = sound.fits;
      own = sound.own;
      bare = sound.bare;
      mark = sound.mark;
      made = sound.made;
    }
      where
        sources : is_pending entry.status ≡ true → some_source names (λ (source : ℕ). nat_eq source gone) entry.recipe ≡ false
        sources pending = rw pending at apart

-- the first of two marks breaks
pub first_breaks : (before : Option Status) (why : Status) → is_broken why ≡ true → is_broken (first_mark before why) ≡ true
first_breaks None why breaks = breaks
first_breaks (Some FileWriteFailed) why breaks = refl
first_breaks (Some status) why breaks = breaks

-- an unfinished entry that stays unfinished and keeps its recipe
pub record Stays (old later : Entry) : Type 0 where
  pub was : is_pending old.status ≡ true
  pub is : is_pending later.status ≡ true
  pub size : later.size ≡ old.size
  pub recipe : later.recipe ≡ old.recipe
  pub views : later.views ≡ old.views
  pub mark : later.mark ≡ old.mark
  pub own : IfSome old.own (AreOwn old.recipe) → IfSome later.own (AreOwn old.recipe)

pending_apart : (status : Status) → is_pending status ≡ true → is_done status ≡ false
pending_apart Done is = absurd (cc)
pending_apart status is = refl

sound_stays : (names : List ℕ) (entries : Entries) (number : ℕ) (old later : Entry) → Stays old later → IsSound names entries number old
    → IsSound names entries number later
sound_stays names entries number old later stays sound = record {
  steps = λ pending. rw stays.recipe (sound.steps stays.was);
  size = λ pending. rw (stays.recipe, stays.size) (sound.size stays.was);
  fits = rw stays.size sound.fits;
  own = λ pending. rw stays.recipe (stays.own (sound.own stays.was));
  bare = λ pending. rw stays.views (sound.bare stays.was);
  mark = rw stays.mark sound.mark;
  made = λ done. let apart : is_done later.status ≡ false = pending_apart later.status stays.is in absurd (cc);
}

pub sound_stayed : (names : List ℕ) (entries : Entries) (number : ℕ) (change : Entry → Entry)
    → IsSomeAnd (entry_at entries number) (λ (entry : Entry). Stays entry (change entry)) → AreSound names entries
    → AreSound names (set entries number (option_map change (entry_at entries number)))
sound_stayed names entries number change stays are = by (entry_at entries number) refl stays
  where
    by : (held : Option Entry) → entry_at entries number ≡ held → IsSomeAnd held (λ (entry : Entry). Stays entry (change entry))
        → AreSound names (set entries number (option_map change held))
    by None is some = absurd some
    by (Some entry) is some = sound_set names entries number entry (change entry) are is some.size
        (sound_stays names entries number entry (change entry) some
        (subst (λ (held : Option Entry). IfSome held (IsSound names entries number)) is (are.each number)))

-- what holds of an entry holds of what follows from it
pub some_then : (held : Option Entry) (P Q : Entry → Type 0) → ((entry : Entry) → P entry → Q entry) → IsSomeAnd held P → IsSomeAnd held Q
some_then None P Q then some = absurd some
some_then (Some entry) P Q then some = then entry some
