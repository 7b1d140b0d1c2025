-- When an ending stays what it was.
use Rattle.std.proofs.Common.{◌≡◌, ◌≢◌, ℕ, ◌<◌, Bool, true, false, cond, List, [], ◌∷◌, Option, Some, None, length, set, nat_eq}
use Rattle.std.proofs.Common.{refl, sym, ap, ◌∙◌, subst, arith}
use Rattle.std.specs.Prelude.{IfSome}
use Rattle.std.specs.Option.{option_map_or}
use Rattle.std.specs.List.{AllByRecursion}
use Rattle.blob_words.specs.declared.status.Status.{Status}
use Rattle.blob_entries.specs.declared.entry.Entry.{Entry}
use Rattle.blob_entries.specs.declared.step.Step.{Step}
use Rattle.blob_entries.specs.Book.{Book, entry_at, is_broken_at, is_done_at}
use Rattle.blob_entries.specs.Endings.{ending, ending_at, LooksAt}
use Rattle.blob_entries.specs.Leaving.{left}
use Rattle.blob_entries.specs.Sound.{AreSound, IsSound}
use Rattle.blob_entries.specs.Sources.{each_source, needs, some_source, source_passes, step_source}
use Rattle.blob_entries.specs.Statuses.{is_broken, is_done, is_pending}
use Rattle.blob_entries.proofs.Finishing.{broken_apart}
use Rattle.blob_entries.proofs.Soundness.{at_other, at_same, same_or}
use Rattle.blob_registry.proofs.Numbers.{split_or}
use Rattle.blob_registry.proofs.Passing.{ending_same, ends_apart, status_after, status_of, SameSource}

abbrev Entries : Type 0
Entries = List (Option Entry)

-- it depends on which entries are broken and which are done
some_alike : (names : List ℕ) (f g : ℕ → Bool) (steps : List Step) → ((k : ℕ) → f k ≡ g k) → some_source names f steps ≡ some_source names g steps
some_alike names f g [] same = refl
some_alike names f g (step ∷ steps) same = rw (by (step_source names step), some_alike names f g steps same) refl
  where
    by : (source : Option ℕ) → option_map_or f source false ≡ option_map_or g source false
    by None = refl
    by (Some s) = same s

each_alike : (names : List ℕ) (f g : ℕ → Bool) (steps : List Step) → ((k : ℕ) → f k ≡ g k) → each_source names f steps ≡ each_source names g steps
each_alike names f g [] same = refl
each_alike names f g (step ∷ steps) same = rw (by (step_source names step), each_alike names f g steps same) refl
  where
    by : (source : Option ℕ) → option_map_or f source true ≡ option_map_or g source true
    by None = refl
    by (Some s) = same s

-- entries of which the same are broken and the same are done
pub record AreAlike (one other : Entries) : Type 0 where
  pub broken : (k : ℕ) → is_broken_at one k ≡ is_broken_at other k
  pub done : (k : ℕ) → is_done_at one k ≡ is_done_at other k

pub ending_alike : (names : List ℕ) (one other : Entries) (held : Option Entry) → AreAlike one other → ending_at names one held ≡ ending_at names other held
ending_alike names one other None same = refl
ending_alike names one other (Some entry) same =
    rw (
      some_alike names (is_broken_at one) (is_broken_at other) entry.recipe same.broken,
      each_alike names (is_done_at one)
          (is_done_at other) entry.recipe same.done,
    ) refl

-- an entry that doesn't need another ends as it did, whatever becomes of that one
unneeded_sources : (names : List ℕ) (entries : Entries) (number : ℕ) (after : Option Entry) (steps : List Step)
    → some_source names (λ (source : ℕ). nat_eq source number) steps ≡ false
    → AllByRecursion (SameSource names (set entries number after) entries) steps
unneeded_sources names entries number after [] apart = tt
unneeded_sources names entries number after (step ∷ steps) apart =
    let parts = split_or (source_passes names (λ (source : ℕ). nat_eq source number) false step)
    (some_source names (λ (source : ℕ). nat_eq source number) steps) apart in
    (by (step_source names step) parts.0, unneeded_sources names entries number after steps parts.1)
  where
    by : (source : Option ℕ) → option_map_or (λ (s : ℕ). nat_eq s number) source false ≡ false
        → IfSome source (λ (s : ℕ). status_of (entry_at (set entries number after) s) ≡ status_of (entry_at entries s))
    by None differs = tt
    by (Some s) differs = let other : s ≢ number = λ equal. let same : nat_eq s number ≡ true = grind (arith, equal) in absurd (cc) in ap status_of
        (at_other entries number s after other)

pub ending_unneeded : (names : List ℕ) (entries : Entries) (number : ℕ) (after held : Option Entry) → needs names number held ≡ false
    → ending_at names (set entries number after) held ≡ ending_at names entries held
ending_unneeded names entries number after None apart = refl
ending_unneeded names entries number after (Some entry) apart =
    ending_same names (set entries number after) entries entry (λ pending. unneeded_sources names entries number after entry.recipe (rw pending at apart))

-- one that ended needs nobody and does not end
pub ended_apart : (now later : Book) (number : ℕ) (status : Status) → AreSound now.names now.entries → LooksAt now later number (Some status)
    → IfSome (entry_at later.entries number) (λ (entry : Entry). is_pending entry.status ≡ false)
ended_apart now later number status are looks =
    by (entry_at now.entries number) (entry_at later.entries number) (are.each number) looks.end
    (status_after now.names now.entries (entry_at now.entries number) (entry_at later.entries number) status looks.end looks.entry)
  where
    by : (held after : Option Entry) → IfSome held (IsSound now.names now.entries number) → Some status ≡ ending_at now.names now.entries held
        → status_of after ≡ Some status
        → IfSome after (λ (entry : Entry). is_pending entry.status ≡ false)
    by None after sound ends is = absurd (cc)
    by (Some entry) None sound ends is = tt
    by (Some entry) (Some a) sound ends is = let same : a.status ≡ status = cc in rw same (ends_apart now.names now.entries entry status sound.mark (sym ends))

pub apart_ending : (names : List ℕ) (entries : Entries) (held : Option Entry) → IfSome held (λ (entry : Entry). is_pending entry.status ≡ false)
    → ending_at names entries held ≡ None
apart_ending names entries None apart = refl
apart_ending names entries (Some entry) apart = rw apart refl

pub apart_needs : (names : List ℕ) (number : ℕ) (held : Option Entry) → IfSome held (λ (entry : Entry). is_pending entry.status ≡ false)
    → needs names number held ≡ false
apart_needs names number None apart = refl
apart_needs names number (Some entry) apart = rw apart refl

-- an entry that was left, or went, and others that don't end
shed_broken : (held : Option Entry) → option_map_or (λ (entry : Entry). is_broken entry.status) (left true held) false ≡ option_map_or
    (λ (entry : Entry). is_broken entry.status) held false
shed_broken None = refl
shed_broken (Some entry) = by (is_broken entry.status)
  where
    by : (b : Bool) → is_broken (cond b (record entry { recipe = []; own = None; views = [] }) entry).status ≡ is_broken entry.status
    by false = refl
    by true = refl

shed_done : (held : Option Entry) → option_map_or (λ (entry : Entry). is_done entry.status) (left true held) false ≡ option_map_or
    (λ (entry : Entry). is_done entry.status) held false
shed_done None = refl
shed_done (Some entry) = by (is_broken entry.status)
  where
    by : (b : Bool) → is_done (cond b (record entry { recipe = []; own = None; views = [] }) entry).status ≡ is_done entry.status
    by false = refl
    by true = refl

shed_ending : (names : List ℕ) (entries : Entries) (held : Option Entry) → ending_at names entries held ≡ None → ending_at names entries (left true held) ≡ None
shed_ending names entries None none = refl
shed_ending names entries (Some entry) none = by (is_broken entry.status) refl
  where
    by : (b : Bool) → is_broken entry.status ≡ b → ending names entries (cond b (record entry { recipe = []; own = None; views = [] }) entry) ≡ None
    by false is = none
    by true is = let apart = broken_apart entry.status is in rw (apart.0) refl

pub ending_left : (names : List ℕ) (entries : Entries) (number : ℕ) (lives : Bool) → number < length entries
    → (lives ≡ false → (other : ℕ) → needs names number (entry_at entries other) ≡ false)
    → (k : ℕ) → ending_at names entries (entry_at entries k) ≡ None
    → ending_at names (set entries number (left lives (entry_at entries number)))
    (entry_at (set entries number (left lives (entry_at entries number))) k) ≡ None
ending_left names entries number false inside free k none = same_or k number
    (λ equal. rw (equal, at_same entries number None inside) refl)
    (λ apart. rw (at_other entries number k None apart) (ending_unneeded names entries number None (entry_at entries k) (free refl k) ∙ none))
ending_left names entries number true inside free k none =
    ending_alike names (set entries number shed_one) entries (entry_at (set entries number shed_one) k) alike ∙ same_or k number
    (λ equal. rw (equal, here) (shed_ending names entries (entry_at entries number)
    (subst (λ (n : ℕ). ending_at names entries (entry_at entries n) ≡ None) equal none)))
    (λ apart. rw (at_other entries number k shed_one apart) none)
  where
    shed_one : Option Entry
    shed_one = left true (entry_at entries number)

    here : entry_at (set entries number shed_one) number ≡ shed_one
    here = at_same entries number shed_one inside

    alike : AreAlike (set entries number shed_one) entries
    alike = record {
      broken = λ j. same_or j number
          (λ equal. rw (equal, here) (shed_broken (entry_at entries number)))
          (λ apart. ap (λ (h : Option Entry). option_map_or (λ (e : Entry). is_broken e.status) h false) (at_other entries number j shed_one apart));
      done = λ j. same_or j number
          (λ equal. rw (equal, here) (shed_done (entry_at entries number)))
          (λ apart. ap (λ (h : Option Entry). option_map_or (λ (e : Entry). is_done e.status) h false) (at_other entries number j shed_one apart));
    }
