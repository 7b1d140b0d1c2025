-- An entry that agrees with its blob needs whom the blob needs.
use Rattle.std.proofs.Common.{◌≡◌, ℕ, ◌+◌, ◌<◌, ◌≤◌, ◌==◌, Bool, true, false, cond, ◌&&◌, ◌||◌, List, [], ◌∷◌, refl, ap, subst, sym, ◌∙◌, Option, Some, None}
use Rattle.std.specs.Prelude.{IfSome, IsSomeAnd, is_none}
use Rattle.std.specs.Option.{option_map_or}
use Rattle.std.specs.List.{AllByRecursion, list_any}
use Rattle.std.proofs.lemmas.Bool.{eq-eqb, eqb-true, eqb-false, ne_eqb}
use Rattle.blob_words.specs.declared.status.Status.{Status}
use Rattle.blob_entries.specs.Book.{entry_at}
use Rattle.blob_entries.specs.Names.{number_of}
use Rattle.blob_entries.specs.Sound.{IsSound, StepFits}
use Rattle.blob_entries.specs.Sources.{needs, some_source}
use Rattle.blob_entries.specs.Statuses.{is_pending}
use Rattle.blob_entries.specs.declared.entry.Entry.{Entry}
use Rattle.blob_entries.specs.declared.step.Step.{Step}
use Rattle.blob_entries.specs.declared.step.Step.TheVariants.{Fixed, Own, Source}
use Rattle.blob_model.specs.Builds.{Build}
use Rattle.blob_model.specs.History.{History}
use Rattle.blob_model.specs.Live.{has_source}
use Rattle.blob_model.specs.Standing.{is_unfinished}
use Rattle.registry_laws.specs.Agree.{IsEntryOf, source_names, told}
use Rattle.registry_laws.proofs.Places.{same_name}

-- ---- statuses

told_pending : (status : Status) → is_none (told status) ≡ is_pending status
told_pending status = by (is_pending status)
  where
    by : (b : Bool) → is_none (cond {A = Option Status} b None (Some status)) ≡ b
    by true = refl
    by false = refl

pub pending_so : (page : ℕ) (h : History) (build : Build) (entry : Entry) → IsEntryOf page h build entry → is_pending entry.status ≡ is_unfinished h build.name
pending_so page h build entry agree = sym (told_pending entry.status) ∙ ap (λ (o : Option Status). is_none o) agree.status

-- ---- sources

steps_same : (names : List ℕ) (name number : ℕ) → number_of name names ≡ Some number → (steps : List Step)
    → some_source names (λ (source : ℕ). source == number) steps ≡ list_any (λ (source : ℕ). source == name) (source_names steps)
steps_same names name number at [] = refl
steps_same names name number at (Own piece len ∷ steps) = steps_same names name number at steps
steps_same names name number at (Fixed view ∷ steps) = steps_same names name number at steps
steps_same names name number at (Source other off len ∷ steps) =
    ap (λ (b : Bool). b || some_source names (λ (source : ℕ). source == number) steps) (one (number_of other names) refl)
    ∙ ap (λ (b : Bool). (other == name) || b) (steps_same names name number at steps)
  where
    apart : (m : ℕ) → number_of other names ≡ Some m → (m == number) ≡ false → (other == name) ≡ false
    apart m is differ = ne_eqb other name
        (λ same.
        let found : number_of name names ≡ Some m = subst (λ (n : ℕ). number_of n names ≡ Some m) same is in
        let equal : m ≡ number = cc in
        eqb-false m number differ equal)

    one : (o : Option ℕ) → number_of other names ≡ o → option_map_or (λ (source : ℕ). source == number) o false ≡ (other == name)
    one None is = sym (ne_eqb other name (λ same. let found : number_of name names ≡ None = subst (λ (n : ℕ). number_of n names ≡ None) same is in cc))
    one (Some m) is = by (m == number) refl
      where
        by : (b : Bool) → (m == number) ≡ b → b ≡ (other == name)
        by true e = sym (eq-eqb other name (same_name names other name number (is ∙ ap (λ (n : ℕ). Some n) (eqb-true m number e)) at))
        by false e = sym (apart m is e)

pub needs_same : (page : ℕ) (h : History) (names : List ℕ) (build : Build) (entry : Entry) (name number : ℕ) → IsEntryOf page h build entry
    → number_of name names ≡ Some number
    → needs names number (Some entry) ≡ (is_unfinished h build.name && has_source build name)
needs_same page h names build entry name number agree at =
    by (is_pending entry.status) refl ∙ ap (λ (b : Bool). b && has_source build name) (pending_so page h build entry agree)
  where
    by : (b : Bool) → is_pending entry.status ≡ b → (b && some_source names (λ (source : ℕ). source == number) entry.recipe) ≡ (b && has_source build name)
    by false is = refl
    by true is = steps_same names name number at entry.recipe ∙ ap (λ (list : List ℕ). list_any (λ (source : ℕ). source == name) list) (agree.sources is)

-- ---- who went is no source

no_source : (names : List ℕ) (entries : List (Option Entry)) (number gone : ℕ) (steps : List Step) → entry_at entries gone ≡ None
    → AllByRecursion (StepFits names entries number) steps → some_source names (λ (source : ℕ). source == gone) steps ≡ false
no_source names entries number gone [] none fits = refl
no_source names entries number gone (Own piece len ∷ steps) none fits = no_source names entries number gone steps none fits.1
no_source names entries number gone (Fixed view ∷ steps) none fits = no_source names entries number gone steps none fits.1
no_source names entries number gone (Source name off len ∷ steps) none fits =
    ap (λ (b : Bool). b || some_source names (λ (source : ℕ). source == gone) steps) (by (number_of name names) fits.0)
    ∙ no_source names entries number gone steps none fits.1
  where
    by : (source : Option ℕ) → IsSomeAnd source (λ (s : ℕ). (s < number) × IsSomeAnd (entry_at entries s) (λ (entry : Entry). off + len ≤ entry.size))
        → option_map_or (λ (s : ℕ). s == gone) source false ≡ false
    by None has = refl
    by (Some s) has = ne_eqb s gone
        (λ same. subst (λ (held : Option Entry). IsSomeAnd held (λ (entry : Entry). off + len ≤ entry.size)) (ap (entry_at entries) same ∙ none) has.1)

pub gone_unneeded : (names : List ℕ) (entries : List (Option Entry)) (number gone : ℕ) (held : Option Entry) → entry_at entries gone ≡ None
    → IfSome held (IsSound names entries number)
    → needs names gone held ≡ false
gone_unneeded names entries number gone None none sound = refl
gone_unneeded names entries number gone (Some entry) none sound = by (is_pending entry.status) refl
  where
    by : (b : Bool) → is_pending entry.status ≡ b → (b && some_source names (λ (source : ℕ). source == gone) entry.recipe) ≡ false
    by false is = refl
    by true is = no_source names entries number gone entry.recipe none (sound.steps is)
