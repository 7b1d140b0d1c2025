-- What the sweep leaves are the live blobs.
use Rattle.std.proofs.Common.{◌≡◌, ℕ, suc, ◌+◌, Bool, true, false, cond, ◌&&◌, ◌||◌, List, []}
use Rattle.std.proofs.Common.{◌∷◌, ◌++◌, reverse, refl, ap, subst, sym, ◌∙◌, Option, Some, None, arith}
use Rattle.std.specs.Prelude.{IfSome}
use Rattle.std.proofs.lemmas.Bool.{or_from}
use Rattle.std.proofs.lemmas.List.{reverse-append}
use Rattle.blob_entries.specs.Book.{entry_at}
use Rattle.blob_entries.specs.Leaving as leaving
use Rattle.blob_entries.specs.Leaving.{left, shed}
use Rattle.blob_entries.specs.Names.{number_of}
use Rattle.blob_entries.specs.Sound.{AreSound, IsSound}
use Rattle.blob_entries.specs.Sources.{needs}
use Rattle.blob_entries.specs.Standing.{name_if, standing}
use Rattle.blob_entries.specs.declared.entry.Entry.{Entry}
use Rattle.blob_registry.specs.Sweeps.{swept}
use Rattle.blob_registry.proofs.Sweeping.{left_needs, left_needs_same}
use Rattle.blob_model.specs.Builds.{Build, builds}
use Rattle.blob_model.specs.History.{History}
use Rattle.blob_model.specs.Live.{has_source, is_needed, is_rooted, live, live_from}
use Rattle.blob_model.specs.Standing.{is_unfinished}
use Rattle.registry_laws.specs.Agree.{Agrees, Beside}
use Rattle.registry_laws.proofs.Needs.{gone_unneeded, needs_same}
use Rattle.registry_laws.proofs.Places.{ArePlaced, names_of}

-- ---- the live blobs, from the back

-- a blob, where it lives, before the later ones that do
abbrev pub kept_if : Bool → Build → List Build → List Build
kept_if lives build later = cond lives (build ∷ later) later

abbrev pub living : ℕ → History → List Build → List Build
living page h [] = []
living page h (build ∷ later) = kept_if (is_rooted page h build.name || is_needed h (living page h later) build.name) build (living page h later)

abbrev pub lives : ℕ → History → Build → List Build → Bool
lives page h build later = is_rooted page h build.name || is_needed h (living page h later) build.name

from_append : (page : ℕ) (h : History) (xs ys later : List Build) → live_from page h (xs ++ ys) later ≡ live_from page h ys (live_from page h xs later)
from_append page h [] ys later = refl
from_append page h (x ∷ xs) ys later = from_append page h xs ys (cond (is_rooted page h x.name || is_needed h later x.name) (x ∷ later) later)

living_from : (page : ℕ) (h : History) (list : List Build) → live_from page h (reverse list) [] ≡ living page h list
living_from page h [] = refl
living_from page h (build ∷ list) =
    ap (λ (xs : List Build). live_from page h xs []) (reverse-append (build ∷ []) list)
    ∙ from_append page h (reverse list) (build ∷ []) []
    ∙ ap (λ (later : List Build). live_from page h (build ∷ []) later) (living_from page h list)

pub live_living : (page : ℕ) (h : History) → live page h ≡ living page h (builds page h)
live_living page h = living_from page h (builds page h)

-- ---- the test of the sweep and that of the model

abbrev Entries : Type 0
Entries = List (Option Entry)

abbrev pub test_at : List ℕ → ℕ → Option Entry → Entries → Bool
test_at names number held later = leaving.is_rooted held || leaving.is_needed names number (swept names (number + 1) later)

none_needed : (names : List ℕ) (gone number : ℕ) (entries : Entries) → ((k : ℕ) → needs names gone (entry_at entries k) ≡ false)
    → leaving.is_needed names gone (swept names number entries) ≡ false
none_needed names gone number [] none = refl
none_needed names gone number (held ∷ later) none =
    or_from (needs names gone (left (test_at names number held later) held)) (leaving.is_needed names gone (swept names (number + 1) later))
    (left_needs names gone (test_at names number held later) held (none 0))
    (none_needed names gone (number + 1) later (λ k. none (suc k)))

-- the entries from a number on
pub record IsBehind (whole : Entries) (number : ℕ) (entries : Entries) : Type 0 where
  pub at : (k : ℕ) → entry_at entries k ≡ entry_at whole (number + k)

pub behind_all : (whole : Entries) → IsBehind whole 0 whole
behind_all whole = record { at = λ k. let e : k ≡ 0 + k = omega arith in ap (entry_at whole) e }

pub behind_next : (whole : Entries) (number : ℕ) (held : Option Entry) (later : Entries) → IsBehind whole number (held ∷ later)
    → IsBehind whole (number + 1) later
behind_next whole number held later behind = record {
  at = λ k. let e : number + suc k ≡ (number + 1) + k = omega arith in behind.at (suc k) ∙ ap (entry_at whole) e;
}

pub behind_here : (whole : Entries) (number : ℕ) (held : Option Entry) (later : Entries) → IsBehind whole number (held ∷ later) → entry_at whole number ≡ held
behind_here whole number held later behind = let e : number ≡ number + 0 = omega arith in ap (entry_at whole) e ∙ sym (behind.at 0)

-- how the tests of one number agree: alike where something stands there, and the model's is false where nothing does
abbrev pub TestsAgree : Bool → Bool → Option Entry → Type 0
TestsAgree code model None = model ≡ false
TestsAgree code model (Some entry) = code ≡ model

module _ (page : ℕ) (h : History) (names : List ℕ) (whole : Entries) (sound : AreSound names whole) where
  -- somebody left needs a name where a live blob does
  abbrev NeedsAgree : ℕ → List Build → Entries → Type 0
  NeedsAgree number list entries = (name at : ℕ) → number_of name names ≡ Some at
      → leaving.is_needed names at (swept names number entries) ≡ is_needed h (living page h list) name

  tests_by : (number : ℕ) (build : Build) (list : List Build) (held : Option Entry) (later : Entries) → NeedsAgree (number + 1) list later
      → number_of build.name names ≡ Some number
      → Agrees page h build held → IsBehind whole number (held ∷ later) → TestsAgree (test_at names number held later) (lives page h build list) held
  tests_by number build list None later needed at agree behind =
      or_from (is_rooted page h build.name) (is_needed h (living page h list) build.name) agree.unrooted
      (sym (needed build.name number at)
      ∙ none_needed names number (number + 1) later
      (λ k. gone_unneeded names whole ((number + 1) + k) number (entry_at later k) (behind_here whole number None later behind)
      (subst (λ (held : Option Entry). IfSome held (IsSound names whole ((number + 1) + k))) (sym ((behind_next whole number None later behind).at k))
      (sound.each ((number + 1) + k)))))
  tests_by number build list (Some entry) later needed at agree behind =
      ap (λ (b : Bool). b || leaving.is_needed names number (swept names (number + 1) later)) agree.roots
      ∙ ap (λ (b : Bool). is_rooted page h build.name || b) (needed build.name number at)

  needed_by : (number : ℕ) (build : Build) (list : List Build) (held : Option Entry) (later : Entries) → NeedsAgree (number + 1) list later
      → Agrees page h build held
      → TestsAgree (test_at names number held later) (lives page h build list) held → NeedsAgree number (build ∷ list) (held ∷ later)
  needed_by number build list None later needed agree tests name at is =
      gone (test_at names number None later)
      ∙ needed name at is
      ∙ sym (ap (λ (b : Bool). is_needed h (kept_if b build (living page h list)) name) tests)
    where
      gone : (b : Bool) → (needs names at (left b None) || leaving.is_needed names at (swept names (number + 1) later))
          ≡ leaving.is_needed names at (swept names (number + 1) later)
      gone true = refl
      gone false = refl
  needed_by number build list (Some entry) later needed agree tests name at is =
      ap (λ (b : Bool). needs names at (left b (Some entry)) || leaving.is_needed names at (swept names (number + 1) later)) tests
      ∙ by (lives page h build list)
    where
      by : (b : Bool) → (needs names at (left b (Some entry)) || leaving.is_needed names at (swept names (number + 1) later))
          ≡ is_needed h (kept_if b build (living page h list)) name
      by true =
          ap (λ (b : Bool). b || leaving.is_needed names at (swept names (number + 1) later))
          (left_needs_same names at (Some entry) ∙ needs_same page h names build entry name at agree is)
          ∙ ap (λ (b : Bool). (is_unfinished h build.name && has_source build name) || b) (needed name at is)
      by false = needed name at is

  pub needed_so : (number : ℕ) (list : List Build) (entries : Entries) → ArePlaced names number list → Beside (Agrees page h) list entries
      → IsBehind whole number entries → NeedsAgree number list entries
  needed_so number [] [] placed beside behind = λ name at is. refl
  needed_so number [] (held ∷ later) placed beside behind = absurd beside
  needed_so number (build ∷ list) [] placed beside behind = absurd beside
  needed_so number (build ∷ list) (held ∷ later) placed beside behind =
      let needed = needed_so (number + 1) list later placed.1 beside.1 (behind_next whole number held later behind) in
      needed_by number build list held later needed beside.0 (tests_by number build list held later needed placed.0 beside.0 behind)

  pub tests_agree : (number : ℕ) (build : Build) (list : List Build) (held : Option Entry) (later : Entries) → ArePlaced names number (build ∷ list)
      → Beside (Agrees page h) (build ∷ list) (held ∷ later)
      → IsBehind whole number (held ∷ later) → TestsAgree (test_at names number held later) (lives page h build list) held
  tests_agree number build list held later placed beside behind =
      tests_by number build list held later (needed_so (number + 1) list later placed.1 beside.1 (behind_next whole number held later behind))
      placed.0 beside.0 behind

  -- ---- who stands

  left_name : (code model : Bool) (held : Option Entry) (build : Build) (stands : List ℕ) (later : List Build) → TestsAgree code model held
      → stands ≡ names_of later
      → name_if (left code held) build.name ++ stands ≡ names_of (kept_if model build later)
  left_name true model None build stands later tests rest = rest ∙ sym (ap (λ (b : Bool). names_of (kept_if b build later)) tests)
  left_name false model None build stands later tests rest = rest ∙ sym (ap (λ (b : Bool). names_of (kept_if b build later)) tests)
  left_name true model (Some entry) build stands later tests rest = ap (λ (xs : List ℕ). build.name ∷ xs) rest
      ∙ ap (λ (b : Bool). names_of (kept_if b build later)) tests
  left_name false model (Some entry) build stands later tests rest = rest ∙ ap (λ (b : Bool). names_of (kept_if b build later)) tests

  pub standing_living : (number : ℕ) (list : List Build) (entries : Entries) → ArePlaced names number list → Beside (Agrees page h) list entries
      → IsBehind whole number entries
      → standing (names_of list) (swept names number entries) ≡ names_of (living page h list)
  standing_living number [] [] placed beside behind = refl
  standing_living number [] (held ∷ later) placed beside behind = absurd beside
  standing_living number (build ∷ list) [] placed beside behind = absurd beside
  standing_living number (build ∷ list) (held ∷ later) placed beside behind =
      left_name (test_at names number held later) (lives page h build list) held build (standing (names_of list) (swept names (number + 1) later))
      (living page h list)
      (tests_agree number build list held later placed beside behind)
      (standing_living (number + 1) list later placed.1 beside.1 (behind_next whole number held later behind))
