-- The names that the sweep drops are those of the drops owed.
use Rattle.std.proofs.Common.{◌≡◌, ℕ, ◌+◌, ◌==◌, Bool, true, false, cond, ◌&&◌, ◌||◌, not, List}
use Rattle.std.proofs.Common.{[], ◌∷◌, ◌++◌, map, reverse, refl, ap, sym, ◌∙◌, Option, Some, None}
use Rattle.std.specs.Prelude.{filter, slice_index}
use Rattle.std.proofs.lemmas.Bool.{eq-eqb, or_parts, or_from}
use Rattle.std.proofs.lemmas.List.{map-append, reverse-append}
use Rattle.std.proofs.lemmas.List.Elements.{filter-append}
use Rattle.answer_text.specs.declared.answer.Answer.{Answer}
use Rattle.answer_text.specs.declared.answer.Answer.TheVariants as answers
use Rattle.blob_entries.specs.Leaving.{gone_name}
use Rattle.blob_entries.specs.Sound.{AreSound}
use Rattle.blob_entries.specs.declared.entry.Entry.{Entry}
use Rattle.blob_entries.proofs.Numbers.{name_there}
use Rattle.blob_registry.specs.Sweeps.{dropped}
use Rattle.blob_model.specs.Builds.{Build}
use Rattle.blob_model.specs.History.{History}
use Rattle.blob_model.specs.Order.{named, Distinct}
use Rattle.blob_model.specs.Standing.{is_unfinished}
use Rattle.blob_model.proofs.Lists.{or_first, or_second}
use Rattle.registry_laws.specs.Agree.{Agrees, Beside}
use Rattle.registry_laws.proofs.Needs.{pending_so}
use Rattle.registry_laws.proofs.Lives.{IsBehind, TestsAgree, behind_next, kept_if, lives, living, test_at, tests_agree}
use Rattle.registry_laws.proofs.Places.{ArePlaced, other_name}

abbrev Entries : Type 0
Entries = List (Option Entry)

-- ---- names of live blobs

living_names : (page : ℕ) (h : History) (name : ℕ) (list : List Build) → named name list ≡ false → named name (living page h list) ≡ false
living_names page h name [] other = refl
living_names page h name (build ∷ list) other =
    let parts = or_parts (build.name == name) (named name list) other in
    go (lives page h build list) parts.0 (living_names page h name list parts.1)
  where
    go : (b : Bool) → (build.name == name) ≡ false → named name (living page h list) ≡ false → named name (kept_if b build (living page h list)) ≡ false
    go true head rest = or_from (build.name == name) (named name (living page h list)) head rest
    go false head rest = rest

pub lives_named : (page : ℕ) (h : History) (build : Build) (list : List Build) → named build.name list ≡ false
    → named build.name (living page h (build ∷ list)) ≡ lives page h build list
lives_named page h build list fresh = go (lives page h build list)
  where
    go : (b : Bool) → named build.name (kept_if b build (living page h list)) ≡ b
    go true = or_first (build.name == build.name) (named build.name (living page h list)) (eq-eqb build.name build.name refl)
    go false = living_names page h build.name list fresh

pub named_next : (page : ℕ) (h : History) (build : Build) (list : List Build) (name : ℕ) → (build.name == name) ≡ false
    → named name (living page h (build ∷ list)) ≡ named name (living page h list)
named_next page h build list name other = go (lives page h build list)
  where
    go : (b : Bool) → named name (kept_if b build (living page h list)) ≡ named name (living page h list)
    go true = ap (λ (b : Bool). b || named name (living page h list)) other
    go false = refl

-- ---- drops

abbrev pub dropping : List Build → List Answer
dropping list = map (λ (build : Build). answers.Dropped build.name) list

abbrev drops_of : List ℕ → List Answer
drops_of list = map (λ (name : ℕ). answers.Dropped name) list

-- the test of a drop, where this tells which names live
abbrev pub goes : History → (ℕ → Bool) → Build → Bool
goes h alive build = is_unfinished h build.name && not (alive build.name)

module _ (page : ℕ) (h : History) (names : List ℕ) (whole : Entries) (sound : AreSound names whole) (alive : ℕ → Bool) where
  one : (code model : Bool) (build : Build) (held : Option Entry) → Agrees page h build held → TestsAgree code model held → alive build.name ≡ model
      → drops_of (gone_name code build.name held) ≡ dropping (cond (goes h alive build) (build ∷ []) [])
  one true model build None agree tests at = ap (λ (b : Bool). dropping (cond (b && not (alive build.name)) (build ∷ []) [])) (sym agree.ended)
  one false model build None agree tests at = ap (λ (b : Bool). dropping (cond (b && not (alive build.name)) (build ∷ []) [])) (sym agree.ended)
  one code model build (Some entry) agree tests at =
      by code ∙ ap (λ (b : Bool). dropping (cond (is_unfinished h build.name && not b) (build ∷ []) [])) (tests ∙ sym at)
    where
      some : (b : Bool) → drops_of (cond b (build.name ∷ []) []) ≡ dropping (cond (b && true) (build ∷ []) [])
      some true = refl
      some false = refl

      none : (b : Bool) → [] ≡ dropping (cond (b && false) (build ∷ []) [])
      none true = refl
      none false = refl

      by : (c : Bool) → drops_of (gone_name c build.name (Some entry)) ≡ dropping (cond (is_unfinished h build.name && not c) (build ∷ []) [])
      by true = none (is_unfinished h build.name)
      by false = ap (λ (b : Bool). drops_of (cond b (build.name ∷ []) [])) (pending_so page h build entry agree) ∙ some (is_unfinished h build.name)

  -- the names are alive that live from here on
  abbrev pub Tells : List Build → Type 0
  Tells list = (name : ℕ) → named name list ≡ true → alive name ≡ named name (living page h list)

  pub dropped_so : (number : ℕ) (list : List Build) (entries : Entries) → Distinct list → ArePlaced names number list → Beside (Agrees page h) list entries
      → IsBehind whole number entries → Tells list
      → drops_of (dropped names number entries) ≡ dropping (filter (goes h alive) (reverse list))
  dropped_so number [] [] distinct placed beside behind tells = refl
  dropped_so number [] (held ∷ later) distinct placed beside behind tells = absurd beside
  dropped_so number (build ∷ list) [] distinct placed beside behind tells = absurd beside
  dropped_so number (build ∷ list) (held ∷ later) distinct placed beside behind tells =
      let rest : drops_of (dropped names (number + 1) later) ≡ dropping (filter (goes h alive) (reverse list)) =
      dropped_so (number + 1) list later distinct.1 placed.1 beside.1 (behind_next whole number held later behind)
      (λ name there.
      tells name (or_second_named name there) ∙ named_next page h build list name (other_name build list name distinct.0 there)) in
      let here : alive build.name ≡ lives page h build list =
      tells build.name (or_first (build.name == build.name) (named build.name list) (eq-eqb build.name build.name refl))
      ∙ lives_named page h build list distinct.0 in
      let head : drops_of (gone_name (test_at names number held later) build.name held) ≡ dropping (filter (goes h alive) (build ∷ [])) =
      one (test_at names number held later) (lives page h build list) build held beside.0
      (tests_agree page h names whole sound number build list held later placed beside behind) here in
      map-append (λ (name : ℕ). answers.Dropped name) (dropped names (number + 1) later)
      (gone_name (test_at names number held later) (slice_index names number) held)
      ∙ ap (λ (xs : List Answer). xs ++ drops_of (gone_name (test_at names number held later) (slice_index names number) held)) rest
      ∙ ap (λ (name : ℕ). dropping (filter (goes h alive) (reverse list)) ++ drops_of (gone_name (test_at names number held later) name held))
      (name_there build.name names number placed.0)
      ∙ ap (λ (xs : List Answer). dropping (filter (goes h alive) (reverse list)) ++ xs) head
      ∙ sym (map-append (λ (each : Build). answers.Dropped each.name) (filter (goes h alive) (reverse list)) (filter (goes h alive) (build ∷ [])))
      ∙ ap dropping (sym (filter-append (goes h alive) (reverse list) (build ∷ [])))
      ∙ ap (λ (xs : List Build). dropping (filter (goes h alive) xs)) (sym (reverse-append (build ∷ []) list))
    where
      or_second_named : (name : ℕ) → named name list ≡ true → ((build.name == name) || named name list) ≡ true
      or_second_named name there = or_second (build.name == name) (named name list) there
