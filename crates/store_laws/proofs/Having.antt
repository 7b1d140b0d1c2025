-- Some unbroken blob has a cell that passes exactly where a view of one that is done passes, or a step of an unfinished one.
use Rattle.std.proofs.Common.{◌≡◌, ℕ, zero, suc, ◌==◌, ◌⊎◌, Bool, true, false, ◌&&◌, ◌||◌, List, []}
use Rattle.std.proofs.Common.{◌∷◌, ◌++◌, take, drop, refl, ap, subst, sym, ◌∙◌, Option, inl, inr, ⊎_elim}
use Rattle.std.specs.List.{AllByRecursion, list_any}
use Rattle.std.proofs.lemmas.Bool.{and_parts, eqb-true, eq-eqb}
use Rattle.std.proofs.lemmas.List.Folds.{list_any-append}
use Rattle.blob_words.specs.declared.number.PieceNo.{PieceNo}
use Rattle.blob_words.specs.declared.status.Status.{Status}
use Rattle.blob_words.specs.declared.status.Status.TheVariants as statuses
use Rattle.item_shares.specs.declared.shares.Share.{Share}
use Rattle.blob_items.specs.declared.view.View.{View}
use Rattle.blob_entries.specs.declared.entry.Entry.{Entry}
use Rattle.blob_entries.specs.Holdings.{fixed_views, own_views}
use Rattle.blob_entries.specs.Statuses.{is_pending}
use Rattle.blob_entries.specs.declared.step.Step.{Step}
use Rattle.blob_entries.specs.declared.step.Step.TheVariants.{Own, Fixed, Source}
use Rattle.blob_model.specs.Builds.{Cell, Build, cells_in}
use Rattle.blob_model.specs.Pieces.{Piece}
use Rattle.blob_model.proofs.Lists.{append_second, both, each_any, false_true, for_each, or_cases, or_first, or_second}
use Rattle.store_laws.specs.Cells.{denoted}
use Rattle.store_laws.specs.Items.{IsInside}
use Rattle.store_laws.specs.Recipes.{own_cells, recipe_cells, step_cells, StandsFor, IsStep, IsEntryFor}
use Rattle.store_laws.specs.Having.{has, has_by, is_unbroken, reaches, takes_from, AreClosed}
use Rattle.store_laws.proofs.Viewed.{iff_true}

-- what a part of a list has the list has
any_take : {X : Type 0} (test : X → Bool) (n : ℕ) (xs : List X) → list_any test (take n xs) ≡ true → list_any test xs ≡ true
any_take test zero xs e = absurd (false_true e)
any_take test (suc n) [] e = absurd (false_true e)
any_take test (suc n) (x ∷ xs) e =
    ⊎_elim (λ (here : test x ≡ true). or_first (test x) (list_any test xs) here)
    (λ (more : list_any test (take n xs) ≡ true). or_second (test x) (list_any test xs) (any_take test n xs more))
    (or_cases (test x) (list_any test (take n xs)) e)

any_drop : {X : Type 0} (test : X → Bool) (n : ℕ) (xs : List X) → list_any test (drop n xs) ≡ true → list_any test xs ≡ true
any_drop test zero xs e = e
any_drop test (suc n) [] e = absurd (false_true e)
any_drop test (suc n) (x ∷ xs) e = or_second (test x) (list_any test xs) (any_drop test n xs e)

-- a blob with its entry: the entry stands for it, and its name tells its cells
pub record IsReady (list : List Build) (all : List Piece) (shares : List (Option Share)) (own : ℕ → List ℕ) (pair : Build × Entry) : Type 0 where
  pub fine : IsEntryFor list all shares own pair.0 pair.1
  pub found : cells_in list pair.0.name ≡ pair.0.cells

-- a test on cells, as views and steps pass it
pub record IsRead (all : List Piece) (shares : List (Option Share)) (test : Cell → Bool) (on : View → Bool) (mine : Step → Bool) : Type 0 where
  pub views : (views : List View) → AllByRecursion (IsInside all shares) views → list_any test (denoted all shares views) ≡ list_any on views
  pub own : (number : PieceNo) (len : ℕ) → IsStep all shares (Own number len) → list_any test (own_cells all number.0 len) ≡ mine (Own number len)
  pub fixed : (view : View) → IsStep all shares (Fixed view) → list_any test (denoted all shares (view ∷ [])) ≡ mine (Fixed view)
  pub source : (name off len : ℕ) → mine (Source name off len) ≡ false

module _ (list : List Build) (all : List Piece) (shares : List (Option Share)) (own : ℕ → List ℕ) (test : Cell → Bool) (on : View → Bool) (mine : Step → Bool)
    (read : IsRead all shares test on mine) where
  -- ---- one recipe

  abbrev FromSource : List Step → Type 0
  FromSource recipe = (name : ℕ) × (takes_from name recipe ≡ true) × (list_any test (cells_in list name) ≡ true)

  -- a step before others
  first : (step : Step) (recipe : List Step) → (list_any test (step_cells list all shares step) ≡ true → (mine step ≡ true) ⊎ FromSource (step ∷ recipe))
      → ((list_any mine recipe ≡ true) ⊎ FromSource recipe → (list_any mine (step ∷ recipe) ≡ true) ⊎ FromSource (step ∷ recipe))
      → (list_any test (recipe_cells list all shares recipe) ≡ true → (list_any mine recipe ≡ true) ⊎ FromSource recipe)
      → list_any test (recipe_cells list all shares (step ∷ recipe)) ≡ true → (list_any mine (step ∷ recipe) ≡ true) ⊎ FromSource (step ∷ recipe)
  first step recipe here next rest e =
      ⊎_elim
      (λ (now : list_any test (step_cells list all shares step) ≡ true).
      ⊎_elim (λ (passes : mine step ≡ true). inl (or_first (mine step) (list_any mine recipe) passes)) (λ (from : FromSource (step ∷ recipe)). inr from)
      (here now))
      (λ (more : list_any test (recipe_cells list all shares recipe) ≡ true). next (rest more))
      (or_cases (list_any test (step_cells list all shares step)) (list_any test (recipe_cells list all shares recipe))
      (sym (list_any-append test (step_cells list all shares step) (recipe_cells list all shares recipe)) ∙ e))

  recipe_has : (recipe : List Step) → AllByRecursion (IsStep all shares) recipe → list_any test (recipe_cells list all shares recipe) ≡ true
      → (list_any mine recipe ≡ true) ⊎ FromSource recipe
  recipe_has [] sound e = absurd (false_true e)
  recipe_has (Own number len ∷ recipe) sound e =
      first (Own number len) recipe (λ now. inl (sym (read.own number len sound.0) ∙ now))
      (λ rest.
      ⊎_elim (λ (own : list_any mine recipe ≡ true). inl (or_second (mine (Own number len)) (list_any mine recipe) own)) (λ
      (from : FromSource recipe). inr from) rest)
      (recipe_has recipe sound.1) e
  recipe_has (Fixed view ∷ recipe) sound e =
      first (Fixed view) recipe (λ now. inl (sym (read.fixed view sound.0) ∙ now))
      (λ rest.
      ⊎_elim (λ (own : list_any mine recipe ≡ true). inl (or_second (mine (Fixed view)) (list_any mine recipe) own)) (λ
      (from : FromSource recipe). inr from) rest)
      (recipe_has recipe sound.1) e
  recipe_has (Source name off len ∷ recipe) sound e =
      first (Source name off len) recipe
      (λ now.
      inr (
        name,
        or_first (name == name) (takes_from name recipe) (eq-eqb name name refl),
        any_drop test off (cells_in list name) (any_take test len (drop off (cells_in list name)) now),
      ))
      (λ rest.
      ⊎_elim (λ (own : list_any mine recipe ≡ true). inl (or_second (mine (Source name off len)) (list_any mine recipe) own))
      (λ (from : FromSource recipe). inr (from.0, or_second (name == from.0) (takes_from from.0 recipe) from.1, from.2)) rest)
      (recipe_has recipe sound.1) e

  has_recipe : (recipe : List Step) → AllByRecursion (IsStep all shares) recipe → list_any mine recipe ≡ true
      → list_any test (recipe_cells list all shares recipe) ≡ true
  has_recipe [] sound e = absurd (false_true e)
  has_recipe (step ∷ recipe) sound e =
      list_any-append test (step_cells list all shares step) (recipe_cells list all shares recipe)
      ∙ ⊎_elim
      (λ (here : mine step ≡ true).
      or_first (list_any test (step_cells list all shares step)) (list_any test (recipe_cells list all shares recipe)) (one step sound.0 here))
      (λ (more : list_any mine recipe ≡ true).
      or_second (list_any test (step_cells list all shares step)) (list_any test (recipe_cells list all shares recipe)) (has_recipe recipe sound.1 more))
      (or_cases (mine step) (list_any mine recipe) e)
    where
      one : (step : Step) → IsStep all shares step → mine step ≡ true → list_any test (step_cells list all shares step) ≡ true
      one (Own number len) sound e = read.own number len sound ∙ e
      one (Fixed view) sound e = read.fixed view sound ∙ e
      one (Source name off len) sound e = absurd (false_true (sym (read.source name off len) ∙ e))

  -- ---- one entry

  abbrev Given : Entry → Status → Type 0
  Given entry status = (has_by on mine status entry ≡ true) ⊎ ((is_pending status ≡ true) × FromSource entry.recipe)

  by_recipe : (build : Build) (entry : Entry) (status : Status) → is_pending status ≡ true → list_any mine entry.recipe ≡ has_by on mine status entry
      → IsEntryFor list all shares own build entry → recipe_cells list all shares entry.recipe ≡ build.cells → list_any test build.cells ≡ true
      → Given entry status
  by_recipe build entry status pending has fine is e =
      ⊎_elim (λ (own : list_any mine entry.recipe ≡ true). inl (sym has ∙ own)) (λ (from : FromSource entry.recipe). inr (pending, from))
      (recipe_has entry.recipe fine.steps (ap (list_any test) is ∙ e))

  views_inside : (build : Build) (entry : Entry) → IsEntryFor list all shares own build entry → AllByRecursion (IsInside all shares) entry.views
  views_inside build entry fine = append_second (IsInside all shares) (fixed_views entry.recipe ++ own_views entry.own) entry.views fine.inside

  given : (build : Build) (entry : Entry) (status : Status) → IsEntryFor list all shares own build entry → StandsFor list all shares build.cells status entry
      → is_unbroken status ≡ true → list_any test build.cells ≡ true → Given entry status
  given build entry statuses.Done fine stands unbroken e =
      inl (sym (read.views entry.views (views_inside build entry fine)) ∙ ap (list_any test) stands.0 ∙ e)
  given build entry statuses.PendingQuota fine stands unbroken e = by_recipe build entry statuses.PendingQuota refl refl fine stands.0 e
  given build entry statuses.PendingTransport fine stands unbroken e = by_recipe build entry statuses.PendingTransport refl refl fine stands.0 e
  given build entry statuses.PendingReferencedBlobs fine stands unbroken e = by_recipe build entry statuses.PendingReferencedBlobs refl refl fine stands.0 e
  given build entry statuses.Dereferenced fine stands unbroken e = absurd stands
  given build entry status fine stands unbroken e = absurd (false_true unbroken)

  -- an entry that passes has a cell that does
  passes : (build : Build) (entry : Entry) (status : Status) → IsEntryFor list all shares own build entry → StandsFor list all shares build.cells status entry
      → has_by on mine status entry ≡ true → (is_unbroken status && list_any test build.cells) ≡ true
  passes build entry statuses.Done fine stands e =
      ap (list_any test) (sym stands.0) ∙ read.views entry.views (views_inside build entry fine) ∙ e
  passes build entry statuses.PendingQuota fine stands e = ap (list_any test) (sym stands.0) ∙ has_recipe entry.recipe fine.steps e
  passes build entry statuses.PendingTransport fine stands e = ap (list_any test) (sym stands.0) ∙ has_recipe entry.recipe fine.steps e
  passes build entry statuses.PendingReferencedBlobs fine stands e = ap (list_any test) (sym stands.0) ∙ has_recipe entry.recipe fine.steps e
  passes build entry status fine stands e = absurd (false_true e)

  has_reaches : (pair : Build × Entry) → IsReady list all shares own pair → has on mine pair ≡ true → reaches test pair ≡ true
  has_reaches pair ready e = passes pair.0 pair.1 pair.1.status ready.fine ready.fine.stands e

  -- ---- all entries

  module _ (goal : Type 0) where
    reach_all : (known : ℕ → Bool) (pairs : List (Build × Entry)) → AreClosed known pairs → AllByRecursion (IsReady list all shares own) pairs
        → ((name : ℕ) → known name ≡ true → list_any test (cells_in list name) ≡ true → goal)
        → AllByRecursion (λ (pair : Build × Entry). has on mine pair ≡ true → goal) pairs → list_any (reaches test) pairs ≡ true → goal
    reach_all known [] closed ready from passing e = absurd (false_true e)
    reach_all known (pair ∷ pairs) closed ready from passing e =
        ⊎_elim (λ (here : reaches test pair ≡ true). this here)
        (λ (more : list_any (reaches test) pairs ≡ true).
        reach_all (λ (name : ℕ). known name || (is_unbroken pair.1.status && pair.0.name == name)) pairs closed.1 ready.1
        (λ name there owned.
        ⊎_elim (λ (old : known name ≡ true). from name old owned)
        (λ (new : (is_unbroken pair.1.status && pair.0.name == name) ≡ true).
        let parts = and_parts (is_unbroken pair.1.status) (pair.0.name == name) new in
        this
        (both (is_unbroken pair.1.status) (list_any test pair.0.cells) parts.0
        (ap (list_any test) (sym ready.0.found) ∙ subst (λ (n : ℕ). list_any test (cells_in list n) ≡ true) (sym (eqb-true pair.0.name name parts.1)) owned)))
        (or_cases (known name) (is_unbroken pair.1.status && pair.0.name == name) there))
        passing.1 more)
        (or_cases (reaches test pair) (list_any (reaches test) pairs) e)
      where
        this : reaches test pair ≡ true → goal
        this here =
            let parts = and_parts (is_unbroken pair.1.status) (list_any test pair.0.cells) here in
            ⊎_elim (λ (own : has on mine pair ≡ true). passing.0 own)
            (λ (other : (is_pending pair.1.status ≡ true) × FromSource pair.1.recipe). from other.1.0 (closed.0 other.1.0 other.0 other.1.1) other.1.2)
            (given pair.0 pair.1 pair.1.status ready.0.fine ready.0.fine.stands parts.0 parts.1)

  any_kept : (p q : Build × Entry → Bool) (xs : List (Build × Entry)) → AllByRecursion (λ (x : Build × Entry). p x ≡ true → q x ≡ true) xs
      → list_any p xs ≡ true → list_any q xs ≡ true
  any_kept p q [] each e = e
  any_kept p q (x ∷ xs) each e =
      ⊎_elim (λ (here : p x ≡ true). or_first (q x) (list_any q xs) (each.0 here))
      (λ (more : list_any p xs ≡ true). or_second (q x) (list_any q xs) (any_kept p q xs each.1 more)) (or_cases (p x) (list_any p xs) e)

  -- the law
  pub reached_passes : (pairs : List (Build × Entry)) → AreClosed (λ (name : ℕ). false) pairs → AllByRecursion (IsReady list all shares own) pairs
      → list_any (reaches test) pairs ≡ list_any (has on mine) pairs
  reached_passes pairs closed ready =
      iff_true (list_any (reaches test) pairs) (list_any (has on mine) pairs)
      (reach_all (list_any (has on mine) pairs ≡ true) (λ (name : ℕ). false) pairs closed ready (λ name e. absurd (false_true e)) (each_any
      (has on mine) pairs))
      (any_kept (has on mine) (reaches test) pairs
      (for_each (IsReady list all shares own) (λ (pair : Build × Entry). has on mine pair ≡ true
      → reaches test pair ≡ true) pairs (λ pair r. has_reaches pair r) ready))
