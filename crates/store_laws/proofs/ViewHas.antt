-- An unbroken entry with a view on the item of a piece has the piece, and an entry that has it is held there, or its bytes are to come.
use Rattle.std.proofs.Common.{◌≡◌, ℕ, ◌==◌, ◌⊎◌, Bool, true, false, ◌||◌, List, [], ◌∷◌, ◌++◌, refl, ap, sym, ◌∙◌, arith, Option, None, inl, inr, ⊎_elim}
use Rattle.std.specs.Prelude.{flat_map}
use Rattle.std.specs.List.{AllByRecursion, list_any}
use Rattle.std.proofs.lemmas.List.Folds.{list_any-append}
use Rattle.blob_words.specs.declared.limits.Limits.{Limits}
use Rattle.blob_words.specs.declared.number.PieceNo.{PieceNo}
use Rattle.blob_words.specs.declared.status.Status.{Status}
use Rattle.blob_words.specs.declared.status.Status.TheVariants as statuses
use Rattle.item_shares.specs.declared.shares.Share.{Share}
use Rattle.blob_items.specs.declared.view.View.{View}
use Rattle.blob_entries.specs.declared.entry.Entry.{Entry}
use Rattle.blob_entries.specs.Holdings.{fixed_views, held_views, own_views, step_views}
use Rattle.blob_entries.specs.Statuses.{is_broken}
use Rattle.blob_entries.specs.declared.step.Step.{Step}
use Rattle.blob_entries.specs.declared.step.Step.TheVariants.{Own, Fixed, Source}
use Rattle.blob_model.specs.Builds.{Build}
use Rattle.blob_model.specs.Order.{Distinct}
use Rattle.blob_model.specs.Pieces.{Piece, owns, pieces_from}
use Rattle.blob_model.proofs.Lists.{append_second, false_true, or_cases}
use Rattle.blob_model.proofs.builds.PieceNumbers.{FoundIn}
use Rattle.store_laws.specs.Items.{holds_piece, is_number, IsInside}
use Rattle.store_laws.specs.Having.{has_by, is_on, is_own_step}
use Rattle.store_laws.specs.Recipes.{own_cells, own_step_cells, StandsFor, IsStep, IsEntryFor}
use Rattle.store_laws.proofs.HeldCounts.{back_views}
use Rattle.store_laws.proofs.Viewed.{piece_any, views_any}

pub append_first : {X : Type 0} (P : X → Type 0) (xs ys : List X) → AllByRecursion P (xs ++ ys) → AllByRecursion P xs
append_first P [] ys all = tt
append_first P (x ∷ xs) ys all = (all.0, append_first P xs ys all.1)

-- a view that stands in a recipe is on no piece
fixed-none : (all : List Piece) (shares : List (Option Share)) (number : ℕ) (recipe : List Step) → AllByRecursion (IsStep all shares) recipe
    → list_any (is_on shares number) (flat_map step_views recipe) ≡ false
fixed-none all shares number [] sound = refl
fixed-none all shares number (Own piece len ∷ recipe) sound = fixed-none all shares number recipe sound.1
fixed-none all shares number (Source name off len ∷ recipe) sound = fixed-none all shares number recipe sound.1
fixed-none all shares number (Fixed view ∷ recipe) sound =
    ap (λ (o : Option ℕ). is_number number o || list_any (is_on shares number) (flat_map step_views recipe)) sound.0.1
    ∙ fixed-none all shares number recipe sound.1

module _ (l : Limits) (list : List Build) (distinct : Distinct list) (piece : Piece) (found : FoundIn (pieces_from l.page 0 list) piece.number piece)
    (shares : List (Option Share)) (own : ℕ → List ℕ) where
  abbrev all : List Piece
  all = pieces_from l.page 0 list

  pub step_any : (number : PieceNo) (len : ℕ) → IsStep all shares (Own number len) → list_any (owns piece) (own_cells all number.0 len) ≡
      (number.0 == piece.number)
  step_any number len sound = piece_any l list distinct piece found number.0 _ len 0 len refl sound.1 sound.0 (omega arith)

  own_as : (recipe : List Step) → AllByRecursion (IsStep all shares) recipe
      → list_any (owns piece) (flat_map (own_step_cells all) recipe) ≡ list_any (is_own_step piece.number) recipe
  own_as [] sound = refl
  own_as (Own number len ∷ recipe) sound =
      list_any-append (owns piece) (own_step_cells all (Own number len)) (flat_map (own_step_cells all) recipe)
      ∙ ap (λ (b : Bool). b || list_any (owns piece) (flat_map (own_step_cells all) recipe)) (step_any number len sound.0)
      ∙ ap (λ (b : Bool). (number.0 == piece.number) || b) (own_as recipe sound.1)
  own_as (Fixed view ∷ recipe) sound = own_as recipe sound.1
  own_as (Source name off len ∷ recipe) sound = own_as recipe sound.1

  own_inside : (build : Build) (entry : Entry) → IsEntryFor list all shares own build entry → AllByRecursion (IsInside all shares) (own_views entry.own)
  own_inside build entry fine =
      append_second (IsInside all shares) (fixed_views entry.recipe) (own_views entry.own)
      (append_first (IsInside all shares) (fixed_views entry.recipe ++ own_views entry.own) entry.views fine.inside)

  -- by the parts of its views
  abbrev Parted : Entry → Type 0
  Parted entry =
      (list_any (is_on shares piece.number) entry.views ≡ true)
      ⊎ ((list_any (is_on shares piece.number) (fixed_views entry.recipe) ≡ true) ⊎ (list_any (is_on shares piece.number) (own_views entry.own) ≡ true))

  parted : (entry : Entry) → list_any (is_on shares piece.number) (held_views entry) ≡ true → Parted entry
  parted entry e =
      let fixed = fixed_views entry.recipe in
      let brought = own_views entry.own in
      ⊎_elim
      (λ (front : list_any (is_on shares piece.number) (fixed ++ brought) ≡ true).
      ⊎_elim (λ (step : list_any (is_on shares piece.number) fixed ≡ true). inr (inl step)) (λ (back : list_any
      (is_on shares piece.number) brought ≡ true). inr (inr back))
      (or_cases (list_any (is_on shares piece.number) fixed) (list_any (is_on shares piece.number) brought) (sym (list_any-append
      (is_on shares piece.number) fixed brought) ∙ front)))
      (λ (done : list_any (is_on shares piece.number) entry.views ≡ true). inl done)
      (or_cases (list_any (is_on shares piece.number) (fixed ++ brought)) (list_any (is_on shares piece.number) entry.views)
      (sym (list_any-append (is_on shares piece.number) (fixed ++ brought) entry.views) ∙ e))

  none_of : (views : List View) → views ≡ [] → list_any (is_on shares piece.number) views ≡ true → ⊥
  none_of views none e = false_true (sym (ap (list_any (is_on shares piece.number)) none) ∙ e)

  none_brought : (brought : Option (List View)) → brought ≡ None → list_any (is_on shares piece.number) (own_views brought) ≡ true → ⊥
  none_brought brought none e = none_of (own_views brought) (ap own_views none) e

  no_fixed : (build : Build) (entry : Entry) → IsEntryFor list all shares own build entry → list_any (is_on shares piece.number)
      (fixed_views entry.recipe) ≡ true → ⊥
  no_fixed build entry fine e = false_true (sym (fixed-none all shares piece.number entry.recipe fine.steps) ∙ e)

  by_status : (build : Build) (entry : Entry) (status : Status) → IsEntryFor list all shares own build entry
      → StandsFor list all shares build.cells status entry
      → is_broken status ≡ false → Parted entry → has_by (is_on shares piece.number) (is_own_step piece.number) status entry ≡ true
  by_status build entry statuses.Done fine stands whole viewed =
      ⊎_elim (λ done. done) (λ rest. ⊎_elim (λ step. absurd (no_fixed build entry fine step)) (λ back. absurd
      (none_brought entry.own stands.2 back)) rest) viewed
  by_status build entry statuses.PendingQuota fine stands whole viewed =
      ⊎_elim (λ done. absurd (none_of entry.views stands.1 done))
      (λ rest. ⊎_elim (λ step. absurd (no_fixed build entry fine step)) (λ back. absurd (none_brought entry.own stands.2 back)) rest) viewed
  by_status build entry statuses.PendingTransport fine stands whole viewed =
      ⊎_elim (λ done. absurd (none_of entry.views stands.1 done))
      (λ rest. ⊎_elim (λ step. absurd (no_fixed build entry fine step)) (λ back. absurd (none_brought entry.own stands.2 back)) rest) viewed
  by_status build entry statuses.PendingReferencedBlobs fine stands whole viewed =
      ⊎_elim (λ done. absurd (none_of entry.views stands.1 done))
      (λ rest.
      ⊎_elim (λ step. absurd (no_fixed build entry fine step))
      (λ back.
      sym (own_as entry.recipe fine.steps) ∙ sym (ap (list_any (owns piece)) stands.2)
      ∙ views_any l list distinct piece found shares (own_views entry.own) (own_inside build entry fine) ∙ back) rest) viewed
  by_status build entry statuses.Dereferenced fine stands whole viewed = absurd stands
  by_status build entry status fine stands whole viewed = absurd (false_true (sym whole))

  pub view_has : (build : Build) (entry : Entry) → IsEntryFor list all shares own build entry → is_broken entry.status ≡ false
      → list_any (is_on shares piece.number) (held_views entry) ≡ true → has_by (is_on shares piece.number) (is_own_step piece.number) entry.status entry ≡ true
  view_has build entry fine whole e = by_status build entry entry.status fine fine.stands whole (parted entry e)

  -- what holds of a piece that waits, or is on its way, the caller says
  has_held_by : (goal : Type 0) (build : Build) (entry : Entry) (status : Status) → IsEntryFor list all shares own build entry
      → StandsFor list all shares build.cells status entry
      → (holds_piece shares piece.number ≡ true → goal) → (status ≡ statuses.PendingQuota → list_any (is_own_step piece.number) entry.recipe ≡ true → goal)
      → (status ≡ statuses.PendingTransport → list_any (is_own_step piece.number) entry.recipe ≡ true → goal)
      → has_by (is_on shares piece.number) (is_own_step piece.number) status entry ≡ true → goal
  has_held_by goal build entry statuses.Done fine stands held waits comes e = held (back_views shares entry.views [] piece.number entry.views e)
  has_held_by goal build entry statuses.PendingQuota fine stands held waits comes e = waits refl e
  has_held_by goal build entry statuses.PendingTransport fine stands held waits comes e = comes refl e
  has_held_by goal build entry statuses.PendingReferencedBlobs fine stands held waits comes e =
      let brought = own_views entry.own in
      held
      (back_views shares brought [] piece.number brought
      (sym (views_any l list distinct piece found shares brought (own_inside build entry fine)) ∙ ap (list_any (owns piece)) stands.2
      ∙ own_as entry.recipe fine.steps ∙ e))
  has_held_by goal build entry status fine stands held waits comes e = absurd (false_true e)

  pub has_held : (goal : Type 0) (build : Build) (entry : Entry) → IsEntryFor list all shares own build entry
      → (holds_piece shares piece.number ≡ true → goal) → (entry.status ≡ statuses.PendingQuota → list_any (is_own_step piece.number) entry.recipe ≡ true
      → goal)
      → (entry.status ≡ statuses.PendingTransport → list_any (is_own_step piece.number) entry.recipe ≡ true → goal)
      → has_by (is_on shares piece.number) (is_own_step piece.number) entry.status entry ≡ true → goal
  has_held goal build entry fine held waits comes e = has_held_by goal build entry entry.status fine fine.stands held waits comes e
