-- The views that a recipe gives stand for the cells of its blob, and lie inside their items.
use Rattle.std.proofs.Common.{◌≡◌, ℕ, zero, suc, ◌+◌, ◌<◌, ◌≤◌, ◌&&◌, true, false, List, [], ◌∷◌, ◌++◌}
use Rattle.std.proofs.Common.{map, take, drop, length, refl, ap, subst, sym, ◌∙◌, Option, Some, None}
use Rattle.std.specs.Prelude.{flat_map, is_none, IfSome, IsSomeAnd}
use Rattle.std.specs.Option.{option_map_or}
use Rattle.std.specs.List.{AllByRecursion, list_any, range_with_len}
use Rattle.std.proofs.lemmas.Bool.{and_parts}
use Rattle.std.proofs.lemmas.List.{map-append, take-map, drop-map}
use Rattle.std.proofs.Math.Seq.{drop-append_seam, take-append_seam}
use Rattle.blob_words.specs.declared.status.Status.{Status}
use Rattle.blob_words.specs.declared.status.Status.TheVariants as statuses
use Rattle.item_shares.specs.declared.item.Item.{Item}
use Rattle.item_shares.specs.declared.shares.Share.{Share}
use Rattle.blob_items.specs.Cells.{cells, view_cells}
use Rattle.blob_items.specs.declared.view.View.{View}
use Rattle.blob_entries.specs.Book.{entry_at, is_done_at}
use Rattle.blob_entries.specs.Contents.{is_own, made_cells, source_views}
use Rattle.blob_entries.specs.Endings.{misses}
use Rattle.blob_entries.specs.Holdings.{fixed_views, held_views, own_views}
use Rattle.blob_entries.specs.Names.{number_of}
use Rattle.blob_entries.specs.Sound.{AreOwn, StepFits}
use Rattle.blob_entries.specs.Sources.{each_source}
use Rattle.blob_entries.specs.Statuses.{is_pending}
use Rattle.blob_entries.specs.declared.entry.Entry.{Entry}
use Rattle.blob_entries.specs.declared.step.Step.{Step}
use Rattle.blob_entries.specs.declared.step.Step.TheVariants.{Own, Fixed, Source}
use Rattle.blob_model.specs.Builds.{Build, Cell, cells_in}
use Rattle.blob_model.specs.Pieces.{Piece}
use Rattle.blob_model.proofs.Lists.{append_second, false_true}
use Rattle.store_laws.specs.Cells.{cell_at, denoted}
use Rattle.store_laws.specs.Items.{IsInside, IsLongAs, piece_of_item}
use Rattle.store_laws.specs.Recipes.{StandsFor, own_cells, own_step_cells, recipe_cells}
use Rattle.store_laws.proofs.Denoted.{denoted-append}
use Rattle.store_laws.proofs.PlacesInside.{IsPlace, places_made}
use Rattle.store_laws.proofs.ViewHas.{append_first}

-- ---- lists

-- two lists that are cut at the same length
cut_first : {X : Type 0} (xs ys us vs : List X) → length xs ≡ length us → xs ++ ys ≡ us ++ vs → xs ≡ us
cut_first xs ys us vs long same =
    sym (take-append_seam xs ys) ∙ ap (λ (n : ℕ). take n (xs ++ ys)) long ∙ ap (take (length us)) same ∙ take-append_seam us vs

cut_second : {X : Type 0} (xs ys us vs : List X) → length xs ≡ length us → xs ++ ys ≡ us ++ vs → ys ≡ vs
cut_second xs ys us vs long same =
    sym (drop-append_seam xs ys) ∙ ap (λ (n : ℕ). drop n (xs ++ ys)) long ∙ ap (drop (length us)) same ∙ drop-append_seam us vs

length_map : {X Y : Type 0} (f : X → Y) (xs : List X) → length (map f xs) ≡ length xs
length_map f [] = refl
length_map f (x ∷ xs) = ap suc (length_map f xs)

length_range : (from len : ℕ) → length (range_with_len from len) ≡ len
length_range from zero = refl
length_range from (suc len) = ap suc (length_range (from + 1) len)

-- an item is as long as its piece
abbrev pub IsAsLong : List Piece → Item → Type 0
IsAsLong all item = IsLongAs all item (piece_of_item item)

-- ---- what a recipe gives

module _ (list : List Build) (all : List Piece) (shares : List (Option Share)) (names : List ℕ) (whole after : List (Option Entry)) (number : ℕ) where
  -- a source that was built before and is done has views for its cells
  abbrev pub IsKnown : ℕ → Type 0
  IsKnown name =
      (denoted all shares (source_views names after name) ≡ cells_in list name) × AllByRecursion (IsInside all shares) (source_views names after name)

  abbrev pub AreKnown : Type 0
  AreKnown = (name k : ℕ) → k < number → number_of name names ≡ Some k → is_done_at after k ≡ true → IsKnown name

  module _ (known : AreKnown) where
    append_nil : {X : Type 0} (xs : List X) → xs ++ [] ≡ xs
    append_nil [] = refl
    append_nil (x ∷ xs) = ap (λ (ys : List _). x ∷ ys) (append_nil xs)

    one_view : (view : View) → denoted all shares (view ∷ []) ≡ map (cell_at all shares) (view_cells view)
    one_view view = ap (map (cell_at all shares)) (append_nil (view_cells view))

    at_source : (name off len : ℕ) → StepFits names whole number (Source name off len)
        → (o : Option ℕ) → number_of name names ≡ o → option_map_or (is_done_at after) o true ≡ true → IsKnown name
    at_source name off len fits None at done = absurd (subst (λ (o : Option ℕ). IsSomeAnd o (λ (source : ℕ). (source < number)
        × IsSomeAnd (entry_at whole source) (λ (entry : Entry). off + len ≤ entry.size))) at fits)
    at_source name off len fits (Some k) at done =
        known name k
        (subst (λ (o : Option ℕ). IsSomeAnd o (λ (source : ℕ). (source < number)
        × IsSomeAnd (entry_at whole source) (λ (entry : Entry). off + len ≤ entry.size))) at fits).0 at done

    made : (steps : List Step) (own : List View) → AllByRecursion (StepFits names whole number) steps
        → each_source names (is_done_at after) steps ≡ true → AreOwn steps own
        → denoted all shares own ≡ flat_map (own_step_cells all) steps
        → map (cell_at all shares) (made_cells names after steps own) ≡ recipe_cells list all shares steps
    made [] own fits done are same = refl
    made (Own piece len ∷ steps) [] fits done are same = absurd are
    made (Own piece len ∷ steps) (view ∷ own) fits done are same =
        let parts : denoted all shares (view ∷ []) ++ denoted all shares own ≡ own_cells all piece.0 len ++ flat_map (own_step_cells all) steps =
        sym (denoted-append all shares (view ∷ []) own) ∙ same in
        let long : length (denoted all shares (view ∷ [])) ≡ length (own_cells all piece.0 len) =
        long_as view piece.0 len are.0 in
        let rest = made steps own fits.1 done are.1
        (cut_second (denoted all shares (view ∷ [])) (denoted all shares own) (own_cells all piece.0 len) (flat_map (own_step_cells all) steps) long parts) in
        let first = cut_first (denoted all shares (view ∷ [])) (denoted all shares own) (own_cells all piece.0 len) (flat_map (own_step_cells all) steps) long
        parts in
        map-append (cell_at all shares) (view_cells view) (made_cells names after steps own)
        ∙ ap (λ (front : List Cell). front ++ map (cell_at all shares) (made_cells names after steps own)) (sym (one_view view) ∙ first)
        ∙ ap (λ (back : List Cell). own_cells all piece.0 len ++ back) rest
      where
        long_as : (view : View) (number len : ℕ) → view.len ≡ len → length (denoted all shares (view ∷ [])) ≡ length (own_cells all number len)
        long_as view number len same =
            ap length (one_view view)
            ∙ length_map (cell_at all shares) (view_cells view)
            ∙ length_map (λ (place : ℕ). (view.slot, place)) (range_with_len view.off view.len)
            ∙ length_range view.off view.len ∙ same
            ∙ sym (length_range 0 len) ∙ sym (length_map _ (range_with_len 0 len))
    made (Fixed view ∷ steps) own fits done are same =
        map-append (cell_at all shares) (view_cells view) (made_cells names after steps own)
        ∙ ap (λ (front : List Cell). front ++ map (cell_at all shares) (made_cells names after steps own)) (sym (one_view view))
        ∙ ap (λ (back : List Cell). denoted all shares (view ∷ []) ++ back) (made steps own fits.1 done are same)
    made (Source name off len ∷ steps) own fits done are same =
        let two = and_parts (option_map_or (is_done_at after) (number_of name names) true) (each_source names (is_done_at after) steps) done in
        let is = at_source name off len fits.0 (number_of name names) refl two.0 in
        let taken = take len (drop off (cells (source_views names after name))) in
        map-append (cell_at all shares) taken (made_cells names after steps own)
        ∙ ap (λ (front : List Cell). front ++ map (cell_at all shares) (made_cells names after steps own))
        (sym (take-map (cell_at all shares) len (drop off (cells (source_views names after name))))
        ∙ ap (take len) (sym (drop-map (cell_at all shares) off (cells (source_views names after name))))
        ∙ ap (λ (one : List Cell). take len (drop off one)) is.0)
        ∙ ap (λ (back : List Cell). take len (drop off (cells_in list name)) ++ back) (made steps own fits.1 two.1 are same)

    -- an unfinished entry that misses nothing gives the cells of its blob
    pub given : (blob : List Cell) (entry : Entry) → is_pending entry.status ≡ true → StandsFor list all shares blob entry.status entry
        → AllByRecursion (StepFits names whole number) entry.recipe → each_source names (is_done_at after) entry.recipe ≡ true
        → IfSome entry.own (AreOwn entry.recipe) → misses entry ≡ false → AllByRecursion (IsInside all shares) (held_views entry)
        → (map (cell_at all shares) (made_cells names after entry.recipe (own_views entry.own)) ≡ blob)
        × AllByRecursion (IsPlace (IsAsLong all) shares) (made_cells names after entry.recipe (own_views entry.own))
    given blob entry pending stands fits done own missed inside =
        let held : AllByRecursion (IsInside all shares) (fixed_views entry.recipe ++ own_views entry.own) =
        append_first (IsInside all shares) (fixed_views entry.recipe ++ own_views entry.own) entry.views inside in (
          made entry.recipe (own_views entry.own) fits done (are_own entry.own own missed) (gives entry.status pending stands)
              ∙ cells_of entry.status pending stands,
          places_made (IsAsLong all) shares names whole after number (λ name k below at is. (known name k below at is).1) entry.recipe (own_views entry.own)
              fits done
              (append_second (IsInside all shares) (fixed_views entry.recipe) (own_views entry.own) held)
              (append_first (IsInside all shares) (fixed_views entry.recipe) (own_views entry.own) held),
        )
      where
        no_own : (steps : List Step) → list_any is_own steps ≡ false → AreOwn steps []
        no_own [] none = refl
        no_own (Own piece len ∷ steps) none = absurd (false_true (sym none))
        no_own (Fixed view ∷ steps) none = no_own steps none
        no_own (Source name off len ∷ steps) none = no_own steps none

        no_cells : (steps : List Step) → list_any is_own steps ≡ false → [] ≡ flat_map (own_step_cells all) steps
        no_cells [] none = refl
        no_cells (Own piece len ∷ steps) none = absurd (false_true (sym none))
        no_cells (Fixed view ∷ steps) none = no_cells steps none
        no_cells (Source name off len ∷ steps) none = no_cells steps none

        are_own : (o : Option (List View)) → IfSome o (AreOwn entry.recipe) → (is_none o && list_any is_own entry.recipe) ≡ false
            → AreOwn entry.recipe (own_views o)
        are_own None own missed = no_own entry.recipe missed
        are_own (Some views) own missed = own

        bare : entry.own ≡ None → denoted all shares (own_views entry.own) ≡ flat_map (own_step_cells all) entry.recipe
        bare none =
            ap (λ (o : Option (List View)). denoted all shares (own_views o)) none
            ∙ no_cells entry.recipe (subst (λ (o : Option (List View)). (is_none o && list_any is_own entry.recipe) ≡ false) none missed)

        gives : (status : Status) → is_pending status ≡ true → StandsFor list all shares blob status entry
            → denoted all shares (own_views entry.own) ≡ flat_map (own_step_cells all) entry.recipe
        gives statuses.PendingQuota pending stands = bare stands.2
        gives statuses.PendingTransport pending stands = bare stands.2
        gives statuses.PendingReferencedBlobs pending stands = stands.2
        gives status pending stands = absurd (false_true pending)

        cells_of : (status : Status) → is_pending status ≡ true → StandsFor list all shares blob status entry
            → recipe_cells list all shares entry.recipe ≡ blob
        cells_of statuses.PendingQuota pending stands = stands.0
        cells_of statuses.PendingTransport pending stands = stands.0
        cells_of statuses.PendingReferencedBlobs pending stands = stands.0
        cells_of status pending stands = absurd (false_true pending)
