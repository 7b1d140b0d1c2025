-- A registry of one blob, which has one view, has room for it.
use Rattle.std.proofs.Common.{◌≡◌, ℕ, zero, suc, ◌+◌, ◌≤◌, List, [], ◌∷◌, ◌++◌, Option, Some, None, length, refl, sym, ap, ◌∙◌, subst, arith}
use Rattle.std.specs.Prelude.{IfSome, slice_index}
use Rattle.std.proofs.lemmas.List.Sums.{sum_by-cons}
use Rattle.blob_items.specs.declared.view.View.{View}
use Rattle.blob_words.specs.declared.number.RendererId.{RendererId}
use Rattle.blob_words.specs.declared.status.Status.{Status}
use Rattle.blob_entries.specs.declared.entry.Entry.{Entry}
use Rattle.blob_entries.specs.declared.step.Step.{Step}
use Rattle.blob_entries.specs.declared.step.Step.TheVariants.{Fixed}
use Rattle.blob_entries.specs.Book.{Book, book_of, entry_at}
use Rattle.blob_entries.specs.Holdings.{held_views}
use Rattle.blob_entries.specs.Weights.{HasRoom, cut_weight, step_weight}
use Rattle.blob_registry.specs.Registering.{new_entry, pushed}

one_room : (name : ℕ) (entry : Entry) → length (held_views entry) + cut_weight (name ∷ []) (1 ∷ []) entry.recipe ≤ 1 → HasRoom (name ∷ []) (Some entry ∷ [])
one_room name entry fits = record {
  weights = 1 ∷ [];
  few = omega arith;
  weighed = by;
}
  where
    by : (number : ℕ) → IfSome (entry_at (Some entry ∷ []) number)
        (λ (one : Entry). length (held_views one) + cut_weight (name ∷ []) (1 ∷ []) one.recipe ≤ slice_index (1 ∷ []) number)
    by zero = fits
    by (suc n) = tt

module _ (name size : ℕ) (owner : RendererId) (kind : List ℕ) (view : View) (first : Status) where
  abbrev made : List Step → Entry
  made recipe = new_entry owner size kind recipe first

  fits : length (held_views (made (Fixed view ∷ []))) + cut_weight (name ∷ []) (1 ∷ []) (Fixed view ∷ []) ≤ 1
  fits =
      let held : held_views (made (Fixed view ∷ [])) ≡ view ∷ [] = refl in
      let weight : cut_weight (name ∷ []) (1 ∷ []) (Fixed view ∷ []) ≡ 0 = sum_by-cons (step_weight (name ∷ []) (1 ∷ [])) (Fixed view) [] in
      omega (arith, ap length held, weight)

  pub first_room : (old new : Book) (empty recipe : List Step) → old ≡ book_of [] [] → empty ≡ [] → recipe ≡ empty ++ Fixed view ∷ []
      → new ≡ pushed old name (made recipe) → HasRoom new.names new.entries
  first_room old new empty recipe none no_step is same =
      let steps : recipe ≡ Fixed view ∷ [] = is ∙ ap (λ (list : List Step). list ++ Fixed view ∷ []) no_step in
      let whole : new ≡ pushed (book_of [] []) name (made (Fixed view ∷ [])) =
      same ∙ ap (λ (book : Book). pushed book name (made recipe)) none ∙ ap (λ (list : List Step). pushed (book_of [] []) name (made list)) steps in
      subst (λ (book : Book). HasRoom book.names book.entries) (sym whole) (one_room name (made (Fixed view ∷ [])) fits)
