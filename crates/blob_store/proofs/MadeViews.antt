-- The views that blobs have behind a pass lie inside items, which are there.
use Rattle.std.proofs.Common.{◌≡◌, ℕ, zero, suc, ◌+◌, ◌<◌, ◌≤◌, ◌++◌, refl, Bool, true, false, List, [], Option, Some, None, subst, sym, nat_lt, arith}
use Rattle.std.specs.Prelude.{option_and_then, IfSome, IsSomeAnd}
use Rattle.std.specs.List.{AllByRecursion}
use Rattle.std.specs.Option.{option_map_or}
use Rattle.std.proofs.lemmas.Bool.Decides.{nat_tests}
use Rattle.item_shares.specs.Shares.{item_at}
use Rattle.item_shares.specs.declared.item.Item.{Item}
use Rattle.item_shares.specs.declared.shares.Share.{Share}
use Rattle.blob_items.specs.declared.view.View.{View}
use Rattle.blob_entries.specs.Book.{entry_at, is_done_at}
use Rattle.blob_entries.specs.Contents.{source_views}
use Rattle.blob_entries.specs.Endings.{Ends}
use Rattle.blob_entries.specs.Holdings.{fixed_views, held_views, own_views}
use Rattle.blob_entries.specs.Names.{number_of}
use Rattle.blob_entries.specs.Sound.{AreSound, IsSound}
use Rattle.blob_entries.specs.declared.entry.Entry.{Entry}
use Rattle.blob_model.proofs.Lists.{append_second, for_both, for_each}
use Rattle.store_laws.specs.Items.{item_length}
use Rattle.store_laws.proofs.PassEntries.{completes}
use Rattle.store_laws.proofs.PlacesInside.{places_made, within_places, IsPlace, IsWithin}
use Rattle.store_laws.proofs.ViewHas.{append_first}
use Rattle.blob_store.specs.Blobs.{IsInside, IsThere, Views}
use Rattle.blob_store.proofs.PassedEntry.{by_ending}

module _ (shares : List (Option Share)) where
  -- both at once
  abbrev AreWithin : Entry → Type 0
  AreWithin entry = AllByRecursion (IsWithin IsThere shares) (held_views entry)

  both_of : (entry : Entry) → Views shares entry → AreWithin entry
  both_of entry are =
      for_both (IsInside shares) (λ (view : View). IfSome (item_at shares view.slot) IsThere) (IsWithin IsThere shares) (held_views entry)
      (λ view inside there. by view (item_at shares view.slot) inside there) are.inside are.there
    where
      by : (view : View) (held : Option Item) → IsSomeAnd held (λ (item : Item). view.off + view.len ≤ item_length item) → IfSome held IsThere
          → IsSomeAnd held (λ (item : Item). (view.off + view.len ≤ item_length item) × IsThere item)
      by view None inside there = absurd inside
      by view (Some item) inside there = (inside, there)

  of_both : (entry : Entry) → AreWithin entry → Views shares entry
  of_both entry are = record {
    inside = for_each (IsWithin IsThere shares) (IsInside shares) (held_views entry) (λ view is. inside view (item_at shares view.slot) is) are;
    there = for_each (IsWithin IsThere shares) (λ (view : View). IfSome (item_at shares view.slot) IsThere) (held_views entry)
        (λ view is. there view (item_at shares view.slot) is) are;
  }
    where
      inside : (view : View) (held : Option Item) → IsSomeAnd held (λ (item : Item). (view.off + view.len ≤ item_length item) × IsThere item)
          → IsSomeAnd held (λ (item : Item). view.off + view.len ≤ item_length item)
      inside view None is = absurd is
      inside view (Some item) is = is.0

      there : (view : View) (held : Option Item) → IsSomeAnd held (λ (item : Item). (view.off + view.len ≤ item_length item) × IsThere item)
          → IfSome held IsThere
      there view None is = tt
      there view (Some item) is = is.1

  module _ (names : List ℕ) (before after : List (Option Entry)) (sound : AreSound names before)
      (each : (number : ℕ) → Ends names after (entry_at before number) (entry_at after number)) where
    -- the views of a source are some of its entry's
    source_within : (number : ℕ) → ((k : ℕ) → k < number → IfSome (entry_at after k) AreWithin)
        → (name k : ℕ) → k < number → number_of name names ≡ Some k → is_done_at after k ≡ true
        → AllByRecursion (IsWithin IsThere shares) (source_views names after name)
    source_within number known name k below at done =
        subst (λ (o : Option ℕ). AllByRecursion (IsWithin IsThere shares)
        (option_map_or (λ (entry : Entry). entry.views) (option_and_then (entry_at after) o) [])) (sym at)
        (by (entry_at after k) (known k below))
      where
        by : (held : Option Entry) → IfSome held AreWithin
            → AllByRecursion (IsWithin IsThere shares) (option_map_or (λ (entry : Entry). entry.views) held [])
        by None is = tt
        by (Some entry) is = append_second (IsWithin IsThere shares) (fixed_views entry.recipe ++ own_views entry.own) entry.views is

    within_next : (number : ℕ) → ((k : ℕ) → k < number → IfSome (entry_at after k) AreWithin) → IfSome (entry_at before number) (Views shares)
        → IfSome (entry_at after number) AreWithin
    within_next number known were =
        by (entry_at before number) (sound.each number) were (each number)
      where
        some : (entry : Entry) → IsSound names before number entry → Views shares entry → Ends names after (Some entry) (entry_at after number)
            → IfSome (entry_at after number) AreWithin
        some entry fine were is =
            let all = both_of entry were in
            let held = append_first (IsWithin IsThere shares) (fixed_views entry.recipe ++ own_views entry.own) entry.views all in
            by_ending names before after number entry fine (λ (now : Option Entry). IfSome now AreWithin) (λ at. all)
            (λ views at made. let complete = completes names after entry fine.mark at in
            within_places IsThere shares views
            (subst (λ (pairs : List (ℕ × ℕ)). AllByRecursion (λ (pair : ℕ × ℕ). IsPlace IsThere shares pair) pairs) (sym made)
            (places_made IsThere shares names before after number (source_within number known) entry.recipe (own_views entry.own)
            (fine.steps complete.pending) complete.has_sources
            (append_second (IsWithin IsThere shares) (fixed_views entry.recipe) (own_views entry.own) held)
            (append_first (IsWithin IsThere shares) (fixed_views entry.recipe) (own_views entry.own) held))))
            (λ status at broken. all) (entry_at after number) is

        by : (was : Option Entry) → IfSome was (IsSound names before number) → IfSome was (Views shares) → Ends names after was (entry_at after number)
            → IfSome (entry_at after number) AreWithin
        by None fine were is = subst (λ (now : Option Entry). IfSome now AreWithin) (sym is) tt
        by (Some entry) fine were is = some entry fine were is

    module _ (were : (number : ℕ) → IfSome (entry_at before number) (Views shares)) where
      within_below : (n k : ℕ) → k < n → IfSome (entry_at after k) AreWithin
      within_below zero k below = absurd (omega (arith, below))
      within_below (suc n) k below = pick (within_below n) (nat_lt k n) refl
        where
          pick : ((j : ℕ) → j < n → IfSome (entry_at after j) AreWithin) → (b : Bool) → nat_lt k n ≡ b → IfSome (entry_at after k) AreWithin
          pick known true e = let within : k < n = grind (arith, nat_tests) in known k within
          pick known false e =
              let past : n ≤ k = grind (arith, nat_tests) in
              let same : k ≡ n = omega (arith, past, below) in
              subst (λ (j : ℕ). IfSome (entry_at after j) AreWithin) (sym same) (within_next n known (were n))

      -- each step takes its bytes from own views, from views that stand in the recipe, or from those of a source that was built before
      pub views_made : (number : ℕ) → IfSome (entry_at after number) (Views shares)
      views_made number = by (entry_at after number) (within_below (suc number) number (omega arith))
        where
          by : (now : Option Entry) → IfSome now AreWithin → IfSome now (Views shares)
          by None is = tt
          by (Some entry) is = of_both entry is
