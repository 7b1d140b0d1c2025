-- A torn file may be asked to be removed.
use Rattle.std.proofs.Common.{◌≡◌, ℕ, List, Some, None, Option, true, option_and_then, refl, sym, ap, ◌∙◌, subst}
use Rattle.std.specs.Prelude.{IsSomeAnd}
use Rattle.std.specs.Option.{option_map}
use Rattle.blob_words.specs.declared.number.PageNo.{PageNo}
use Rattle.page_volumes.specs.declared.filed.Filed.{Filed}
use Rattle.page_volumes.specs.Seen.{with_count, HasFile, Seen}
use Rattle.page_volumes.specs.Seen as volume
use Rattle.page_volumes.specs.Acts.{CanRemoveAt}
use Rattle.page_volumes.specs.Group.{changed_at, let_go, object_at, seen_by, takes_writes, writer_of, Slot}
use Rattle.page_volumes.proofs.Acted.{same_writer, writer_let_go, writes_seen}
use Rattle.page_volumes.proofs.Goods.{object_after}
use Rattle.page_volumes.proofs.Holding.{torn_has}

module _ (page : PageNo) (count : ℕ) (P : Seen → Type 0) (slots : List Slot) where
  abbrev torn_slots : List Slot
  torn_slots = changed_at (seen_by (λ seen. with_count count (volume.torn page.0 seen))) (writer_of slots) slots

  torn_object : (object : Option Seen) → IsSomeAnd object P → IsSomeAnd (option_map (λ seen. with_count count (volume.torn page.0 seen)) object)
      (λ seen. (seen.write ≡ None) × HasFile page.0 seen)
  torn_object None so = absurd so
  torn_object (Some seen) so = (refl, torn_has page.0 count seen)

  pub failed_removable : IsSomeAnd (object_at slots (writer_of slots)) P → CanRemoveAt page.0 torn_slots (writer_of torn_slots)
  failed_removable so = subst (λ (object : Option Seen). IsSomeAnd object (λ seen. (seen.write ≡ None) × HasFile page.0 seen))
      (sym (object_after (λ seen. with_count count (volume.torn page.0 seen)) slots)) (torn_object (object_at slots (writer_of slots)) so)

  pub cleared_removable : (files : List Filed) (home : Option ℕ) → takes_writes slots ≡ true → IsSomeAnd (object_at slots (writer_of slots)) P
      → CanRemoveAt page.0 (let_go files home torn_slots) (writer_of (let_go files home torn_slots))
  cleared_removable files home writes so = subst (λ (object : Option Seen). IsSomeAnd object (λ seen. (seen.write ≡ None) × HasFile page.0 seen))
      (sym (ap (object_at (let_go files home torn_slots)) (same_writer files home torn_slots) ∙ ap
      (λ found. option_and_then (λ (slot : Slot). slot.object) found)
      (writer_let_go files home torn_slots (writes_seen (λ seen. with_count count (volume.torn page.0 seen)) (writer_of slots) slots ∙ writes))))
      (failed_removable so)
