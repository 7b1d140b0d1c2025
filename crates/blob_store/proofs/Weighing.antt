-- The weight of what stands under a number, read off the rows.
use Rattle.std.proofs.Common.{◌≡◌, ℕ, zero, suc, true, false, List, [], ◌∷◌, refl, ap, sym, ◌∙◌, Option, Some, None, Bor}
use Rattle.std.specs.Prelude.{is_none, option_and_then, slice_get, slice_index_or}
use Rattle.std.specs.Option.{option_copied, option_map_or}
use Rattle.blob_entries.specs.Book.{entry_at}
use Rattle.blob_entries.specs.Names.{number_of}
use Rattle.blob_entries.specs.declared.entry.Entry.{Entry}
use Rattle.store_laws.specs.Deciding.{weight_in}
use Rattle.store_laws.specs.Rows.{Row as RowSaid}
use Rattle.blob_store.specs.declared.parts.Parts.{Parts}
use Rattle.blob_store.specs.declared.row.Row.{Row}
use Rattle.blob_store.specs.Seen.{parts_of, rows_beside}

abbrev weighs : Option RowSaid → ℕ
weighs found = option_map_or (λ (row : RowSaid). row.weight) found 0

unheld : (entries : List (Option Entry)) (rows : List Row) (n : ℕ) → is_none (entry_at entries n) ≡ true
    → weighs (slice_index_or (rows_beside entries rows) n None) ≡ 0
unheld [] rows n e = refl
unheld (held ∷ entries) [] n e = refl
unheld (None ∷ entries) (row ∷ rows) zero e = refl
unheld (Some entry ∷ entries) (row ∷ rows) zero e = absurd (cc e)
unheld (held ∷ entries) (row ∷ rows) (suc n) e = unheld entries rows n e

kept : (entries : List (Option Entry)) (rows : List Row) (n : ℕ) → is_none (entry_at entries n) ≡ false
    → weighs (slice_index_or (rows_beside entries rows) n None) ≡ option_map_or (λ (row : Row). row.weight) (slice_get rows n) 0
kept [] rows n e = absurd (cc e)
kept (held ∷ entries) [] n e = refl
kept (None ∷ entries) (row ∷ rows) zero e = absurd (cc e)
kept (Some entry ∷ entries) (row ∷ rows) zero e = refl
kept (held ∷ entries) (row ∷ rows) (suc n) e = kept entries rows n e

pub copied_none : (result : Option (Bor Entry)) → is_none (option_copied result) ≡ is_none result
copied_none None = refl
copied_none (Some held) = refl

module _ (parts : Parts) (name number : ℕ) (at : number_of name parts.registry.names ≡ Some number) where
  found : weight_in (parts_of parts) name ≡ weighs (slice_index_or (rows_beside parts.registry.entries parts.rows) number None)
  found =
      ap (λ (one : Option ℕ).
      weighs (option_and_then (λ (n : ℕ). slice_index_or (rows_beside parts.registry.entries parts.rows) n None) one)) at

  pub unheld_weight : is_none (entry_at parts.registry.entries number) ≡ true → 0 ≡ weight_in (parts_of parts) name
  unheld_weight none = sym (found ∙ unheld parts.registry.entries parts.rows number none)

  pub kept_weight : is_none (entry_at parts.registry.entries number) ≡ false
      → option_map_or (λ (row : Row). row.weight) (slice_get parts.rows number) 0 ≡ weight_in (parts_of parts) name
  kept_weight there = sym (found ∙ kept parts.registry.entries parts.rows number there)
