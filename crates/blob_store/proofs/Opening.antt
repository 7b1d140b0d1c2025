-- A reader comes, and a reader goes.
use Rattle.std.proofs.Common.{◌≡◌, ℕ, ◌+◌, List, [], ◌∷◌, Option, Some, None, length, refl, ap, ◌∙◌, arith}
use Rattle.std.specs.Prelude.{cond, is_some, sum_by, unwrap_or}
use Rattle.std.specs.Option.{option_map, option_map_or}
use Rattle.std.specs.List.Sorted.{IsStrictlySortedBy}
use Rattle.std.specs.Ordering.{nat_cmp}
use Rattle.std.specs.BTreeMap.{insert_entry, is_at}
use Rattle.std.specs.Map.{keys_of, remove_entry, values_of}
use Rattle.std.proofs.lemmas.Cmp.{nat_cmp_total}
use Rattle.std.proofs.lemmas.List.Sums.{sum_by-cons}
use Rattle.std.proofs.lemmas.Map.Entries.{sum_by-insert_entry, sum_by-remove_entry}
use Rattle.renderer_table.proofs.Lookups.{lookup_inserted}
use Rattle.renderer_table.proofs.Counting.{lookup_removed}
use Rattle.blob_store.specs.declared.readers.OpenReader.{OpenReader}
use Rattle.blob_store.specs.Readers.{reader_at, reads, Closes, Opens}

abbrev Open : Type 0
Open = List (ℕ × OpenReader)

-- how many entries there are, as a sum over their values
counted : (list : Open) → sum_by (λ (reader : OpenReader). 1) (values_of list) ≡ length list
counted [] = refl
counted (one ∷ list) = omega (arith, sum_by-cons (λ (reader : OpenReader). 1) one.1 (values_of list), counted list)

weight_or : (weight : OpenReader → ℕ) (held : Option OpenReader) → unwrap_or (option_map weight held) 0 ≡ option_map_or weight held 0
weight_or weight None = refl
weight_or weight (Some reader) = refl

one_or : (held : Option OpenReader) → ◌≡◌ {A = ℕ} (option_map_or (λ (reader : OpenReader). 1) held 0) (cond (is_some held) 1 0)
one_or None = refl
one_or (Some reader) = refl

pub opens : (number : ℕ) (reader : OpenReader) (old new : Open) → IsStrictlySortedBy nat_cmp (keys_of old) → reader_at number old ≡ None
    → new ≡ insert_entry nat_cmp old number reader → Opens number reader old new
opens number reader old new sorted none is = record {
  each = λ other. ap (reader_at other) is ∙ lookup_inserted other number reader old;
  many = let more = added (λ (one : OpenReader). 1) in omega (arith, more, counted new, counted old);
  reading = λ name. added (reads name);
}
  where
    added : (weight : OpenReader → ℕ) → sum_by weight (values_of new) ≡ sum_by weight (values_of old) + weight reader
    added weight =
        let nothing : unwrap_or (option_map weight (reader_at number old)) 0 ≡ 0 = ap (λ (o : Option OpenReader). unwrap_or (option_map weight o) 0) none in
        let sums = sum_by-insert_entry weight nat_cmp_total old number reader sorted in
        let same : sum_by weight (values_of new) ≡ sum_by weight (values_of (insert_entry nat_cmp old number reader)) =
        ap (λ (list : Open). sum_by weight (values_of list)) is in
        omega (arith, nothing, sums, same)

pub closes : (number : ℕ) (old new : Open) → IsStrictlySortedBy nat_cmp (keys_of old) → new ≡ remove_entry (is_at (nat_cmp number)) old
    → Closes number old new
closes number old new sorted is = record {
  each = λ other. ap (reader_at other) is ∙ lookup_removed other number old sorted;
  many = let less = left (λ (one : OpenReader). 1) in omega (arith, less, counted new, counted old, one_or (reader_at number old));
  reading = λ name. left (reads name);
}
  where
    left : (weight : OpenReader → ℕ) → sum_by weight (values_of new) + option_map_or weight (reader_at number old) 0 ≡ sum_by weight (values_of old)
    left weight =
        let sums = sum_by-remove_entry weight (is_at (nat_cmp number)) old in
        let same : sum_by weight (values_of new) ≡ sum_by weight (values_of (remove_entry (is_at (nat_cmp number)) old)) =
        ap (λ (list : Open). sum_by weight (values_of list)) is in
        omega (arith, sums, same, weight_or weight (reader_at number old))
