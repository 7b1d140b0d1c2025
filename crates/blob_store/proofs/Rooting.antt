-- Who has a handle on a blob has it stand, and what a change of handles makes of their number.
use Rattle.std.proofs.Common.{◌≡◌, ℕ, ◌+◌, ◌<◌, Bool, true, List, [], Option, Some, None, cond, refl, ap, ◌∙◌, arith}
use Rattle.std.specs.Prelude.{is_some, sum_by, IsSomeAnd}
use Rattle.std.specs.Option.{option_map_or}
use Rattle.std.specs.Ordering.{nat_cmp}
use Rattle.std.specs.BTreeMap.{is_at}
use Rattle.std.specs.Map.{lookup, set_value, values_of}
use Rattle.std.proofs.lemmas.Bool.{eq-eqb}
use Rattle.std.proofs.lemmas.Map.Entries.{sum_by-set_value}
use Rattle.blob_entries.specs.Book.{Book, entry_of}
use Rattle.blob_entries.specs.declared.entry.Entry.{Entry}
use Rattle.renderer_table.proofs.Counting.{lookup_written}
use Rattle.renderer_table.specs.Counts.{count_on}
use Rattle.renderer_table.specs.Table.{Table, count_of, counts_of, living_of, with_counts}
use Rattle.renderer_table.specs.declared.living.Living.{Living}
use Rattle.url_store.specs.declared.url.Url.{Url}
use Rattle.store_laws.proofs.Rooted.{within_handles}
use Rattle.blob_store.specs.declared.readers.OpenReader.{OpenReader}
use Rattle.blob_store.specs.Roots.{handles_of, roots_at, roots_in}

-- a blob on which somebody has a handle stands, and has a root
pub rooted : (book : Book) (table : Table) (urls : List (List ℕ × Url)) (readers : List (ℕ × OpenReader)) (id name : ℕ)
    → roots_at book name ≡ roots_in table urls readers name → 0 < count_of id name table
    → IsSomeAnd (entry_of book name) (λ (entry : Entry). 0 < entry.roots)
rooted book table urls readers id name roots some = by (entry_of book name) (omega (arith, roots, within_handles id name table, some))
  where
    by : (held : Option Entry) → 0 < option_map_or (λ (entry : Entry). entry.roots) held 0 → IsSomeAnd held (λ (entry : Entry). 0 < entry.roots)
    by None has = absurd (omega (arith, has))
    by (Some entry) has = has

-- what the counts of one renderer were and are makes the difference
module _ (id : ℕ) (old new : Table) (one : Living) (found : living_of id old ≡ Some one) (counts : List (ℕ × ℕ)) (is : new ≡ with_counts id counts old) where
  abbrev next : Living
  next = record one { counts = counts }

  written : new.living ≡ set_value (is_at (nat_cmp id)) old.living next
  written =
      ap (λ (table : Table). table.living) is
      ∙ ap (λ (held : Option Living). option_map_or
      (λ (each : Living). set_value (is_at (nat_cmp id)) old.living (record each { counts = counts })) held old.living) found

  there : living_of id new ≡ Some next
  there =
      ap (lookup (is_at (nat_cmp id))) written ∙ lookup_written id id next old.living (ap is_some found)
      ∙ ap (λ (b : Bool). cond b (Some next) (living_of id old)) (eq-eqb id id refl)

  pub living_now : is_some (living_of id new) ≡ true
  living_now = ap (λ (held : Option Living). is_some held) there

  pub counts_now : counts_of id new ≡ counts
  counts_now = ap (λ (held : Option Living). option_map_or (λ (each : Living). each.counts) held []) there

  pub handles_moved : (name : ℕ) → handles_of name new + count_of id name old ≡ handles_of name old + count_of id name new
  handles_moved name =
      let weight : Living → ℕ = λ (each : Living). count_on name each.counts in
      let sums = sum_by-set_value weight (is_at (nat_cmp id)) old.living one next found in
      let now = ap (λ (living : List (ℕ × Living)). sum_by weight (values_of living)) written in
      let was = ap (λ (held : Option Living). count_on name (option_map_or (λ (each : Living). each.counts) held [])) found in
      let will = ap (λ (held : Option Living). count_on name (option_map_or (λ (each : Living). each.counts) held [])) there in
      omega (arith, sums, now, was, will)
