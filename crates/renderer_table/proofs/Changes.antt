-- What a write of a renderer's counts leaves of the others.
use Rattle.std.proofs.Common.{◌≡◌, ℕ, Bool, true, false, cond, List, [], ◌∷◌, Some, None, Option, refl, ap}
use Rattle.std.specs.Prelude.{Result, Ok, Err, OnErr, OnOk}
use Rattle.std.specs.Option.{option_map_or}
use Rattle.std.specs.Ordering.{nat_cmp}
use Rattle.std.specs.Map.{lookup, remove_entry, set_value}
use Rattle.std.specs.BTreeMap.{is_at}
use Rattle.renderer_table.specs.declared.living.Living.{Living}
use Rattle.renderer_table.specs.Table.{counted_in}

-- the one that is written goes as the one that was there
removed_written : {V : Type 0} (test : ℕ → Bool) (entries : List (ℕ × V)) (value : V) → remove_entry test (set_value test entries value)
    ≡ remove_entry test entries
removed_written test [] value = refl
removed_written test (entry ∷ entries) value =
    (elim (test entry.0) as (λ t. test entry.0 ≡ t → remove_entry test (cond t ((entry.0, value) ∷ entries) (entry ∷ set_value test entries value))
    ≡ cond t entries (entry ∷ remove_entry test entries)) [
      | true ↦ λ is. rw is refl
      | false ↦ λ is. rw is (ap (λ more. entry ∷ more) (removed_written test entries value))
    ]) refl

by : (id : ℕ) (counts : List (ℕ × ℕ)) (living : List (ℕ × Living)) (found : Option Living)
    → remove_entry (is_at (nat_cmp id)) (option_map_or (λ one. set_value (is_at (nat_cmp id)) living (record one { counts = counts })) found living)
    ≡ remove_entry (is_at (nat_cmp id)) living
by id counts living None = refl
by id counts living (Some one) = removed_written (is_at (nat_cmp id)) living (record one { counts = counts })

-- whatever counts a renderer has, without it the others are left
pub removed_counted : (id : ℕ) (counts : List (ℕ × ℕ)) (living : List (ℕ × Living)) → remove_entry (is_at (nat_cmp id)) (counted_in id counts living)
    ≡ remove_entry (is_at (nat_cmp id)) living
removed_counted id counts living = by id counts living (lookup (is_at (nat_cmp id)) living)

-- what holds after a fault, and what follows from it
pub on_err : {T E P Q : Type 0} (result : Result T E) → (P → Q) → OnErr result P → OnErr result Q
on_err (Ok value) follows holds = holds
on_err (Err fault) follows holds = follows holds

-- and after a success
pub on_ok : {T E P Q : Type 0} (result : Result T E) → (P → Q) → OnOk result P → OnOk result Q
on_ok (Ok value) follows holds = follows holds
on_ok (Err fault) follows holds = holds
