-- Numbers in rising order.
use Rattle.std.proofs.lemmas.Bool.Decides.{nat_tests}
use Rattle.std.proofs.Common.{arith, ◌≡◌, ℕ, ◌||◌, true, false, List, [], ◌∷◌, refl, ap}
use Rattle.std.specs.List.{list_any}
use Rattle.std.specs.declared.cmp.Ordering.{Ordering}
use Rattle.std.specs.declared.cmp.Ordering.TheVariants.{Less, Equal, Greater}
use Rattle.std.specs.Ordering.{is_eq, match_ordering, nat_cmp}
use Rattle.std.specs.BTreeMap.{is_at}
use Rattle.std.specs.BTreeSet.{insert_key}
use Rattle.std.specs.Set.{remove_key}

same : (number : ℕ) → is_eq (nat_cmp number number) ≡ true
same number = grind (arith, nat_tests)

-- a number that is put among others and taken out again
pub removed_inserted : (number : ℕ) (numbers : List ℕ) → list_any (is_at (nat_cmp number)) numbers ≡ false → remove_key (is_at (nat_cmp number))
    (insert_key nat_cmp numbers number) ≡ numbers
removed_inserted number [] absent = rw (same number) refl
removed_inserted number (other ∷ numbers) absent = by (nat_cmp number other) refl absent (removed_inserted number numbers)
  where
    by : (r : Ordering) → nat_cmp number other ≡ r → (is_eq r || list_any (is_at (nat_cmp number)) numbers) ≡ false
        → (list_any (is_at (nat_cmp number)) numbers ≡ false → remove_key (is_at (nat_cmp number)) (insert_key nat_cmp numbers number) ≡ numbers)
        → remove_key (is_at (nat_cmp number)) (match_ordering r (number ∷ other ∷ numbers) (other ∷ numbers) (other ∷ insert_key nat_cmp numbers number))
        ≡ other ∷ numbers
    by Less is none rest = rw (same number) refl
    by Equal is none rest = cc
    by Greater is none rest = rw is (ap (λ more. other ∷ more) (rest none))
