use Rattle.std.proofs.Common.{◌≡◌, ◌≤◌, not, take}
use Rattle.std.specs.Prelude.{count_by}
use Rattle.page_volumes.proofs.places.Places.is_one_of_several.Given as goal

-- how many of the places so far take writes
abbrev pub invariant-loop-place : goal.invariant-loop-place
invariant-loop-place g l = record {
  value : l.writers ≡ count_by (λ place. not place.is_retired) (take l.place-index l.self.items.items);
  small : l.writers ≤ l.place-index;
}
