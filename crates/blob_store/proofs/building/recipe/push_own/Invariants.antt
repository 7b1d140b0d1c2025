use Rattle.std.proofs.Common.{◌≡◌, ℕ, ◌+◌, ◌++◌, map}
use Rattle.std.specs.List.{range_with_len}
use Rattle.transport_plan.specs.Spans.{span_at}
use Rattle.store_laws.specs.PartLaws.{own_steps}
use Rattle.blob_store.proofs.building.recipe.push_own.Given as goal

abbrev pub invariant-loop-k : goal.invariant-loop-k
invariant-loop-k l = record {
  steps : l.recipe ≡ l.fn.recipe ++ own_steps l.first (map (λ (k : ℕ). (span_at l.page l.len k).1) (range_with_len 0 l.k));
  next : l.number ≡ l.first + l.k;
}
