use Rattle.std.proofs.Common.{◌≡◌, ℕ, ◌-◌, ◌==◌, cond}
use Rattle.store_laws.specs.Roots.{AreRerooted}
use Rattle.blob_store.specs.Roots.{roots_at}
use Rattle.blob_store.proofs.lines.die.let_go_times.Given as goal

abbrev pub invariant-loop-done : goal.invariant-loop-done
invariant-loop-done l = record {
  same : AreRerooted l.fn.registry l.registry;
  roots : (other : ℕ) → roots_at l.registry other ≡ cond (l.name == other) (roots_at l.fn.registry other - l.done) (roots_at l.fn.registry other);
}
