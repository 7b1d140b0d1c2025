use Rattle.std.proofs.Common.{◌≡◌, ℕ, ◌==◌, false, length}
use Rattle.std.specs.Prelude.{IsSome}
use Rattle.renderer_table.specs.Counted.{origin_at}
use Rattle.renderer_table.specs.Table.{count_of, counts_of, living_of}
use Rattle.store_laws.specs.Roots.{AreRerooted}
use Rattle.blob_store.specs.Whole.{Whole}
use Rattle.blob_store.proofs.parts.Parts.drop_handles.Given as goal

abbrev pub invariant-loop-taken : goal.invariant-loop-taken
invariant-loop-taken l = record {
  whole : Whole l.self;
  same : AreRerooted l.fn.self.registry l.self.registry;
  alive : IsSome (living_of l.renderer.0 l.self.renderers);
  others : (other name : ℕ) → (l.renderer.0 == other) ≡ false → count_of other name l.self.renderers ≡ count_of other name l.fn.self.renderers;
  origins : (other : ℕ) → origin_at other l.self.renderers ≡ origin_at other l.fn.self.renderers;
  spawned : l.self.renderers.spawned ≡ l.fn.self.renderers.spawned;
  many : length l.self.renderers.living ≡ length l.fn.self.renderers.living;
  rest : l.self ≡ record l.fn.self { registry = l.self.registry; renderers = l.self.renderers };
}

abbrev pub decreases-loop-taken : goal.decreases-loop-taken
decreases-loop-taken l = length (counts_of l.renderer.0 l.self.renderers)
