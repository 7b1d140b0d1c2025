use Rattle.std.proofs.Common.{◌≡◌, ◌<◌, ℕ, length}
use Rattle.std.specs.Prelude.{slice_index}
use Rattle.blob_registry.proofs.work.none_listed.Given as goal

abbrev pub invariant-loop-number : goal.invariant-loop-number
invariant-loop-number l = record {
  sized : length l.list ≡ l._number;
  none : (number : ℕ) → number < l._number → slice_index l.list number ≡ 1;
}
