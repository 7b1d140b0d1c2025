use Rattle.std.proofs.Common.{◌≡◌, ℕ, not, filter}
use Rattle.std.specs.List.{range_with_len}
use Rattle.blob_model.specs.Transport.{has_come}
use Rattle.history_notions.specs.Kept.{arrivals_in}
use Rattle.history_notions.proofs.transport.missing_of.Given as goal

abbrev pub invariant-loop-segment : goal.invariant-loop-segment
invariant-loop-segment l = l.found ≡ filter (λ (segment : ℕ). not (has_come (arrivals_in l.brought l.name) segment)) (range_with_len 0 l.segment)
