use Rattle.std.proofs.Common.{◌≡◌, ℕ, ◌+◌, ◌*◌, ◌≤◌, ◌^◌, ◌++◌, map, length, sum, take, drop}
use Rattle.blob_model.specs.Parts.{parts_length, own_lengths, own_bytes, embedded, sources, claims}
use Rattle.history_notions.proofs.parts.parts_length.Given as goal

abbrev pub invariant-loop-part : goal.invariant-loop-part
invariant-loop-part l = (l.total ≡ parts_length (take l.part-index l.parts)) × (l.total ≤ l.part-index * 2 ^ 64)
